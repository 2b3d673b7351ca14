-- An operation of the block that a processor has open at its own node.
use Rattle.std.proofs.Common.{◌≡◌, ◌≢◌, ◌⊎◌, inl, inr, ℕ, suc, ◌+◌, ◌<◌, ◌≤◌, ◌==◌, Bool, true, false, List, [], ◌∷◌, Option, None, Some, refl, sym, ap, ◌∙◌, subst, arith, if◌then◌else◌}
use Rattle.std.specs.Prelude.{map, nat_lt, ◌&&◌, IfSome}
use Rattle.std.proofs.lemmas.Bool.{cases_eq, eq-eqb, ne_eqb}
use Rattle.dsm_words.specs.declared.item.Item.TheVariants.{Turn}
use Rattle.dsm_words.specs.Script.{Act, item_of}
use Rattle.dsm_words.specs.Words.{word, done, left_in}
use Rattle.dsm_clock.specs.declared.turns.TurnId.{TurnId}
use Rattle.dsm_clock.specs.declared.turns.TurnId.TheVariants.{Page, Notices}
use Rattle.dsm_protocol.specs.Own.{Own, node_of}
use Rattle.dsm_protocol.specs.Stages.{Stage, Round, Work, On, stage_turn}
use Rattle.dsm_copies.specs.Modes.{Mode, op_mode}
use Rattle.dsm_copies.specs.Copies as W
use Rattle.dsm_copies.specs.Counts.{Count, count}
use Rattle.dsm_copies.specs.Premises.{Premise, Values}
use Rattle.dsm_copies.specs.Debts.{Debts, AsksOf}
use Rattle.dsm_owners.specs.Stages as O
use Rattle.dsm_owners.proofs.Facts.{AtTurn}
use Rattle.dsm_ties.specs.Views.{stage_view, view, home_in}
use Rattle.dsm_fresh.specs.Pages as S
use Rattle.dsm_copies.specs.Joining.{onto}
use Rattle.dsm_debts.specs.Page as P
use Rattle.dsm_debts.specs.Joining.{Move, At, AgreesAt, event_at, has_flushed}
use Rattle.dsm_releases.specs.Events as R
use Rattle.dsm_twoway.specs.Views.{plain, mode_view, block}
use Rattle.dsm_twoway.specs.Events.{place_of}
use Rattle.dsm_twoway.specs.Tied.{rest_of, is_beginning, is_copied, Words, Counted}
use Rattle.dsm_twoway.proofs.Scene.{Scene, place, pages_left, fresh_left, Acted, Meets}
use Rattle.dsm_twoway.proofs.Frame.{by_events, by_none, on_knows, other_knows, numbers_stay, quiet_row}
use Rattle.dsm_twoway.proofs.Changes.{IsPart, words_stay, part_stays}
use Rattle.dsm_twoway.proofs.Numbers.{AllQuiet}
use Rattle.dsm_twoway.proofs.Ops.{mode_behind}

-- what the comparison of two words says
pub below : (k n : ℕ) → nat_lt k n ≡ true → k < n
below k n e = grind arith

pub above : (k n : ℕ) → nat_lt k n ≡ false → n ≤ k
above k n e = grind arith

-- a block of operations at another word; at the word; and past it
pub block_other : (i e : ℕ) (b c c' d : Mode) → e ≢ i → block i e b c d ≡ block i e b c' d
block_other i e b c c' d ne = go (nat_lt e i)
  where
    go : (z : Bool) → (if z then b else (if e == i then c else d)) ≡ (if z then b else (if e == i then c' else d))
    go true = refl
    go false = rw (ne_eqb e i ne) refl

pub block_here : (i e : ℕ) (b c d : Mode) → e ≡ i → block i e b c d ≡ c
block_here i e b c d is = go (nat_lt e i) refl
  where
    go : (z : Bool) → nat_lt e i ≡ z → (if z then b else (if e == i then c else d)) ≡ c
    go true w = let l = below e i w in absurd (omega (arith, l, is))
    go false w = rw (eq-eqb e i is) refl

pub block_behind : (i e : ℕ) (b c d : Mode) → e ≡ i → block i (e + 1) b c d ≡ d
block_behind i e b c d is = go (nat_lt (e + 1) i) refl
  where
    go : (z : Bool) → nat_lt (e + 1) i ≡ z → (if z then b else (if e + 1 == i then c else d)) ≡ d
    go true w = let l = below (e + 1) i w in absurd (omega (arith, l, is))
    go false w = rw (ne_eqb (e + 1) i (λ z. absurd (omega (arith, z, is)))) refl

pub block_past : (i e : ℕ) (b c d : Mode) → e ≢ i → block i (e + 1) b b d ≡ block i e b c d
block_past i e b c d ne = go (nat_lt e i) (nat_lt (e + 1) i) refl refl
  where
    go : (z w : Bool) → nat_lt e i ≡ z → nat_lt (e + 1) i ≡ w → (if w then b else (if e + 1 == i then b else d)) ≡ (if z then b else (if e == i then c else d))
    go true true v v' = refl
    go true false v v' = let l = below e i v in let l' = above (e + 1) i v' in rw (eq-eqb (e + 1) i (omega (arith, l, l'))) refl
    go false true v v' = let l = above e i v in let l' = below (e + 1) i v' in absurd (omega (arith, l, l'))
    go false false v v' = let l = above e i v in rw (ne_eqb e i ne) (rw (ne_eqb (e + 1) i (λ z. absurd (omega (arith, l, z)))) refl)

-- an operation is asked nothing
pub op_asks : (place : ℕ → Option ℕ) (x : W.State) (c : Count) (d : Debts) (n : ℕ) (r : Premise) → AsksOf place r x c d (W.Op n)
op_asks place x c d n Values = tt
op_asks place x c d n r = tt

-- the node of a turn
abbrev pub turn_node : Option TurnId → ℕ
turn_node (Some (Page n g)) = n
turn_node (Some (Notices n)) = n
turn_node None = 0

-- a place away from the home, and the home
pub place_away : (h n : ℕ) → n ≢ h → place_of h n ≡ Some n
place_away h n ne = rw (ne_eqb n h ne) refl

pub place_home : (h n : ℕ) → n ≡ h → place_of h n ≡ None
place_home h n e = rw (eq-eqb n h e) refl

module _ (s : Scene) where
  -- a move where its condition is so
  pub pick_move : {v : Work} {ws' : List ℕ} {es : (m n : ℕ) → List S.Event} (k : Option ℕ) (w : ℕ) (e : P.Event) (d : Bool) → (d ≡ true → Acted s v ws' es (At k w e ∷ [])) → (d ≡ false → Acted s v ws' es []) → Acted s v ws' es (map (At k w) (R.only d e))
  pick_move k w e true yes' no' = yes' refl
  pick_move k w e false yes' no' = no' refl

  -- what the directory's state says of the node whose turn it holds
  pub at_turn : (z : O.Stage) (j : ℕ) → (s.b.processors s.u.p).stage ≡ z → O.held (node_of s.u) z ≡ suc j → AtTurn s.u.lay.nodes s.b.home (node_of s.u) j (s.b.nodes j) z
  at_turn z j e h = let f = s.holds.fits j s.u.p in subst (λ z. AtTurn s.u.lay.nodes s.b.home (node_of s.u) j (s.b.nodes j) z) e (f.at_turn (f.turn_is (ap (O.held (node_of s.u)) e ∙ h)))

  -- a node with a twin is not the home
  pub twin_away : (s.b.nodes (node_of s.u)).twined ≡ true → s.b.home ≡ suc s.h → node_of s.u ≢ s.h
  twin_away twined home e = let w = (s.holds.good (node_of s.u)).home_bare (home ∙ ap suc (sym e)) in absurd (cc (sym twined ∙ w.0))

  module _ {r : Round} {k : ℕ} {z : Stage} {o : Own} {a : Act} {y : ℕ} where
    -- the directory's stage of it
    pub stage_is : Meets s (On r k z) o a y → k ≡ s.g → (s.b.processors s.u.p).stage ≡ stage_view s.u z
    stage_is f d = f.here.owns.at ∙ same
      where
        same : view s.u s.g (On r k z) ≡ stage_view s.u z
        same = rw (eq-eqb k s.g d) refl

    -- the home that it has found is the page's
    pub home_found : Meets s (On r k z) o a y → k ≡ s.g → (h : ℕ) → home_in z ≡ Some h → h ≡ s.h
    home_found f d h e = go s.home
      where
        found : s.b.home ≡ suc h
        found = subst (λ w. IfSome w (λ l. s.b.home ≡ suc l)) e (f.here.owns.homes d)

        go : (s.b.home ≡ 0) ⊎ (s.b.home ≡ suc s.h) → h ≡ s.h
        go (inl w) = absurd (cc (sym w ∙ found))
        go (inr w) = let x = sym w ∙ found in omega (arith, x)

    -- who holds the turn of its own node's copy knows what is open there
    pub open_here : Meets s (On r k z) o a y → k ≡ s.g → node_of s.u ≢ s.h → stage_turn s.u k z ≡ Some (Page (node_of s.u) k) → plain (s.x.nodes (node_of s.u)).mode ≡ mode_view s.i (rest_of s.h s.g s.i s.u s.ws (node_of s.u)) (has_flushed (s.pages (Some (node_of s.u))).page.work) z
    open_here f here away tu = f.here.knows.mode (node_of s.u) (s.at.node_in, away) (tu ∙ ap (λ w. Some (Page (node_of s.u) w)) here) here

    -- and its turn's word has its number
    pub turn_held : Meets s (On r k z) o a y → k ≡ s.g → stage_turn s.u k z ≡ Some (Page (node_of s.u) k) → word s.u.lay s.ws (Turn (node_of s.u) s.g) ≢ 0
    turn_held f here tu e = let d = f.turn (Page (node_of s.u) s.g) (s.at.node_in, s.g_in) (tu ∙ ap (λ w. Some (Page (node_of s.u) w)) here) in absurd (cc (sym e ∙ d))

  module _ {r : Round} {k : ℕ} {z t : Stage} {o : Own} {a : Act} {y : ℕ} where
    -- a row on another page
    pub other_row : (es : (m n : ℕ) → List S.Event) → Meets s (On r k z) o a y → k ≢ s.g → (IsPart s (item_of a) → k ≡ s.g) → ((m n : ℕ) → AllQuiet (es m n)) → Acted s (On r k t) (done s.u.lay s.ws a) es []
    other_row es f ne part quiet = by_none s {es = es} [] tt (record { words = words_stay s a f.within (part_stays s a f.within (λ i. absurd (ne (part i)))); counted = numbers_stay s es quiet }) (other_knows s (done s.u.lay s.ws a) (fresh_left s es) s.pages s.x s.c r k t ne)

    -- one operation of that block, by a move at the node
    pub own_op : (es : (m n : ℕ) → List S.Event) (e : P.Event) (v : Mode) → node_of s.u ≢ s.h → plain (s.x.nodes (node_of s.u)).mode ≡ v → ((w : P.Work) → event_at (Some (node_of s.u)) w 0 e ≡ Some (W.Op (node_of s.u))) → AgreesAt (place s) (Some (node_of s.u)) s.x e
        → Meets s (On r k z) o a y → Words s.h s.g s.i s.u (done s.u.lay s.ws a) (W.after_event (place s) s.x (W.Op (node_of s.u))) → Counted s.h s.u (fresh_left s es) (count s.x (W.Op (node_of s.u)) s.c)
        → stage_turn s.u k t ≡ Some (Page (node_of s.u) k) → ((rest : Mode) (d : Bool) → plain (op_mode s.x.master 0 (s.x.nodes (node_of s.u)).frame (s.x.nodes (node_of s.u)).twin v) ≡ mode_view s.i rest d t) → is_copied t ≡ false → is_beginning t ≡ false
        → Acted s (On r k t) (done s.u.lay s.ws a) es (At (Some (node_of s.u)) 0 e ∷ [])
    own_op es e v away is event agrees f words counted tu next copied beginning =
        let n : ℕ = node_of s.u in
        let ms : List Move = At (Some n) 0 e ∷ [] in
        by_events s {es = es} ms (W.Op n ∷ []) (ap (λ (q : Option W.Event). onto q []) (event (s.pages (Some n)).page.work)) (agrees, tt) ((λ r' i. op_asks (place s) s.x s.c s.d n r'), tt)
        (record { words = words; counted = counted })
        (on_knows s (done s.u.lay s.ws a) (fresh_left s es) (pages_left s ms) (W.after_event (place s) s.x (W.Op n)) (count s.x (W.Op n) s.c) r k t copied beginning
        (λ j at d tu'. let same : n ≡ j = ap turn_node (sym tu ∙ tu') in
        subst (λ q. plain ((W.after_event (place s) s.x (W.Op n)).nodes q).mode ≡ mode_view s.i (rest_of s.h s.g s.i s.u (done s.u.lay s.ws a) q) (has_flushed (pages_left s ms (Some q)).page.work) t) same
        (mode_behind s a f.within n (s.at.node_in, away) v is ∙ next (rest_of s.h s.g s.i s.u (done s.u.lay s.ws a) n) (has_flushed (pages_left s ms (Some n)).page.work))))

    -- Such an operation where the page, the word and the node are the move's; else the word is none of it, and the same is open behind it.
    pub own_word : (es : (m n : ℕ) → List S.Event) (ev : P.Event) (e : ℕ) → Meets s (On r k z) o a y → (IsPart s (item_of a) → k ≡ s.g) → ((k ≡ s.g → e ≡ s.i → ⊥) → IsPart s (item_of a) → left_in a (word s.u.lay s.ws (item_of a)) ≡ word s.u.lay s.ws (item_of a)) → ((m n : ℕ) → AllQuiet (es m n))
        → stage_turn s.u k t ≡ stage_turn s.u k z → is_copied t ≡ false → is_beginning t ≡ false → (e ≢ s.i → (rest : Mode) (d d' : Bool) → mode_view s.i rest d' t ≡ mode_view s.i rest d z)
        → (k ≡ s.g → node_of s.u ≢ s.h) → (k ≡ s.g → e ≡ s.i → node_of s.u ≢ s.h → Acted s (On r k t) (done s.u.lay s.ws a) es (At (Some (node_of s.u)) 0 ev ∷ []))
        → Acted s (On r k t) (done s.u.lay s.ws a) es (map (At (place_of s.h (node_of s.u)) 0) (R.only ((k == s.g && node_of s.u == node_of s.u) && e == s.i) ev))
    own_word es ev e f page part quiet tu copied beginning same away here = go (cases_eq k s.g) (cases_eq e s.i)
      where
        all : (d d' d'' : Bool) → d ≡ true → d' ≡ true → d'' ≡ true → ((d && d') && d'') ≡ true
        all d d' d'' p q w = rw p (rw q w)

        none : (d d' d'' : Bool) → (d ≡ false) ⊎ (d'' ≡ false) → ((d && d') && d'') ≡ false
        none false d' d'' w = refl
        none true true d'' (inl w) = absurd (cc w)
        none true true d'' (inr w) = w
        none true false d'' w = refl

        made : ((k == s.g && node_of s.u == node_of s.u) && e == s.i) ≡ true → node_of s.u ≢ s.h → Acted s (On r k t) (done s.u.lay s.ws a) es (At (Some (node_of s.u)) 0 ev ∷ []) → Acted s (On r k t) (done s.u.lay s.ws a) es (map (At (place_of s.h (node_of s.u)) 0) (R.only ((k == s.g && node_of s.u == node_of s.u) && e == s.i) ev))
        made c at x = rw c (rw (place_away s.h (node_of s.u) at) x)

        empty : ((k == s.g && node_of s.u == node_of s.u) && e == s.i) ≡ false → Acted s (On r k t) (done s.u.lay s.ws a) es [] → Acted s (On r k t) (done s.u.lay s.ws a) es (map (At (place_of s.h (node_of s.u)) 0) (R.only ((k == s.g && node_of s.u == node_of s.u) && e == s.i) ev))
        empty c x = rw c x

        go : (k ≡ s.g) ⊎ (k ≢ s.g) → (e ≡ s.i) ⊎ (e ≢ s.i) → Acted s (On r k t) (done s.u.lay s.ws a) es (map (At (place_of s.h (node_of s.u)) 0) (R.only ((k == s.g && node_of s.u == node_of s.u) && e == s.i) ev))
        go (inr ne) w = empty (none (k == s.g) (node_of s.u == node_of s.u) (e == s.i) (inl (ne_eqb k s.g ne))) (other_row es f ne page quiet)
        go (inl d) (inl w) = made (all (k == s.g) (node_of s.u == node_of s.u) (e == s.i) (eq-eqb k s.g d) (eq-eqb (node_of s.u) (node_of s.u) refl) (eq-eqb e s.i w)) (away d) (here d w (away d))
        go (inl d) (inr w) = empty (none (k == s.g) (node_of s.u == node_of s.u) (e == s.i) (inr (ne_eqb e s.i w))) (quiet_row s {r = r} {k = k} {z = z} {t = t} es [] f (part (λ _ x. w x)) tt quiet tu (same w) copied beginning)
