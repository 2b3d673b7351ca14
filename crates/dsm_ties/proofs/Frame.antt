-- What each row of the table is to give for its page, and what all rows need for it.
use Rattle.std.proofs.Common.{◌≡◌, ◌≢◌, ◌⊎◌, inl, inr, ℕ, suc, ◌+◌, ◌/◌, ◌<◌, ◌==◌, Bool, true, false, List, [], ◌∷◌, length, None, refl, sym, ap, ◌∙◌, subst, arith}
use Rattle.std.specs.Prelude.{not, IfSome, ◌||◌, bit_or, ◌^◌, slice_index}
use Rattle.std.specs.Int.{bit_at}
use Rattle.std.proofs.lemmas.Nat.Bits.{bit_at-zero, bit_at_or, bit_at-pow_same, bit_at-pow_other, bit_at-lt}
use Rattle.std.proofs.lemmas.Bool.{cases_eq, eq-eqb, ne_eqb}
use Rattle.dsm_words.specs.declared.item.Item.{Item}
use Rattle.dsm_words.specs.declared.item.Item.TheVariants.{Frame, Twin, Twined, Map, Dir, Update, Turn, Nle, Clock, Home, Own as OwnWord, Global}
use Rattle.dsm_words.specs.Place.{IsWithin, total}
use Rattle.dsm_words.specs.Pages.{group_of, has_page}
use Rattle.dsm_words.specs.Script.{Act, Get, Put, Change, item_of}
use Rattle.dsm_words.specs.Words.{word, done, told}
use Rattle.dsm_words.proofs.WordLaws.{word_same, word_other}
use Rattle.dsm_clock.specs.declared.turns.TurnId.{TurnId}
use Rattle.dsm_clock.specs.Turns.{turn_item}
use Rattle.dsm_directory.specs.Directory.{is_busy}
use Rattle.dsm_protocol.specs.Own.{Own, Who, node_of}
use Rattle.dsm_protocol.specs.Jobs.{Note, own_after}
use Rattle.dsm_protocol.specs.Stages.{Stage, Round, Told, Work, On}
use Rattle.dsm_protocol.specs.Rows.{Step, Wins, Slip, Noted}
use Rattle.dsm_protocol.proofs.Placed.{IsPlaced, group_in}
use Rattle.dsm_owners.specs.Stages as O
use Rattle.dsm_owners.specs.Acts as A
use Rattle.dsm_owners.specs.Directory as D
use Rattle.dsm_owners.specs.Directory.{Node, Processor as Reader, State, Event, Do, after_event, after}
use Rattle.dsm_owners.specs.Premises.{Asks, Runs, heard}
use Rattle.dsm_owners.proofs.Keeps.{Holds}
use Rattle.dsm_ties.specs.Views.{stage_view, view, home_in, time_in, told_in, is_soiling, IsMet}
use Rattle.dsm_ties.specs.Events.{step_events, win_events, slip_events}
use Rattle.dsm_ties.specs.Tied.{bit, has_bit, Knows, Match}
use Rattle.dsm_ties.proofs.Acting.{after_read, put_dir, put_twined, put_update, put_turn, put_map, knows_next}

-- the page's items, and those of its group
abbrev pub IsOf : ℕ → Item → Type 0
IsOf g (Home h) = h ≡ g
IsOf g (Dir n h) = h ≡ g
IsOf g (Twined n h) = h ≡ g
IsOf g (Update n h) = h ≡ g
IsOf g (Turn n h) = h ≡ g
IsOf g (Map q h) = h ≡ g
IsOf g (Nle q k) = k ≡ group_of g
IsOf g (Global n j k) = k ≡ group_of g
IsOf g (OwnWord q k) = k ≡ group_of g
IsOf g it = ⊥

-- the answer is what was there, but for the load of a frame or a twin, which may have any
abbrev pub Answers : Act → ℕ → ℕ → Type 0
Answers (Get (Frame n g i)) x v = Unit {0}
Answers (Get (Twin n g i)) x v = Unit {0}
Answers a x v = x ≡ told a v

-- a load changes no word
pub done_get : (u : Who) (ws : List ℕ) (it : Item) → done u.lay ws (Get it) ≡ ws
unfolding done
done_get u ws it = refl

module _ (u : Who) (at : IsPlaced u) (g : ℕ) (g_in : g < u.lay.pages) (ws : List ℕ) (long : length ws ≡ total u.lay) (b : State) (m : Match u g ws b) where
  abbrev pub node : ℕ → ℕ
  node q = q / u.lay.procs

  abbrev pub top : ℕ
  top = u.lay.nodes

  abbrev pub n : ℕ
  n = node_of u

  abbrev pub x : Node
  x = b.nodes n

  abbrev pub y : Reader
  y = b.processors u.p

  abbrev pub Now : Work → Own → Type 0
  Now w o = Knows u g b.home x y w o

  -- what is to be shown of a row: the premises of its events, and that what they lead to is so
  pub record Acted (o : Own) (w : Work) (ws' : List ℕ) (es : List Event) : Type 0 where
    pub runs : Runs top node b es
    pub match : Match u g ws' (after node b es)
    pub knows : Knows u g (after node b es).home ((after node b es).nodes n) ((after node b es).processors u.p) w o

  -- what is so where a row comes
  pub record Meets (o : Own) (a : Act) (v : ℕ) : Type 0 where
    pub within : IsWithin u.lay (item_of a)
    pub told : Answers a v (word u.lay ws (item_of a))
    pub own : word u.lay ws (Map u.p g) ≡ slice_index o.maps g
    pub clocks : (k : ℕ) → k < u.lay.nodes → word u.lay ws (Clock k) ≢ 0
    pub holds : Holds top node b

  -- what each row of page g gives; each turn that is won, and each decision; and each note
  abbrev pub RowActs : (o : Own) {w v : Work} {a : Act} {z : ℕ} → Step u o.maps o.dirty w a z v → Type 0
  RowActs o {w} {v} {a} {z} step = Meets o a z → Now w o → Acted o v (done u.lay ws a) (step_events u step)

  abbrev pub WinActs : (o : Own) {w v : Work} {t : TurnId} → Wins u o.maps o.dirty w t v → Type 0
  WinActs o {w} {v} {t} win = Meets o (Change (turn_item t) 0 (u.p + 1)) 0 → Now w o → Acted o v (done u.lay ws (Change (turn_item t) 0 (u.p + 1))) (win_events u win)

  abbrev pub SlipActs : (o : Own) {w v : Work} → Slip u o.maps o.dirty w v → Type 0
  SlipActs o {w} {v} slip = word u.lay ws (Map u.p g) ≡ slice_index o.maps g → Holds top node b → Now w o → Acted o v ws (slip_events u slip)

  abbrev pub NoteActs : (o : Own) {w v : Work} {i : Note} → Noted u None w i v → Type 0
  NoteActs o {w} {v} {i} noted = Now w o → Now v (own_after o i)

  -- a load leaves the words
  pub load : (it : Item) {o : Own} {w : Work} {es : List Event} → Acted o w ws es → Acted o w (done u.lay ws (Get it)) es
  load it {o} {w} {es} h = subst (λ z. Acted o w z es) (sym (done_get u ws it)) h

  pub stage_is : {r : Round} {s : Stage} {o : Own} → Now (On r g s) o → y.stage ≡ stage_view u s
  stage_is {r} {s} k = k.at ∙ same
    where
      same : view u g (On r g s) ≡ stage_view u s
      same = rw (eq-eqb g g refl) refl

  pub p_suc : u.p + 1 ≡ suc u.p
  p_suc = omega arith

  -- a turn is won
  pub won : (j : ℕ) → j < top → word u.lay ws (Turn j g) ≡ 0 → word u.lay (done u.lay ws (Change (Turn j g) 0 (u.p + 1))) (Turn j g) ≡ suc u.p
  won j j_in e = word_same u.lay ws (Change (Turn j g) 0 (u.p + 1)) long (j_in, g_in) ∙ (rw e p_suc)

  -- a bit more in the set of busy nodes
  pub busy_more : (c j : ℕ) → A.put (is_busy c) j true ≡ is_busy (bit_or c (2 ^ j))
  busy_more c j = λ i q. each q (cases_eq q j) i
    where
      each : (q : ℕ) → (q ≡ j) ⊎ (q ≢ j) → A.put (is_busy c) j true q ≡ is_busy (bit_or c (2 ^ j)) q
      each q (inl d) = rw (eq-eqb q j d) (sym (eq-eqb (bit_at (bit_or c (2 ^ j)) q) 1 (same q d)))
        where
          same : (q : ℕ) → q ≡ j → bit_at (bit_or c (2 ^ j)) q ≡ 1
          same q d = let e = bit_at_or c (2 ^ j) q in let f = bit_at-pow_same j in let l = bit_at-lt c q in let z : bit_at (2 ^ j) q ≡ 1 = ap (bit_at (2 ^ j)) d ∙ f in omega (arith, e, z, l)
      each q (inr ne) = rw (ne_eqb q j ne) (ap (λ z. z == 1) (sym (same q ne)))
        where
          same : (q : ℕ) → q ≢ j → bit_at (bit_or c (2 ^ j)) q ≡ bit_at c q
          same q ne = let e = bit_at_or c (2 ^ j) q in let f = bit_at-pow_other j q ne in omega (arith, e, f)

  pub none_busy : O.nobody ≡ is_busy 0
  none_busy = λ i j. each j i
    where
      each : (j : ℕ) → false ≡ is_busy 0 j
      each j = sym (ne_eqb (bit_at 0 j) 1 (λ e. let z = bit_at-zero j in absurd (omega (arith, e, z))))

  pub or_false : (f : Bool) → f ≡ (f || false)
  or_false true = refl
  or_false false = refl

  pub or_true : (f : Bool) → true ≡ (f || true)
  or_true true = refl
  or_true false = refl

  pub suc_is : (j : ℕ) → suc j ≡ j + 1
  suc_is j = omega arith

  -- where the page's words are the same, they show the same state
  pub match_same : (ws' : List ℕ) → ((it : Item) → IsWithin u.lay it → IsOf g it → word u.lay ws' it ≡ word u.lay ws it) → Match u g ws' b
  match_same ws' other =
      record {
        home = other (Home g) g_in refl ∙ m.home;
        low = m.low;
        dir = λ j i. other (Dir j g) (i, g_in) refl ∙ m.dir j i;
        twined = λ j i. other (Twined j g) (i, g_in) refl ∙ m.twined j i;
        update = λ j i. ap (λ z. not (z == 0)) (other (Update j g) (i, g_in) refl) ∙ m.update j i;
        turn = λ j i. other (Turn j g) (i, g_in) refl ∙ m.turn j i;
        map = λ q i. other (Map q g) (i, g_in) refl ∙ m.map q i;
        nle = λ q i d. m.nle q i (ap (has_bit g) (sym (other (Nle q (group_of g)) (i, group_in u.lay g g_in) refl)) ∙ d);
        posted = λ j l i c d. m.posted j l i c (ap (has_bit g) (sym (other (Global j l (group_of g)) (i, c, group_in u.lay g g_in) refl)) ∙ d);
        listed = λ q i d. m.listed q i (ap (has_bit g) (sym (other (OwnWord q (group_of g)) (i, group_in u.lay g g_in) refl)) ∙ d);
      }

  -- so it is where none of them is changed
  pub untouched : (a : Act) → IsWithin u.lay (item_of a) → (IsOf g (item_of a) → ⊥) → Match u g (done u.lay ws a) b
  untouched a within off = match_same (done u.lay ws a) (λ it i of. word_other u.lay ws a it within i (λ e. off (subst (IsOf g) e of)))

  -- the words behind one event
  module _ (e : A.Act) where
    abbrev xe : Node
    xe = b.nodes (A.place n e)

    abbrev xe' : Node
    xe' = D.node_after u.p e xe

    abbrev ye' : Reader
    ye' = D.processor_after e y

    abbrev next : State
    next = after_event node b (Do u.p e)

    pub read_match : xe' ≡ xe → D.own_after e y ≡ y → Match u g ws next
    read_match xs ys = after_read u at g g_in ws long b m (A.place n e) xe' ye' (record { dir_is = λ _. ap (λ z. z.dir) xs; twined_is = λ _. ap (λ z. z.twined) xs; update_is = λ _. ap (λ z. z.update) xs; turn_is = λ _. ap (λ z. z.turn) xs; map_is = λ _. ap (λ z. z.map) ys; nle_is = ap (λ z. z.nle) ys; noted_is = ap (λ z. z.noted) xs })

    pub dir_put : (v : ℕ) → A.place n e < top → xe'.dir ≡ v → bit xe'.twined ≡ bit xe.twined → xe'.update ≡ xe.update → xe'.turn ≡ xe.turn → (D.own_after e y).map ≡ y.map → (D.own_after e y).nle ≡ y.nle → xe'.noted ≡ xe.noted → Match u g (done u.lay ws (Put (Dir (A.place n e) g) v)) next
    dir_put v l d tw up tu mp nl nt = put_dir u at g g_in ws long b m (A.place n e) xe' ye' (Put (Dir (A.place n e) g) v) (l, g_in) refl (word_same u.lay ws (Put (Dir (A.place n e) g) v) long (l, g_in) ∙ sym d) tw up tu mp nl nt

    pub twined_put : (v : ℕ) → A.place n e < top → bit xe'.twined ≡ v → xe'.dir ≡ xe.dir → xe'.update ≡ xe.update → xe'.turn ≡ xe.turn → (D.own_after e y).map ≡ y.map → (D.own_after e y).nle ≡ y.nle → xe'.noted ≡ xe.noted → Match u g (done u.lay ws (Put (Twined (A.place n e) g) v)) next
    twined_put v l tw d up tu mp nl nt = put_twined u at g g_in ws long b m (A.place n e) xe' ye' (Put (Twined (A.place n e) g) v) (l, g_in) refl d (word_same u.lay ws (Put (Twined (A.place n e) g) v) long (l, g_in) ∙ sym tw) up tu mp nl nt

    pub update_put : (v : ℕ) → A.place n e < top → not (v == 0) ≡ xe'.update → xe'.dir ≡ xe.dir → bit xe'.twined ≡ bit xe.twined → xe'.turn ≡ xe.turn → (D.own_after e y).map ≡ y.map → (D.own_after e y).nle ≡ y.nle → xe'.noted ≡ xe.noted → Match u g (done u.lay ws (Put (Update (A.place n e) g) v)) next
    update_put v l up d tw tu mp nl nt = put_update u at g g_in ws long b m (A.place n e) xe' ye' (Put (Update (A.place n e) g) v) (l, g_in) refl d tw (ap (λ z. not (z == 0)) (word_same u.lay ws (Put (Update (A.place n e) g) v) long (l, g_in)) ∙ up) tu mp nl nt

    pub turn_put : (v : ℕ) → A.place n e < top → xe'.turn ≡ v → xe'.dir ≡ xe.dir → bit xe'.twined ≡ bit xe.twined → xe'.update ≡ xe.update → (D.own_after e y).map ≡ y.map → (D.own_after e y).nle ≡ y.nle → xe'.noted ≡ xe.noted → Match u g (done u.lay ws (Put (Turn (A.place n e) g) v)) next
    turn_put v l tu d tw up mp nl nt = put_turn u at g g_in ws long b m (A.place n e) xe' ye' (Put (Turn (A.place n e) g) v) (l, g_in) refl d tw up (word_same u.lay ws (Put (Turn (A.place n e) g) v) long (l, g_in) ∙ sym tu) mp nl nt

    pub map_put : (v : ℕ) → (D.own_after e y).map ≡ v → xe'.dir ≡ xe.dir → bit xe'.twined ≡ bit xe.twined → xe'.update ≡ xe.update → xe'.turn ≡ xe.turn → (D.own_after e y).nle ≡ y.nle → xe'.noted ≡ xe.noted → Match u g (done u.lay ws (Put (Map u.p g) v)) next
    map_put v mp d tw up tu nl nt = put_map u at g g_in ws long b m (A.place n e) xe' ye' (Put (Map u.p g) v) (at.p_in, g_in) refl d tw up tu (word_same u.lay ws (Put (Map u.p g) v) long (at.p_in, g_in) ∙ sym mp) nl nt

    -- a turn that is won
    pub turn_won : A.place n e < top → word u.lay ws (Turn (A.place n e) g) ≡ 0 → xe'.turn ≡ suc u.p → xe'.dir ≡ xe.dir → bit xe'.twined ≡ bit xe.twined → xe'.update ≡ xe.update → (D.own_after e y).map ≡ y.map → (D.own_after e y).nle ≡ y.nle → xe'.noted ≡ xe.noted → Match u g (done u.lay ws (Change (Turn (A.place n e) g) 0 (u.p + 1))) next
    turn_won l free tu d tw up mp nl nt = put_turn u at g g_in ws long b m (A.place n e) xe' ye' (Change (Turn (A.place n e) g) 0 (u.p + 1)) (l, g_in) refl d tw up (won (A.place n e) l free ∙ sym tu) mp nl nt

  module _ {r : Round} {s t : Stage} {o : Own} where
    -- no event: it is seen at the same stage
    pub no_event : {ws' : List ℕ} → Now (On r g s) o → stage_view u t ≡ stage_view u s → is_soiling t ≡ false → IfSome (home_in t) (λ h. b.home ≡ suc h) → IfSome (time_in t) (λ z. z ≢ 0) → IsMet t → Match u g ws' b → Acted o (On r g t) ws' []
    no_event k e so ho ti me w =
        record {
          runs = tt;
          match = w;
          knows = record { at = stage_is k ∙ sym e ∙ sym (rw (eq-eqb g g refl) refl); round = k.round; met = λ _. me; dirty = λ c d. k.dirty refl d; soils = λ _ d. absurd (cc (sym so ∙ d)); joins = tt; told = go r k.told; heard = tt; homes = λ _. ho; times = λ _. ti };
        }
      where
        go : (r : Round) → IfSome (told_in (On r g s)) (λ set. has_page set g ≡ true → x.noted ≡ true) → IfSome (told_in (On r g t)) (λ set. has_page set g ≡ true → x.noted ≡ true)
        go (Told set q) f = f
        go r f = tt

    -- one event, which leaves what is dirty and noted
    pub acts : (e : A.Act) {ws' : List ℕ} → Now (On r g s) o → stage_view u s ≡ (A.moves e).0 → Asks top node b.home n (b.nodes (A.place n e)) y (heard b e) e → Match u g ws' (after_event node b (Do u.p e)) → (D.own_after e y).dirty ≡ y.dirty → (D.node_after u.p e (b.nodes (A.place n e))).noted ≡ (b.nodes (A.place n e)).noted → (A.moves e).1 ≡ stage_view u t → is_soiling t ≡ false
        → IfSome (home_in t) (λ h. b.home ≡ suc h) → IfSome (time_in t) (λ z. z ≢ 0) → IsMet t → Acted o (On r g t) ws' (Do u.p e ∷ [])
    acts e k from asks w di nt to so ho ti me = record { runs = ((stage_is k ∙ from, at.node_in, asks), tt); match = w; knows = knows_next u at g g_in ws long b m (A.place n e) (D.node_after u.p e (b.nodes (A.place n e))) (D.processor_after e y) {t = t} k to di nt so ho ti me }

    -- one that changes no word
    pub reads : (e : A.Act) → Now (On r g s) o → stage_view u s ≡ (A.moves e).0 → Asks top node b.home n (b.nodes (A.place n e)) y (heard b e) e → D.node_after u.p e (b.nodes (A.place n e)) ≡ b.nodes (A.place n e) → D.own_after e y ≡ y → (A.moves e).1 ≡ stage_view u t → is_soiling t ≡ false
        → IfSome (home_in t) (λ h. b.home ≡ suc h) → IfSome (time_in t) (λ z. z ≢ 0) → IsMet t → Acted o (On r g t) ws (Do u.p e ∷ [])
    reads e k from asks zs ys to so ho ti me = acts e k from asks (read_match e zs ys) (ap (λ z. z.dirty) ys) (ap (λ z. z.noted) zs) to so ho ti me
