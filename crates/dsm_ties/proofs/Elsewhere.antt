-- What an event leaves: what the other processors know, and what is known of a page by work on another one.
use Rattle.std.proofs.Common.{◌≡◌, ◌≢◌, ◌⊎◌, inl, inr, ℕ, suc, ◌+◌, ◌/◌, ◌%◌, ◌<◌, ◌==◌, Bool, true, false, List, [], ◌∷◌, length, Option, None, Some, refl, sym, ap, ◌∙◌, subst, arith}
use Rattle.std.specs.Prelude.{IfSome, not, bit_or, ◌^◌, slice_index, slice_index_or}
use Rattle.std.specs.Int.{bit_at}
use Rattle.std.proofs.lemmas.Nat.Bits.{bit_at_or, bit_at-pow_other}
use Rattle.std.proofs.lemmas.Bool.{cases_eq, eq-eqb, ne_eqb, eqb-true}
use Rattle.std.proofs.lemmas.List.{get_or-set_other}
use Rattle.dsm_words.specs.declared.item.Item.{Item}
use Rattle.dsm_words.specs.declared.item.Item.TheVariants.{Stop, Twined, Map, Dir, Update, Turn, Global, Own as OwnWord, Nle, Lock, Barrier, Flag, Close, Home}
use Rattle.dsm_words.specs.Place.{IsWithin, place, total}
use Rattle.dsm_words.specs.Pages.{group_of, bit_of, has_page}
use Rattle.dsm_words.specs.Script.{Act, Get, Put, Swap, Change, Add, Or, item_of}
use Rattle.dsm_words.specs.Words.{word, done}
use Rattle.dsm_words.proofs.WordLaws.{word_same, word_other}
use Rattle.dsm_clock.specs.declared.turns.TurnId.{TurnId}
use Rattle.dsm_clock.specs.Turns.{turn_item}
use Rattle.dsm_protocol.specs.Own.{Own, Who, node_of, is_dirty}
use Rattle.dsm_protocol.specs.Jobs.{Note, Clean, own_after}
use Rattle.dsm_protocol.specs.Stages.{Fault, Closing, Stage, Round, Access, Closes, Holder, Releasing, Cleaning, Told, Work, Off, On, Gone}
use Rattle.dsm_protocol.specs.Rows.{IsPlain, Step, Wins, Slip, Noted, sees_dir, seeks, settles, clears, registers, shares, wants, parts, looks, reads_map, marks, saves, saves_twin, saves_home, twins_broken, breaks, departs, sees_again, tests, claims, looks_again, withdraws, draws_enter, fills, fills_own, stamps_enter, enters, compares, judges, draws, sees_twin, copies, copies_over, merges, merges_own, merges_twin, stamps, has_twin, makes, makes_twin, made, sets, gives, sees_release, lasts, draws_send, tests_flush, flushes, flushes_same, flushes_twin, flushes_home, stamps_flush, reads_dir, posts, lowers, drops, untwins, unlists, finishes, sees_acquire, compares_own, judges_own, unmaps, empties, sees_bare, leaves, gives_over, faults, visits, returns, releases, acquires, closes, maps, soils, begins_copy, begins_fill, fetched, filled, broken, broadcast, sent, told, counts}
use Rattle.dsm_protocol.specs.Standing.{IsObject, IsAside}
use Rattle.dsm_protocol.proofs.Placed.{IsPlaced, group_in}
use Rattle.dsm_owners.specs.Stages as O
use Rattle.dsm_owners.specs.Acts as A
use Rattle.dsm_owners.specs.Directory as D
use Rattle.dsm_owners.specs.Directory.{Node, Processor as Reader, State, Event, Do, Touch, Mark, after_event, after}
use Rattle.dsm_owners.specs.Premises.{Runs}
use Rattle.dsm_ties.specs.Views.{home_in, told_in, joins_in, heard_in, is_soiling, AtStage, IsWorked}
use Rattle.dsm_ties.specs.Tied.{has_bit, Knows, Match}
use Rattle.dsm_ties.proofs.Frame.{IsOf, Acted, Now, untouched}

-- events of processor p alone
abbrev pub IsBy : ℕ → Event → Type 0
IsBy p (Do q a) = q ≡ p
IsBy p (Touch q write) = q ≡ p
IsBy p (Mark q r why j) = q ≡ p

abbrev pub AllBy : ℕ → List Event → Type 0
AllBy p [] = Unit {0}
AllBy p (e ∷ es) = IsBy p e × AllBy p es

-- a notice is never taken back
noted_up : (p : ℕ) (a : A.Act) (x : Node) → x.noted ≡ true → (D.node_after p a x).noted ≡ true
noted_up p (A.Post flushed j) x h = refl
noted_up p a x h = h

module _ (u : Who) (g : ℕ) (w : Work) (o : Own) where
  abbrev node : ℕ → ℕ
  node q = q / u.lay.procs

  -- what is known stays where the home stays and notices rise
  known : (home home' : ℕ) (x x' : Node) (y y' : Reader) → Knows u g home x y w o → ((h : ℕ) → home ≡ suc h → home' ≡ home) → (x.noted ≡ true → x'.noted ≡ true) → y'.stage ≡ y.stage → (y.dirty ≡ true → y'.dirty ≡ true) → Knows u g home' x' y' w o
  known home home' x x' y y' k ho nt st di =
      record { at = st ∙ k.at; round = k.round; met = k.met; dirty = λ a e. di (k.dirty a e); soils = soil w k.soils; joins = join (joins_in w) k.joins; told = tolds (told_in w) k.told; heard = bits (heard_in w) k.heard; homes = stays_at w k.homes; times = k.times }
    where
      soil : (w : Work) → AtStage (λ s. is_soiling s ≡ true → y.dirty ≡ true) g w → AtStage (λ s. is_soiling s ≡ true → y'.dirty ≡ true) g w
      soil (On r h s) f = λ e i. di (f e i)
      soil (Off r) f = tt
      soil Gone f = tt

      join : (h : Option (List ℕ)) → IfSome h (λ set. has_page set g ≡ true → y.dirty ≡ true) → IfSome h (λ set. has_page set g ≡ true → y'.dirty ≡ true)
      join None f = tt
      join (Some set) f = λ e. di (f e)

      tolds : (h : Option (List ℕ)) → IfSome h (λ set. has_page set g ≡ true → x.noted ≡ true) → IfSome h (λ set. has_page set g ≡ true → x'.noted ≡ true)
      tolds None f = tt
      tolds (Some set) f = λ e. nt (f e)

      bits : (h : Option (ℕ × ℕ)) → IfSome h (λ z. z.0 ≡ group_of g → has_bit g z.1 ≡ true → x.noted ≡ true) → IfSome h (λ z. z.0 ≡ group_of g → has_bit g z.1 ≡ true → x'.noted ≡ true)
      bits None f = tt
      bits (Some z) f = λ a e. nt (f a e)

      of_home : (h : Option ℕ) → IfSome h (λ z. home ≡ suc z) → IfSome h (λ z. home' ≡ suc z)
      of_home None f = tt
      of_home (Some z) f = ho z f ∙ f

      stays_at : (w : Work) → AtStage (λ s. IfSome (home_in s) (λ h. home ≡ suc h)) g w → AtStage (λ s. IfSome (home_in s) (λ h. home' ≡ suc h)) g w
      stays_at (On r h s) f = λ e. of_home (home_in s) (f e)
      stays_at (Off r) f = tt
      stays_at Gone f = tt

  -- an event of another processor
  pub others : (b : State) (p : ℕ) (a : A.Act) → u.p ≢ p → Knows u g b.home (b.nodes (node_of u)) (b.processors u.p) w o
      → Knows u g b.home ((after_event node b (Do p a)).nodes (node_of u)) ((after_event node b (Do p a)).processors u.p) w o
  others b p a ne k = rw (ne_eqb u.p p ne) (known b.home b.home (b.nodes (node_of u)) _ (b.processors u.p) (b.processors u.p) k (λ h e. refl) (λ e. go (cases_eq (node_of u) (A.place (node p) a)) e) refl (λ e. e))
    where
      go : (node_of u ≡ A.place (node p) a) ⊎ (node_of u ≢ A.place (node p) a) → (b.nodes (node_of u)).noted ≡ true → (A.put b.nodes (A.place (node p) a) (D.node_after p a (b.nodes (A.place (node p) a))) (node_of u)).noted ≡ true
      go (inl d) e = rw (eq-eqb _ _ d) (noted_up p a (b.nodes (A.place (node p) a)) (ap (λ z. (b.nodes z).noted) (sym d) ∙ e))
      go (inr c) e = rw (ne_eqb _ _ c) e

  pub others_touch : (b : State) (p : ℕ) (v : Bool) → b.home ≡ 0 → Knows u g b.home (b.nodes (node_of u)) (b.processors u.p) w o
      → Knows u g (after_event node b (Touch p v)).home (b.nodes (node_of u)) (b.processors u.p) w o
  others_touch b p v z k = known b.home _ (b.nodes (node_of u)) (b.nodes (node_of u)) (b.processors u.p) (b.processors u.p) k (λ h e. absurd (omega (arith, z, e))) (λ e. e) refl (λ e. e)

  pub others_mark : (b : State) (p q : ℕ) (c : O.Why) (j : ℕ) → Knows u g b.home (b.nodes (node_of u)) (b.processors u.p) w o
      → Knows u g b.home (b.nodes (node_of u)) ((after_event node b (Mark p q c j)).processors u.p) w o
  others_mark b p q c j k = go (cases_eq u.p q)
    where
      go : (u.p ≡ q) ⊎ (u.p ≢ q) → Knows u g b.home (b.nodes (node_of u)) (A.put b.processors q (record (b.processors q) { nle = true }) u.p) w o
      go (inl d) = rw (eq-eqb u.p q d) (known b.home b.home (b.nodes (node_of u)) (b.nodes (node_of u)) (b.processors u.p) (record (b.processors q) { nle = true }) k (λ h e. refl) (λ e. e) (ap (λ z. (b.processors z).stage) (sym d)) (λ e. ap (λ z. (b.processors z).dirty) (sym d) ∙ e))
      go (inr ne) = rw (ne_eqb u.p q ne) k

  -- and events of another one
  pub others_all : (p : ℕ) (es : List Event) (b : State) → u.p ≢ p → AllBy p es → Runs u.lay.nodes node b es → Knows u g b.home (b.nodes (node_of u)) (b.processors u.p) w o
      → Knows u g (after node b es).home ((after node b es).nodes (node_of u)) ((after node b es).processors u.p) w o
  others_all p [] b ne by r k = k
  others_all p (Do q a ∷ es) b ne by r k = others_all p es (after_event node b (Do q a)) ne by.1 r.1 (others b q a (λ d. ne (d ∙ by.0)) k)
  others_all p (Touch q v ∷ es) b ne by r k = others_all p es (after_event node b (Touch q v)) ne by.1 r.1 (others_touch b q v r.0.2 k)
  others_all p (Mark q z c j ∷ es) b ne by r k = others_all p es (after_event node b (Mark q z c j)) ne by.1 r.1 (others_mark b q z c j k)

-- a word of synchronisation, or the stop word, is none of the page's
object_off : (g : ℕ) (it : Item) → IsObject it → IsOf g it → ⊥
object_off g (Lock l) i of = of
object_off g (Barrier l) i of = of
object_off g (Flag l) i of = of
object_off g Close i of = of
object_off g it i of = absurd i

pub aside_off : (g : ℕ) (a : Act) → IsAside a → IsOf g (item_of a) → ⊥
aside_off g (Get Stop) i of = of
aside_off g (Get it) i of = object_off g it i of
aside_off g (Put it v) i of = object_off g it i of
aside_off g (Swap it v) i of = object_off g it i of
aside_off g (Change it v z) i of = object_off g it i of
aside_off g (Add it v) i of = object_off g it i of
aside_off g (Or it v) i of = object_off g it i of

module _ (u : Who) (at : IsPlaced u) (g : ℕ) (g_in : g < u.lay.pages) (ws : List ℕ) (long : length ws ≡ total u.lay) (b : State) (m : Match u g ws b) where
  -- the bit of another page in a word of its group
  other_bit : (h v : ℕ) → group_of h ≡ group_of g → h ≢ g → has_bit g (bit_or v (bit_of h)) ≡ true → has_bit g v ≡ true
  other_bit h v same ne e = eq-eqb (bit_at v (g % 64)) 1 (let z = bit_at_or v (2 ^ (h % 64)) (g % 64) in let c = bit_at-pow_other (h % 64) (g % 64) (λ d. ne (omega (arith, same, d))) in let d = eqb-true (bit_at (bit_or v (bit_of h)) (g % 64)) 1 e in omega (arith, z, c, d))

  -- a bit of another page is set
  module _ (it : Item) (h : ℕ) (within : IsWithin u.lay it) (ne : h ≢ g) where
    abbrev ws' : List ℕ
    ws' = done u.lay ws (Or it (bit_of h))

    or_other : (jt : Item) → IsWithin u.lay jt → jt ≢ it → word u.lay ws' jt ≡ word u.lay ws jt
    or_other jt i d = word_other u.lay ws (Or it (bit_of h)) jt within i d

    -- what a bit of page g in a word of its group tells, it told before
    or_bit : (P : Type 0) (jt : Item) → IsWithin u.lay jt → group_of h ≡ group_of g → (jt ≡ it) ⊎ (jt ≢ it) → (has_bit g (word u.lay ws jt) ≡ true → P) → has_bit g (word u.lay ws' jt) ≡ true → P
    or_bit P jt i same (inl e) f d = f (ap (λ z. has_bit g (word u.lay ws z)) e ∙ other_bit h (word u.lay ws it) same ne (ap (has_bit g) (sym (word_same u.lay ws (Or it (bit_of h)) long within)) ∙ ap (λ z. has_bit g (word u.lay ws' z)) (sym e) ∙ d))
    or_bit P jt i same (inr c) f d = f (ap (has_bit g) (sym (or_other jt i c)) ∙ d)

  pub marks_other : (q h : ℕ) → IsWithin u.lay (Nle q (group_of h)) → h ≢ g → Match u g (done u.lay ws (Or (Nle q (group_of h)) (bit_of h))) b
  marks_other q h within ne = go (cases_eq (group_of h) (group_of g))
    where
      other : (jt : Item) → IsWithin u.lay jt → jt ≢ Nle q (group_of h) → word u.lay (done u.lay ws (Or (Nle q (group_of h)) (bit_of h))) jt ≡ word u.lay ws jt
      other = or_other (Nle q (group_of h)) h within ne

      same_item : (j : ℕ) → group_of h ≡ group_of g → (j ≡ q) ⊎ (j ≢ q) → (Nle j (group_of g) ≡ Nle q (group_of h)) ⊎ (Nle j (group_of g) ≢ Nle q (group_of h))
      same_item j same (inl e) = inl (λ k. Nle (e k) (sym same k))
      same_item j same (inr c) = inr (λ e. c (cc e))

      go : (group_of h ≡ group_of g) ⊎ (group_of h ≢ group_of g) → Match u g (done u.lay ws (Or (Nle q (group_of h)) (bit_of h))) b
      go (inr apart) = untouched u at g g_in ws long b m (Or (Nle q (group_of h)) (bit_of h)) within apart
      go (inl same) =
          record {
            home = other (Home g) g_in (λ e. absurd (cc e)) ∙ m.home;
            low = m.low;
            dir = λ j i. other (Dir j g) (i, g_in) (λ e. absurd (cc e)) ∙ m.dir j i;
            twined = λ j i. other (Twined j g) (i, g_in) (λ e. absurd (cc e)) ∙ m.twined j i;
            update = λ j i. ap (λ z. not (z == 0)) (other (Update j g) (i, g_in) (λ e. absurd (cc e))) ∙ m.update j i;
            turn = λ j i. other (Turn j g) (i, g_in) (λ e. absurd (cc e)) ∙ m.turn j i;
            map = λ j i. other (Map j g) (i, g_in) (λ e. absurd (cc e)) ∙ m.map j i;
            nle = λ j i. or_bit (Nle q (group_of h)) h within ne _ (Nle j (group_of g)) (i, group_in u.lay g g_in) same (same_item j same (cases_eq j q)) (m.nle j i);
            posted = λ j l i c d. m.posted j l i c (ap (has_bit g) (sym (other (Global j l (group_of g)) (i, c, group_in u.lay g g_in) (λ e. absurd (cc e)))) ∙ d);
            listed = λ j i d. m.listed j i (ap (has_bit g) (sym (other (OwnWord j (group_of g)) (i, group_in u.lay g g_in) (λ e. absurd (cc e)))) ∙ d);
          }

  pub posts_other : (n k h : ℕ) → IsWithin u.lay (Global n k (group_of h)) → h ≢ g → Match u g (done u.lay ws (Or (Global n k (group_of h)) (bit_of h))) b
  posts_other n k h within ne = go (cases_eq (group_of h) (group_of g))
    where
      other : (jt : Item) → IsWithin u.lay jt → jt ≢ Global n k (group_of h) → word u.lay (done u.lay ws (Or (Global n k (group_of h)) (bit_of h))) jt ≡ word u.lay ws jt
      other = or_other (Global n k (group_of h)) h within ne

      same_item : (i j : ℕ) → group_of h ≡ group_of g → (i ≡ n) ⊎ (i ≢ n) → (j ≡ k) ⊎ (j ≢ k) → (Global i j (group_of g) ≡ Global n k (group_of h)) ⊎ (Global i j (group_of g) ≢ Global n k (group_of h))
      same_item i j same (inl e) (inl f) = inl (λ z. Global (e z) (f z) (sym same z))
      same_item i j same (inl e) (inr c) = inr (λ e. c (cc e))
      same_item i j same (inr c) f = inr (λ e. c (cc e))

      go : (group_of h ≡ group_of g) ⊎ (group_of h ≢ group_of g) → Match u g (done u.lay ws (Or (Global n k (group_of h)) (bit_of h))) b
      go (inr apart) = untouched u at g g_in ws long b m (Or (Global n k (group_of h)) (bit_of h)) within apart
      go (inl same) =
          record {
            home = other (Home g) g_in (λ e. absurd (cc e)) ∙ m.home;
            low = m.low;
            dir = λ j i. other (Dir j g) (i, g_in) (λ e. absurd (cc e)) ∙ m.dir j i;
            twined = λ j i. other (Twined j g) (i, g_in) (λ e. absurd (cc e)) ∙ m.twined j i;
            update = λ j i. ap (λ z. not (z == 0)) (other (Update j g) (i, g_in) (λ e. absurd (cc e))) ∙ m.update j i;
            turn = λ j i. other (Turn j g) (i, g_in) (λ e. absurd (cc e)) ∙ m.turn j i;
            map = λ j i. other (Map j g) (i, g_in) (λ e. absurd (cc e)) ∙ m.map j i;
            nle = λ j i d. m.nle j i (ap (has_bit g) (sym (other (Nle j (group_of g)) (i, group_in u.lay g g_in) (λ e. absurd (cc e)))) ∙ d);
            posted = λ i j c d. or_bit (Global n k (group_of h)) h within ne _ (Global i j (group_of g)) (c, d, group_in u.lay g g_in) same (same_item i j same (cases_eq i n) (cases_eq j k)) (m.posted i j c d);
            listed = λ j i d. m.listed j i (ap (has_bit g) (sym (other (OwnWord j (group_of g)) (i, group_in u.lay g g_in) (λ e. absurd (cc e)))) ∙ d);
          }

-- a note that is about no stage leaves what is dirty
pub plain_dirty : (i : Note) (o : Own) → IsPlain None i → (own_after o i).dirty ≡ o.dirty
plain_dirty i o p = grind arith

-- an operation of another page h, as page g has it
abbrev Is_off : Who → ℕ → ℕ → Act → Type 0
Is_off u g h a = (IsOf g (item_of a) → ⊥) ⊎ (((q : ℕ) × (a ≡ Or (Nle q (group_of h)) (bit_of h))) ⊎ ((j : ℕ) × (a ≡ Or (Global j (node_of u) (group_of h)) (bit_of h))))

-- where work on page h leads
abbrev Leads : Round → ℕ → Work → Type 0
Leads r h w = ((s : Stage) × (w ≡ On r h s)) ⊎ ((w ≡ Off r) ⊎ (((t0 : ℕ) × (w ≡ Off (Cleaning t0 h))) ⊎ (((set : List ℕ) × (r ≡ Told set h) × (w ≡ Off (Told set (h + 1)))) ⊎ (w ≡ Off (Closes (h + 1) 0)))))

-- an exchange that fails changes no word
pub lost_same : (u : Who) (ws : List ℕ) (it : Item) (v : ℕ) → word u.lay ws it ≢ 0 → done u.lay ws (Change it 0 v) ≡ ws
unfolding done word
lost_same u ws it v ne = rw (ne_eqb (slice_index ws (place u.lay it)) 0 ne) refl

module _ {u : Who} (g : ℕ) where
  note_leads : {r : Round} {h : ℕ} {s : Stage} {i : Note} {v : Work} → Noted u None (On r h s) i v → (t : Stage) × (v ≡ On r h t)
  note_leads (counts p) = (_, refl)
  note_leads maps = (_, refl)
  note_leads soils = (_, refl)
  note_leads begins_copy = (_, refl)
  note_leads begins_fill = (_, refl)
  note_leads fetched = (_, refl)
  note_leads filled = (_, refl)
  note_leads broken = (_, refl)
  note_leads broadcast = (_, refl)
  note_leads (sent e) = (_, refl)
  note_leads (told e) = (_, refl)

  -- a note of another page
  note_dirty : {r : Round} {h : ℕ} {s : Stage} {i : Note} {v : Work} (o : Own) → Noted u None (On r h s) i v → h ≢ g → is_dirty (own_after o i) g ≡ is_dirty o g
  note_dirty o maps ne = refl
  note_dirty o (soils {g = h}) ne = get_or-set_other o.dirty h g true false (λ e. ne (sym e))
  note_dirty o begins_copy ne = refl
  note_dirty o begins_fill ne = refl
  note_dirty o fetched ne = refl
  note_dirty o filled ne = refl
  note_dirty o broken ne = refl
  note_dirty o broadcast ne = refl
  note_dirty o (sent e) ne = refl
  note_dirty o (told e) ne = refl
  note_dirty o (counts {n = i} p) ne = ap (λ z. slice_index_or z g false) (plain_dirty i o p)

module _ {u : Who} {maps' : List ℕ} {dirty : List Bool} (g : ℕ) where
  row_off : {r : Round} {h : ℕ} {s : Stage} {a : Act} {x : ℕ} {v : Work} → Step u maps' dirty (On r h s) a x v → h ≢ g → Is_off u g h a
  row_off sees_dir ne = inl ne
  row_off seeks ne = inl ne
  row_off settles ne = inl ne
  row_off clears ne = inl ne
  row_off registers ne = inl ne
  row_off shares ne = inl ne
  row_off (wants a) ne = inl ne
  row_off parts ne = inl ne
  row_off looks ne = inl ne
  row_off reads_map ne = inl ne
  row_off (marks a b) ne = inr (inl (_, refl))
  row_off saves ne = inl (λ e. e)
  row_off saves_twin ne = inl (λ e. e)
  row_off saves_home ne = inl (λ e. e)
  row_off (twins_broken a) ne = inl ne
  row_off breaks ne = inl ne
  row_off departs ne = inl ne
  row_off sees_again ne = inl ne
  row_off tests ne = inl ne
  row_off claims ne = inl ne
  row_off looks_again ne = inl ne
  row_off withdraws ne = inl ne
  row_off draws_enter ne = inl (λ e. e)
  row_off fills ne = inl (λ e. e)
  row_off fills_own ne = inl (λ e. e)
  row_off stamps_enter ne = inl ne
  row_off enters ne = inl ne
  row_off (compares a) ne = inl ne
  row_off judges ne = inl (λ e. e)
  row_off draws ne = inl (λ e. e)
  row_off sees_twin ne = inl ne
  row_off copies ne = inl (λ e. e)
  row_off copies_over ne = inl (λ e. e)
  row_off merges ne = inl (λ e. e)
  row_off merges_own ne = inl (λ e. e)
  row_off merges_twin ne = inl (λ e. e)
  row_off stamps ne = inl ne
  row_off has_twin ne = inl ne
  row_off makes ne = inl (λ e. e)
  row_off makes_twin ne = inl (λ e. e)
  row_off made ne = inl ne
  row_off sets ne = inl ne
  row_off gives ne = inl ne
  row_off sees_release ne = inl ne
  row_off lasts ne = inl (λ e. e)
  row_off draws_send ne = inl (λ e. e)
  row_off (tests_flush a) ne = inl ne
  row_off flushes ne = inl (λ e. e)
  row_off flushes_same ne = inl (λ e. e)
  row_off flushes_twin ne = inl (λ e. e)
  row_off flushes_home ne = inl (λ e. e)
  row_off stamps_flush ne = inl (λ e. e)
  row_off reads_dir ne = inl ne
  row_off (posts a b) ne = inr (inr (_, refl))
  row_off (lowers a) ne = inl ne
  row_off (drops a b) ne = inl ne
  row_off untwins ne = inl ne
  row_off unlists ne = inl ne
  row_off finishes ne = inl ne
  row_off sees_acquire ne = inl ne
  row_off compares_own ne = inl ne
  row_off judges_own ne = inl (λ e. e)
  row_off unmaps ne = inl ne
  row_off (empties a b) ne = inl ne
  row_off sees_bare ne = inl ne
  row_off leaves ne = inl ne
  row_off gives_over ne = inl ne

  leads : {r : Round} {h : ℕ} {s : Stage} {a : Act} {x : ℕ} {v : Work} → Step u maps' dirty (On r h s) a x v → Leads r h v
  leads (departs {c = Fault write h busy}) = inl (_, refl)
  leads (departs {c = Closing}) = inr (inr (inr (inr refl)))
  leads gives = inr (inl refl)
  leads gives_over = inr (inr (inr (inl (_, refl, refl))))
  leads finishes = inr (inr (inl (_, refl)))
  leads row = inl (_, refl)

  slip_leads : {r : Round} {h : ℕ} {s : Stage} {v : Work} → Slip u maps' dirty (On r h s) v → (t : Stage) × (v ≡ On r h t)
  slip_leads slip = grind arith

module _ (u : Who) (at : IsPlaced u) (g : ℕ) (g_in : g < u.lay.pages) (ws : List ℕ) (long : length ws ≡ total u.lay) (b : State) (m : Match u g ws b) where
  abbrev Is : Work → Own → Type 0
  Is w o = Now u at g g_in ws long b m w o

  -- at rest for this page, with what the place has in hand
  resting : {r : Round} {h : ℕ} {s : Stage} {o : Own} → h ≢ g → Is (On r h s) o → (b.processors u.p).stage ≡ O.Rest
  resting {h = h} ne k = k.at ∙ (rw (ne_eqb h g ne) refl)

  tolds : (r : Round) (h : ℕ) (s : Stage) (h' : ℕ) (t : Stage) → IfSome (told_in (On r h s)) (λ set. has_page set g ≡ true → (b.nodes (node_of u)).noted ≡ true) → IfSome (told_in (On r h' t)) (λ set. has_page set g ≡ true → (b.nodes (node_of u)).noted ≡ true)
  tolds (Told set q) h s h' t f = f
  tolds r h s h' t f = tt

  -- at another stage of another page
  pub stays_on : {r : Round} {h : ℕ} {s : Stage} (t : Stage) {o p : Own} → h ≢ g → is_dirty p g ≡ is_dirty o g → Is (On r h s) o → Is (On r h t) p
  stays_on {r} {h} {s} t ne d k = record { at = k.at ∙ (rw (ne_eqb h g ne) refl); round = k.round; met = λ e. absurd (ne e); dirty = λ c e. k.dirty refl (sym d ∙ e); soils = λ e. absurd (ne e); joins = tt; told = tolds r h s h t k.told; heard = tt; homes = λ e. absurd (ne e); times = λ e. absurd (ne e) }

  -- back on no page
  goes_off : {r : Round} {h : ℕ} {s : Stage} {v : Work} {o : Own} → h ≢ g → Leads r h v → Is (On r h s) o → Is v o
  goes_off {r} {h} {s} {v} {o} ne (inl e) k = subst (λ z. Is z o) (sym e.1) (stays_on e.0 ne refl k)
  goes_off {r} {h} {s} {v} {o} ne (inr (inl e)) k = subst (λ z. Is z o) (sym e) (off r k.round k.told)
    where
      off : (r : Round) → IsWorked r → IfSome (told_in (On r h s)) (λ set. has_page set g ≡ true → (b.nodes (node_of u)).noted ≡ true) → Is (Off r) o
      off (Access faulted write a) i f = record { at = resting ne k; round = tt; met = tt; dirty = λ c e. k.dirty refl e; soils = tt; joins = tt; told = tt; heard = tt; homes = tt; times = tt }
      off (Releasing t0 q) i f = record { at = resting ne k; round = tt; met = tt; dirty = λ c e. k.dirty refl e; soils = tt; joins = tt; told = tt; heard = tt; homes = tt; times = tt }
      off (Told set q) i f = record { at = resting ne k; round = tt; met = tt; dirty = λ c e. k.dirty refl e; soils = tt; joins = tt; told = f; heard = tt; homes = tt; times = tt }
      off (Holder q j) i f = record { at = resting ne k; round = tt; met = tt; dirty = λ c e. k.dirty refl e; soils = tt; joins = tt; told = tt; heard = tt; homes = tt; times = tt }
      off r i f = absurd i
  goes_off {r} {h} {s} {v} {o} ne (inr (inr (inl e))) k = subst (λ z. Is z o) (sym e.1) (record { at = resting ne k; round = tt; met = tt; dirty = λ c d. k.dirty refl d; soils = tt; joins = tt; told = tt; heard = tt; homes = tt; times = tt })
  goes_off {r} {h} {s} {v} {o} ne (inr (inr (inr (inl e)))) k = subst (λ z. Is z o) (sym e.2) (record { at = resting ne k; round = tt; met = tt; dirty = λ c d. k.dirty refl d; soils = tt; joins = tt; told = tell k.told; heard = tt; homes = tt; times = tt })
    where
      tell : IfSome (told_in (On r h s)) (λ set. has_page set g ≡ true → (b.nodes (node_of u)).noted ≡ true) → has_page e.0 g ≡ true → (b.nodes (node_of u)).noted ≡ true
      tell f = subst (λ z. IfSome (told_in (On z h s)) (λ set. has_page set g ≡ true → (b.nodes (node_of u)).noted ≡ true)) e.1 f
  goes_off {r} {h} {s} {v} {o} ne (inr (inr (inr (inr e)))) k = subst (λ z. Is z o) (sym e) (record { at = resting ne k; round = tt; met = tt; dirty = λ c d. k.dirty refl d; soils = tt; joins = tt; told = tt; heard = tt; homes = tt; times = tt })

  -- the words of this page, behind a row of another one
  words_off : (h : ℕ) (a : Act) → h ≢ g → IsWithin u.lay (item_of a) → Is_off u g h a → Match u g (done u.lay ws a) b
  words_off h a ne within (inl off) = untouched u at g g_in ws long b m a within off
  words_off h a ne within (inr (inl e)) = subst (λ z. Match u g (done u.lay ws z) b) (sym e.1) (marks_other u at g g_in ws long b m e.0 h (subst (λ z. IsWithin u.lay (item_of z)) e.1 within) ne)
  words_off h a ne within (inr (inr e)) = subst (λ z. Match u g (done u.lay ws z) b) (sym e.1) (posts_other u at g g_in ws long b m e.0 (node_of u) h (subst (λ z. IsWithin u.lay (item_of z)) e.1 within) ne)

  -- a row, a decision and a note of another page
  pub row_elsewhere : {o : Own} {r : Round} {h : ℕ} {s : Stage} {a : Act} {x : ℕ} {v : Work} → Step u o.maps o.dirty (On r h s) a x v → h ≢ g → IsWithin u.lay (item_of a) → Is (On r h s) o → Acted u at g g_in ws long b m o v (done u.lay ws a) []
  row_elsewhere {h = h} {a = a} step ne within k = record { runs = tt; match = words_off h a ne within (row_off g step ne); knows = goes_off ne (leads g step) k }

  pub slip_elsewhere : {o : Own} {r : Round} {h : ℕ} {s : Stage} {v : Work} → Slip u o.maps o.dirty (On r h s) v → h ≢ g → Is (On r h s) o → Is v o
  slip_elsewhere {o} slip ne k = let z = slip_leads g slip in subst (λ w. Is w o) (sym z.1) (stays_on z.0 ne refl k)

  pub note_elsewhere : {o : Own} {r : Round} {h : ℕ} {s : Stage} {i : Note} {v : Work} → Noted u None (On r h s) i v → h ≢ g → Is (On r h s) o → Is v (own_after o i)
  note_elsewhere {o} {i = i} noted ne k = let z = note_leads g noted in subst (λ w. Is w (own_after o i)) (sym z.1) (stays_on z.0 ne (note_dirty g o noted ne) k)

  -- another page is noted as clean
  pub cleans_elsewhere : {o : Own} {t0 h : ℕ} → h ≢ g → Is (Off (Cleaning t0 h)) o → Is (Off (Releasing t0 (h + 1))) (own_after o (Clean h))
  cleans_elsewhere {o} {t0} {h} ne k = record { at = k.at; round = tt; met = tt; dirty = λ c e. k.dirty (ne_eqb h g ne) (sym (get_or-set_other o.dirty h g false false (λ d. ne (sym d))) ∙ e); soils = tt; joins = tt; told = tt; heard = tt; homes = tt; times = tt }

  -- a turn of another page that is won
  pub win_elsewhere : {o : Own} {w : Work} {t : TurnId} {r : Round} {h : ℕ} {s : Stage} → Wins u o.maps o.dirty w t (On r h s) → h ≢ g → IsWithin u.lay (turn_item t) → Is w o → Acted u at g g_in ws long b m o (On r h s) (done u.lay ws (Change (turn_item t) 0 (u.p + 1))) []
  win_elsewhere (faults {a = a} {write = write} e) ne within k = record { runs = tt; match = untouched u at g g_in ws long b m (Change (Turn (node_of u) _) 0 (u.p + 1)) within ne; knows = record { at = k.at ∙ sym (rw (ne_eqb _ g ne) refl); round = tt; met = λ e. absurd (ne e); dirty = λ c e. k.dirty refl e; soils = λ e. absurd (ne e); joins = tt; told = tt; heard = tt; homes = λ e. absurd (ne e); times = λ e. absurd (ne e) } }
  win_elsewhere (visits j a c d) ne within k = record { runs = tt; match = untouched u at g g_in ws long b m (Change (Turn j _) 0 (u.p + 1)) within ne; knows = stays_on _ ne refl k }
  win_elsewhere (returns c) ne within k = record { runs = tt; match = untouched u at g g_in ws long b m (Change (Turn (node_of u) _) 0 (u.p + 1)) within ne; knows = stays_on _ ne refl k }
  win_elsewhere (releases e) ne within k = record { runs = tt; match = untouched u at g g_in ws long b m (Change (Turn (node_of u) _) 0 (u.p + 1)) within ne; knows = record { at = k.at ∙ sym (rw (ne_eqb _ g ne) refl); round = tt; met = λ e. absurd (ne e); dirty = λ c e. k.dirty refl e; soils = λ e. absurd (ne e); joins = tt; told = tt; heard = tt; homes = λ e. absurd (ne e); times = λ e. absurd (ne e) } }
  win_elsewhere (acquires e) ne within k = record { runs = tt; match = untouched u at g g_in ws long b m (Change (Turn (node_of u) _) 0 (u.p + 1)) within ne; knows = record { at = k.at ∙ sym (rw (ne_eqb _ g ne) refl); round = tt; met = λ e. absurd (ne e); dirty = λ c e. k.dirty refl e; soils = λ e. absurd (ne e); joins = tt; told = k.told; heard = tt; homes = λ e. absurd (ne e); times = λ e. absurd (ne e) } }
  win_elsewhere (closes {j = j}) ne within k = record { runs = tt; match = untouched u at g g_in ws long b m (Change (Turn j _) 0 (u.p + 1)) within ne; knows = record { at = k.at ∙ sym (rw (ne_eqb _ g ne) refl); round = tt; met = λ e. absurd (ne e); dirty = λ c e. k.dirty refl e; soils = λ e. absurd (ne e); joins = tt; told = tt; heard = tt; homes = λ e. absurd (ne e); times = λ e. absurd (ne e) } }
