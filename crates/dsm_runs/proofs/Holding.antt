-- Turns and mappings as the words have them.
use Rattle.std.proofs.Common.{◌≡◌, ◌≢◌, ◌⊎◌, ◌↔◌, inl, inr, ℕ, ◌+◌, ◌<◌, ◌≤◌, ◌==◌, Bool, true, false, List, length, Option, Some, None, refl, sym, ap, ◌∙◌, subst, arith, if◌then◌else◌, length-set}
use Rattle.std.specs.Prelude.{slice_set, slice_index}
use Rattle.std.proofs.lemmas.Bool.{cases_eq, eqb-true}
use Rattle.std.proofs.lemmas.List.{get_or-set_same, get_or-set_other}
use Rattle.dsm_words.specs.declared.item.Item.{Item}
use Rattle.dsm_words.specs.declared.item.Item.TheVariants.{Map}
use Rattle.dsm_words.specs.Place.{Lay, IsWithin, processors, total}
use Rattle.dsm_words.specs.Script.{Act, Get, Put, Swap, Change, Add, Or}
use Rattle.dsm_words.specs.Words.{word, done}
use Rattle.dsm_words.proofs.WordLaws.{word_same, word_other}
use Rattle.dsm_clock.specs.declared.turns.TurnId.{TurnId}
use Rattle.dsm_clock.specs.declared.turns.TurnId.TheVariants.{Page, Notices}
use Rattle.dsm_clock.specs.Turns.{turn_item}
use Rattle.dsm_protocol.specs.Own.{Who}
use Rattle.dsm_runs.proofs.Mappings.{IsSparing, word_loaded}
use Rattle.dsm_runs.proofs.Keeping.{IsFree, Frees, Step, Apart, Own_map, Gives_back, maps_with}

-- two turns are the same or not
same_page : (n g m h : ℕ) → (n ≡ m) ⊎ (n ≡ m → ⊥) → (g ≡ h) ⊎ (g ≡ h → ⊥) → (Page n g ≡ Page m h) ⊎ (Page n g ≢ Page m h)
same_page n g m h (inl a) (inl b) = inl (λ i. Page (a i) (b i))
same_page n g m h (inr a) b = inr (λ e. a (cc e))
same_page n g m h (inl a) (inr b) = inr (λ e. b (cc e))

same_notices : (n m : ℕ) → (n ≡ m) ⊎ (n ≡ m → ⊥) → (Notices n ≡ Notices m) ⊎ (Notices n ≢ Notices m)
same_notices n m (inl a) = inl (ap Notices a)
same_notices n m (inr a) = inr (λ e. a (cc e))

pub cases_turn : (a b : TurnId) → (a ≡ b) ⊎ (a ≢ b)
cases_turn (Page n g) (Page m h) = same_page n g m h (cases_eq n m) (cases_eq g h)
cases_turn (Notices n) (Notices m) = same_notices n m (cases_eq n m)
cases_turn (Page n g) (Notices m) = inr (λ e. absurd (cc e))
cases_turn (Notices n) (Page m h) = inr (λ e. absurd (cc e))

item_apart : (a b : TurnId) → a ≢ b → turn_item a ≢ turn_item b
item_apart (Page n g) (Page m h) ne e = let x : n ≡ m = cc e in let y : g ≡ h = cc e in ne (λ i. Page (x i) (y i))
item_apart (Notices n) (Notices m) ne e = let x : n ≡ m = cc e in ne (ap Notices x)
item_apart (Page n g) (Notices m) ne e = absurd (cc e)
item_apart (Notices n) (Page m h) ne e = absurd (cc e)

-- a turn's word is not free, and no mapping's
turn_taken : (t : TurnId) → IsFree (turn_item t) → ⊥
turn_taken (Page n g) f = f
turn_taken (Notices n) f = f

pub turn_no_map : (t : TurnId) (p g : ℕ) → turn_item t ≢ Map p g
turn_no_map (Page n h) p g e = absurd (cc e)
turn_no_map (Notices n) p g e = absurd (cc e)

map_no_turn : (t : TurnId) (p g : ℕ) → Map p g ≢ turn_item t
map_no_turn t p g e = turn_no_map t p g (sym e)

module _ (u : Who) (ws : List ℕ) where
  -- an operation on free words leaves the word of each turn and mapping
  free_kept : (a : Act) (it : Item) → IsSparing u a → Frees a → IsWithin u.lay it → (IsFree it → ⊥) → word u.lay (done u.lay ws a) it ≡ word u.lay ws it
  free_kept (Get jt) it sparing frees there taken = word_loaded u.lay ws jt it
  free_kept (Put jt v) it sparing frees there taken = word_other u.lay ws (Put jt v) it sparing.0 there (λ e. taken (subst IsFree (sym e) frees))
  free_kept (Swap jt v) it sparing frees there taken = word_other u.lay ws (Swap jt v) it sparing.0 there (λ e. taken (subst IsFree (sym e) frees))
  free_kept (Change jt old new) it sparing frees there taken = word_other u.lay ws (Change jt old new) it sparing.0 there (λ e. taken (subst IsFree (sym e) frees))
  free_kept (Add jt n) it sparing frees there taken = word_other u.lay ws (Add jt n) it sparing.0 there (λ e. taken (subst IsFree (sym e) frees))
  free_kept (Or jt bits) it sparing frees there taken = word_other u.lay ws (Or jt bits) it sparing.0 there (λ e. taken (subst IsFree (sym e) frees))

  -- all words stay where an exchange is lost
  module _ (long : length ws ≡ total u.lay) where
    lost_kept : (t : TurnId) (new : ℕ) (it : Item) → IsWithin u.lay (turn_item t) → IsWithin u.lay it → (it ≡ turn_item t) ⊎ (it ≢ turn_item t) → word u.lay ws (turn_item t) ≢ 0 → word u.lay (done u.lay ws (Change (turn_item t) 0 new)) it ≡ word u.lay ws it
    lost_kept t new it there here (inr ne) lost = word_other u.lay ws (Change (turn_item t) 0 new) it there here ne
    lost_kept t new it there here (inl e) lost = subst (λ i. word u.lay (done u.lay ws (Change (turn_item t) 0 new)) i ≡ word u.lay ws i) (sym e) (word_same u.lay ws (Change (turn_item t) 0 new) long there ∙ go (word u.lay ws (turn_item t)) lost)
      where
        go : (w : ℕ) → w ≢ 0 → (if w == 0 then new else w) ≡ w
        go w ne = pick (w == 0) refl
          where
            pick : (b : Bool) → (w == 0) ≡ b → (if b then new else w) ≡ w
            pick true is = absurd (ne (eqb-true w 0 is))
            pick false is = refl

    -- and it becomes the new one where it is won
    won_word : (t : TurnId) (new : ℕ) → IsWithin u.lay (turn_item t) → word u.lay ws (turn_item t) ≡ 0 → word u.lay (done u.lay ws (Change (turn_item t) 0 new)) (turn_item t) ≡ new
    won_word t new there won = word_same u.lay ws (Change (turn_item t) 0 new) long there ∙ ap (λ w. if w == 0 then new else w) won

-- what the words say of processor p, which holds turn t and has these mappings
pub record Says (l : Lay) (ws : List ℕ) (p : ℕ) (t : Option TurnId) (maps : List ℕ) : Type 0 where
  pub turns : (k : TurnId) → IsWithin l (turn_item k) → (word l ws (turn_item k) ≡ p + 1) ↔ (t ≡ Some k)
  pub mapped : (g : ℕ) → g < l.pages → word l ws (Map p g) ≡ slice_index maps g
  pub places : length maps ≡ 256

-- a turn's word is 0, or names a processor
abbrev pub IsOwned : Lay → List ℕ → TurnId → Type 0
IsOwned l ws k = (word l ws (turn_item k) ≡ 0) ⊎ ((q : ℕ) × (q < processors l) × (word l ws (turn_item k) ≡ q + 1))

-- the words of all turns and of a processor's mappings are as before
says_same : (l : Lay) (ws ws' : List ℕ) (q : ℕ) (t : Option TurnId) (maps : List ℕ) → ((k : TurnId) → IsWithin l (turn_item k) → word l ws' (turn_item k) ≡ word l ws (turn_item k)) → ((g : ℕ) → g < l.pages → word l ws' (Map q g) ≡ word l ws (Map q g)) → Says l ws q t maps → Says l ws' q t maps
says_same l ws ws' q t maps turns mapped s =
    record {
      turns = λ k there. (λ h. (s.turns k there).0 (sym (turns k there) ∙ h), λ h. turns k there ∙ (s.turns k there).1 h);
      mapped = λ g h. mapped g h ∙ s.mapped g h;
      places = s.places;
    }

owned_same : (l : Lay) (ws ws' : List ℕ) (k : TurnId) → word l ws' (turn_item k) ≡ word l ws (turn_item k) → IsOwned l ws k → IsOwned l ws' k
owned_same l ws ws' k e (inl z) = inl (e ∙ z)
owned_same l ws ws' k e (inr x) = inr (x.0, x.1, e ∙ x.2)

module _ (u : Who) (ws : List ℕ) (long : length ws ≡ total u.lay) (p_in : u.p < processors u.lay) (few : u.lay.pages ≤ 256) where
  -- what the operation leaves: of the processor itself, of each other, and of each turn
  pub record Leaves (a : Act) (t : Option TurnId) (maps : List ℕ) : Type 0 where
    pub own : Says u.lay (done u.lay ws a) u.p t maps
    pub others : (q : ℕ) (tq : Option TurnId) (mq : List ℕ) → q ≢ u.p → q < processors u.lay → Says u.lay ws q tq mq → Says u.lay (done u.lay ws a) q tq mq
    pub owned : (k : TurnId) → IsWithin u.lay (turn_item k) → IsOwned u.lay ws k → IsOwned u.lay (done u.lay ws a) k

  free_leaves : (a : Act) (t : Option TurnId) (maps : List ℕ) → IsSparing u a → Frees a → Says u.lay ws u.p t maps → Leaves a t maps
  free_leaves a t maps sparing frees s =
      let turn : (k : TurnId) → IsWithin u.lay (turn_item k) → word u.lay (done u.lay ws a) (turn_item k) ≡ word u.lay ws (turn_item k) = λ k there. free_kept u ws a (turn_item k) sparing frees there (turn_taken k) in
      let map : (q g : ℕ) → q < processors u.lay → g < u.lay.pages → word u.lay (done u.lay ws a) (Map q g) ≡ word u.lay ws (Map q g) = λ q g q_in g_in. free_kept u ws a (Map q g) sparing frees (q_in, g_in) (λ x. x) in
      record {
        own = says_same u.lay ws (done u.lay ws a) u.p t maps turn (λ g h. map u.p g p_in h) s;
        others = λ q tq mq ne q_in old. says_same u.lay ws (done u.lay ws a) q tq mq turn (λ g h. map q g q_in h) old;
        owned = λ k there old. owned_same u.lay ws (done u.lay ws a) k (turn k there) old;
      }

  map_leaves : (g m : ℕ) (t : Option TurnId) (maps : List ℕ) → g < u.lay.pages → Says u.lay ws u.p t maps → Leaves (Put (Map u.p g) m) t (slice_set maps g m)
  map_leaves g m t maps g_in s =
      record {
        own = record { turns = λ k there. (λ h. (s.turns k there).0 (sym (turn k there) ∙ h), λ h. turn k there ∙ (s.turns k there).1 h); mapped = λ h h_in. own h h_in (cases_eq h g); places = length-set maps g m ∙ s.places };
        others = λ q tq mq ne q_in old. says_same u.lay ws ws' q tq mq turn (λ h h_in. word_other u.lay ws (Put (Map u.p g) m) (Map q h) (p_in, g_in) (q_in, h_in) (λ e. ne (cc e))) old;
        owned = λ k there old. owned_same u.lay ws ws' k (turn k there) old;
      }
    where
      ws' : List ℕ
      ws' = done u.lay ws (Put (Map u.p g) m)

      turn : (k : TurnId) → IsWithin u.lay (turn_item k) → word u.lay (done u.lay ws (Put (Map u.p g) m)) (turn_item k) ≡ word u.lay ws (turn_item k)
      turn k there = word_other u.lay ws (Put (Map u.p g) m) (turn_item k) (p_in, g_in) there (turn_no_map k u.p g)

      own : (h : ℕ) → h < u.lay.pages → (h ≡ g) ⊎ (h ≡ g → ⊥) → word u.lay (done u.lay ws (Put (Map u.p g) m)) (Map u.p h) ≡ slice_index (slice_set maps g m) h
      own h h_in (inl e) = rw e (word_same u.lay ws (Put (Map u.p g) m) long (p_in, g_in) ∙ sym (get_or-set_same maps g m 0 (omega (arith, s.places, g_in, few))))
      own h h_in (inr ne) = word_other u.lay ws (Put (Map u.p g) m) (Map u.p h) (p_in, g_in) (p_in, h_in) (λ e. ne (cc e)) ∙ (s.mapped h h_in ∙ sym (get_or-set_other maps g h m 0 ne))

  give_leaves : (turn : TurnId) (maps : List ℕ) → IsWithin u.lay (turn_item turn) → Says u.lay ws u.p (Some turn) maps → Leaves (Put (turn_item turn) 0) None maps
  give_leaves turn maps within s =
      record {
        own = record { turns = λ k there. own k there (cases_turn turn k); mapped = λ g h. map u.p g p_in h ∙ s.mapped g h; places = s.places };
        others = λ q tq mq ne q_in old. record { turns = λ k there. other q tq mq ne old k there (cases_turn turn k); mapped = λ g h. map q g q_in h ∙ old.mapped g h; places = old.places };
        owned = λ k there old. owned k there (cases_turn turn k) old;
      }
    where
      zero_now : word u.lay (done u.lay ws (Put (turn_item turn) 0)) (turn_item turn) ≡ 0
      zero_now = word_same u.lay ws (Put (turn_item turn) 0) long within

      kept : (k : TurnId) → IsWithin u.lay (turn_item k) → turn ≢ k → word u.lay (done u.lay ws (Put (turn_item turn) 0)) (turn_item k) ≡ word u.lay ws (turn_item k)
      kept k there ne = word_other u.lay ws (Put (turn_item turn) 0) (turn_item k) within there (item_apart k turn (λ e. ne (sym e)))

      map : (q g : ℕ) → q < processors u.lay → g < u.lay.pages → word u.lay (done u.lay ws (Put (turn_item turn) 0)) (Map q g) ≡ word u.lay ws (Map q g)
      map q g q_in g_in = word_other u.lay ws (Put (turn_item turn) 0) (Map q g) within (q_in, g_in) (map_no_turn turn q g)

      own : (k : TurnId) → IsWithin u.lay (turn_item k) → (turn ≡ k) ⊎ (turn ≢ k) → (word u.lay (done u.lay ws (Put (turn_item turn) 0)) (turn_item k) ≡ u.p + 1) ↔ (None ≡ Some k)
      own k there (inl e) = (λ h. absurd (let z = subst (λ i. word u.lay (done u.lay ws (Put (turn_item turn) 0)) (turn_item i) ≡ 0) e zero_now in omega (arith, z, h)), λ h. absurd (cc h))
      own k there (inr ne) = (λ h. absurd (let z : Some turn ≡ Some k = (s.turns k there).0 (sym (kept k there ne) ∙ h) in ne (cc z)), λ h. absurd (cc h))

      other : (q : ℕ) (tq : Option TurnId) (mq : List ℕ) → q ≢ u.p → Says u.lay ws q tq mq → (k : TurnId) → IsWithin u.lay (turn_item k) → (turn ≡ k) ⊎ (turn ≢ k) → (word u.lay (done u.lay ws (Put (turn_item turn) 0)) (turn_item k) ≡ q + 1) ↔ (tq ≡ Some k)
      other q tq mq ne old k there (inl e) = (
        λ h. absurd (let z = subst (λ i. word u.lay (done u.lay ws (Put (turn_item turn) 0)) (turn_item i) ≡ 0) e zero_now in omega (arith, z, h)),
        λ h. absurd (let z : word u.lay ws (turn_item k) ≡ u.p + 1 = (s.turns k there).1 (ap Some e) in let y = (old.turns k there).1 h in let x : q ≡ u.p = omega (arith, z, y) in ne x),
      )
      other q tq mq ne old k there (inr apart) = (λ h. (old.turns k there).0 (sym (kept k there apart) ∙ h), λ h. kept k there apart ∙ (old.turns k there).1 h)

      owned : (k : TurnId) → IsWithin u.lay (turn_item k) → (turn ≡ k) ⊎ (turn ≢ k) → IsOwned u.lay ws k → IsOwned u.lay (done u.lay ws (Put (turn_item turn) 0)) k
      owned k there (inl e) old = inl (subst (λ i. word u.lay (done u.lay ws (Put (turn_item turn) 0)) (turn_item i) ≡ 0) e zero_now)
      owned k there (inr ne) old = owned_same u.lay ws (done u.lay ws (Put (turn_item turn) 0)) k (kept k there ne) old

  pub take_leaves : (turn : TurnId) (maps : List ℕ) → IsWithin u.lay (turn_item turn) → word u.lay ws (turn_item turn) ≡ 0 → Says u.lay ws u.p None maps → Leaves (Change (turn_item turn) 0 (u.p + 1)) (Some turn) maps
  take_leaves turn maps within won s =
      record {
        own = record { turns = λ k there. own k there (cases_turn turn k); mapped = λ g h. map u.p g p_in h ∙ s.mapped g h; places = s.places };
        others = λ q tq mq ne q_in old. record { turns = λ k there. other q tq mq ne old k there (cases_turn turn k); mapped = λ g h. map q g q_in h ∙ old.mapped g h; places = old.places };
        owned = λ k there old. owned k there (cases_turn turn k) old;
      }
    where
      now : (k : TurnId) → turn ≡ k → word u.lay (done u.lay ws (Change (turn_item turn) 0 (u.p + 1))) (turn_item k) ≡ u.p + 1
      now k e = subst (λ i. word u.lay (done u.lay ws (Change (turn_item turn) 0 (u.p + 1))) (turn_item i) ≡ u.p + 1) e (won_word u ws long turn (u.p + 1) within won)

      kept : (k : TurnId) → IsWithin u.lay (turn_item k) → turn ≢ k → word u.lay (done u.lay ws (Change (turn_item turn) 0 (u.p + 1))) (turn_item k) ≡ word u.lay ws (turn_item k)
      kept k there ne = word_other u.lay ws (Change (turn_item turn) 0 (u.p + 1)) (turn_item k) within there (item_apart k turn (λ e. ne (sym e)))

      map : (q g : ℕ) → q < processors u.lay → g < u.lay.pages → word u.lay (done u.lay ws (Change (turn_item turn) 0 (u.p + 1))) (Map q g) ≡ word u.lay ws (Map q g)
      map q g q_in g_in = word_other u.lay ws (Change (turn_item turn) 0 (u.p + 1)) (Map q g) within (q_in, g_in) (map_no_turn turn q g)

      own : (k : TurnId) → IsWithin u.lay (turn_item k) → (turn ≡ k) ⊎ (turn ≢ k) → (word u.lay (done u.lay ws (Change (turn_item turn) 0 (u.p + 1))) (turn_item k) ≡ u.p + 1) ↔ (Some turn ≡ Some k)
      own k there (inl e) = (λ h. ap Some e, λ h. now k e)
      own k there (inr ne) = (λ h. absurd (let z : None ≡ Some k = (s.turns k there).0 (sym (kept k there ne) ∙ h) in cc z), λ h. absurd (ne (cc h)))

      other : (q : ℕ) (tq : Option TurnId) (mq : List ℕ) → q ≢ u.p → Says u.lay ws q tq mq → (k : TurnId) → IsWithin u.lay (turn_item k) → (turn ≡ k) ⊎ (turn ≢ k) → (word u.lay (done u.lay ws (Change (turn_item turn) 0 (u.p + 1))) (turn_item k) ≡ q + 1) ↔ (tq ≡ Some k)
      other q tq mq ne old k there (inl e) = (
        λ h. absurd (let z = now k e in let x : q ≡ u.p = omega (arith, z, h) in ne x),
        λ h. absurd (let z = subst (λ i. word u.lay ws (turn_item i) ≡ 0) e won in let y = (old.turns k there).1 h in omega (arith, z, y)),
      )
      other q tq mq ne old k there (inr apart) = (λ h. (old.turns k there).0 (sym (kept k there apart) ∙ h), λ h. kept k there apart ∙ (old.turns k there).1 h)

      owned : (k : TurnId) → IsWithin u.lay (turn_item k) → (turn ≡ k) ⊎ (turn ≢ k) → IsOwned u.lay ws k → IsOwned u.lay (done u.lay ws (Change (turn_item turn) 0 (u.p + 1))) k
      owned k there (inl e) old = inr (u.p, p_in, now k e)
      owned k there (inr ne) old = owned_same u.lay ws (done u.lay ws (Change (turn_item turn) 0 (u.p + 1))) k (kept k there ne) old

  pub lost_leaves : (turn : TurnId) (new : ℕ) (t : Option TurnId) (maps : List ℕ) → IsWithin u.lay (turn_item turn) → word u.lay ws (turn_item turn) ≢ 0 → Says u.lay ws u.p t maps → Leaves (Change (turn_item turn) 0 new) t maps
  lost_leaves turn new t maps within lost s =
      record {
        own = says_same u.lay ws (done u.lay ws (Change (turn_item turn) 0 new)) u.p t maps same (λ g h. map u.p g p_in h) s;
        others = λ q tq mq ne q_in old. says_same u.lay ws (done u.lay ws (Change (turn_item turn) 0 new)) q tq mq same (λ g h. map q g q_in h) old;
        owned = λ k there old. owned_same u.lay ws (done u.lay ws (Change (turn_item turn) 0 new)) k (same k there) old;
      }
    where
      either : (k : TurnId) → (turn ≡ k) ⊎ (turn ≢ k) → (turn_item k ≡ turn_item turn) ⊎ (turn_item k ≢ turn_item turn)
      either k (inl e) = inl (ap turn_item (sym e))
      either k (inr ne) = inr (item_apart k turn (λ e. ne (sym e)))

      same : (k : TurnId) → IsWithin u.lay (turn_item k) → word u.lay (done u.lay ws (Change (turn_item turn) 0 new)) (turn_item k) ≡ word u.lay ws (turn_item k)
      same k there = lost_kept u ws long turn new (turn_item k) within there (either k (cases_turn turn k)) lost

      map : (q g : ℕ) → q < processors u.lay → g < u.lay.pages → word u.lay (done u.lay ws (Change (turn_item turn) 0 new)) (Map q g) ≡ word u.lay ws (Map q g)
      map q g q_in g_in = word_other u.lay ws (Change (turn_item turn) 0 new) (Map q g) within (q_in, g_in) (map_no_turn turn q g)

  -- each operation of a job leaves the words as the job says
  pub step_leaves : {t t' : Option TurnId} {a : Act} {w : Option (ℕ × ℕ)} (maps : List ℕ) → Step u t a t' w → IsSparing u a → Says u.lay ws u.p t maps → Leaves a t' (maps_with w maps)
  step_leaves maps (Apart frees) sparing s = free_leaves _ _ maps sparing frees s
  step_leaves maps (Own_map g m g_in) sparing s = map_leaves g m _ maps g_in s
  step_leaves maps (Gives_back turn within) sparing s = give_leaves turn maps within s
