-- How far the clocks get: over every list of loose events a node's clock, with the draws that are left to its processors, is bounded by the
-- instructions that they have done.
use Rattle.std.proofs.Common.{◌≡◌, ◌≢◌, ◌⊎◌, inl, inr, ℕ, ◌+◌, ◌*◌, ◌^◌, ◌<◌, ◌≤◌, ◌==◌, Bool, true, false, List, [], ◌∷◌, length, length-set, Option, None, Some, refl, sym, ap, ◌∙◌, subst, if◌then◌else◌, arith}
use Rattle.std.specs.Prelude.{slice_get, nat_lt}
use Rattle.std.proofs.Math.Nat.{lt-div-mul-add, div-mul-le_self}
use Rattle.std.proofs.lemmas.Bool.{cases_eq, eq-eqb, ne_eqb, ltb-true, ltb-false}
use Rattle.std.proofs.lemmas.Nat.{mul-le}
use Rattle.std.proofs.lemmas.Option.{slice_get_within}
use Rattle.dsm_words.specs.declared.item.Item.TheVariants.{Clock}
use Rattle.dsm_words.specs.Place.{total}
use Rattle.dsm_words.specs.Words.{word}
use Rattle.dsm_words.proofs.WordLaws.{length-done}
use Rattle.dsm_protocol.specs.Own.{Who}
use Rattle.dsm_protocol.specs.Processors.{Processor, IsMade, new_processor, wanting, after_given}
use Rattle.dsm_protocol.specs.Stages.{Work, Gone}
use Rattle.dsm_protocol.specs.Standing.{Stands, Moves, starts_from}
use Rattle.dsm_protocol.proofs.Moving.{every_processor_stands}
use Rattle.dsm_protocol.proofs.Placed.{placed}
use Rattle.dsm_protocol.proofs.Reading.{IsMade-new, IsMade-starved, IsMade-after}
use Rattle.dsm_runs.specs.Setups.{Setup, IsSetup, lay_in, who_at}
use Rattle.dsm_runs.specs.Clusters.{Cluster, Event, start, act_in, given_in, moved, after_loose, after_all_loose}
use Rattle.dsm_runs.proofs.Events.{by_cases}
use Rattle.dsm_runs.proofs.Lists.{slice_get-set_same, slice_get-set_other, slice_get-map-range_with_len, some_one}
use Rattle.dsm_runs.proofs.Starting.{length-processors, length-words, starts_by_items}
use Rattle.dsm_ties.specs.Always.{AlwaysLoosely}
use Rattle.dsm_ties.specs.Clocks.{most_draws, draws_left, sum_from, done_in, done_by, ClockBound, ClocksStand}
use Rattle.dsm_ties.proofs.Done.{few_done}
use Rattle.dsm_ties.proofs.Drawing.{act_draws, moves_draws, starts_draws, most_left}
use Rattle.dsm_ties.proofs.Places.{event_row}
use Rattle.dsm_ties.proofs.Sums.{sum_le, sum_most, sum_three, only_at, sum_only}
use Rattle.dsm_ties.proofs.Ticking.{Ticks, does_ticks}

-- the draws that are left to processor p, where each stands there
abbrev left : Setup → (ℕ → Work) → ℕ → ℕ
left s at p = draws_left (who_at s p) (at p)

-- those of the instructions that it has done, and of one more
abbrev allowed : Setup → Cluster → ℕ → ℕ
allowed s c p = (done_by c p + 1) * most_draws (who_at s p)

-- all processors of a state have this
abbrev Each : (ℕ → Processor → Type 0) → Cluster → Type 0
Each Q c = (p : ℕ) (m : Processor) → slice_get c.processors p ≡ Some m → Q p m

-- what a list of events keeps, with the place at which each processor stands
record Bounded (s : Setup) (c : Cluster) : Type 0 where
  at : ℕ → Work
  words : length c.words ≡ total (lay_in s)
  processors : length c.processors ≡ s.nodes * s.procs
  made : Each (λ p m. IsMade (who_at s p) s.program.code m) c
  stands : Each (λ p m. Stands (who_at s p) (at p) m) c
  begun : (n : ℕ) → n < s.nodes → 1 ≤ word (lay_in s) c.words (Clock n)
  clocks : (n : ℕ) → n < s.nodes → word (lay_in s) c.words (Clock n) + sum_from (left s at) (n * s.procs) s.procs ≤ 1 + sum_from (allowed s c) (n * s.procs) s.procs

-- a clock with these draws left is within what its processors may draw
module _ (s : Setup) (is : IsSetup s) where
  -- the most that a processor may have drawn
  most_of : (c : Cluster) → length c.processors ≡ s.nodes * s.procs → Each (λ p m. IsMade (who_at s p) s.program.code m) c → (p : ℕ) → allowed s c p ≤ 1000001 * 2305
  most_of c sized made p = mul-le (done_by c p + 1) (s.nodes * s.program.shape.pages + s.program.shape.pages + 1) 1000001 2305 (let h = few (slice_get c.processors p) refl in omega (arith, h)) each
    where
      each : s.nodes * s.program.shape.pages + s.program.shape.pages + 1 ≤ 2305
      each = let h = mul-le s.nodes s.program.shape.pages 8 256 is.nodes.1 is.sizes.1 in let k = is.sizes.1 in omega (arith, h, k)

      few : (o : Option Processor) → slice_get c.processors p ≡ o → done_in o ≤ 1000000
      few None at = omega arith
      few (Some m) at =
          let p_in : p < s.nodes * s.procs = subst (λ n. p < n) sized (slice_get_within _ p m at) in
          let h = few_done (who_at s p) s.program.code (placed (who_at s p) p_in) m (made p m at) in
          let k = is.turns in
          omega (arith, h, k)

  below : (c : Cluster) → Bounded s c → (n : ℕ) → n < s.nodes → word (lay_in s) c.words (Clock n) < 2 ^ 37
  below c b n n_in =
      let h = b.clocks n n_in in
      let k = sum_most (allowed s c) (1000001 * 2305) (most_of c b.processors b.made) (n * s.procs) s.procs in
      let l = mul-le s.procs (1000001 * 2305) 8 (1000001 * 2305) is.procs.1 (omega arith) in
      omega (arith, h, k, l)

  -- the sums of one processor before and behind an event
  balance : (v cost from w d e most a o k l : ℕ) → a ≡ v → o ≡ cost → k ≡ d → l ≡ e → v + cost + d * most ≤ from + e * most → from ≤ w → a + o + (k + 1) * most ≤ w + (l + 1) * most
  balance v cost from w d e most a o k l p q r t h g =
      let x : (d + 1) * most ≡ d * most + most = grind arith in
      let y : (e + 1) * most ≡ e * most + most = grind arith in
      rw (p, q, r, t) (omega (arith, h, g, x, y))

  -- an event that can be, by which processor m comes to v
  module _ (c : Cluster) (b : Bounded s c) (e : Event) (any : Option ℕ) (m : Processor) (here : slice_get c.processors e.p ≡ Some m) (v : Work)
      (stands : Stands (who_at s e.p) v (after_given (who_at s e.p) s.program.code m (given_in s c e any m)))
      (goes : Moves (who_at s e.p) (starts_from e.starved (b.at e.p)) m.own (act_in s e m) (given_in s c e any m).got v (after_given (who_at s e.p) s.program.code m (given_in s c e any m)))
    where
      abbrev me : Who
      me = who_at s e.p

      abbrev new : Processor
      new = after_given me s.program.code m (given_in s c e any m)

      abbrev behind : Cluster
      behind = moved s c e any m

      abbrev cost : ℕ
      cost = act_draws (act_in s e m)

      abbrev places : ℕ → Work
      places q = if q == e.p then v else b.at q

      place_same : places e.p ≡ v
      place_same = ap (λ x. if x then v else b.at e.p) (eq-eqb e.p e.p refl)

      place_other : (q : ℕ) → q ≢ e.p → places q ≡ b.at q
      place_other q ne = ap (λ x. if x then v else b.at q) (ne_eqb q e.p ne)

      -- what holds of it, and held of each other processor, holds of each
      each_moved : (Q : ℕ → Processor → Type 0) → Q e.p new → ((q : ℕ) (z : Processor) → q ≢ e.p → slice_get c.processors q ≡ Some z → Q q z) → Each Q behind
      each_moved Q h k q z at = go (cases_eq q e.p)
        where
          go : (q ≡ e.p) ⊎ (q ≡ e.p → ⊥) → Q q z
          go (inl x) =
              let same : new ≡ z = some_one new z (sym (slice_get-set_same c.processors e.p m new here) ∙ ap (slice_get behind.processors) (sym x) ∙ at) in
              subst (λ p. Q p z) (sym x) (subst (Q e.p) same h)
          go (inr ne) = k q z ne (sym (slice_get-set_other c.processors e.p q new ne) ∙ at)

      made_new : IsMade me s.program.code new
      made_new = IsMade-after me me s.program.code (wanting me e.starved m) new (given_in s c e any m).got refl refl (wanted e.starved)
        where
          wanted : (starved : Bool) → IsMade me s.program.code (wanting me starved m)
          wanted true = IsMade-starved me s.program.code m (b.made e.p m here)
          wanted false = b.made e.p m here

      each_sum : (q : ℕ) → left s places q + only_at e.p cost q + allowed s c q ≤ left s b.at q + allowed s behind q
      each_sum q = go (cases_eq q e.p)
        where
          own : left s places e.p + only_at e.p cost e.p + allowed s c e.p ≤ left s b.at e.p + allowed s behind e.p
          own =
              balance (draws_left me v) cost (draws_left me (starts_from e.starved (b.at e.p))) (left s b.at e.p) m.own.reader.done new.own.reader.done (most_draws me)
              (left s places e.p) (only_at e.p cost e.p) (done_by c e.p) (done_by behind e.p)
              (ap (draws_left me) place_same) (ap (λ x. if x then cost else 0) (eq-eqb e.p e.p refl))
              (ap done_in here) (ap done_in (slice_get-set_same c.processors e.p m new here))
              (moves_draws me goes) (starts_draws me e.starved (b.at e.p))

          go : (q ≡ e.p) ⊎ (q ≡ e.p → ⊥) → left s places q + only_at e.p cost q + allowed s c q ≤ left s b.at q + allowed s behind q
          go (inl x) = subst (λ p. left s places p + only_at e.p cost p + allowed s c p ≤ left s b.at p + allowed s behind p) (sym x) own
          go (inr ne) =
              let x : left s places q ≡ left s b.at q = ap (draws_left (who_at s q)) (place_other q ne) in
              let y : only_at e.p cost q ≡ 0 = ap (λ z. if z then cost else 0) (ne_eqb q e.p ne) in
              let z : allowed s behind q ≡ allowed s c q = ap (λ o. (done_in o + 1) * most_draws (who_at s q)) (slice_get-set_other c.processors e.p q new ne) in
              omega (arith, x, y, z)

      ticked : (n : ℕ) → n < s.nodes → Ticks me c.words n (act_in s e m)
      ticked n n_in = does_ticks me c.words n b.words n_in goes.row

      begun_behind : (n : ℕ) → n < s.nodes → 1 ≤ word (lay_in s) behind.words (Clock n)
      begun_behind n n_in = go (ticked n n_in)
        where
          go : Ticks me c.words n (act_in s e m) → 1 ≤ word (lay_in s) behind.words (Clock n)
          go (inl x) = let h = b.begun n n_in in omega (arith, x, h)
          go (inr x) = let h = below c b n n_in in let k = x.2 in omega (arith, k, h)

      clocks_behind : (n : ℕ) → n < s.nodes → word (lay_in s) behind.words (Clock n) + sum_from (left s places) (n * s.procs) s.procs ≤ 1 + sum_from (allowed s behind) (n * s.procs) s.procs
      clocks_behind n n_in = go (ticked n n_in)
        where
          go : Ticks me c.words n (act_in s e m) → word (lay_in s) behind.words (Clock n) + sum_from (left s places) (n * s.procs) s.procs ≤ 1 + sum_from (allowed s behind) (n * s.procs) s.procs
          go (inl x) =
              let h = b.clocks n n_in in
              let k = sum_three (left s places) (only_at e.p cost) (allowed s c) (left s b.at) (allowed s behind) each_sum (n * s.procs) s.procs in
              omega (arith, x, h, k)
          go (inr x) =
              let h = b.clocks n n_in in
              let k = sum_three (left s places) (only_at e.p cost) (allowed s c) (left s b.at) (allowed s behind) each_sum (n * s.procs) s.procs in
              let from : n * s.procs ≤ e.p = subst (λ i. i * s.procs ≤ e.p) (sym x.0) (div-mul-le_self e.p s.procs) in
              let to : e.p < n * s.procs + s.procs = subst (λ i. e.p < i * s.procs + s.procs) (sym x.0) (lt-div-mul-add is.procs.0) in
              let o = sum_only e.p cost (n * s.procs) s.procs from to in
              let y = x.1 in
              let z = x.2 in
              omega (arith, h, k, o, y, z)

      moved_bounded : Bounded s behind
      moved_bounded = record {
        at = places;
        words = length-done (lay_in s) c.words (act_in s e m) ∙ b.words;
        processors = length-set c.processors e.p new ∙ b.processors;
        made = each_moved (λ p n. IsMade (who_at s p) s.program.code n) made_new (λ q z ne at. b.made q z at);
        stands = each_moved (λ p n. Stands (who_at s p) (places p) n) (subst (λ w. Stands me w new) (sym place_same) stands) (λ q z ne at. subst (λ w. Stands (who_at s q) w z) (sym (place_other q ne)) (b.stands q z at));
        begun = begun_behind;
        clocks = clocks_behind;
      }

  event_bounded : (c : Cluster) (e : Event) (any : Option ℕ) → Bounded s c → Bounded s (after_loose s c e any)
  event_bounded c e any b =
      by_cases s c e any (Bounded s) b
      (λ m here goes.
      let e_in : e.p < s.nodes * s.procs = subst (λ n. e.p < n) b.processors (slice_get_within c.processors e.p m here) in
      let r = event_row s c e any m (b.at e.p) e_in goes (b.stands e.p m here) in
      moved_bounded c b e any m here r.0 r.1 r.2)

  events_bounded : (es : List (Event × Option ℕ)) (c : Cluster) → Bounded s c → Bounded s (after_all_loose s c es)
  unfolding after_all_loose
  events_bounded [] c b = b
  events_bounded (e ∷ es) c b = events_bounded es (after_loose s c e.0 e.1) (event_bounded c e.0 e.1 b)

  -- each processor stands somewhere at the start
  abbrev first : ℕ → Processor
  first p = new_processor (who_at s p) s.program.code

  first_if : (p : ℕ) (b : Bool) → nat_lt p (s.nodes * s.procs) ≡ b → Work
  first_if p true h = (every_processor_stands (who_at s p) s.program.code (first p) (ltb-true _ _ h) (IsMade-new (who_at s p) s.program.code)).0
  first_if p false h = Gone

  first_place : ℕ → Work
  first_place p = first_if p (nat_lt p (s.nodes * s.procs)) refl

  first_stands : (p : ℕ) → p < s.nodes * s.procs → Stands (who_at s p) (first_place p) (first p)
  unfolding first_if first_place
  first_stands p p_in = go (nat_lt p (s.nodes * s.procs)) refl
    where
      go : (b : Bool) (h : nat_lt p (s.nodes * s.procs) ≡ b) → Stands (who_at s p) (first_if p b h) (first p)
      go true h = (every_processor_stands (who_at s p) s.program.code (first p) (ltb-true _ _ h) (IsMade-new (who_at s p) s.program.code)).1
      go false h = let k = ltb-false p (s.nodes * s.procs) h in absurd (omega (arith, k))

  start_first : Each (λ p m. m ≡ first p) (start s)
  unfolding start
  start_first p m at = slice_get-map-range_with_len first (s.nodes * s.procs) 0 p m at ∙ ap first (let z : 0 + p ≡ p = omega arith in z)

  first_left : (p : ℕ) → left s first_place p ≤ allowed s (start s) p
  first_left p =
      let h = most_left (who_at s p) (first_place p) in
      let k = mul-le 1 (most_draws (who_at s p)) (done_by (start s) p + 1) (most_draws (who_at s p)) (omega arith) (omega arith) in
      omega (arith, h, k)

  start_bounded : Bounded s (start s)
  start_bounded = record {
    at = first_place;
    words = length-words s;
    processors = length-processors s;
    made = λ p m at. subst (λ n. IsMade (who_at s p) s.program.code n) (sym (start_first p m at)) (IsMade-new (who_at s p) s.program.code);
    stands = λ p m at. subst (λ n. Stands (who_at s p) (first_place p) n) (sym (start_first p m at)) (first_stands p (subst (λ n. p < n) (length-processors s) (slice_get_within _ p m at)));
    begun = λ n n_in. let h = starts_by_items s (Clock n) n_in in omega (arith, h);
    clocks = λ n n_in.
        let h = starts_by_items s (Clock n) n_in in
        let k = sum_le (left s first_place) (allowed s (start s)) first_left (n * s.procs) s.procs in
        omega (arith, h, k);
  }

bounded : (s : Setup) (events : List (Event × Option ℕ)) → IsSetup s → Bounded s (after_all_loose s (start s) events)
bounded s events is = events_bounded s is events (start s) (start_bounded s is)

pub clock_bound : AlwaysLoosely ClockBound
clock_bound s events is n n_in = let h = (bounded s events is).clocks n n_in in omega (arith, h)

pub clocks_stand : AlwaysLoosely ClocksStand
clocks_stand s events is n n_in =
    let b = bounded s events is in
    let h = b.begun n n_in in
    (λ z. omega (arith, z, h), below s is (after_all_loose s (start s) events) b n n_in)
