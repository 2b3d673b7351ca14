-- The memory of every cluster is flat in each word that is ordered, and no load has a value from nowhere.
use Rattle.std.proofs.Common.{◌≡◌, ◌≢◌, ◌⊎◌, inl, inr, ℕ, zero, suc, ◌+◌, ◌-◌, ◌*◌, ◌/◌, ◌%◌, ◌<◌, ◌≤◌, ◌==◌, Bool, true, false, List, map, None, Some, refl, sym, ap, ◌∙◌, subst, arith, slice_index, if◌then◌else◌}
use Rattle.std.proofs.Math.Nat.{div-add-mod, mod-lt, mod-eq_of_lt}
use Rattle.std.proofs.lemmas.Bool.{cases_eq, ne_eqb}
use Rattle.std.proofs.lemmas.List.FromFn.{get_or-map-range_with_len}
use Rattle.dsm_entry.specs.declared.entry.Entry.{Entry}
use Rattle.dsm_entry.specs.declared.entry.Entry.TheVariants.{Load}
use Rattle.dsm_entry.specs.declared.entry.Place.{Place}
use Rattle.dsm_local.specs.declared.end.End.{End}
use Rattle.dsm_local.specs.declared.end.End.TheVariants.{Halted}
use Rattle.dsm_local.specs.Local.{setting_of}
use Rattle.dsm_words.specs.declared.item.Item.TheVariants.{Frame, Dir, Twined, Turn, Home}
use Rattle.dsm_words.specs.Homes.{home_in, master}
use Rattle.dsm_words.specs.Place.{IsWithin}
use Rattle.dsm_words.specs.Words.{word}
use Rattle.dsm_clock.specs.declared.turns.TurnId.TheVariants.{Page}
use Rattle.dsm_flat.specs.Order.{Holds}
use Rattle.dsm_flat.specs.Flat.{Ordered, Flat, Sourced, Final}
use Rattle.dsm_protocol.specs.Jobs.{Job, Ended, end_of, held_turn}
use Rattle.dsm_protocol.specs.Processors.{ending}
use Rattle.dsm_runs.specs.Setups.{Setup, IsSetup, lay_in, who_at, initial}
use Rattle.dsm_runs.specs.Clusters.{Event, start, exactly, after_all_loose}
use Rattle.dsm_runs.specs.Outcomes.{Ran, Outcome, AllHalted, ran_of}
use Rattle.dsm_runs.specs.Promises.{AllLocal}
use Rattle.dsm_twoway.specs.Promise.{WordPromise}
use Rattle.dsm_runs.specs.Turning.{IsHeld}
use Rattle.dsm_runs.proofs.Promising.{item_of_map, map_of_item}
use Rattle.dsm_runs.proofs.Promising as P
use Rattle.dsm_runs.proofs.Reaching.{reached_is_loose}
use Rattle.dsm_runs.proofs.Seating.{each_turn_is_held}
use Rattle.dsm_ties.proofs.Along.{dir_tied}
use Rattle.dsm_ties.proofs.RunTrails.{every_run}
use Rattle.dsm_releases.specs.Tied.{IsHome}
use Rattle.dsm_copies.specs.Modes.{Mode, Bare, Twinned, Exclusive, is_exclusive}
use Rattle.dsm_copies.specs.Laws.{NoneExclusive}
use Rattle.dsm_copies.specs.Joining.{IsRight}
use Rattle.dsm_twoway.specs.Views.{plain, resting}
use Rattle.dsm_twoway.proofs.Moving.{address, first_value, copies_at, WordTied}
use Rattle.dsm_twoway.proofs.Rights.{now, run, log, ts, history, right}
use Rattle.dsm_twoway.proofs.Closing.{trace_found, halted_at, all_signalled}
use Rattle.dsm_twoway.proofs.Outside.{InMemory, reads_inside, frame_within}

-- the node that a home's word names is the one that is read
home_cases : (x n : ℕ) → 0 < n → x ≤ n → (x ≡ 0) ⊎ (x ≡ suc ((x - 1) % n))
home_cases zero n some low = inl refl
home_cases (suc x) n some low = inr (ap suc (sym (ap (λ y. y % n) (let z : suc x - 1 ≡ x = omega arith in z) ∙ mod-eq_of_lt (let z : x < n = omega (arith, low) in z))))

-- a number is below another or not
in_or_past : (n m : ℕ) → (n < m) ⊎ (m ≤ n)
in_or_past zero zero = inr (omega arith)
in_or_past zero (suc m) = inl (omega arith)
in_or_past (suc n) zero = inr (omega arith)
in_or_past (suc n) (suc m) = go (in_or_past n m)
  where
    go : (n < m) ⊎ (m ≤ n) → (suc n < suc m) ⊎ (suc m ≤ suc n)
    go (inl lt) = inl (omega (arith, lt))
    go (inr le) = inr (omega (arith, le))

-- what is open is exclusive, with or without what it remembers
plain_exclusive : (m : Mode) → is_exclusive (plain m) ≡ is_exclusive m
plain_exclusive Exclusive = refl
plain_exclusive m = refl

-- where a node does not have the page alone, nothing exclusive rests there
resting_shared : (d t : ℕ) → d ≢ 2 → is_exclusive (resting d t) ≡ false
resting_shared d t ne = rw (ne_eqb d 2 ne) (go (t == 1))
  where
    go : (b : Bool) → is_exclusive (if b then Twinned else Bare) ≡ false
    go true = refl
    go false = refl

-- who has ended holds no turn
ended_holds : (j : Job) (e : End) → end_of j ≡ Some e → held_turn j ≡ None
ended_holds (Ended x) e h = refl
ended_holds j e h = absurd (cc h)

-- each trail of exact answers shows the copies of each word
abbrev pub EveryWordIsTied : Type 0
EveryWordIsTied =
    (s : Setup) (is : IsSetup s) (events : List Event) (h g i : ℕ) → h < s.nodes → g < s.program.shape.pages → i < s.program.shape.words
    → IsHome h g (who_at s 0) (every_run s is (map exactly events)).last.words → WordTied s h g i (every_run s is (map exactly events)).trail

-- where all have halted, no node has a page alone
abbrev pub NoneIsAlone : Type 0
NoneIsAlone =
    (s : Setup) (is : IsSetup s) (events : List Event) → AllHalted (ran_of s (after_all_loose s (start s) (map exactly events))).ends
    → (n g : ℕ) → n < s.nodes → g < s.program.shape.pages → word (lay_in s) (after_all_loose s (start s) (map exactly events)).words (Dir n g) ≢ 2

module _ (s : Setup) (is : IsSetup s) (events : List Event) where
  -- what the events leave
  abbrev left : Ran
  left = ran_of s (now s is events)

  -- where all have halted, nobody holds the turn of a copy
  no_turn : AllHalted left.ends → (n g : ℕ) → n < s.nodes → g < s.program.shape.pages → word (lay_in s) (now s is events).words (Turn n g) ≡ 0
  no_turn halted n g n_in g_in = go (each_turn_is_held s (map exactly events) (Page n g) is (n_in, g_in))
    where
      go : (word (lay_in s) (now s is events).words (Turn n g) ≡ 0) ⊎ IsHeld (now s is events) (Page n g) → word (lay_in s) (now s is events).words (Turn n g) ≡ 0
      go (inl z) = z
      go (inr x) =
          let end = halted_at left.ends x.0 (ending x.1) halted (map_of_item ending (now s is events).processors x.0 x.1 x.2) in
          absurd (let none = ended_holds x.1.todo Halted end in cc (none, x.3))

  -- an entry of a trace is no access outside the memory
  inside : AllLocal s left → (x : Place) (e : Entry) → Holds left.traces x e → InMemory (s.program.shape.pages * s.program.shape.words) e
  inside local x e h =
      let t = trace_found left.traces x e h in
      let m = item_of_map (λ m. m.own.trace) (now s is events).processors x.p t.0 t.1 in
      let l = local x.p t.0 (ending m.0) t.1 (map_of_item ending (now s is events).processors x.p m.0 m.1) in
      reads_inside s.program.code (setting_of s.program x.p (s.nodes * s.procs) s.limits.turns) l.1 x.i e t.2

  -- so of a word outside it nothing is asked
  outside : AllLocal s left → (w : ℕ) → s.program.shape.pages * s.program.shape.words ≤ w → WordPromise s left w
  outside local w high =
      record {
        sourced = λ x v h. absurd (never x v h);
        flat = λ ord x v h. absurd (never x v h);
        last = λ ord halted below. absurd (omega (arith, high, below));
      }
    where
      never : (x : Place) (v : ℕ) → Holds left.traces x (Load w v) → ⊥
      never x v h = let a = inside local x (Load w v) h in omega (arith, a, high)

  -- a word of the memory
  module _ (tied : EveryWordIsTied) (shared : NoneIsAlone) (local : AllLocal s left) (w : ℕ) (below : w < s.program.shape.pages * s.program.shape.words) where
    abbrev g : ℕ
    g = w / s.program.shape.words

    abbrev i : ℕ
    i = w % s.program.shape.words

    abbrev h : ℕ
    h = home_in (lay_in s) (now s is events).words g

    within : IsWithin (lay_in s) (Frame h g i)
    within = frame_within (lay_in s) h w (mod-lt _ is.nodes.0) below

    same_words : (run s is events).last.words ≡ (now s is events).words
    same_words = (run s is events).pictures.words

    is_home : IsHome h g (who_at s 0) (run s is events).last.words
    is_home =
        let d = (dir_tied s g within.1 (run s is events).trail).match in
        subst (IsHome h g (who_at s 0)) (sym same_words)
        (home_cases (word (lay_in s) (now s is events).words (Home g)) s.nodes is.nodes.0 (subst (λ x. x ≤ s.nodes) (sym d.home ∙ ap (λ z. word (lay_in s) z (Home g)) same_words) d.low))

    known : WordTied s h g i (run s is events).trail
    known = tied s is events h g i within.0 within.1 within.2 is_home

    is_right : IsRight (ts s is events) (log s is events) (first_value s h g i) (address s h g i) (copies_at s h g i (run s is events).trail)
    is_right = right s is events h g i known

    same_address : address s h g i ≡ w
    same_address = grind (arith, div-add-mod w s.program.shape.words)

    module _ (halted : AllHalted left.ends) where
      -- no node has the page alone
      not_alone : (n : ℕ) → n < s.nodes → word (lay_in s) (run s is events).last.words (Dir n g) ≢ 2
      not_alone n n_in e = shared s is events halted n g n_in within.1 (ap (λ z. word (lay_in s) z (Dir n g)) (sym same_words) ∙ e)

      -- and no copy is exclusive
      none_exclusive : NoneExclusive (copies_at s h g i (run s is events).trail)
      none_exclusive = (sym known.match.words.home_is ∙ ne_eqb _ 2 (not_alone h within.0), λ n. at n (cases_eq n h))
        where
          rests : (n : ℕ) → n ≢ h → n < s.nodes → is_exclusive ((copies_at s h g i (run s is events).trail).nodes n).mode ≡ false
          rests n ne n_in =
              let c = known.match.words.each n (n_in, ne) in
              let free = ap (λ z. word (lay_in s) z (Turn n g)) same_words ∙ no_turn halted n g n_in within.1 in
              sym (plain_exclusive ((copies_at s h g i (run s is events).trail).nodes n).mode)
              ∙ ap is_exclusive (c.rest_is free)
              ∙ resting_shared (word (lay_in s) (run s is events).last.words (Dir n g)) (word (lay_in s) (run s is events).last.words (Twined n g)) (not_alone n n_in)

          bare : (n : ℕ) → (n ≡ h) ⊎ (s.nodes ≤ n) → is_exclusive ((copies_at s h g i (run s is events).trail).nodes n).mode ≡ false
          bare n o = ap is_exclusive (known.match.words.none n o)

          at : (n : ℕ) → (n ≡ h) ⊎ (n ≢ h) → is_exclusive ((copies_at s h g i (run s is events).trail).nodes n).mode ≡ false
          at n (inl e) = bare n (inl e)
          at n (inr ne) = go (in_or_past n s.nodes)
            where
              go : (n < s.nodes) ⊎ (s.nodes ≤ n) → is_exclusive ((copies_at s h g i (run s is events).trail).nodes n).mode ≡ false
              go (inl n_in) = rests n ne n_in
              go (inr past) = bare n (inr past)

    -- the page's word is that at the home
    page_is : slice_index left.pages w ≡ (copies_at s h g i (run s is events).trail).master
    page_is =
        let at : 0 + w ≡ w = omega arith in
        get_or-map-range_with_len (λ v. word (lay_in s) (now s is events).words (master (lay_in s) (now s is events).words v)) 0 (s.program.shape.pages * s.program.shape.words) w w 0 below at
        ∙ ap (λ z. word (lay_in s) z (Frame h g i)) (sym same_words)
        ∙ known.match.words.master_is

    -- so what is promised of it holds
    promise : WordPromise s left w
    promise =
        record {
          sourced = subst (λ a. Sourced left.traces (initial s.program.init a) a) same_address is_right.sourced;
          flat = λ ord. subst (λ a. Flat left.traces (initial s.program.init a) a) same_address (is_right.flat (subst (Ordered left.traces) (sym same_address) ord));
          last = λ ord halted inside.
              subst (λ a. Final left.traces (initial s.program.init a) a (slice_index left.pages w)) same_address
              (subst (Final left.traces (first_value s h g i) (address s h g i)) (sym page_is)
              (is_right.final_value (subst (Ordered left.traces) (sym same_address) ord) (all_signalled s.program.code (λ p. setting_of s.program p (s.nodes * s.procs) s.limits.turns) (now s is events).processors (log s is events) (history s is events) local halted (address s h g i)) (none_exclusive halted)));
        }

module _ (tied : EveryWordIsTied) (shared : NoneIsAlone) where
  -- Every run keeps what is promised of every word.
  pub every_word : (s : Setup) (events : List Event) (ran : Ran) → IsSetup s → Outcome s events ran → (w : ℕ) → WordPromise s ran w
  every_word s events ran is outcome w = subst (λ r. WordPromise s r w) (sym same) (go (in_or_past w (s.program.shape.pages * s.program.shape.words)))
    where
      same : ran ≡ left s is events
      same = sym outcome.leaves ∙ ap (ran_of s) (reached_is_loose s events)

      local : AllLocal s (left s is events)
      local = subst (AllLocal s) same (P.every_run s events ran is outcome).local

      go : (w < s.program.shape.pages * s.program.shape.words) ⊎ (s.program.shape.pages * s.program.shape.words ≤ w) → WordPromise s (left s is events) w
      go (inl below) = promise s is events tied shared local w below
      go (inr high) = outside s is events local w high
