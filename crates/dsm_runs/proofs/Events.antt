-- What one event changes, and what it leaves alone.
use Rattle.std.proofs.Common.{◌≡◌, ◌≢◌, ℕ, ◌+◌, ◌*◌, Bool, true, false, List, [], ◌∷◌, length, Option, Some, None, refl, sym, ap, ◌∙◌, subst, if◌then◌else◌, ◌==◌, length-set, arith}
use Rattle.std.specs.Prelude.{slice_get, slice_set, slice_index}
use Rattle.std.proofs.lemmas.Bool.{eqb-true, eqb-false}
use Rattle.dsm_words.specs.Place.{Lay, place}
use Rattle.dsm_words.specs.Script.{Act, Get, Put, Swap, Change, Add, Or, item_of}
use Rattle.dsm_words.specs.Words.{done}
use Rattle.dsm_words.proofs.WordLaws.{length-done}
use Rattle.dsm_protocol.specs.Processors.{Processor, Given, processor_of, after_given, new_processor}
use Rattle.dsm_runs.specs.Setups.{Setup, lay_in, who_at}
use Rattle.dsm_runs.specs.Clusters.{Cluster, Event, stays, start, act_in, moved, moved_if, after_loose, after_all_loose, given_in, given_if, given_more, given_behind}
use Rattle.dsm_runs.specs.Laws.{LeavesOtherProcessors, LeavesOtherWords, KeepsLengths, EveryProcessorIsGiven}
use Rattle.dsm_runs.proofs.Lists.{slice_get-set_same, slice_get-set_other, some_one, slice_get-map-range_with_len}

-- what holds of the state as it is, and of the state after the event of each processor that may go, holds behind the event
pub by_cases : (s : Setup) (c : Cluster) (e : Event) (any : Option ℕ) (P : Cluster → Type 0) → P c → ((m : Processor) → slice_get c.processors e.p ≡ Some m → stays e.starved m.todo ≡ false → P (moved s c e any m)) → P (after_loose s c e any)
unfolding after_loose
by_cases s c e any P same one = go (slice_get c.processors e.p) refl
  where
    at : (m : Processor) → slice_get c.processors e.p ≡ Some m → (b : Bool) → stays e.starved m.todo ≡ b → P (if b then c else moved s c e any m)
    at m here true goes = same
    at m here false goes = one m here goes

    go : (o : Option Processor) → slice_get c.processors e.p ≡ o → P (moved_if s c e any o)
    go None here = same
    go (Some m) here = at m here (stays e.starved m.todo) refl

pub leaves_processors : LeavesOtherProcessors
leaves_processors s c e any q ne =
    by_cases s c e any (λ d. slice_get d.processors q ≡ slice_get c.processors q) refl (λ m here goes. slice_get-set_other c.processors e.p q _ ne)

-- an operation changes its word alone
done_other : (l : Lay) (ws : List ℕ) (a : Act) (k : ℕ) → k ≢ place l (item_of a) → slice_get (done l ws a) k ≡ slice_get ws k
unfolding done
done_other l ws (Get it) k ne = refl
done_other l ws (Put it v) k ne = slice_get-set_other ws (place l it) k _ ne
done_other l ws (Swap it v) k ne = slice_get-set_other ws (place l it) k _ ne
done_other l ws (Change it old new) k ne = go (slice_index ws (place l it) == old)
  where
    go : (b : Bool) → slice_get (if b then slice_set ws (place l it) new else ws) k ≡ slice_get ws k
    go true = slice_get-set_other ws (place l it) k new ne
    go false = refl
done_other l ws (Add it n) k ne = slice_get-set_other ws (place l it) k _ ne
done_other l ws (Or it bits) k ne = slice_get-set_other ws (place l it) k _ ne

pub leaves_words : LeavesOtherWords
leaves_words s c e any m k at ne =
    by_cases s c e any (λ d. slice_get d.words k ≡ slice_get c.words k) refl
    (λ n here goes. done_other (lay_in s) c.words (act_in s e n) k (subst (λ x. k ≢ place (lay_in s) (item_of (act_in s e x))) (some_one m n (sym at ∙ here)) ne))

pub keeps_lengths : KeepsLengths
keeps_lengths s c e any =
    by_cases s c e any (λ d. (length d.words ≡ length c.words) × (length d.processors ≡ length c.processors)) (refl, refl)
    (λ m here goes. (length-done (lay_in s) c.words (act_in s e m), length-set c.processors e.p _))

-- the processor p of a state is what it was given so far
abbrev IsGiven : Setup → Cluster → ℕ → List Given → Type 0
IsGiven s c p gs = (m : Processor) → slice_get c.processors p ≡ Some m → m ≡ processor_of (who_at s p) s.program.code gs

module _ (s : Setup) where
  -- one that an event moves is behind what this gives it
  moved_given : (c : Cluster) (e : Event) (any : Option ℕ) (m : Processor) (gs : List Given) → slice_get c.processors e.p ≡ Some m → IsGiven s c e.p gs → IsGiven s (moved s c e any m) e.p (given_in s c e any m ∷ gs)
  unfolding processor_of
  moved_given c e any m gs here is n at =
      let new = after_given (who_at s e.p) s.program.code m (given_in s c e any m) in
      some_one n new (sym at ∙ slice_get-set_same c.processors e.p m new here)
      ∙ ap (λ x. after_given (who_at s e.p) s.program.code x (given_in s c e any m)) (is m here)

  event_given : (c : Cluster) (e : Event) (any : Option ℕ) (p : ℕ) (gs : List Given) → IsGiven s c p gs → IsGiven s (after_loose s c e any) p (given_more s c e any p gs)
  unfolding after_loose
  event_given c e any p gs is = go (e.p == p) refl
    where
      at_stays : (m : Processor) → slice_get c.processors e.p ≡ Some m → IsGiven s c e.p gs → (b : Bool) → IsGiven s (if b then c else moved s c e any m) e.p (if b then gs else given_in s c e any m ∷ gs)
      at_stays m here h true = h
      at_stays m here h false = moved_given c e any m gs here h

      own : (o : Option Processor) → slice_get c.processors e.p ≡ o → IsGiven s c e.p gs → IsGiven s (moved_if s c e any o) e.p (given_if s c e any o gs)
      own None here h = h
      own (Some m) here h = at_stays m here h (stays e.starved m.todo)

      go : (b : Bool) → (e.p == p) ≡ b → IsGiven s (after_loose s c e any) p (if b then given_if s c e any (slice_get c.processors e.p) gs else gs)
      go true same =
          let q : e.p ≡ p = eqb-true e.p p same in
          subst (λ k. IsGiven s (moved_if s c e any (slice_get c.processors e.p)) k (given_if s c e any (slice_get c.processors e.p) gs)) q
          (own (slice_get c.processors e.p) refl (subst (λ k. IsGiven s c k gs) (sym q) is))
      go false other = λ m at. is m (sym (leaves_processors s c e any p (λ e'. eqb-false e.p p other (sym e'))) ∙ at)

  events_given : (es : List (Event × Option ℕ)) (c : Cluster) (p : ℕ) (gs : List Given) → IsGiven s c p gs → IsGiven s (after_all_loose s c es) p (given_behind s c es p gs)
  unfolding after_all_loose given_behind
  events_given [] c p gs is = is
  events_given (e ∷ es) c p gs is = events_given es (after_loose s c e.0 e.1) p (given_more s c e.0 e.1 p gs) (event_given c e.0 e.1 p gs is)

  start_given : (p : ℕ) → IsGiven s (start s) p []
  unfolding start processor_of
  start_given p m h =
      let new : ℕ → Processor = λ q. new_processor (who_at s q) s.program.code in
      slice_get-map-range_with_len new (s.nodes * s.procs) 0 p m h ∙ ap new (let z : 0 + p ≡ p = omega arith in z)

pub every_given : EveryProcessorIsGiven
every_given s events p m at = events_given s events (start s) p [] (start_given s p) m at
