-- The first seat takes in the others.
use Rattle.std.proofs.Common.{◌≡◌, ℕ, suc, List, [], ◌∷◌, ◌++◌, length, Some, refl, sym, ap, subst, inl, inr, ◌∙◌, ◌⊎◌, zero}
use Rattle.std.specs.Prelude.{slice_get}
use Rattle.dsm_flat.proofs.Lists.{get_push, get_push_old, get_push_new}
use Rattle.dsm_machine.specs.declared.machine.Machine.{Machine}
use Rattle.dsm_machine.specs.Machines.{processor_in}
use Rattle.dsm_protocol.specs.Processors.{Given}
use Rattle.dsm_runs.specs.Setups.{Setup, who_at}
use Rattle.dsm_runs.proofs.Lists.{some_one}
use Rattle.dsm_runner.specs.Sights.{Sight, full_sight, processor_at}
use Rattle.dsm_runner.specs.Holds.{IsHeld}
use Rattle.dsm_runner.specs.Machines.{IsMachine, AreGiven, joined_sight}
use Rattle.dsm_runner.specs.declared.worker.Worker.TheInside.{Inside}

-- the first seat, before it takes in any
pub first_shape : (s : Setup) (p : ℕ) (given : List Given) (v : Sight) → v ≡ full_sight s p given → p ≡ 0 → v ≡ joined_sight s (given ∷ [])
first_shape s p given v e n = e ∙ ap (λ q. full_sight s q given) n

-- it is told by what it knows
pub shape_of : (s : Setup) (given : List Given) (all : List (List Given)) (v : Sight) → v ≡ joined_sight s (given ∷ all) → v ≡ joined_sight s (v.given ∷ v.joined)
shape_of s given all v e = e ∙ (λ i. joined_sight s ((sym e i).given ∷ (sym e i).joined))

-- a worker's machine is that of its processor
pub machine_is : (s : Setup) (p : ℕ) (w : Inside) → IsHeld w → w.seat.me.0.setup ≡ s → w.seat.me.0.number ≡ p → IsMachine s p w.seat.me.0.given w.machine
machine_is s p w held setup number =
    record {
      who_is = held.who_is ∙ (λ i. who_at (setup i) (number i));
      same = ap (λ (x : Setup). processor_in w.machine x.program.code) (sym setup) ∙ held.same ∙ (λ i. processor_at (setup i) (number i) w.seat.me.0.given);
    }

-- the first machine alone
pub first_given : (s : Setup) (given : List Given) (m : Machine) (ms : List Machine) → ms ≡ m ∷ [] → IsMachine s 0 given m → AreGiven s (given ∷ []) ms
first_given s given m ms is it zero x at =
    let same : m ≡ x = some_one m x (ap (λ l. slice_get l 0) (sym is) ∙ at) in
    (given, refl, subst (λ y. IsMachine s 0 given y) same it)
first_given s given m ms is it (suc p) x at = absurd (let e : slice_get (m ∷ []) (suc p) ≡ Some x = ap (λ l. slice_get l (suc p)) (sym is) ∙ at in cc e)

-- one machine more
pub given_more : (s : Setup) (all : List (List Given)) (given : List Given) (ms new : List Machine) {m : Machine} → new ≡ ms ++ m ∷ [] → length ms ≡ length all → IsMachine s (length all) given m → AreGiven s all ms → AreGiven s (all ++ given ∷ []) new
given_more s all given ms new {m} is count it are p x at = go (get_push ms m x p (ap (λ l. slice_get l p) (sym is) ∙ at))
  where
    go : (slice_get ms p ≡ Some x) ⊎ ((p ≡ length ms) × (m ≡ x)) → (g : List Given) × (slice_get (all ++ given ∷ []) p ≡ Some g) × IsMachine s p g x
    go (inl old) = let was = are p x old in (was.0, get_push_old all given was.0 p was.1, was.2)
    go (inr new) =
        let n : length all ≡ p = sym (new.0 ∙ count) in
        (given, subst (λ q. slice_get (all ++ given ∷ []) q ≡ Some given) n (get_push_new all given), subst (λ q. IsMachine s q given x) n (subst (λ y. IsMachine s (length all) given y) new.1 it))
