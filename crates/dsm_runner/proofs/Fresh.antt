-- Machines and workers that have done nothing.
use Rattle.std.proofs.Common.{◌≡◌, ℕ, suc, ◌+◌, ◌*◌, ◌<◌, ◌≤◌, ◌==◌, if◌then◌else◌, true, false, ne_eqb, List, [], ◌∷◌, length, map, get_or, drop, Some, refl, ap, sym, subst, arith, ◌∙◌}
use Rattle.std.specs.Prelude.{slice_get}
use Rattle.std.proofs.lemmas.Option.{slice_get-map}
use Rattle.std.proofs.Math.Nat.{mul-pos}
use Rattle.std.proofs.Math.Seq.{drop-cons}
use Rattle.dsm_isa.specs.ProgramText.{ProgramText}
use Rattle.dsm_words.specs.declared.topology.Topology.{Topology}
use Rattle.dsm_words.specs.Place.{Lay, lay_of, total}
use Rattle.dsm_machine.specs.declared.machine.Machine.{Machine}
use Rattle.dsm_machine.specs.Machines.{who, processor_in}
use Rattle.dsm_protocol.specs.Processors.{new_processor, processor_of}
use Rattle.dsm_runs.specs.Setups.{Setup, lay_in, who_at}
use Rattle.dsm_runs.specs.Clusters.{start}
use Rattle.dsm_runs.proofs.Lists.{slice_get-map-range_with_len}
use Rattle.dsm_runs.proofs.Starting.{length-words}
use Rattle.dsm_core.specs.States.{setup_of}
use Rattle.dsm_runner.specs.Sights.{procs_of, seen_by, later_sight, full_sight}
use Rattle.dsm_runner.specs.Holds.{IsHeld}
use Rattle.dsm_runner.specs.Boards.{IsBoard}
use Rattle.dsm_runner.specs.Machines.{IsMachine, AreFresh}
use Rattle.dsm_runner.specs.declared.worker.Worker.TheInside.{Inside}
use Rattle.dsm_runner.specs.declared.shared.Shared.TheInside.{Inside as InsideOfShared}

-- the stop word is there
pub some_words : (l : Lay) → 0 < total l
some_words l = omega arith

-- a list of so many items whose first was removed
pub removed_first : {A : Type 0} {n : ℕ} {xs rest : List A} {x : A} → length xs ≡ n → 0 < n → x ≡ get_or xs 0 x → rest ≡ drop 1 xs → xs ≡ x ∷ rest
removed_first {A} {n} {xs} {rest} {x} long some is left = drop-cons xs 0 x (subst (λ k. 0 < k) (sym long) some) ∙ (λ i. sym is i ∷ sym left i)

-- the first of fresh machines, and the others
module _ (s : Setup) (n : ℕ) {all rest : List Machine} {m : Machine} (is : all ≡ m ∷ rest) (fresh : AreFresh s n all) where
  pub fresh_first : IsMachine s n [] m
  fresh_first = subst (λ p. IsMachine s p [] m) (let z : n + 0 ≡ n = omega arith in z) (fresh 0 m (ap (λ l. slice_get l 0) is))

  pub fresh_rest : (k : ℕ) → k ≡ suc n → AreFresh s k rest
  fresh_rest k next j x at = subst (λ p. IsMachine s p [] x) (let z : n + suc j ≡ k + j = omega (arith, next) in z) (fresh (suc j) x (ap (λ l. slice_get l (suc j)) is ∙ at))

-- the machines of the state before any event are fresh
pub start_fresh : (s : Setup) (ms : List Machine) → ((j : ℕ) (m : Machine) → slice_get ms j ≡ Some m → who m ≡ who_at s j)
    → map (λ m. processor_in m s.program.code) ms ≡ (start s).processors → AreFresh s 0 ms
unfolding start processor_of
start_fresh s ms numbered same j m at =
    let f = λ (x : Machine). processor_in x s.program.code in
    let here : slice_get (map f ms) j ≡ Some (f m) = slice_get-map f ms j ∙ rw at refl in
    record {
      who_is = numbered j m at ∙ ap (who_at s) (let z : j ≡ 0 + j = omega arith in z);
      same = slice_get-map-range_with_len (λ p. new_processor (who_at s p) s.program.code) (procs_of s) 0 j (f m) (ap (λ l. slice_get l j) (sym same) ∙ here);
    }

-- a later seat is that of its processor from the first
pub later_full : (s : Setup) (p : ℕ) → 1 ≤ p → later_sight s p ≡ full_sight s p []
later_full s p some =
    let e : (p == 0) ≡ false = ne_eqb p 0 (λ z. absurd (omega (arith, some, z))) in
    λ i. record { live = true; setup = s; number = p; given = []; leads = sym e i; made = if sym e i then procs_of s else 0; joined = [] }

-- a topology has a processor
pub some_processors : (t : Topology) → 0 < t.nodes * t.procs
some_processors t = mul-pos t.some_nodes t.some_procs

-- a table of the words at the start, which was told what they are of
pub board_new : (x : InsideOfShared) (told program : ProgramText) (t : Topology) (words : List ℕ) → told ≡ program → words ≡ (start (setup_of program t x.limits)).words
    → x.table.shared.key ≡ setup_of told t x.limits → lay_of x.lay ≡ lay_in (setup_of program t x.limits) → x.table.shared.table_id.slots ≡ 0 → x.table.shared.table_id.words ≡ length words → IsBoard x
board_new x told program t words tells are is lay slots long =
    let key : x.table.shared.key ≡ setup_of program t x.limits = is ∙ ap (λ p. setup_of p t x.limits) tells in
    record {
      slots = slots;
      words = long ∙ ap length are ∙ length-words (setup_of program t x.limits) ∙ ap (λ s. total (lay_in s)) (sym key);
      setup = key ∙ (λ i. record { program = (sym key i).program; nodes = (sym lay i).nodes; procs = (sym lay i).procs; limits = x.limits });
      lay_is = lay ∙ ap lay_in (sym key);
      some = subst (λ s. 0 < procs_of s) (sym key) (some_processors t);
      few = subst (λ s. procs_of s ≤ 32) (sym key) t.most_all;
    }

-- a worker that has done nothing
pub held_new : (w : Inside) (s : Setup) (p : ℕ) → w.seat.me ≡ (full_sight s p [], []) → IsMachine s p [] w.machine → w.number ≡ p → p < procs_of s → w.seat.table_id.words ≡ total (lay_in s) → IsHeld w
held_new w s p me machine number below words =
    record {
      alone = subst (λ m. m ≡ (full_sight m.0.setup m.0.number m.0.given, [])) (sym me) refl;
      same = subst (λ m. processor_in w.machine m.0.setup.program.code ≡ seen_by m.0) (sym me) machine.same;
      who_is = subst (λ m. who w.machine ≡ who_at m.0.setup m.0.number) (sym me) machine.who_is;
      number_is = subst (λ m. w.number ≡ m.0.number) (sym me) number;
      below = subst (λ m. m.0.number < procs_of m.0.setup) (sym me) below;
      words = subst (λ m. w.seat.table_id.words ≡ total (lay_in m.0.setup)) (sym me) words;
    }
