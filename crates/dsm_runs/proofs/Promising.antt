-- Every run keeps what is promised.
use Rattle.std.proofs.Common.{◌≡◌, ℕ, ◌*◌, ◌<◌, ◌^◌, false, List, [], ◌∷◌, map, zero, suc, Option, Some, refl, sym, ap, ◌∙◌, subst, arith, length}
use Rattle.std.specs.Prelude.{slice_get}
use Rattle.std.proofs.lemmas.Option.{slice_get_within}
use Rattle.dsm_entry.specs.declared.entry.Entry.{Entry}
use Rattle.dsm_local.specs.declared.end.End.{End}
use Rattle.dsm_local.specs.declared.end.End.TheVariants.{Stopped}
use Rattle.dsm_local.specs.Local.{Local}
use Rattle.dsm_protocol.specs.Jobs.{end_of}
use Rattle.dsm_protocol.specs.Laws.{IsLocal}
use Rattle.dsm_protocol.specs.Processors.{Processor, Given, ending, processor_of, IsMade}
use Rattle.dsm_protocol.proofs.Reading.{every_trace_is_local}
use Rattle.dsm_flat.specs.Sync.{SyncLegal}
use Rattle.dsm_runs.specs.Setups.{Setup, IsSetup, who_at}
use Rattle.dsm_runs.specs.Clusters.{Event, exactly, given_by, reached}
use Rattle.dsm_runs.specs.Outcomes.{ran_of}
use Rattle.dsm_runs.specs.Stopping.{HasToldAll}
use Rattle.dsm_runs.specs.Promises.{AllLocal, AllTold, Promises, EveryRunKeepsThem, AloneIsOrdered}
use Rattle.dsm_runs.proofs.Lists.{some_one}
use Rattle.dsm_runs.proofs.Reaching.{reached_is_loose, reached_given, length-reached}
use Rattle.dsm_runs.proofs.Stops.{every_stopped}
use Rattle.dsm_runs.proofs.Legality.{every_sync_legal}
use Rattle.dsm_flat.specs.Flat.{Ordered}
use Rattle.dsm_flat.proofs.OrderLaws.{Ordered-one}

-- an item of what is made of a list is made of an item of it
pub item_of_map : {X Y : Type 0} (f : X → Y) (xs : List X) (p : ℕ) (y : Y) → slice_get (map f xs) p ≡ Some y → (x : X) × (slice_get xs p ≡ Some x) × (y ≡ f x)
item_of_map f [] p y h = absurd (cc h)
item_of_map f (x ∷ xs) zero y h = (x, refl, sym (some_one (f x) y h))
item_of_map f (x ∷ xs) (suc p) y h = item_of_map f xs p y h

pub map_of_item : {X Y : Type 0} (f : X → Y) (xs : List X) (p : ℕ) (x : X) → slice_get xs p ≡ Some x → slice_get (map f xs) p ≡ Some (f x)
map_of_item f [] p x h = absurd (cc h)
map_of_item f (z ∷ xs) zero x h = ap (λ y. Some (f y)) (some_one z x h)
map_of_item f (z ∷ xs) (suc p) x h = map_of_item f xs p x h

given_local : (s : Setup) (p : ℕ) (m : Processor) (gs : List Given) → p < s.nodes * s.procs → m ≡ processor_of (who_at s p) s.program.code gs → Local s.program p (s.nodes * s.procs) s.limits.turns m.own.trace (ending m)
unfolding IsMade IsLocal
given_local s p m gs placed is = every_trace_is_local (who_at s p) s.program.code m placed (gs, false, is) s.program refl refl

reached_local : (s : Setup) (events : List Event) → AllLocal s (ran_of s (reached s events))
reached_local s events p trace end at ends =
    let ps = (reached s events).processors in
    let a = item_of_map (λ m. m.own.trace) ps p trace at in
    let b = item_of_map ending ps p end ends in
    let same : b.0 ≡ a.0 = some_one b.0 a.0 (sym b.1 ∙ a.1) in
    let given = reached_given s events p a.0 a.1 in
    let placed : p < s.nodes * s.procs = omega (arith, slice_get_within ps p a.0 a.1, (length-reached s events).1) in
    let local = given_local s p a.0 (given_by s (map exactly events) p) placed given in
    subst (λ (x : List Entry × Option End). Local s.program p (s.nodes * s.procs) s.limits.turns x.0 x.1) (λ i. (sym a.2 i, sym (b.2 ∙ ap ending same) i)) local

reached_told : (s : Setup) (events : List Event) → s.nodes * s.procs < 2 ^ 32 → AllTold (ran_of s (reached s events))
reached_told s events few p b at =
    let c = reached s events in
    let loose = reached_is_loose s events in
    let m = item_of_map ending c.processors p (Some (Stopped b)) at in
    let here = ap (λ x. slice_get x.processors p) (sym loose) ∙ m.1 in
    let told = every_stopped s (map exactly events) p b m.0 few here (sym m.2) in
    let back : HasToldAll c b = subst (λ x. HasToldAll x b) (sym loose) told in
    (back.1, map_of_item ending c.processors b back.0 back.2 ∙ ap (λ j. Some (end_of j)) back.3, back.4)

reached_legal : (s : Setup) (events : List Event) → IsSetup s → SyncLegal (ran_of s (reached s events)).traces (s.nodes * s.procs)
reached_legal s events setup = subst (λ c. SyncLegal (ran_of s c).traces (s.nodes * s.procs)) (sym (reached_is_loose s events)) (every_sync_legal s (map exactly events) setup)

-- one processor leaves one trace
alone_ordered : (ps : List Processor) (w : ℕ) → length ps ≡ 1 → Ordered (map (λ m. m.own.trace) ps) w
alone_ordered [] w one = absurd (omega (arith, one))
alone_ordered (m ∷ []) w one = Ordered-one m.own.trace w
alone_ordered (m ∷ n ∷ ps) w one = absurd (omega (arith, one))

reached_alone : (s : Setup) (events : List Event) → s.nodes * s.procs ≡ 1 → (w : ℕ) → Ordered (ran_of s (reached s events)).traces w
reached_alone s events one w = alone_ordered (reached s events).processors w ((length-reached s events).1 ∙ one)

pub every_run : EveryRunKeepsThem
every_run s events ran setup outcome =
    let few : s.nodes * s.procs < 2 ^ 32 = omega (arith, setup.all) in
    subst (Promises s) outcome.leaves
    (record {
      local = reached_local s events;
      told = reached_told s events few;
      legal = reached_legal s events setup;
    })

pub alone_is_ordered : AloneIsOrdered
alone_is_ordered s events ran one outcome w = subst (λ r. Ordered r.traces w) outcome.leaves (reached_alone s events one w)
