-- Each trace is short: its processor makes at most two entries an instruction, and two at the end.
use Rattle.std.proofs.Common.{◌≡◌, ℕ, ◌+◌, ◌*◌, ◌<◌, ◌≤◌, Bool, true, false, List, [], ◌∷◌, ◌++◌, length, length-append, refl, sym, ap, ◌∙◌, subst, arith, if◌then◌else◌}
use Rattle.std.specs.Prelude.{nat_lt, slice_get}
use Rattle.std.proofs.lemmas.Bool.{ltb-true}
use Rattle.std.proofs.lemmas.List.{length-map}
use Rattle.dsm_isa.specs.declared.instr.Instr.{Instr}
use Rattle.dsm_entry.specs.declared.entry.Entry.{Entry}
use Rattle.dsm_entry.specs.declared.entry.Entry.TheVariants.{Signal, Pass}
use Rattle.dsm_entry.specs.declared.entry.Obj.TheVariants.{Barrier, Close}
use Rattle.dsm_local.specs.declared.action.Action.{Action}
use Rattle.dsm_local.specs.declared.action.Action.TheVariants.{Spend}
use Rattle.dsm_local.specs.declared.reader.Reader.{Reader}
use Rattle.dsm_local.specs.declared.setting.Setting.{Setting}
use Rattle.dsm_local.specs.declared.stand.Stand.{Stand}
use Rattle.dsm_local.specs.declared.stand.Stand.TheVariants.{Before, Met, Arrived, Passed}
use Rattle.dsm_local.specs.Actions.{action_of}
use Rattle.dsm_local.specs.Local.{Reads, starts, sets, jumps, loads, stores, prints, locks, unlocks, raises, waits, meets, leaves, arrives, passes, setting_of}
use Rattle.dsm_local.specs.Readers.{next_action}
use Rattle.dsm_protocol.specs.Processors.{Processor, ending}
use Rattle.dsm_runs.specs.Clusters.{reached}
use Rattle.dsm_runs.proofs.Promising.{every_run, item_of_map, map_of_item}
use Rattle.dsm_runs.proofs.Reaching.{length-reached}
use Rattle.dsm_twoway.specs.Promise.{EveryRunIsShort}

-- so many entries there may be where the reader stands, and it has done no more than it may
abbrev IsShort : Setting → Stand → ℕ → Type 0
IsShort set (Before r) n = (n ≤ 2 * r.done) × (r.done ≤ set.turns)
IsShort set (Met r b) n = (n + 1 ≤ 2 * r.done) × (r.done ≤ set.turns)
IsShort set Arrived n = n ≤ 2 * set.turns + 1
IsShort set Passed n = n ≤ 2 * set.turns + 2

-- the action is none of a reader that has done all that it may
abbrev Begins : Action → Type 0
Begins Spend = ⊥
Begins _ = Unit {0}

module _ (code : List Instr) (set : Setting) where
  -- an instruction begins where fewer are done
  begun : (r : Reader) (a : Action) → next_action code set r ≡ a → Begins a → r.done < set.turns
  begun r a is begins = go (nat_lt r.done set.turns) refl is
    where
      go : (b : Bool) → nat_lt r.done set.turns ≡ b → (if b then action_of set r (slice_get code r.place) else Spend) ≡ a → r.done < set.turns
      go true may is = ltb-true _ _ may
      go false spent is = absurd (subst Begins (sym is) begins)

  -- an entry more
  longer : (t : List Entry) (e : Entry) → length (t ++ e ∷ []) ≡ length t + 1
  longer t e = length-append t (e ∷ [])

  -- an instruction without an entry, one with one behind which the reader stands at a barrier, and one with one
  no_entry : (r : Reader) (n : ℕ) → IsShort set (Before r) n → r.done < set.turns → (n ≤ 2 * (r.done + 1)) × (r.done + 1 ≤ set.turns)
  no_entry r n short may = (omega (arith, short.0), omega (arith, may))

  one_entry : (r : Reader) (t : List Entry) (e : Entry) → IsShort set (Before r) (length t) → r.done < set.turns → (length (t ++ e ∷ []) + 1 ≤ 2 * (r.done + 1)) × (r.done + 1 ≤ set.turns)
  one_entry r t e short may = (omega (arith, longer t e, short.0), omega (arith, may))

  some_entry : (r : Reader) (t : List Entry) (e : Entry) → IsShort set (Before r) (length t) → r.done < set.turns → (length (t ++ e ∷ []) ≤ 2 * (r.done + 1)) × (r.done + 1 ≤ set.turns)
  some_entry r t e short may = let one = one_entry r t e short may in (omega (arith, one.0), one.1)

  -- wherever the reader stands
  reads_short : {stand : Stand} {t : List Entry} → Reads code set stand t → IsShort set stand (length t)
  reads_short starts = (omega arith, omega arith)
  reads_short (sets {r = r} {t = t} d v h next) = no_entry r (length t) (reads_short h) (begun r _ next tt)
  reads_short (jumps {r = r} {t = t} to h next) = no_entry r (length t) (reads_short h) (begun r _ next tt)
  reads_short (loads {r = r} {t = t} d w v h next) = some_entry r t _ (reads_short h) (begun r _ next tt)
  reads_short (stores {r = r} {t = t} w v h next) = some_entry r t _ (reads_short h) (begun r _ next tt)
  reads_short (prints {r = r} {t = t} v h next) = some_entry r t _ (reads_short h) (begun r _ next tt)
  reads_short (locks {r = r} {t = t} l c h next) = some_entry r t _ (reads_short h) (begun r _ next tt)
  reads_short (unlocks {r = r} {t = t} l k h next) = some_entry r t _ (reads_short h) (begun r _ next tt)
  reads_short (raises {r = r} {t = t} f j h next) = some_entry r t _ (reads_short h) (begun r _ next tt)
  reads_short (waits {r = r} {t = t} f need c h next le) = some_entry r t _ (reads_short h) (begun r _ next tt)
  reads_short (meets {r = r} {t = t} b a h next) = one_entry r t _ (reads_short h) (begun r _ next tt)
  reads_short (leaves {r = r} {t = t} b c h) = let short = reads_short h in (omega (arith, longer t (Pass (Barrier b) c), short.0), short.1)
  reads_short (arrives {r = r} {t = t} j h next) = let short = reads_short h in omega (arith, longer t (Signal Close j), short.0, short.1)
  reads_short (passes {t = t} c h) = let short = reads_short h in omega (arith, longer t (Pass Close c), short)

  -- so a trace has at most two entries for each instruction, and two at the end
  at_most : (stand : Stand) (n : ℕ) → IsShort set stand n → n ≤ 2 * set.turns + 2
  at_most (Before r) n short = omega (arith, short.0, short.1)
  at_most (Met r b) n short = omega (arith, short.0, short.1)
  at_most Arrived n short = omega (arith, short)
  at_most Passed n short = short

-- Each trace of every run is that of such a reader.
pub every_trace_is_short : EveryRunIsShort
every_trace_is_short s events ran is outcome =
    record {
      all = ap (λ r. length r.traces) (sym outcome.leaves) ∙ length-map ps (λ m. m.own.trace) ∙ (length-reached s events).1;
      short = λ p trace at.
          let m = item_of_map (λ m. m.own.trace) ps p trace (ap (λ r. slice_get r.traces p) outcome.leaves ∙ at) in
          let end = ap (λ r. slice_get r.ends p) (sym outcome.leaves) ∙ map_of_item ending ps p m.0 m.1 in
          let set = setting_of s.program p (s.nodes * s.procs) s.limits.turns in
          let local = (every_run s events ran is outcome).local p trace (ending m.0) at end in
          at_most s.program.code set local.0 (length trace) (reads_short s.program.code set local.1);
    }
  where
    ps : List Processor
    ps = (reached s events).processors
