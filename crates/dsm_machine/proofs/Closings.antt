-- The closing work: the pages that are left, and a phase that has not ended.
use Rattle.std.proofs.Common.{◌≡◌, ℕ, zero, suc, ◌+◌, ◌-◌, ◌*◌, ◌<◌, ◌≤◌, true, refl, ap, arith}
use Rattle.dsm_words.specs.Parts.{each}
use Rattle.dsm_words.specs.Place.{Lay}
use Rattle.dsm_words.specs.Script.{Script, is_open}
use Rattle.dsm_directory.specs.Directory.{holder_script}
use Rattle.dsm_exclusive.specs.Breaking.{break_map, break_copy, break_script}
use Rattle.dsm_local.specs.declared.end.End.TheVariants.{Halted}
use Rattle.dsm_protocol.specs.Own.{Who}
use Rattle.dsm_protocol.specs.Jobs.{Ended, call}
use Rattle.dsm_protocol.specs.Steps.{closing_page, closing_from}
use Rattle.dsm_machine.specs.Closings.{closing_left}

-- a break begins with a load, since a node has a processor
maps_open : (g q k : ℕ) (s : Script (Unit {0})) → 0 < k → is_open (each (λ q s. break_map g q s) q k s) ≡ true
maps_open g q zero s h = absurd (omega arith)
maps_open g q (suc k) s h = refl

pub break_open : (l : Lay) (m g h : ℕ) → 0 < l.procs → is_open (break_script l m g h) ≡ true
break_open l m g h some = maps_open g (m * l.procs) l.procs (break_copy l m g h) some

-- page g comes first, where there is one
pub closing_one : (u : Who) (g : ℕ) → g < u.lay.pages → closing_left u g ≡ call (holder_script u.lay g) (λ m. closing_page u g m (closing_left u (g + 1)))
closing_one u g less =
    let more : u.lay.pages - g ≡ suc (u.lay.pages - (g + 1)) = omega arith in
    ap (λ k. closing_from u g k (Ended Halted)) more

-- and behind the last the end
pub closing_none : (u : Who) (g : ℕ) → u.lay.pages ≤ g → closing_left u g ≡ Ended Halted
closing_none u g over =
    let none : u.lay.pages - g ≡ 0 = omega arith in
    ap (λ k. closing_from u g k (Ended Halted)) none
