use Rattle.std.proofs.Common.{rules, tests}
use Rattle.std.specs.Prelude.{is_some}
use Rattle.std.proofs.lemmas.Iterator.{YieldsList-from_slice}
use Rattle.std.proofs.lemmas.Iterator.Search.{all_from_yields_List}
use Rattle.dsm_machine.specs.Machines.{processor_in}
use Rattle.dsm_protocol.specs.Processors.{ending}
use Rattle.dsm_core.proofs.Leaving.{all_ended}
use Rattle.dsm_core.proofs.state.State.ended.Goals as goal

pub returns : goal.returns
returns c = λ code.
    let ms = c.args.self.now.machines.items in
    all_ended code ms c.all.result (all_from_yields_List (λ m. is_some (ending (processor_in m code))) _ _ c.all.result c.all.ensures.ran (YieldsList-from_slice ms cc) (λ x b q k. search (rules, tests)))
