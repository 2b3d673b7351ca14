use Rattle.std.proofs.Common.{ℕ, ap, ◌∙◌}
use Rattle.dsm_words.specs.Place.{lay_of}
use Rattle.dsm_directory.specs.Directory.{leave_script}
use Rattle.dsm_machine.specs.Acquires.{looked_at}
use Rattle.dsm_machine.specs.Machines.{who, own_of}
use Rattle.dsm_protocol.specs.Own.{Unmaps, mapped, counted}
use Rattle.dsm_protocol.specs.Jobs.{call}
use Rattle.dsm_protocol.specs.Processors.{settled}
use Rattle.dsm_machine.proofs.machine.Machine.acquire_unmapped.Goals as goal

pub returns-clause-seen : goal.returns-clause-seen
returns-clause-seen c =
    let m = c.args.self.now in
    let g = c.args.g in
    let o = counted (mapped (own_of m) g 0) Unmaps in
    c.start.ensures.seen
    ∙ ap (λ s. settled o (call s (λ _. looked_at (who m) c.args.set g))) (c.new-leave.ensures.rest ∙ ap (λ (n : ℕ). leave_script (lay_of m.lay) n g) c.node.ensures.value)
