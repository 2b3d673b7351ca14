use Rattle.std.proofs.Common.{◌≡◌, ◌<◌, ◌≤◌, ◌^◌, List, length, All, ap, ◌∙◌, subst, arith}
use Rattle.std.proofs.lemmas.Grind.{common_steps}
use Rattle.dsm_isa.specs.declared.instr.Instr.{Instr}
use Rattle.dsm_isa.specs.Jumps.{JumpsInside}
use Rattle.dsm_isa.specs.Limits.{IsWithinLimits}
use Rattle.dsm_isa.specs.ProgramText.{Sizes}
use Rattle.dsm_isa.specs.Rules.{IsInitial, ObjectsInside, IsProgram}
use Rattle.dsm_grammar.specs.Faults.{first_fault_of}
use Rattle.dsm_grammar.specs.Grammar.{program_of}
use Rattle.dsm_list.specs.Canonical.{canonical}
use Rattle.dsm_isa.specs.Operands.{IsInRange}
use Rattle.dsm_list.proofs.Whole.{accepted, same}
use Rattle.dsm_list.proofs.listing.list.Goals as goal

pub returns : goal.returns
unfolding canonical
returns c =
    let p = c.args.program.now in
    let init = c.init-init.ensures.value in
    let code = c.code.ensures.value in
    let slice = c.as_slice.ensures.value ∙ c.code-2.ensures.value in
    let is : IsProgram p = record {
      sizes = subst (λ (s : Sizes). IsWithinLimits s.pages s.words s.locks s.barriers s.flags) c.shape.ensures c.write_sizes.ensures.within;
      initial = subst (IsInitial p.shape) init c.init-init.ensures.initial;
      values = subst (All (λ word. word.1 < 2 ^ 64)) init c.in_ok-write_initial.ensures.range;
      some = subst (λ (l : List Instr). 0 < length l) code c.targets.ensures.some;
      most = subst (λ (l : List Instr). length l ≤ 4096) code c.targets.ensures.most;
      jumps = subst JumpsInside slice c.as_slice.ensures.jumps;
      objects = subst (ObjectsInside p.shape) code c.code.ensures.objects;
      ranges = subst (All IsInRange) slice c.in_ok-write_code.ensures.range;
    } in
    let text : c.into_bytes.result.items ≡ canonical p = grind (arith, common_steps) in
    record { canonical = text; accepted = ap first_fault_of text ∙ accepted p is; same = ap program_of text ∙ same p is }
