use Rattle.std.proofs.Common.{◌≡◌, ◌<◌, ◌≤◌, ℕ, Option, None, Some, IfSome, IsSomeAnd, Err, ap, sym, subst, ◌∙◌, arith}
use Rattle.dsm_isa.specs.ProgramText.{sizes_of}
use Rattle.dsm_isa.specs.Rules.{IsInitial, ObjectsInside}
use Rattle.dsm_grammar.specs.Settings.{Settings}
use Rattle.dsm_asm.specs.Past.{Past}
use Rattle.dsm_asm.proofs.assembler.finish.Goals as goal

-- a place that is not past the end is not past it
not_past : (o : Option ℕ) (n : ℕ) → IfSome o (λ to. to ≤ n) → IsSomeAnd o (λ to. n < to) → ⊥
not_past None n inside past = past
not_past (Some to) n inside past = omega (arith, inside, past)

pub unreachable-requires-in-Err-BadJump : goal.unreachable-requires-in-Err-BadJump
unreachable-requires-in-Err-BadJump c =
    let place = c.in-Err-BadJump.field-0-0 in
    let found = (c.in-Err-BadJump.ensures.bad_jump place).0 (ap Err c.in-Err-BadJump.field-0-is) in
    let code = ap (λ (p : Past). p.code) c.assembly.view_is in
    not_past _ _ (c.requires.jumps place) (rw code at found.1.0)

pub unreachable-requires-in-None : goal.unreachable-requires-in-None
unreachable-requires-in-None c =
    let settings = ap (λ (p : Past). p.settings) c.assembly.view_is in
    let shape_is : sizes_of c.shape-shape.result ≡ c.args.assembly.settings.sizes = c.shape-shape.ensures ∙ ap (λ (s : Settings). s.sizes) settings in
    let init_is : c.in_ok-init.init.items ≡ c.args.assembly.settings.init = c.in_ok-init.ensures ∙ ap (λ (s : Settings). s.init) settings in
    let code_is : c.in-Ok.code ≡ c.args.assembly.code = c.in-Ok.ensures.code ∙ ap (λ (p : Past). p.code) c.assembly.view_is in
    let taken = c.in-None.ensures.some.1 (subst (λ s. IsInitial s c.in_ok-init.init.items × ObjectsInside s c.in-Ok.code) (sym shape_is) (rw init_is (rw code_is (c.requires.initial, c.requires.objects)))) in
    cc taken
