use Rattle.std.proofs.Common.{ℕ, ◌∷◌, List, ap, ◌∙◌, arith}
use Rattle.std.specs.Prelude.{flat_map}
use Rattle.std.specs.List.{range_with_len}
use Rattle.dsm_words.specs.Place.{lay_of}
use Rattle.dsm_runs.specs.Setups.{first_words}
use Rattle.dsm_core.proofs.FirstWords.{filled}
use Rattle.dsm_core.proofs.state.starting.first_words.Goals as goal

pub returns-clause-words : goal.returns-clause-words
returns-clause-words c = λ limits.
    let program = c.args.program.now in
    let lay = c.args.lay.now in
    let shown = c.in_ok-words.ensures ∙ ap (λ (frames : List ℕ). 0 ∷ flat_map (λ n. frames) (range_with_len 0 lay.t.nodes)) (c.deref.ensures.value ∙ c.in_ok-frames.ensures) in
    filled (lay_of lay) program.init c.place.result c.place-2.result c.len.result c.in_ok-words.words.items c.resize.new.self.items c.resize-2.new.self.items c.resize-3.new.self.items _ _ _ (omega (arith, c.place.ensures.place)) (omega (arith, c.place-2.ensures.place)) c.len.ensures shown c.in_ok-words.words.ok.0 c.in_ok-resize.ensures.len c.in_ok-resize-2.ensures.len
    c.in_ok-resize.ensures.items
    c.in_ok-resize-2.ensures.items
    c.in_ok-resize-3.ensures.items
    ∙ ap (λ sizes. first_words (record { program = record { shape = sizes; init = program.init; code = program.code }; nodes = lay.t.nodes; procs = lay.t.procs; limits = limits })) c.requires
