use Rattle.std.proofs.Common.{◌≡◌, ℕ, ◌+◌, ◌-◌, ◌*◌, ◌<◌, [], List, get_or, take, sym, ap, ◌∙◌, arith, subst}
use Rattle.std.specs.Prelude.{slice_set}
use Rattle.std.proofs.lemmas.List.{take_all, take_more}
use Rattle.std.proofs.lemmas.List.Elements.{All-get_or}
use Rattle.dsm_isa.specs.ProgramText.{Sizes}
use Rattle.dsm_words.specs.Place.{Lay, lay_of}
use Rattle.dsm_runs.specs.Setups.{frames_of}
use Rattle.dsm_core.proofs.FirstWords.{no_value, stored, not_given_before}
use Rattle.dsm_core.proofs.state.starting.first_frames.Goals as goal

pub loop-word-init : goal.loop-word-init
loop-word-init c =
    let n : ℕ = c.args.lay.now.pages * c.args.lay.now.words in
    let all : ◌≡◌ {A = List ℕ} (take n []) [] = take_all n [] (omega arith) in
    let whole : n - 0 ≡ n = omega arith in
    record {
      long = c.in_ok-resize.ensures.len;
      words =
          c.in_ok-resize.ensures.items
          ∙ rw (c.in_ok-frames.ensures.items, c.in_ok-frames.ensures.len) (rw (all, whole) (no_value (lay_of c.args.lay.now)));
    }

pub index_mut-requires : goal.index_mut-requires
index_mut-requires c =
    let init : List (ℕ × ℕ) = c.init-word-items.result.now in
    let given = (All-get_or (λ w. (w.0 < c.args.program.now.shape.pages * c.args.program.now.shape.words) × (0 < w.1)) init c.loop-word.word-index (0, 0) c.loop-word-test.true c.init-word-items.ensures.initial.1).0 in
    let inside : (get_or init c.loop-word.word-index (0, 0)).0 < c.args.lay.now.pages * c.args.lay.now.words = subst (λ (z : Sizes). (get_or init c.loop-word.word-index (0, 0)).0 < z.pages * z.words) (sym c.requires) given in
    omega (arith, inside, c.loop-word.invariant.long)

pub loop-word-preserved : goal.loop-word-preserved
loop-word-preserved c =
    let l : Lay = lay_of c.args.lay.now in
    let i = c.loop-word.word-index in
    let init : List (ℕ × ℕ) = c.init-word-items.result.now in
    let same : init ≡ c.args.program.now.init = c.init-word-items.ensures.value in
    let x : ℕ × ℕ = get_or init i (0, 0) in
    let given = (All-get_or (λ w. (w.0 < c.args.program.now.shape.pages * c.args.program.now.shape.words) × (0 < w.1)) init i (0, 0) c.loop-word-test.true c.init-word-items.ensures.initial.1).0 in
    let inside : x.0 < l.pages * l.words = subst (λ (z : Sizes). x.0 < z.pages * z.words) (sym c.requires) given in
    let new = not_given_before init i c.init-word-items.ensures.initial.0 c.loop-word-test.true in
    record {
      long = c.loop-word.invariant.long;
      words =
          ap (λ ws. slice_set ws x.0 x.1) (c.loop-word.invariant.words ∙ ap (λ z. frames_of l (take i z)) (sym same))
          ∙ stored l (take i init) x inside new
          ∙ ap (frames_of l) (sym (take_more init i (0, 0) c.loop-word-test.true))
          ∙ ap (λ z. frames_of l (take (i + 1) z)) same;
    }

pub returns : goal.returns
returns c =
    let init = c.init-word-items.result.now in
    let same : init ≡ c.args.program.now.init = c.init-word-items.ensures.value in
    c.loop-word.invariant.words
    ∙ ap (λ z. frames_of (lay_of c.args.lay.now) (take c.loop-word.word-index z)) (sym same)
    ∙ ap (frames_of (lay_of c.args.lay.now)) (take_all c.loop-word.word-index init c.loop-word-test.false ∙ same)
