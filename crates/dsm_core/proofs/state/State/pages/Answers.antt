use Rattle.std.proofs.Common.{◌≡◌, ℕ, ◌∷◌, ◌++◌, [], ap, sym, ◌∙◌, arith}
use Rattle.std.specs.Prelude.{slice_index}
use Rattle.std.proofs.lemmas.List.{get_or_read}
use Rattle.std.proofs.lemmas.List.FromFn.{map-range_with_len_more}
use Rattle.dsm_words.specs.Homes.{master}
use Rattle.dsm_words.specs.Place.{lay_of, place}
use Rattle.dsm_core.specs.States.{setup_in}
use Rattle.dsm_core.proofs.Leaving.{master_word, master_words, pages_are}
use Rattle.dsm_core.proofs.state.State.pages.Goals as goal

pub loop-w-preserved : goal.loop-w-preserved
loop-w-preserved c =
    let s = c.args.self.now in
    let f : ℕ → ℕ = master_word (lay_of s.lay) s.words.items in
    let found : c.index.result.now ≡ slice_index s.words.items c.master.result = get_or_read s.words.items c.master.result c.index.result.now (omega (arith, s.words.ok.0, s.all_words, c.master.ensures.within)) c.index.ensures 0 in
    let at = c.master.ensures.place ∙ ap (λ ws. place (lay_of s.lay) (master (lay_of s.lay) ws c.loop-w.w)) c.deref.ensures.value in
    let is : c.index.result.now ≡ f c.loop-w.w = found ∙ ap (slice_index s.words.items) at in
    c.in_ok-push.ensures.items
    ∙ ap (λ l. l ++ c.index.result.now ∷ []) c.loop-w.invariant
    ∙ ap (λ x. master_words (lay_of s.lay) s.words.items c.loop-w.w ++ x ∷ []) is
    ∙ sym (map-range_with_len_more f 0 c.loop-w.w c.loop-w.w (omega arith))

pub returns : goal.returns
returns c = λ program for.
    let s = c.args.self.now in
    c.loop-w.invariant ∙ ap (master_words (lay_of s.lay) s.words.items) (omega arith) ∙ pages_are (setup_in s program) s.words.items (lay_of s.lay) for
