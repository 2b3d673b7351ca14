-- An operation changes the word at its place, and answers by that word.
use Rattle.std.proofs.Common.{◌≡◌, ℕ, Bool, true, false, List, refl, sym, ap, ◌∙◌, if◌then◌else◌, ◌==◌}
use Rattle.std.specs.Prelude.{slice_index, slice_set}
use Rattle.std.proofs.lemmas.List.{set-get_or}
use Rattle.dsm_words.specs.declared.op.Op.{Op}
use Rattle.dsm_words.specs.declared.op.Op.TheVariants.{Load, Store, Swap, Exchange, Add, Or}
use Rattle.dsm_words.specs.Place.{Lay}
use Rattle.dsm_words.specs.Op.{place_of, answer_of, words_after}
use Rattle.dsm_words.specs.Script.{Act, op_of}
use Rattle.dsm_words.specs.Words.{done, reply}
use Rattle.dsm_runner.specs.Effects.{answer_at, applied}

pub words_after_is : (words : List ℕ) (op : Op) → words_after words op ≡ applied words op
words_after_is words (Load at) = sym (set-get_or words at 0)
words_after_is words (Store at v) = refl
words_after_is words (Swap at v) = refl
words_after_is words (Exchange at old new) = go (slice_index words at == old)
  where
    go : (b : Bool) → (if b then slice_set words at new else words) ≡ slice_set words at (if b then new else slice_index words at)
    go true = refl
    go false = sym (set-get_or words at 0)
words_after_is words (Add at k) = refl
words_after_is words (Or at bits) = refl

pub answer_of_is : (words : List ℕ) (op : Op) → answer_of words op ≡ answer_at op (slice_index words (place_of op))
answer_of_is words (Load at) = refl
answer_of_is words (Store at v) = refl
answer_of_is words (Swap at v) = refl
answer_of_is words (Exchange at old new) = refl
answer_of_is words (Add at k) = refl
answer_of_is words (Or at bits) = refl

-- the same of an operation on an item
pub applied_is : (l : Lay) (words : List ℕ) (op : Op) (a : Act) → op ≡ op_of l a → applied words op ≡ done l words a
unfolding done
applied_is l words op a is = sym (words_after_is words op) ∙ ap (words_after words) is

pub answer_at_is : (l : Lay) (words : List ℕ) (op : Op) (a : Act) → op ≡ op_of l a → answer_at op (slice_index words (place_of op)) ≡ reply l words a
unfolding reply
answer_at_is l words op a is = sym (answer_of_is words op) ∙ ap (answer_of words) is
