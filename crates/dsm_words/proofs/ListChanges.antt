-- What a list of operations leaves.
use Rattle.std.proofs.Common.{◌≡◌, ℕ, List, [], ◌∷◌, length, refl, ◌∙◌}
use Rattle.dsm_words.specs.declared.item.Item.{Item}
use Rattle.dsm_words.specs.Place.{Lay, IsWithin}
use Rattle.dsm_words.specs.Script.{Act}
use Rattle.dsm_words.specs.Words.{word, done}
use Rattle.dsm_words.specs.Changes.{done_all, StaysWithin, LeavesOut}
use Rattle.dsm_words.proofs.WordLaws.{word_other, length-done}

pub all_others : (l : Lay) (ws : List ℕ) (xs : List (Act × ℕ)) (it : Item) → StaysWithin l xs → IsWithin l it → LeavesOut xs it → word l (done_all l ws xs) it ≡ word l ws it
all_others l ws [] it w v o = refl
all_others l ws (x ∷ xs) it w v o = all_others l (done l ws x.0) xs it w.1 v o.1 ∙ word_other l ws x.0 it w.0 v o.0

pub length-all : (l : Lay) (ws : List ℕ) (xs : List (Act × ℕ)) → length (done_all l ws xs) ≡ length ws
length-all l ws [] = refl
length-all l ws (x ∷ xs) = length-all l (done l ws x.0) xs ∙ length-done l ws x.0
