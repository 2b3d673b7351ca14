-- An overwrite made alone, word by word, whatever follows it.
use Rattle.std.proofs.Common.{◌≡◌, ℕ, ◌+◌, ◌<◌, List, length, sym, ◌∙◌, arith}
use Rattle.dsm_words.specs.declared.item.Item.{Item}
use Rattle.dsm_words.specs.declared.item.Item.TheVariants.{Frame}
use Rattle.dsm_words.specs.Changes.{AlwaysLeaves}
use Rattle.dsm_words.specs.Place.{Lay, total}
use Rattle.dsm_words.specs.Script.{Script, End, Get, Put}
use Rattle.dsm_words.specs.Words.{word, done}
use Rattle.dsm_words.proofs.Alone.{AreDone, SpeaksOfItsOwn, one_done, leaves_each, leaves_end, leaves_do, leaves_get, IsPlain, plain_each, plain_end, plain_do, leaves_unnamed, can_be_made}
use Rattle.dsm_words.proofs.WordLaws.{word_same, word_other, length-done}
use Rattle.dsm_incoming.specs.Getting.{overwrite_script, overwrite_word, overwrite_store}
use Rattle.dsm_incoming.specs.Laws.{IsOverwritten, OverwriteGets, OverwriteCanBeMade, OverwriteLeavesTheUnnamed}

module _ (l : Lay) (n g h : ℕ) (n_in : n < l.nodes) (g_in : g < l.pages) (h_in : h < l.nodes) where
  -- the item that word i changes, and what it makes of it
  abbrev Changed : ℕ → Item → Type 0
  Changed i it = it ≡ Frame n g i

  abbrev Becomes : ℕ → (Item → ℕ) → (Item → ℕ) → Type 0
  Becomes i f new = new (Frame n g i) ≡ f (Frame h g i)

  own : SpeaksOfItsOwn l Changed Becomes l.words
  own j f f' new new' j_in e e' b = sym (e' (Frame n g j) (n_in, g_in, j_in) (λ i ne q. ne (cc q))) ∙ (b ∙ e (Frame h g j) (h_in, g_in, j_in) (λ i ne q. ne (cc q)))

  module _ (Holds : List ℕ → Type 0) where
    one : (i : ℕ) (ws : List ℕ) (s : Script (Unit {0})) → i < l.words → length ws ≡ total l → ((new : List ℕ) → AreDone l Changed Becomes i (i + 1) ws new → AlwaysLeaves l new s Holds) → AlwaysLeaves l ws (overwrite_word n g h i s) Holds
    one i ws s i_in long go =
        let v = word l ws (Frame h g i) in
        let put = Put (Frame n g i) v in
        leaves_get l ws (Frame h g i) (λ v. overwrite_store n g i v s) Holds (leaves_do l ws put (λ _. s) Holds (go (done l ws put) (one_done l Changed Becomes i ws (done l ws put) (word_same l ws put long (n_in, g_in, i_in)) (λ it w ne. word_other l ws put it (n_in, g_in, i_in) w ne) (length-done l ws put))))

  overwritten : (ws new : List ℕ) → AreDone l Changed Becomes 0 l.words ws new → IsOverwritten l n g h ws new
  overwritten ws new d = record { frame = λ i i_in. d.become i (omega arith) i_in; others = λ it w ne. d.others it w (λ j _ _ c. ne j c) }

  pub overwrite_plain : IsPlain l (overwrite_script l n g h)
  overwrite_plain = plain_each l (λ i s. overwrite_word n g h i s) l.words word_in 0 l.words (End tt) (omega arith) (plain_end l tt)
    where
      word_in : (i : ℕ) (s : Script (Unit {0})) → i < l.words → IsPlain l s → IsPlain l (overwrite_word n g h i s)
      word_in i s i_in v = plain_do l (Get (Frame h g i)) (λ x. overwrite_store n g i x s) (h_in, g_in, i_in) (λ x. plain_do l (Put (Frame n g i) x) (λ _. s) (n_in, g_in, i_in) (λ _. v))

pub overwrite_gets : OverwriteGets
overwrite_gets l n g h ws n_in g_in h_in long =
    leaves_each l (Changed l n g h n_in g_in h_in) (Becomes l n g h n_in g_in h_in) (λ i s. overwrite_word n g h i s) l.words (λ new. IsOverwritten l n g h ws new) (own l n g h n_in g_in h_in) (one l n g h n_in g_in h_in (λ new. IsOverwritten l n g h ws new)) 0 l.words ws (End tt) (omega arith) long (λ new d. leaves_end l new tt (λ new. IsOverwritten l n g h ws new) (overwritten l n g h n_in g_in h_in ws new d))

pub overwrite_leaves : OverwriteLeavesTheUnnamed
overwrite_leaves l n g h n_in g_in h_in = leaves_unnamed l (overwrite_script l n g h) (overwrite_plain l n g h n_in g_in h_in)

pub overwrite_made : OverwriteCanBeMade
overwrite_made l n g h n_in g_in h_in = can_be_made l (overwrite_script l n g h) (overwrite_plain l n g h n_in g_in h_in)
