-- A merge made alone, word by word.
use Rattle.std.proofs.Common.{◌≡◌, ◌≢◌, ℕ, ◌+◌, ◌<◌, Bool, true, false, List, length, refl, sym, ◌∙◌, ◌⊎◌, inl, inr, arith, if◌then◌else◌, ◌==◌}
use Rattle.dsm_words.specs.declared.item.Item.{Item}
use Rattle.dsm_words.specs.declared.item.Item.TheVariants.{Frame, Twin}
use Rattle.dsm_words.specs.Changes.{AlwaysLeaves}
use Rattle.dsm_words.specs.Place.{Lay, IsWithin, total}
use Rattle.dsm_words.specs.Script.{Act, Script, End, Get, Put}
use Rattle.dsm_words.specs.Words.{word, done}
use Rattle.dsm_words.proofs.Alone.{AreDone, SpeaksOfItsOwn, one_done, leaves_each, leaves_end, leaves_do, leaves_get, IsPlain, plain_each, plain_end, plain_do, plain_if, leaves_unnamed, can_be_made}
use Rattle.dsm_words.proofs.WordLaws.{word_same, word_other, length-done}
use Rattle.dsm_incoming.specs.Getting.{merge_script, merge_word, merge_twin, merge_store, merge_refresh}
use Rattle.dsm_incoming.specs.Laws.{IsMerged, MergeGets, MergeCanBeMade, MergeLeavesTheUnnamed}

module _ (l : Lay) (n g h : ℕ) (n_in : n < l.nodes) (g_in : g < l.pages) (h_in : h < l.nodes) where
  -- the items that word i may change, and what it makes of them
  abbrev Changed : ℕ → Item → Type 0
  Changed i it = (it ≡ Frame n g i) ⊎ (it ≡ Twin n g i)

  record Becomes (i : ℕ) (f new : Item → ℕ) : Type 0 where
    frame : new (Frame n g i) ≡ (if f (Frame h g i) == f (Twin n g i) then f (Frame n g i) else f (Frame h g i))
    twin : new (Twin n g i) ≡ (if f (Frame h g i) == f (Twin n g i) then f (Twin n g i) else f (Frame h g i))

  frame_alone : (m i j : ℕ) → i ≢ j → Changed i (Frame m g j) → ⊥
  frame_alone m i j ne (inl e) = ne (cc e)
  frame_alone m i j ne (inr e) = absurd (cc e)

  twin_alone : (i j : ℕ) → i ≢ j → Changed i (Twin n g j) → ⊥
  twin_alone i j ne (inl e) = absurd (cc e)
  twin_alone i j ne (inr e) = ne (cc e)

  own : SpeaksOfItsOwn l Changed Becomes l.words
  own j f f' new new' j_in e e' b =
      let frame = e (Frame n g j) (n_in, g_in, j_in) (λ i ne. frame_alone n i j ne) in
      let twin = e (Twin n g j) (n_in, g_in, j_in) (λ i ne. twin_alone i j ne) in
      let master = e (Frame h g j) (h_in, g_in, j_in) (λ i ne. frame_alone h i j ne) in
      let frame' = e' (Frame n g j) (n_in, g_in, j_in) (λ i ne. frame_alone n i j ne) in
      let twin' = e' (Twin n g j) (n_in, g_in, j_in) (λ i ne. twin_alone i j ne) in
      record {
        frame = sym frame' ∙ (rw (frame, twin, master) at b.frame);
        twin = sym twin' ∙ (rw (twin, master) at b.twin);
      }

  module _ (start : List ℕ) where
    abbrev Holds : List ℕ → Type 0
    Holds new = IsMerged l n g h start new

    one : (i : ℕ) (ws : List ℕ) (s : Script (Unit {0})) → i < l.words → length ws ≡ total l → ((new : List ℕ) → AreDone l Changed Becomes i (i + 1) ws new → AlwaysLeaves l new s Holds) → AlwaysLeaves l ws (merge_word n g h i s) Holds
    one i ws s i_in long go = leaves_get l ws (Frame h g i) (λ v. merge_twin n g i v s) Holds (leaves_get l ws (Twin n g i) (λ t. if v == t then s else merge_store n g i v s) Holds (either (v == word l ws (Twin n g i)) refl))
      where
        v : ℕ
        v = word l ws (Frame h g i)

        put : Act
        put = Put (Frame n g i) v

        mid : List ℕ
        mid = done l ws put

        refresh : Act
        refresh = Put (Twin n g i) v

        new : List ℕ
        new = done l mid refresh

        mid_long : length mid ≡ total l
        mid_long = length-done l ws put ∙ long

        stored : word l new (Frame n g i) ≡ v
        stored = word_other l mid refresh (Frame n g i) (n_in, g_in, i_in) (n_in, g_in, i_in) (λ q. absurd (cc q)) ∙ word_same l ws put long (n_in, g_in, i_in)

        refreshed : word l new (Twin n g i) ≡ v
        refreshed = word_same l mid refresh mid_long (n_in, g_in, i_in)

        left : (it : Item) → IsWithin l it → (Changed i it → ⊥) → word l new it ≡ word l ws it
        left it w ne = word_other l mid refresh it (n_in, g_in, i_in) w (λ q. ne (inr q)) ∙ word_other l ws put it (n_in, g_in, i_in) w (λ q. ne (inl q))

        either : (b : Bool) → (v == word l ws (Twin n g i)) ≡ b → AlwaysLeaves l ws (if b then s else merge_store n g i v s) Holds
        either true e = go ws (one_done l Changed Becomes i ws ws (record { frame = rw e refl; twin = rw e refl }) (λ it w ne. refl) refl)
        either false e =
            leaves_do l ws put (λ _. merge_refresh n g i v s) Holds (leaves_do l mid refresh (λ _. s) Holds (go new (one_done l Changed Becomes i ws new (record { frame = rw e stored; twin = rw e refreshed }) left (length-done l mid refresh ∙ length-done l ws put))))

    merged : (new : List ℕ) → AreDone l Changed Becomes 0 l.words start new → Holds new
    merged new d =
        record {
          frame = λ i i_in. (d.become i (omega arith) i_in).frame;
          twin = λ i i_in. (d.become i (omega arith) i_in).twin;
          others = λ it w ne ne'. d.others it w (λ j _ _ c. neither it j (ne j) (ne' j) c);
        }
      where
        neither : (it : Item) (j : ℕ) → it ≢ Frame n g j → it ≢ Twin n g j → Changed j it → ⊥
        neither it j ne ne' (inl e) = ne e
        neither it j ne ne' (inr e) = ne' e

  plain : IsPlain l (merge_script l n g h)
  plain = plain_each l (λ i s. merge_word n g h i s) l.words word_in 0 l.words (End tt) (omega arith) (plain_end l tt)
    where
      word_in : (i : ℕ) (s : Script (Unit {0})) → i < l.words → IsPlain l s → IsPlain l (merge_word n g h i s)
      word_in i s i_in v =
          let store : (x : ℕ) → IsPlain l (merge_store n g i x s) = λ x. plain_do l (Put (Frame n g i) x) (λ _. merge_refresh n g i x s) (n_in, g_in, i_in) (λ _. plain_do l (Put (Twin n g i) x) (λ _. s) (n_in, g_in, i_in) (λ _. v)) in
          plain_do l (Get (Frame h g i)) (λ x. merge_twin n g i x s) (h_in, g_in, i_in) (λ x. plain_do l (Get (Twin n g i)) (λ t. if x == t then s else merge_store n g i x s) (n_in, g_in, i_in) (λ t. plain_if l (x == t) s (merge_store n g i x s) v (store x)))

pub merge_gets : MergeGets
merge_gets l n g h ws n_in g_in h_in long =
    leaves_each l (Changed l n g h n_in g_in h_in) (Becomes l n g h n_in g_in h_in) (λ i s. merge_word n g h i s) l.words (Holds l n g h n_in g_in h_in ws) (own l n g h n_in g_in h_in) (one l n g h n_in g_in h_in ws) 0 l.words ws (End tt) (omega arith) long (λ new d. leaves_end l new tt (Holds l n g h n_in g_in h_in ws) (merged l n g h n_in g_in h_in ws new d))

pub merge_leaves : MergeLeavesTheUnnamed
merge_leaves l n g h n_in g_in h_in = leaves_unnamed l (merge_script l n g h) (plain l n g h n_in g_in h_in)

pub merge_made : MergeCanBeMade
merge_made l n g h n_in g_in h_in = can_be_made l (merge_script l n g h) (plain l n g h n_in g_in h_in)
