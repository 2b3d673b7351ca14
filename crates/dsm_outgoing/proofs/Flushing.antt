-- A flush made alone, word by word.
use Rattle.std.proofs.Common.{◌≡◌, ◌≢◌, ℕ, ◌+◌, ◌<◌, Bool, true, false, List, length, refl, sym, ◌∙◌, subst, ◌⊎◌, inl, inr, arith, if◌then◌else◌, ◌==◌, eqb-true}
use Rattle.std.proofs.lemmas.Bool.Decides.{eqb_tells}
use Rattle.dsm_words.specs.declared.item.Item.{Item}
use Rattle.dsm_words.specs.declared.item.Item.TheVariants.{Frame, Twin}
use Rattle.dsm_words.specs.Changes.{AlwaysLeaves}
use Rattle.dsm_words.specs.Place.{Lay, total}
use Rattle.dsm_words.specs.Script.{Act, Script, End, Get, Put}
use Rattle.dsm_words.specs.Words.{word, done}
use Rattle.dsm_words.proofs.Alone.{AreDone, SpeaksOfItsOwn, one_done, leaves_each, leaves_end, leaves_do, leaves_get, IsPlain, plain_each, plain_end, plain_do, plain_if, leaves_unnamed, can_be_made}
use Rattle.dsm_words.proofs.WordLaws.{word_same, word_other, length-done}
use Rattle.dsm_outgoing.specs.Sending.{flush_script, flush_word, flush_store, flush_master, flush_twin}
use Rattle.dsm_outgoing.specs.Laws.{IsFlushed, FlushSends, FlushCanBeMade, FlushLeavesTheUnnamed}

module _ (l : Lay) (n g h : ℕ) (n_in : n < l.nodes) (g_in : g < l.pages) (h_in : h < l.nodes) where
  -- the items that word i may change, and what it makes of them
  abbrev Changed : ℕ → Item → Type 0
  Changed i it = (it ≡ Twin n g i) ⊎ (it ≡ Frame h g i)

  record Becomes (i : ℕ) (f new : Item → ℕ) : Type 0 where
    frame : new (Frame n g i) ≡ f (Frame n g i)
    twin : new (Twin n g i) ≡ f (Frame n g i)
    master : new (Frame h g i) ≡ (if f (Frame n g i) == f (Twin n g i) then f (Frame h g i) else f (Frame n g i))

  frame_alone : (m i j : ℕ) → i ≢ j → Changed i (Frame m g j) → ⊥
  frame_alone m i j ne (inl e) = absurd (cc e)
  frame_alone m i j ne (inr e) = ne (cc e)

  twin_alone : (i j : ℕ) → i ≢ j → Changed i (Twin n g j) → ⊥
  twin_alone i j ne (inl e) = ne (cc e)
  twin_alone i j ne (inr e) = absurd (cc e)

  own : SpeaksOfItsOwn l Changed Becomes l.words
  own j f f' new new' j_in e e' b =
      let frame = e (Frame n g j) (n_in, g_in, j_in) (λ i ne. frame_alone n i j ne) in
      let twin = e (Twin n g j) (n_in, g_in, j_in) (λ i ne. twin_alone i j ne) in
      let master = e (Frame h g j) (h_in, g_in, j_in) (λ i ne. frame_alone h i j ne) in
      let frame' = e' (Frame n g j) (n_in, g_in, j_in) (λ i ne. frame_alone n i j ne) in
      let twin' = e' (Twin n g j) (n_in, g_in, j_in) (λ i ne. twin_alone i j ne) in
      let master' = e' (Frame h g j) (h_in, g_in, j_in) (λ i ne. frame_alone h i j ne) in
      record {
        frame = sym frame' ∙ (b.frame ∙ frame);
        twin = sym twin' ∙ (b.twin ∙ frame);
        master = sym master' ∙ (rw (frame, twin, master) at b.master);
      }

  module _ (start : List ℕ) where
    abbrev Holds : List ℕ → Type 0
    Holds new = IsFlushed l n g h start new

    one : (i : ℕ) (ws : List ℕ) (s : Script (Unit {0})) → i < l.words → length ws ≡ total l → ((new : List ℕ) → AreDone l Changed Becomes i (i + 1) ws new → AlwaysLeaves l new s Holds) → AlwaysLeaves l ws (flush_word n g h i s) Holds
    one i ws s i_in long go = leaves_get l ws (Frame n g i) (λ v. flush_twin n g h i v s) Holds (leaves_get l ws (Twin n g i) (λ t. if v == t then s else flush_store n g h i v s) Holds (either (v == word l ws (Twin n g i)) refl))
      where
        v : ℕ
        v = word l ws (Frame n g i)

        put : Act
        put = Put (Twin n g i) v

        mid : List ℕ
        mid = done l ws put

        send : Act
        send = Put (Frame h g i) v

        new : List ℕ
        new = done l mid send

        sent : word l new (Frame h g i) ≡ v
        sent = word_same l mid send (length-done l ws put ∙ long) (h_in, g_in, i_in)

        -- where the home is the node itself, the word is stored as it was
        frame_kept : ((n == h) ≡ true) × (n ≡ h) ⊎ ((n == h) ≡ false) × (n ≢ h) → word l new (Frame n g i) ≡ v
        frame_kept (inl e) = subst (λ x. word l new (Frame x g i) ≡ v) (sym e.1) sent
        frame_kept (inr e) = word_other l mid send (Frame n g i) (h_in, g_in, i_in) (n_in, g_in, i_in) (λ q. e.1 (cc q)) ∙ word_other l ws put (Frame n g i) (n_in, g_in, i_in) (n_in, g_in, i_in) (λ q. absurd (cc q))

        either : (b : Bool) → (v == word l ws (Twin n g i)) ≡ b → AlwaysLeaves l ws (if b then s else flush_store n g h i v s) Holds
        either true e = go ws (one_done l Changed Becomes i ws ws (record { frame = refl; twin = sym (eqb-true _ _ e); master = rw e refl }) (λ it w ne. refl) refl)
        either false e =
            leaves_do l ws put (λ _. flush_master g h i v s) Holds (leaves_do l mid send (λ _. s) Holds (go new (one_done l Changed Becomes i ws new (record { frame = frame_kept (eqb_tells n h); twin = word_other l mid send (Twin n g i) (h_in, g_in, i_in) (n_in, g_in, i_in) (λ q. absurd (cc q)) ∙ word_same l ws put long (n_in, g_in, i_in); master = rw e sent }) (λ it w ne. word_other l mid send it (h_in, g_in, i_in) w (λ q. ne (inr q)) ∙ word_other l ws put it (n_in, g_in, i_in) w (λ q. ne (inl q))) (length-done l mid send ∙ length-done l ws put))))

    flushed : (new : List ℕ) → AreDone l Changed Becomes 0 l.words start new → Holds new
    flushed new d =
        record {
          frames = λ p i p_in i_in. own_frame p i p_in i_in (eqb_tells p g);
          twin = λ i i_in. (d.become i (omega arith) i_in).twin;
          master = λ i i_in. (d.become i (omega arith) i_in).master;
          others = λ it w ne ne'. d.others it w (λ j _ _ c. neither it j (ne j) (ne' j) c);
        }
      where
        neither : (it : Item) (j : ℕ) → it ≢ Twin n g j → it ≢ Frame h g j → Changed j it → ⊥
        neither it j ne ne' (inl e) = ne e
        neither it j ne ne' (inr e) = ne' e

        own_frame : (p i : ℕ) → p < l.pages → i < l.words → ((p == g) ≡ true) × (p ≡ g) ⊎ ((p == g) ≡ false) × (p ≢ g) → word l new (Frame n p i) ≡ word l start (Frame n p i)
        own_frame p i p_in i_in (inl e) = subst (λ x. word l new (Frame n x i) ≡ word l start (Frame n x i)) (sym e.1) (d.become i (omega arith) i_in).frame
        own_frame p i p_in i_in (inr e) = d.others (Frame n p i) (n_in, p_in, i_in) (λ j _ _ c. neither (Frame n p i) j (λ q. absurd (cc q)) (λ q. e.1 (cc q)) c)

  plain : IsPlain l (flush_script l n g h)
  plain = plain_each l (λ i s. flush_word n g h i s) l.words word_in 0 l.words (End tt) (omega arith) (plain_end l tt)
    where
      word_in : (i : ℕ) (s : Script (Unit {0})) → i < l.words → IsPlain l s → IsPlain l (flush_word n g h i s)
      word_in i s i_in v =
          let store : (x : ℕ) → IsPlain l (flush_store n g h i x s) = λ x. plain_do l (Put (Twin n g i) x) (λ _. flush_master g h i x s) (n_in, g_in, i_in) (λ _. plain_do l (Put (Frame h g i) x) (λ _. s) (h_in, g_in, i_in) (λ _. v)) in
          plain_do l (Get (Frame n g i)) (λ x. flush_twin n g h i x s) (n_in, g_in, i_in) (λ x. plain_do l (Get (Twin n g i)) (λ t. if x == t then s else flush_store n g h i x s) (n_in, g_in, i_in) (λ t. plain_if l (x == t) s (flush_store n g h i x s) v (store x)))

pub flush_sends : FlushSends
flush_sends l n g h ws n_in g_in h_in long =
    leaves_each l (Changed l n g h n_in g_in h_in) (Becomes l n g h n_in g_in h_in) (λ i s. flush_word n g h i s) l.words (Holds l n g h n_in g_in h_in ws) (own l n g h n_in g_in h_in) (one l n g h n_in g_in h_in ws) 0 l.words ws (End tt) (omega arith) long (λ new d. leaves_end l new tt (Holds l n g h n_in g_in h_in ws) (flushed l n g h n_in g_in h_in ws new d))

pub flush_leaves : FlushLeavesTheUnnamed
flush_leaves l n g h n_in g_in h_in = leaves_unnamed l (flush_script l n g h) (plain l n g h n_in g_in h_in)

pub flush_made : FlushCanBeMade
flush_made l n g h n_in g_in h_in = can_be_made l (flush_script l n g h) (plain l n g h n_in g_in h_in)
