-- A break made alone: its processors one by one, and then its words.
use Rattle.std.proofs.Common.{◌≡◌, ◌≢◌, ℕ, suc, ◌+◌, ◌*◌, ◌<◌, ◌≤◌, Bool, true, false, List, length, refl, sym, ◌∙◌, ◌⊎◌, inl, inr, arith, if◌then◌else◌, ◌==◌, ◌/◌}
use Rattle.std.specs.Prelude.{bit_or}
use Rattle.std.proofs.Math.Nat.{mul-le-mul_right}
use Rattle.std.proofs.lemmas.Bool.Decides.{eqb_tells}
use Rattle.dsm_words.specs.declared.item.Item.{Item}
use Rattle.dsm_words.specs.declared.item.Item.TheVariants.{Frame, Twin, Twined, Map, Dir, Nle}
use Rattle.dsm_words.specs.Changes.{AlwaysLeaves}
use Rattle.dsm_words.specs.Pages.{group_of, bit_of}
use Rattle.dsm_words.specs.Place.{Lay, IsWithin, processors, groups, total}
use Rattle.dsm_words.specs.Script.{Act, Script, End, Get, Put, Or}
use Rattle.dsm_words.specs.Words.{word, done}
use Rattle.dsm_words.proofs.Alone.{AreDone, SpeaksOfItsOwn, one_done, leaves_each, leaves_end, leaves_do, leaves_get, IsPlain, plain_each, plain_end, plain_do, plain_if, leaves_unnamed, can_be_made}
use Rattle.dsm_words.proofs.WordLaws.{word_same, word_other, length-done}
use Rattle.dsm_exclusive.specs.Breaking.{break_script, break_copy, break_words, break_twined, break_end, break_map, break_tell, break_word, break_store, break_master}
use Rattle.dsm_exclusive.specs.Laws.{IsBroken, BreakSends, BreakCanBeMade, BreakLeavesTheUnnamed}

module _ (l : Lay) (m g h : ℕ) (m_in : m < l.nodes) (g_in : g < l.pages) (h_in : h < l.nodes) where
  k_in : g / 64 < groups l
  k_in = omega arith

  -- behind the node's last processor
  abbrev last : ℕ
  last = m * l.procs + l.procs

  q_in : (q : ℕ) → q < last → q < processors l
  q_in q lt = let e : suc m * l.procs ≤ l.nodes * l.procs = mul-le-mul_right l.procs m_in in omega (arith, e)

  -- the item that processor q may change, and what it makes of it
  abbrev Told : ℕ → Item → Type 0
  Told q it = it ≡ Nle q (group_of g)

  abbrev BecomesTold : ℕ → (Item → ℕ) → (Item → ℕ) → Type 0
  BecomesTold q f new = new (Nle q (group_of g)) ≡ (if f (Map q g) == 2 then bit_or (f (Nle q (group_of g))) (bit_of g) else f (Nle q (group_of g)))

  own_told : SpeaksOfItsOwn l Told BecomesTold last
  own_told j f f' new new' lt e e' b =
      let map = e (Map j g) (q_in j lt, g_in) (λ i ne q. absurd (cc q)) in
      let nle = e (Nle j (group_of g)) (q_in j lt, k_in) (λ i ne q. ne (cc q)) in
      sym (e' (Nle j (group_of g)) (q_in j lt, k_in) (λ i ne q. ne (cc q))) ∙ (rw (map, nle) at b)

  -- the items that word i may change, and what it makes of them
  abbrev Sent : ℕ → Item → Type 0
  Sent i it = (it ≡ Twin m g i) ⊎ (it ≡ Frame h g i)

  record BecomesSent (i : ℕ) (f new : Item → ℕ) : Type 0 where
    frame : new (Frame m g i) ≡ f (Frame m g i)
    twin : new (Twin m g i) ≡ f (Frame m g i)
    master : new (Frame h g i) ≡ f (Frame m g i)

  frame_alone : (n i j : ℕ) → i ≢ j → Sent i (Frame n g j) → ⊥
  frame_alone n i j ne (inl e) = absurd (cc e)
  frame_alone n i j ne (inr e) = ne (cc e)

  twin_alone : (i j : ℕ) → i ≢ j → Sent i (Twin m g j) → ⊥
  twin_alone i j ne (inl e) = ne (cc e)
  twin_alone i j ne (inr e) = absurd (cc e)

  own_sent : SpeaksOfItsOwn l Sent BecomesSent l.words
  own_sent j f f' new new' j_in e e' b =
      let frame = e (Frame m g j) (m_in, g_in, j_in) (λ i ne. frame_alone m i j ne) in
      let frame' = e' (Frame m g j) (m_in, g_in, j_in) (λ i ne. frame_alone m i j ne) in
      let twin' = e' (Twin m g j) (m_in, g_in, j_in) (λ i ne. twin_alone i j ne) in
      let master' = e' (Frame h g j) (h_in, g_in, j_in) (λ i ne. frame_alone h i j ne) in
      record { frame = sym frame' ∙ (b.frame ∙ frame); twin = sym twin' ∙ (b.twin ∙ frame); master = sym master' ∙ (b.master ∙ frame) }

  module _ (Holds : List ℕ → Type 0) where
    one_told : (q : ℕ) (ws : List ℕ) (s : Script (Unit {0})) → q < last → length ws ≡ total l → ((new : List ℕ) → AreDone l Told BecomesTold q (q + 1) ws new → AlwaysLeaves l new s Holds) → AlwaysLeaves l ws (break_map g q s) Holds
    one_told q ws s lt long go = leaves_get l ws (Map q g) (λ v. if v == 2 then break_tell g q s else s) Holds (either (word l ws (Map q g) == 2) refl)
      where
        tell : Act
        tell = Or (Nle q (group_of g)) (bit_of g)

        either : (b : Bool) → (word l ws (Map q g) == 2) ≡ b → AlwaysLeaves l ws (if b then break_tell g q s else s) Holds
        either true e = leaves_do l ws tell (λ _. s) Holds (go (done l ws tell) (one_done l Told BecomesTold q ws (done l ws tell) (rw e (word_same l ws tell long (q_in q lt, k_in))) (λ it w ne. word_other l ws tell it (q_in q lt, k_in) w ne) (length-done l ws tell)))
        either false e = go ws (one_done l Told BecomesTold q ws ws (rw e refl) (λ it w ne. refl) refl)

    one_sent : m ≢ h → (i : ℕ) (ws : List ℕ) (s : Script (Unit {0})) → i < l.words → length ws ≡ total l → ((new : List ℕ) → AreDone l Sent BecomesSent i (i + 1) ws new → AlwaysLeaves l new s Holds) → AlwaysLeaves l ws (break_word m g h i s) Holds
    one_sent away i ws s i_in long go =
        let v = word l ws (Frame m g i) in
        let put = Put (Twin m g i) v in
        let mid = done l ws put in
        let send = Put (Frame h g i) v in
        let new = done l mid send in
        leaves_get l ws (Frame m g i) (λ v. break_store m g h i v s) Holds (leaves_do l ws put (λ _. break_master g h i v s) Holds (leaves_do l mid send (λ _. s) Holds (go new (one_done l Sent BecomesSent i ws new (record {
          frame = word_other l mid send (Frame m g i) (h_in, g_in, i_in) (m_in, g_in, i_in) (λ q. away (cc q)) ∙ word_other l ws put (Frame m g i) (m_in, g_in, i_in) (m_in, g_in, i_in) (λ q. absurd (cc q));
          twin = word_other l mid send (Twin m g i) (h_in, g_in, i_in) (m_in, g_in, i_in) (λ q. absurd (cc q)) ∙ word_same l ws put long (m_in, g_in, i_in);
          master = word_same l mid send (length-done l ws put ∙ long) (h_in, g_in, i_in);
        }) (λ it w ne. word_other l mid send it (h_in, g_in, i_in) w (λ q. ne (inr q)) ∙ word_other l ws put it (m_in, g_in, i_in) w (λ q. ne (inl q))) (length-done l mid send ∙ length-done l ws put)))))

  module _ (ws : List ℕ) (long : length ws ≡ total l) where
    abbrev Holds : List ℕ → Type 0
    Holds new = IsBroken l m g h ws new

    abbrev AreTold : List ℕ → Type 0
    AreTold mid = AreDone l Told BecomesTold (m * l.procs) last ws mid

    -- what is no word of a processor is left by the bits
    untold : (mid : List ℕ) → AreTold mid → (it : Item) → IsWithin l it → ((q : ℕ) → it ≢ Nle q (group_of g)) → word l mid it ≡ word l ws it
    untold mid d it w ne = d.others it w (λ j _ _ c. ne j c)

    at_home : m ≡ h → (mid : List ℕ) → AreTold mid → AlwaysLeaves l mid (break_end m g) Holds
    at_home e mid d =
        let new = done l mid (Put (Dir m g) 1) in
        leaves_do l mid (Put (Dir m g) 1) (λ _. End tt) Holds (leaves_end l new tt Holds (record {
          frame = λ i i_in. kept (Frame m g i) (m_in, g_in, i_in) (λ q. absurd (cc q)) ∙ untold mid d (Frame m g i) (m_in, g_in, i_in) (λ j q. absurd (cc q));
          twin = λ i i_in ne. absurd (ne e);
          master = λ i i_in ne. absurd (ne e);
          told = λ q of. kept (Nle q (group_of g)) (q_in q of.1, k_in) (λ x. absurd (cc x)) ∙ d.become q of.0 of.1;
          at_home = λ it w _ ne ne'. kept it w ne' ∙ d.others it w (λ j p q c. ne j (p, q) c);
          others = λ it w ne ne' _ _ _. kept it w ne' ∙ d.others it w (λ j p q c. ne j (p, q) c);
        }))
      where
        kept : (it : Item) → IsWithin l it → it ≢ Dir m g → word l (done l mid (Put (Dir m g) 1)) it ≡ word l mid it
        kept it w ne = word_other l mid (Put (Dir m g) 1) it (m_in, g_in) w ne

    away : m ≢ h → (mid : List ℕ) → AreTold mid → (sent : List ℕ) → AreDone l Sent BecomesSent 0 l.words mid sent → AlwaysLeaves l sent (break_twined m g) Holds
    away ne mid d sent b =
        leaves_do l sent twined (λ _. break_end m g) Holds (leaves_do l twin dir (λ _. End tt) Holds (leaves_end l new tt Holds (record {
          frame = λ i i_in. kept (Frame m g i) (m_in, g_in, i_in) (λ q. absurd (cc q)) (λ q. absurd (cc q)) ∙ ((b.become i (omega arith) i_in).frame ∙ frame i i_in);
          twin = λ i i_in _. kept (Twin m g i) (m_in, g_in, i_in) (λ q. absurd (cc q)) (λ q. absurd (cc q)) ∙ ((b.become i (omega arith) i_in).twin ∙ frame i i_in);
          master = λ i i_in _. kept (Frame h g i) (h_in, g_in, i_in) (λ q. absurd (cc q)) (λ q. absurd (cc q)) ∙ ((b.become i (omega arith) i_in).master ∙ frame i i_in);
          told = λ q of. kept (Nle q (group_of g)) (q_in q of.1, k_in) (λ x. absurd (cc x)) (λ x. absurd (cc x)) ∙ (b.others (Nle q (group_of g)) (q_in q of.1, k_in) (λ j _ _ c. neither (Nle q (group_of g)) j (λ x. absurd (cc x)) (λ x. absurd (cc x)) c) ∙ d.become q of.0 of.1);
          at_home = λ it w e. absurd (ne e);
          others = λ it w no_nle no_dir no_twin no_master no_twined. kept it w no_twined no_dir ∙ (b.others it w (λ j _ _ c. neither it j (no_twin j) (no_master j) c) ∙ d.others it w (λ j p q c. no_nle j (p, q) c));
        })))
      where
        twined : Act
        twined = Put (Twined m g) 1

        twin : List ℕ
        twin = done l sent twined

        dir : Act
        dir = Put (Dir m g) 1

        new : List ℕ
        new = done l twin dir

        kept : (it : Item) → IsWithin l it → it ≢ Twined m g → it ≢ Dir m g → word l new it ≡ word l sent it
        kept it w no_twined no_dir = word_other l twin dir it (m_in, g_in) w no_dir ∙ word_other l sent twined it (m_in, g_in) w no_twined

        frame : (i : ℕ) → i < l.words → word l mid (Frame m g i) ≡ word l ws (Frame m g i)
        frame i i_in = untold mid d (Frame m g i) (m_in, g_in, i_in) (λ j q. absurd (cc q))

        neither : (it : Item) (j : ℕ) → it ≢ Twin m g j → it ≢ Frame h g j → Sent j it → ⊥
        neither it j no_twin no_master (inl e) = no_twin e
        neither it j no_twin no_master (inr e) = no_master e

    copied : (mid : List ℕ) → AreTold mid → ((m == h) ≡ true) × (m ≡ h) ⊎ ((m == h) ≡ false) × (m ≢ h) → AlwaysLeaves l mid (break_copy l m g h) Holds
    copied mid d (inl e) = rw e.0 (at_home e.1 mid d)
    copied mid d (inr e) = rw e.0 (leaves_each l Sent BecomesSent (λ i s. break_word m g h i s) l.words Holds own_sent (one_sent Holds e.1) 0 l.words mid (break_twined m g) (omega arith) (d.long ∙ long) (λ sent b. away e.1 mid d sent b))

    sends : AlwaysLeaves l ws (break_script l m g h) Holds
    sends = leaves_each l Told BecomesTold (λ q s. break_map g q s) last Holds own_told (one_told Holds) (m * l.procs) l.procs ws (break_copy l m g h) refl long (λ mid d. copied mid d (eqb_tells m h))

  plain : IsPlain l (break_script l m g h)
  plain = plain_each l (λ q s. break_map g q s) last map_in (m * l.procs) l.procs (break_copy l m g h) refl (plain_if l (m == h) (break_end m g) (break_words m g h 0 l.words) dir_in (plain_each l (λ i s. break_word m g h i s) l.words word_in 0 l.words (break_twined m g) (omega arith) (plain_do l (Put (Twined m g) 1) (λ _. break_end m g) (m_in, g_in) (λ _. dir_in))))
    where
      dir_in : IsPlain l (break_end m g)
      dir_in = plain_do l (Put (Dir m g) 1) (λ _. End tt) (m_in, g_in) (λ _. plain_end l tt)

      map_in : (q : ℕ) (s : Script (Unit {0})) → q < last → IsPlain l s → IsPlain l (break_map g q s)
      map_in q s lt v = plain_do l (Get (Map q g)) (λ x. if x == 2 then break_tell g q s else s) (q_in q lt, g_in) (λ x. plain_if l (x == 2) (break_tell g q s) s (plain_do l (Or (Nle q (group_of g)) (bit_of g)) (λ _. s) (q_in q lt, k_in) (λ _. v)) v)

      word_in : (i : ℕ) (s : Script (Unit {0})) → i < l.words → IsPlain l s → IsPlain l (break_word m g h i s)
      word_in i s i_in v = plain_do l (Get (Frame m g i)) (λ x. break_store m g h i x s) (m_in, g_in, i_in) (λ x. plain_do l (Put (Twin m g i) x) (λ _. break_master g h i x s) (m_in, g_in, i_in) (λ _. plain_do l (Put (Frame h g i) x) (λ _. s) (h_in, g_in, i_in) (λ _. v)))

pub break_sends : BreakSends
break_sends l m g h ws m_in g_in h_in long = sends l m g h m_in g_in h_in ws long

pub break_leaves : BreakLeavesTheUnnamed
break_leaves l m g h m_in g_in h_in = leaves_unnamed l (break_script l m g h) (plain l m g h m_in g_in h_in)

pub break_made : BreakCanBeMade
break_made l m g h m_in g_in h_in = can_be_made l (break_script l m g h) (plain l m g h m_in g_in h_in)
