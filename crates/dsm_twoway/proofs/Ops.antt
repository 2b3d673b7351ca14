-- An operation of a node's open block: the words behind it, and the numbers.
use Rattle.std.proofs.Common.{◌≡◌, ◌≢◌, ◌⊎◌, inl, inr, ℕ, suc, ◌≤◌, ◌==◌, Bool, true, false, refl, sym, ap, ◌∙◌, subst, arith}
use Rattle.std.proofs.lemmas.Bool.{cases_eq, eq-eqb, ne_eqb}
use Rattle.dsm_words.specs.declared.item.Item.{Item}
use Rattle.dsm_words.specs.declared.item.Item.TheVariants.{Frame, Twin, Twined, Dir, Update, Turn}
use Rattle.dsm_words.specs.Place.{IsWithin}
use Rattle.dsm_words.specs.Script.{Act, Get, item_of}
use Rattle.dsm_words.specs.Words.{word, done}
use Rattle.dsm_copies.specs.Modes.{Mode, Flush_end, Flush_tell, Merge_end, Overwrite_end, Enter_end, Break_end, op_mode, op_frame, op_twin, op_master, op_fetched, may_store}
use Rattle.dsm_copies.specs.Copies as W
use Rattle.dsm_copies.specs.Copies.{put, op_node}
use Rattle.dsm_copies.specs.Counts.{Count, count, op_sent, op_told, op_last_break, op_got}
use Rattle.dsm_twoway.specs.Views.{plain}
use Rattle.dsm_twoway.specs.Tied.{IsAway, rest_of, Copy, Words}
use Rattle.dsm_twoway.proofs.Modes.{op_plain, frame_plain, twin_plain, master_plain, sent_plain, told_plain, broken_plain, got_plain, op_may, op_keeps_fetched}
use Rattle.dsm_twoway.proofs.Numbers.{Equal}
use Rattle.dsm_twoway.proofs.Scene.{Scene, place}
use Rattle.dsm_twoway.proofs.Changes.{IsOf, IsPart, stays, part_stays, rest_stays, words_at}

-- tables
pub put_same : {A : Type 0} (f : ℕ → A) (n : ℕ) (y : A) → put f n y n ≡ y
put_same f n y = rw (eq-eqb n n refl) refl

pub put_other : {A : Type 0} (f : ℕ → A) (n : ℕ) (y : A) (k : ℕ) → k ≢ n → put f n y k ≡ f k
put_other f n y k ne = rw (ne_eqb k n ne) refl

pub put_what : {A : Type 0} (f : ℕ → A) (n : ℕ) (y : A) → y ≡ f n → (k : ℕ) → put f n y k ≡ f k
put_what f n y e k = go (cases_eq k n)
  where
    go : (k ≡ n) ⊎ (k ≢ n) → put f n y k ≡ f k
    go (inl d) = rw (eq-eqb k n d) (e ∙ ap f (sym d))
    go (inr ne) = put_other f n y k ne

-- it ends a send or a fetch, or tells a send
abbrev pub is_counted : Mode → Bool
is_counted Flush_end = true
is_counted Flush_tell = true
is_counted Break_end = true
is_counted (Merge_end late) = true
is_counted (Overwrite_end late) = true
is_counted (Enter_end late) = true
is_counted x = false

sent_left : (a : ℕ) (x : Mode) → is_counted x ≡ false → op_sent a x ≡ a
sent_left a Flush_end i = absurd (cc i)
sent_left a Break_end i = absurd (cc i)
sent_left a x i = refl

told_left : (a b : ℕ) (x : Mode) → is_counted x ≡ false → op_told a b x ≡ b
told_left a b Flush_tell i = absurd (cc i)
told_left a b Break_end i = absurd (cc i)
told_left a b x i = refl

broken_left : (a b : ℕ) (x : Mode) → is_counted x ≡ false → op_last_break a b x ≡ b
broken_left a b Break_end i = absurd (cc i)
broken_left a b x i = refl

got_left : (a b : ℕ) (x : Mode) → is_counted x ≡ false → op_got a b x ≡ b
got_left a b (Merge_end late) i = absurd (cc i)
got_left a b (Overwrite_end late) i = absurd (cc i)
got_left a b (Enter_end late) i = absurd (cc i)
got_left a b x i = refl

-- other operations leave the numbers
pub op_equal : (x : W.State) (n : ℕ) (c : Count) (v : Mode) → plain (x.nodes n).mode ≡ v → is_counted v ≡ false → Equal c (count x (W.Op n) c)
op_equal x n c v e i =
    let m : Mode = (x.nodes n).mode in
    let u : is_counted (plain m) ≡ false = ap is_counted e ∙ i in
    record {
      sent_is = put_what c.sent (suc n) (op_sent (c.sent (suc n)) m) (sent_plain (c.sent (suc n)) m ∙ sent_left (c.sent (suc n)) (plain m) u);
      told_is = put_what c.told (suc n) (op_told (c.sent (suc n)) (c.told (suc n)) m) (told_plain (c.sent (suc n)) (c.told (suc n)) m ∙ told_left (c.sent (suc n)) (c.told (suc n)) (plain m) u);
      broken_is = put_what c.broken (suc n) (op_last_break (c.sent (suc n)) (c.broken (suc n)) m) (broken_plain (c.sent (suc n)) (c.broken (suc n)) m ∙ broken_left (c.sent (suc n)) (c.broken (suc n)) (plain m) u);
      got_is = λ k j. ap (λ (z : ℕ → ℕ). z j) (put_what c.got n (λ l. op_got (c.snap n l) (c.got n l) m) (λ z l. (got_plain (c.snap n l) (c.got n l) m ∙ got_left (c.snap n l) (c.got n l) (plain m) u) z) k);
      snap_is = λ k j. refl;
      known_is = λ q k. refl;
    }

module _ (s : Scene) (a : Act) (within : IsWithin s.u.lay (item_of a)) (n : ℕ) (away : IsAway s.h s.u n) (v : Mode) (is : plain (s.x.nodes n).mode ≡ v) where
  abbrev y : W.Node
  y = s.x.nodes n

  abbrev y' : W.Node
  y' = op_node s.x.master s.x.progress (s.x.nodes n)

  -- what is open behind it
  pub mode_behind : plain ((W.after_event (place s) s.x (W.Op n)).nodes n).mode ≡ plain (op_mode s.x.master 0 y.frame y.twin v)
  mode_behind = ap (λ (z : W.Node). plain z.mode) (put_same s.x.nodes n y') ∙ op_plain s.x.master s.x.progress y.frame y.twin y.mode ∙ ap (λ z. plain (op_mode s.x.master 0 y.frame y.twin z)) is

  -- The words behind it, where they are what the operation leaves: of a word at the node, at the home, or of none of the copies.
  pub op_words : ((k : ℕ) → k ≢ n → IsAway s.h s.u k → IsOf s k (item_of a) → ⊥)
      → word s.u.lay (done s.u.lay s.ws a) (Frame s.h s.g s.i) ≡ op_master s.x.master v
      → word s.u.lay (done s.u.lay s.ws a) (Frame n s.g s.i) ≡ op_frame y.frame v
      → word s.u.lay (done s.u.lay s.ws a) (Twin n s.g s.i) ≡ op_twin y.twin v
      → (word s.u.lay (done s.u.lay s.ws a) (Dir s.h s.g) == 2) ≡ s.x.home_exclusive
      → (word s.u.lay (done s.u.lay s.ws a) (Update n s.g) ≢ 0 → op_fetched y.fetched y.mode ≡ true)
      → (word s.u.lay (done s.u.lay s.ws a) (Turn n s.g) ≡ 0 → plain (op_mode s.x.master 0 y.frame y.twin v) ≡ rest_of s.h s.g s.i s.u (done s.u.lay s.ws a) n)
      → ((word s.u.lay (done s.u.lay s.ws a) (Twined n s.g) ≡ 1) ⊎ (word s.u.lay (done s.u.lay s.ws a) (Dir n s.g) ≡ 2) → may_store (op_mode s.x.master s.x.progress y.frame y.twin y.mode) ≡ true)
      → Words s.h s.g s.i s.u (done s.u.lay s.ws a) (W.after_event (place s) s.x (W.Op n))
  op_words off master frame twin home fetched rest rights =
      words_at s a within n (W.after_event (place s) s.x (W.Op n)) off (λ k ne. put_other s.x.nodes n y' k ne)
      (λ _. subst (Copy s.h s.g s.i s.u (done s.u.lay s.ws a) n) (sym (put_same s.x.nodes n y'))
      (record {
        frame_is = frame ∙ sym (frame_plain y.frame y.mode ∙ ap (op_frame y.frame) is);
        twin_is = twin ∙ sym (twin_plain y.twin y.mode ∙ ap (op_twin y.twin) is);
        fetched_is = fetched;
        rest_is = λ z. op_plain s.x.master s.x.progress y.frame y.twin y.mode ∙ ap (λ w. plain (op_mode s.x.master 0 y.frame y.twin w)) is ∙ rest z;
        rights = rights;
      }))
      (λ out. absurd (none out))
      (master ∙ sym (master_plain s.x.master y.mode ∙ ap (op_master s.x.master) is)) home
    where
      none : (n ≡ s.h) ⊎ (s.u.lay.nodes ≤ n) → ⊥
      none (inl e) = away.1 e
      none (inr l) = absurd (omega (arith, l, away.0))

  -- a word that none of the copy's control words is
  abbrev pub IsData : Item → Type 0
  IsData (Twined k e) = ⊥
  IsData (Dir k e) = ⊥
  IsData (Update k e) = ⊥
  IsData (Turn k e) = ⊥
  IsData it = Unit {0}

  control : (it : Item) → (IsData it → ⊥) → IsData (item_of a) → it ≢ item_of a
  control it off i e = off (subst IsData (sym e) i)

  -- what would be open at any node stays
  pub rest_left : IsData (item_of a) → (k : ℕ) → IsAway s.h s.u k → rest_of s.h s.g s.i s.u (done s.u.lay s.ws a) k ≡ rest_of s.h s.g s.i s.u s.ws k
  rest_left i k at = rest_stays s a within k (stays s a within (Dir k s.g) (at.0, s.g_in) (control (Dir k s.g) (λ z. z) i)) (stays s a within (Twined k s.g) (at.0, s.g_in) (control (Twined k s.g) (λ z. z) i))

  -- such an operation under the turn
  pub op_held : IsData (item_of a) → word s.u.lay s.ws (Turn n s.g) ≢ 0 → ((k : ℕ) → k ≢ n → IsAway s.h s.u k → IsOf s k (item_of a) → ⊥)
      → word s.u.lay (done s.u.lay s.ws a) (Frame s.h s.g s.i) ≡ op_master s.x.master v
      → word s.u.lay (done s.u.lay s.ws a) (Frame n s.g s.i) ≡ op_frame y.frame v
      → word s.u.lay (done s.u.lay s.ws a) (Twin n s.g s.i) ≡ op_twin y.twin v
      → Words s.h s.g s.i s.u (done s.u.lay s.ws a) (W.after_event (place s) s.x (W.Op n))
  op_held i held off master frame twin =
      let m = s.match.words in
      let c = m.each n away in
      let up = stays s a within (Update n s.g) (away.0, s.g_in) (control (Update n s.g) (λ z. z) i) in
      let tu = stays s a within (Turn n s.g) (away.0, s.g_in) (control (Turn n s.g) (λ z. z) i) in
      let d = stays s a within (Dir n s.g) (away.0, s.g_in) (control (Dir n s.g) (λ z. z) i) in
      let t = stays s a within (Twined n s.g) (away.0, s.g_in) (control (Twined n s.g) (λ z. z) i) in
      op_words off master frame twin
      (ap (λ z. z == 2) (stays s a within (Dir s.h s.g) (s.h_in, s.g_in) (control (Dir s.h s.g) (λ z. z) i)) ∙ m.home_is)
      (λ ne. op_keeps_fetched y.fetched y.mode (c.fetched_is (λ z. ne (up ∙ z))))
      (λ z. absurd (held (sym tu ∙ z)))
      (λ z. op_may s.x.master s.x.progress y.frame y.twin y.mode (c.rights (either (sym t) (sym d) z)))
    where
      either : {p p' q q' : ℕ} → p ≡ p' → q ≡ q' → (p' ≡ 1) ⊎ (q' ≡ 2) → (p ≡ 1) ⊎ (q ≡ 2)
      either e f (inl z) = inl (e ∙ z)
      either e f (inr z) = inr (f ∙ z)

-- a load by such an operation, under the turn
pub reads : (s : Scene) (it : Item) (within : IsWithin s.u.lay it) {n : ℕ} (away : IsAway s.h s.u n) (v : Mode) (is : plain (s.x.nodes n).mode ≡ v) → word s.u.lay s.ws (Turn n s.g) ≢ 0 → ((k : ℕ) → k ≢ n → IsAway s.h s.u k → IsOf s k it → ⊥)
    → op_master s.x.master v ≡ s.x.master → op_frame (s.x.nodes n).frame v ≡ (s.x.nodes n).frame → op_twin (s.x.nodes n).twin v ≡ (s.x.nodes n).twin
    → Words s.h s.g s.i s.u (done s.u.lay s.ws (Get it)) (W.after_event (place s) s.x (W.Op n))
reads s it within {n} away v is held off master frame twin =
    let m = s.match.words in
    let c = m.each n away in
    let up : word s.u.lay (done s.u.lay s.ws (Get it)) (Update n s.g) ≡ word s.u.lay s.ws (Update n s.g) = left (Update n s.g) (away.0, s.g_in) refl in
    let t = left (Twined n s.g) (away.0, s.g_in) refl in
    let d = left (Dir n s.g) (away.0, s.g_in) refl in
    op_words s (Get it) within n away v is off
    (left (Frame s.h s.g s.i) (s.h_in, s.g_in, s.i_in) (refl, refl) ∙ m.master_is ∙ sym master)
    (left (Frame n s.g s.i) (away.0, s.g_in, s.i_in) (refl, refl) ∙ c.frame_is ∙ sym frame)
    (left (Twin n s.g s.i) (away.0, s.g_in, s.i_in) (refl, refl) ∙ c.twin_is ∙ sym twin)
    (ap (λ z. z == 2) (left (Dir s.h s.g) (s.h_in, s.g_in) refl) ∙ m.home_is)
    (λ ne. op_keeps_fetched (s.x.nodes n).fetched (s.x.nodes n).mode (c.fetched_is (λ z. ne (up ∙ z))))
    (λ z. absurd (held (sym (left (Turn n s.g) (away.0, s.g_in) refl) ∙ z)))
    (λ z. op_may s.x.master s.x.progress (s.x.nodes n).frame (s.x.nodes n).twin (s.x.nodes n).mode (c.rights (either (sym t) (sym d) z)))
  where
    left : (jt : Item) → IsWithin s.u.lay jt → IsPart s jt → word s.u.lay (done s.u.lay s.ws (Get it)) jt ≡ word s.u.lay s.ws jt
    left jt i p = part_stays s (Get it) within (λ _. refl) jt i p

    either : {p p' q q' : ℕ} → p ≡ p' → q ≡ q' → (p' ≡ 1) ⊎ (q' ≡ 2) → (p ≡ 1) ⊎ (q ≡ 2)
    either e f (inl z) = inl (e ∙ z)
    either e f (inr z) = inr (f ∙ z)
