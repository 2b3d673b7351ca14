-- Which words of a page are a word's copies', and what stays of them behind an operation.
use Rattle.std.proofs.Common.{◌≡◌, ◌≢◌, ◌⊎◌, inl, inr, ℕ, ◌≤◌, ◌==◌, List, refl, sym, ap, ◌∙◌, subst}
use Rattle.std.proofs.lemmas.Bool.{cases_eq}
use Rattle.dsm_words.specs.declared.item.Item.{Item}
use Rattle.dsm_words.specs.declared.item.Item.TheVariants.{Frame, Twin, Twined, Dir, Update, Turn}
use Rattle.dsm_words.specs.Place as L
use Rattle.dsm_words.specs.Place.{IsWithin}
use Rattle.dsm_words.specs.Script.{Act, item_of}
use Rattle.dsm_words.specs.Words.{word, done, left_in}
use Rattle.dsm_words.proofs.WordLaws.{word_same, word_other}
use Rattle.dsm_words.proofs.PlaceLaws.{place_injective}
use Rattle.dsm_copies.specs.Modes.{Mode, Bare}
use Rattle.dsm_copies.specs.Copies as W
use Rattle.dsm_twoway.specs.Views.{resting}
use Rattle.dsm_twoway.specs.Tied.{IsAway, rest_of, Copy, Words}
use Rattle.dsm_twoway.proofs.Scene.{Scene}

module _ (s : Scene) where
  -- the words of the copy at node n, and of all copies
  abbrev pub IsOf : ℕ → Item → Type 0
  IsOf n (Frame k e j) = (k ≡ n) × (e ≡ s.g) × (j ≡ s.i)
  IsOf n (Twin k e j) = (k ≡ n) × (e ≡ s.g) × (j ≡ s.i)
  IsOf n (Twined k e) = (k ≡ n) × (e ≡ s.g)
  IsOf n (Dir k e) = (k ≡ n) × (e ≡ s.g)
  IsOf n (Update k e) = (k ≡ n) × (e ≡ s.g)
  IsOf n (Turn k e) = (k ≡ n) × (e ≡ s.g)
  IsOf n it = ⊥

  -- the node of a word, and its page
  abbrev pub IsPart : Item → Type 0
  IsPart (Frame k e j) = (e ≡ s.g) × (j ≡ s.i)
  IsPart (Twin k e j) = (e ≡ s.g) × (j ≡ s.i)
  IsPart (Twined k e) = e ≡ s.g
  IsPart (Dir k e) = e ≡ s.g
  IsPart (Update k e) = e ≡ s.g
  IsPart (Turn k e) = e ≡ s.g
  IsPart it = ⊥

  abbrev pub rest_now : ℕ → Mode
  rest_now n = rest_of s.h s.g s.i s.u s.ws n

  module _ (a : Act) (within : IsWithin s.u.lay (item_of a)) where
    abbrev ws' : List ℕ
    ws' = done s.u.lay s.ws a

    -- another word stays, and this one is what the operation leaves
    pub stays : (it : Item) → IsWithin s.u.lay it → it ≢ item_of a → word s.u.lay (done s.u.lay s.ws a) it ≡ word s.u.lay s.ws it
    stays it i ne = word_other s.u.lay s.ws a it within i ne

    pub becomes : word s.u.lay (done s.u.lay s.ws a) (item_of a) ≡ left_in a (word s.u.lay s.ws (item_of a))
    becomes = word_same s.u.lay s.ws a s.long within

    -- a word of the copies stays where the operation leaves those alone
    pub part_stays : (IsPart (item_of a) → left_in a (word s.u.lay s.ws (item_of a)) ≡ word s.u.lay s.ws (item_of a)) → (it : Item) → IsWithin s.u.lay it → IsPart it → word s.u.lay (done s.u.lay s.ws a) it ≡ word s.u.lay s.ws it
    part_stays e it i p = go (cases_eq (L.place s.u.lay it) (L.place s.u.lay (item_of a)))
      where
        go : (L.place s.u.lay it ≡ L.place s.u.lay (item_of a)) ⊎ (L.place s.u.lay it ≢ L.place s.u.lay (item_of a)) → word s.u.lay (done s.u.lay s.ws a) it ≡ word s.u.lay s.ws it
        go (inl d) = let z : it ≡ item_of a = place_injective s.u.lay it (item_of a) i within d in subst (λ y. word s.u.lay (done s.u.lay s.ws a) y ≡ word s.u.lay s.ws y) (sym z) (becomes ∙ e (subst IsPart z p))
        go (inr ne) = stays it i (λ d. ne (ap (L.place s.u.lay) d))

    -- what would be open at a node stays where its words do
    pub rest_stays : (n : ℕ) → word s.u.lay (done s.u.lay s.ws a) (Dir n s.g) ≡ word s.u.lay s.ws (Dir n s.g) → word s.u.lay (done s.u.lay s.ws a) (Twined n s.g) ≡ word s.u.lay s.ws (Twined n s.g) → rest_of s.h s.g s.i s.u (done s.u.lay s.ws a) n ≡ rest_of s.h s.g s.i s.u s.ws n
    rest_stays n d t = λ z. resting (d z) (t z)

    module _ (n : ℕ) (away : IsAway s.h s.u n) (y : W.Node) where
      -- a copy whose words all stay
      pub copy_stays : ((it : Item) → IsWithin s.u.lay it → IsOf n it → word s.u.lay (done s.u.lay s.ws a) it ≡ word s.u.lay s.ws it) → Copy s.h s.g s.i s.u s.ws n y → Copy s.h s.g s.i s.u (done s.u.lay s.ws a) n y
      copy_stays k c =
          let d = k (Dir n s.g) (away.0, s.g_in) (refl, refl) in
          let t = k (Twined n s.g) (away.0, s.g_in) (refl, refl) in
          let rights : (word s.u.lay (done s.u.lay s.ws a) (Twined n s.g) ≡ 1) ⊎ (word s.u.lay (done s.u.lay s.ws a) (Dir n s.g) ≡ 2) → (word s.u.lay s.ws (Twined n s.g) ≡ 1) ⊎ (word s.u.lay s.ws (Dir n s.g) ≡ 2) = either (sym t) (sym d) in
          record {
            frame_is = k (Frame n s.g s.i) (away.0, s.g_in, s.i_in) (refl, refl, refl) ∙ c.frame_is;
            twin_is = k (Twin n s.g s.i) (away.0, s.g_in, s.i_in) (refl, refl, refl) ∙ c.twin_is;
            fetched_is = λ ne. c.fetched_is (λ z. ne (k (Update n s.g) (away.0, s.g_in) (refl, refl) ∙ z));
            rest_is = λ z. c.rest_is (sym (k (Turn n s.g) (away.0, s.g_in) (refl, refl)) ∙ z) ∙ sym (rest_stays n d t);
            rights = λ z. c.rights (rights z);
          }
        where
          either : {p p' q q' : ℕ} → p ≡ p' → q ≡ q' → (p' ≡ 1) ⊎ (q' ≡ 2) → (p ≡ 1) ⊎ (q ≡ 2)
          either e f (inl z) = inl (e ∙ z)
          either e f (inr z) = inr (f ∙ z)

      -- or one of which the operation has none
      pub copy_off : (IsOf n (item_of a) → ⊥) → Copy s.h s.g s.i s.u s.ws n y → Copy s.h s.g s.i s.u (done s.u.lay s.ws a) n y
      copy_off off c = copy_stays (λ it i z. stays it i (λ e. off (subst (IsOf n) e z))) c

    -- the words of all copies stay
    pub words_stay : ((it : Item) → IsWithin s.u.lay it → IsPart it → word s.u.lay (done s.u.lay s.ws a) it ≡ word s.u.lay s.ws it) → Words s.h s.g s.i s.u (done s.u.lay s.ws a) s.x
    words_stay k =
        let m = s.match.words in
        record {
          master_is = k (Frame s.h s.g s.i) (s.h_in, s.g_in, s.i_in) (refl, refl) ∙ m.master_is;
          home_is = ap (λ z. z == 2) (k (Dir s.h s.g) (s.h_in, s.g_in) refl) ∙ m.home_is;
          each = λ n away. copy_stays n away (s.x.nodes n) (λ it i z. k it i (part n it z)) (m.each n away);
          none = m.none;
        }
      where
        part : (n : ℕ) (it : Item) → IsOf n it → IsPart it
        part n (Frame k e j) z = (z.1, z.2)
        part n (Twin k e j) z = (z.1, z.2)
        part n (Twined k e) z = z.1
        part n (Dir k e) z = z.1
        part n (Update k e) z = z.1
        part n (Turn k e) z = z.1
        part n it z = absurd z

    -- only the copy of node j changes, and what the home has
    pub words_at : (j : ℕ) (x' : W.State) → ((n : ℕ) → n ≢ j → IsAway s.h s.u n → IsOf n (item_of a) → ⊥) → ((n : ℕ) → n ≢ j → x'.nodes n ≡ s.x.nodes n) → (IsAway s.h s.u j → Copy s.h s.g s.i s.u (done s.u.lay s.ws a) j (x'.nodes j)) → ((j ≡ s.h) ⊎ (s.u.lay.nodes ≤ j) → (x'.nodes j).mode ≡ Bare)
        → word s.u.lay (done s.u.lay s.ws a) (Frame s.h s.g s.i) ≡ x'.master → (word s.u.lay (done s.u.lay s.ws a) (Dir s.h s.g) == 2) ≡ x'.home_exclusive → Words s.h s.g s.i s.u (done s.u.lay s.ws a) x'
    words_at j x' off same copy bare master home =
        record { master_is = master; home_is = home; each = λ n away. each n away (cases_eq n j); none = λ n out. none n out (cases_eq n j) }
      where
        each : (n : ℕ) → IsAway s.h s.u n → (n ≡ j) ⊎ (n ≢ j) → Copy s.h s.g s.i s.u (done s.u.lay s.ws a) n (x'.nodes n)
        each n away (inl e) = subst (λ z. Copy s.h s.g s.i s.u (done s.u.lay s.ws a) z (x'.nodes z)) (sym e) (copy (subst (IsAway s.h s.u) e away))
        each n away (inr ne) = subst (Copy s.h s.g s.i s.u (done s.u.lay s.ws a) n) (sym (same n ne)) (copy_off n away (s.x.nodes n) (off n ne away) (s.match.words.each n away))

        none : (n : ℕ) → (n ≡ s.h) ⊎ (s.u.lay.nodes ≤ n) → (n ≡ j) ⊎ (n ≢ j) → (x'.nodes n).mode ≡ Bare
        none n out (inl e) = ap (λ z. (x'.nodes z).mode) e ∙ bare (subst (λ z. (z ≡ s.h) ⊎ (s.u.lay.nodes ≤ z)) e out)
        none n out (inr ne) = ap (λ (z : W.Node). z.mode) (same n ne) ∙ s.match.words.none n out
