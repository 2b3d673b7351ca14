-- What a row does to the words of its page is what its events do to the state of the page's directory.
use Rattle.std.proofs.Common.{◌≡◌, ◌≢◌, ◌⊎◌, inl, inr, ℕ, suc, ◌/◌, ◌<◌, ◌==◌, Bool, true, false, List, length, refl, sym, ap, ◌∙◌}
use Rattle.std.specs.Prelude.{not, IfSome}
use Rattle.std.proofs.lemmas.Bool.{cases_eq, eq-eqb, ne_eqb}
use Rattle.dsm_words.specs.declared.item.Item.{Item}
use Rattle.dsm_words.specs.declared.item.Item.TheVariants.{Twined, Map, Dir, Update, Turn, Nle, Home, Own as OwnWord, Global}
use Rattle.dsm_words.specs.Place.{IsWithin, processors, total}
use Rattle.dsm_words.specs.Pages.{group_of, has_page}
use Rattle.dsm_words.specs.Script.{Act, item_of}
use Rattle.dsm_words.specs.Words.{word, done, left_in}
use Rattle.dsm_words.proofs.WordLaws.{word_same, word_other}
use Rattle.dsm_protocol.specs.Own.{Own, Who, node_of}
use Rattle.dsm_protocol.specs.Stages.{Stage, Round, Told, On}
use Rattle.dsm_protocol.proofs.Placed.{IsPlaced, group_in}
use Rattle.dsm_owners.specs.Acts.{put}
use Rattle.dsm_owners.specs.Directory.{Node, Processor as Reader, State}
use Rattle.dsm_ties.specs.Views.{stage_view, home_in, time_in, told_in, is_soiling, IsMet}
use Rattle.dsm_ties.specs.Tied.{bit, has_bit, Knows, Match}

module _ (u : Who) (at : IsPlaced u) (g : ℕ) (g_in : g < u.lay.pages) (ws : List ℕ) (long : length ws ≡ total u.lay) (b : State) (m : Match u g ws b) where
  abbrev pub node : ℕ → ℕ
  node q = q / u.lay.procs

  abbrev pub n : ℕ
  n = node_of u

  abbrev pub y : Reader
  y = b.processors u.p

  -- node k becomes x', and the processor y'
  module _ (k : ℕ) (x' : Node) (y' : Reader) where
    abbrev x : Node
    x = b.nodes k

    abbrev next : State
    next = record { home = b.home; nodes = put b.nodes k x'; processors = put b.processors u.p y' }

    kept : {A : Type 0} (P : Node → A) → P x' ≡ P x → (j : ℕ) → P (b.nodes j) ≡ P (put b.nodes k x' j)
    kept P e j = go (cases_eq j k)
      where
        go : (j ≡ k) ⊎ (j ≢ k) → P (b.nodes j) ≡ P (put b.nodes k x' j)
        go (inl d) = rw (eq-eqb j k d) (ap (λ z. P (b.nodes z)) d ∙ sym e)
        go (inr ne) = rw (ne_eqb j k ne) refl

    kept_own : {A : Type 0} (P : Reader → A) → P y' ≡ P y → (q : ℕ) → P (b.processors q) ≡ P (put b.processors u.p y' q)
    kept_own P e q = go (cases_eq q u.p)
      where
        go : (q ≡ u.p) ⊎ (q ≢ u.p) → P (b.processors q) ≡ P (put b.processors u.p y' q)
        go (inl d) = rw (eq-eqb q u.p d) (ap (λ z. P (b.processors z)) d ∙ sym e)
        go (inr ne) = rw (ne_eqb q u.p ne) refl

    -- the field that is written at k
    written : (P : Node → ℕ) (f : ℕ → ℕ) → f k ≡ P x' → ((j : ℕ) → j ≢ k → f j ≡ P (b.nodes j)) → (j : ℕ) → f j ≡ P (put b.nodes k x' j)
    written P f h o j = go (cases_eq j k)
      where
        go : (j ≡ k) ⊎ (j ≢ k) → f j ≡ P (put b.nodes k x' j)
        go (inl d) = rw (eq-eqb j k d) (ap f d ∙ h)
        go (inr ne) = rw (ne_eqb j k ne) (o j ne)

    -- what both leave as it was
    pub record Keeps (dir twined update turn map : Bool) : Type 0 where
      pub dir_is : dir ≡ true → x'.dir ≡ x.dir
      pub twined_is : twined ≡ true → x'.twined ≡ x.twined
      pub update_is : update ≡ true → x'.update ≡ x.update
      pub turn_is : turn ≡ true → x'.turn ≡ x.turn
      pub map_is : map ≡ true → y'.map ≡ y.map
      pub nle_is : y'.nle ≡ y.nle
      pub noted_is : x'.noted ≡ x.noted

    -- a load
    pub after_read : Keeps true true true true true → Match u g ws next
    after_read s =
        record {
          home = m.home;
          low = m.low;
          dir = λ j i. m.dir j i ∙ kept (λ z. z.dir) (s.dir_is refl) j;
          twined = λ j i. m.twined j i ∙ ap bit (kept (λ z. z.twined) (s.twined_is refl) j);
          update = λ j i. m.update j i ∙ kept (λ z. z.update) (s.update_is refl) j;
          turn = λ j i. m.turn j i ∙ kept (λ z. z.turn) (s.turn_is refl) j;
          map = λ q i. m.map q i ∙ kept_own (λ z. z.map) (s.map_is refl) q;
          nle = λ q i h. sym (kept_own (λ z. z.nle) s.nle_is q) ∙ m.nle q i h;
          posted = λ j l i c h. sym (kept (λ z. z.noted) s.noted_is j) ∙ m.posted j l i c h;
          listed = λ q i h. sym (kept (λ z. z.noted) s.noted_is (node q)) ∙ m.listed q i h;
        }

    -- a word of the page is written
    module _ (a : Act) (within : IsWithin u.lay (item_of a)) where
      abbrev ws' : List ℕ
      ws' = done u.lay ws a

      other : (it : Item) → IsWithin u.lay it → it ≢ item_of a → word u.lay ws' it ≡ word u.lay ws it
      other it i ne = word_other u.lay ws a it within i ne

      here : word u.lay ws' (item_of a) ≡ left_in a (word u.lay ws (item_of a))
      here = word_same u.lay ws a long within

      -- a field's words are elsewhere, or one of them is written
      abbrev Field : {A : Type 0} → (Node → A) → (ℕ → Item) → (ℕ → A) → Type 0
      Field P it f = ((P x' ≡ P x) × ((j : ℕ) → it j ≢ item_of a)) ⊎ ((f (word u.lay ws' (it k)) ≡ P x') × ((j : ℕ) → j ≢ k → it j ≢ item_of a))

      field : {A : Type 0} (P : Node → A) (it : ℕ → Item) (f : ℕ → A) → ((j : ℕ) → j < u.lay.nodes → IsWithin u.lay (it j)) → ((j : ℕ) → j < u.lay.nodes → f (word u.lay ws (it j)) ≡ P (b.nodes j)) → Field P it f
          → (j : ℕ) → j < u.lay.nodes → f (word u.lay ws' (it j)) ≡ P (put b.nodes k x' j)
      field P it f inside old (inl e) j i = ap f (other (it j) (inside j i) (e.1 j)) ∙ old j i ∙ kept P e.0 j
      field P it f inside old (inr e) j i = go (cases_eq j k)
        where
          go : (j ≡ k) ⊎ (j ≢ k) → f (word u.lay ws' (it j)) ≡ P (put b.nodes k x' j)
          go (inl d) = rw (eq-eqb j k d) (ap (λ z. f (word u.lay ws' (it z))) d ∙ e.0)
          go (inr ne) = rw (ne_eqb j k ne) (ap f (other (it j) (inside j i) (e.1 j ne)) ∙ old j i)

      own_map : ((y'.map ≡ y.map) × ((q : ℕ) → Map q g ≢ item_of a)) ⊎ ((word u.lay ws' (Map u.p g) ≡ y'.map) × ((q : ℕ) → q ≢ u.p → Map q g ≢ item_of a)) → (q : ℕ) → q < processors u.lay → word u.lay ws' (Map q g) ≡ (put b.processors u.p y' q).map
      own_map (inl e) q i = other (Map q g) (i, g_in) (e.1 q) ∙ m.map q i ∙ kept_own (λ z. z.map) e.0 q
      own_map (inr e) q i = go (cases_eq q u.p)
        where
          go : (q ≡ u.p) ⊎ (q ≢ u.p) → word u.lay ws' (Map q g) ≡ (put b.processors u.p y' q).map
          go (inl d) = rw (eq-eqb q u.p d) (ap (λ z. word u.lay ws' (Map z g)) d ∙ e.0)
          go (inr ne) = rw (ne_eqb q u.p ne) (other (Map q g) (i, g_in) (e.1 q ne) ∙ m.map q i)

      -- words of the home, and bits of groups, are elsewhere
      pub record Aside : Type 0 where
        pub home_off : Home g ≢ item_of a
        pub nle_off : (q : ℕ) → Nle q (group_of g) ≢ item_of a
        pub posted_off : (j l : ℕ) → Global j l (group_of g) ≢ item_of a
        pub listed_off : (q : ℕ) → OwnWord q (group_of g) ≢ item_of a
        pub nle_is : y'.nle ≡ y.nle
        pub noted_is : x'.noted ≡ x.noted

      pub after_write : Aside → Field (λ z. z.dir) (λ j. Dir j g) (λ z. z) → Field (λ z. bit z.twined) (λ j. Twined j g) (λ z. z) → Field (λ z. z.update) (λ j. Update j g) (λ z. not (z == 0)) → Field (λ z. z.turn) (λ j. Turn j g) (λ z. z)
          → ((y'.map ≡ y.map) × ((q : ℕ) → Map q g ≢ item_of a)) ⊎ ((word u.lay ws' (Map u.p g) ≡ y'.map) × ((q : ℕ) → q ≢ u.p → Map q g ≢ item_of a)) → Match u g ws' next
      after_write s d t p r c =
          record {
            home = other (Home g) g_in s.home_off ∙ m.home;
            low = m.low;
            dir = field (λ z. z.dir) (λ j. Dir j g) (λ z. z) (λ j i. (i, g_in)) m.dir d;
            twined = field (λ z. bit z.twined) (λ j. Twined j g) (λ z. z) (λ j i. (i, g_in)) m.twined t;
            update = field (λ z. z.update) (λ j. Update j g) (λ z. not (z == 0)) (λ j i. (i, g_in)) m.update p;
            turn = field (λ z. z.turn) (λ j. Turn j g) (λ z. z) (λ j i. (i, g_in)) m.turn r;
            map = own_map c;
            nle = λ q i d. sym (kept_own (λ z. z.nle) s.nle_is q) ∙ m.nle q i (ap (has_bit g) (sym (other (Nle q (group_of g)) (i, group_in u.lay g g_in) (s.nle_off q))) ∙ d);
            posted = λ j l i c d. sym (kept (λ z. z.noted) s.noted_is j) ∙ m.posted j l i c (ap (has_bit g) (sym (other (Global j l (group_of g)) (i, c, group_in u.lay g g_in) (s.posted_off j l))) ∙ d);
            listed = λ q i d. sym (kept (λ z. z.noted) s.noted_is (node q)) ∙ m.listed q i (ap (has_bit g) (sym (other (OwnWord q (group_of g)) (i, group_in u.lay g g_in) (s.listed_off q))) ∙ d);
          }

      -- by the kind of the word
      pub put_dir : item_of a ≡ Dir k g → word u.lay ws' (Dir k g) ≡ x'.dir → bit x'.twined ≡ bit x.twined → x'.update ≡ x.update → x'.turn ≡ x.turn → y'.map ≡ y.map → y'.nle ≡ y.nle → x'.noted ≡ x.noted → Match u g ws' next
      put_dir e h tw up tu mp nl nt =
          after_write (record { home_off = λ d. absurd (cc (d ∙ e)); nle_off = λ q d. absurd (cc (d ∙ e)); posted_off = λ j l d. absurd (cc (d ∙ e)); listed_off = λ q d. absurd (cc (d ∙ e)); nle_is = nl; noted_is = nt })
          (inr (h, λ j ne d. ne (cc (d ∙ e)))) (inl (tw, λ j d. absurd (cc (d ∙ e)))) (inl (up, λ j d. absurd (cc (d ∙ e)))) (inl (tu, λ j d. absurd (cc (d ∙ e)))) (inl (mp, λ q d. absurd (cc (d ∙ e))))

      pub put_twined : item_of a ≡ Twined k g → x'.dir ≡ x.dir → word u.lay ws' (Twined k g) ≡ bit x'.twined → x'.update ≡ x.update → x'.turn ≡ x.turn → y'.map ≡ y.map → y'.nle ≡ y.nle → x'.noted ≡ x.noted → Match u g ws' next
      put_twined e di h up tu mp nl nt =
          after_write (record { home_off = λ d. absurd (cc (d ∙ e)); nle_off = λ q d. absurd (cc (d ∙ e)); posted_off = λ j l d. absurd (cc (d ∙ e)); listed_off = λ q d. absurd (cc (d ∙ e)); nle_is = nl; noted_is = nt })
          (inl (di, λ j d. absurd (cc (d ∙ e)))) (inr (h, λ j ne d. ne (cc (d ∙ e)))) (inl (up, λ j d. absurd (cc (d ∙ e)))) (inl (tu, λ j d. absurd (cc (d ∙ e)))) (inl (mp, λ q d. absurd (cc (d ∙ e))))

      pub put_update : item_of a ≡ Update k g → x'.dir ≡ x.dir → bit x'.twined ≡ bit x.twined → not (word u.lay ws' (Update k g) == 0) ≡ x'.update → x'.turn ≡ x.turn → y'.map ≡ y.map → y'.nle ≡ y.nle → x'.noted ≡ x.noted → Match u g ws' next
      put_update e di tw h tu mp nl nt =
          after_write (record { home_off = λ d. absurd (cc (d ∙ e)); nle_off = λ q d. absurd (cc (d ∙ e)); posted_off = λ j l d. absurd (cc (d ∙ e)); listed_off = λ q d. absurd (cc (d ∙ e)); nle_is = nl; noted_is = nt })
          (inl (di, λ j d. absurd (cc (d ∙ e)))) (inl (tw, λ j d. absurd (cc (d ∙ e)))) (inr (h, λ j ne d. ne (cc (d ∙ e)))) (inl (tu, λ j d. absurd (cc (d ∙ e)))) (inl (mp, λ q d. absurd (cc (d ∙ e))))

      pub put_turn : item_of a ≡ Turn k g → x'.dir ≡ x.dir → bit x'.twined ≡ bit x.twined → x'.update ≡ x.update → word u.lay ws' (Turn k g) ≡ x'.turn → y'.map ≡ y.map → y'.nle ≡ y.nle → x'.noted ≡ x.noted → Match u g ws' next
      put_turn e di tw up h mp nl nt =
          after_write (record { home_off = λ d. absurd (cc (d ∙ e)); nle_off = λ q d. absurd (cc (d ∙ e)); posted_off = λ j l d. absurd (cc (d ∙ e)); listed_off = λ q d. absurd (cc (d ∙ e)); nle_is = nl; noted_is = nt })
          (inl (di, λ j d. absurd (cc (d ∙ e)))) (inl (tw, λ j d. absurd (cc (d ∙ e)))) (inl (up, λ j d. absurd (cc (d ∙ e)))) (inr (h, λ j ne d. ne (cc (d ∙ e)))) (inl (mp, λ q d. absurd (cc (d ∙ e))))

      pub put_map : item_of a ≡ Map u.p g → x'.dir ≡ x.dir → bit x'.twined ≡ bit x.twined → x'.update ≡ x.update → x'.turn ≡ x.turn → word u.lay ws' (Map u.p g) ≡ y'.map → y'.nle ≡ y.nle → x'.noted ≡ x.noted → Match u g ws' next
      put_map e di tw up tu h nl nt =
          after_write (record { home_off = λ d. absurd (cc (d ∙ e)); nle_off = λ q d. absurd (cc (d ∙ e)); posted_off = λ j l d. absurd (cc (d ∙ e)); listed_off = λ q d. absurd (cc (d ∙ e)); nle_is = nl; noted_is = nt })
          (inl (di, λ j d. absurd (cc (d ∙ e)))) (inl (tw, λ j d. absurd (cc (d ∙ e)))) (inl (up, λ j d. absurd (cc (d ∙ e)))) (inl (tu, λ j d. absurd (cc (d ∙ e)))) (inr (h, λ q ne d. ne (cc (d ∙ e))))

    -- what the processor knows, at another stage of its page in the same round
    pub knows_at : {r : Round} {s t : Stage} {o : Own} → Knows u g b.home (b.nodes n) y (On r g s) o → y'.stage ≡ stage_view u t → (y.dirty ≡ true → y'.dirty ≡ true) → (is_soiling t ≡ true → y'.dirty ≡ true) → (x.noted ≡ true → x'.noted ≡ true)
        → IfSome (home_in t) (λ h. b.home ≡ suc h) → IfSome (time_in t) (λ z. z ≢ 0) → IsMet t → Knows u g b.home (put b.nodes k x' n) (put b.processors u.p y' u.p) (On r g t) o
    knows_at {r} {s} {t} {o} h st di so nt ho ti me =
        rw (eq-eqb u.p u.p refl) (record { at = rw (eq-eqb g g refl) st; round = h.round; met = λ _. me; dirty = λ c e. di (h.dirty refl e); soils = λ _. so; joins = tt; told = go r h.told; heard = tt; homes = λ _. ho; times = λ _. ti })
      where
        up : (n ≡ k) ⊎ (n ≢ k) → (b.nodes n).noted ≡ true → (put b.nodes k x' n).noted ≡ true
        up (inl d) e = rw (eq-eqb n k d) (nt (ap (λ z. (b.nodes z).noted) (sym d) ∙ e))
        up (inr ne) e = rw (ne_eqb n k ne) e

        go : (r : Round) → IfSome (told_in (On r g s)) (λ set. has_page set g ≡ true → (b.nodes n).noted ≡ true) → IfSome (told_in (On r g t)) (λ set. has_page set g ≡ true → (put b.nodes k x' n).noted ≡ true)
        go (Told set q) f = λ e. up (cases_eq n k) (f e)
        go r f = tt

    -- the same where nothing is to be noted as dirty
    pub knows_next : {r : Round} {s t : Stage} {o : Own} → Knows u g b.home (b.nodes n) y (On r g s) o → y'.stage ≡ stage_view u t → y'.dirty ≡ y.dirty → x'.noted ≡ x.noted → is_soiling t ≡ false
        → IfSome (home_in t) (λ h. b.home ≡ suc h) → IfSome (time_in t) (λ z. z ≢ 0) → IsMet t → Knows u g b.home (put b.nodes k x' n) (put b.processors u.p y' u.p) (On r g t) o
    knows_next {t = t} h st di nt so ho ti me = knows_at {t = t} h st (λ e. di ∙ e) (λ e. absurd (cc (sym so ∙ e))) (λ e. nt ∙ e) ho ti me
