-- Steps that make no operation on the copies: a decision or a note, a turn that is won or given back, a control word that is stored under its turn.
use Rattle.std.proofs.Common.{◌≡◌, ◌≢◌, ◌⊎◌, inl, inr, ℕ, suc, ◌+◌, ◌==◌, Bool, true, false, List, [], Option, Some, refl, sym, ap, ◌∙◌, subst, arith, if◌then◌else◌}
use Rattle.std.specs.Prelude.{map, IfSome}
use Rattle.std.proofs.lemmas.Bool.{cases_eq}
use Rattle.dsm_words.specs.declared.item.Item.{Item}
use Rattle.dsm_words.specs.declared.item.Item.TheVariants.{Frame, Twin, Twined, Dir, Update, Turn}
use Rattle.dsm_words.specs.Place.{IsWithin}
use Rattle.dsm_words.specs.Script.{Act, Put, Change, item_of}
use Rattle.dsm_words.specs.Words.{word, done, left_in}
use Rattle.dsm_clock.specs.declared.turns.TurnId.TheVariants.{Page}
use Rattle.dsm_protocol.specs.Own.{Own}
use Rattle.dsm_protocol.specs.Stages.{Stage, Round, Work, On, stage_turn}
use Rattle.dsm_copies.specs.Modes.{Mode, may_store}
use Rattle.dsm_fresh.specs.Pages as S
use Rattle.dsm_debts.specs.Page as P
use Rattle.dsm_debts.specs.Joining.{Move, At, has_flushed}
use Rattle.dsm_releases.specs.Events as R
use Rattle.dsm_twoway.specs.Views.{plain, mode_view}
use Rattle.dsm_twoway.specs.Tied.{IsAway, rest_of, is_copied, is_beginning, Copy, Words, Match}
use Rattle.dsm_twoway.proofs.Numbers.{AllQuiet}
use Rattle.dsm_twoway.proofs.Scene.{Scene, Now, Acted, Meets, fresh_left, pages_left}
use Rattle.dsm_twoway.proofs.Changes.{IsOf, IsPart, stays, becomes, rest_stays, words_at}
use Rattle.dsm_twoway.proofs.Frame.{is_silent, AllSilent, by_none, on_knows, numbers_stay, quiet_row}
use Rattle.dsm_twoway.proofs.Blocks.{turn_node, other_row}
use Rattle.dsm_twoway.proofs.TurnRows.{turn_words}

-- a move that is nothing to the copies at any place is nothing to them where its condition is so
pub silent_only : (k : Option ℕ) (v : ℕ) (d : Bool) (e : P.Event) → is_silent k e ≡ true → AllSilent (map (At k v) (R.only d e))
silent_only k v true e i = (i, tt)
silent_only k v false e i = tt

module _ (s : Scene) where
  -- a decision or a note that is nothing to the copies, to a stage at which the same is open away from the home
  pub quiet_stay : {r : Round} {k : ℕ} {z t : Stage} (es : (m n : ℕ) → List S.Event) (ms : List Move) → Now s (On r k z) → AllSilent ms → ((m n : ℕ) → AllQuiet (es m n)) → stage_turn s.u k t ≡ stage_turn s.u k z
      → ((n : ℕ) → IsAway s.h s.u n → stage_turn s.u k z ≡ Some (Page n s.g) → k ≡ s.g → (d d' : Bool) → mode_view s.i (rest_of s.h s.g s.i s.u s.ws n) d' t ≡ mode_view s.i (rest_of s.h s.g s.i s.u s.ws n) d z) → is_copied t ≡ false → is_beginning t ≡ false → Acted s (On r k t) s.ws es ms
  quiet_stay {r} {k} {z} {t} es ms now silent quiet tu same copied beginning =
      by_none s {es = es} ms silent (record { words = s.match.words; counted = numbers_stay s es quiet })
      (on_knows s s.ws (fresh_left s es) (pages_left s ms) s.x s.c r k t copied beginning
      (λ n away d tu'. now.mode n away (sym tu ∙ tu') d ∙ sym (same n away (sym tu ∙ tu') d (has_flushed (s.pages (Some n)).page.work) (has_flushed (pages_left s ms (Some n)).page.work))))

  -- a turn that is won: its node's copy is as where nobody works on it
  pub won_row : {w : Work} {o : Own} {r : Round} {k : ℕ} (t : Stage) (j : ℕ) → Meets s w o (Change (Turn j k) 0 (s.u.p + 1)) 0 → stage_turn s.u k t ≡ Some (Page j k) → ((rest : Mode) (d : Bool) → mode_view s.i rest d t ≡ rest) → is_copied t ≡ false → is_beginning t ≡ false
      → Acted s (On r k t) (done s.u.lay s.ws (Change (Turn j k) 0 (s.u.p + 1))) (λ m n. []) []
  won_row {r = r} {k = k} t j f tu rests copied beginning =
      by_none s {es = λ m n. []} [] tt
      (record { words = turn_words s a f.within j k refl (λ d away z. absurd (held ((λ q. word s.u.lay (done s.u.lay s.ws a) (Turn j (d q))) ∙ z))); counted = numbers_stay s (λ m n. []) (λ m n. tt) })
      (on_knows s (done s.u.lay s.ws a) s.fresh s.pages s.x s.c r k t copied beginning
      (λ n away d tu'. mode n away d (ap turn_node (sym tu ∙ tu'))))
    where
      a : Act
      a = Change (Turn j k) 0 (s.u.p + 1)

      free : word s.u.lay s.ws (Turn j k) ≡ 0
      free = sym f.told

      held : word s.u.lay (done s.u.lay s.ws (Change (Turn j k) 0 (s.u.p + 1))) (Turn j k) ≡ 0 → ⊥
      held z =
          let e = becomes s (Change (Turn j k) 0 (s.u.p + 1)) f.within in
          let x = sym (ap (λ w. if w == 0 then s.u.p + 1 else w) free) ∙ sym e ∙ z in
          absurd (omega (arith, x))

      mode : (n : ℕ) → IsAway s.h s.u n → k ≡ s.g → j ≡ n → plain (s.x.nodes n).mode ≡ mode_view s.i (rest_of s.h s.g s.i s.u (done s.u.lay s.ws (Change (Turn j k) 0 (s.u.p + 1))) n) (has_flushed (s.pages (Some n)).page.work) t
      mode n away d e =
          let di = stays s (Change (Turn j k) 0 (s.u.p + 1)) f.within (Dir n s.g) (away.0, s.g_in) (λ q. absurd (cc q)) in
          let tw = stays s (Change (Turn j k) 0 (s.u.p + 1)) f.within (Twined n s.g) (away.0, s.g_in) (λ q. absurd (cc q)) in
          (s.match.words.each n away).rest_is ((λ q. word s.u.lay s.ws (Turn (sym e q) (sym d q))) ∙ free)
          ∙ sym (rest_stays s (Change (Turn j k) 0 (s.u.p + 1)) f.within n di tw)
          ∙ sym (rests (rest_of s.h s.g s.i s.u (done s.u.lay s.ws (Change (Turn j k) 0 (s.u.p + 1))) n) (has_flushed (s.pages (Some n)).page.work))

  -- a turn that is given back where what would be open is open
  pub given : {r : Round} {k : ℕ} {z : Stage} {o : Own} {y : ℕ} (j : ℕ) → Meets s (On r k z) o (Put (Turn j k) 0) y → stage_turn s.u k z ≡ Some (Page j k) → ((rest : Mode) (d : Bool) → mode_view s.i rest d z ≡ rest) → Match s.h s.g s.i s.u (done s.u.lay s.ws (Put (Turn j k) 0)) s.fresh s.x s.c
  given {r} {k} {z} j f tu rests =
      record {
        words = turn_words s (Put (Turn j k) 0) f.within j k refl (λ d away _. f.here.knows.mode j away (tu ∙ ap (λ w. Some (Page j w)) d) d ∙ rests (rest_of s.h s.g s.i s.u s.ws j) (has_flushed (s.pages (Some j)).page.work));
        counted = numbers_stay s (λ m n. []) (λ m n. tt);
      }

  -- a control word of the copy at node j, but the turn
  abbrev pub IsControl : ℕ → Item → Type 0
  IsControl j (Twined k e) = (k ≡ j) × (e ≡ s.g)
  IsControl j (Dir k e) = (k ≡ j) × (e ≡ s.g)
  IsControl j (Update k e) = (k ≡ j) × (e ≡ s.g)
  IsControl j it = ⊥

  -- another node's copy has no such word
  control_apart : (j n : ℕ) (it : Item) → n ≢ j → IsControl j it → IsOf s n it → ⊥
  control_apart j n (Twined k e) ne c o = ne (sym o.0 ∙ c.0)
  control_apart j n (Dir k e) ne c o = ne (sym o.0 ∙ c.0)
  control_apart j n (Update k e) ne c o = ne (sym o.0 ∙ c.0)
  control_apart j n it ne c o = absurd c

  -- the words where such a word changes under the turn
  pub control_words : (a : Act) (within : IsWithin s.u.lay (item_of a)) (j : ℕ) → IsControl j (item_of a) → (IsAway s.h s.u j → word s.u.lay s.ws (Turn j s.g) ≢ 0)
      → (IsAway s.h s.u j → word s.u.lay (done s.u.lay s.ws a) (Update j s.g) ≢ 0 → (s.x.nodes j).fetched ≡ true)
      → (IsAway s.h s.u j → (word s.u.lay (done s.u.lay s.ws a) (Twined j s.g) ≡ 1) ⊎ (word s.u.lay (done s.u.lay s.ws a) (Dir j s.g) ≡ 2) → may_store (s.x.nodes j).mode ≡ true)
      → (word s.u.lay (done s.u.lay s.ws a) (Dir s.h s.g) == 2) ≡ s.x.home_exclusive → Words s.h s.g s.i s.u (done s.u.lay s.ws a) s.x
  control_words a within j control held fetched rights home =
      words_at s a within j s.x (λ n ne at z. control_apart j n (item_of a) ne control z) (λ n ne. refl) copy (s.match.words.none j)
      (stays s a within (Frame s.h s.g s.i) (s.h_in, s.g_in, s.i_in) (λ e. subst (IsControl j) (sym e) control) ∙ s.match.words.master_is) home
    where
      copy : IsAway s.h s.u j → Copy s.h s.g s.i s.u (done s.u.lay s.ws a) j (s.x.nodes j)
      copy away =
          let c = s.match.words.each j away in
          record {
            frame_is = stays s a within (Frame j s.g s.i) (away.0, s.g_in, s.i_in) (λ e. subst (IsControl j) (sym e) control) ∙ c.frame_is;
            twin_is = stays s a within (Twin j s.g s.i) (away.0, s.g_in, s.i_in) (λ e. subst (IsControl j) (sym e) control) ∙ c.twin_is;
            fetched_is = fetched away;
            rest_is = λ z. absurd (held away (sym (stays s a within (Turn j s.g) (away.0, s.g_in) (λ e. subst (IsControl j) (sym e) control)) ∙ z));
            rights = rights away;
          }

  -- who holds the turn of a copy: its word has the processor's number
  pub turn_kept : {r : Round} {k : ℕ} {z : Stage} {o : Own} {a : Act} {y : ℕ} (j : ℕ) → Meets s (On r k z) o a y → k ≡ s.g → stage_turn s.u k z ≡ Some (Page j k) → IsAway s.h s.u j → word s.u.lay s.ws (Turn j s.g) ≢ 0
  turn_kept j f d tu away e = let w = f.turn (Page j s.g) (away.0, s.g_in) (tu ∙ ap (λ q. Some (Page j q)) d) in absurd (cc (sym e ∙ w))

  -- a row that stores such a word, with nothing to the copies: on the page,
  pub control_here : {r : Round} {k : ℕ} {z : Stage} {o : Own} {a : Act} {y : ℕ} (t : Stage) (es : (m n : ℕ) → List S.Event) (ms : List Move) (j : ℕ) → Meets s (On r k z) o a y → AllSilent ms → ((m n : ℕ) → AllQuiet (es m n)) → stage_turn s.u k z ≡ Some (Page j k) → stage_turn s.u k t ≡ Some (Page j k) → is_copied t ≡ false → is_beginning t ≡ false → k ≡ s.g
      → Words s.h s.g s.i s.u (done s.u.lay s.ws a) s.x → (IsAway s.h s.u j → (d d' : Bool) → mode_view s.i (rest_of s.h s.g s.i s.u (done s.u.lay s.ws a) j) d' t ≡ mode_view s.i (rest_of s.h s.g s.i s.u s.ws j) d z)
      → Acted s (On r k t) (done s.u.lay s.ws a) es ms
  control_here {r} {k} {z} {o} {a} {y} t es ms j f silent quiet tu tu' copied beginning d words same =
      by_none s {es = es} ms silent (record { words = words; counted = numbers_stay s es quiet })
      (on_knows s (done s.u.lay s.ws a) (fresh_left s es) (pages_left s ms) s.x s.c r k t copied beginning
      (λ n away d' w. let is : j ≡ n = ap turn_node (sym tu' ∙ w) in
      f.here.knows.mode n away (tu ∙ sym tu' ∙ w) d
      ∙ sym (subst (λ q. (b b' : Bool) → mode_view s.i (rest_of s.h s.g s.i s.u (done s.u.lay s.ws a) q) b' t ≡ mode_view s.i (rest_of s.h s.g s.i s.u s.ws q) b z) is (same (subst (IsAway s.h s.u) (sym is) away)) (has_flushed (s.pages (Some n)).page.work) (has_flushed (pages_left s ms (Some n)).page.work))))

  -- and on any page
  pub control_row : {r : Round} {k : ℕ} {z : Stage} {o : Own} {a : Act} {y : ℕ} (t : Stage) (es : (m n : ℕ) → List S.Event) (j : ℕ) → Meets s (On r k z) o a y → (IsPart s (item_of a) → k ≡ s.g) → ((m n : ℕ) → AllQuiet (es m n)) → stage_turn s.u k z ≡ Some (Page j k) → stage_turn s.u k t ≡ Some (Page j k) → is_copied t ≡ false → is_beginning t ≡ false
      → (k ≡ s.g → Words s.h s.g s.i s.u (done s.u.lay s.ws a) s.x)
      → (k ≡ s.g → IsAway s.h s.u j → (d d' : Bool) → mode_view s.i (rest_of s.h s.g s.i s.u (done s.u.lay s.ws a) j) d' t ≡ mode_view s.i (rest_of s.h s.g s.i s.u s.ws j) d z)
      → Acted s (On r k t) (done s.u.lay s.ws a) es []
  control_row {r} {k} {z} {o} {a} {y} t es j f part quiet tu tu' copied beginning words same = go (cases_eq k s.g)
    where
      go : (k ≡ s.g) ⊎ (k ≢ s.g) → Acted s (On r k t) (done s.u.lay s.ws a) es []
      go (inr ne) = other_row s {r = r} {k = k} {z = z} {t = t} es f ne part quiet
      go (inl d) = control_here {r = r} {k = k} {z = z} t es [] j f tt quiet tu tu' copied beginning d (words d) (same d)

  -- to stage t of page k from stage z: the same turn is held, the same is open, and no fetch is noted there
  pub record Like (k : ℕ) (z t : Stage) : Type 0 where
    pub turn : stage_turn s.u k t ≡ stage_turn s.u k z
    pub same : (rest : Mode) (d d' : Bool) → mode_view s.i rest d' t ≡ mode_view s.i rest d z
    pub copied : is_copied t ≡ false
    pub beginning : is_beginning t ≡ false

  -- of two such stages either is
  pub like_pick : {k : ℕ} {z t t' : Stage} (b : Bool) → Like k z t → Like k z t' → Like k z (if b then t else t')
  like_pick true x y = x
  like_pick false x y = y

  -- a row and a decision between such stages
  pub like_row : {r : Round} {k : ℕ} {z t : Stage} {o : Own} {a : Act} {y : ℕ} (es : (m n : ℕ) → List S.Event) (ms : List Move) → Meets s (On r k z) o a y → (IsPart s (item_of a) → left_in a (word s.u.lay s.ws (item_of a)) ≡ word s.u.lay s.ws (item_of a)) → AllSilent ms → ((m n : ℕ) → AllQuiet (es m n)) → Like k z t → Acted s (On r k t) (done s.u.lay s.ws a) es ms
  like_row {r} {k} {z} {t} es ms f part silent quiet l = quiet_row s {r = r} {k = k} {z = z} {t = t} es ms f part silent quiet l.turn l.same l.copied l.beginning

  pub like_stay : {r : Round} {k : ℕ} {z t : Stage} (es : (m n : ℕ) → List S.Event) (ms : List Move) → Now s (On r k z) → AllSilent ms → ((m n : ℕ) → AllQuiet (es m n)) → Like k z t → Acted s (On r k t) s.ws es ms
  like_stay {r} {k} {z} {t} es ms now silent quiet l = quiet_stay {r = r} {k = k} {z = z} {t = t} es ms now silent quiet l.turn (λ n away tu d b b'. l.same (rest_of s.h s.g s.i s.u s.ws n) b b') l.copied l.beginning

  -- a home that was found is the page's
  pub home_has : {z : Option ℕ} {k : ℕ} → (k ≡ s.g → IfSome z (λ l. s.b.home ≡ suc l)) → k ≡ s.g → (h : ℕ) → z ≡ Some h → h ≡ s.h
  home_has homes d h e = go s.home (subst (λ w. IfSome w (λ l. s.b.home ≡ suc l)) e (homes d))
    where
      go : (s.b.home ≡ 0) ⊎ (s.b.home ≡ suc s.h) → s.b.home ≡ suc h → h ≡ s.h
      go (inl w) q = absurd (cc (sym w ∙ q))
      go (inr w) q = let x = sym w ∙ q in omega (arith, x)
