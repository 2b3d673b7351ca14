-- Who is exclusive or enters is sure that no other node uses the page.
use Rattle.std.proofs.Common.{◌≡◌, ◌≢◌, ◌⊎◌, inl, inr, ℕ, ◌/◌, ◌<◌, ◌≤◌, ◌==◌, Bool, true, false, Some, refl, sym, ap, ◌∙◌, subst, arith, if◌then◌else◌}
use Rattle.std.specs.Prelude.{nat_lt}
use Rattle.std.proofs.lemmas.Bool.{cases_eq, cases_lt, eqb-true}
use Rattle.dsm_words.specs.declared.item.Item.TheVariants.{Map, Dir, Twined, Turn}
use Rattle.dsm_words.specs.Words.{word}
use Rattle.dsm_protocol.specs.Own.{Who, node_of}
use Rattle.dsm_protocol.specs.Stages.{Part, Whole, For_closing, Stage, Mapped, Seeking, Missing, Breaking, Marking, Saving, Ending, Filling, Filled, Entered, Copying, Making, Flushing, Stamping, Stamped, Posting, Posted, Telling, Lowering, Dropping, Untwining, Unlisting, Done}
use Rattle.dsm_copies.specs.Modes.{Mode, Bare, Twinned, Exclusive, Flush_load, Flush_end, Merge_load, Merge_end, Overwrite_load, Overwrite_end, Make_load, Make_end, is_alone}
use Rattle.dsm_copies.specs.Premises.{IsApart}
use Rattle.dsm_freshness.specs.Tied.{may_load}
use Rattle.dsm_twoway.specs.Events.{place_of}
use Rattle.dsm_twoway.proofs.Blocks.{place_away, place_home}
use Rattle.dsm_owners.specs.Directory.{Node}
use Rattle.dsm_owners.proofs.Facts.{AtTurn}
use Rattle.dsm_ties.specs.Views.{stage_view}
use Rattle.dsm_twoway.specs.Views.{plain, resting, block, unless_fresh, mode_view, merge_here, overwrite_here, make_here, flush_here}
use Rattle.dsm_twoway.specs.Tied.{IsAway, rest_of}
use Rattle.dsm_twoway.proofs.Modes.{alone_plain}
use Rattle.dsm_debts.specs.Joining.{has_flushed}
use Rattle.dsm_twoway.proofs.Scene.{Scene}

-- a block none of whose parts is alone
calm : (i k : ℕ) (a b c : Mode) → is_alone a ≡ false → is_alone b ≡ false → is_alone c ≡ false → is_alone (block i k a b c) ≡ false
calm i k a b c p q w = go (nat_lt k i) (k == i)
  where
    go : (d e : Bool) → is_alone (if d then a else (if e then b else c)) ≡ false
    go true e = p
    go false true = q
    go false false = w

calm_fresh : (k : ℕ) (part : Part) (a b : Mode) → is_alone a ≡ false → is_alone b ≡ false → is_alone (unless_fresh k part a b) ≡ false
calm_fresh k Whole a b p q = go (k == 0)
  where
    go : (d : Bool) → is_alone (if d then a else b) ≡ false
    go true = p
    go false = q
calm_fresh k part a b p q = q

merge_calm : (part : Part) → is_alone (merge_here part) ≡ false
merge_calm Whole = refl
merge_calm part = refl

overwrite_calm : (part : Part) → is_alone (overwrite_here part) ≡ false
overwrite_calm Whole = refl
overwrite_calm part = refl

make_calm : (part : Part) → is_alone (make_here part) ≡ false
make_calm Whole = refl
make_calm part = refl

flush_calm : (part : Part) → is_alone (flush_here part) ≡ false
flush_calm Whole = refl
flush_calm part = refl

module _ (top home n m : ℕ) (x : Node) (u : Who) (i : ℕ) (rest : Mode) where
  -- it is alone where nobody works, or stands where its node is exclusive or sure
  abbrev IsSure : Stage → Type 0
  IsSure t = (is_alone rest ≡ true) ⊎ (AtTurn top home n m x (stage_view u t) → (x.dir ≡ 2) ⊎ (top ≤ x.sure))

  over : {c : Bool} (t : Stage) → c ≡ false → c ≡ true → IsSure t
  over t p q = absurd (cc (sym p ∙ q))

  view_alone : (t : Stage) (d : Bool) → is_alone (mode_view i rest d t) ≡ true → IsSure t
  view_alone (Mapped k t) d e = view_alone t d e
  view_alone (Seeking (For_closing j)) d e = inr (λ a. inl a)
  view_alone (Missing (For_closing j)) d e = inr (λ a. inl a)
  view_alone (Breaking c h j q) d e = inr (λ a. inl a)
  view_alone (Marking c h j q) d e = inr (λ a. inl a)
  view_alone (Saving c h j k part) d e = inr (λ a. inl a)
  view_alone (Ending c j) d e = inr (λ a. inl a.0)
  view_alone (Filling h t k part) d e = inr (λ a. inr a.2)
  view_alone (Filled t) d e = inr (λ a. inr a.2)
  view_alone Entered d e = inr (λ a. inr a.2)
  view_alone (Copying write h t true k part) d e = over (Copying write h t true k part) (calm_fresh k part Twinned (block i k (Merge_load false) (merge_here part) (Merge_end false)) refl (calm i k (Merge_load false) (merge_here part) (Merge_end false) refl (merge_calm part) refl)) e
  view_alone (Copying write h t false k part) d e = over (Copying write h t false k part) (calm_fresh k part Bare (block i k (Overwrite_load false) (overwrite_here part) (Overwrite_end false)) refl (calm i k (Overwrite_load false) (overwrite_here part) (Overwrite_end false) refl (overwrite_calm part) refl)) e
  view_alone (Making k part) d e = over (Making k part) (calm_fresh k part Bare (block i k Make_load (make_here part) Make_end) refl (calm i k Make_load (make_here part) Make_end refl (make_calm part) refl)) e
  view_alone (Flushing h t k part) d e = over (Flushing h t k part) (calm i k Flush_load (flush_here part) Flush_end refl (flush_calm part) refl) e
  view_alone (Stamping h t true) d e = absurd (cc e)
  view_alone (Stamped h true) d e = absurd (cc e)
  view_alone (Posting h true j) d e = absurd (cc e)
  view_alone (Telling h true j) d e = absurd (cc e)
  view_alone (Posted h true) d e = absurd (cc e)
  view_alone (Lowering true) d e = absurd (cc e)
  view_alone (Dropping q unwritten free) d e = absurd (cc e)
  view_alone (Untwining free) d e = absurd (cc e)
  view_alone Unlisting true e = absurd (cc e)
  view_alone Done true e = absurd (cc e)
  view_alone t d e = inl e

module _ (s : Scene) where
  -- a node that is alone is sure of all others
  pub alone_sure : (k : ℕ) → IsAway s.h s.u k → is_alone (s.x.nodes k).mode ≡ true → s.u.lay.nodes ≤ (s.b.nodes k).sure
  alone_sure k away e = go (cases_eq (word s.u.lay s.ws (Turn k s.g)) 0)
    where
      plainly : is_alone (plain (s.x.nodes k).mode) ≡ true
      plainly = sym (alone_plain (s.x.nodes k).mode) ∙ e

      sole : (s.b.nodes k).dir ≡ 2 → s.u.lay.nodes ≤ (s.b.nodes k).sure
      sole d = (s.holds.good k).sole_sure d

      rests : (dir twined : ℕ) → is_alone (resting dir twined) ≡ true → dir ≡ 2
      rests dir twined a = each (dir == 2) (twined == 1) refl a
        where
          each : (c c' : Bool) → (dir == 2) ≡ c → is_alone (if c then Exclusive else (if c' then Twinned else Bare)) ≡ true → dir ≡ 2
          each true c' w a = eqb-true dir 2 w
          each false true w a = absurd (cc a)
          each false false w a = absurd (cc a)

      at_rest : is_alone (rest_of s.h s.g s.i s.u s.ws k) ≡ true → s.u.lay.nodes ≤ (s.b.nodes k).sure
      at_rest a = sole (sym (s.owned.dir k away.0) ∙ rests (word s.u.lay s.ws (Dir k s.g)) (word s.u.lay s.ws (Twined k s.g)) a)

      go : (word s.u.lay s.ws (Turn k s.g) ≡ 0) ⊎ (word s.u.lay s.ws (Turn k s.g) ≢ 0) → s.u.lay.nodes ≤ (s.b.nodes k).sure
      go (inl z) = at_rest (ap is_alone (sym ((s.match.words.each k away).rest_is z)) ∙ plainly)
      go (inr ne) =
          let h = s.holders k away ne in
          by h.stage (h.q / s.u.lay.procs) (record s.u { p = h.q }) (subst (AtTurn s.u.lay.nodes s.b.home (h.q / s.u.lay.procs) k (s.b.nodes k)) h.at ((s.holds.fits k h.q).at_turn h.turn)) (has_flushed (s.pages (Some k)).page.work) (ap is_alone (sym h.mode) ∙ plainly)
        where
          by : (t : Stage) (n : ℕ) (u : Who) → AtTurn s.u.lay.nodes s.b.home n k (s.b.nodes k) (stage_view u t) → (d : Bool) → is_alone (mode_view s.i (rest_of s.h s.g s.i s.u s.ws k) d t) ≡ true → s.u.lay.nodes ≤ (s.b.nodes k).sure
          by t n u at d a = pick (view_alone s.u.lay.nodes s.b.home n k (s.b.nodes k) u s.i (rest_of s.h s.g s.i s.u s.ws k) t d a)
            where
              pick : (is_alone (rest_of s.h s.g s.i s.u s.ws k) ≡ true) ⊎ (AtTurn s.u.lay.nodes s.b.home n k (s.b.nodes k) (stage_view u t) → ((s.b.nodes k).dir ≡ 2) ⊎ (s.u.lay.nodes ≤ (s.b.nodes k).sure)) → s.u.lay.nodes ≤ (s.b.nodes k).sure
              pick (inl w) = at_rest w
              pick (inr f) = last (f at)
                where
                  last : ((s.b.nodes k).dir ≡ 2) ⊎ (s.u.lay.nodes ≤ (s.b.nodes k).sure) → s.u.lay.nodes ≤ (s.b.nodes k).sure
                  last (inl w) = sole w
                  last (inr w) = w

  -- a processor that maps the page has no other node that is sure
  mapped_unsure : (k : ℕ) → k ≢ node_of s.u → may_load (word s.u.lay s.ws (Map s.u.p s.g)) ≡ true → s.u.lay.nodes ≤ (s.b.nodes k).sure → ⊥
  mapped_unsure k ne m l =
      let in_sure : node_of s.u < (s.b.nodes k).sure = let i = s.at.node_in in omega (arith, i, l) in
      let shut = (s.holds.fits k s.u.p).shut (λ e. ne (sym e)) in_sure in
      go shut.unused
    where
      go : ((s.b.processors s.u.p).map ≡ 0) ⊎ ((s.b.processors s.u.p).map ≡ 3) → ⊥
      go (inl e) = absurd (cc (sym m ∙ ap may_load (s.owned.map s.u.p s.at.p_in ∙ e)))
      go (inr e) = absurd (cc (sym m ∙ ap may_load (s.owned.map s.u.p s.at.p_in ∙ e)))

  not_true : (d : Bool) → (d ≡ true → ⊥) → d ≡ false
  not_true true f = absurd (f refl)
  not_true false f = refl

  -- at an access no other node is alone,
  pub others_calm : may_load (word s.u.lay s.ws (Map s.u.p s.g)) ≡ true → (k : ℕ) → (k ≡ s.h) ⊎ (k ≢ node_of s.u) → is_alone (s.x.nodes k).mode ≡ false
  others_calm m k apart = not_true (is_alone (s.x.nodes k).mode) (λ e. go e (cases_eq k s.h) (cases_lt k s.u.lay.nodes) apart)
    where
      bare : is_alone (s.x.nodes k).mode ≡ true → (k ≡ s.h) ⊎ (s.u.lay.nodes ≤ k) → ⊥
      bare e out = absurd (cc (sym e ∙ ap is_alone (s.match.words.none k out)))

      go : is_alone (s.x.nodes k).mode ≡ true → (k ≡ s.h) ⊎ (k ≢ s.h) → (k < s.u.lay.nodes) ⊎ (s.u.lay.nodes ≤ k) → (k ≡ s.h) ⊎ (k ≢ node_of s.u) → ⊥
      go e (inl d) w a = bare e (inl d)
      go e (inr ne) (inr l) a = bare e (inr l)
      go e (inr ne) (inl l) (inl d) = ne d
      go e (inr ne) (inl l) (inr off) = mapped_unsure k off m (alone_sure k (l, ne) e)

  -- nor is the home, where it is another one
  pub home_calm : may_load (word s.u.lay s.ws (Map s.u.p s.g)) ≡ true → node_of s.u ≢ s.h → s.x.home_exclusive ≡ false
  home_calm m ne = not_true s.x.home_exclusive (λ e. mapped_unsure s.h (λ d. ne (sym d)) m ((s.holds.good s.h).sole_sure (sym (s.owned.dir s.h s.h_in) ∙ eqb-true (word s.u.lay s.ws (Dir s.h s.g)) 2 (s.match.words.home_is ∙ e))))

  -- so that the premise is met
  pub access_apart : may_load (word s.u.lay s.ws (Map s.u.p s.g)) ≡ true → IsApart s.x (place_of s.h (node_of s.u))
  access_apart m = go (cases_eq (node_of s.u) s.h)
    where
      go : (node_of s.u ≡ s.h) ⊎ (node_of s.u ≢ s.h) → IsApart s.x (place_of s.h (node_of s.u))
      go (inl e) = subst (IsApart s.x) (sym (place_home s.h (node_of s.u) e)) (λ k. each k (cases_eq k s.h))
        where
          each : (k : ℕ) → (k ≡ s.h) ⊎ (k ≢ s.h) → is_alone (s.x.nodes k).mode ≡ false
          each k (inl d) = others_calm m k (inl d)
          each k (inr ne) = others_calm m k (inr (λ d. ne (d ∙ e)))
      go (inr ne) = subst (IsApart s.x) (sym (place_away s.h (node_of s.u) ne)) (home_calm m ne, λ k off. others_calm m k (inr off))
