-- Each event keeps what holds of a word.
use Rattle.std.proofs.Common.{◌≡◌, ◌≢◌, ℕ, ◌<◌, ◌≤◌, ◌⊎◌, Bool, true, false, Option, None, Some, refl, sym, ap, ◌∙◌, subst, inl, inr, arith, if◌then◌else◌, ◌==◌}
use Rattle.std.specs.Prelude.{nat_le, ◌||◌, ◌&&◌, not}
use Rattle.std.proofs.lemmas.Bool.{eq-eqb, eqb-true}
use Rattle.dsm_copies.specs.Modes.{Bare, Twinned, Flush_over, Enter_load, Exclusive, is_exclusive, may_store, store_progress, covered, ended, told}
use Rattle.dsm_copies.specs.Copies.{Node, State, Event, Kind, Flush, Merge, Overwrite, Make, Break, is_at, is_by, is_home, home_next, home_broken, put, out_node, touch_node, begun, store_at, after_event, exclusive_at, Load, Store, Signal, Pass, Begin, Op, Drop, Home_sent, Home_told, Enter, Home_enter, Home_break}
use Rattle.dsm_copies.proofs.Needs.{MayAccess, MayWrite, MayBegin, May}
use Rattle.dsm_copies.proofs.Facts.{Past, Fits, Sound}
use Rattle.dsm_copies.proofs.Ops.{op_kept}
use Rattle.dsm_copies.proofs.Stores.{up, out, touch, progress_below, Prompt, prompt_op}
use Rattle.dsm_copies.proofs.Holds.{progress_behind, broken_behind, master_behind, node_behind, FitsNode, past, IsHomes, Holds, each_put, not_at, at_own, at_is, one_own, not_owed, has_node}

-- a block begins
pub begin_fits : (g : Past) (x : Node) (kind : Kind) → MayBegin x kind → FitsNode g x → FitsNode g (record x { mode = begun g.store.prog kind })
begin_fits g x Flush e s = let z : Fits g x.frame x.twin x.fresh x.since Twinned = subst (λ y. Fits g x.frame x.twin x.fresh x.since y) e s in grind arith
begin_fits g x Merge e s = let z : Fits g x.frame x.twin x.fresh x.since Twinned = subst (λ y. Fits g x.frame x.twin x.fresh x.since y) e s in grind arith
begin_fits g x Overwrite e s = let z : Fits g x.frame x.twin x.fresh x.since Bare = subst (λ y. Fits g x.frame x.twin x.fresh x.since y) e s in grind arith
begin_fits g x Make e s = let z : Fits g x.frame x.twin x.fresh x.since Bare = subst (λ y. Fits g x.frame x.twin x.fresh x.since y) e s in grind arith
begin_fits g x Break e s = let z : Fits g x.frame x.twin x.fresh x.since Exclusive = subst (λ y. Fits g x.frame x.twin x.fresh x.since y) e s in grind arith

drop_fits : (g : Past) (f t : ℕ) (fresh since : Bool) → (g.store.own ≡ true → g.store.prog ≢ 1) → Fits g f t fresh since Flush_over → Fits g f t fresh since Bare
drop_fits g f t fresh since a s = grind arith

enter_fits : (g : Past) (f t : ℕ) (fresh since : Bool) → 2 ≤ g.store.prog → Fits g f t fresh since Bare → Fits g f t fresh since (Enter_load (nat_le ended g.store.prog))
enter_fits g f t fresh since a s = grind arith

clear : (g : Past) (f t : ℕ) (fresh since : Bool) → g.store.own ≡ true → Fits g f t fresh since Bare → 4 ≤ g.store.prog
clear g f t fresh since e s = s.stands e

not_both : (b : Bool) → b ≡ true → b ≡ false → ⊥
not_both b e f = absurd (cc (e, f))

or_true : (a b : Bool) → (a || b) ≡ true → (a ≡ true) ⊎ (b ≡ true)
or_true true b e = inl refl
or_true false b e = inr e

pub or_left : (a b : Bool) → a ≡ true → (a || b) ≡ true
or_left a b e = rw e refl

pub or_right : (a b : Bool) → b ≡ true → (a || b) ≡ true
or_right true b e = refl
or_right false b e = e

or_false : (a : Bool) → (a || false) ≡ a
or_false true = refl
or_false false = refl

by_is : (c : Option ℕ) (p : ℕ) → is_by c p ≡ true → c ≡ Some p
by_is None p e = absurd (cc e)
by_is (Some q) p e = ap (λ z. Some z) (eqb-true q p e)

early_new : (released : Bool) (prog : ℕ) → (released && not (nat_le told prog)) ≡ true → (released ≡ true) × (prog < 4)
early_new true prog e = grind arith
early_new false prog e = absurd (cc e)

told_new : (released : Bool) (prog : ℕ) → (released && nat_le told prog) ≡ true → 4 ≤ prog
told_new true prog e = grind arith
told_new false prog e = absurd (cc e)

-- who passes after the signal is told of the store or passes early
either_way : (released : Bool) (prog : ℕ) → released ≡ true → ((released && nat_le told prog) ≡ true) ⊎ ((released && not (nat_le told prog)) ≡ true)
either_way true prog e = go (nat_le told prog) refl
  where
    go : (b : Bool) → nat_le told prog ≡ b → (nat_le told prog ≡ true) ⊎ (not (nat_le told prog) ≡ true)
    go true f = inl f
    go false f = inr (rw f refl)
either_way false prog e = absurd (cc e)

late_told : (prog : ℕ) → 4 ≤ prog → nat_le ended prog ≡ true
late_told prog a = grind arith

begin_prompt : (prog : ℕ) (kind : Kind) → 4 ≤ prog → Prompt (begun prog kind)
begin_prompt prog Flush a = tt
begin_prompt prog Merge a = late_told prog a
begin_prompt prog Overwrite a = late_told prog a
begin_prompt prog Make a = tt
begin_prompt prog Break a = tt

-- a send of the home, its end and a break of the home
send_rises : (prog : ℕ) → prog ≤ 4 → (prog ≤ (if prog == covered then ended else prog)) × ((if prog == covered then ended else prog) ≤ 4)
send_rises prog a = grind arith

tell_rises : (prog : ℕ) → prog ≤ 4 → (prog ≤ (if prog == ended then told else prog)) × ((if prog == ended then told else prog) ≤ 4)
tell_rises prog a = grind arith

break_rises : (prog : ℕ) → prog ≤ 4 → (prog ≤ (if prog == covered then told else prog)) × ((if prog == covered then told else prog) ≤ 4)
break_rises prog a = grind arith

sent_homes : (s : State) → s.home_exclusive ≡ false → IsHomes s → IsHomes (record s { progress = if s.progress == covered then ended else s.progress })
sent_homes s free z = record { covers = let a = z.covers in grind arith; signalled = λ r. let a = z.signalled r in grind arith; passed = λ r. let a = z.passed r in grind arith; no_send = λ r. absurd (not_both _ r free) }

told_homes : (s : State) → IsHomes s → IsHomes (record s { progress = if s.progress == ended then told else s.progress })
told_homes s z = record { covers = let a = z.covers in grind arith; signalled = λ r. let a = z.signalled r in grind arith; passed = λ r. let a = z.passed r in let b = z.no_send in grind arith; no_send = λ r. let a = z.no_send r in grind arith }

broken_homes : (s : State) → s.progress ≤ 4 → IsHomes s → IsHomes (record s { progress = if s.progress == covered then told else s.progress; broken = s.broken || (s.progress == covered); home_exclusive = false })
broken_homes s most z = record { covers = let a = z.covers in grind arith; signalled = λ r. let a = z.signalled r in let b = z.covers in let c = z.no_send in grind arith; passed = λ r. let a = z.passed r in let b = z.covers in let c = z.no_send in grind arith; no_send = λ r. absurd (cc r) }

broken_told : (prog : ℕ) (broken : Bool) → (broken ≡ true → 4 ≤ prog) → (broken || (prog == covered)) ≡ true → 4 ≤ (if prog == covered then told else prog)
broken_told prog broken a b = grind arith

module _ (place : ℕ → Option ℕ) (s : State) (h : Holds place s) where
  begin_holds : (n : ℕ) (kind : Kind) → May place s (Begin n kind) → Holds place (after_event place s (Begin n kind))
  begin_holds n kind may = record {
    sound = record { most = h.sound.most; settled = h.sound.settled; broken = h.sound.broken };
    each = each_put (λ k y. FitsNode (past s k) y) s.nodes n _ (begin_fits (past s n) (s.nodes n) kind may (h.each n)) (λ k ne. h.each k);
    maker = h.maker;
    told_is = h.told_is;
    knows_is = h.knows_is;
    homes = λ e. let z = h.homes e in record { covers = z.covers; signalled = z.signalled; passed = z.passed; no_send = z.no_send };
    first = λ e. let z = h.first e in record { all_told = z.all_told; fetches = each_put (λ k y. y.fetched ≡ true → y.since ≡ true) s.nodes n _ (z.fetches n) (λ k ne. z.fetches k); prompt = each_put (λ k y. Prompt y.mode) s.nodes n _ (begin_prompt s.progress kind z.all_told) (λ k ne. z.prompt k) };
  }

  drop_holds : (n : ℕ) → May place s (Drop n) → Holds place (after_event place s (Drop n))
  drop_holds n may = record {
    sound = record { most = h.sound.most; settled = h.sound.settled; broken = h.sound.broken };
    each = each_put (λ k y. FitsNode (past s k) y) s.nodes n _ (drop_fits (past s n) _ _ _ _ may.1 (subst (λ y. Fits (past s n) (s.nodes n).frame (s.nodes n).twin (s.nodes n).fresh (s.nodes n).since y) may.0 (h.each n))) (λ k ne. h.each k);
    maker = h.maker;
    told_is = h.told_is;
    knows_is = h.knows_is;
    homes = λ e. let z = h.homes e in record { covers = z.covers; signalled = z.signalled; passed = z.passed; no_send = z.no_send };
    first = λ e. let z = h.first e in record { all_told = z.all_told; fetches = each_put (λ k y. y.fetched ≡ true → y.since ≡ true) s.nodes n _ (z.fetches n) (λ k ne. z.fetches k); prompt = each_put (λ k y. Prompt y.mode) s.nodes n _ tt (λ k ne. z.prompt k) };
  }

  -- where nobody has a twin or is exclusive, the home has the last store
  bare_settled : ((k : ℕ) → (s.nodes k).mode ≡ Bare) → 2 ≤ s.progress
  bare_settled bare = go s.at refl
    where
      go : (c : Option ℕ) → s.at ≡ c → 2 ≤ s.progress
      go None e = (h.homes e).covers
      go (Some k) e =
          let z = clear (past s k) _ _ _ _ (rw e (at_own k)) (subst (λ y. Fits (past s k) (s.nodes k).frame (s.nodes k).twin (s.nodes k).fresh (s.nodes k).since y) (bare k) (h.each k)) in
          omega (arith, z)

  enter_holds : (n : ℕ) → May place s (Enter n) → Holds place (after_event place s (Enter n))
  enter_holds n may = record {
    sound = record { most = h.sound.most; settled = h.sound.settled; broken = h.sound.broken };
    each = each_put (λ k y. FitsNode (past s k) y) s.nodes n _ (enter_fits (past s n) _ _ _ _ (bare_settled may) (subst (λ y. Fits (past s n) (s.nodes n).frame (s.nodes n).twin (s.nodes n).fresh (s.nodes n).since y) (may n) (h.each n))) (λ k ne. h.each k);
    maker = h.maker;
    told_is = h.told_is;
    knows_is = h.knows_is;
    homes = λ e. let z = h.homes e in record { covers = z.covers; signalled = z.signalled; passed = z.passed; no_send = z.no_send };
    first = λ e. let z = h.first e in record { all_told = z.all_told; fetches = each_put (λ k y. y.fetched ≡ true → y.since ≡ true) s.nodes n _ (z.fetches n) (λ k ne. z.fetches k); prompt = each_put (λ k y. Prompt y.mode) s.nodes n _ (late_told s.progress z.all_told) (λ k ne. z.prompt k) };
  }

  home_enter_holds : May place s Home_enter → Holds place (after_event place s Home_enter)
  home_enter_holds may = record {
    sound = record { most = h.sound.most; settled = h.sound.settled; broken = h.sound.broken };
    each = h.each;
    maker = h.maker;
    told_is = h.told_is;
    knows_is = h.knows_is;
    homes = λ e. let z = h.homes e in record { covers = z.covers; signalled = λ a. inr refl; passed = λ a. passed (z.passed a); no_send = λ a. may e };
    first = λ e. let z = h.first e in record { all_told = z.all_told; fetches = z.fetches; prompt = z.prompt };
  }
    where
      passed : (s.broken ≡ true) ⊎ ((s.home_exclusive ≡ true) × (s.progress < 4)) → (s.broken ≡ true) ⊎ ((true ≡ true) × (s.progress < 4))
      passed (inl b) = inl b
      passed (inr b) = inr (refl, b.1)

  signal_holds : (p : ℕ) → May place s (Signal p) → Holds place (after_event place s (Signal p))
  signal_holds p may = record {
    sound = record { most = h.sound.most; settled = h.sound.settled; broken = h.sound.broken };
    each = λ k. let z = (h.each k).base in record { base = record { own_has = z.own_has; fresh_has = z.fresh_has; since_has = z.since_has; released_is = λ own r. away k own (or_true s.released (is_by s.by p) r); early_is = z.early_is }; stands = (h.each k).stands };
    maker = h.maker;
    told_is = h.told_is;
    knows_is = h.knows_is;
    homes = λ e. let z = h.homes e in record { covers = z.covers; signalled = λ r. home e (or_true s.released (is_by s.by p) r); passed = z.passed; no_send = z.no_send };
    first = λ e. let z = h.first e in record { all_told = z.all_told; fetches = z.fetches; prompt = z.prompt };
  }
    where
      away : (k : ℕ) → is_at s.at k ≡ true → (s.released ≡ true) ⊎ (is_by s.by p ≡ true) → (4 ≤ s.progress) ⊎ ((is_exclusive (s.nodes k).mode ≡ true) × (s.progress ≢ 1))
      away k own (inl r) = (h.each k).base.released_is own r
      away k own (inr b) = go (may (by_is s.by p b))
        where
          go : (s.progress ≡ told) ⊎ ((exclusive_at s s.at ≡ true) × (s.progress ≢ 1)) → (4 ≤ s.progress) ⊎ ((is_exclusive (s.nodes k).mode ≡ true) × (s.progress ≢ 1))
          go (inl e) = inl (omega (arith, e))
          go (inr e) = inr (subst (λ c. exclusive_at s c ≡ true) (at_is s.at k own) e.0, e.1)

      home : s.at ≡ None → (s.released ≡ true) ⊎ (is_by s.by p ≡ true) → (4 ≤ s.progress) ⊎ (s.home_exclusive ≡ true)
      home f (inl r) = (h.homes f).signalled r
      home f (inr b) = go (may (by_is s.by p b))
        where
          go : (s.progress ≡ told) ⊎ ((exclusive_at s s.at ≡ true) × (s.progress ≢ 1)) → (4 ≤ s.progress) ⊎ (s.home_exclusive ≡ true)
          go (inl e) = inl (omega (arith, e))
          go (inr e) = inr (subst (λ c. exclusive_at s c ≡ true) f e.0)

  pass_holds : (q : ℕ) → Holds place (after_event place s (Pass q))
  pass_holds q = record {
    sound = record { most = h.sound.most; settled = h.sound.settled; broken = h.sound.broken };
    each = λ k. let z = (h.each k).base in record { base = record { own_has = z.own_has; fresh_has = z.fresh_has; since_has = z.since_has; released_is = z.released_is; early_is = λ own r. away k own (or_true s.early _ r) }; stands = (h.each k).stands };
    maker = h.maker;
    told_is = each_put (λ k b. b ≡ true → 4 ≤ s.progress) s.told_to q _ (λ b. newly (or_true (s.told_to q) _ b)) (λ k ne. h.told_is k);
    knows_is = knows;
    homes = λ e. let z = h.homes e in record { covers = z.covers; signalled = z.signalled; passed = λ r. home e (or_true s.early _ r); no_send = z.no_send };
    first = λ e. let z = h.first e in record { all_told = z.all_told; fetches = z.fetches; prompt = z.prompt };
  }
    where
      away : (k : ℕ) → is_at s.at k ≡ true → (s.early ≡ true) ⊎ ((s.released && not (nat_le told s.progress)) ≡ true) → (s.broken ≡ true) ⊎ ((is_exclusive (s.nodes k).mode ≡ true) × (s.progress ≢ 1) × (s.progress < 4))
      away k own (inl r) = (h.each k).base.early_is own r
      away k own (inr b) = let z = early_new s.released s.progress b in go z.1 ((h.each k).base.released_is own z.0)
        where
          go : s.progress < 4 → (4 ≤ s.progress) ⊎ ((is_exclusive (s.nodes k).mode ≡ true) × (s.progress ≢ 1)) → (s.broken ≡ true) ⊎ ((is_exclusive (s.nodes k).mode ≡ true) × (s.progress ≢ 1) × (s.progress < 4))
          go lt (inl e) = absurd (omega (arith, e, lt))
          go lt (inr e) = inr (e.0, e.1, lt)

      home : s.at ≡ None → (s.early ≡ true) ⊎ ((s.released && not (nat_le told s.progress)) ≡ true) → (s.broken ≡ true) ⊎ ((s.home_exclusive ≡ true) × (s.progress < 4))
      home f (inl r) = (h.homes f).passed r
      home f (inr b) = let z = early_new s.released s.progress b in go z.1 ((h.homes f).signalled z.0)
        where
          go : s.progress < 4 → (4 ≤ s.progress) ⊎ (s.home_exclusive ≡ true) → (s.broken ≡ true) ⊎ ((s.home_exclusive ≡ true) × (s.progress < 4))
          go lt (inl e) = absurd (omega (arith, e, lt))
          go lt (inr e) = inr (e, lt)

      newly : (s.told_to q ≡ true) ⊎ ((s.released && nat_le told s.progress) ≡ true) → 4 ≤ s.progress
      newly (inl e) = h.told_is q e
      newly (inr e) = told_new s.released s.progress e

      told' : ℕ → Bool
      told' = put s.told_to q (s.told_to q || (s.released && nat_le told s.progress))

      early' : Bool
      early' = s.early || (s.released && not (nat_le told s.progress))

      still : (k : ℕ) → s.told_to k ≡ true → put s.told_to q (s.told_to q || (s.released && nat_le told s.progress)) k ≡ true
      still k = each_put (λ j b. s.told_to j ≡ true → b ≡ true) s.told_to q _ (λ e. or_left _ _ e) (λ j ne e. e) k

      old : (k : ℕ) → (s.by ≡ Some k) ⊎ (s.told_to k ≡ true) ⊎ (s.early ≡ true) → (s.by ≡ Some k) ⊎ (put s.told_to q (s.told_to q || (s.released && nat_le told s.progress)) k ≡ true) ⊎ ((s.early || (s.released && not (nat_le told s.progress))) ≡ true)
      old k (inl e) = inl e
      old k (inr (inl e)) = inr (inl (still k e))
      old k (inr (inr e)) = inr (inr (or_left _ _ e))

      new : s.released ≡ true → (s.by ≡ Some q) ⊎ (put s.told_to q (s.told_to q || (s.released && nat_le told s.progress)) q ≡ true) ⊎ ((s.early || (s.released && not (nat_le told s.progress))) ≡ true)
      new r = go (either_way s.released s.progress r)
        where
          go : ((s.released && nat_le told s.progress) ≡ true) ⊎ ((s.released && not (nat_le told s.progress)) ≡ true) → (s.by ≡ Some q) ⊎ (put s.told_to q (s.told_to q || (s.released && nat_le told s.progress)) q ≡ true) ⊎ ((s.early || (s.released && not (nat_le told s.progress))) ≡ true)
          go (inl e) = inr (inl (rw (eq-eqb q q refl) (or_right _ _ e)))
          go (inr e) = inr (inr (or_right _ _ e))

      fork : (s.knows q ≡ true) ⊎ (s.released ≡ true) → (s.by ≡ Some q) ⊎ (put s.told_to q (s.told_to q || (s.released && nat_le told s.progress)) q ≡ true) ⊎ ((s.early || (s.released && not (nat_le told s.progress))) ≡ true)
      fork (inl e) = old q (h.knows_is q e)
      fork (inr e) = new e

      knows : (k : ℕ) → put s.knows q (s.knows q || s.released) k ≡ true → (s.by ≡ Some k) ⊎ (put s.told_to q (s.told_to q || (s.released && nat_le told s.progress)) k ≡ true) ⊎ ((s.early || (s.released && not (nat_le told s.progress))) ≡ true)
      knows = each_put (λ k b. b ≡ true → (s.by ≡ Some k) ⊎ (put s.told_to q (s.told_to q || (s.released && nat_le told s.progress)) k ≡ true) ⊎ ((s.early || (s.released && not (nat_le told s.progress))) ≡ true)) s.knows q _ (λ e. fork (or_true (s.knows q) s.released e)) (λ k ne e. old k (h.knows_is k e))

  op_holds : (n : ℕ) → Holds place (after_event place s (Op n))
  op_holds n =
      let k = op_kept (past s n) sound_n (s.nodes n).frame (s.nodes n).twin (s.nodes n).fresh (s.nodes n).since (s.nodes n).mode (h.each n) in record {
        sound = record { most = k.sound.most; settled = k.sound.settled; broken = k.sound.broken };
        each = each_put (λ j y. FitsNode (past (after_event place s (Op n)) j) y) s.nodes n (node_behind s n) k.fits (others k.rises k.others);
        maker = h.maker;
        told_is = λ q e. let z = h.told_is q e in let y = k.rises in omega (arith, z, y);
        knows_is = h.knows_is;
        homes = λ e. homes e (h.homes e) k.others;
        first = λ e. let z = h.first e in let y = k.rises in record {
          all_told = let a = z.all_told in omega (arith, a, y);
          fetches = each_put (λ j y. y.fetched ≡ true → y.since ≡ true) s.nodes n (node_behind s n) (prompt_op s.master s.progress (s.nodes n).frame (s.nodes n).twin _ _ (s.nodes n).mode (z.fetches n) (z.prompt n)).0 (λ j ne. z.fetches j);
          prompt = each_put (λ j y. Prompt y.mode) s.nodes n (node_behind s n) (prompt_op s.master s.progress (s.nodes n).frame (s.nodes n).twin _ _ (s.nodes n).mode (z.fetches n) (z.prompt n)).1 (λ j ne. z.prompt j);
        };
      }
    where
      sound_n : Sound (past s n)
      sound_n = record { most = h.sound.most; settled = h.sound.settled; broken = h.sound.broken }

      others : s.progress ≤ progress_behind s n → (is_at s.at n ≡ true) ⊎ ((progress_behind s n ≡ s.progress) × (master_behind s n ≡ s.master) × (broken_behind s n ≡ s.broken)) → (k : ℕ) → k ≢ n → FitsNode (past (after_event place s (Op n)) k) (s.nodes k)
      others r (inl e) k ne = up (past s k) (past (after_event place s (Op n)) k) _ _ _ _ (one_own s.at n k ne e) (one_own s.at n k ne e) refl r (s.nodes k).mode (h.each k)
      others r (inr e) k ne = rw (e.0, e.1, e.2) (h.each k)

      homes : s.at ≡ None → IsHomes s → (is_at s.at n ≡ true) ⊎ ((progress_behind s n ≡ s.progress) × (master_behind s n ≡ s.master) × (broken_behind s n ≡ s.broken)) → IsHomes (after_event place s (Op n))
      homes e z (inl f) = absurd (let y : is_at None n ≡ true = subst (λ c. is_at c n ≡ true) e f in cc y)
      homes e z (inr f) = record { covers = rw f.0 z.covers; signalled = rw f.0 z.signalled; passed = rw (f.0, f.2) z.passed; no_send = rw f.0 z.no_send }

  -- the last store of the home comes on
  home_moves : (prog : ℕ) (broken sole : Bool) → s.progress ≤ prog → prog ≤ 4 → (s.at ≡ None) ⊎ ((prog ≡ s.progress) × (broken ≡ s.broken)) → (broken ≡ true → 4 ≤ prog) → (sole ≡ true → s.home_exclusive ≡ true) → (s.at ≡ None → IsHomes (record s { progress = prog; broken = broken; home_exclusive = sole })) → Holds place (record s { progress = prog; broken = broken; home_exclusive = sole })
  home_moves prog broken sole le most why b so homes = record {
    sound = record { most = most; settled = settled why; broken = b };
    each = each why;
    maker = h.maker;
    told_is = λ q e. let z = h.told_is q e in omega (arith, z, le);
    knows_is = h.knows_is;
    homes = homes;
    first = λ e. let z = h.first e in record { all_told = let a = z.all_told in omega (arith, a, le); fetches = z.fetches; prompt = z.prompt };
  }
    where
      settled : (s.at ≡ None) ⊎ ((prog ≡ s.progress) × (broken ≡ s.broken)) → 2 ≤ prog → s.master ≡ s.last
      settled (inl e) a = h.sound.settled (h.homes e).covers
      settled (inr e) a = h.sound.settled (subst (λ z. 2 ≤ z) e.0 a)

      each : (s.at ≡ None) ⊎ ((prog ≡ s.progress) × (broken ≡ s.broken)) → (k : ℕ) → FitsNode (past (record s { progress = prog; broken = broken; home_exclusive = sole }) k) (s.nodes k)
      each (inl e) k = let own : is_at s.at k ≡ false = rw e refl in up (past s k) (past (record s { progress = prog; broken = broken; home_exclusive = sole }) k) _ _ _ _ own own refl le (s.nodes k).mode (h.each k)
      each (inr e) k = rw (e.0, e.1) (h.each k)

  home_sent_holds : May place s Home_sent → Holds place (after_event place s Home_sent)
  home_sent_holds may = go s.at refl
    where
      go : (c : Option ℕ) → s.at ≡ c → Holds place (record s { progress = home_next c covered s.progress })
      go None e = let r = send_rises s.progress h.sound.most in home_moves (if s.progress == covered then ended else s.progress) s.broken s.home_exclusive r.0 r.1 (inl e) (λ b. let z = h.sound.broken b in omega (arith, z, r.0)) (λ a. a) (λ a. sent_homes s may (h.homes a))
      go (Some k) e = h

  home_told_holds : Holds place (after_event place s Home_told)
  home_told_holds = go s.at refl
    where
      go : (c : Option ℕ) → s.at ≡ c → Holds place (record s { progress = home_next c ended s.progress })
      go None e = let r = tell_rises s.progress h.sound.most in home_moves (if s.progress == ended then told else s.progress) s.broken s.home_exclusive r.0 r.1 (inl e) (λ b. let z = h.sound.broken b in omega (arith, z, r.0)) (λ a. a) (λ a. told_homes s (h.homes a))
      go (Some k) e = h

  home_break_holds : May place s Home_break → Holds place (after_event place s Home_break)
  home_break_holds may = go s.at refl
    where
      go : (c : Option ℕ) → s.at ≡ c → Holds place (record s { home_exclusive = false; broken = s.broken || (is_home c && (s.progress == covered)); progress = home_broken c s.progress })
      go None e = let r = break_rises s.progress h.sound.most in home_moves (if s.progress == covered then told else s.progress) (s.broken || (s.progress == covered)) false r.0 r.1 (inl e) (broken_told s.progress s.broken h.sound.broken) (λ a. absurd (cc a)) (λ a. broken_homes s h.sound.most (h.homes a))
      go (Some k) e = home_moves s.progress (s.broken || false) false (omega arith) h.sound.most (inr (refl, or_false s.broken)) (λ b. h.sound.broken (subst (λ z. z ≡ true) (or_false s.broken) b)) (λ a. absurd (cc a)) (λ a. absurd (cc (a, e)))

  -- a store
  store_home : (p v : ℕ) → None ≡ place p → MayAccess s p None → Holds place (store_at s p None v)
  store_home p v here may = record {
    sound = record { most = omega arith; settled = λ a. refl; broken = λ a. absurd (cc a) };
    each = λ k. out (past s k) (past (store_at s p None v) k) _ _ _ _ (not_owed place s h p None here may.0 may.1 k (λ e. absurd (cc e))) refl (s.nodes k).mode (may.1 k) (h.each k);
    maker = λ q e. let z : p ≡ q = cc e in here ∙ ap place z;
    told_is = λ q e. absurd (cc e);
    knows_is = λ q e. inl (ap (λ z. Some z) (sym (eqb-true q p e)));
    homes = λ e. record { covers = omega arith; signalled = λ a. absurd (cc a); passed = λ a. absurd (cc a); no_send = λ a b. absurd (cc b) };
    first = λ e. absurd (cc e);
  }

  store_node : (p n v : ℕ) → Some n ≡ place p → MayAccess s p (Some n) → may_store (s.nodes n).mode ≡ true → Holds place (store_at s p (Some n) v)
  store_node p n v here may write =
      let low = progress_below (s.nodes n).mode in record {
        sound = record { most = omega (arith, low); settled = λ a. absurd (omega (arith, a, low)); broken = λ a. absurd (cc a) };
        each = each_put (λ k y. FitsNode (past (store_at s p (Some n) v) k) y) (λ k. out_node (s.nodes k)) n (touch_node v (s.nodes n))
            (subst (λ b. FitsNode (record { store = record { own = b; prog = store_progress (s.nodes n).mode; m = s.master; l = v }; released = false; early = false; broken = false }) (touch_node v (s.nodes n))) (sym (at_own n)) (touch (past s n) _ _ v _ _ (record { most = h.sound.most; settled = h.sound.settled; broken = h.sound.broken }) (has_node place s h p n here may) (s.nodes n).mode write (h.each n)))
            (λ k ne. out (past s k) (past (store_at s p (Some n) v) k) _ _ _ _ (not_owed place s h p (Some n) here may.0 may.1 k (λ e. let z : n ≡ k = cc e in ne (sym z))) (not_at k n ne) (s.nodes k).mode (may.1.1 k ne) (h.each k));
        maker = λ q e. let z : p ≡ q = cc e in here ∙ ap place z;
        told_is = λ q e. absurd (cc e);
        knows_is = λ q e. inl (ap (λ z. Some z) (sym (eqb-true q p e)));
        homes = λ e. absurd (cc e);
        first = λ e. absurd (cc e);
      }

  store_holds : (p v : ℕ) (w : Option ℕ) → w ≡ place p → MayAccess s p w → MayWrite s w → Holds place (store_at s p w v)
  store_holds p v None here may write = store_home p v here may
  store_holds p v (Some n) here may write = store_node p n v here may write

  pub keeps : (e : Event) → May place s e → Holds place (after_event place s e)
  keeps (Load p v) may = h
  keeps (Store p v) may = store_holds p v (place p) refl may.0 may.1
  keeps (Signal p) may = signal_holds p may
  keeps (Pass q) may = pass_holds q
  keeps (Begin n kind) may = begin_holds n kind may
  keeps (Op n) may = op_holds n
  keeps (Drop n) may = drop_holds n may
  keeps Home_sent may = home_sent_holds may
  keeps Home_told may = home_told_holds
  keeps (Enter n) may = enter_holds n may
  keeps Home_enter may = home_enter_holds may
  keeps Home_break may = home_break_holds may
