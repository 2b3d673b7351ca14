-- The premises by numbers of sends give the premises on fetches.
use Rattle.std.proofs.Common.{◌≡◌, ◌≢◌, ℕ, suc, ◌<◌, ◌≤◌, ◌⊎◌, Bool, true, false, Option, None, Some, refl, sym, ap, ◌∙◌, subst, inl, inr, arith, if◌then◌else◌, ◌==◌}
use Rattle.std.specs.Prelude.{nat_le, ◌||◌, ◌&&◌}
use Rattle.std.proofs.lemmas.Bool.{cases_eq, eq-eqb, ne_eqb}
use Rattle.dsm_copies.specs.Modes.{Mode, Bare, Flush_end, Enter_load, Break_end, op_mode, op_progress, op_broken, op_since, covered, ended, told, told as told_progress}
use Rattle.dsm_copies.specs.Copies.{State, Event, Load, Store, Signal, Pass, Begin, Op, Drop, Home_sent, Home_told, Enter, Home_enter, Home_break, Kind, Flush, Merge, Overwrite, Make, Break, is_at, is_home, home_next, home_broken, put, begun, store_at, after_event, start}
use Rattle.dsm_copies.specs.Premises.{Told, Broken, Away, IsOthers, Asks}
use Rattle.dsm_copies.specs.Counts.{Count, sender, op_sent, op_told, op_last_break, op_got, begin_snap, count, no_count}
use Rattle.dsm_copies.specs.Debts.{Debts, AsksOf}
use Rattle.dsm_copies.proofs.Needs.{May}
use Rattle.dsm_copies.proofs.Stores.{Prompt, progress_below}
use Rattle.dsm_copies.proofs.Holds.{progress_behind, broken_behind, master_behind, node_behind, Holds, past, each_put, at_is}
use Rattle.dsm_copies.proofs.Ops.{op_kept, Kept}
use Rattle.dsm_copies.proofs.Events.{keeps}
use Rattle.dsm_copies.proofs.Every.{begins}

prompt_mode : (m prog f t : ℕ) (x : Mode) → Prompt x → Prompt (op_mode m prog f t x)
prompt_mode m prog f t Bare p = grind arith
prompt_mode m prog f t x p = grind arith

got_op : (k snap got : ℕ) (since : Bool) (x : Mode) → (k ≤ got → since ≡ true) → (k ≤ snap → Prompt x) → k ≤ op_got snap got x → op_since since x ≡ true
got_op k snap got since Bare a b c = grind arith
got_op k snap got since x a b c = grind arith

got_below : (snap got sent : ℕ) (x : Mode) → snap ≤ sent → got ≤ sent → op_got snap got x ≤ op_sent sent x
got_below snap got sent Bare a b = grind arith
got_below snap got sent x a b = grind arith

pub sent_rises : (sent : ℕ) (x : Mode) → sent ≤ op_sent sent x
sent_rises sent Bare = omega arith
sent_rises sent x = omega arith

-- the send that ended for the last store
abbrev op_cover : Bool → (prog sent k : ℕ) → Mode → ℕ
op_cover true prog sent k Flush_end = if prog == 2 then suc sent else k
op_cover true prog sent k Break_end = if prog == 2 then suc sent else k
op_cover own prog sent k _ = k

pub record Covers (prog sent told broken k : ℕ) (was : Bool) : Type 0 where
  pub is_sent : 3 ≤ prog → k ≤ sent
  pub is_told : 4 ≤ prog → k ≤ told
  pub is_broken : was ≡ true → k ≤ broken

-- the node of the last store makes an operation
covers_op : (prog t sent told broken k : ℕ) (was : Bool) → (was ≡ true → 4 ≤ prog) → told ≤ sent → (x : Mode) → Covers prog sent told broken k was → Covers (op_progress true prog t x) (op_sent sent x) (op_told sent told x) (op_last_break sent broken x) (op_cover true prog sent k x) (op_broken true prog was x) × (((op_cover true prog sent k x ≡ k) × (3 ≤ op_progress true prog t x → 3 ≤ prog)) ⊎ ((sent < op_cover true prog sent k x) × (prog < 3)))
covers_op prog t sent told broken k was w b Bare c = grind arith
covers_op prog t sent told broken k was w b x c = grind arith

own_op : (own : Bool) (prog t sent told broken k : ℕ) (was : Bool) → own ≡ true → (was ≡ true → 4 ≤ prog) → told ≤ sent → (x : Mode) → Covers prog sent told broken k was → Covers (op_progress own prog t x) (op_sent sent x) (op_told sent told x) (op_last_break sent broken x) (op_cover true prog sent k x) (op_broken own prog was x) × (((op_cover true prog sent k x ≡ k) × (3 ≤ op_progress own prog t x → 3 ≤ prog)) ⊎ ((sent < op_cover true prog sent k x) × (prog < 3)))
own_op true prog t sent told broken k was e = covers_op prog t sent told broken k was
own_op false prog t sent told broken k was e = absurd (cc e)

told_op : (sent told : ℕ) (x : Mode) → told ≤ sent → op_told sent told x ≤ op_sent sent x
told_op sent told Bare b = omega (arith, b)
told_op sent told x b = omega (arith, b)

got_stays : (snap got sent : ℕ) (x : Mode) → snap ≤ sent → got ≤ sent → op_got snap got x ≤ sent
got_stays snap got sent Bare a b = grind arith
got_stays snap got sent x a b = grind arith

begun_prompt : (prog : ℕ) (kind : Kind) → 3 ≤ prog → Prompt (begun prog kind)
begun_prompt prog Flush a = tt
begun_prompt prog Merge a = grind arith
begun_prompt prog Overwrite a = grind arith
begun_prompt prog Make a = tt
begun_prompt prog Break a = tt

begin_below : (sent snap : ℕ → ℕ) (kind : Kind) → ((m : ℕ) → snap m ≤ sent m) → (m : ℕ) → begin_snap sent snap kind m ≤ sent m
begin_below sent snap Flush a m = a m
begin_below sent snap Merge a m = omega arith
begin_below sent snap Overwrite a m = omega arith
begin_below sent snap Make a m = a m
begin_below sent snap Break a m = a m

put_same : (f : ℕ → ℕ) (j x : ℕ) → put f j x j ≡ x
put_same f j x = rw (eq-eqb j j refl)

put_other : (f : ℕ → ℕ) (j x i : ℕ) → i ≢ j → put f j x i ≡ f i
put_other f j x i ne = rw (ne_eqb i j ne)

put_le : (f g : ℕ → ℕ) (j x y : ℕ) → ((m : ℕ) → f m ≤ g m) → x ≤ y → (m : ℕ) → put f j x m ≤ put g j y m
put_le f g j x y a b m = go (cases_eq m j)
  where
    go : (m ≡ j) ⊎ (m ≢ j) → put f j x m ≤ put g j y m
    go (inl e) = rw (eq-eqb m j e) b
    go (inr ne) = rw (ne_eqb m j ne) (a m)

put_above : (f g : ℕ → ℕ) (j y : ℕ) → ((m : ℕ) → f m ≤ g m) → g j ≤ y → (m : ℕ) → f m ≤ put g j y m
put_above f g j y a b m = go (cases_eq m j)
  where
    go : (m ≡ j) ⊎ (m ≢ j) → f m ≤ put g j y m
    go (inl e) = let z = a m in rw (eq-eqb m j e) (let q : f m ≤ g j = subst (λ i. f m ≤ g i) e z in omega (arith, q, b))
    go (inr ne) = rw (ne_eqb m j ne) (a m)

sender_is : (c : Option ℕ) (n : ℕ) → sender c ≡ suc n → is_at c n ≡ true
sender_is None n e = absurd (cc e)
sender_is (Some k) n e = eq-eqb n k (omega (arith, e))

-- a send of the home, its end and a break of the home
abbrev home_cover : (prog sent k : ℕ) → ℕ
home_cover prog sent k = if prog == covered then suc sent else k

home_sent_covers : (prog sent told broken k : ℕ) (was : Bool) → (was ≡ true → 4 ≤ prog) → Covers prog sent told broken k was → Covers (if prog == covered then ended else prog) (suc sent) told broken (home_cover prog sent k) was
home_sent_covers prog sent told broken k was w z = grind arith

home_sent_old : (prog sent k : ℕ) → ((home_cover prog sent k ≡ k) × (3 ≤ (if prog == covered then ended else prog) → 3 ≤ prog)) ⊎ ((sent < home_cover prog sent k) × (prog < 3))
home_sent_old prog sent k = grind arith

home_told_covers : (prog sent told broken k : ℕ) (was : Bool) → told ≤ sent → Covers prog sent told broken k was → Covers (if prog == ended then told_progress else prog) sent sent broken k was
home_told_covers prog sent told broken k was le z = grind arith

home_broken_covers : (prog sent told broken k : ℕ) (was : Bool) → told ≤ sent → (was ≡ true → 4 ≤ prog) → Covers prog sent told broken k was → Covers (if prog == covered then told_progress else prog) (suc sent) (suc sent) (suc sent) (home_cover prog sent k) (was || (prog == covered))
home_broken_covers prog sent told broken k was le w z = grind arith

home_broken_old : (prog sent k : ℕ) → ((home_cover prog sent k ≡ k) × (3 ≤ (if prog == covered then told else prog) → 3 ≤ prog)) ⊎ ((sent < home_cover prog sent k) × (prog < 3))
home_broken_old prog sent k = grind arith

told_old : (prog : ℕ) → 3 ≤ (if prog == ended then told else prog) → 3 ≤ prog
told_old prog a = grind arith

none_old : {A B C : Type 0} → (N : Type 0) → N → A ⊎ (B × C) → A ⊎ (N × B × C)
none_old N n (inl a) = inl a
none_old N n (inr b) = inr (n, b.0, b.1)

or_same : (a : Bool) → (a || false) ≡ a
or_same true = refl
or_same false = refl

-- the numbers behind an operation of node n
abbrev sent_behind : State → Count → ℕ → ℕ
sent_behind s c n = op_sent (c.sent (suc n)) (s.nodes n).mode

abbrev told_behind : State → Count → ℕ → ℕ
told_behind s c n = op_told (c.sent (suc n)) (c.told (suc n)) (s.nodes n).mode

abbrev break_behind : State → Count → ℕ → ℕ
break_behind s c n = op_last_break (c.sent (suc n)) (c.broken (suc n)) (s.nodes n).mode

abbrev sents_behind : State → Count → ℕ → ℕ → ℕ
sents_behind s c n = put c.sent (suc n) (sent_behind s c n)

abbrev tolds_behind : State → Count → ℕ → ℕ → ℕ
tolds_behind s c n = put c.told (suc n) (told_behind s c n)

abbrev breaks_behind : State → Count → ℕ → ℕ → ℕ
breaks_behind s c n = put c.broken (suc n) (break_behind s c n)

abbrev gots_behind : State → Count → ℕ → ℕ → ℕ → ℕ
gots_behind s c n = put c.got n (λ m. op_got (c.snap n m) (c.got n m) (s.nodes n).mode)

abbrev cover_behind : State → Count → ℕ → ℕ → ℕ
cover_behind s c n k = op_cover true s.progress (c.sent (suc n)) k (s.nodes n).mode

-- j is the number k of before, and no send has ended for the last store now; or it is newer than all that were sent
abbrev IsOldOrNew : (k j sent prog prog' : ℕ) → Type 0
IsOldOrNew k j sent prog prog' = ((j ≡ k) × (3 ≤ prog' → 3 ≤ prog)) ⊎ ((sent < j) × (prog < 3))

-- k is the number of the send that ended for the last store
pub record Tally (s : State) (c : Count) (k : ℕ) : Type 0 where
  pub covers : Covers s.progress (c.sent (sender s.at)) (c.told (sender s.at)) (c.broken (sender s.at)) k s.broken
  pub told_le : (m : ℕ) → c.told m ≤ c.sent m
  pub snap_le : (n m : ℕ) → c.snap n m ≤ c.sent m
  pub got_le : (n m : ℕ) → c.got n m ≤ c.sent m
  pub knows : (q : ℕ) → s.told_to q ≡ true → k ≤ c.known q (sender s.at)
  pub prompt : s.by ≢ None → (n : ℕ) → 3 ≤ s.progress → k ≤ c.snap n (sender s.at) → Prompt (s.nodes n).mode
  pub since : s.by ≢ None → (n : ℕ) → 3 ≤ s.progress → k ≤ c.got n (sender s.at) → (s.nodes n).since ≡ true

module _ (place : ℕ → Option ℕ) (s : State) (c : Count) (k : ℕ) (h : Holds place s) (t : Tally s c k) where
  -- the last store is of another sender than a node that did not make it
  sender_other : (n : ℕ) → is_at s.at n ≡ false → sender s.at ≢ suc n
  sender_other n away e = let z = sender_is s.at n e in absurd (cc (z, away))

  told_at : (p : ℕ) (w : Option ℕ) → Away w (λ n. (m : ℕ) → m ≢ suc n → c.known p m ≤ c.got n m) → Away w (λ n. IsOthers s n → s.told_to p ≡ true → (s.nodes n).since ≡ true)
  told_at p None got = tt
  told_at p (Some n) got = λ others e. let a = t.knows p e in let b = got (sender s.at) (sender_other n others.0) in let d = h.told_is p e in t.since others.1 n (omega (arith, d)) (omega (arith, a, b))

  broken_at : (w : Option ℕ) → Away w (λ n. (m : ℕ) → m ≢ suc n → c.broken m ≤ c.got n m) → Away w (λ n. IsOthers s n → s.broken ≡ true → (s.nodes n).since ≡ true)
  broken_at None got = tt
  broken_at (Some n) got = λ others e. let a = t.covers.is_broken e in let b = got (sender s.at) (sender_other n others.0) in let d = h.sound.broken e in t.since others.1 n (omega (arith, d)) (omega (arith, a, b))

  pub told_of : (d : Debts) (e : Event) → AsksOf place Told s c d e → Asks place Told s e
  told_of d (Load p v) a = told_at p (place p) a
  told_of d (Store p v) a = told_at p (place p) a
  told_of d e a = a

  pub broken_of : (d : Debts) (e : Event) → AsksOf place Broken s c d e → Asks place Broken s e
  broken_of d (Load p v) a = broken_at (place p) a
  broken_of d (Store p v) a = broken_at (place p) a
  broken_of d e a = a

  store_tally : (p v : ℕ) (w : Option ℕ) → Tally (store_at s p w v) c k
  store_tally p v None = record {
    covers = record { is_sent = λ a. absurd (omega (arith, a)); is_told = λ a. absurd (omega (arith, a)); is_broken = λ a. absurd (cc a) };
    told_le = t.told_le;
    snap_le = t.snap_le;
    got_le = t.got_le;
    knows = λ q e. absurd (cc e);
    prompt = λ a n b. absurd (omega (arith, b));
    since = λ a n b. absurd (omega (arith, b));
  }
  store_tally p v (Some m) = let low = progress_below (s.nodes m).mode in record {
    covers = record { is_sent = λ a. absurd (omega (arith, a, low)); is_told = λ a. absurd (omega (arith, a, low)); is_broken = λ a. absurd (cc a) };
    told_le = t.told_le;
    snap_le = t.snap_le;
    got_le = t.got_le;
    knows = λ q e. absurd (cc e);
    prompt = λ a n b. absurd (omega (arith, b, low));
    since = λ a n b. absurd (omega (arith, b, low));
  }

  pass_tally : (q : ℕ) → Tally (after_event place s (Pass q)) (count s (Pass q) c) k
  pass_tally q = record {
    covers = record { is_sent = t.covers.is_sent; is_told = t.covers.is_told; is_broken = t.covers.is_broken };
    told_le = t.told_le;
    snap_le = t.snap_le;
    got_le = t.got_le;
    knows = knows;
    prompt = t.prompt;
    since = t.since;
  }
    where
      told_after : (x : ℕ) → (after_event place s (Pass q)).told_to x ≡ true → 4 ≤ s.progress
      told_after = (keeps place s h (Pass q) tt).told_is

      knows : (x : ℕ) → (after_event place s (Pass q)).told_to x ≡ true → k ≤ put c.known q c.told x (sender s.at)
      knows x e = go (cases_eq x q)
        where
          go : (x ≡ q) ⊎ (x ≢ q) → k ≤ put c.known q c.told x (sender s.at)
          go (inl f) = rw (eq-eqb x q f) (t.covers.is_told (told_after x e))
          go (inr ne) = rw (ne_eqb x q ne) (t.knows x (rw (ne_eqb x q ne) at e))

  begin_tally : (n : ℕ) (kind : Kind) → Tally (after_event place s (Begin n kind)) (count s (Begin n kind) c) k
  begin_tally n kind = record {
    covers = record { is_sent = t.covers.is_sent; is_told = t.covers.is_told; is_broken = t.covers.is_broken };
    told_le = t.told_le;
    got_le = t.got_le;
    knows = t.knows;
    snap_le = each_put (λ i f. (m : ℕ) → f m ≤ c.sent m) c.snap n _ (begin_below c.sent (c.snap n) kind (t.snap_le n)) (λ i ne. t.snap_le i);
    prompt = λ a i b d. go a i b d (cases_eq i n);
    since = λ a. each_put (λ i y. 3 ≤ s.progress → k ≤ c.got i (sender s.at) → y.since ≡ true) s.nodes n _ (t.since a n) (λ i ne. t.since a i);
  }
    where
      go : s.by ≢ None → (i : ℕ) → 3 ≤ s.progress → k ≤ put c.snap n (begin_snap c.sent (c.snap n) kind) i (sender s.at) → (i ≡ n) ⊎ (i ≢ n) → Prompt (put s.nodes n (record (s.nodes n) { mode = begun s.progress kind }) i).mode
      go a i b d (inl e) = rw (eq-eqb i n e) (begun_prompt s.progress kind b)
      go a i b d (inr ne) = rw (ne_eqb i n ne) (t.prompt a i b (rw (ne_eqb i n ne) at d))

  enter_tally : (n : ℕ) → Tally (after_event place s (Enter n)) (count s (Enter n) c) k
  enter_tally n = record {
    covers = record { is_sent = t.covers.is_sent; is_told = t.covers.is_told; is_broken = t.covers.is_broken };
    told_le = t.told_le;
    got_le = t.got_le;
    knows = t.knows;
    snap_le = each_put (λ i f. (m : ℕ) → f m ≤ c.sent m) c.snap n _ (λ m. omega arith) (λ i ne. t.snap_le i);
    prompt = λ a i b d. go a i b d (cases_eq i n);
    since = λ a. each_put (λ i y. 3 ≤ s.progress → k ≤ c.got i (sender s.at) → y.since ≡ true) s.nodes n _ (t.since a n) (λ i ne. t.since a i);
  }
    where
      go : s.by ≢ None → (i : ℕ) → 3 ≤ s.progress → k ≤ put c.snap n c.sent i (sender s.at) → (i ≡ n) ⊎ (i ≢ n) → Prompt (put s.nodes n (record (s.nodes n) { mode = Enter_load (nat_le ended s.progress) }) i).mode
      go a i b d (inl e) = rw (eq-eqb i n e) (begun_prompt s.progress Merge b)
      go a i b d (inr ne) = rw (ne_eqb i n ne) (t.prompt a i b (rw (ne_eqb i n ne) at d))

  down_tally : (n : ℕ) → Tally (after_event place s (Drop n)) c k
  down_tally n = record {
    covers = record { is_sent = t.covers.is_sent; is_told = t.covers.is_told; is_broken = t.covers.is_broken };
    told_le = t.told_le;
    snap_le = t.snap_le;
    got_le = t.got_le;
    knows = t.knows;
    prompt = λ a. each_put (λ i y. 3 ≤ s.progress → k ≤ c.snap i (sender s.at) → Prompt y.mode) s.nodes n _ (λ b d. tt) (λ i ne. t.prompt a i);
    since = λ a. each_put (λ i y. 3 ≤ s.progress → k ≤ c.got i (sender s.at) → y.since ≡ true) s.nodes n _ (t.since a n) (λ i ne. t.since a i);
  }

  op_prompts : (n : ℕ) → s.by ≢ None → (i : ℕ) → 3 ≤ s.progress → k ≤ c.snap i (sender s.at) → Prompt (put s.nodes n (node_behind s n) i).mode
  op_prompts n a = each_put (λ i y. 3 ≤ s.progress → k ≤ c.snap i (sender s.at) → Prompt y.mode) s.nodes n (node_behind s n) (λ b d. prompt_mode s.master s.progress (s.nodes n).frame (s.nodes n).twin (s.nodes n).mode (t.prompt a n b d)) (λ i ne. t.prompt a i)

  op_sinces : (n : ℕ) → s.by ≢ None → (i : ℕ) → 3 ≤ s.progress → k ≤ gots_behind s c n i (sender s.at) → (put s.nodes n (node_behind s n) i).since ≡ true
  op_sinces n a i b d = go (cases_eq i n)
    where
      go : (i ≡ n) ⊎ (i ≢ n) → (put s.nodes n (node_behind s n) i).since ≡ true
      go (inl e) = rw (eq-eqb i n e) (got_op k (c.snap n (sender s.at)) (c.got n (sender s.at)) (s.nodes n).since (s.nodes n).mode (t.since a n b) (t.prompt a n b) (rw (eq-eqb i n e) at d))
      go (inr ne) = rw (ne_eqb i n ne) (t.since a i b (rw (ne_eqb i n ne) at d))

  op_got_le : (n : ℕ) (i m : ℕ) → put c.got n (λ j. op_got (c.snap n j) (c.got n j) (s.nodes n).mode) i m ≤ sents_behind s c n m
  op_got_le n = each_put (λ i f. (m : ℕ) → f m ≤ sents_behind s c n m) c.got n _ (λ m. at_n m (cases_eq m (suc n))) (λ i ne. put_above (c.got i) c.sent (suc n) _ (t.got_le i) (sent_rises (c.sent (suc n)) (s.nodes n).mode))
    where
      at_n : (m : ℕ) → (m ≡ suc n) ⊎ (m ≢ suc n) → op_got (c.snap n m) (c.got n m) (s.nodes n).mode ≤ sents_behind s c n m
      at_n m (inl e) = rw (eq-eqb m (suc n) e) (subst (λ j. op_got (c.snap n j) (c.got n j) (s.nodes n).mode ≤ sent_behind s c n) (sym e) (got_below (c.snap n (suc n)) (c.got n (suc n)) (c.sent (suc n)) (s.nodes n).mode (t.snap_le n (suc n)) (t.got_le n (suc n))))
      at_n m (inr ne) = rw (ne_eqb m (suc n) ne) (got_stays (c.snap n m) (c.got n m) (c.sent m) (s.nodes n).mode (t.snap_le n m) (t.got_le n m))

  op_tally : (n : ℕ) → (j : ℕ) × Tally (after_event place s (Op n)) (count s (Op n) c) j
  op_tally n = go (is_at s.at n) refl
    where
      kept : Kept (past s n) (s.nodes n).frame (s.nodes n).twin (s.nodes n).fresh (s.nodes n).since (s.nodes n).mode
      kept = op_kept (past s n) (record { most = h.sound.most; settled = h.sound.settled; broken = h.sound.broken }) (s.nodes n).frame (s.nodes n).twin (s.nodes n).fresh (s.nodes n).since (s.nodes n).mode (h.each n)

      tallied : (j : ℕ) → Covers (progress_behind s n) (sents_behind s c n (sender s.at)) (tolds_behind s c n (sender s.at)) (breaks_behind s c n (sender s.at)) j (broken_behind s n) → IsOldOrNew k j (c.sent (sender s.at)) s.progress (progress_behind s n) → Tally (after_event place s (Op n)) (count s (Op n) c) j
      tallied j z old = record {
        covers = z;
        told_le = put_le c.told c.sent (suc n) _ _ t.told_le (told_op (c.sent (suc n)) (c.told (suc n)) (s.nodes n).mode (t.told_le (suc n)));
        snap_le = λ i. put_above (c.snap i) c.sent (suc n) _ (t.snap_le i) (sent_rises (c.sent (suc n)) (s.nodes n).mode);
        got_le = op_got_le n;
        knows = λ q e. let a = t.knows q e in let b = h.told_is q e in knows q a b old;
        prompt = λ a i b d. prompts a i b d old;
        since = λ a i b d. sinces a i b d old;
      }
        where
          knows : (q : ℕ) → k ≤ c.known q (sender s.at) → 4 ≤ s.progress → IsOldOrNew k j (c.sent (sender s.at)) s.progress (progress_behind s n) → j ≤ c.known q (sender s.at)
          knows q a b (inl o) = subst (λ i. i ≤ c.known q (sender s.at)) (sym o.0) a
          knows q a b (inr o) = absurd (let r = o.1 in omega (arith, b, r))

          prompts : s.by ≢ None → (i : ℕ) → 3 ≤ progress_behind s n → j ≤ c.snap i (sender s.at) → IsOldOrNew k j (c.sent (sender s.at)) s.progress (progress_behind s n) → Prompt (put s.nodes n (node_behind s n) i).mode
          prompts a i b d (inl o) = op_prompts n a i (o.1 b) (subst (λ y. y ≤ c.snap i (sender s.at)) o.0 d)
          prompts a i b d (inr o) = absurd (let r = t.snap_le i (sender s.at) in let q = o.0 in omega (arith, d, r, q))

          sinces : s.by ≢ None → (i : ℕ) → 3 ≤ progress_behind s n → j ≤ gots_behind s c n i (sender s.at) → IsOldOrNew k j (c.sent (sender s.at)) s.progress (progress_behind s n) → (put s.nodes n (node_behind s n) i).since ≡ true
          sinces a i b d (inl o) = op_sinces n a i (o.1 b) (subst (λ y. y ≤ gots_behind s c n i (sender s.at)) o.0 d)
          sinces a i b d (inr o) = absurd (let r : gots_behind s c n i (sender s.at) ≤ c.sent (sender s.at) = each_put (λ x f. f (sender s.at) ≤ c.sent (sender s.at)) c.got n (λ m. op_got (c.snap n m) (c.got n m) (s.nodes n).mode) (got_stays (c.snap n (sender s.at)) (c.got n (sender s.at)) (c.sent (sender s.at)) (s.nodes n).mode (t.snap_le n (sender s.at)) (t.got_le n (sender s.at))) (λ x ne. t.got_le x (sender s.at)) i in let q = o.0 in omega (arith, d, r, q))

      go : (b : Bool) → is_at s.at n ≡ b → (j : ℕ) × Tally (after_event place s (Op n)) (count s (Op n) c) j
      go true e =
          let here : sender s.at ≡ suc n = ap sender (at_is s.at n e) in
          let z = own_op (is_at s.at n) s.progress (s.nodes n).twin (c.sent (suc n)) (c.told (suc n)) (c.broken (suc n)) k s.broken e h.sound.broken (t.told_le (suc n)) (s.nodes n).mode (subst (λ j. Covers s.progress (c.sent j) (c.told j) (c.broken j) k s.broken) here t.covers) in
          let cov : Covers (progress_behind s n) (sents_behind s c n (suc n)) (tolds_behind s c n (suc n)) (breaks_behind s c n (suc n)) (cover_behind s c n k) (broken_behind s n) = rw (eq-eqb (suc n) (suc n) refl) z.0 in (
            cover_behind s c n k,
            tallied _ (subst (λ j. Covers (progress_behind s n) (sents_behind s c n j) (tolds_behind s c n j) (breaks_behind s c n j) (cover_behind s c n k) (broken_behind s n)) (sym here) cov)
                (subst (λ j. ((cover_behind s c n k ≡ k) × (3 ≤ progress_behind s n → 3 ≤ s.progress)) ⊎ ((c.sent j < cover_behind s c n k) × (s.progress < 3))) (sym here) z.1),
          )
      go false e = (k, other kept.others)
        where
          away : sender s.at ≢ suc n
          away f = let z = sender_is s.at n f in absurd (cc (z, e))

          other : (is_at s.at n ≡ true) ⊎ ((progress_behind s n ≡ s.progress) × (master_behind s n ≡ s.master) × (broken_behind s n ≡ s.broken)) → Tally (after_event place s (Op n)) (count s (Op n) c) k
          other (inl f) = absurd (cc (f, e))
          other (inr f) = tallied k (rw (ne_eqb (sender s.at) (suc n) away) (rw (f.0, f.2) t.covers)) (inl (refl, λ b. subst (λ y. 3 ≤ y) f.0 b))

  -- the same for a send of the home
  abbrev IsHomeOldOrNew : (j prog : ℕ) → Type 0
  IsHomeOldOrNew j prog = ((j ≡ k) × (3 ≤ prog → 3 ≤ s.progress)) ⊎ ((s.at ≡ None) × (c.sent 0 < j) × (s.progress < 3))

  -- counters of the home
  home_tally : (prog : ℕ) (was sole : Bool) (sent told broken j : ℕ) → c.sent 0 ≤ sent → told ≤ sent → (s.at ≡ None → Covers prog sent told broken j was) → ((n : ℕ) → s.at ≡ Some n → (prog ≡ s.progress) × (was ≡ s.broken) × (j ≡ k)) → IsHomeOldOrNew j prog → Tally (record s { progress = prog; broken = was; home_exclusive = sole }) (record c { sent = put c.sent 0 sent; told = put c.told 0 told; broken = put c.broken 0 broken }) j
  home_tally prog was sole sent told broken j up le home far old = record {
    covers = covers s.at refl;
    told_le = put_le c.told c.sent 0 told sent t.told_le le;
    snap_le = λ i. put_above (c.snap i) c.sent 0 sent (t.snap_le i) up;
    got_le = λ i. put_above (c.got i) c.sent 0 sent (t.got_le i) up;
    knows = λ q e. knows (t.knows q e) (h.told_is q e) old;
    prompt = λ a i b d. prompts a i b d old;
    since = λ a i b d. sinces a i b d old;
  }
    where
      covers : (x : Option ℕ) → s.at ≡ x → Covers prog (put c.sent 0 sent (sender s.at)) (put c.told 0 told (sender s.at)) (put c.broken 0 broken (sender s.at)) j was
      covers None e = subst (λ i. Covers prog (put c.sent 0 sent i) (put c.told 0 told i) (put c.broken 0 broken i) j was) (sym (ap sender e)) (home e)
      covers (Some n) e =
          let f = far n e in
          let away : sender s.at ≢ 0 = λ g. let z : suc n ≡ 0 = sym (ap sender e) ∙ g in absurd (omega (arith, z)) in
          rw (ne_eqb (sender s.at) 0 away) (rw (f.0, f.1, f.2) t.covers)

      knows : {q : ℕ} → k ≤ c.known q (sender s.at) → 4 ≤ s.progress → IsHomeOldOrNew j prog → j ≤ c.known q (sender s.at)
      knows {q} a b (inl o) = subst (λ i. i ≤ c.known q (sender s.at)) (sym o.0) a
      knows a b (inr o) = absurd (let r = o.2 in omega (arith, b, r))

      prompts : s.by ≢ None → (i : ℕ) → 3 ≤ prog → j ≤ c.snap i (sender s.at) → IsHomeOldOrNew j prog → Prompt (s.nodes i).mode
      prompts a i b d (inl o) = t.prompt a i (o.1 b) (subst (λ y. y ≤ c.snap i (sender s.at)) o.0 d)
      prompts a i b d (inr o) = absurd (let z : j ≤ c.snap i 0 = subst (λ x. j ≤ c.snap i (sender x)) o.0 d in let r = t.snap_le i 0 in let q = o.1 in omega (arith, z, r, q))

      sinces : s.by ≢ None → (i : ℕ) → 3 ≤ prog → j ≤ c.got i (sender s.at) → IsHomeOldOrNew j prog → (s.nodes i).since ≡ true
      sinces a i b d (inl o) = t.since a i (o.1 b) (subst (λ y. y ≤ c.got i (sender s.at)) o.0 d)
      sinces a i b d (inr o) = absurd (let z : j ≤ c.got i 0 = subst (λ x. j ≤ c.got i (sender x)) o.0 d in let r = t.got_le i 0 in let q = o.1 in omega (arith, z, r, q))

  home_sent_tally : (j : ℕ) × Tally (after_event place s Home_sent) (count s Home_sent c) j
  home_sent_tally = go s.at refl
    where
      go : (x : Option ℕ) → s.at ≡ x → (j : ℕ) × Tally (record s { progress = home_next x covered s.progress }) (count s Home_sent c) j
      go None e = (home_cover s.progress (c.sent 0) k, home_tally (if s.progress == covered then ended else s.progress) s.broken s.home_exclusive (suc (c.sent 0)) (c.told 0) (c.broken 0) _ (omega arith) (let z = t.told_le 0 in omega (arith, z)) (λ f. home_sent_covers s.progress (c.sent 0) (c.told 0) (c.broken 0) k s.broken h.sound.broken (subst (λ i. Covers s.progress (c.sent i) (c.told i) (c.broken i) k s.broken) (ap sender e) t.covers)) (λ n f. absurd (cc (e, f))) (none_old (s.at ≡ None) e (home_sent_old s.progress (c.sent 0) k)))
      go (Some n) e = (k, home_tally s.progress s.broken s.home_exclusive (suc (c.sent 0)) (c.told 0) (c.broken 0) k (omega arith) (let z = t.told_le 0 in omega (arith, z)) (λ f. absurd (cc (e, f))) (λ m f. (refl, refl, refl)) (inl (refl, λ a. a)))

  home_told_tally : (j : ℕ) × Tally (after_event place s Home_told) (count s Home_told c) j
  home_told_tally = go s.at refl
    where
      go : (x : Option ℕ) → s.at ≡ x → (j : ℕ) × Tally (record s { progress = home_next x ended s.progress }) (count s Home_told c) j
      go None e = (k, home_tally (if s.progress == ended then told else s.progress) s.broken s.home_exclusive (c.sent 0) (c.sent 0) (c.broken 0) k (omega arith) (omega arith) (λ f. home_told_covers s.progress (c.sent 0) (c.told 0) (c.broken 0) k s.broken (t.told_le 0) (subst (λ i. Covers s.progress (c.sent i) (c.told i) (c.broken i) k s.broken) (ap sender e) t.covers)) (λ n f. absurd (cc (e, f))) (inl (refl, told_old s.progress)))
      go (Some n) e = (k, home_tally s.progress s.broken s.home_exclusive (c.sent 0) (c.sent 0) (c.broken 0) k (omega arith) (omega arith) (λ f. absurd (cc (e, f))) (λ m f. (refl, refl, refl)) (inl (refl, λ a. a)))

  home_break_tally : (j : ℕ) × Tally (after_event place s Home_break) (count s Home_break c) j
  home_break_tally = go s.at refl
    where
      go : (x : Option ℕ) → s.at ≡ x → (j : ℕ) × Tally (record s { home_exclusive = false; broken = s.broken || (is_home x && (s.progress == covered)); progress = home_broken x s.progress }) (count s Home_break c) j
      go None e = (home_cover s.progress (c.sent 0) k, home_tally (if s.progress == covered then told else s.progress) (s.broken || (s.progress == covered)) false (suc (c.sent 0)) (suc (c.sent 0)) (suc (c.sent 0)) _ (omega arith) (omega arith) (λ f. home_broken_covers s.progress (c.sent 0) (c.told 0) (c.broken 0) k s.broken (t.told_le 0) h.sound.broken (subst (λ i. Covers s.progress (c.sent i) (c.told i) (c.broken i) k s.broken) (ap sender e) t.covers)) (λ n f. absurd (cc (e, f))) (none_old (s.at ≡ None) e (home_broken_old s.progress (c.sent 0) k)))
      go (Some n) e = (k, home_tally s.progress (s.broken || false) false (suc (c.sent 0)) (suc (c.sent 0)) (suc (c.sent 0)) k (omega arith) (omega arith) (λ f. absurd (cc (e, f))) (λ m f. (refl, or_same s.broken, refl)) (inl (refl, λ a. a)))

  pub tally_keeps : (e : Event) → May place s e → (j : ℕ) × Tally (after_event place s e) (count s e c) j
  tally_keeps (Load p v) may = (k, t)
  tally_keeps (Store p v) may = (k, store_tally p v (place p))
  tally_keeps (Signal p) may = (k, record { covers = record { is_sent = t.covers.is_sent; is_told = t.covers.is_told; is_broken = t.covers.is_broken }; told_le = t.told_le; snap_le = t.snap_le; got_le = t.got_le; knows = t.knows; prompt = t.prompt; since = t.since })
  tally_keeps (Pass q) may = (k, pass_tally q)
  tally_keeps (Begin n kind) may = (k, begin_tally n kind)
  tally_keeps (Op n) may = op_tally n
  tally_keeps (Drop n) may = (k, down_tally n)
  tally_keeps Home_sent may = home_sent_tally
  tally_keeps Home_told may = home_told_tally
  tally_keeps (Enter n) may = (k, enter_tally n)
  tally_keeps Home_enter may = (k, record { covers = record { is_sent = t.covers.is_sent; is_told = t.covers.is_told; is_broken = t.covers.is_broken }; told_le = t.told_le; snap_le = t.snap_le; got_le = t.got_le; knows = t.knows; prompt = t.prompt; since = t.since })
  tally_keeps Home_break may = home_break_tally

pub record Counted (place : ℕ → Option ℕ) (s : State) (c : Count) : Type 0 where
  pub holds : Holds place s
  pub k : ℕ
  pub tally : Tally s c k

pub begins_by : (place : ℕ → Option ℕ) (init : ℕ) (frames twins : ℕ → ℕ) → Counted place (start init frames twins) no_count
begins_by place init frames twins = record {
  holds = begins place init frames twins;
  k = 0;
  tally = record {
    covers = record { is_sent = λ a. omega arith; is_told = λ a. omega arith; is_broken = λ a. absurd (cc a) };
    told_le = λ m. omega arith;
    snap_le = λ n m. omega arith;
    got_le = λ n m. omega arith;
    knows = λ q e. omega arith;
    prompt = λ a. absurd (a refl);
    since = λ a. absurd (a refl);
  };
}
