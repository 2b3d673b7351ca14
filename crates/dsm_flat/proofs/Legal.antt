-- A log in which each synchronisation entry was allowed when it was made.
use Rattle.std.proofs.Common.{◌≡◌, ℕ, ◌+◌, ◌*◌, ◌/◌, ◌<◌, ◌≤◌, ◌⊎◌, Bool, true, false, [], ◌∷◌, Option, Some, None, length, refl, sym, ap, ◌∙◌, subst, inl, inr, arith, if◌then◌else◌, ◌==◌}
use Rattle.std.specs.Prelude.{slice_get}
use Rattle.std.proofs.lemmas.Bool.{cases_lt, eq-eqb, eqb-true}
use Rattle.std.proofs.lemmas.Option.{some_pair_parts}
use Rattle.dsm_entry.specs.declared.entry.Obj.{Obj}
use Rattle.dsm_entry.specs.declared.entry.Obj.TheVariants.{Lock, Barrier, Flag, Close}
use Rattle.dsm_entry.specs.declared.entry.Entry.{Entry}
use Rattle.dsm_entry.specs.declared.entry.Entry.TheVariants.{Load, Store, Signal, Pass, Out}
use Rattle.dsm_entry.specs.declared.entry.Place.{Place}
use Rattle.dsm_flat.specs.Order.{Traces, Holds, Waits, Next, Sync}
use Rattle.dsm_flat.specs.Sync.{IsNumbered, OfLock, IsLock, IsBarrier, SyncLegal}
use Rattle.dsm_flat.specs.Laws.{Raises}
use Rattle.dsm_flat.proofs.OrderLaws.{rank_excludes}
use Rattle.dsm_flat.proofs.Objects.{same_obj, same_true, same_obj-self}
use Rattle.dsm_flat.proofs.History.{Deed, Log, mine, Was, IsHistory, IsNew, new_or_old, still, newest, new_is, was_below, new_place, rank, rank_new, rank_old, rank_below, rank_own}

-- the number of signals of o, where there were n before this entry
abbrev pub counted : Obj → Entry → ℕ → ℕ
counted o (Signal o' j) n = if same_obj o' o then n + 1 else n
counted o _ n = n

-- how many signals of o there are
abbrev pub signals : Obj → Log → ℕ
signals o [] = 0
signals o (d ∷ log) = counted o d.e (signals o log)

-- who has lock l after an entry of p, with the count of the pass, where h had it before
abbrev pub held_by : ℕ → ℕ → Entry → Option (ℕ × ℕ) → Option (ℕ × ℕ)
held_by l p (Pass (Lock l') c) h = if l' == l then Some (p, c) else h
held_by l p (Signal (Lock l') k) h = if l' == l then None else h
held_by l p _ h = h

-- who has lock l, with the count of the pass
abbrev pub holder : ℕ → Log → Option (ℕ × ℕ)
holder l [] = None
holder l (d ∷ log) = held_by l d.p d.e (holder l log)

-- the last that p did is its arrival at o, and all of that round have arrived: p may pass with count c
pub record Leaves (P : ℕ) (log : Log) (p : ℕ) (o : Obj) (c : ℕ) : Type 0 where
  pub i : ℕ
  pub a : ℕ
  pub last : length (mine p log) ≡ i + 1
  pub arrival : slice_get (mine p log) i ≡ Some (Signal o a)
  pub need : c ≡ (a / P + 1) * P
  pub all : c ≤ signals o log

-- the entry that p may append to the log
abbrev pub Allowed : ℕ → Log → ℕ → Entry → Type 0
Allowed P log p (Pass (Lock l) c) = (holder l log ≡ None) × (c ≡ signals (Lock l) log)
Allowed P log p (Pass (Flag f) c) = c ≤ signals (Flag f) log
Allowed P log p (Pass (Barrier b) c) = Leaves P log p (Barrier b) c
Allowed P log p (Pass Close c) = Leaves P log p Close c
Allowed P log p (Signal (Lock l) k) = holder l log ≡ Some (p, k)
Allowed P log p (Signal (Barrier b) j) = j ≡ signals (Barrier b) log
Allowed P log p (Signal (Flag f) j) = j ≡ signals (Flag f) log
Allowed P log p (Signal Close j) = j ≡ signals Close log
Allowed P log p (Load w v) = Unit {0}
Allowed P log p (Store w v) = Unit {0}
Allowed P log p (Out v) = Unit {0}

-- each entry was allowed when it was made
abbrev pub Legal : ℕ → Log → Type 0
Legal P [] = Unit {0}
Legal P (d ∷ log) = Allowed P log d.p d.e × Legal P log

-- what an entry does to a count
pub counted_cases : (o : Obj) (e : Entry) (n : ℕ) → (counted o e n ≡ n) ⊎ ((j : ℕ) × (e ≡ Signal o j) × (counted o e n ≡ n + 1))
counted_cases o (Signal o' j) n = go (same_obj o' o) refl
  where
    go : (b : Bool) → same_obj o' o ≡ b → ((if same_obj o' o then n + 1 else n) ≡ n) ⊎ ((k : ℕ) × (Signal o' j ≡ Signal o k) × ((if same_obj o' o then n + 1 else n) ≡ n + 1))
    go true f = inr (j, ap (λ x. Signal x j) (same_true o' o f), ap (λ x. if x then n + 1 else n) f)
    go false f = inl (ap (λ x. if x then n + 1 else n) f)
counted_cases o e n = inl refl

pub counted_signal : (o : Obj) (j n : ℕ) → counted o (Signal o j) n ≡ n + 1
counted_signal o j n = ap (λ x. if x then n + 1 else n) (same_obj-self o)

pub counted_more : (o : Obj) (e : Entry) (n : ℕ) → n ≤ counted o e n
counted_more o e n = go (counted_cases o e n)
  where
    go : (counted o e n ≡ n) ⊎ ((j : ℕ) × (e ≡ Signal o j) × (counted o e n ≡ n + 1)) → n ≤ counted o e n
    go (inl f) = omega (arith, f)
    go (inr f) = omega (arith, f.2)

-- what an entry does to a lock
pub data Turned (l p : ℕ) (e : Entry) (h new : Option (ℕ × ℕ)) : Type 0 where
  Other : (OfLock l e → ⊥) → new ≡ h → Turned l p e h new
  Taken : (c : ℕ) → e ≡ Pass (Lock l) c → new ≡ Some (p, c) → Turned l p e h new
  Given : (k : ℕ) → e ≡ Signal (Lock l) k → new ≡ None → Turned l p e h new

not_lock : (l : ℕ) (e : Entry) → ((k : ℕ) → e ≡ Pass (Lock l) k → ⊥) → ((k : ℕ) → e ≡ Signal (Lock l) k → ⊥) → OfLock l e → ⊥
not_lock l e f g (k, inl h) = f k h
not_lock l e f g (k, inr h) = g k h

pub turned : (l p : ℕ) (e : Entry) (h : Option (ℕ × ℕ)) → Turned l p e h (held_by l p e h)
turned l p (Pass (Lock l') c) h = go (l' == l) refl
  where
    go : (b : Bool) → (l' == l) ≡ b → Turned l p (Pass (Lock l') c) h (if l' == l then Some (p, c) else h)
    go true f = Taken c (ap (λ x. Pass (Lock x) c) (eqb-true l' l f)) (ap (λ x. if x then Some (p, c) else h) f)
    go false f =
        Other
        (not_lock l (Pass (Lock l') c)
        (λ k g. let q : l' ≡ l = cc g in let r = eq-eqb l' l q in absurd (cc (f, r)))
        (λ k g. absurd (cc g)))
        (ap (λ x. if x then Some (p, c) else h) f)
turned l p (Signal (Lock l') k) h = go (l' == l) refl
  where
    go : (b : Bool) → (l' == l) ≡ b → Turned l p (Signal (Lock l') k) h (if l' == l then None else h)
    go true f = Given k (ap (λ x. Signal (Lock x) k) (eqb-true l' l f)) (ap (λ x. if x then None else h) f)
    go false f =
        Other
        (not_lock l (Signal (Lock l') k)
        (λ k' g. absurd (cc g))
        (λ k' g. let q : l' ≡ l = cc g in let r = eq-eqb l' l q in absurd (cc (f, r))))
        (ap (λ x. if x then None else h) f)
turned l p e h = Other (not_lock l e (λ k g. absurd (cc g)) (λ k g. absurd (cc g))) refl

-- the holder's count is the number of signals so far
pub holder_number : (P : ℕ) (l : ℕ) (log : Log) (q k : ℕ) → Legal P log → holder l log ≡ Some (q, k) → k ≡ signals (Lock l) log
holder_number P l [] q k legal h = absurd (cc h)
holder_number P l (d ∷ log) q k legal h = go d.e legal.0 (turned l d.p d.e (holder l log)) h (λ g. holder_number P l log q k legal.1 g)
  where
    go : (e : Entry) → Allowed P log d.p e → Turned l d.p e (holder l log) (held_by l d.p e (holder l log)) → held_by l d.p e (holder l log) ≡ Some (q, k) → (holder l log ≡ Some (q, k) → k ≡ signals (Lock l) log) → k ≡ counted (Lock l) e (signals (Lock l) log)
    go e a (Other apart same) h ih =
        let i = ih (sym same ∙ h) in
        done (counted_cases (Lock l) e (signals (Lock l) log))
      where
        done : (counted (Lock l) e (signals (Lock l) log) ≡ signals (Lock l) log) ⊎ ((j : ℕ) × (e ≡ Signal (Lock l) j) × (counted (Lock l) e (signals (Lock l) log) ≡ signals (Lock l) log + 1)) → k ≡ counted (Lock l) e (signals (Lock l) log)
        done (inl f) = ih (sym same ∙ h) ∙ sym f
        done (inr f) = absurd (apart (f.0, inr f.1))
    go e a (Taken c is new) h ih =
        let b : Allowed P log d.p (Pass (Lock l) c) = subst (λ x. Allowed P log d.p x) is a in
        let g = (some_pair_parts d.p q c k (sym new ∙ h)).1 in
        sym g ∙ (b.1 ∙ sym (ap (λ x. counted (Lock l) x (signals (Lock l) log)) is))
    go e a (Given j is new) h ih = absurd (let f = sym new ∙ h in cc f)

-- a signal's number is the number of signals so far
pub signal_number : (P : ℕ) (log : Log) (p : ℕ) (o : Obj) (j : ℕ) → Legal P log → Allowed P log p (Signal o j) → j ≡ signals o log
signal_number P log p (Lock l) j legal a = holder_number P l log p j legal a
signal_number P log p (Barrier b) j legal a = a
signal_number P log p (Flag f) j legal a = a
signal_number P log p Close j legal a = a

-- what an entry waits for was there
pub wait_number : (P : ℕ) (log : Log) (p : ℕ) (e : Entry) (o : Obj) (n : ℕ) → Allowed P log p e → Waits e o n → n ≤ signals o log
wait_number P log p (Pass q c) o n a w = subst (λ z. n ≤ signals z log) (sym w.0) (omega (arith, w.1, pass_number q a))
  where
    pass_number : (r : Obj) → Allowed P log p (Pass r c) → c ≤ signals r log
    pass_number (Lock l) a = omega (arith, a.1)
    pass_number (Barrier b) a = a.all
    pass_number (Flag f) a = a
    pass_number Close a = a.all
wait_number P log p e o n a w = absurd w

module _ (P : ℕ) where
  -- a new entry was allowed
  pub allowed_at : (d : Deed) (log : Log) (x : Place) (e : Entry) → Legal P (d ∷ log) → IsNew d log x e → Allowed P log d.p e
  allowed_at d log x e legal n = subst (λ y. Allowed P log d.p y) (sym n.is) legal.0

  -- what an entry waits for was there, and still is
  pub pass_bound : (log : Log) (e : Entry) (o : Obj) (n : ℕ) (x : Place) → Legal P log → Was log x e → Waits e o n → n ≤ signals o log
  pass_bound [] e o n x legal h w = absurd (cc h)
  pass_bound (d ∷ log) e o n x legal h w = go (new_or_old d log x e h) (λ g. pass_bound log e o n x legal.1 g w)
    where
      go : Was log x e ⊎ IsNew d log x e → (Was log x e → n ≤ signals o log) → n ≤ counted o d.e (signals o log)
      go (inl a) ih = omega (arith, ih a, counted_more o d.e (signals o log))
      go (inr a) ih = omega (arith, wait_number P log d.p e o n (allowed_at d log x e legal a) w, counted_more o d.e (signals o log))

  -- a signal's number is below the number of signals
  pub signal_below : (log : Log) (o : Obj) (x : Place) (j : ℕ) → Legal P log → Was log x (Signal o j) → j < signals o log
  signal_below [] o x j legal h = absurd (cc h)
  signal_below (d ∷ log) o x j legal h = go (new_or_old d log x (Signal o j) h) (λ g. signal_below log o x j legal.1 g)
    where
      go : Was log x (Signal o j) ⊎ IsNew d log x (Signal o j) → (Was log x (Signal o j) → j < signals o log) → j < counted o d.e (signals o log)
      go (inl a) ih = omega (arith, ih a, counted_more o d.e (signals o log))
      go (inr a) ih =
          let n = signal_number P log d.p o j legal.1 (allowed_at d log x (Signal o j) legal a) in
          let c : counted o d.e (signals o log) ≡ signals o log + 1 = ap (λ y. counted o y (signals o log)) (sym a.is) ∙ counted_signal o j (signals o log) in
          omega (arith, n, c)

  -- each number below the number of signals is there
  pub signal_each : (log : Log) (o : Obj) (j : ℕ) → Legal P log → j < signals o log → (x : Place) × Was log x (Signal o j)
  signal_each [] o j legal lt = absurd (omega (arith, lt))
  signal_each (d ∷ log) o j legal lt = go (counted_cases o d.e (signals o log)) (λ g. signal_each log o j legal.1 g)
    where
      old : (j < signals o log → (x : Place) × Was log x (Signal o j)) → j < signals o log → (x : Place) × Was (d ∷ log) x (Signal o j)
      old ih l = let r = ih l in (r.0, still d log r.0 (Signal o j) r.1)

      go : (counted o d.e (signals o log) ≡ signals o log) ⊎ ((k : ℕ) × (d.e ≡ Signal o k) × (counted o d.e (signals o log) ≡ signals o log + 1)) → (j < signals o log → (x : Place) × Was log x (Signal o j)) → (x : Place) × Was (d ∷ log) x (Signal o j)
      go (inl f) ih = old ih (omega (arith, lt, f))
      go (inr f) ih = pick (cases_lt j (signals o log))
        where
          pick : (j < signals o log) ⊎ (signals o log ≤ j) → (x : Place) × Was (d ∷ log) x (Signal o j)
          pick (inl l) = old ih l
          pick (inr ge) =
              let n : f.0 ≡ signals o log = signal_number P log d.p o f.0 legal.1 (subst (λ y. Allowed P log d.p y) f.1 legal.0) in
              let e : f.0 ≡ j = omega (arith, n, ge, lt, f.2) in
              let g : d.e ≡ Signal o j = f.1 ∙ ap (λ k. Signal o k) e in
              (newest d log, new_is d log ∙ ap (λ y. Some y) g)

  -- no two signals of an object have one number
  pub signal_once : (log : Log) (o : Obj) (x y : Place) (j : ℕ) → Legal P log → Was log x (Signal o j) → Was log y (Signal o j) → x ≡ y
  signal_once [] o x y j legal h g = absurd (cc h)
  signal_once (d ∷ log) o x y j legal h g =
      go (new_or_old d log x (Signal o j) h) (new_or_old d log y (Signal o j) g) (λ a b. signal_once log o x y j legal.1 a b)
    where
      apart : (u v : Place) → Was log u (Signal o j) → IsNew d log v (Signal o j) → ⊥
      apart u v a b =
          let lt = signal_below log o u j legal.1 a in
          let n = signal_number P log d.p o j legal.1 (allowed_at d log v (Signal o j) legal b) in
          absurd (omega (arith, lt, n))

      go : Was log x (Signal o j) ⊎ IsNew d log x (Signal o j) → Was log y (Signal o j) ⊎ IsNew d log y (Signal o j) → (Was log x (Signal o j) → Was log y (Signal o j) → x ≡ y) → x ≡ y
      go (inl a) (inl b) ih = ih a b
      go (inl a) (inr b) ih = absurd (apart x y a b)
      go (inr a) (inl b) ih = absurd (apart y x b a)
      go (inr a) (inr b) ih = new_place d log x y (Signal o j) (Signal o j) a b

  -- a signal that an entry waits for was made earlier
  pub rank_sync : (log : Log) (o : Obj) (j n : ℕ) (e : Entry) (x y : Place) → Legal P log → Was log x (Signal o j) → Was log y e → Waits e o n → j < n → rank log x < rank log y
  rank_sync [] o j n e x y legal h g w lt = absurd (cc h)
  rank_sync (d ∷ log) o j n e x y legal h g w lt =
      go (new_or_old d log x (Signal o j) h) (new_or_old d log y e g) (λ a b. rank_sync log o j n e x y legal.1 a b w lt)
    where
      go : Was log x (Signal o j) ⊎ IsNew d log x (Signal o j) → Was log y e ⊎ IsNew d log y e → (Was log x (Signal o j) → Was log y e → rank log x < rank log y) → rank (d ∷ log) x < rank (d ∷ log) y
      go (inl a) (inl b) ih = omega (arith, rank_old d log x (Signal o j) a, rank_old d log y e b, ih a b)
      go (inl a) (inr b) ih = omega (arith, rank_old d log x (Signal o j) a, rank_new d log y e b, rank_below log x (Signal o j) a)
      go (inr a) (inl b) ih =
          let k = signal_number P log d.p o j legal.1 (allowed_at d log x (Signal o j) legal a) in
          let m = pass_bound log e o n y legal.1 b w in
          absurd (omega (arith, k, m, lt))
      go (inr a) (inr b) ih = absurd (let f : e ≡ Signal o j = b.is ∙ sym a.is in subst (λ z. Waits z o n) f w)

-- 1 while a lock is held, else 0
abbrev pub taken : Option (ℕ × ℕ) → ℕ
taken None = 0
taken (Some h) = 1

pub taken_one : (h : Option (ℕ × ℕ)) → taken h ≤ 1
taken_one None = omega arith
taken_one (Some h) = omega arith

module _ (P : ℕ) (l : ℕ) where
  -- signals, and one more while the lock is held: this never falls
  passed_more : (p : ℕ) (log : Log) (e : Entry) → signals (Lock l) log + taken (holder l log) ≤ counted (Lock l) e (signals (Lock l) log) + taken (held_by l p e (holder l log))
  passed_more p log e = go (turned l p e (holder l log))
    where
      go : Turned l p e (holder l log) (held_by l p e (holder l log)) → signals (Lock l) log + taken (holder l log) ≤ counted (Lock l) e (signals (Lock l) log) + taken (held_by l p e (holder l log))
      go (Other apart same) = omega (arith, counted_more (Lock l) e (signals (Lock l) log), ap taken same)
      go (Taken c is new) = omega (arith, counted_more (Lock l) e (signals (Lock l) log), ap taken new, taken_one (holder l log))
      go (Given k is new) =
          let c : counted (Lock l) e (signals (Lock l) log) ≡ signals (Lock l) log + 1 = ap (λ y. counted (Lock l) y (signals (Lock l) log)) is ∙ counted_signal (Lock l) k (signals (Lock l) log) in
          omega (arith, c, ap taken new, taken_one (holder l log))

  held_pass : (p c : ℕ) (h : Option (ℕ × ℕ)) → held_by l p (Pass (Lock l) c) h ≡ Some (p, c)
  held_pass p c h = ap (λ x. if x then Some (p, c) else h) (eq-eqb l l refl)

  -- the count of a pass is below the signals, and one more while the lock is held
  pub lock_below : (log : Log) (x : Place) (c : ℕ) → Legal P log → Was log x (Pass (Lock l) c) → c < signals (Lock l) log + taken (holder l log)
  lock_below [] x c legal h = absurd (cc h)
  lock_below (d ∷ log) x c legal h = go (new_or_old d log x (Pass (Lock l) c) h) (λ g. lock_below log x c legal.1 g)
    where
      go : Was log x (Pass (Lock l) c) ⊎ IsNew d log x (Pass (Lock l) c) → (Was log x (Pass (Lock l) c) → c < signals (Lock l) log + taken (holder l log)) → c < counted (Lock l) d.e (signals (Lock l) log) + taken (held_by l d.p d.e (holder l log))
      go (inl a) ih = omega (arith, ih a, passed_more d.p log d.e)
      go (inr a) ih =
          let b = allowed_at P d log x (Pass (Lock l) c) legal a in
          let n : held_by l d.p d.e (holder l log) ≡ Some (d.p, c) = ap (λ y. held_by l d.p y (holder l log)) (sym a.is) ∙ held_pass d.p c (holder l log) in
          omega (arith, b.1, counted_more (Lock l) d.e (signals (Lock l) log), ap taken n)

  -- no two passes of a lock have one count
  pub lock_different : (log : Log) (x y : Place) (c : ℕ) → Legal P log → Was log x (Pass (Lock l) c) → Was log y (Pass (Lock l) c) → x ≡ y
  lock_different [] x y c legal h g = absurd (cc h)
  lock_different (d ∷ log) x y c legal h g =
      go (new_or_old d log x (Pass (Lock l) c) h) (new_or_old d log y (Pass (Lock l) c) g) (λ a b. lock_different log x y c legal.1 a b)
    where
      apart : (u v : Place) → Was log u (Pass (Lock l) c) → IsNew d log v (Pass (Lock l) c) → ⊥
      apart u v a b =
          let lt = lock_below log u c legal.1 a in
          let n = allowed_at P d log v (Pass (Lock l) c) legal b in
          absurd (omega (arith, lt, n.1, ap taken n.0))

      go : Was log x (Pass (Lock l) c) ⊎ IsNew d log x (Pass (Lock l) c) → Was log y (Pass (Lock l) c) ⊎ IsNew d log y (Pass (Lock l) c) → (Was log x (Pass (Lock l) c) → Was log y (Pass (Lock l) c) → x ≡ y) → x ≡ y
      go (inl a) (inl b) ih = ih a b
      go (inl a) (inr b) ih = absurd (apart x y a b)
      go (inr a) (inl b) ih = absurd (apart y x b a)
      go (inr a) (inr b) ih = new_place d log x y (Pass (Lock l) c) (Pass (Lock l) c) a b

  -- the holder's pass, after which it has no entry of the lock
  pub record Open (log : Log) (p k : ℕ) : Type 0 where
    pub i : ℕ
    pub pass : slice_get (mine p log) i ≡ Some (Pass (Lock l) k)
    pub since : (j : ℕ) (e : Entry) → i < j → slice_get (mine p log) j ≡ Some e → OfLock l e → ⊥

  pub holder_open : (log : Log) (p k : ℕ) → holder l log ≡ Some (p, k) → Open log p k
  holder_open [] p k h = absurd (cc h)
  holder_open (d ∷ log) p k h = go (turned l d.p d.e (holder l log)) (λ g. holder_open log p k g)
    where
      go : Turned l d.p d.e (holder l log) (held_by l d.p d.e (holder l log)) → (holder l log ≡ Some (p, k) → Open log p k) → Open (d ∷ log) p k
      go (Other apart same) ih = kept (ih (sym same ∙ h))
        where
          kept : Open log p k → Open (d ∷ log) p k
          kept o =
              record {
                i = o.i;
                pass = still d log (record { p = p; i = o.i }) (Pass (Lock l) k) o.pass;
                since = λ j e lt at of. later j e lt of (new_or_old d log (record { p = p; i = j }) e at);
              }
            where
              later : (j : ℕ) (e : Entry) → o.i < j → OfLock l e → Was log (record { p = p; i = j }) e ⊎ IsNew d log (record { p = p; i = j }) e → ⊥
              later j e lt of (inl a) = o.since j e lt a of
              later j e lt of (inr n) = apart (subst (λ y. OfLock l y) n.is of)
      go (Taken c is new) ih =
          let f = some_pair_parts d.p p c k (sym new ∙ h) in
          let q = f.0 in
          let r = f.1 in
          let at : Was (d ∷ log) (newest d log) (Pass (Lock l) k) = new_is d log ∙ ap (λ y. Some y) (is ∙ ap (λ y. Pass (Lock l) y) r) in
          subst (λ z. Open (d ∷ log) z k) q
          (record {
            i = length (mine d.p log);
            pass = at;
            since = λ j e lt g of. past j e lt (new_or_old d log (record { p = d.p; i = j }) e g);
          })
        where
          past : (j : ℕ) (e : Entry) → length (mine d.p log) < j → Was log (record { p = d.p; i = j }) e ⊎ IsNew d log (record { p = d.p; i = j }) e → ⊥
          past j e lt (inl a) = let b = was_below log (record { p = d.p; i = j }) e a in absurd (omega (arith, lt, b))
          past j e lt (inr n) = absurd (omega (arith, lt, n.at))
      go (Given j is new) ih = absurd (let f = sym new ∙ h in cc f)

-- a signal of a lock stands after the own pass, with no entry of the lock between
pub record Owned (log : Log) (l k : ℕ) (x : Place) : Type 0 where
  pub i : ℕ
  pub earlier : i < x.i
  pub pass : Was log (record { p = x.p; i = i }) (Pass (Lock l) k)
  pub between : (j : ℕ) (e : Entry) → i < j → j < x.i → Was log (record { p = x.p; i = j }) e → OfLock l e → ⊥

pub lock_own : (P : ℕ) (l : ℕ) (log : Log) (x : Place) (k : ℕ) → Legal P log → Was log x (Signal (Lock l) k) → Owned log l k x
lock_own P l [] x k legal h = absurd (cc h)
lock_own P l (d ∷ log) x k legal h = go (new_or_old d log x (Signal (Lock l) k) h) (λ g. lock_own P l log x k legal.1 g)
  where
    -- an entry below the newest is an old one
    old : (j : ℕ) (e : Entry) → j < length (mine x.p log) → Was log (record { p = x.p; i = j }) e ⊎ IsNew d log (record { p = x.p; i = j }) e → Was log (record { p = x.p; i = j }) e
    old j e lt (inl a) = a
    old j e lt (inr n) = absurd (omega (arith, lt, n.at))

    kept : x.i ≤ length (mine x.p log) → Owned log l k x → Owned (d ∷ log) l k x
    kept le o =
        record {
          i = o.i;
          earlier = o.earlier;
          pass = still d log (record { p = x.p; i = o.i }) (Pass (Lock l) k) o.pass;
          between = λ j e lo hi at of. o.between j e lo hi (old j e (omega (arith, hi, le)) (new_or_old d log (record { p = x.p; i = j }) e at)) of;
        }

    go : Was log x (Signal (Lock l) k) ⊎ IsNew d log x (Signal (Lock l) k) → (Was log x (Signal (Lock l) k) → Owned log l k x) → Owned (d ∷ log) l k x
    go (inl a) ih = let b = was_below log x (Signal (Lock l) k) a in kept (omega (arith, b)) (ih a)
    go (inr n) ih =
        let held : holder l log ≡ Some (d.p, k) = allowed_at P d log x (Signal (Lock l) k) legal n in
        let o = holder_open P l log x.p k (held ∙ ap (λ q. Some (q, k)) n.own) in
        let low = was_below log (record { p = x.p; i = o.i }) (Pass (Lock l) k) o.pass in
        kept (omega (arith, n.at)) (record { i = o.i; earlier = omega (arith, low, n.at); pass = o.pass; between = λ j e lo hi at of. o.since j e lo at of })

-- a pass of a barrier stands directly after the own arrival
pub record Left (log : Log) (P : ℕ) (o : Obj) (x : Place) (c m : ℕ) : Type 0 where
  pub i : ℕ
  pub a : ℕ
  pub next : x.i ≡ i + 1
  pub arrival : Was log (record { p = x.p; i = i }) (Signal o a)
  pub need : c ≡ (a / P + 1) * P
  pub all : c ≤ m

-- an object whose passes are those of a barrier
abbrev pub IsRound : Obj → Type 0
IsRound (Lock l) = ⊥
IsRound (Barrier b) = Unit {0}
IsRound (Flag f) = ⊥
IsRound Close = Unit {0}

leaves : (P : ℕ) (log : Log) (p : ℕ) (o : Obj) (c : ℕ) → IsRound o → Allowed P log p (Pass o c) → Leaves P log p o c
leaves P log p (Lock l) c r a = absurd r
leaves P log p (Barrier b) c r a = a
leaves P log p (Flag f) c r a = absurd r
leaves P log p Close c r a = a

pub barrier_after : (P : ℕ) (log : Log) (o : Obj) (x : Place) (c : ℕ) → IsRound o → Legal P log → Was log x (Pass o c) → Left log P o x c (signals o log)
barrier_after P [] o x c r legal h = absurd (cc h)
barrier_after P (d ∷ log) o x c r legal h = go (new_or_old d log x (Pass o c) h) (λ g. barrier_after P log o x c r legal.1 g)
  where
    more : signals o log ≤ counted o d.e (signals o log)
    more = counted_more o d.e (signals o log)

    go : Was log x (Pass o c) ⊎ IsNew d log x (Pass o c) → (Was log x (Pass o c) → Left log P o x c (signals o log)) → Left (d ∷ log) P o x c (counted o d.e (signals o log))
    go (inl a) ih =
        let b = ih a in
        record { i = b.i; a = b.a; next = b.next; arrival = still d log (record { p = x.p; i = b.i }) (Signal o b.a) b.arrival; need = b.need; all = omega (arith, b.all, more) }
    go (inr n) ih =
        let b = leaves P log d.p o c r (allowed_at P d log x (Pass o c) legal n) in
        let s : Was log (record { p = x.p; i = b.i }) (Signal o b.a) = subst (λ q. slice_get (mine q log) b.i ≡ Some (Signal o b.a)) n.own b.arrival in
        let q : length (mine d.p log) ≡ length (mine x.p log) = ap (λ q. length (mine q log)) n.own in
        record {
          i = b.i;
          a = b.a;
          next = n.at ∙ (sym q ∙ b.last);
          arrival = still d log (record { p = x.p; i = b.i }) (Signal o b.a) s;
          need = b.need;
          all = omega (arith, b.all, more);
        }

-- the traces of a legal log are legal
module _ (P : ℕ) (log : Log) (ts : Traces) (history : IsHistory log ts) (legal : Legal P log) where
  -- from a place of the traces to the log
  fore : (x : Place) (e : Entry) → Holds ts x e → Was log x e
  fore x e h = (history x e).0 h

  -- from the log to a place of the traces
  back : (x : Place) (e : Entry) → Was log x e → Holds ts x e
  back x e h = (history x e).1 h

  -- every edge leads to a later deed
  pub rank_raises : Raises ts (rank log)
  rank_raises x y (Next e f h g p i) = rank_own log x y e f (fore x e h) (fore y f g) (sym p) (omega (arith, i))
  rank_raises x y (Sync o j n e h g w lt) = rank_sync P log o j n e x y legal (fore x _ h) (fore y e g) w lt

  numbered : (o : Obj) → IsNumbered ts o (signals o log)
  numbered o =
      record {
        below = λ x j h. signal_below P log o x j legal (fore x _ h);
        each = λ j lt. let r = signal_each P log o j legal lt in (r.0, back r.0 _ r.1);
        once = λ x y j h g. signal_once P log o x y j legal (fore x _ h) (fore y _ g);
      }

  lock : (l : ℕ) → IsLock ts l
  lock l =
      record {
        different = λ x y c h g. lock_different P l log x y c legal (fore x _ h) (fore y _ g);
        given = λ x c h.
            let b = pass_bound P log (Pass (Lock l) (c + 1)) (Lock l) (c + 1) x legal (fore x _ h) (refl, refl) in
            let r = signal_each P log (Lock l) c legal (omega (arith, b)) in
            (r.0, back r.0 _ r.1);
        own = λ x k h.
            let o = lock_own P l log x k legal (fore x _ h) in
            (o.i, o.earlier, back _ _ o.pass, λ j e lo hi at of. o.between j e lo hi (fore _ e at) of);
      }

  barrier : (o : Obj) → IsRound o → IsBarrier ts P o (signals o log)
  barrier o r =
      record {
        numbered = numbered o;
        after = λ x c h.
            let b = barrier_after P log o x c r legal (fore x _ h) in
            (b.i, b.a, b.next, back _ _ b.arrival, b.need, b.all);
      }

  -- all that is asked of synchronisation holds
  pub sync_legal : SyncLegal ts P
  sync_legal =
      record {
        no_circle = rank_excludes ts (rank log) rank_raises;
        locks = lock;
        barriers = λ b. (signals (Barrier b) log, barrier (Barrier b) tt);
        close = (signals Close log, barrier Close tt);
        flags = λ f. (signals (Flag f) log, record { numbered = numbered (Flag f); within = λ x c h. pass_bound P log (Pass (Flag f) c) (Flag f) c x legal (fore x _ h) (refl, refl) });
      }
