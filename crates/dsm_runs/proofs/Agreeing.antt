-- The words of the objects are what the log says.
use Rattle.std.proofs.Common.{◌≡◌, ◌≢◌, ℕ, ◌+◌, ◌*◌, ◌/◌, ◌%◌, ◌^◌, ◌<◌, ◌≤◌, ◌⊎◌, ◌==◌, List, ◌∷◌, Option, Some, None, length, refl, sym, ap, ◌∙◌, subst, inl, inr, arith, if◌then◌else◌}
use Rattle.std.specs.Prelude.{◌↔◌, slice_get, slice_index, slice_set, option_and_then}
use Rattle.std.proofs.Math.Nat.{mod-eq_of_lt, div-mul-le_self}
use Rattle.std.proofs.lemmas.Bool.{eq-eqb, ne_eqb}
use Rattle.dsm_entry.specs.declared.entry.Obj.{Obj}
use Rattle.dsm_entry.specs.declared.entry.Obj.TheVariants.{Lock, Barrier, Flag, Close}
use Rattle.dsm_entry.specs.declared.entry.Entry.{Entry}
use Rattle.dsm_entry.specs.declared.entry.Entry.TheVariants.{Load, Store, Signal, Pass, Out}
use Rattle.dsm_flat.proofs.Objects.{obj_cases}
use Rattle.dsm_flat.proofs.History.{Log, mine}
use Rattle.dsm_flat.proofs.Legal.{counted, signals, counted_cases, counted_signal, held_by, holder, taken, taken_one, Turned, Other, Taken, Given, turned, Leaves, Allowed, Legal, holder_number, signal_below}
use Rattle.dsm_words.specs.declared.item.Item.{Item}
use Rattle.dsm_words.specs.declared.item.Item.TheVariants.{Frame, Twin, Lock as LockWord, Barrier as BarrierWord, Flag as FlagWord}
use Rattle.dsm_words.specs.Place.{Lay, IsWithin, place, total, processors}
use Rattle.dsm_words.specs.Script.{Act, Get, Put, Swap, Change, Add, Or, item_of}
use Rattle.dsm_words.specs.Words.{word, done, reply, left_in, told}
use Rattle.dsm_words.proofs.WordLaws.{reply_is, word_same, word_other}
use Rattle.dsm_protocol.specs.Own.{Own, Who}
use Rattle.dsm_runs.specs.Clusters.{answer}
use Rattle.dsm_runs.proofs.Owing.{object_item, IsApart, Quiet, Arrived, IsCounter, Pays}

-- an object's word: a lock's is twice its signals, and one more while it is held; another's is its signals
abbrev pub level : Obj → Log → ℕ
level (Lock l) log = 2 * signals (Lock l) log + taken (holder l log)
level o log = signals o log

-- the word of each object of the layout says this
abbrev pub AgreeSync : Lay → List ℕ → Log → Type 0
AgreeSync l ws log = (o : Obj) → IsWithin l (object_item o) → word l ws (object_item o) ≡ level o log

-- the count of the open pass of lock l, of the passes of a reader
abbrev pub open_in : List (Option ℕ) → ℕ → Option ℕ
open_in passes l = option_and_then (λ k. k) (slice_get passes l)

-- the open passes are exactly those of the locks that processor p holds
abbrev pub AreHeld : ℕ → (ℕ → Option (ℕ × ℕ)) → List (Option ℕ) → Type 0
AreHeld p holds passes = (l k : ℕ) → (open_in passes l ≡ Some k) ↔ (holds l ≡ Some (p, k))

-- there are so few signals that no word comes round
abbrev pub AreFew : Log → Type 0
AreFew log = (o : Obj) → signals o log ≤ 32000000

-- a processor may append the entry, and the words then say so
pub record Effect (P p : ℕ) (l : Lay) (ws : List ℕ) (log : Log) (e : Entry) : Type 0 where
  pub allowed : Allowed P log p e
  pub agree : AgreeSync l ws (record { p = p; e = e } ∷ log)

-- an object's word where its signals and its holder are the same
level_same : (o : Obj) (log new : Log) → signals o new ≡ signals o log → ((l : ℕ) → holder l new ≡ holder l log) → level o new ≡ level o log
level_same (Lock l) log new s h = ap (λ x. 2 * x + taken (holder l new)) s ∙ ap (λ x. 2 * signals (Lock l) log + taken x) (h l)
level_same (Barrier b) log new s h = s
level_same (Flag f) log new s h = s
level_same Close log new s h = s

-- the entry is about this object
abbrev About : Obj → Entry → Type 0
About r (Signal o j) = o ≡ r
About r (Pass o c) = o ≡ r
About r _ = ⊥

about_pass : (r : Obj) (e : Entry) (o : Obj) (c : ℕ) → About r e → e ≡ Pass o c → o ≡ r
about_pass r e o c a is = let b : About r (Pass o c) = subst (λ x. About r x) is a in b

about_signal : (r : Obj) (e : Entry) (o : Obj) (j : ℕ) → About r e → e ≡ Signal o j → o ≡ r
about_signal r e o j a is = let b : About r (Signal o j) = subst (λ x. About r x) is a in b

-- an entry of one object leaves the words of the others
level_other : (r o : Obj) (p : ℕ) (e : Entry) (log : Log) → About r e → o ≢ r → level o (record { p = p; e = e } ∷ log) ≡ level o log
level_other r o p e log about ne = by_kind o ne same
  where
    same : counted o e (signals o log) ≡ signals o log
    same = go (counted_cases o e (signals o log))
      where
        go : (counted o e (signals o log) ≡ signals o log) ⊎ ((j : ℕ) × (e ≡ Signal o j) × (counted o e (signals o log) ≡ signals o log + 1)) → counted o e (signals o log) ≡ signals o log
        go (inl f) = f
        go (inr f) = absurd (ne (about_signal r e o f.0 about f.1))

    by_kind : (q : Obj) → q ≢ r → counted q e (signals q log) ≡ signals q log → level q (record { p = p; e = e } ∷ log) ≡ level q log
    by_kind (Barrier b) d s = s
    by_kind (Flag f) d s = s
    by_kind Close d s = s
    by_kind (Lock l) d s = go (turned l p e (holder l log))
      where
        go : Turned l p e (holder l log) (held_by l p e (holder l log)) → 2 * counted (Lock l) e (signals (Lock l) log) + taken (held_by l p e (holder l log)) ≡ 2 * signals (Lock l) log + taken (holder l log)
        go (Other free f) = omega (arith, s, ap taken f)
        go (Taken c is f) = absurd (d (about_pass r e (Lock l) c about is))
        go (Given k is f) = absurd (d (about_signal r e (Lock l) k about is))

-- nobody holds a lock whose word is even
nobody : (h : Option (ℕ × ℕ)) → taken h ≡ 0 → h ≡ None
nobody None e = refl
nobody (Some h) e = absurd (omega (arith, e))

-- the object of a word
abbrev object_at : Item → Obj
object_at (LockWord l) = Lock l
object_at (BarrierWord b) = Barrier b
object_at (FlagWord f) = Flag f
object_at _ = Close

object_again : (o : Obj) → object_at (object_item o) ≡ o
object_again (Lock l) = refl
object_again (Barrier b) = refl
object_again (Flag f) = refl
object_again Close = refl

-- different objects have different words
items_differ : (o r : Obj) → o ≢ r → object_item o ≢ object_item r
items_differ o r ne e = ne (sym (object_again o) ∙ (ap object_at e ∙ object_again r))

-- an item apart from all objects is not one of theirs
apart : (it : Item) (o : Obj) → IsApart it → object_item o ≢ it
apart it o h e = absurd (no_object o (subst IsApart (sym e) h))
  where
    no_object : (r : Obj) → IsApart (object_item r) → ⊥
    no_object (Lock l) h = h
    no_object (Barrier b) h = h
    no_object (Flag f) h = h
    no_object Close h = h

-- a load of a frame's or a twin's word
abbrev IsLoose : Act → Type 0
IsLoose (Get (Frame n g i)) = Unit {0}
IsLoose (Get (Twin n g i)) = Unit {0}
IsLoose _ = ⊥

-- the answer is that of the word, but for such a load
abbrev pub IsTold : Lay → List ℕ → Act → ℕ → Type 0
IsTold l ws a x = (IsLoose a → ⊥) → x ≡ told a (word l ws (item_of a))

pub answer_told : (l : Lay) (ws : List ℕ) (any : Option ℕ) (a : Act) → IsTold l ws a (answer any a (reply l ws a))
answer_told l ws any (Get (Frame n g i)) ne = absurd (ne tt)
answer_told l ws any (Get (Twin n g i)) ne = absurd (ne tt)
answer_told l ws any a ne = reply_is l ws a

object_told : (l : Lay) (ws : List ℕ) (it : Item) (r : Obj) (x : ℕ) → it ≡ object_item r → IsTold l ws (Get it) x → x ≡ word l ws (object_item r)
object_told l ws it r x is told = go r is (subst (λ i. IsTold l ws (Get i) x) is told)
  where
    go : (q : Obj) → it ≡ object_item q → IsTold l ws (Get (object_item q)) x → x ≡ word l ws (object_item q)
    go (Lock l) is t = t (λ h. h)
    go (Barrier b) is t = t (λ h. h)
    go (Flag f) is t = t (λ h. h)
    go Close is t = t (λ h. h)

module _ (u : Who) (ws : List ℕ) where
  done_get : (it : Item) → done u.lay ws (Get it) ≡ ws
  unfolding done
  done_get it = refl

  -- an exchange that is lost changes nothing
  done_lost : (it : Item) (old new : ℕ) → word u.lay ws it ≢ old → done u.lay ws (Change it old new) ≡ ws
  unfolding done word
  done_lost it old new ne = ap (λ b. if b then slice_set ws (place u.lay it) new else ws) (ne_eqb (slice_index ws (place u.lay it)) old ne)

  -- what is quiet leaves the words of all objects
  pub kept : (a : Act) (x : ℕ) → IsTold u.lay ws a x → Quiet u a x → (o : Obj) → IsWithin u.lay (object_item o) → word u.lay (done u.lay ws a) (object_item o) ≡ word u.lay ws (object_item o)
  kept (Get it) x told quiet o there = ap (λ z. word u.lay z (object_item o)) (done_get it)
  kept (Change it old new) x told (inl other) o there = word_other u.lay ws (Change it old new) (object_item o) other.0 there (apart it o other.1)
  kept (Change it old new) x told (inr lost) o there = ap (λ z. word u.lay z (object_item o)) (done_lost it old new (λ e. lost (told (λ h. h) ∙ e)))
  kept (Put it v) x told other o there = word_other u.lay ws (Put it v) (object_item o) other.0 there (apart it o other.1)
  kept (Swap it v) x told other o there = word_other u.lay ws (Swap it v) (object_item o) other.0 there (apart it o other.1)
  kept (Add it n) x told other o there = word_other u.lay ws (Add it n) (object_item o) other.0 there (apart it o other.1)
  kept (Or it bits) x told other o there = word_other u.lay ws (Or it bits) (object_item o) other.0 there (apart it o other.1)

-- a number of the rounds of few arrivals is no remainder
round_below : (P a : ℕ) → P ≤ 32 → a < 32000000 → (a / P + 1) * P % 2 ^ 64 ≡ (a / P + 1) * P
round_below P a all few =
    let d = div-mul-le_self a P in
    let more : (a / P + 1) * P ≡ a / P * P + P = grind arith in
    mod-eq_of_lt {n = (a / P + 1) * P} {m = 2 ^ 64} (omega (arith, d, more, all, few))

-- an operation with its answer, by processor u.p
module _ (u : Who) (ws : List ℕ) (log : Log) (legal : Legal (processors u.lay) log) (size : length ws ≡ total u.lay) (agree : AgreeSync u.lay ws log) (few : AreFew log) (all : processors u.lay ≤ 32) where
  -- an object's word changes with its entry
  moved_sync : (r : Obj) (a : Act) (e : Entry) → item_of a ≡ object_item r → IsWithin u.lay (object_item r) → About r e
      → left_in a (word u.lay ws (object_item r)) ≡ level r (record { p = u.p; e = e } ∷ log) → AgreeSync u.lay (done u.lay ws a) (record { p = u.p; e = e } ∷ log)
  moved_sync r a e is there about new o within = go (obj_cases o r)
    where
      of_r : IsWithin u.lay (item_of a)
      of_r = subst (IsWithin u.lay) (sym is) there

      go : (o ≡ r) ⊎ (o ≢ r) → word u.lay (done u.lay ws a) (object_item o) ≡ level o (record { p = u.p; e = e } ∷ log)
      go (inl f) =
          subst (λ q. word u.lay (done u.lay ws a) (object_item q) ≡ level q (record { p = u.p; e = e } ∷ log)) (sym f)
          (subst (λ i. word u.lay (done u.lay ws a) i ≡ left_in a (word u.lay ws i)) is (word_same u.lay ws a size of_r) ∙ new)
      go (inr ne) =
          let differs : object_item o ≢ item_of a = λ h. items_differ o r ne (h ∙ is) in
          word_other u.lay ws a (object_item o) of_r within differs ∙ (agree o within ∙ sym (level_other r o u.p e log about ne))

  -- words that stay, with an entry that changes no level
  stays : (a : Act) (x : ℕ) (e : Entry) → IsTold u.lay ws a x → Quiet u a x → ((o : Obj) → signals o (record { p = u.p; e = e } ∷ log) ≡ signals o log) → ((l : ℕ) → held_by l u.p e (holder l log) ≡ holder l log) → AgreeSync u.lay (done u.lay ws a) (record { p = u.p; e = e } ∷ log)
  stays a x e told quiet s h o there = kept u ws a x told quiet o there ∙ (agree o there ∙ sym (level_same o log (record { p = u.p; e = e } ∷ log) (s o) h))

  -- an operation that leaves no entry
  pub rested : (a : Act) (x : ℕ) → IsTold u.lay ws a x → Quiet u a x → AgreeSync u.lay (done u.lay ws a) log
  rested a x told quiet o there = kept u ws a x told quiet o there ∙ agree o there

  leaves : (t : List Entry) (r : Obj) (c x : ℕ) → t ≡ mine u.p log → x ≡ signals r log → c ≤ x → Arrived (processors u.lay) t r c → Leaves (processors u.lay) log u.p r c
  leaves t r c x own is le a =
      let at : slice_get (mine u.p log) a.i ≡ Some (Signal r a.a) = sym (ap (λ s. slice_get s a.i) own) ∙ a.arrival in
      let below = signal_below (processors u.lay) log r (record { p = u.p; i = a.i }) a.a legal at in
      record {
        i = a.i;
        a = a.a;
        last = sym (ap length own) ∙ a.last;
        arrival = at;
        need = a.need_is ∙ round_below (processors u.lay) a.a all (omega (arith, below, few r));
        all = omega (arith, is, le);
      }

  pub paid : (o : Own) (a : Act) (x : ℕ) (e : Entry) → o.trace ≡ mine u.p log → AreHeld u.p (λ l. holder l log) o.reader.passes → IsTold u.lay ws a x → Pays u o a x e → Effect (processors u.lay) u.p u.lay (done u.lay ws a) log e
  paid o a x (Load w v) own held told quiet = record { allowed = tt; agree = stays a x (Load w v) told quiet (λ q. refl) (λ l. refl) }
  paid o a x (Store w v) own held told quiet = record { allowed = tt; agree = stays a x (Store w v) told quiet (λ q. refl) (λ l. refl) }
  paid o a x (Out v) own held told quiet = record { allowed = tt; agree = stays a x (Out v) told quiet (λ q. refl) (λ l. refl) }
  paid o (Get it) x (Pass (Flag f) c) own held told (is, there, le) =
      let v : x ≡ signals (Flag f) log = object_told u.lay ws it (Flag f) x is told ∙ agree (Flag f) there in
      record { allowed = omega (arith, le, v); agree = stays (Get it) x (Pass (Flag f) c) told tt (λ q. refl) (λ l. refl) }
  paid o (Get it) x (Pass (Barrier b) c) own held told (is, there, le, at) =
      let v : x ≡ signals (Barrier b) log = object_told u.lay ws it (Barrier b) x is told ∙ agree (Barrier b) there in
      record { allowed = leaves o.trace (Barrier b) c x own v le at; agree = stays (Get it) x (Pass (Barrier b) c) told tt (λ q. refl) (λ l. refl) }
  paid o (Get it) x (Pass Close c) own held told (is, le, at) =
      let v : x ≡ signals Close log = object_told u.lay ws it Close x is told ∙ agree Close tt in
      record { allowed = leaves o.trace Close c x own v le at; agree = stays (Get it) x (Pass Close c) told tt (λ q. refl) (λ l. refl) }
  paid o (Change it v new) x (Pass (Lock l) c) own held told (is, there, got, half, more) =
      let s = agree (Lock l) there in
      let read : x ≡ word u.lay ws (LockWord l) = told (λ h. h) ∙ ap (word u.lay ws) is in
      let none : taken (holder l log) ≡ 0 = omega (arith, s, read, got, half, taken_one (holder l log)) in
      let count : c ≡ signals (Lock l) log = omega (arith, s, read, got, half, none) in
      let z : held_by l u.p (Pass (Lock l) c) (holder l log) ≡ Some (u.p, c) = ap (λ b. if b then Some (u.p, c) else holder l log) (eq-eqb l l refl) in
      let small : (v + 1) % 2 ^ 64 ≡ v + 1 = mod-eq_of_lt {n = v + 1} {m = 2 ^ 64} (omega (arith, half, count, few (Lock l))) in
      let won : (if word u.lay ws (LockWord l) == v then new else word u.lay ws (LockWord l)) ≡ new = ap (λ b. if b then new else word u.lay ws (LockWord l)) (eq-eqb (word u.lay ws (LockWord l)) v (sym read ∙ got)) in
      record {
        allowed = (nobody (holder l log) none, count);
        agree = moved_sync (Lock l) (Change it v new) (Pass (Lock l) c) is there refl (won ∙ omega (arith, more, small, half, count, ap taken z));
      }
  paid o (Put it v) x (Signal (Lock l) k) own held told (is, there, new, pass, may) =
      let h : holder l log ≡ Some (u.p, k) = (held l k).0 pass in
      let n = holder_number (processors u.lay) l log u.p k legal h in
      let c = counted_signal (Lock l) k (signals (Lock l) log) in
      let z : held_by l u.p (Signal (Lock l) k) (holder l log) ≡ None = ap (λ b. if b then None else holder l log) (eq-eqb l l refl) in
      let small : (2 * k + 2) % 2 ^ 64 ≡ 2 * k + 2 = mod-eq_of_lt {n = 2 * k + 2} {m = 2 ^ 64} (omega (arith, n, few (Lock l))) in
      record { allowed = h; agree = moved_sync (Lock l) (Put it v) (Signal (Lock l) k) is there refl (omega (arith, new, small, n, c, ap taken z)) }
  paid o (Add it n) x (Signal r j) own held told (is, there, one, said, counts, may) = counter r is there counts (told (λ h. h) ∙ ap (word u.lay ws) is)
    where
      -- the same for each object that counts
      added : (q : Obj) → it ≡ object_item q → IsWithin u.lay (object_item q) → word u.lay ws (object_item q) ≡ signals q log → level q (record { p = u.p; e = Signal q j } ∷ log) ≡ signals q log + 1 → AgreeSync u.lay (done u.lay ws (Add it n)) (record { p = u.p; e = Signal q j } ∷ log)
      added q i there v l =
          let small : (word u.lay ws (object_item q) + n) % 2 ^ 64 ≡ word u.lay ws (object_item q) + n = mod-eq_of_lt {n = word u.lay ws (object_item q) + n} {m = 2 ^ 64} (omega (arith, one, v, few q)) in
          moved_sync q (Add it n) (Signal q j) i there refl (small ∙ omega (arith, one, v, l))

      counter : (q : Obj) → it ≡ object_item q → IsWithin u.lay (object_item q) → IsCounter q → x ≡ word u.lay ws (object_item q) → Effect (processors u.lay) u.p u.lay (done u.lay ws (Add it n)) log (Signal q j)
      counter (Lock l) i there c t = absurd c
      counter (Barrier b) i there c t =
          let v = agree (Barrier b) there in
          record { allowed = said ∙ (t ∙ v); agree = added (Barrier b) i there v (counted_signal (Barrier b) j (signals (Barrier b) log)) }
      counter (Flag f) i there c t =
          let v = agree (Flag f) there in
          record { allowed = said ∙ (t ∙ v); agree = added (Flag f) i there v (counted_signal (Flag f) j (signals (Flag f) log)) }
      counter Close i there c t =
          let v = agree Close there in
          record { allowed = said ∙ (t ∙ v); agree = added Close i there v (counted_signal Close j (signals Close log)) }
  paid o a x e own held told pays = absurd pays
