-- How far the last store has come is what its processor owes.
use Rattle.std.proofs.Common.{◌≡◌, ◌≢◌, ℕ, ◌⊎◌, Bool, true, false, Option, None, Some, refl, sym, ap, ◌∙◌, subst, inl, inr, arith, if◌then◌else◌, ◌==◌}
use Rattle.std.specs.Prelude.{nat_le, ◌||◌, ◌&&◌}
use Rattle.std.proofs.lemmas.Bool.{cases_eq, eq-eqb, ne_eqb}
use Rattle.dsm_copies.specs.Modes.{Enter_load, Mode, Bare, Flush_compare, Flush_refresh, Flush_send, Break_refresh, Break_send, op_mode, op_progress, touched, covered, ended, told}
use Rattle.dsm_copies.specs.Copies.{Node, State, Event, Load, Store, Signal, Pass, Begin, Op, Drop, Home_sent, Home_told, Enter, Home_enter, Home_break, Kind, Flush, Merge, Overwrite, Make, Break, is_at, is_home, put, op_node, out_node, touch_node, begun, home_next, home_broken, store_at, after_event, exclusive_at}
use Rattle.dsm_copies.specs.Premises.{Released, Kept, Asks}
use Rattle.dsm_copies.specs.Debts.{Debts, op_debt, op_seen, store_debt, owes, AsksOf}
use Rattle.dsm_copies.specs.Counts.{Count}
use Rattle.dsm_copies.proofs.Holds.{Holds, each_put, at_is}

-- the flag in hand is the processor's
abbrev pub SeenIs : Bool → Mode → Type 0
SeenIs seen (Flush_compare v b) = b ≡ seen
SeenIs seen (Flush_refresh v b) = b ≡ seen
SeenIs seen (Flush_send v b) = b ≡ seen
SeenIs seen (Break_refresh v b) = b ≡ seen
SeenIs seen (Break_send v b) = b ≡ seen
SeenIs seen _ = Unit {0}

progress_is : (prog t : ℕ) (seen : Bool) (x : Mode) → SeenIs seen x → op_progress true prog t x ≡ op_debt t prog seen x
progress_is prog t seen Bare a = refl
progress_is prog t seen x a = grind arith

progress_other : (prog t : ℕ) (x : Mode) → op_progress false prog t x ≡ prog
progress_other prog t Bare = refl
progress_other prog t x = grind arith

seen_op : (m prog f t : ℕ) (seen : Bool) (x : Mode) → SeenIs seen x → SeenIs (op_seen t seen x) (op_mode m prog f t x)
seen_op m prog f t seen Bare a = tt
seen_op m prog f t seen x a = grind arith

seen_touch : (x : Mode) → SeenIs false (touched x)
seen_touch Bare = tt
seen_touch x = grind arith

seen_begun : (seen : Bool) (prog : ℕ) (kind : Kind) → SeenIs seen (begun prog kind)
seen_begun seen prog Flush = tt
seen_begun seen prog Merge = tt
seen_begun seen prog Overwrite = tt
seen_begun seen prog Make = tt
seen_begun seen prog Break = tt

pub record Owing (place : ℕ → Option ℕ) (s : State) (d : Debts) : Type 0 where
  pub progress : (p : ℕ) → s.by ≡ Some p → s.progress ≡ d.debt p
  pub seen : (p n : ℕ) → s.by ≡ Some p → place p ≡ Some n → SeenIs (d.seen p) (s.nodes n).mode

module _ (place : ℕ → Option ℕ) (s : State) (d : Debts) (h : Holds place s) (o : Owing place s d) where
  -- a signal
  pub released_of : (c : Count) (e : Event) → AsksOf place Released s c d e → Asks place Released s e
  released_of c (Signal p) may = λ e. pick (o.progress p e) (h.maker p e) may
    where
      pick : s.progress ≡ d.debt p → s.at ≡ place p → (d.debt p ≡ told) ⊎ ((exclusive_at s (place p) ≡ true) × (d.debt p ≢ 1)) → (s.progress ≡ told) ⊎ ((exclusive_at s s.at ≡ true) × (s.progress ≢ 1))
      pick a b (inl f) = inl (a ∙ f)
      pick a b (inr f) = inr (subst (λ x. exclusive_at s x ≡ true) (sym b) f.0, λ z. f.1 (sym a ∙ z))
  released_of c (Load p v) may = may
  released_of c e may = may

  -- the drop of a twin
  pub kept_of : (c : Count) (e : Event) → AsksOf place Kept s c d e → Asks place Kept s e
  kept_of c (Drop n) may = λ e. go e s.by refl
    where
      go : is_at s.at n ≡ true → (m : Option ℕ) → s.by ≡ m → s.progress ≢ 1
      go e None f z = let y = (h.first f).all_told in absurd (omega (arith, y, z))
      go e (Some p) f z = may p (sym (h.maker p f) ∙ at_is s.at n e) (sym (o.progress p f) ∙ z)
  kept_of c (Load p v) may = may
  kept_of c e may = may

  change : (n : ℕ) (x : Node) → ((b : Bool) → SeenIs b x.mode) → Owing place (record s { nodes = put s.nodes n x }) d
  change n x a = record { progress = o.progress; seen = λ p k e f. each_put (λ i y. place p ≡ Some i → SeenIs (d.seen p) y.mode) s.nodes n x (λ g. a (d.seen p)) (λ i ne g. o.seen p i e g) k f }

  op_owing : (n : ℕ) → Owing place (after_event place s (Op n)) (owes place s (Op n) d)
  op_owing n = record { progress = λ p e. progress p e (is_at (place p) n) refl; seen = λ p k e f. seen p k e f (cases_eq k n) }
    where
      progress : (p : ℕ) → s.by ≡ Some p → (b : Bool) → is_at (place p) n ≡ b → op_progress (is_at s.at n) s.progress (s.nodes n).twin (s.nodes n).mode ≡ (if is_at (place p) n then op_debt (s.nodes n).twin (d.debt p) (d.seen p) (s.nodes n).mode else d.debt p)
      progress p e true f = rw f (rw (h.maker p e) (rw f (progress_is s.progress (s.nodes n).twin (d.seen p) (s.nodes n).mode (o.seen p n e (at_is (place p) n f)) ∙ ap (λ x. op_debt (s.nodes n).twin x (d.seen p) (s.nodes n).mode) (o.progress p e))))
      progress p e false f = rw f (rw (h.maker p e) (rw f (progress_other s.progress (s.nodes n).twin (s.nodes n).mode ∙ o.progress p e)))

      seen : (p k : ℕ) → s.by ≡ Some p → place p ≡ Some k → (k ≡ n) ⊎ (k ≢ n) → SeenIs (if is_at (place p) n then op_seen (s.nodes n).twin (d.seen p) (s.nodes n).mode else d.seen p) (put s.nodes n (op_node s.master s.progress (s.nodes n)) k).mode
      seen p k e f (inl g) = rw (eq-eqb k n g) (rw f (rw (eq-eqb n k (sym g)) (seen_op s.master s.progress (s.nodes n).frame (s.nodes n).twin (d.seen p) (s.nodes n).mode (o.seen p n e (f ∙ ap (λ x. Some x) g)))))
      seen p k e f (inr ne) = rw (ne_eqb k n ne) (rw f (rw (ne_eqb n k (λ z. ne (sym z))) (o.seen p k e f)))

  begin_owing : (n : ℕ) (kind : Kind) → Owing place (after_event place s (Begin n kind)) d
  begin_owing n kind = change n (record (s.nodes n) { mode = begun s.progress kind }) (λ b. seen_begun b s.progress kind)

  -- the last store of the home
  home_owing : (prog : ℕ) (broken sole : Bool) (debt : ℕ → ℕ) → ((p : ℕ) → s.by ≡ Some p → prog ≡ debt p) → Owing place (record s { progress = prog; broken = broken; home_exclusive = sole }) (record d { debt = debt })
  home_owing prog broken sole debt a = record { progress = a; seen = o.seen }

  store_owing : (p v : ℕ) (w : Option ℕ) → w ≡ place p → Owing place (store_at s p w v) (record { debt = put d.debt p (store_debt s w); seen = put d.seen p false })
  store_owing p v None here = record { progress = λ q e. let z : p ≡ q = cc e in rw (eq-eqb q p (sym z)); seen = λ q n e f. absurd (let z : p ≡ q = cc e in let y : None ≡ Some n = here ∙ (ap place z ∙ f) in cc y) }
  store_owing p v (Some m) here = record { progress = λ q e. let z : p ≡ q = cc e in rw (eq-eqb q p (sym z)); seen = λ q n e f. seen q n (cc e) f }
    where
      seen : (q n : ℕ) → p ≡ q → place q ≡ Some n → SeenIs (put d.seen p false q) (put (λ k. out_node (s.nodes k)) m (touch_node v (s.nodes m)) n).mode
      seen q n z f = let y : Some m ≡ Some n = here ∙ (ap place z ∙ f) in let x : m ≡ n = cc y in rw (eq-eqb q p (sym z)) (rw (eq-eqb n m (sym x)) (seen_touch (s.nodes m).mode))

  pub owing_keeps : (e : Event) → Owing place (after_event place s e) (owes place s e d)
  owing_keeps (Load p v) = o
  owing_keeps (Store p v) = store_owing p v (place p) refl
  owing_keeps (Signal p) = record { progress = o.progress; seen = o.seen }
  owing_keeps (Pass q) = record { progress = o.progress; seen = o.seen }
  owing_keeps (Begin n kind) = begin_owing n kind
  owing_keeps (Op n) = op_owing n
  owing_keeps (Drop n) = change n (record (s.nodes n) { mode = Bare }) (λ b. tt)
  owing_keeps Home_sent = home_owing (home_next s.at covered s.progress) s.broken s.home_exclusive (λ q. home_next (place q) covered (d.debt q)) (λ p e. rw (h.maker p e) (ap (λ x. home_next (place p) covered x) (o.progress p e)))
  owing_keeps Home_told = home_owing (home_next s.at ended s.progress) s.broken s.home_exclusive (λ q. home_next (place q) ended (d.debt q)) (λ p e. rw (h.maker p e) (ap (λ x. home_next (place p) ended x) (o.progress p e)))
  owing_keeps (Enter n) = change n (record (s.nodes n) { mode = Enter_load (nat_le ended s.progress) }) (λ b. tt)
  owing_keeps Home_enter = record { progress = o.progress; seen = o.seen }
  owing_keeps Home_break = home_owing (home_broken s.at s.progress) (s.broken || (is_home s.at && (s.progress == covered))) false (λ q. home_broken (place q) (d.debt q)) (λ p e. rw (h.maker p e) (ap (λ x. home_broken (place p) x) (o.progress p e)))
