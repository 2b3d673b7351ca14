-- At each stage: what an unregistered node gives, what the first touch changes, and who holds a turn. Each lemma names one stage, so
-- that the check goes through all of them.
use Rattle.std.proofs.Common.{◌≡◌, ◌≢◌, ℕ, suc, ◌≤◌, ◌<◌, Bool, true, false, refl, arith}
use Rattle.dsm_owners.specs.Stages.{Why, Stage, Rest, Breaking, Ending, Making, Checked, Flushing, Unlisting, Emptied, held, is_entering, is_using}
use Rattle.dsm_owners.specs.Directory.{Node, Processor}
use Rattle.dsm_owners.proofs.Facts.{ends, Blocked, Shut, Looked, Good, Mine, Fits, Duo}

module _ (top : ℕ) (home : ℕ) (x : Node) (z : Processor) where
  pub zero : (stage : Stage) (n r k : ℕ) → Fits top home n n r x (record z { stage = stage }) → Mine home n (record z { stage = stage }) → Good top home n x → x.dir ≡ 0 → Shut home n k (record z { stage = stage })
  zero Rest n r k h1 h2 h3 h4 = grind arith
  zero stage n r k h1 h2 h3 h4 = grind arith

  pub home_fits : (stage : Stage) (n m r h : ℕ) → home ≡ 0 → Mine home n (record z { stage = stage }) → Good top home m x → Fits top home n m r x (record z { stage = stage }) → Fits top (suc h) n m r x (record z { stage = stage })
  home_fits Rest n m r h h1 h2 h3 h4 = grind arith
  home_fits stage n m r h h1 h2 h3 h4 = grind arith

  pub look_free : (stage : Stage) (n r mp : ℕ) → (held n stage ≡ suc n → Looked stage r mp) → Looked stage r mp
  look_free Rest n r mp h1 = grind arith
  look_free stage n r mp h1 = grind arith

  pub alone_sure : (stage : Stage) (n r : ℕ) → is_entering stage ≡ true → Fits top home n n r x (record z { stage = stage }) → top ≤ x.sure
  alone_sure Rest n r h1 h2 = grind arith
  alone_sure stage n r h1 h2 = grind arith

  pub alone_own : (stage : Stage) (n r : ℕ) → is_entering stage ≡ true → Fits top home n n r x (record z { stage = stage }) → (x.dir ≡ 3) × (x.twined ≡ false)
  alone_own Rest n r h1 h2 = grind arith
  alone_own stage n r h1 h2 = grind arith

  pub using_blocked : (stage : Stage) (m : ℕ) → is_using stage ≡ true → Blocked m stage → ⊥
  using_blocked Rest m h1 h2 = grind arith
  using_blocked stage m h1 h2 = grind arith

  pub not_making : (stage : Stage) (m : ℕ) → Blocked m stage → stage ≢ Making
  not_making Rest m h1 = grind arith
  not_making stage m h1 = grind arith

  pub ending_dir : (c : Why) (j n p : ℕ) → Fits top home n j p x (record z { stage = Ending c j }) → x.dir ≡ 2
  ending_dir c j n p f = grind arith

  pub sole_twin : (m n r : ℕ) → Good top home m x → Fits top home n m r x z → x.dir ≡ 2 → x.twined ≡ true → x.turn ≡ suc r → ends z.stage ≡ true
  sole_twin m n r g f a b c = go (ends z.stage) refl
    where
      go : (e : Bool) → ends z.stage ≡ e → e ≡ true
      go true d = refl
      go false d = let u = f.sole_bare c d a in absurd (cc (u, b))

  pub emptied : (n p : ℕ) → Good top home n x → Fits top home n n p x (record z { stage = Emptied }) → (x.dir ≤ 1) × (x.twined ≡ false) × (x.fetch_open ≡ false)
  emptied n p g f = grind arith

  pub unlisting : (n p : ℕ) → Good top home n x → Fits top home n n p x (record z { stage = Unlisting }) → (x.dir ≤ 1) × (x.twined ≡ false) × (x.fetch_open ≡ false)
  unlisting n p g f = grind arith

  pub breaking_dir : (c : Why) (j n p : ℕ) → Fits top home n j p x (record z { stage = Breaking c j }) → x.dir ≡ 2
  breaking_dir c j n p f = grind arith

  pub flush_here : (n p : ℕ) → Fits top home n n p x (record z { stage = Flushing }) → x.twined ≡ false → ⊥
  flush_here n p f e = grind arith

  pub home_sends : (n m : ℕ) → Mine home n (record z { stage = Checked }) → home ≡ suc n → Shut home n m z → ⊥
  home_sends n m a e f = grind arith

  pub home_good : (m h : ℕ) → home ≡ 0 → Good top home m x → Good top (suc h) m x
  home_good m h a g = grind arith

  pub home_mine : (n h : ℕ) → home ≡ 0 → Mine home n z → Mine (suc h) n z
  home_mine n h a g = grind arith

  pub home_duo : (m n h : ℕ) (xn : Node) → home ≡ 0 → Good top home n xn → Duo home m n x xn → Duo (suc h) m n x xn
  home_duo m n h xn a g d = grind arith

  pub mark_mine : (n : ℕ) → home ≢ 0 → Mine home n z → Mine home n (record z { nle = true })
  mark_mine n a c = grind arith

  pub mark_fits : (n m r : ℕ) → (n ≡ m → x.dir ≢ 0) → (n ≢ m → n < x.sure → ⊥) → Fits top home n m r x z → Fits top home n m r x (record z { nle = true })
  mark_fits n m r a b f = grind arith

  pub breaks_here : (c : Why) (j n p : ℕ) → z.stage ≡ Breaking c j → Fits top home n j p x (record z { stage = Breaking c j }) → Good top home j x → (x.dir ≡ 2) × (home ≢ 0)
  breaks_here c j n p e f g = grind arith
