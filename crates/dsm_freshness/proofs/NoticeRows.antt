-- Rows on no page: notices are drained, own words are taken, and the pages of the set are gone through.
use Rattle.std.proofs.Common.{◌≡◌, ◌≢◌, ◌⊎◌, inl, inr, ℕ, ◌+◌, ◌*◌, ◌/◌, ◌%◌, ◌^◌, ◌<◌, ◌≤◌, ◌==◌, Bool, true, false, List, [], ◌∷◌, length, Some, refl, sym, ap, ◌∙◌, subst, arith, if◌then◌else◌}
use Rattle.std.specs.Prelude.{◌&&◌, ◌||◌, nat_lt, nat_le, slice_set, replicate, bit_or}
use Rattle.std.specs.Int.{bit_at}
use Rattle.std.proofs.lemmas.Bool.{cases_eq, cases_lt, eq-eqb, ne_eqb, eqb-true, lt-ltb, le-ltb, le-leb, lt-leb, or_from, or_left, or_right, and_left, and_right}
use Rattle.std.proofs.lemmas.List.{get_or-set_same, get_or-set_other}
use Rattle.std.proofs.lemmas.Nat.{shr_split}
use Rattle.std.proofs.lemmas.Nat.Bits.{bit_at_cat_low, bit_at_or, bit_at-pow_same, bit_at-pow_other, bit_at-lt}
use Rattle.dsm_words.specs.declared.item.Item.TheVariants.{NoticeTurn, Global, Own as OwnWord}
use Rattle.dsm_words.specs.Place.{Lay}
use Rattle.dsm_words.specs.Pages.{group_of, has_page, pages_in}
use Rattle.dsm_words.specs.Script.{Act, Put, Swap}
use Rattle.dsm_words.specs.Words.{word, done}
use Rattle.dsm_clock.specs.declared.turns.TurnId.TheVariants.{Notices}
use Rattle.dsm_protocol.specs.Own.{Own, node_of}
use Rattle.dsm_protocol.specs.Stages.{Round, Draining, Hearing, Taking, Off, round_turn}
use Rattle.dsm_protocol.specs.Rows.{drains, gives_notices, takes}
use Rattle.dsm_ties.specs.Tied.{has_bit}
use Rattle.dsm_ties.proofs.OffRows.{no_bit}
use Rattle.dsm_fresh.specs.Pages.{Drain_none, Drain_some, Give, Take, put, happens}
use Rattle.dsm_fresh.specs.Stages as S
use Rattle.dsm_freshness.specs.Views.{found_in, is_set, acquire_view, looked}
use Rattle.dsm_freshness.proofs.Words.{Scene, match_one, match_none, says, untouched, put_same, first}
use Rattle.dsm_freshness.proofs.AcquireRows.{le_next, past_it, at_it}
use Rattle.dsm_freshness.proofs.Frame as F

-- conditions
pub if_true : {A : Type 0} (d : Bool) (a b : A) → d ≡ true → (if d then a else b) ≡ a
if_true true a b e = refl
if_true false a b e = absurd (cc e)

pub if_false : {A : Type 0} (d : Bool) (a b : A) → d ≡ false → (if d then a else b) ≡ b
if_false false a b e = refl
if_false true a b e = absurd (cc e)

pub if_same : {A : Type 0} (d : Bool) (a b z : A) → a ≡ z → b ≡ z → (if d then a else b) ≡ z
if_same true a b z e f = e
if_same false a b z e f = f

pub all_three : {a b d : Bool} → a ≡ true → b ≡ true → d ≡ true → (a && b && d) ≡ true
all_three {a = true} {b = true} {d = d} e f i = i
all_three {a = true} {b = false} {d = d} e f i = absurd (cc f)
all_three {a = false} {b = b} {d = d} e f i = absurd (cc e)

pub three : (a b d : Bool) → (a && b && d) ≡ true → (a ≡ true) × (b ≡ true) × (d ≡ true)
three true true d e = (refl, refl, e)
three true false d e = absurd (cc e)
three false b d e = absurd (cc e)

pub two_off : (a b d : Bool) → (a && b) ≡ false → (a && b && d) ≡ false
two_off true true d e = absurd (cc e)
two_off true false d e = refl
two_off false b d e = refl

pub all_but : (a : Bool) → (a && false) ≡ false
all_but true = refl
all_but false = refl

-- numbers
pub lt_le : (a k : ℕ) → a ≢ k → nat_lt a k ≡ nat_le a k
lt_le a k ne = go (cases_lt a k)
  where
    go : (a < k) ⊎ (k ≤ a) → nat_lt a k ≡ nat_le a k
    go (inl lt) = lt-ltb a k lt ∙ sym (le-leb a k (omega (arith, lt)))
    go (inr le) = le-ltb a k le ∙ sym (lt-leb a k (omega (arith, le, ne)))

pub le_lt : (a k : ℕ) → nat_le a k ≡ nat_lt a (k + 1)
le_lt a k = go (cases_lt k a)
  where
    go : (k < a) ⊎ (a ≤ k) → nat_le a k ≡ nat_lt a (k + 1)
    go (inl lt) = lt-leb a k lt ∙ sym (le-ltb a (k + 1) (omega (arith, lt)))
    go (inr le) = le-leb a k le ∙ sym (lt-ltb a (k + 1) (omega (arith, le)))

-- whether group a of sender m was looked for, before group k of node j and behind it
module _ (m j a k : ℕ) where
  pub looks_same : (j == m && k == a) ≡ false → (nat_lt m j || (m == j && nat_lt a k)) ≡ (nat_lt m j || (m == j && nat_le a k))
  looks_same off = go (cases_eq m j)
    where
      go : (m ≡ j) ⊎ (m ≢ j) → (nat_lt m j || (m == j && nat_lt a k)) ≡ (nat_lt m j || (m == j && nat_le a k))
      go (inl d) = ap (λ z. nat_lt m j || (m == j && z)) (lt_le a k (λ e. absurd (cc (sym (F.and_true (eq-eqb j m (sym d)) (eq-eqb k a (sym e))) ∙ off))))
      go (inr ne) = rw (ne_eqb m j ne) refl

  pub looks_before : j ≡ m → k ≡ a → (nat_lt m j || (m == j && nat_lt a k)) ≡ false
  looks_before d e = or_from (nat_lt m j) (m == j && nat_lt a k) (le-ltb m j (omega (arith, d))) (and_right (m == j) (nat_lt a k) (le-ltb a k (omega (arith, e))))

  pub looks_behind : j ≡ m → k ≡ a → (nat_lt m j || (m == j && nat_le a k)) ≡ true
  looks_behind d e = or_right (nat_lt m j) (m == j && nat_le a k) (F.and_true (eq-eqb m j (sym d)) (le-leb a k (omega (arith, e))))

  pub looks_next : (nat_lt m j || (m == j && nat_le a k)) ≡ (nat_lt m j || (m == j && nat_lt a (k + 1)))
  looks_next = ap (λ z. nat_lt m j || (m == j && z)) (le_lt a k)

  pub looks_over : a < k → (nat_lt m j || (m == j && nat_lt a k)) ≡ (nat_lt m (j + 1) || (m == j + 1 && nat_lt a 0))
  looks_over lt = go (cases_lt j m)
    where
      none : nat_lt a 0 ≡ false
      none = le-ltb a 0 (omega arith)

      last : (m ≡ j) ⊎ (m ≢ j) → m ≤ j → (nat_lt m j || (m == j && nat_lt a k)) ≡ true
      last (inl d) le = or_right (nat_lt m j) (m == j && nat_lt a k) (F.and_true (eq-eqb m j d) (lt-ltb a k lt))
      last (inr ne) le = or_left (nat_lt m j) (m == j && nat_lt a k) (lt-ltb m j (omega (arith, le, ne)))

      go : (j < m) ⊎ (m ≤ j) → (nat_lt m j || (m == j && nat_lt a k)) ≡ (nat_lt m (j + 1) || (m == j + 1 && nat_lt a 0))
      go (inl i) = or_from (nat_lt m j) (m == j && nat_lt a k) (le-ltb m j (omega (arith, i))) (and_left (m == j) (nat_lt a k) (ne_eqb m j (λ d. absurd (omega (arith, i, d)))))
          ∙ sym (or_from (nat_lt m (j + 1)) (m == j + 1 && nat_lt a 0) (le-ltb m (j + 1) (omega (arith, i))) (and_right (m == j + 1) (nat_lt a 0) none))
      go (inr le) = last (cases_eq m j) le ∙ sym (or_left (nat_lt m (j + 1)) (m == j + 1 && nat_lt a 0) (lt-ltb m (j + 1) (omega (arith, le))))

-- nothing was looked for at the start, and everything at the end
pub looks_start : (m a : ℕ) → (nat_lt m 0 || (m == 0 && nat_lt a 0)) ≡ false
looks_start m a = or_from (nat_lt m 0) (m == 0 && nat_lt a 0) (le-ltb m 0 (omega arith)) (and_right (m == 0) (nat_lt a 0) (le-ltb a 0 (omega arith)))

pub looks_end : (m a nodes : ℕ) → m < nodes → (nat_lt m nodes || (m == nodes && nat_lt a 0)) ≡ true
looks_end m a nodes lt = or_left (nat_lt m nodes) (m == nodes && nat_lt a 0) (lt-ltb m nodes lt)

-- bits
pub page_at : (k b g : ℕ) → k ≡ g / 64 → b ≡ g % 64 → 64 * k + b ≡ g
page_at k b g d e = omega (arith, d, e)

pub bit_is : (k b g : ℕ) → 64 * k + b ≡ g → k ≡ g / 64 → b ≡ g % 64
bit_is k b g d e = omega (arith, d, e)

pub in_group : (l : Lay) (g : ℕ) → g < l.pages → g % 64 < pages_in l (g / 64)
in_group l g h = omega (arith, h)

pub or_same : (w i : ℕ) → (bit_at (bit_or w (2 ^ i)) i == 1) ≡ true
or_same w i = let both = bit_at_or w (2 ^ i) i in let one = bit_at-pow_same i in let lt = bit_at-lt w i in eq-eqb (bit_at (bit_or w (2 ^ i)) i) 1 (omega (arith, both, one, lt))

pub or_other : (w k i : ℕ) → i ≢ k → (bit_at (bit_or w (2 ^ k)) i == 1) ≡ (bit_at w i == 1)
or_other w k i ne = let both = bit_at_or w (2 ^ k) i in let off = bit_at-pow_other k i ne in let same : bit_at (bit_or w (2 ^ k)) i ≡ bit_at w i = omega (arith, both, off) in ap (λ z. z == 1) same

pub low_bit : (x w i : ℕ) → i < w → bit_at x i ≡ bit_at (x % 2 ^ w) i
low_bit x w i low = sym (ap (λ y. bit_at y i) (shr_split x w)) ∙ bit_at_cat_low (x / 2 ^ w) w (x % 2 ^ w) i low

pub put_at : {A : Type 0} (f : ℕ → A) (n : ℕ) (x : A) (k : ℕ) → k ≡ n → put f n x k ≡ x
put_at f n x k e = rw (eq-eqb k n e) refl

-- the page's bit in a set that takes its group's word, and another group's
pub set_same : (l : Lay) (g k x : ℕ) (set : List ℕ) → g < l.pages → l.pages ≤ 256 → length set ≡ 4 → k ≡ g / 64 → has_page (slice_set set k (x % 2 ^ pages_in l k)) g ≡ has_bit g x
set_same l g k x set g_in few four e = subst (λ z. has_page (slice_set set z (x % 2 ^ pages_in l z)) g ≡ has_bit g x) (sym e)
    (ap (λ z. bit_at z (g % 64) == 1) (get_or-set_same set (g / 64) (x % 2 ^ pages_in l (g / 64)) 0 (omega (arith, g_in, few, four))) ∙ ap (λ z. z == 1) (sym (low_bit x (pages_in l (g / 64)) (g % 64) (in_group l g g_in))))

pub set_other : (g k v : ℕ) (set : List ℕ) → k ≢ g / 64 → has_page set g ≡ has_page (slice_set set k v) g
set_other g k v set ne = sym (ap (λ z. bit_at z (g % 64) == 1) (get_or-set_other set k (g / 64) v 0 (λ d. ne (sym d))))

module _ (c : Scene) (o : Own) where
  abbrev group : ℕ
  group = group_of c.g

  abbrev place : ℕ
  place = c.g % 64

  -- what it has in hand of the bits from b on
  abbrev pub rest_hand : ℕ → ℕ → ℕ → ℕ → ℕ → S.Hand
  rest_hand x j k bits b = if nat_le b (c.g % 64) then found_in c.m c.n c.g x j k bits else S.Empty

  pub rest_none : (x j k bits b : ℕ) → (j == c.m && k == group_of c.g) ≡ false → rest_hand x j k bits b ≡ S.Empty
  rest_none x j k bits b off = if_same (nat_le b (c.g % 64)) (found_in c.m c.n c.g x j k bits) S.Empty S.Empty (if_false (j == c.m && k == group_of c.g && is_set c.m c.n c.g bits) (S.Found x) S.Empty (two_off (j == c.m) (k == group_of c.g) (is_set c.m c.n c.g bits) off)) refl

  pub rest_past : (x j k bits b : ℕ) → nat_le b (c.g % 64) ≡ false → rest_hand x j k bits b ≡ S.Empty
  rest_past x j k bits b e = if_false (nat_le b (c.g % 64)) (found_in c.m c.n c.g x j k bits) S.Empty e

  pub rest_found : (x j k bits b : ℕ) → nat_le b (c.g % 64) ≡ true → j ≡ c.m → k ≡ group_of c.g → is_set c.m c.n c.g bits ≡ true → rest_hand x j k bits b ≡ S.Found x
  rest_found x j k bits b e d i is = if_true (nat_le b (c.g % 64)) (found_in c.m c.n c.g x j k bits) S.Empty e ∙ if_true (j == c.m && k == group_of c.g && is_set c.m c.n c.g bits) (S.Found x) S.Empty (all_three (eq-eqb j c.m d) (eq-eqb k (group_of c.g) i) is)

  pub rest_unset : (x j k bits b : ℕ) → is_set c.m c.n c.g bits ≡ false → rest_hand x j k bits b ≡ S.Empty
  rest_unset x j k bits b is = if_same (nat_le b (c.g % 64)) (found_in c.m c.n c.g x j k bits) S.Empty S.Empty (go (j == c.m) (k == group_of c.g) (is_set c.m c.n c.g bits) is) refl
    where
      go : (d e i : Bool) → i ≡ false → (if d && e && i then S.Found x else S.Empty) ≡ S.Empty
      go true true i is = if_false i (S.Found x) S.Empty is
      go true false i is = refl
      go false e i is = refl

  pub rest_next : (x j k bits b : ℕ) → (k == group_of c.g && b == c.g % 64) ≡ false → rest_hand x j k bits b ≡ rest_hand x j k bits (b + 1)
  rest_next x j k bits b off = go (cases_eq k (group_of c.g))
    where
      go : (k ≡ group_of c.g) ⊎ (k ≢ group_of c.g) → rest_hand x j k bits b ≡ rest_hand x j k bits (b + 1)
      go (inl d) = ap (λ z. if z then found_in c.m c.n c.g x j k bits else S.Empty) (le_next b (c.g % 64) (λ e. absurd (cc (sym (F.and_true (eq-eqb k (group_of c.g) d) (eq-eqb b (c.g % 64) e)) ∙ off))))
      go (inr ne) = let out : (j == c.m && k == group_of c.g) ≡ false = and_right (j == c.m) (k == group_of c.g) (ne_eqb k (group_of c.g) ne) in rest_none x j k bits b out ∙ sym (rest_none x j k bits (b + 1) out)

  -- it holds the turn of the notices
  pub not_free : {r : Round} {a : Act} {x : ℕ} → F.Meets c (Off r) o a x → round_turn c.u r ≡ Some (Notices (node_of c.u)) → node_of c.u ≡ c.n → word c.u.lay c.ws (NoticeTurn c.n) ≡ 0 → ⊥
  not_free f t e z = absurd (cc (sym z ∙ f.turn (Notices c.n) c.n_in (t ∙ ap (λ y. Some (Notices y)) e)))

  -- its operations, and the set behind one
  abbrev drain_act : ℕ → ℕ → Act
  drain_act j k = Swap (Global (node_of c.u) j k) 0

  abbrev turn_act : Act
  turn_act = Put (NoticeTurn (node_of c.u)) 0

  abbrev own_act : ℕ → Act
  own_act k = Swap (OwnWord c.u.p k) 0

  abbrev next_set : ℕ → ℕ → List ℕ → List ℕ
  next_set k x set = slice_set set k (x % 2 ^ pages_in c.u.lay k)

  -- the bits of a sender's group are taken
  pub row_drains : {j k x : ℕ} → F.RowActs c o (drains {j = j} {k = k} {x = x})
  row_drains {j} {k} {x} f = F.only_if c (node_of c.u == c.n && j == c.m && k == group_of c.g) (λ d. let z = three (node_of c.u == c.n) (j == c.m) (k == group_of c.g) d in on (eqb-true (node_of c.u) c.n z.0) (eqb-true j c.m z.1) (eqb-true k (group_of c.g) z.2)) off
    where
      other : (node_of c.u == c.n && j == c.m && k == group_of c.g) ≡ false → node_of c.u ≡ c.n → (j == c.m && k == group_of c.g) ≡ false
      other d e = F.not_both (λ a b. absurd (cc (sym (all_three (eq-eqb (node_of c.u) c.n e) a b) ∙ d)))

      off : (node_of c.u == c.n && j == c.m && k == group_of c.g) ≡ false → F.Acted c (Off (Hearing j k x 0)) (done c.u.lay c.ws (drain_act j k)) []
      off d = record {
        runs = tt;
        match = untouched c (drain_act j k) f.within (λ i. absurd (cc (sym (all_three (eq-eqb (node_of c.u) c.n i.0) (eq-eqb j c.m i.1) (eq-eqb k (group_of c.g) i.2)) ∙ d)));
        knows = F.off_same c {r = Draining j k} {t = Hearing j k x 0} f.here.knows refl (λ e. ap (looked c.m c.n c.g) (looks_same c.m j (group_of c.g) k (other d e))) (λ y e. sym (rest_none y j k x 0 (other d e)));
      }

      on : node_of c.u ≡ c.n → j ≡ c.m → k ≡ group_of c.g → F.Acted c (Off (Hearing j k x 0)) (done c.u.lay c.ws (drain_act j k)) ((if is_set c.m c.n c.g x then Drain_some c.u.p else Drain_none c.u.p) ∷ [])
      on e a b = go (is_set c.m c.n c.g x) refl
        where
          before : (c.f.processors c.u.p).stage ≡ S.Before
          before = F.off_stage c f.here e ∙ ap (looked c.m c.n c.g) (looks_before c.m j (group_of c.g) k a b)

          empty : c.f.page.hand ≡ S.Empty
          empty = (F.off_hand c f.here e refl).1

          bit : is_set c.m c.n c.g x ≡ c.f.page.bit
          bit = ap (has_bit c.g) f.told ∙ says c (Global (node_of c.u) j k) f.within (e, a, b)

          behind : S.Drained ≡ acquire_view c.m c.n c.g (Off (Hearing j k x 0))
          behind = sym (ap (looked c.m c.n c.g) (looks_behind c.m j (group_of c.g) k a b))

          no : has_bit c.g 0 ≡ false
          no = F.not_true (λ z. no_bit (c.g % 64) z)

          go : (d : Bool) → is_set c.m c.n c.g x ≡ d → F.Acted c (Off (Hearing j k x 0)) (done c.u.lay c.ws (drain_act j k)) ((if d then Drain_some c.u.p else Drain_none c.u.p) ∷ [])
          go true is = record {
            runs = ((before, sym bit ∙ is, empty), tt);
            match = match_one c (Drain_some c.u.p) c.match.worker (λ z. absurd (not_free f refl e z)) (drain_act j k) f.within (e, a, b) refl tt no;
            knows = F.off_knows c {r = Hearing j k x 0} (happens (first c) c.f (Drain_some c.u.p)) (λ _. ap (λ z. z.stage) (put_same c.f.processors c.u.p _) ∙ behind) (λ _ _. (c.f.page.posted, sym (rest_found c.f.page.posted j k x 0 (le-leb 0 (c.g % 64) (omega arith)) a b is)));
          }
          go false is = record {
            runs = ((before, sym bit ∙ is, empty), tt);
            match = match_none c (Drain_none c.u.p) c.match.worker c.match.drainer (drain_act j k) f.within refl (λ _. no ∙ sym is ∙ bit);
            knows = F.off_knows c {r = Hearing j k x 0} (happens (first c) c.f (Drain_none c.u.p)) (λ _. ap (λ z. z.stage) (put_same c.f.processors c.u.p _) ∙ behind) (λ _ _. (0, empty ∙ sym (rest_unset 0 j k x 0 is)));
          }

  -- the turn of the notices is given
  pub row_gives_notices : {x : ℕ} → F.RowActs c o (gives_notices {x = x})
  row_gives_notices {x} f = F.only_if c (node_of c.u == c.n) (λ d. on (eqb-true (node_of c.u) c.n d)) (λ off. record {
    runs = tt;
    match = untouched c turn_act f.within (λ i. absurd (cc (sym (eq-eqb (node_of c.u) c.n i) ∙ off)));
    knows = F.off_knows c {r = Taking 0 (replicate 4 0)} c.f (λ e. absurd (cc (sym (eq-eqb (node_of c.u) c.n e) ∙ off))) (λ e d. absurd (cc d));
  })
    where
      on : node_of c.u ≡ c.n → F.Acted c (Off (Taking 0 (replicate 4 0))) (done c.u.lay c.ws turn_act) (Give c.u.p ∷ [])
      on e = let empty = (F.off_hand c f.here e refl).1 in
          record {
            runs = ((F.off_stage c f.here e, empty), tt);
            match = match_none c (Give c.u.p) c.match.worker c.match.drainer turn_act f.within refl (λ _ _. empty);
            knows = F.off_knows c {r = Taking 0 (replicate 4 0)} (happens (first c) c.f (Give c.u.p)) (λ _. ap (λ z. z.stage) (put_same c.f.processors c.u.p _) ∙ sym (if_true (nat_le 0 (group_of c.g)) S.Given (S.Taken (has_page (replicate 4 0) c.g)) (le-leb 0 (group_of c.g) (omega arith)))) (λ _ d. absurd (cc d));
          }

  -- its own words are taken
  pub row_takes : {k x : ℕ} {set : List ℕ} → F.RowActs c o (takes {k = k} {x = x} {set = set})
  row_takes {k} {x} {set} f = F.only_if c (node_of c.u == c.n && k == group_of c.g) (λ d. let z = F.both d in on (eqb-true (node_of c.u) c.n z.0) (eqb-true k (group_of c.g) z.1)) off
    where
      acquire : k ≢ group_of c.g → acquire_view c.m c.n c.g (Off (Taking k set)) ≡ acquire_view c.m c.n c.g (Off (Taking (k + 1) (next_set k x set)))
      acquire ne = ap (λ z. if z then S.Given else S.Taken (has_page set c.g)) (le_next k (group_of c.g) ne) ∙ ap (λ z. if nat_le (k + 1) (group_of c.g) then S.Given else S.Taken z) (set_other c.g k (x % 2 ^ pages_in c.u.lay k) set ne)

      off : (node_of c.u == c.n && k == group_of c.g) ≡ false → F.Acted c (Off (Taking (k + 1) (next_set k x set))) (done c.u.lay c.ws (own_act k)) []
      off d = record {
        runs = tt;
        match = untouched c (own_act k) f.within (λ i. absurd (cc (sym (F.and_true (eq-eqb (node_of c.u) c.n i.0) (eq-eqb k (group_of c.g) i.1)) ∙ d)));
        knows = F.off_same c {r = Taking k set} {t = Taking (k + 1) (next_set k x set)} f.here.knows refl (λ e. acquire (λ b. absurd (cc (sym (F.and_true (eq-eqb (node_of c.u) c.n e) (eq-eqb k (group_of c.g) b)) ∙ d)))) (λ _ _. refl);
      }

      on : node_of c.u ≡ c.n → k ≡ group_of c.g → F.Acted c (Off (Taking (k + 1) (next_set k x set))) (done c.u.lay c.ws (own_act k)) (Take c.u.p ∷ [])
      on e b = record {
        runs = (F.off_stage c f.here e ∙ if_true (nat_le k (group_of c.g)) S.Given (S.Taken (has_page set c.g)) (at_it k (group_of c.g) b), tt);
        match = match_one c (Take c.u.p) c.match.worker c.match.drainer (own_act k) f.within (e, b) refl refl (F.not_true (λ z. no_bit (c.g % 64) z) ∙ sym (ap (λ z. z.own) (put_same c.f.processors c.u.p _)));
        knows = F.off_knows c {r = Taking (k + 1) (next_set k x set)} (happens (first c) c.f (Take c.u.p)) (λ _. ap (λ z. z.stage) (put_same c.f.processors c.u.p _) ∙ sym view) (λ _ d. absurd (cc d));
      }
        where
          view : acquire_view c.m c.n c.g (Off (Taking (k + 1) (next_set k x set))) ≡ S.Taken (c.f.processors c.u.p).own
          view = if_false (nat_le (k + 1) (group_of c.g)) S.Given (S.Taken (has_page (next_set k x set) c.g)) (past_it k (group_of c.g) b) ∙ ap S.Taken (set_same c.u.lay c.g k x set c.g_in c.few f.here.fits b ∙ ap (has_bit c.g) f.told ∙ says c (OwnWord c.u.p k) f.within (e, b))
