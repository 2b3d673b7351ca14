-- What the words of all nodes tell.
use Rattle.std.specs.Prelude.{◌↔◌, IsTrue, bit_or}
use Rattle.std.specs.Int.{bit_at}
use Rattle.std.proofs.Common.{◌≡◌, ◌≢◌, ◌⊎◌, ℕ, zero, suc, ◌+◌, ◌^◌, ◌<◌, ◌≤◌, ◌==◌, ◌||◌, not, Bool, true, false, List, [], ◌∷◌, inl, inr, refl, sym, ap, ◌∙◌, if◌then◌else◌, eqb-true, arith}
use Rattle.std.proofs.lemmas.Bool.{eqb-false}
use Rattle.std.proofs.lemmas.Nat.Bits.{bit_at_or, bit_at-pow_same, bit_at-pow_other, bit_at-lt}
use Rattle.dsm_words.specs.declared.item.Item.TheVariants.{Dir}
use Rattle.dsm_words.specs.Script.{Act, Get, Makes}
use Rattle.dsm_words.specs.Answered.{Gave}
use Rattle.dsm_directory.specs.declared.row.Row.{Row}
use Rattle.dsm_directory.specs.Directory.{row_with, is_busy, sharers_from}
use Rattle.dsm_directory.specs.Laws.{OtherUses}

-- one word: seen by node n, node m's was v
own_same : (n m v : ℕ) (row : Row) → m ≡ n → (row_with n m v row).own ≡ v
own_same n m v row e = grind arith

own_other : (n m v : ℕ) (row : Row) → m ≢ n → (row_with n m v row).own ≡ row.own
own_other n m v row e = grind arith

or_used : (o : Bool) (v : ℕ) → IsTrue (o || not (v == 0)) ↔ (IsTrue o ⊎ (v ≢ 0))
or_used true v = (λ t. inl refl, λ t. refl)
or_used false v = (λ t. inr (grind arith), elim [ inl e ↦ absurd (cc e) | inr e ↦ grind arith ])

others_with : (n m v : ℕ) (row : Row) → IsTrue (row_with n m v row).others ↔ (IsTrue row.others ⊎ ((m ≢ n) × (v ≢ 0)))
others_with n m v row = go (m == n) refl
  where
    go : (t : Bool) → (m == n) ≡ t → IsTrue (if t then record row { own = v } else record row { others = row.others || not (v == 0); busy = if v == 2 || v == 3 then bit_or row.busy (2 ^ m) else row.busy }).others ↔ (IsTrue row.others ⊎ ((m ≢ n) × (v ≢ 0)))
    go true e = (λ i. inl i, elim [ inl i ↦ i | inr r ↦ absurd (r.0 (eqb-true m n e)) ])
    go false e =
        let o = or_used row.others v in
        (λ i. elim (o.0 i) [ inl j ↦ inl j | inr j ↦ inr (eqb-false m n e, j) ], elim [ inl j ↦ o.1 (inl j) | inr j ↦ o.1 (inr j.1) ])

bit_same : (busy m : ℕ) → bit_at (bit_or busy (2 ^ m)) m ≡ 1
bit_same busy m = omega (arith, bit_at_or busy (2 ^ m) m, bit_at-pow_same m, bit_at-lt busy m)

bit_other : (busy m b : ℕ) → b ≢ m → bit_at (bit_or busy (2 ^ m)) b ≡ bit_at busy b
bit_other busy m b e = omega (arith, bit_at_or busy (2 ^ m) b, bit_at-pow_other m b e)

set_bit : (busy m b : ℕ) → IsTrue (is_busy (bit_or busy (2 ^ m)) b) ↔ (IsTrue (is_busy busy b) ⊎ (b ≡ m))
set_bit busy m b = go (b == m) refl
  where
    go : (t : Bool) → (b == m) ≡ t → IsTrue (is_busy (bit_or busy (2 ^ m)) b) ↔ (IsTrue (is_busy busy b) ⊎ (b ≡ m))
    go true e = let is : b ≡ m = eqb-true b m e in (λ t. inr is, λ t. rw is (ap (λ x. x == 1) (bit_same busy m)))
    go false e = let same = ap (λ x. x == 1) (bit_other busy m b (eqb-false b m e)) in (λ t. inl (sym same ∙ t), elim [ inl t ↦ same ∙ t | inr i ↦ absurd (eqb-false b m e i) ])

two_or_three : (v : ℕ) → IsTrue (v == 2 || v == 3) ↔ ((v ≡ 2) ⊎ (v ≡ 3))
two_or_three v = (λ t. grind arith, elim [ inl e ↦ grind arith | inr e ↦ grind arith ])

busy_with : (n m v b : ℕ) (row : Row) → IsTrue (is_busy (row_with n m v row).busy b) ↔ (IsTrue (is_busy row.busy b) ⊎ ((b ≡ m) × (m ≢ n) × ((v ≡ 2) ⊎ (v ≡ 3))))
busy_with n m v b row = go (m == n) refl
  where
    Wanted : ℕ → Type 0
    Wanted busy = IsTrue (is_busy busy b) ↔ (IsTrue (is_busy row.busy b) ⊎ ((b ≡ m) × (m ≢ n) × ((v ≡ 2) ⊎ (v ≡ 3))))

    inner : m ≢ n → (t : Bool) → (v == 2 || v == 3) ≡ t → Wanted (if t then bit_or row.busy (2 ^ m) else row.busy)
    inner other true e = (λ i. elim ((set_bit row.busy m b).0 i) [ inl j ↦ inl j | inr j ↦ inr (j, other, (two_or_three v).0 e) ], elim [ inl j ↦ (set_bit row.busy m b).1 (inl j) | inr j ↦ (set_bit row.busy m b).1 (inr j.0) ])
    inner other false e = (λ i. inl i, elim [ inl j ↦ j | inr j ↦ absurd (cc (e, (two_or_three v).1 j.2)) ])

    go : (t : Bool) → (m == n) ≡ t → Wanted (if t then record row { own = v } else record row { others = row.others || not (v == 0); busy = if v == 2 || v == 3 then bit_or row.busy (2 ^ m) else row.busy }).busy
    go true e = (λ i. inl i, elim [ inl i ↦ i | inr r ↦ absurd (r.1 (eqb-true m n e)) ])
    go false e = inner (eqb-false m n e) (v == 2 || v == 3) refl

module _ (n g : ℕ) where
  -- of a list behind which the row is r, and was row before
  pub record Shares (row : Row) (xs : List (Act × ℕ)) (r : Row) : Type 0 where
    pub others : IsTrue r.others ↔ (IsTrue row.others ⊎ OtherUses n g xs)
    pub busy : (b : ℕ) → IsTrue (is_busy r.busy b) ↔ (IsTrue (is_busy row.busy b) ⊎ ((b ≢ n) × (Gave xs (Get (Dir b g)) 2 ⊎ Gave xs (Get (Dir b g)) 3)))

  more : (x : Act × ℕ) (xs : List (Act × ℕ)) → OtherUses n g xs → OtherUses n g (x ∷ xs)
  more x xs (m, v, a, b, c) = (m, v, a, b, inr c)

  less : (x : Act × ℕ) (xs : List (Act × ℕ)) (m : ℕ) → x.0 ≡ Get (Dir m g) → OtherUses n g (x ∷ xs) → ((m ≢ n) × (x.1 ≢ 0)) ⊎ OtherUses n g xs
  less x xs m is (p, v, a, b, inl c) = let same : p ≡ m = cc (c.0, is) in inl (λ e. a (same ∙ e), λ e. b (sym c.1 ∙ e))
  less x xs m is (p, v, a, b, inr c) = inr (p, v, a, b, c)

  -- the word of the first node, as one of all
  here : (x : Act × ℕ) (xs : List (Act × ℕ)) (m b : ℕ) → x.0 ≡ Get (Dir m g) → (b ≡ m) × (m ≢ n) × ((x.1 ≡ 2) ⊎ (x.1 ≡ 3)) → (b ≢ n) × (Gave (x ∷ xs) (Get (Dir b g)) 2 ⊎ Gave (x ∷ xs) (Get (Dir b g)) 3)
  here x xs m b is (e, other, v) =
      let same : x.0 ≡ Get (Dir b g) = cc (is, e) in
      (λ q. other (sym e ∙ q), elim v [ inl i ↦ inl (inl (same, i)) | inr i ↦ inr (inl (same, i)) ])

  there : (x : Act × ℕ) (xs : List (Act × ℕ)) (m b : ℕ) → x.0 ≡ Get (Dir m g) → (b ≢ n) × (Gave (x ∷ xs) (Get (Dir b g)) 2 ⊎ Gave (x ∷ xs) (Get (Dir b g)) 3) → ((b ≡ m) × (m ≢ n) × ((x.1 ≡ 2) ⊎ (x.1 ≡ 3))) ⊎ ((b ≢ n) × (Gave xs (Get (Dir b g)) 2 ⊎ Gave xs (Get (Dir b g)) 3))
  there x xs m b is (other, inl (inl i)) = let same : b ≡ m = cc (i.0, is) in inl (same, λ e. other (same ∙ e), inl i.1)
  there x xs m b is (other, inl (inr i)) = inr (other, inl i)
  there x xs m b is (other, inr (inl i)) = let same : b ≡ m = cc (i.0, is) in inl (same, λ e. other (same ∙ e), inr i.1)
  there x xs m b is (other, inr (inr i)) = inr (other, inr i)

  none : OtherUses n g [] → ⊥
  none (p, v, a, b, c) = c

  pub shares : (k m : ℕ) (row r : Row) (xs : List (Act × ℕ)) → Makes (sharers_from n g m k row) xs r → Shares row xs r
  shares zero m row r [] h =
      let e : row ≡ r = cc h in
      record {
        others = (λ t. inl (ap (λ x. x.others) e ∙ t), elim [ inl t ↦ sym (ap (λ x. x.others) e) ∙ t | inr a ↦ absurd (none a) ]);
        busy = λ b. (λ t. inl (ap (λ x. is_busy x.busy b) e ∙ t), elim [ inl t ↦ sym (ap (λ x. is_busy x.busy b) e) ∙ t | inr a ↦ absurd (elim a.1 [ inl i ↦ i | inr i ↦ i ]) ]);
      }
  shares zero m row r (x ∷ xs) h = absurd (cc h.0)
  shares (suc k) m row r [] h = absurd (cc h)
  shares (suc k) m row r (x ∷ xs) h =
      let s : Shares (row_with n m x.1 row) xs r = shares k (m + 1) (row_with n m x.1 row) r xs h.2 in
      let o = others_with n m x.1 row in
      record {
        others = (
          λ t. elim (s.others.0 t) [ inl i ↦ elim (o.0 i) [ inl j ↦ inl j | inr j ↦ inr (m, x.1, j.0, j.1, inl (h.1, refl)) ] | inr a ↦ inr (more x xs a) ],
          elim [ inl i ↦ s.others.1 (inl (o.1 (inl i))) | inr a ↦ elim (less x xs m h.1 a) [ inl i ↦ s.others.1 (inl (o.1 (inr i))) | inr i ↦ s.others.1 (inr i) ] ],
        );
        busy = λ b. (
          λ t. elim ((s.busy b).0 t) [
            | inl i ↦ elim ((busy_with n m x.1 b row).0 i) [ inl j ↦ inl j | inr j ↦ inr (here x xs m b h.1 j) ]
            | inr a ↦ inr (a.0, elim a.1 [ inl i ↦ inl (inr i) | inr i ↦ inr (inr i) ])
          ],
          elim [ inl i ↦ (s.busy b).1 (inl ((busy_with n m x.1 b row).1 (inl i))) | inr a ↦ elim (there x xs m b h.1 a) [ inl i ↦ (s.busy b).1 (inl ((busy_with n m x.1 b row).1 (inr i))) | inr i ↦ (s.busy b).1 (inr i) ] ],
        );
      }

  -- the own word, where its node is not read any more, and where it still is
  own_kept : (k m : ℕ) (row r : Row) (xs : List (Act × ℕ)) → n < m → Makes (sharers_from n g m k row) xs r → r.own ≡ row.own
  own_kept zero m row r [] q h = let e : row ≡ r = cc h in sym (ap (λ (x : Row). x.own) e)
  own_kept zero m row r (x ∷ xs) q h = absurd (cc h.0)
  own_kept (suc k) m row r [] q h = absurd (cc h)
  own_kept (suc k) m row r (x ∷ xs) q h = own_kept k (m + 1) (row_with n m x.1 row) r xs (omega arith) h.2 ∙ own_other n m x.1 row (omega arith)

  pub own_read : (k m : ℕ) (row r : Row) (xs : List (Act × ℕ)) → m ≤ n → n < m + k → Makes (sharers_from n g m k row) xs r → Gave xs (Get (Dir n g)) r.own
  own_read zero m row r xs p q h = absurd (omega arith)
  own_read (suc k) m row r [] p q h = absurd (cc h)
  own_read (suc k) m row r (x ∷ xs) p q h = go (m == n) (λ less. own_read k (m + 1) (row_with n m x.1 row) r xs less (omega arith) h.2) refl
    where
      go : (t : Bool) → (m + 1 ≤ n → Gave xs (Get (Dir n g)) r.own) → (m == n) ≡ t → Gave (x ∷ xs) (Get (Dir n g)) r.own
      go true ih e = let is : m ≡ n = eqb-true m n e in inl (cc (h.1, is), sym (own_kept k (m + 1) (row_with n m x.1 row) r xs (omega arith) h.2 ∙ own_same n m x.1 row is))
      go false ih e = inr (ih (omega (arith, eqb-false m n e)))
