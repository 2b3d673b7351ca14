-- Whom posting tells.
use Rattle.std.specs.Prelude.{◌↔◌, count_by}
use Rattle.std.proofs.Common.{◌≡◌, ◌≢◌, ◌⊎◌, ℕ, zero, suc, ◌+◌, ◌==◌, ◌||◌, Bool, true, false, List, [], ◌∷◌, inl, inr, refl, sym, ap, ◌∙◌, if◌then◌else◌, cond, arith}
use Rattle.std.proofs.lemmas.List.Sums.{sum_by-cons}
use Rattle.dsm_words.specs.declared.item.Item.TheVariants.{Dir, Global}
use Rattle.dsm_words.specs.Pages.{group_of, bit_of}
use Rattle.dsm_words.specs.Script.{Act, Get, Or, Do, Makes}
use Rattle.dsm_words.specs.Answered.{Gave, WasMade}
use Rattle.dsm_notice.specs.Notices.{post_from}
use Rattle.dsm_notice.specs.Posting.{is_or}

is_skipped : (v m n h : ℕ) → (v == 0 || m == n || m == h) ≡ true → m ≢ n → m ≢ h → v ≢ 0 → ⊥
is_skipped v m n h e a b c = grind arith

is_told : (v m n h : ℕ) → (v == 0 || m == n || m == h) ≡ false → (m ≢ n) × (m ≢ h) × (v ≢ 0)
is_told v m n h e = (grind arith, grind arith, grind arith)

abbrev pub ors : List (Act × ℕ) → ℕ
ors xs = count_by (λ x. is_or x.0) xs

ors_with : (x : Act × ℕ) (xs : List (Act × ℕ)) (b : Bool) → is_or x.0 ≡ b → ors (x ∷ xs) ≡ cond b 1 0 + ors xs
ors_with x xs b e = sum_by-cons (λ y. cond (is_or y.0) 1 0) x xs ∙ ap (λ t. cond t 1 0 + ors xs) e

module _ (n g h : ℕ) where
  -- the notice for node m
  abbrev pub telling : ℕ → Act
  telling m = Or (Global m n (group_of g)) (bit_of g)

  -- node m is another one, and not the home, and uses the page
  abbrev pub Uses : List (Act × ℕ) → ℕ → Type 0
  Uses xs m = (m ≢ n) × (m ≢ h) × ((v : ℕ) × (v ≢ 0) × Gave xs (Get (Dir m g)) v)

  -- of a list that answers r, where so many were told before
  pub record Tells (told : ℕ) (xs : List (Act × ℕ)) (r : ℕ) : Type 0 where
    pub count : r ≡ told + ors xs
    pub tells : (m : ℕ) → WasMade xs (telling m) ↔ Uses xs m

  -- a further operation
  passed : (p : ℕ) (x : Act × ℕ) (xs : List (Act × ℕ)) → Uses xs p → Uses (x ∷ xs) p
  passed p x xs (a, b, (v, c, d)) = (a, b, (v, c, inr d))

  -- behind a load
  later : (p : ℕ) (x : Act × ℕ) (xs : List (Act × ℕ)) (m : ℕ) → x.0 ≡ Get (Dir m g) → WasMade (x ∷ xs) (telling p) → WasMade xs (telling p)
  later p x xs m is (v, inl e) = absurd (cc (e.0, is))
  later p x xs m is (v, inr e) = (v, e)

  skipped : (p : ℕ) (x : Act × ℕ) (xs : List (Act × ℕ)) (m : ℕ) → x.0 ≡ Get (Dir m g) → (m ≢ n → m ≢ h → x.1 ≢ 0 → ⊥) → Uses (x ∷ xs) p → Uses xs p
  skipped p x xs m is none (a, b, (v, c, inl d)) = let same : p ≡ m = cc (d.0, is) in absurd (none (λ q. a (same ∙ q)) (λ q. b (same ∙ q)) (λ q. c (sym d.1 ∙ q)))
  skipped p x xs m is none (a, b, (v, c, inr d)) = (a, b, (v, c, d))

  -- and behind the notice for node m
  at : (p : ℕ) (x y : Act × ℕ) (xs : List (Act × ℕ)) (m : ℕ) → x.0 ≡ Get (Dir m g) → y.0 ≡ telling m → WasMade (x ∷ y ∷ xs) (telling p) → (m ≡ p) ⊎ WasMade xs (telling p)
  at p x y xs m is also (v, inl e) = absurd (cc (e.0, is))
  at p x y xs m is also (v, inr (inl e)) = inl (cc (e.0, also))
  at p x y xs m is also (v, inr (inr e)) = inr (v, e)

  told_or : (p : ℕ) (x y : Act × ℕ) (xs : List (Act × ℕ)) (m : ℕ) → x.0 ≡ Get (Dir m g) → y.0 ≡ telling m → Uses (x ∷ y ∷ xs) p → (Uses xs p → WasMade xs (telling p)) → WasMade (x ∷ y ∷ xs) (telling p)
  told_or p x y xs m is also (a, b, (v, c, inl d)) ih = let same : p ≡ m = cc (d.0, is) in (y.1, inr (inl (cc (also, same), refl)))
  told_or p x y xs m is also (a, b, (v, c, inr (inl d))) ih = absurd (cc (d.0, also))
  told_or p x y xs m is also (a, b, (v, c, inr (inr d))) ih = let w = ih (a, b, (v, c, d)) in (w.0, inr (inr w.1))

  -- behind node m, whose word was the answer of x
  behind : (k m told : ℕ) (x : Act × ℕ) (xs : List (Act × ℕ)) (r : ℕ) (t : Bool) → ((told : ℕ) (xs : List (Act × ℕ)) → Makes (post_from n g h (m + 1) k told) xs r → Tells told xs r) → (x.1 == 0 || m == n || m == h) ≡ t → x.0 ≡ Get (Dir m g) → Makes (if t then post_from n g h (m + 1) k told else Do (telling m) (λ _. post_from n g h (m + 1) k (told + 1))) xs r → Tells told (x ∷ xs) r
  behind k m told x xs r true ih e is made =
      let s : Tells told xs r = ih told xs made in
      record {
        count = omega (arith, s.count, ors_with x xs false (ap is_or is));
        tells = λ p. (λ w. passed p x xs ((s.tells p).0 (later p x xs m is w)), λ u. let w = (s.tells p).1 (skipped p x xs m is (is_skipped x.1 m n h e) u) in (w.0, inr w.1));
      }
  behind k m told x [] r false ih e is made = absurd (cc made)
  behind k m told x (y ∷ xs) r false ih e is made =
      let s : Tells (told + 1) xs r = ih (told + 1) xs made.2 in
      let f = is_told x.1 m n h e in
      record {
        count = omega (arith, s.count, ors_with x (y ∷ xs) false (ap is_or is), ors_with y xs true (ap is_or made.1));
        tells = λ p. (λ w. elim (at p x y xs m is made.1 w) [ inl i ↦ (λ q. f.0 (i ∙ q), λ q. f.1 (i ∙ q), (x.1, f.2, inl (cc (is, i), refl))) | inr i ↦ passed p x (y ∷ xs) (passed p y xs ((s.tells p).0 i)) ], λ u. told_or p x y xs m is made.1 u (s.tells p).1);
      }

  pub posts : (k m told : ℕ) (xs : List (Act × ℕ)) (r : ℕ) → Makes (post_from n g h m k told) xs r → Tells told xs r
  posts zero m told [] r made = record { count = let e : told ≡ r = cc made in omega arith; tells = λ p. (λ w. absurd w.1, λ u. absurd u.2.2) }
  posts zero m told (x ∷ xs) r made = absurd (cc made.0)
  posts (suc k) m told [] r made = absurd (cc made)
  posts (suc k) m told (x ∷ xs) r made = behind k m told x xs r (x.1 == 0 || m == n || m == h) (λ t ys i. posts k (m + 1) t ys r i) refl made.1 made.2
