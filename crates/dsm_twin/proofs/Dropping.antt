-- What dropping a twin depends on.
use Rattle.std.specs.Prelude.{◌↔◌, IsTrue}
use Rattle.std.proofs.Common.{◌≡◌, ◌≢◌, ℕ, zero, suc, ◌+◌, ◌==◌, ◌&&◌, not, Bool, true, false, List, [], ◌∷◌, inl, inr, refl, arith}
use Rattle.dsm_words.specs.declared.item.Item.TheVariants.{Map, Dir, Twined}
use Rattle.dsm_words.specs.Script.{Act, Get, Put, Makes}
use Rattle.dsm_words.specs.Answered.{Gave, WasMade}
use Rattle.dsm_twin.specs.Twins.{drop_twin_from}

both : (u v : Bool) → (u && v) ≡ true → (u ≡ true) × (v ≡ true)
both true v e = (refl, e)
both false v e = absurd (cc e)

and : (u v : Bool) → u ≡ true → v ≡ true → (u && v) ≡ true
and true v e f = f
and false v e f = absurd (cc e)

is_not : (v w : ℕ) → not (v == w) ≡ true → v ≢ w
is_not v w e = grind arith

not_is : (v w : ℕ) → v ≢ w → not (v == w) ≡ true
not_is v w e = grind arith

is : (v w : ℕ) → v ≡ w → (v == w) ≡ true
is v w e = grind arith

same : (v w : ℕ) → (v == w) ≡ true → v ≡ w
same v w e = grind arith

module _ (n g : ℕ) where
  -- of a list that drops d, where no mapping before was for writing if u, and all were none if free
  pub record Drops (u free : Bool) (xs : List (Act × ℕ)) (d : Bool) : Type 0 where
    pub unwritten : IsTrue d ↔ ((u ≡ true) × ((q : ℕ) → Gave xs (Get (Map q g)) 2 → ⊥))
    pub stored : IsTrue d ↔ WasMade xs (Put (Twined n g) 0)
    pub left : WasMade xs (Put (Dir n g) 0) ↔ ((u ≡ true) × (free ≡ true) × ((q v : ℕ) → Gave xs (Get (Map q g)) v → v ≡ 0))

  -- behind the last processor
  ends : (q : ℕ) (u free : Bool) (xs : List (Act × ℕ)) (d : Bool) → Makes (drop_twin_from n g q 0 u free) xs d → Drops u free xs d
  ends q false free [] d h = record {
    unwritten = (λ t. absurd (cc (t, h)), λ r. absurd (cc r.0));
    stored = (λ t. absurd (cc (t, h)), λ m. absurd m.1);
    left = (λ m. absurd m.1, λ r. absurd (cc r.0));
  }
  ends q false free (x ∷ xs) d h = absurd (cc h.0)
  ends q true free [] d h = absurd (cc h)
  ends q true true (x ∷ []) d h = absurd (cc h.2)
  ends q true true (x ∷ y ∷ []) d h = record {
    unwritten = (λ t. (refl, λ p. elim [ inl e ↦ absurd (cc (e.0, h.1)) | inr (inl e) ↦ absurd (cc (e.0, h.2.1)) | inr (inr e) ↦ e ]), λ r. cc h.2.2);
    stored = (λ t. (x.1, inl (h.1, refl)), λ m. cc h.2.2);
    left = (λ m. (refl, refl, λ p v. elim [ inl e ↦ absurd (cc (e.0, h.1)) | inr (inl e) ↦ absurd (cc (e.0, h.2.1)) | inr (inr e) ↦ absurd e ]), λ r. (y.1, inr (inl (h.2.1, refl))));
  }
  ends q true true (x ∷ y ∷ z ∷ xs) d h = absurd (cc h.2.2.0)
  ends q true false (x ∷ []) d h = record {
    unwritten = (λ t. (refl, λ p. elim [ inl e ↦ absurd (cc (e.0, h.1)) | inr e ↦ e ]), λ r. cc h.2);
    stored = (λ t. (x.1, inl (h.1, refl)), λ m. cc h.2);
    left = (λ m. absurd (elim m.1 [ inl e ↦ cc (e.0, h.1) | inr e ↦ e ]), λ r. absurd (cc r.1));
  }
  ends q true false (x ∷ y ∷ xs) d h = absurd (cc h.2.0)

  -- it made no store in a load
  later : (x : Act × ℕ) (xs : List (Act × ℕ)) (q : ℕ) (a : Act) → x.0 ≡ Get (Map q g) → a ≢ Get (Map q g) → WasMade (x ∷ xs) a → WasMade xs a
  later x xs q a is other (v, inl e) = absurd (other (cc (e.0, is)))
  later x xs q a is other (v, inr m) = (v, m)

  pub drops : (k q : ℕ) (u free : Bool) (xs : List (Act × ℕ)) (d : Bool) → Makes (drop_twin_from n g q k u free) xs d → Drops u free xs d
  drops zero q u free xs d h = ends q u free xs d h
  drops (suc k) q u free [] d h = absurd (cc h)
  drops (suc k) q u free (x ∷ xs) d h =
      let s : Drops (u && not (x.1 == 2)) (free && x.1 == 0) xs d = drops k (q + 1) (u && not (x.1 == 2)) (free && x.1 == 0) xs d h.2 in
      record {
        unwritten = (
          λ t.
              let r = s.unwritten.0 t in
              let b = both u (not (x.1 == 2)) r.0 in
              (b.0, λ p. elim [ inl e ↦ is_not x.1 2 b.1 e.1 | inr m ↦ r.1 p m ]),
          λ r. s.unwritten.1 (and u (not (x.1 == 2)) r.0 (not_is x.1 2 (λ e. r.1 q (inl (h.1, e)))), λ p m. r.1 p (inr m)),
        );
        stored = (λ t. ((s.stored.0 t).0, inr (s.stored.0 t).1), λ m. s.stored.1 (later x xs q (Put (Twined n g) 0) h.1 (λ e. absurd (cc e)) m));
        left = (
          λ m.
              let r = s.left.0 (later x xs q (Put (Dir n g) 0) h.1 (λ e. absurd (cc e)) m) in
              let b = both free (x.1 == 0) r.1 in
              ((both u (not (x.1 == 2)) r.0).0, b.0, λ p v. elim [ inl e ↦ cc (e.1, same x.1 0 b.1) | inr t ↦ r.2 p v t ]),
          λ r.
              let z : x.1 ≡ 0 = r.2 q x.1 (inl (h.1, refl)) in
              let m = s.left.1 (and u (not (x.1 == 2)) r.0 (not_is x.1 2 (λ e. absurd (cc (e, z)))), and free (x.1 == 0) r.1 (is x.1 0 z), λ p v t. r.2 p v (inr t)) in
              (m.0, inr m.1),
        );
      }
