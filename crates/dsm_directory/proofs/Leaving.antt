-- Whether a node leaves a page.
use Rattle.std.specs.Prelude.{◌↔◌, IsTrue}
use Rattle.std.proofs.Common.{◌≡◌, ℕ, zero, suc, ◌+◌, ◌==◌, ◌&&◌, Bool, true, false, List, [], ◌∷◌, inl, inr, refl, sym, ◌∙◌, if◌then◌else◌, eqb-true, arith}
use Rattle.std.proofs.lemmas.Bool.{eqb-false}
use Rattle.dsm_words.specs.declared.item.Item.{Item}
use Rattle.dsm_words.specs.declared.item.Item.TheVariants.{Dir, Map, Twined}
use Rattle.dsm_words.specs.Script.{Act, Get, Put, End, Do, Makes}
use Rattle.dsm_words.specs.Answered.{Gave, WasMade}
use Rattle.dsm_directory.specs.Directory.{leave_from}

is_zero : (v : ℕ) → v ≡ 0 → (v == 0) ≡ true
is_zero v e = grind arith

module _ (n g : ℕ) where
  -- of a list that answers d, where all mappings before were none if free
  pub record Leaves (free : Bool) (xs : List (Act × ℕ)) (d : Bool) : Type 0 where
    pub unused : IsTrue d ↔ ((free ≡ true) × ((it : Item) (v : ℕ) → Gave xs (Get it) v → v ≡ 0))
    pub stored : IsTrue d ↔ WasMade xs (Put (Dir n g) 0)

  -- with the answer of the look at the twin
  looked : (x : Act × ℕ) (xs : List (Act × ℕ)) (d t : Bool) → (x.1 == 0) ≡ t → x.0 ≡ Get (Twined n g) → Makes (if t then Do (Put (Dir n g) 0) (λ _. End true) else End false) xs d → Leaves true (x ∷ xs) d
  looked x [] d true e is h = absurd (cc h)
  looked x (y ∷ []) d true e is h = record {
    unused = (λ t. (refl, λ it v. elim [ inl i ↦ sym i.1 ∙ eqb-true x.1 0 e | inr (inl i) ↦ absurd (cc (i.0, h.1)) | inr (inr i) ↦ absurd i ]), λ r. cc h.2);
    stored = (λ t. (y.1, inr (inl (h.1, refl))), λ m. cc h.2);
  }
  looked x (y ∷ z ∷ xs) d true e is h = absurd (cc h.2.0)
  looked x [] d false e is h = record {
    unused = (λ t. absurd (cc (t, h)), λ r. absurd (eqb-false x.1 0 e (r.1 (Twined n g) x.1 (inl (is, refl)))));
    stored = (λ t. absurd (cc (t, h)), λ m. absurd (elim m.1 [ inl i ↦ cc (i.0, is) | inr i ↦ i ]));
  }
  looked x (y ∷ xs) d false e is h = absurd (cc h.0)

  later : (x : Act × ℕ) (xs : List (Act × ℕ)) (q : ℕ) → x.0 ≡ Get (Map q g) → WasMade (x ∷ xs) (Put (Dir n g) 0) → WasMade xs (Put (Dir n g) 0)
  later x xs q is (v, inl e) = absurd (cc (e.0, is))
  later x xs q is (v, inr m) = (v, m)

  both : (u v : Bool) → (u && v) ≡ true → (u ≡ true) × (v ≡ true)
  both true v e = (refl, e)
  both false v e = absurd (cc e)

  and : (u v : Bool) → u ≡ true → v ≡ true → (u && v) ≡ true
  and true v e f = f
  and false v e f = absurd (cc e)

  pub leaves : (k q : ℕ) (free : Bool) (xs : List (Act × ℕ)) (d : Bool) → Makes (leave_from n g q k free) xs d → Leaves free xs d
  leaves zero q false [] d h = record { unused = (λ t. absurd (cc (t, h)), λ r. absurd (cc r.0)); stored = (λ t. absurd (cc (t, h)), λ m. absurd m.1) }
  leaves zero q false (x ∷ xs) d h = absurd (cc h.0)
  leaves zero q true [] d h = absurd (cc h)
  leaves zero q true (x ∷ xs) d h = looked x xs d (x.1 == 0) refl h.1 h.2
  leaves (suc k) q free [] d h = absurd (cc h)
  leaves (suc k) q free (x ∷ xs) d h =
      let s : Leaves (free && x.1 == 0) xs d = leaves k (q + 1) (free && x.1 == 0) xs d h.2 in
      record {
        unused = (
          λ t.
              let r = s.unused.0 t in
              let b = both free (x.1 == 0) r.0 in
              (b.0, λ it v. elim [ inl i ↦ sym i.1 ∙ eqb-true x.1 0 b.1 | inr m ↦ r.1 it v m ]),
          λ r. s.unused.1 (and free (x.1 == 0) r.0 (is_zero x.1 (r.1 (Map q g) x.1 (inl (h.1, refl)))), λ it v m. r.1 it v (inr m)),
        );
        stored = (λ t. ((s.stored.0 t).0, inr (s.stored.0 t).1), λ m. s.stored.1 (later x xs q h.1 m));
      }
