-- Which node has a page alone.
use Rattle.std.specs.Prelude.{◌↔◌}
use Rattle.std.proofs.Common.{◌≡◌, ◌≢◌, ℕ, zero, suc, ◌+◌, ◌==◌, Bool, true, false, List, [], ◌∷◌, Option, None, Some, inl, inr, refl, if◌then◌else◌, eqb-true}
use Rattle.std.proofs.lemmas.Bool.{eqb-false}
use Rattle.dsm_words.specs.declared.item.Item.TheVariants.{Dir}
use Rattle.dsm_words.specs.Script.{Act, Get, End, Makes}
use Rattle.dsm_words.specs.Answered.{Gave}
use Rattle.dsm_directory.specs.Directory.{holder_from}

module _ (g : ℕ) where
  pub record Holds (xs : List (Act × ℕ)) (r : Option ℕ) : Type 0 where
    pub none : (r ≡ None) ↔ ((m : ℕ) → Gave xs (Get (Dir m g)) 2 → ⊥)
    pub some : (m : ℕ) → (r ≡ Some m) ↔ Gave xs (Get (Dir m g)) 2

  -- behind node m, whose word was the answer of x
  behind : (k m : ℕ) (x : Act × ℕ) (xs : List (Act × ℕ)) (r : Option ℕ) (t : Bool) → (Makes (holder_from g (m + 1) k) xs r → Holds xs r) → (x.1 == 2) ≡ t → x.0 ≡ Get (Dir m g) → Makes (if t then End (Some m) else holder_from g (m + 1) k) xs r → Holds (x ∷ xs) r
  behind k m x [] r true ih e is h = record {
    none = (λ n. absurd (cc (n, h)), λ f. absurd (f m (inl (is, eqb-true x.1 2 e))));
    some = λ p. (λ s. inl (cc (s, h, is), eqb-true x.1 2 e), elim [ inl i ↦ cc (i.0, is, h) | inr i ↦ absurd i ]);
  }
  behind k m x (y ∷ xs) r true ih e is h = absurd (cc h.0)
  behind k m x xs r false ih e is h =
      let s : Holds xs r = ih h in
      let other : x.1 ≢ 2 = eqb-false x.1 2 e in
      record {
        none = (λ n p. elim [ inl i ↦ other i.1 | inr i ↦ s.none.0 n p i ], λ f. s.none.1 (λ p i. f p (inr i)));
        some = λ p. (λ q. inr ((s.some p).0 q), elim [ inl i ↦ absurd (other i.1) | inr i ↦ (s.some p).1 i ]);
      }

  pub holds : (k m : ℕ) (xs : List (Act × ℕ)) (r : Option ℕ) → Makes (holder_from g m k) xs r → Holds xs r
  holds zero m [] r h = record { none = (λ n p i. i, λ f. cc h); some = λ p. (λ s. absurd (cc (s, h)), λ i. absurd i) }
  holds zero m (x ∷ xs) r h = absurd (cc h.0)
  holds (suc k) m [] r h = absurd (cc h)
  holds (suc k) m (x ∷ xs) r h = behind k m x xs r (x.1 == 2) (λ i. holds k (m + 1) xs r i) refl h.1 h.2
