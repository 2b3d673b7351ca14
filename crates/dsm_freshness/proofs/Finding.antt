-- Places in lists: where two splits of a list meet, and an item of what is gathered found back where it comes from.
use Rattle.std.proofs.Common.{◌≡◌, ◌≢◌, ◌⊎◌, inl, inr, List, [], ◌∷◌, ◌++◌, refl, sym, ap, ◌∙◌, append_assoc}

module _ {A : Type 0} where
  -- an item behind some is there: within the first of two lists, or in the second
  pub halves : (ks js xs : List A) (d : A) (ys : List A) → ks ++ js ≡ xs ++ (d ∷ ys) → ((us : List A) × (ks ≡ xs ++ (d ∷ us)) × (ys ≡ us ++ js)) ⊎ ((us : List A) × (xs ≡ ks ++ us) × (js ≡ us ++ (d ∷ ys)))
  halves [] js xs d ys e = inr (xs, refl, e)
  halves (a ∷ ks) js [] d ys e = inl (ks, cc e, cc e)
  halves (a ∷ ks) js (x ∷ xs) d ys e = go (halves ks js xs d ys (cc e))
    where
      go : ((us : List A) × (ks ≡ xs ++ (d ∷ us)) × (ys ≡ us ++ js)) ⊎ ((us : List A) × (xs ≡ ks ++ us) × (js ≡ us ++ (d ∷ ys)))
          → ((us : List A) × (a ∷ ks ≡ (x ∷ xs) ++ (d ∷ us)) × (ys ≡ us ++ js)) ⊎ ((us : List A) × (x ∷ xs ≡ (a ∷ ks) ++ us) × (js ≡ us ++ (d ∷ ys)))
      go (inl h) = inl (h.0, cc (e, h.1), h.2)
      go (inr h) = inr (h.0, cc (e, h.1), h.2)

  -- an item that is not the last one is before it
  pub before_last : (ks : List A) (b : A) (xs : List A) (d : A) (ys : List A) → ks ++ (b ∷ []) ≡ xs ++ (d ∷ ys) → b ≢ d → (us : List A) × (ks ≡ xs ++ (d ∷ us))
  before_last ks b xs d ys e ne = go (halves ks (b ∷ []) xs d ys e)
    where
      last : (us : List A) → b ∷ [] ≡ us ++ (d ∷ ys) → ⊥
      last [] h = ne (cc h)
      last (u ∷ []) h = cc h
      last (u ∷ (v ∷ us)) h = cc h

      go : ((us : List A) × (ks ≡ xs ++ (d ∷ us)) × (ys ≡ us ++ (b ∷ []))) ⊎ ((us : List A) × (xs ≡ ks ++ us) × (b ∷ [] ≡ us ++ (d ∷ ys))) → (us : List A) × (ks ≡ xs ++ (d ∷ us))
      go (inl h) = (h.0, h.1)
      go (inr h) = absurd (last h.0 h.2)

module _ {A B : Type 0} (f : B → List A) where
  -- what the items of a list give, one behind the other
  abbrev pub gather : List B → List A
  gather [] = []
  gather (k ∷ ks) = f k ++ gather ks

  pub gather_append : (ks js : List B) → gather (ks ++ js) ≡ gather ks ++ gather js
  gather_append [] js = refl
  gather_append (k ∷ ks) js = ap (λ z. f k ++ z) (gather_append ks js) ∙ sym (append_assoc (f k) (gather ks) (gather js))

  pub gather_at : (ks before : List B) (k : B) (behind : List B) (a : A) → ks ≡ before ++ (k ∷ behind) → f k ≡ a ∷ [] → gather ks ≡ gather before ++ (a ∷ gather behind)
  gather_at ks before k behind a e h = ap gather e ∙ (gather_append before (k ∷ behind) ∙ ap (λ z. gather before ++ (z ++ gather behind)) h)

  -- nothing, or one thing
  abbrev pub AtMostOne : List A → Type 0
  AtMostOne xs = (xs ≡ []) ⊎ ((a : A) × (xs ≡ a ∷ []))

  -- a gathered item comes from this place
  pub record Source (ks : List B) (xs : List A) (a : A) (ys : List A) : Type 0 where
    pub before : List B
    pub at : B
    pub behind : List B
    pub is : ks ≡ before ++ (at ∷ behind)
    pub gives : f at ≡ a ∷ []
    pub first : gather before ≡ xs
    pub rest : gather behind ≡ ys

  pub find : ((k : B) → AtMostOne (f k)) → (ks : List B) (xs : List A) (a : A) (ys : List A) → gather ks ≡ xs ++ (a ∷ ys) → Source ks xs a ys
  find one [] [] a ys e = absurd (cc e)
  find one [] (x ∷ xs) a ys e = absurd (cc e)
  find one (k ∷ ks) xs a ys e = go (λ zs h. find one ks zs a ys h) (one k)
    where
      more : (zs : List A) → f k ++ zs ≡ xs → Source ks zs a ys → Source (k ∷ ks) xs a ys
      more zs h c = record { before = k ∷ c.before; at = c.at; behind = c.behind; is = ap (λ z. k ∷ z) c.is; gives = c.gives; first = ap (λ z. f k ++ z) c.first ∙ h; rest = c.rest }

      here : ((zs : List A) → gather ks ≡ zs ++ (a ∷ ys) → Source ks zs a ys) → (b : A) → f k ≡ b ∷ [] → (zs : List A) → zs ≡ xs → b ∷ gather ks ≡ zs ++ (a ∷ ys) → Source (k ∷ ks) xs a ys
      here ih b h [] i z = record { before = []; at = k; behind = ks; is = refl; gives = cc (h, z); first = i; rest = cc z }
      here ih b h (c ∷ zs) i z = more zs (ap (λ y. y ++ zs) h ∙ (cc (z, i))) (ih zs (cc z))

      go : ((zs : List A) → gather ks ≡ zs ++ (a ∷ ys) → Source ks zs a ys) → AtMostOne (f k) → Source (k ∷ ks) xs a ys
      go ih (inl h) = more xs (ap (λ z. z ++ xs) h) (ih xs (sym (ap (λ z. z ++ gather ks) h) ∙ e))
      go ih (inr h) = here ih h.0 h.1 xs refl (sym (ap (λ z. z ++ gather ks) h.1) ∙ e)
