-- Two objects are the same or not.
use Rattle.std.proofs.Common.{◌≡◌, ◌≢◌, ℕ, zero, suc, ◌⊎◌, Bool, true, false, refl, sym, ap, ◌∙◌, inl, inr, ◌==◌}
use Rattle.std.specs.Prelude.{◌&&◌}
use Rattle.std.proofs.lemmas.Bool.{cases_Bool, and_parts, and_from, eq-eqb, eqb-true}
use Rattle.dsm_entry.specs.declared.entry.Obj.{Obj}
use Rattle.dsm_entry.specs.declared.entry.Obj.TheVariants.{Lock, Barrier, Flag, Close}

-- a number for each kind of object
abbrev pub kind : Obj → ℕ
kind (Lock l) = 0
kind (Barrier b) = 1
kind (Flag f) = 2
kind Close = 3

-- the number of an object among those of its kind
abbrev pub number : Obj → ℕ
number (Lock l) = l
number (Barrier b) = b
number (Flag f) = f
number Close = 0

-- the object of this kind and number
abbrev pub made : ℕ → ℕ → Obj
made zero n = Lock n
made (suc zero) n = Barrier n
made (suc (suc zero)) n = Flag n
made (suc (suc (suc k))) n = Close

-- whether two objects are the same
abbrev pub same_obj : Obj → Obj → Bool
same_obj a b = (kind a == kind b) && (number a == number b)

made_again : (a : Obj) → made (kind a) (number a) ≡ a
made_again (Lock l) = refl
made_again (Barrier b) = refl
made_again (Flag f) = refl
made_again Close = refl

pub same_true : (a b : Obj) → same_obj a b ≡ true → a ≡ b
same_true a b h =
    let p = and_parts (kind a == kind b) (number a == number b) h in
    let k : kind a ≡ kind b = eqb-true (kind a) (kind b) p.0 in
    let n : number a ≡ number b = eqb-true (number a) (number b) p.1 in
    sym (made_again a) ∙ (ap (λ x. made x (number a)) k ∙ (ap (λ x. made (kind b) x) n ∙ made_again b))

pub same_obj-self : (a : Obj) → same_obj a a ≡ true
same_obj-self a = and_from (kind a == kind a) (number a == number a) (eq-eqb (kind a) (kind a) refl) (eq-eqb (number a) (number a) refl)

pub obj_cases : (a b : Obj) → (a ≡ b) ⊎ (a ≢ b)
obj_cases a b = go (cases_Bool (same_obj a b))
  where
    go : (same_obj a b ≡ true) ⊎ (same_obj a b ≡ false) → (a ≡ b) ⊎ (a ≢ b)
    go (inl e) = inl (same_true a b e)
    go (inr e) = inr (λ f. let g : same_obj a a ≡ same_obj a b = ap (λ x. same_obj a x) f in let h = same_obj-self a in absurd (cc (e, g, h)))
