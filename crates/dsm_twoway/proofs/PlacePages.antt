-- The pages behind moves of a step: at the place of a node what the node owes behind the step's events there; and what the law for one node asks of them.
use Rattle.std.proofs.Common.{◌≡◌, ◌≢◌, ◌⊎◌, inl, inr, ℕ, ◌+◌, ◌*◌, ◌==◌, Bool, true, false, List, [], ◌∷◌, ◌++◌, map, Option, None, Some, refl, sym, ap, ◌∙◌, subst, if◌then◌else◌}
use Rattle.std.proofs.lemmas.Bool.{cases_eq, eq-eqb, eqb-true, ne_eqb}
use Rattle.dsm_copies.specs.Copies as W
use Rattle.dsm_debts.specs.Page as D
use Rattle.dsm_debts.specs.Page.{State, Event}
use Rattle.dsm_debts.specs.Premises.{May, Runs}
use Rattle.dsm_debts.specs.Joining.{Move, At, Other, AgreesAt, IsOther, RunsMoves, events_of, pages_after, is_same, is_home}
use Rattle.dsm_releases.specs.Events as R
use Rattle.dsm_twoway.specs.Events.{place_of}
use Rattle.dsm_twoway.proofs.Scene.{node_at}
use Rattle.dsm_twoway.proofs.Shapes.{Shape}

-- the place of a node, its home or not, and its node
place_if : (h n : ℕ) (b : Bool) → (n == h) ≡ b → node_at h (if b then None else Some n) ≡ n
place_if h n true e = sym (eqb-true n h e)
place_if h n false e = refl

pub node_at_place : (h n : ℕ) → node_at h (place_of h n) ≡ n
node_at_place h n = place_if h n (n == h) refl

home_if : (n : ℕ) (b : Bool) → is_home (if b then None else Some n) ≡ b
home_if n true = refl
home_if n false = refl

pub home_of_place : (h n : ℕ) → is_home (place_of h n) ≡ (n == h)
home_of_place h n = home_if n (n == h)

same_self : (k : Option ℕ) → is_same k k ≡ true
same_self None = refl
same_self (Some n) = eq-eqb n n refl

same_if : (n k : ℕ) (b c : Bool) → n ≢ k → (b ≡ true → c ≡ true → n ≡ k) → is_same (if b then None else Some n) (if c then None else Some k) ≡ false
same_if n k true true ne e = absurd (ne (e refl refl))
same_if n k true false ne e = refl
same_if n k false true ne e = refl
same_if n k false false ne e = ne_eqb n k ne

pub places_apart : (h n k : ℕ) → n ≢ k → is_same (place_of h n) (place_of h k) ≡ false
places_apart h n k ne = same_if n k (n == h) (k == h) ne (λ a b. eqb-true n h a ∙ sym (eqb-true k h b))

-- no event where there is none
pub gone_only : (c : Bool) (e : Event) → c ≡ false → R.only c e ≡ []
gone_only c e z = ap (λ b. R.only b e) z

module _ (place : ℕ → Option ℕ) (h procs : ℕ) where
  abbrev first : Option ℕ → ℕ
  first k = node_at h k * procs

  abbrev top : Option ℕ → ℕ
  top k = node_at h k * procs + procs

  abbrev behind : (Option ℕ → State) → List Move → Option ℕ → State
  behind f ms = pages_after place first top f ms

  abbrev owing : ℕ → State → List Event → State
  owing n f es = D.after (n == h) (n * procs) f es

  -- moves of the copies alone leave the pages
  pub others_leave : (f : Option ℕ → State) (es : List W.Event) (ms : List Move) → behind f (map Other es ++ ms) ≡ behind f ms
  others_leave f [] ms = refl
  others_leave f (e ∷ es) ms = others_leave f es ms

  -- events at a node's place: what it owes then,
  pub events_here : (f : Option ℕ → State) (n v : ℕ) (es : List Event) → behind f (map (At (place_of h n) v) es) (place_of h n) ≡ owing n (f (place_of h n)) es
  events_here f n v [] = refl
  events_here f n v (e ∷ es) =
      rw (same_self (place_of h n)) (
      ap (λ b. D.after_event b (node_at h (place_of h n) * procs) (behind f (map (At (place_of h n) v) es) (place_of h n)) e) (home_of_place h n)
      ∙ ap (λ m. D.after_event (n == h) (m * procs) (behind f (map (At (place_of h n) v) es) (place_of h n)) e) (node_at_place h n)
      ∙ ap (λ x. D.after_event (n == h) (n * procs) x e) (events_here f n v es))

  -- and at no other
  pub events_there : (f : Option ℕ → State) (n k v : ℕ) (es : List Event) → n ≢ k → behind f (map (At (place_of h k) v) es) (place_of h n) ≡ f (place_of h n)
  events_there f n k v [] ne = refl
  events_there f n k v (e ∷ es) ne = rw (places_apart h n k ne) (events_there f n k v es ne)

  -- so at each node's place there is what it owes behind its own events, if the row is about one node
  pub pages_behind : (f : Option ℕ → State) (n k v : ℕ) (act : Bool) (os : List W.Event) (es : ℕ → List Event) → Shape n k act (es n)
      → behind f (map Other os ++ map (At (place_of h k) v) (es k)) (place_of h n) ≡ owing n (f (place_of h n)) (es n)
  pages_behind f n k v act os es shape = ap (λ z. z (place_of h n)) (others_leave f os (map (At (place_of h k) v) (es k))) ∙ go (cases_eq n k)
    where
      go : (n ≡ k) ⊎ (n ≢ k) → behind f (map (At (place_of h k) v) (es k)) (place_of h n) ≡ owing n (f (place_of h n)) (es n)
      go (inl e) = subst (λ j. behind f (map (At (place_of h j) v) (es j)) (place_of h n) ≡ owing n (f (place_of h n)) (es n)) e (events_here f n v (es n))
      go (inr ne) = events_there f n k v (es k) ne ∙ sym (ap (owing n (f (place_of h n))) (shape.is ∙ gone_only shape.so shape.event (shape.off ne)))

  -- what the law for one node asks of the moves of a step
  abbrev pub AllMay : (Option ℕ → State) → List Move → Type 0
  AllMay f [] = Unit {0}
  AllMay f (At k v e ∷ older) = May (is_home k) (first k) (top k) (behind f older k) e × AllMay f older
  AllMay f (Other e ∷ older) = AllMay f older

  pub others_may : (f : Option ℕ → State) (es : List W.Event) (ms : List Move) → AllMay f ms → AllMay f (map Other es ++ ms)
  others_may f [] ms a = a
  others_may f (e ∷ es) ms a = others_may f es ms a

  pub events_may : (f : Option ℕ → State) (n v : ℕ) (es : List Event) → Runs (n == h) (n * procs) (n * procs + procs) (f (place_of h n)) es → AllMay f (map (At (place_of h n) v) es)
  events_may f n v [] r = tt
  events_may f n v (e ∷ es) r = (
    subst (λ b. May b (first (place_of h n)) (top (place_of h n)) (behind f (map (At (place_of h n) v) es) (place_of h n)) e) (sym (home_of_place h n))
        (subst (λ m. May (n == h) (m * procs) (m * procs + procs) (behind f (map (At (place_of h n) v) es) (place_of h n)) e) (sym (node_at_place h n))
        (subst (λ x. May (n == h) (n * procs) (n * procs + procs) x e) (sym (events_here f n v es)) r.0)),
    events_may f n v es r.1,
  )

  -- with the answers that the copies have, it is all that is asked
  abbrev pub AgreeTo : W.State → Move → Type 0
  AgreeTo x (At k v e) = AgreesAt place k x e
  AgreeTo x (Other e) = IsOther place x e

  abbrev pub AllAgreeTo : (Option ℕ → State) → W.State → List Move → Type 0
  AllAgreeTo f x [] = Unit {0}
  AllAgreeTo f x (m ∷ older) = AgreeTo (W.after place x (events_of place first top f older)) m × AllAgreeTo f x older

  pub moves_run : (f : Option ℕ → State) (x : W.State) (ms : List Move) → AllMay f ms → AllAgreeTo f x ms → RunsMoves place first top f x ms
  moves_run f x [] a b = tt
  moves_run f x (At k v e ∷ ms) a b = ((a.0, b.0), moves_run f x ms a.1 b.1)
  moves_run f x (Other e ∷ ms) a b = (b.0, moves_run f x ms a b.1)
