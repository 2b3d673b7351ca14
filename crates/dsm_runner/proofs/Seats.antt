-- The table's start, and a seat more.
use Rattle.std.proofs.Common.{◌≡◌, ◌≢◌, ◌⊎◌, ℕ, zero, suc, ◌+◌, ◌<◌, ◌≤◌, ◌==◌, if◌then◌else◌, true, false, eq-eqb, ne_eqb, List, [], ◌∷◌, ◌++◌, length, set, length-set, Option, Some, None, refl, ap, sym, subst, inl, inr, ⊎_elim, arith, ◌∙◌}
use Rattle.std.specs.Prelude.{slice_get}
use mathlib.Core.Option.{some, some-ne-none, some-injective}
use lib.ListN.{get_elem?}
use Rattle.atomic_table.specs.Table.{State, Splits}
use Rattle.atomic_table.proofs.Lists.{at_set}
use Rattle.dsm_protocol.specs.Processors.{new_processor, processor_of}
use Rattle.dsm_runs.specs.Setups.{Setup, who_at}
use Rattle.dsm_runs.specs.Clusters.{start, reached}
use Rattle.dsm_runs.proofs.Lists.{slice_get-map-range_with_len_below}
use Rattle.dsm_runs.proofs.Runs.{reached_none, are_defined_none}
use Rattle.dsm_runner.specs.Sights.{Sight, processor_at, procs_of, first_sight, cut_left, cut_right, Fits, Leads, KeptAt, Kept}

-- a function on numbers, changed at one
abbrev pub put_at : (ℕ → Option ℕ) → ℕ → Option ℕ → ℕ → Option ℕ
put_at place n x p = if p == n then x else place p

-- there it is what was put,
pub put_here : (place : ℕ → Option ℕ) (n : ℕ) (x : Option ℕ) → put_at place n x n ≡ x
put_here place n x = ap (λ b. if b then x else place n) (eq-eqb n n refl)

-- and elsewhere what it was
pub put_else : (place : ℕ → Option ℕ) (n p : ℕ) (x : Option ℕ) → p ≢ n → put_at place n x p ≡ place p
put_else place n p x ne = ap (λ b. if b then x else place p) (ne_eqb p n ne)

-- each processor is at its start
pub start_processor : (s : Setup) (p : ℕ) → p < procs_of s → slice_get (start s).processors p ≡ Some (processor_at s p [])
unfolding start processor_of
start_processor s p below = slice_get-map-range_with_len_below (λ q. new_processor (who_at s q) s.program.code) (procs_of s) 0 p below ∙ ap (λ q. Some (new_processor (who_at s q) s.program.code)) (let z : 0 + p ≡ p = omega arith in z)

-- the first seat alone
none_or_first : (s : Setup) (id : ℕ) (v : Sight) → get_elem? (first_sight s ∷ []) id ≡ some v → (id ≡ 0) × (first_sight s ≡ v)
none_or_first s zero v e = (refl, some-injective _ _ e)
none_or_first s (suc id) v e = absurd (some-ne-none v (sym e))

abbrev only_zero : ℕ → Option ℕ
only_zero zero = Some 0
only_zero (suc p) = None

no_place : (p : ℕ) → 1 ≤ p → only_zero p ≡ None
no_place zero h = absurd (omega arith)
no_place (suc p) h = refl

first_fits : (s : Setup) → 0 < procs_of s → Fits s (start s) only_zero 0 (first_sight s)
first_fits s any = record { placed = refl; here = start_processor s 0 any; same = refl }

first_leads : (s : Setup) → Leads s (start s) only_zero 0 (first_sight s)
first_leads s =
    record {
      first = refl;
      mine = refl;
      unmade = λ p h. (no_place p h, λ below. start_processor s p below);
      joined = λ j given h. absurd (cc);
    }

-- the rule holds of the words at the start with the first seat
pub begins : (s : Setup) → 0 < procs_of s → Kept s (start s).words (first_sight s ∷ [])
begins s any =
    record {
      events = [];
      defined = are_defined_none s;
      place = only_zero;
      at = subst (λ c. KeptAt s c only_zero (start s).words (first_sight s ∷ [])) (sym (reached_none s)) (record {
        words_are = refl;
        fits = λ id v e on. let o = none_or_first s id v e in subst (λ (x : ℕ × Sight). Fits s (start s) only_zero x.0 x.1) (λ i. (sym o.0 i, o.1 i)) (first_fits s any);
        leads = λ id v e led. let o = none_or_first s id v e in subst (λ (x : ℕ × Sight). Leads s (start s) only_zero x.0 x.1) (λ i. (sym o.0 i, o.1 i)) (first_leads s);
      });
    }

-- an item of a list with one more at its end
at_push : {A : Type 0} (l : List A) (a b : A) (j : ℕ) → get_elem? (l ++ a ∷ []) j ≡ some b → (get_elem? l j ≡ some b) ⊎ ((j ≡ length l) × (a ≡ b))
at_push [] a b zero e = inr (refl, some-injective a b e)
at_push [] a b (suc j) e = absurd (some-ne-none b (sym e))
at_push (x ∷ xs) a b zero e = inl e
at_push (x ∷ xs) a b (suc j) e = ⊎_elim (λ h. inl h) (λ h. inr (ap suc h.0, h.1)) (at_push xs a b j e)

no_some : {x : ℕ} → None ≡ Some x → ⊥
no_some e = cc

-- the first seat makes the seat of the next number
pub cut_kept : (s : Setup) (words : List ℕ) (views : List Sight) (id : ℕ) (v : Sight) → Kept s words views → get_elem? views id ≡ some v → v.live ≡ true → v.leads ≡ true → v.made < procs_of v.setup
    → Kept s words (set views id (cut_left v) ++ cut_right v ∷ [])
cut_kept s words views id v h at on led below =
    let c = reached s h.events in
    let mine = h.at.fits id v at on in
    let lead = h.at.leads id v at led in
    let n = length views in
    let left = set views id (cut_left v) in
    let many : length left ≡ n = length-set views id (cut_left v) in
    let place' : ℕ → Option ℕ = put_at h.place v.made (Some n) in
    let free = lead.unmade v.made (omega arith) in
    -- a number with a place is not the new one
    let old : (p x : ℕ) → h.place p ≡ Some x → p ≢ v.made = λ p x e q. no_some (sym free.0 ∙ ap h.place (sym q) ∙ e) in
    let kept : (j : ℕ) (u : Sight) → Fits s c h.place j u → Fits s c place' j u =
    λ j u f. record { placed = put_else h.place v.made u.number (Some n) (old u.number j f.placed) ∙ f.placed; here = f.here; same = f.same } in
    let new : Fits s c place' n (cut_right v) = record {
      placed = put_here h.place v.made (Some n);
      here = free.1 (subst (λ x. v.made < procs_of x) mine.same below) ∙ ap (λ x. Some (processor_at x v.made [])) (sym mine.same);
      same = mine.same;
    } in
    let led' : Leads s c place' id (cut_left v) = record {
      first = lead.first;
      mine = lead.mine;
      unmade = λ p b. let was = lead.unmade p (omega arith) in (put_else h.place v.made p (Some n) (λ e. absurd (omega arith)) ∙ was.0, was.1);
      joined = λ j given g. let was = lead.joined j given g in (omega arith, put_else h.place v.made (suc j) (Some n) (λ e. absurd (omega arith)) ∙ was.1, was.2);
    } in record {
      events = h.events;
      defined = h.defined;
      place = place';
      at = record {
        words_are = h.at.words_are;
        fits = λ j u e live. ⊎_elim
            (λ was. ⊎_elim
            (λ (x : (j ≡ id) × (cut_left v ≡ u)). subst (λ (y : ℕ × Sight). Fits s c place' y.0 y.1) (λ i. (sym x.0 i, x.1 i)) (let f = kept id v mine in record { placed = f.placed; here = f.here; same = f.same }))
            (λ (x : (j ≢ id) × (get_elem? views j ≡ some u)). kept j u (h.at.fits j u x.1 live))
            (at_set views id j (cut_left v) u was))
            (λ (x : (j ≡ length left) × (cut_right v ≡ u)). subst (λ (y : ℕ × Sight). Fits s c place' y.0 y.1) (λ i. ((sym many ∙ sym x.0) i, x.1 i)) new)
            (at_push left (cut_right v) u j e);
        leads = λ j u e lu. ⊎_elim
            (λ was. ⊎_elim
            (λ (x : (j ≡ id) × (cut_left v ≡ u)). subst (λ (y : ℕ × Sight). Leads s c place' y.0 y.1) (λ i. (sym x.0 i, x.1 i)) led')
            (λ (x : (j ≢ id) × (get_elem? views j ≡ some u)). absurd (x.0 ((h.at.leads j u x.1 lu).first ∙ sym lead.first)))
            (at_set views id j (cut_left v) u was))
            (λ (x : (j ≡ length left) × (cut_right v ≡ u)). absurd (let f : false ≡ true = ap (λ (y : Sight). y.leads) x.1 ∙ lu in cc))
            (at_push left (cut_right v) u j e);
      };
    }

-- what the table asks for it
pub splits : {S : Type 0} (s : Setup) (id : ℕ) (v : Sight) → v.live ≡ true → v.leads ≡ true → v.made < procs_of v.setup → Splits (λ (t : State S Sight). Kept s t.words t.views) id v (cut_left v) (cut_right v)
splits s id v on led below t h at = cut_kept s t.words t.views id v h at on led below
