-- The list of those that have not ended, beside the code's state.
use Rattle.std.proofs.Common.{◌≡◌, ℕ, ◌+◌, ◌<◌, ◌==◌, Bool, true, false, List, [], ◌∷◌, ◌++◌, length, get_or, Some, refl, sym, ap, ◌∙◌, arith, cond, append-nil}
use Rattle.std.specs.Prelude.{slice_get}
use Rattle.std.specs.List.{range_with_len}
use Rattle.std.proofs.lemmas.Bool.{eqb-true}
use Rattle.std.proofs.lemmas.List.{length-map}
use Rattle.std.proofs.lemmas.List.Elements.{filter-append}
use Rattle.std.proofs.lemmas.Option.{slice_get_read}
use Rattle.dsm_isa.specs.declared.instr.Instr.{Instr}
use Rattle.dsm_words.specs.Place.{lay_of, processors}
use Rattle.dsm_runs.specs.Clusters.{Cluster}
use Rattle.dsm_core.specs.declared.state.State.{State}
use Rattle.dsm_core.specs.States.{cluster_in}
use Rattle.dsm_sched.specs.Schedules.{running}
use Rattle.dsm_sched.proofs.Choosing.{goes, kept, place_is, range_cut}

-- a list of none
pub is_nil : (ps : List ℕ) (n : ℕ) (b : Bool) → n ≡ length ps → b ≡ (n == 0) → b ≡ true → ps ≡ []
is_nil [] n b long is none = refl
is_nil (p ∷ ps) n b long is none = absurd (omega (arith, eqb-true n 0 (sym is ∙ none), long))

-- as many processors as the layout has
pub many_in : (st : State) (code : List Instr) → length (cluster_in st code).processors ≡ processors (lay_of st.lay)
many_in st code = length-map st.machines.items _ ∙ st.all_machines

-- what stands in the list at a place
pub stands : (c : Cluster) (list : List ℕ) (at p : ℕ) → list ≡ running c → at < length list → p ≡ get_or list at p → slice_get (running c) at ≡ Some p
stands c list at p is inside here = ap (λ ps. slice_get ps at) (sym is) ∙ slice_get_read list (length list) at p refl inside here

-- is a processor that there is
pub stands_inside : (st : State) (code : List Instr) (at p : ℕ) → slice_get (running (cluster_in st code)) at ≡ Some p → p < processors (lay_of st.lay)
stands_inside st code at p there =
    let place = place_is (cluster_in st code) (length (cluster_in st code).processors) 0 at p there in
    omega (arith, place.1, many_in st code)

-- the list of all is that of those before the last and of the last
kept_one : (c : Cluster) (p : ℕ) → kept c (range_with_len 0 (p + 1)) ≡ kept c (range_with_len 0 p) ++ cond (goes c p) (p ∷ []) []
kept_one c p = ap (kept c) (range_cut 0 p 1) ∙ filter-append (goes c) (range_with_len 0 p) (range_with_len (0 + p) 1) ∙ ap (λ q. kept c (range_with_len 0 p) ++ kept c (range_with_len q 1)) (let z : 0 + p ≡ p = omega arith in z)

pub kept_with : (c : Cluster) (p : ℕ) (list : List ℕ) → list ≡ kept c (range_with_len 0 p) → goes c p ≡ true → list ++ p ∷ [] ≡ kept c (range_with_len 0 (p + 1))
kept_with c p list is on = ap (λ ps. ps ++ p ∷ []) is ∙ ap (λ b. kept c (range_with_len 0 p) ++ cond b (p ∷ []) []) (sym on) ∙ sym (kept_one c p)

pub kept_as : (c : Cluster) (p : ℕ) (list : List ℕ) → list ≡ kept c (range_with_len 0 p) → goes c p ≡ false → list ≡ kept c (range_with_len 0 (p + 1))
kept_as c p list is over = is ∙ sym (append-nil (kept c (range_with_len 0 p))) ∙ ap (λ b. kept c (range_with_len 0 p) ++ cond b (p ∷ []) []) (sym over) ∙ sym (kept_one c p)
