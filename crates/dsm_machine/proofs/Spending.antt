-- What events do to room.
use Rattle.std.proofs.Common.{◌≡◌, ◌+◌, ◌++◌, ◌∷◌, [], length, refl, sym, ap, ◌∙◌, subst, arith, length-append}
use Rattle.dsm_entry.specs.declared.entry.Entry.{Entry}
use Rattle.dsm_entry.specs.Told.{Told}
use Rattle.dsm_machine.specs.Machines.{Spends}

-- no entry
pub spends_none : (old new : Told) → new ≡ old → Spends old new
spends_none old new same =
    subst (λ t. Spends old t) (sym same) (record { all = refl; one = omega arith })

-- one entry
pub spends_one : (old new : Told) (e : Entry) → new.list ≡ old.list ++ e ∷ [] → new.spare + 1 ≡ old.spare → Spends old new
spends_one old new e list spare =
    let more : length new.list ≡ length old.list + 1 = ap length list ∙ length-append old.list (e ∷ []) in
    record { all = omega (arith, more, spare); one = omega (arith, spare) }

-- and no other behind it
pub spends_then_none : (old mid new : Told) → Spends old mid → new ≡ mid → Spends old new
spends_then_none old mid new spends same = subst (λ t. Spends old t) (sym same) spends

-- and no other before it
pub spends_behind_none : (old mid new : Told) → Spends mid new → mid ≡ old → Spends old new
spends_behind_none old mid new spends same = subst (λ t. Spends t new) same spends
