-- What a processor does next is within its layout.
use Rattle.std.proofs.Common.{◌≡◌, ℕ, ◌*◌, ◌<◌, ◌==◌, Bool, true, false, List, Option, None, Some, refl, sym, subst, if◌then◌else◌}
use Rattle.std.specs.Prelude.{Result, Ok, Err, IfSome, All, nat_lt, slice_get}
use Rattle.std.proofs.lemmas.List.Elements.{All-get_or}
use Rattle.std.proofs.lemmas.Option.{slice_get_within, get_or_from_slice_get}
use Rattle.dsm_isa.specs.declared.instr.Instr.{Instr}
use Rattle.dsm_isa.specs.declared.instr.Instr.TheVariants.{Div, Rem, Ld, St, Lock, Unlock, Bar, Set as SetFlag, Wait, Waitr}
use Rattle.dsm_isa.specs.Rules.{ObjectInside, ObjectsInside}
use Rattle.dsm_local.specs.declared.action.Action.{Action}
use Rattle.dsm_local.specs.declared.action.Action.TheVariants.{LoadWord, StoreWord, TakeLock, GiveLock, Meet, RaiseFlag, WaitFlag, Spend}
use Rattle.dsm_local.specs.declared.reader.Reader.{Reader}
use Rattle.dsm_local.specs.declared.setting.Setting.{Setting}
use Rattle.dsm_local.specs.Actions.{value, address, word_at, load, store, give_back, open_pass, action_of}
use Rattle.dsm_local.specs.Readers.{next_action, IsInside}
use Rattle.dsm_words.specs.Place.{Lay}
use Rattle.dsm_protocol.specs.Own.{sizes_in}
use Rattle.dsm_protocol.specs.Own.{Who, setting_of}
use Rattle.dsm_machine.specs.Points.{IsWithinLay}

-- the object of an action is one that there is
abbrev HasObject : Lay → Action → Type 0
HasObject l (TakeLock i) = i < l.locks
HasObject l (GiveLock i k) = i < l.locks
HasObject l (Meet b) = b < l.barriers
HasObject l (RaiseFlag f) = f < l.flags
HasObject l (WaitFlag f need) = f < l.flags
HasObject l _ = Unit {0}

HasObject-if : (l : Lay) (b : Bool) (x y : Action) → HasObject l x → HasObject l y → HasObject l (if b then x else y)
HasObject-if l true x y h k = h
HasObject-if l false x y h k = k

HasObject-load : (l : Lay) (d : ℕ) (w : Result ℕ ℕ) → HasObject l (load d w)
HasObject-load l d (Ok w) = tt
HasObject-load l d (Err w) = tt

HasObject-store : (l : Lay) (v : ℕ) (w : Result ℕ ℕ) → HasObject l (store v w)
HasObject-store l v (Ok w) = tt
HasObject-store l v (Err w) = tt

HasObject-give_back : (l : Lay) (i : ℕ) (k : Option ℕ) → i < l.locks → HasObject l (give_back i k)
HasObject-give_back l i None h = tt
HasObject-give_back l i (Some k) h = h

HasObject-action_of : (l : Lay) (s : Setting) (r : Reader) (i : Option Instr) → IfSome i (ObjectInside (sizes_in l)) → HasObject l (action_of s r i)
HasObject-action_of l s r (Some (Ld d a k)) h = HasObject-load l d (word_at s.size (address r a k))
HasObject-action_of l s r (Some (St v a k)) h = HasObject-store l (value r v) (word_at s.size (address r a k))
HasObject-action_of l s r (Some (Div d a b)) h = HasObject-if l (value r b == 0) _ _ tt tt
HasObject-action_of l s r (Some (Rem d a b)) h = HasObject-if l (value r b == 0) _ _ tt tt
HasObject-action_of l s r (Some (Lock i)) h = h
HasObject-action_of l s r (Some (Unlock i)) h = HasObject-give_back l i (open_pass r i) h
HasObject-action_of l s r (Some (Bar b)) h = h
HasObject-action_of l s r (Some (SetFlag f)) h = h
HasObject-action_of l s r (Some (Wait f k)) h = h
HasObject-action_of l s r (Some (Waitr f a)) h = h
HasObject-action_of l s r _ h = tt

-- what holds of all holds of the one at this place, if there is one
IfSome-slice_get : {A : Type 0} (P : A → Type 0) (xs : List A) (k : ℕ) → All P xs → IfSome (slice_get xs k) P
IfSome-slice_get {A} P xs k all = go (slice_get xs k) refl
  where
    go : (x : Option A) → slice_get xs k ≡ x → IfSome x P
    go None is = tt
    go (Some x) is = subst P (get_or_from_slice_get xs k x x is) (All-get_or P xs k x (slice_get_within xs k x is) all)

HasObject-next_action : (u : Who) (code : List Instr) (r : Reader) → ObjectsInside (sizes_in u.lay) code → HasObject u.lay (next_action code (setting_of u) r)
HasObject-next_action u code r inside =
    HasObject-if u.lay (nat_lt r.done u.limits.turns) (action_of (setting_of u) r (slice_get code r.place)) Spend
    (HasObject-action_of u.lay (setting_of u) r (slice_get code r.place) (IfSome-slice_get (ObjectInside (sizes_in u.lay)) code r.place inside)) tt

IsWithinLay-parts : (l : Lay) (a : Action) → IsInside (l.pages * l.words) a → HasObject l a → IsWithinLay l a
IsWithinLay-parts l (LoadWord d w) inside has = inside
IsWithinLay-parts l (StoreWord w v) inside has = inside
IsWithinLay-parts l (TakeLock i) inside has = has
IsWithinLay-parts l (GiveLock i k) inside has = has
IsWithinLay-parts l (Meet b) inside has = has
IsWithinLay-parts l (RaiseFlag f) inside has = has
IsWithinLay-parts l (WaitFlag f need) inside has = has
IsWithinLay-parts l _ inside has = tt

-- an action of a code whose objects there are is within the layout
pub IsWithinLay-next_action : (u : Who) (code : List Instr) (r : Reader) (a : Action) → ObjectsInside (sizes_in u.lay) code → a ≡ next_action code (setting_of u) r → IsInside (u.lay.pages * u.lay.words) a → IsWithinLay u.lay a
IsWithinLay-next_action u code r a objects is inside = IsWithinLay-parts u.lay a inside (subst (HasObject u.lay) (sym is) (HasObject-next_action u code r objects))
