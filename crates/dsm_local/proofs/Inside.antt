-- A reader loads and stores words of its memory alone.
use Rattle.std.proofs.Common.{◌≡◌, ℕ, ◌==◌, ◌/◌, ◌%◌, Bool, true, false, List, Option, None, Some, refl, arith, nat_lt, slice_get, if◌then◌else◌}
use Rattle.std.proofs.lemmas.Bool.Decides.{nat_tests}
use Rattle.dsm_isa.specs.declared.instr.Instr.{Instr}
use Rattle.dsm_isa.specs.declared.instr.Instr.TheVariants.{Div, Rem, Ld, St, Unlock}
use Rattle.dsm_local.specs.declared.action.Action.{Action}
use Rattle.dsm_local.specs.declared.action.Action.TheVariants.{Spend}
use Rattle.dsm_local.specs.declared.reader.Reader.{Reader}
use Rattle.dsm_local.specs.declared.setting.Setting.{Setting}
use Rattle.dsm_local.specs.Actions.{value, open_pass, divide, address, word_at, load, store, give_back, action_of}
use Rattle.dsm_local.specs.Readers.{next_action, IsInside}

IsInside-if : (size : ℕ) (b : Bool) (x y : Action) → IsInside size x → IsInside size y → IsInside size (if b then x else y)
IsInside-if size true x y h k = h
IsInside-if size false x y h k = k

IsInside-load : (size d w : ℕ) (test : Bool) → nat_lt w size ≡ test → IsInside size (load d (word_at size w))
IsInside-load size d w true is = rw is (grind (arith, nat_tests))
IsInside-load size d w false is = rw is tt

IsInside-store : (size v w : ℕ) (test : Bool) → nat_lt w size ≡ test → IsInside size (store v (word_at size w))
IsInside-store size v w true is = rw is (grind (arith, nat_tests))
IsInside-store size v w false is = rw is tt

IsInside-divide : (size d b v : ℕ) → IsInside size (divide d b v)
IsInside-divide size d b v = IsInside-if size (b == 0) _ _ tt tt

IsInside-give_back : (size l : ℕ) (pass : Option ℕ) → IsInside size (give_back l pass)
IsInside-give_back size l (Some k) = tt
IsInside-give_back size l None = tt

IsInside-action_of : (s : Setting) (r : Reader) (i : Option Instr) → IsInside s.size (action_of s r i)
IsInside-action_of s r (Some (Ld d a k)) = IsInside-load s.size d (address r a k) (nat_lt (address r a k) s.size) refl
IsInside-action_of s r (Some (St v a k)) = IsInside-store s.size (value r v) (address r a k) (nat_lt (address r a k) s.size) refl
IsInside-action_of s r (Some (Div d a b)) = IsInside-divide s.size d (value r b) (value r a / value r b)
IsInside-action_of s r (Some (Rem d a b)) = IsInside-divide s.size d (value r b) (value r a % value r b)
IsInside-action_of s r (Some (Unlock l)) = IsInside-give_back s.size l (open_pass r l)
IsInside-action_of s r (Some _) = tt
IsInside-action_of s r None = tt

pub IsInside-next_action : (code : List Instr) (s : Setting) (r : Reader) → IsInside s.size (next_action code s r)
IsInside-next_action code s r = IsInside-if s.size (nat_lt r.done s.turns) (action_of s r (slice_get code r.place)) Spend (IsInside-action_of s r (slice_get code r.place)) tt
