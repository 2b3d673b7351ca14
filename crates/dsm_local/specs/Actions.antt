-- What each instruction does.
use Rattle.std.specs.Prelude.{ℕ, ◌+◌, ◌-◌, ◌*◌, ◌/◌, ◌%◌, ◌^◌, ◌==◌, nat_lt, nat_le, bit_and, bit_or, bit_xor, Option, None, Some, Result, Ok, Err, if◌then◌else◌, slice_get, slice_index, option_and_then}
use Rattle.dsm_isa.specs.declared.instr.Instr.{Instr}
use Rattle.dsm_isa.specs.declared.instr.Instr.TheVariants.{Li, Mov, Me, Procs, Add, Sub, Mul, Div, Rem, And, Or, Xor, Shl, Shr, Slt, Seq, Addi, Subi, Muli, Ld, St, Jmp, Beq, Bne, Blt, Bge, Lock, Unlock, Bar, Set as SetFlag, Wait, Waitr, Out as Output, Halt}
use Rattle.dsm_local.specs.declared.action.Action.{Action}
use Rattle.dsm_local.specs.declared.action.Action.TheVariants.{Set, Jump, LoadWord, StoreWord, Print, TakeLock, GiveLock, Meet, RaiseFlag, WaitFlag, Trap, Arrive}
use Rattle.dsm_local.specs.declared.end.Trap.TheVariants.{Address, NotHeld, DivideByZero}
use Rattle.dsm_local.specs.declared.reader.Reader.{Reader}
use Rattle.dsm_local.specs.declared.setting.Setting.{Setting}

-- what register a holds
abbrev pub value : Reader → ℕ → ℕ
value r a = slice_index r.registers a

-- the count of the open pass of lock l
abbrev pub open_pass : Reader → ℕ → Option ℕ
open_pass r l = option_and_then (λ k. k) (slice_get r.passes l)

-- arithmetic is modulo 2^64
abbrev pub wrapped : ℕ → ℕ
wrapped n = n % 2 ^ 64

abbrev pub difference : ℕ → ℕ → ℕ
difference x y = wrapped (x + (2 ^ 64 - y))

-- a quotient or a rest; there is none by 0
abbrev pub divide : ℕ → ℕ → ℕ → Action
divide d b v = if b == 0 then Trap DivideByZero else Set d v

-- the address of a load or store
abbrev pub address : Reader → ℕ → ℕ → ℕ
address r a k = wrapped (value r a + k)

-- the word at an address, or the address where there is no such word
abbrev pub word_at : ℕ → ℕ → Result ℕ ℕ
word_at size address = if nat_lt address size then Ok address else Err address

abbrev pub load : ℕ → Result ℕ ℕ → Action
load d (Ok w) = LoadWord d w
load d (Err w) = Trap (Address w)

abbrev pub store : ℕ → Result ℕ ℕ → Action
store v (Ok w) = StoreWord w v
store v (Err w) = Trap (Address w)

-- a lock is given back with the count of its open pass; without one it can't be
abbrev pub give_back : ℕ → Option ℕ → Action
give_back l (Some k) = GiveLock l k
give_back l None = Trap (NotHeld l)

-- what an instruction does, before which the reader stands; past the last one it is a halt
abbrev pub action_of : Setting → Reader → Option Instr → Action
action_of s r (Some (Li d k)) = Set d k
action_of s r (Some (Mov d a)) = Set d (value r a)
action_of s r (Some (Me d)) = Set d s.p
action_of s r (Some (Procs d)) = Set d s.procs
action_of s r (Some (Add d a b)) = Set d (wrapped (value r a + value r b))
action_of s r (Some (Sub d a b)) = Set d (difference (value r a) (value r b))
action_of s r (Some (Mul d a b)) = Set d (wrapped (value r a * value r b))
action_of s r (Some (Div d a b)) = divide d (value r b) (value r a / value r b)
action_of s r (Some (Rem d a b)) = divide d (value r b) (value r a % value r b)
action_of s r (Some (And d a b)) = Set d (bit_and (value r a) (value r b))
action_of s r (Some (Or d a b)) = Set d (bit_or (value r a) (value r b))
action_of s r (Some (Xor d a b)) = Set d (bit_xor (value r a) (value r b))
action_of s r (Some (Shl d a b)) = Set d (wrapped (value r a * 2 ^ (value r b % 64)))
action_of s r (Some (Shr d a b)) = Set d (value r a / 2 ^ (value r b % 64))
action_of s r (Some (Slt d a b)) = Set d (if nat_lt (value r a) (value r b) then 1 else 0)
action_of s r (Some (Seq d a b)) = Set d (if value r a == value r b then 1 else 0)
action_of s r (Some (Addi d a k)) = Set d (wrapped (value r a + k))
action_of s r (Some (Subi d a k)) = Set d (difference (value r a) k)
action_of s r (Some (Muli d a k)) = Set d (wrapped (value r a * k))
action_of s r (Some (Ld d a k)) = load d (word_at s.size (address r a k))
action_of s r (Some (St v a k)) = store (value r v) (word_at s.size (address r a k))
action_of s r (Some (Jmp to)) = Jump to
action_of s r (Some (Beq a b to)) = Jump (if value r a == value r b then to else r.place + 1)
action_of s r (Some (Bne a b to)) = Jump (if value r a == value r b then r.place + 1 else to)
action_of s r (Some (Blt a b to)) = Jump (if nat_lt (value r a) (value r b) then to else r.place + 1)
action_of s r (Some (Bge a b to)) = Jump (if nat_le (value r b) (value r a) then to else r.place + 1)
action_of s r (Some (Lock l)) = TakeLock l
action_of s r (Some (Unlock l)) = give_back l (open_pass r l)
action_of s r (Some (Bar b)) = Meet b
action_of s r (Some (SetFlag f)) = RaiseFlag f
action_of s r (Some (Wait f k)) = WaitFlag f k
action_of s r (Some (Waitr f a)) = WaitFlag f (value r a)
action_of s r (Some (Output a)) = Print (value r a)
action_of s r (Some Halt) = Arrive
action_of s r None = Arrive

-- an instruction that computes: it leaves memory, the order of instructions and synchronisation alone
abbrev pub IsArithmetic : Instr → Type 0
IsArithmetic (Ld d a k) = ⊥
IsArithmetic (St v a k) = ⊥
IsArithmetic (Jmp to) = ⊥
IsArithmetic (Beq a b to) = ⊥
IsArithmetic (Bne a b to) = ⊥
IsArithmetic (Blt a b to) = ⊥
IsArithmetic (Bge a b to) = ⊥
IsArithmetic (Lock l) = ⊥
IsArithmetic (Unlock l) = ⊥
IsArithmetic (Bar b) = ⊥
IsArithmetic (SetFlag f) = ⊥
IsArithmetic (Wait f k) = ⊥
IsArithmetic (Waitr f a) = ⊥
IsArithmetic (Output a) = ⊥
IsArithmetic Halt = ⊥
IsArithmetic _ = Unit {0}
