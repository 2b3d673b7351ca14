-- The lists of locks. A lock's word is 2k where it is free after k unlocks, and 2k + 1 where it is held.
use Rattle.std.specs.Prelude.{ℕ, ◌+◌, ◌*◌, ◌/◌, ◌%◌, ◌^◌, ◌==◌, if◌then◌else◌}
use Rattle.dsm_words.specs.declared.item.Item.TheVariants.{Lock}
use Rattle.dsm_words.specs.Place.{Lay, lay_of}
use Rattle.dsm_words.specs.Script.{Script, End, Do, Get, Put, Change, left_unless}
use Rattle.dsm_sync.specs.declared.got.Got.{Got}
use Rattle.dsm_sync.specs.declared.got.Got.TheVariants.{Ready, Unready}
use Rattle.dsm_sync.specs.declared.lock.LockTry.{LockTry}
use Rattle.dsm_sync.specs.declared.lock.Point.{Point}
use Rattle.dsm_sync.specs.declared.lock.Point.TheVariants.{Look, Take, Over}
use Rattle.dsm_sync.specs.declared.unlock.Unlock.{Unlock}

-- exchange the free lock's word for one more; it is won where the word was still the same
abbrev pub take_script : ℕ → ℕ → Script Got
take_script l v = Do (Change (Lock l) v ((v + 1) % 2 ^ 64)) (λ x. End (if x == v then Ready (v / 2) else Unready))

-- load the word; where it is odd, the lock is held
abbrev pub lock_script : ℕ → Script Got
lock_script l = Do (Get (Lock l)) (λ v. if v % 2 == 0 then take_script l v else End Unready)

abbrev pub lock_at : ℕ → Point → Script Got
lock_at l Look = lock_script l
lock_at l (Take v) = take_script l v
lock_at l (Over got) = End got

abbrev pub lock_rest : LockTry → Script Got
lock_rest t = lock_at t.l t.at

abbrev pub lock_lay : LockTry → Lay
lock_lay t = lay_of t.lay

-- store the word of a lock that is free after one more unlock
abbrev pub unlock_script : ℕ → ℕ → Script (Unit {0})
unlock_script l k = Do (Put (Lock l) ((2 * k + 2) % 2 ^ 64)) (λ _. End tt)

abbrev pub unlock_rest : Unlock → Script (Unit {0})
unlock_rest u = left_unless u.over (unlock_script u.l u.k)

abbrev pub unlock_lay : Unlock → Lay
unlock_lay u = lay_of u.lay
