-- What is left of these lists at each point of the code.
use Rattle.std.specs.Prelude.{ℕ, suc, ◌+◌, ◌-◌, ◌%◌, ◌==◌, if◌then◌else◌, Bool, true, Option}
use Rattle.dsm_words.specs.declared.item.Item.TheVariants.{Home, Dir}
use Rattle.dsm_words.specs.Place.{Lay, lay_of}
use Rattle.dsm_words.specs.Script.{Script, End, Do, Put, Change, left, left_unless}
use Rattle.dsm_directory.specs.declared.row.Row.{Row}
use Rattle.dsm_directory.specs.declared.my_dir.MyDir.{MyDir}
use Rattle.dsm_directory.specs.declared.home.FindHome.{FindHome}
use Rattle.dsm_directory.specs.declared.home.HomePoint.{HomePoint}
use Rattle.dsm_directory.specs.declared.home.HomePoint.TheVariants.{Look, Take, Over}
use Rattle.dsm_directory.specs.declared.sharers.Sharers.{Sharers}
use Rattle.dsm_directory.specs.declared.holder.Holder.{Holder}
use Rattle.dsm_directory.specs.declared.holder.HolderPoint.{HolderPoint}
use Rattle.dsm_directory.specs.declared.holder.HolderPoint.TheVariants.{Look as LookAt, Over as HolderOver}
use Rattle.dsm_directory.specs.declared.register.Register.{Register}
use Rattle.dsm_directory.specs.declared.register.RegisterPoint.{RegisterPoint}
use Rattle.dsm_directory.specs.declared.register.RegisterPoint.TheVariants.{Update as AtUpdate, Dir as AtRegister, Over as RegisterOver}
use Rattle.dsm_directory.specs.declared.claim.Claim.{Claim}
use Rattle.dsm_directory.specs.declared.withdraw.Withdraw.{Withdraw}
use Rattle.dsm_directory.specs.declared.leave.Leave.{Leave}
use Rattle.dsm_directory.specs.declared.leave.LeavePoint.{LeavePoint}
use Rattle.dsm_directory.specs.declared.leave.LeavePoint.TheVariants.{Map as AtMap, Twined as AtTwined, Dir as AtDir, Over as LeaveOver}
use Rattle.dsm_directory.specs.Directory.{sharers_from, my_dir_script, holder_from, register_script, claim_script, withdraw_script, leave_from, leave_end}
use Rattle.dsm_directory.specs.Homes.{find_home_script}

abbrev pub sharers_rest : Sharers → Script Row
sharers_rest s = if s.over then End s.row else sharers_from s.n s.g s.m (suc (s.lay.t.nodes - (s.m + 1))) s.row

-- behind its node, where the row is then this
abbrev pub sharers_left : Sharers → Row → Script Row
sharers_left s row = sharers_from s.n s.g (s.m + 1) (s.lay.t.nodes - (s.m + 1)) row

abbrev pub sharers_lay : Sharers → Lay
sharers_lay s = lay_of s.lay

abbrev pub my_dir_rest : MyDir → Script ℕ
my_dir_rest d = left (my_dir_script d.n d.g) d.word

abbrev pub my_dir_lay : MyDir → Lay
my_dir_lay d = lay_of d.lay

abbrev pub holder_at : Holder → HolderPoint → Script (Option ℕ)
holder_at h LookAt = holder_from h.g h.m (suc (h.lay.t.nodes - (h.m + 1)))
holder_at h (HolderOver found) = End found

abbrev pub holder_rest : Holder → Script (Option ℕ)
holder_rest h = holder_at h h.at

-- behind its node
abbrev pub holder_left : Holder → Script (Option ℕ)
holder_left h = holder_from h.g (h.m + 1) (h.lay.t.nodes - (h.m + 1))

abbrev pub holder_lay : Holder → Lay
holder_lay h = lay_of h.lay

abbrev pub register_at : Register → RegisterPoint → Script (Unit {0})
register_at r AtUpdate = register_script r.n r.g
register_at r AtRegister = Do (Put (Dir r.n r.g) 1) (λ _. End tt)
register_at r RegisterOver = End tt

abbrev pub register_rest : Register → Script (Unit {0})
register_rest r = register_at r r.at

abbrev pub register_lay : Register → Lay
register_lay r = lay_of r.lay

abbrev pub claim_rest : Claim → Script (Unit {0})
claim_rest c = left_unless c.over (claim_script c.n c.g)

abbrev pub claim_lay : Claim → Lay
claim_lay c = lay_of c.lay

abbrev pub withdraw_rest : Withdraw → Script (Unit {0})
withdraw_rest w = left_unless w.over (withdraw_script w.n w.g)

abbrev pub withdraw_lay : Withdraw → Lay
withdraw_lay w = lay_of w.lay

abbrev pub leave_at : Leave → LeavePoint → Script Bool
leave_at v AtMap = leave_from v.n v.g v.q (suc v.left) v.free
leave_at v AtTwined = leave_end v.n v.g
leave_at v AtDir = Do (Put (Dir v.n v.g) 0) (λ _. End true)
leave_at v (LeaveOver left) = End left

abbrev pub leave_rest : Leave → Script Bool
leave_rest v = leave_at v v.at

abbrev pub leave_lay : Leave → Lay
leave_lay v = lay_of v.lay

abbrev pub home_at : FindHome → HomePoint → Script ℕ
home_at f Look = find_home_script (lay_of f.lay) f.n f.g
home_at f Take = Do (Change (Home f.g) 0 (f.n + 1)) (λ x. End (if x == 0 then f.n else (x - 1) % f.lay.t.nodes))
home_at f (Over h) = End h

abbrev pub home_rest : FindHome → Script ℕ
home_rest f = home_at f f.at

abbrev pub home_lay : FindHome → Lay
home_lay f = lay_of f.lay
