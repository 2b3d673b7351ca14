-- An operation of the word law, by where the word stands.
use Rattle.std.proofs.Common.{◌≡◌, ◌≢◌, ℕ, Bool, true, false, refl, arith}
use Rattle.dsm_copies.specs.Modes.{Mode, Bare, Flush_over, op_mode, cover, next, break_over, covered, ended}
use Rattle.dsm_copies.specs.Debts.{op_debt, op_seen}
use Rattle.dsm_debts.specs.Page.{Before, Loaded, Differs, Sending, After}
use Rattle.dsm_debts.specs.Joining.{Quiet, Alone, In_flush, In_post, Past_post, In_break, mode_track, hand, enters}

pub load_track : (m progress f t : ℕ) (mode : Mode) → mode_track mode ≡ (In_flush Before) → mode_track (op_mode m progress f t mode) ≡ (In_flush Loaded)
load_track m progress f t Bare e = grind arith
load_track m progress f t x e = grind arith

pub load_debt : (t b debt : ℕ) (c seen : Bool) (mode : Mode) → mode_track mode ≡ (In_flush Before) → b ≡ debt → c ≡ seen → (b ≡ op_debt t debt seen mode) × (true ≡ op_seen t seen mode)
load_debt t b debt c seen Bare e k l = grind arith
load_debt t b debt c seen x e k l = grind arith

pub same_track : (m progress f t : ℕ) (mode : Mode) → mode_track mode ≡ (In_flush Loaded) → (hand mode ≡ t) → mode_track (op_mode m progress f t mode) ≡ (In_flush After)
same_track m progress f t Bare e h = grind arith
same_track m progress f t x e h = grind arith

pub same_debt : (t b debt : ℕ) (c seen : Bool) (mode : Mode) → mode_track mode ≡ (In_flush Loaded) → (hand mode ≡ t) → b ≡ debt → c ≡ seen → (cover true c b ≡ op_debt t debt seen mode) × (false ≡ op_seen t seen mode)
same_debt t b debt c seen Bare e h k l = grind arith
same_debt t b debt c seen x e h k l = grind arith

pub differ_track : (m progress f t : ℕ) (mode : Mode) → mode_track mode ≡ (In_flush Loaded) → (hand mode ≢ t) → mode_track (op_mode m progress f t mode) ≡ (In_flush Differs)
differ_track m progress f t Bare e h = grind arith
differ_track m progress f t x e h = grind arith

pub differ_debt : (t b debt : ℕ) (c seen : Bool) (mode : Mode) → mode_track mode ≡ (In_flush Loaded) → (hand mode ≢ t) → b ≡ debt → c ≡ seen → (b ≡ op_debt t debt seen mode) × (c ≡ op_seen t seen mode)
differ_debt t b debt c seen Bare e h k l = grind arith
differ_debt t b debt c seen x e h k l = grind arith

pub refresh_track : (m progress f t : ℕ) (mode : Mode) → mode_track mode ≡ (In_flush Differs) → mode_track (op_mode m progress f t mode) ≡ (In_flush Sending)
refresh_track m progress f t Bare e = grind arith
refresh_track m progress f t x e = grind arith

pub refresh_debt : (t b debt : ℕ) (c seen : Bool) (mode : Mode) → mode_track mode ≡ (In_flush Differs) → b ≡ debt → c ≡ seen → (b ≡ op_debt t debt seen mode) × (c ≡ op_seen t seen mode)
refresh_debt t b debt c seen Bare e k l = grind arith
refresh_debt t b debt c seen x e k l = grind arith

pub send_track : (m progress f t : ℕ) (mode : Mode) → mode_track mode ≡ (In_flush Sending) → mode_track (op_mode m progress f t mode) ≡ (In_flush After)
send_track m progress f t Bare e = grind arith
send_track m progress f t x e = grind arith

pub send_debt : (t b debt : ℕ) (c seen : Bool) (mode : Mode) → mode_track mode ≡ (In_flush Sending) → b ≡ debt → c ≡ seen → (cover true c b ≡ op_debt t debt seen mode) × (false ≡ op_seen t seen mode)
send_debt t b debt c seen Bare e k l = grind arith
send_debt t b debt c seen x e k l = grind arith

pub stamp_track : (m progress f t : ℕ) (mode : Mode) → mode_track mode ≡ (In_flush After) → mode_track (op_mode m progress f t mode) ≡ In_post
stamp_track m progress f t Bare e = grind arith
stamp_track m progress f t x e = grind arith

pub stamp_debt : (t b debt : ℕ) (c seen : Bool) (mode : Mode) → mode_track mode ≡ (In_flush After) → b ≡ debt → c ≡ seen → (next true covered b ≡ op_debt t debt seen mode) × (c ≡ op_seen t seen mode)
stamp_debt t b debt c seen Bare e k l = grind arith
stamp_debt t b debt c seen x e k l = grind arith

pub tell_track : (m progress f t : ℕ) (mode : Mode) → mode_track mode ≡ In_post → mode_track (op_mode m progress f t mode) ≡ Past_post
tell_track m progress f t Bare e = grind arith
tell_track m progress f t x e = grind arith

pub tell_debt : (t b debt : ℕ) (c seen : Bool) (mode : Mode) → mode_track mode ≡ In_post → b ≡ debt → c ≡ seen → (next true ended b ≡ op_debt t debt seen mode) × (c ≡ op_seen t seen mode)
tell_debt t b debt c seen Bare e k l = grind arith
tell_debt t b debt c seen x e k l = grind arith

pub finish_track : (m progress f t : ℕ) (mode : Mode) → mode_track mode ≡ Past_post → mode_track (op_mode m progress f t mode) ≡ Quiet
finish_track m progress f t Bare e = grind arith
finish_track m progress f t x e = grind arith

pub finish_debt : (t b debt : ℕ) (c seen : Bool) (mode : Mode) → mode_track mode ≡ Past_post → b ≡ debt → c ≡ seen → (b ≡ op_debt t debt seen mode) × (c ≡ op_seen t seen mode)
finish_debt t b debt c seen Bare e k l = grind arith
finish_debt t b debt c seen x e k l = grind arith

pub load_break_track : (m progress f t : ℕ) (mode : Mode) → mode_track mode ≡ (In_break Before) → mode_track (op_mode m progress f t mode) ≡ (In_break Loaded)
load_break_track m progress f t Bare e = grind arith
load_break_track m progress f t x e = grind arith

pub load_break_debt : (t b debt : ℕ) (c seen : Bool) (mode : Mode) → mode_track mode ≡ (In_break Before) → b ≡ debt → c ≡ seen → (b ≡ op_debt t debt seen mode) × (true ≡ op_seen t seen mode)
load_break_debt t b debt c seen Bare e k l = grind arith
load_break_debt t b debt c seen x e k l = grind arith

pub refresh_break_track : (m progress f t : ℕ) (mode : Mode) → mode_track mode ≡ (In_break Loaded) → mode_track (op_mode m progress f t mode) ≡ (In_break Sending)
refresh_break_track m progress f t Bare e = grind arith
refresh_break_track m progress f t x e = grind arith

pub refresh_break_debt : (t b debt : ℕ) (c seen : Bool) (mode : Mode) → mode_track mode ≡ (In_break Loaded) → b ≡ debt → c ≡ seen → (b ≡ op_debt t debt seen mode) × (c ≡ op_seen t seen mode)
refresh_break_debt t b debt c seen Bare e k l = grind arith
refresh_break_debt t b debt c seen x e k l = grind arith

pub send_break_track : (m progress f t : ℕ) (mode : Mode) → mode_track mode ≡ (In_break Sending) → mode_track (op_mode m progress f t mode) ≡ (In_break After)
send_break_track m progress f t Bare e = grind arith
send_break_track m progress f t x e = grind arith

pub send_break_debt : (t b debt : ℕ) (c seen : Bool) (mode : Mode) → mode_track mode ≡ (In_break Sending) → b ≡ debt → c ≡ seen → (cover true c b ≡ op_debt t debt seen mode) × (false ≡ op_seen t seen mode)
send_break_debt t b debt c seen Bare e k l = grind arith
send_break_debt t b debt c seen x e k l = grind arith

pub end_track : (m progress f t : ℕ) (mode : Mode) → mode_track mode ≡ (In_break After) → mode_track (op_mode m progress f t mode) ≡ Quiet
end_track m progress f t Bare e = grind arith
end_track m progress f t x e = grind arith

pub end_debt : (t b debt : ℕ) (c seen : Bool) (mode : Mode) → mode_track mode ≡ (In_break After) → b ≡ debt → c ≡ seen → (break_over true b ≡ op_debt t debt seen mode) × (c ≡ op_seen t seen mode)
end_debt t b debt c seen Bare e k l = grind arith
end_debt t b debt c seen x e k l = grind arith

pub enter_track : (m progress f t : ℕ) (mode : Mode) → mode_track mode ≡ Quiet → (enters mode ≡ true) → mode_track (op_mode m progress f t mode) ≡ Alone
enter_track m progress f t Bare e h = grind arith
enter_track m progress f t x e h = grind arith

pub enter_debt : (t b debt : ℕ) (c seen : Bool) (mode : Mode) → mode_track mode ≡ Quiet → (enters mode ≡ true) → b ≡ debt → c ≡ seen → (b ≡ op_debt t debt seen mode) × (c ≡ op_seen t seen mode)
enter_debt t b debt c seen Bare e h k l = grind arith
enter_debt t b debt c seen x e h k l = grind arith

pub quiet_track : (m progress f t : ℕ) (mode : Mode) → mode_track mode ≡ Quiet → (enters mode ≡ false) → mode_track (op_mode m progress f t mode) ≡ Quiet
quiet_track m progress f t Bare e h = grind arith
quiet_track m progress f t x e h = grind arith

pub quiet_debt : (t b debt : ℕ) (c seen : Bool) (mode : Mode) → mode_track mode ≡ Quiet → (enters mode ≡ false) → b ≡ debt → c ≡ seen → (b ≡ op_debt t debt seen mode) × (c ≡ op_seen t seen mode)
quiet_debt t b debt c seen Bare e h k l = grind arith
quiet_debt t b debt c seen x e h k l = grind arith

pub over_is : (mode : Mode) → mode_track mode ≡ Past_post → mode ≡ Flush_over
over_is Flush_over e = refl
over_is x e = grind arith
