-- The list of entering exclusive mode.
use Rattle.std.specs.Prelude.{◌≡◌, ℕ, ◌==◌, Bool, true, false, if◌then◌else◌}
use Rattle.dsm_words.specs.declared.item.Item.TheVariants.{Dir}
use Rattle.dsm_words.specs.Parts.{and_then}
use Rattle.dsm_words.specs.Place.{Lay, lay_of}
use Rattle.dsm_words.specs.Script.{Script, End, Do, Put, is_open}
use Rattle.dsm_clock.specs.declared.stamp.Which.TheVariants.{Update}
use Rattle.dsm_clock.specs.Times.{draw_script, stamp_script}
use Rattle.dsm_incoming.specs.declared.overwrite.Overwrite.{Overwrite}
use Rattle.dsm_incoming.specs.Getting.{overwrite_script, overwrite_rest}
use Rattle.dsm_exclusive.specs.declared.enter.At.{At}
use Rattle.dsm_exclusive.specs.declared.enter.At.TheVariants.{Draw, Copy, Stamp, Last, Over}
use Rattle.dsm_exclusive.specs.declared.enter.Enter.{Enter}

-- draw a time, and then do this copy; the result is the time
abbrev pub enter_copy : ℕ → Script (Unit {0}) → Script ℕ
enter_copy n copy = and_then (draw_script n) (λ t. and_then copy (λ _. End t))

-- the part of the list up to the end of the copy, with the time; at home there is none
abbrev pub copy_script : Lay → ℕ → ℕ → ℕ → Script ℕ
copy_script l n g h = if n == h then End 0 else enter_copy n (overwrite_script l n g h)

-- store that node n has page g alone
abbrev pub enter_end : ℕ → ℕ → Script (Unit {0})
enter_end n g = Do (Put (Dir n g) 2) (λ _. End tt)

-- behind the copy: note the time as that of the update, and then store that the node has the page alone
abbrev pub enter_tail : ℕ → ℕ → ℕ → Script (Unit {0})
enter_tail n g t = and_then (stamp_script Update n g t) (λ _. enter_end n g)

-- the home has the words already, and only stores
abbrev pub enter_script : Lay → ℕ → ℕ → ℕ → Script (Unit {0})
enter_script l n g h = if n == h then enter_end n g else and_then (enter_copy n (overwrite_script l n g h)) (λ t. enter_tail n g t)

-- what is left of drawing and copying
abbrev pub copy_at : ℕ → Overwrite → At → Script ℕ
copy_at n copy Draw = enter_copy n (overwrite_rest copy)
copy_at n copy (Copy t) = and_then (overwrite_rest copy) (λ _. End t)
copy_at n copy (Stamp t) = End t
copy_at n copy Last = End 0
copy_at n copy Over = End 0

abbrev pub copy_left : Enter → Script ℕ
copy_left e = copy_at e.n e.copy e.at

-- what is left of all
abbrev pub enter_at : ℕ → ℕ → Overwrite → At → Script (Unit {0})
enter_at n g copy Draw = and_then (copy_at n copy Draw) (λ t. enter_tail n g t)
enter_at n g copy (Copy t) = and_then (copy_at n copy (Copy t)) (λ t. enter_tail n g t)
enter_at n g copy (Stamp t) = enter_tail n g t
enter_at n g copy Last = enter_end n g
enter_at n g copy Over = End tt

abbrev pub enter_rest : Enter → Script (Unit {0})
enter_rest e = enter_at e.n e.g e.copy e.at

abbrev pub enter_lay : Enter → Lay
enter_lay e = lay_of e.lay

-- the copy is over, and its time comes next
abbrev pub copied_at : At → Bool
copied_at Draw = false
copied_at (Copy t) = false
copied_at (Stamp t) = true
copied_at Last = false
copied_at Over = false

abbrev pub is_copied : Enter → Bool
is_copied e = copied_at e.at

-- there was something left to draw or copy before an answer, and behind it there is not
abbrev pub CopyEnds : Enter → Enter → Type 0
CopyEnds before behind = (is_open (copy_left before) ≡ true) × (is_open (copy_left behind) ≡ false)
