-- The lists of barriers and flags.
use Rattle.std.specs.Prelude.{ℕ, nat_le, if◌then◌else◌}
use Rattle.dsm_words.specs.Place.{Lay, lay_of}
use Rattle.dsm_words.specs.Script.{Script, End, Do, Get, Add, left}
use Rattle.dsm_sync.specs.declared.counter.Counter.{Counter}
use Rattle.dsm_sync.specs.declared.counter.Counter.TheVariants.{Barrier, Flag, Close}
use Rattle.dsm_sync.specs.declared.got.Got.{Got}
use Rattle.dsm_sync.specs.declared.got.Got.TheVariants.{Ready, Unready}
use Rattle.dsm_sync.specs.declared.look.Look.{Look}
use Rattle.dsm_sync.specs.declared.arrive.Arrive.{Arrive}
use Rattle.dsm_sync.specs.declared.set.SetFlag.{SetFlag}
use Rattle.dsm_sync.specs.Counters.{counter_item}

-- the count of a pass, of the need and the word: a flag's is the word, a barrier's is the need
abbrev pub count_of : Counter → ℕ → ℕ → ℕ
count_of (Barrier b) need v = need
count_of (Flag f) need v = v
count_of Close need v = need

-- load the word; it is ready where the word is at least the need
abbrev pub look_script : Counter → ℕ → Script Got
look_script o need = Do (Get (counter_item o)) (λ v. End (if nat_le need v then Ready (count_of o need v) else Unready))

abbrev pub look_rest : Look → Script Got
look_rest k = left (look_script k.of k.need) k.got

abbrev pub look_lay : Look → Lay
look_lay k = lay_of k.lay

-- add 1; the old value is the number of the signal
abbrev pub signal_script : Counter → Script ℕ
signal_script o = Do (Add (counter_item o) 1) (λ a. End a)

abbrev pub arrive_rest : Arrive → Script ℕ
arrive_rest k = left (signal_script k.at) k.number

abbrev pub arrive_lay : Arrive → Lay
arrive_lay k = lay_of k.lay

abbrev pub set_rest : SetFlag → Script ℕ
set_rest k = left (signal_script (Flag k.f)) k.number

abbrev pub set_lay : SetFlag → Lay
set_lay k = lay_of k.lay
