-- Barriers and flags.
use Rattle.std.specs.Prelude.{ℕ}
use Rattle.dsm_words.specs.declared.item.Item.{Item}
use Rattle.dsm_words.specs.declared.item.Item.TheVariants.{Barrier as BarrierWord, Flag as FlagWord, Close as CloseWord}
use Rattle.dsm_words.specs.Place.{Lay}
use Rattle.dsm_sync.specs.declared.counter.Counter.{Counter}
use Rattle.dsm_sync.specs.declared.counter.Counter.TheVariants.{Barrier, Flag, Close}

-- the word of such an object
abbrev pub counter_item : Counter → Item
counter_item (Barrier b) = BarrierWord b
counter_item (Flag f) = FlagWord f
counter_item Close = CloseWord

-- its number among those of its kind
abbrev pub counter_number : Counter → ℕ
counter_number (Barrier b) = b
counter_number (Flag f) = f
counter_number Close = 0

-- how many of its kind there are
abbrev pub counters_of : Lay → Counter → ℕ
counters_of l (Barrier b) = l.barriers
counters_of l (Flag f) = l.flags
counters_of l Close = 1
