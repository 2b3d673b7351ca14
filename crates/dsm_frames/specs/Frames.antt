-- The lists of accesses and of mappings.
use Rattle.std.specs.Prelude.{ℕ, ◌/◌, ◌%◌}
use Rattle.dsm_words.specs.declared.item.Item.{Item}
use Rattle.dsm_words.specs.declared.item.Item.TheVariants.{Frame, Map}
use Rattle.dsm_words.specs.Place.{Lay, lay_of}
use Rattle.dsm_words.specs.Script.{Script, End, Do, Get, Put, left, left_unless}
use Rattle.dsm_frames.specs.declared.access.Access.{Access}
use Rattle.dsm_frames.specs.declared.access.Doing.{Doing}
use Rattle.dsm_frames.specs.declared.access.Doing.TheVariants.{Load, Store}
use Rattle.dsm_frames.specs.declared.mapping.SetMap.{SetMap}

-- the word of address w in the frames of node n
abbrev pub frame_item : Lay → ℕ → ℕ → Item
frame_item l n w = Frame n (w / l.words) (w % l.words)

-- load it; the result is what was loaded
abbrev pub load_script : Lay → ℕ → ℕ → Script ℕ
load_script l n w = Do (Get (frame_item l n w)) (λ v. End v)

-- store v in it; the result is v
abbrev pub store_script : Lay → ℕ → ℕ → ℕ → Script ℕ
store_script l n w v = Do (Put (frame_item l n w) v) (λ _. End v)

abbrev pub access_script : Lay → ℕ → ℕ → Doing → Script ℕ
access_script l n w Load = load_script l n w
access_script l n w (Store v) = store_script l n w v

abbrev pub access_rest : Access → Script ℕ
access_rest a = left (access_script (lay_of a.lay) a.n a.w a.doing) a.value

abbrev pub access_lay : Access → Lay
access_lay a = lay_of a.lay

-- store processor p's mapping of page g: 0 none, 1 read, 2 write, 3 wanted, which allows no load and no store
abbrev pub map_script : ℕ → ℕ → ℕ → Script (Unit {0})
map_script p g m = Do (Put (Map p g) m) (λ _. End tt)

abbrev pub map_rest : SetMap → Script (Unit {0})
map_rest s = left_unless s.over (map_script s.p s.g s.m)

abbrev pub map_lay : SetMap → Lay
map_lay s = lay_of s.lay
