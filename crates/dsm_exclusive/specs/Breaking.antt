-- The list of breaking exclusive mode.
use Rattle.std.specs.Prelude.{ℕ, suc, ◌+◌, ◌-◌, ◌*◌, ◌==◌, if◌then◌else◌}
use Rattle.dsm_words.specs.declared.item.Item.TheVariants.{Frame, Twin, Twined, Map, Dir, Nle}
use Rattle.dsm_words.specs.Pages.{group_of, bit_of}
use Rattle.dsm_words.specs.Parts.{each}
use Rattle.dsm_words.specs.Place.{Lay, lay_of, home}
use Rattle.dsm_words.specs.Script.{Script, End, Do, Get, Put, Or}
use Rattle.dsm_exclusive.specs.declared.breaking.Break.{Break}
use Rattle.dsm_exclusive.specs.declared.breaking.Point.{Point}
use Rattle.dsm_exclusive.specs.declared.breaking.Point.TheVariants.{LoadMap, OrNle, LoadFrame, StoreTwin, StoreMaster, StoreTwined, StoreDir, Over}

-- set the bit of page g in the words that processor q takes
abbrev pub break_tell : ℕ → ℕ → Script (Unit {0}) → Script (Unit {0})
break_tell g q s = Do (Or (Nle q (group_of g)) (bit_of g)) (λ _. s)

-- load the processor's mapping; where it may write, set the bit
abbrev pub break_map : ℕ → ℕ → Script (Unit {0}) → Script (Unit {0})
break_map g q s = Do (Get (Map q g)) (λ v. if v == 2 then break_tell g q s else s)

-- store v, word i of the frame, in the master, which is the frame of the home h
abbrev pub break_master : ℕ → ℕ → ℕ → ℕ → Script (Unit {0}) → Script (Unit {0})
break_master g h i v s = Do (Put (Frame h g i) v) (λ _. s)

-- store it in the twin of node m, and then in the master
abbrev pub break_store : ℕ → ℕ → ℕ → ℕ → ℕ → Script (Unit {0}) → Script (Unit {0})
break_store m g h i v s = Do (Put (Twin m g i) v) (λ _. break_master g h i v s)

-- load word i of the frame, once, and store it
abbrev pub break_word : ℕ → ℕ → ℕ → ℕ → Script (Unit {0}) → Script (Unit {0})
break_word m g h i s = Do (Get (Frame m g i)) (λ v. break_store m g h i v s)

-- store that node m shares the page
abbrev pub break_end : ℕ → ℕ → Script (Unit {0})
break_end m g = Do (Put (Dir m g) 1) (λ _. End tt)

-- store that it has a twin, and then that
abbrev pub break_twined : ℕ → ℕ → Script (Unit {0})
break_twined m g = Do (Put (Twined m g) 1) (λ _. break_end m g)

-- the k words from word i on, and what follows them
abbrev pub break_words : ℕ → ℕ → ℕ → ℕ → ℕ → Script (Unit {0})
break_words m g h i k = each (λ i s. break_word m g h i s) i k (break_twined m g)

-- behind the bits: the home only stores
abbrev pub break_copy : Lay → ℕ → ℕ → ℕ → Script (Unit {0})
break_copy l m g h = if m == h then break_end m g else break_words m g h 0 l.words

-- the k processors from q on, and what follows them
abbrev pub break_maps : Lay → ℕ → ℕ → ℕ → ℕ → ℕ → Script (Unit {0})
break_maps l m g h q k = each (λ q s. break_map g q s) q k (break_copy l m g h)

abbrev pub break_script : Lay → ℕ → ℕ → ℕ → Script (Unit {0})
break_script l m g h = break_maps l m g h (m * l.procs) l.procs

-- at processor q with c behind it, or at word i with k behind it
abbrev pub break_at : Lay → ℕ → ℕ → ℕ → ℕ → ℕ → ℕ → ℕ → Point → Script (Unit {0})
break_at l m g h q c i k LoadMap = break_maps l m g h q (suc c)
break_at l m g h q c i k OrNle = break_tell g q (break_maps l m g h (q + 1) c)
break_at l m g h q c i k LoadFrame = break_words m g h i (suc k)
break_at l m g h q c i k (StoreTwin v) = break_store m g h i v (break_words m g h (i + 1) k)
break_at l m g h q c i k (StoreMaster v) = break_master g h i v (break_words m g h (i + 1) k)
break_at l m g h q c i k StoreTwined = break_twined m g
break_at l m g h q c i k StoreDir = break_end m g
break_at l m g h q c i k Over = End tt

abbrev pub break_lay : Break → Lay
break_lay b = lay_of b.lay

abbrev pub break_rest : Break → Script (Unit {0})
break_rest b = break_at (break_lay b) b.m b.g (home b.lay b.g) b.q b.behind b.i (b.lay.words - (b.i + 1)) b.at

-- behind its processor, and behind its word
abbrev pub maps_behind : Break → Script (Unit {0})
maps_behind b = break_maps (break_lay b) b.m b.g (home b.lay b.g) (b.q + 1) b.behind

abbrev pub words_behind : Break → Script (Unit {0})
words_behind b = break_words b.m b.g (home b.lay b.g) (b.i + 1) (b.lay.words - (b.i + 1))
