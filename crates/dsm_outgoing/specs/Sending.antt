-- The lists of sending a page.
use Rattle.std.specs.Prelude.{ℕ, suc, ◌+◌, ◌-◌, ◌==◌, if◌then◌else◌}
use Rattle.dsm_words.specs.declared.item.Item.TheVariants.{Frame, Twin, Flush as FlushTime}
use Rattle.dsm_words.specs.Parts.{each}
use Rattle.dsm_words.specs.Place.{Lay, lay_of, home}
use Rattle.dsm_words.specs.Script.{Script, End, Do, Get, Put, left}
use Rattle.dsm_outgoing.specs.declared.flush.Flush.{Flush}
use Rattle.dsm_outgoing.specs.declared.flush.Point.{Point}
use Rattle.dsm_outgoing.specs.declared.flush.Point.TheVariants.{LoadFrame, LoadTwin, StoreTwin, StoreMaster, Over}
use Rattle.dsm_outgoing.specs.declared.last.LastFlush.{LastFlush}

-- load when node n last flushed page g
abbrev pub last_flush_script : ℕ → ℕ → Script ℕ
last_flush_script n g = Do (Get (FlushTime n g)) (λ v. End v)

abbrev pub last_flush_rest : LastFlush → Script ℕ
last_flush_rest f = left (last_flush_script f.n f.g) f.time

abbrev pub last_flush_lay : LastFlush → Lay
last_flush_lay f = lay_of f.lay

-- store v, word i of the frame, in the master, which is the frame of the home h
abbrev pub flush_master : ℕ → ℕ → ℕ → ℕ → Script (Unit {0}) → Script (Unit {0})
flush_master g h i v s = Do (Put (Frame h g i) v) (λ _. s)

-- store it in the twin, and then in the master
abbrev pub flush_store : ℕ → ℕ → ℕ → ℕ → ℕ → Script (Unit {0}) → Script (Unit {0})
flush_store n g h i v s = Do (Put (Twin n g i) v) (λ _. flush_master g h i v s)

-- load the twin's word; where they differ, store
abbrev pub flush_twin : ℕ → ℕ → ℕ → ℕ → ℕ → Script (Unit {0}) → Script (Unit {0})
flush_twin n g h i v s = Do (Get (Twin n g i)) (λ t. if v == t then s else flush_store n g h i v s)

-- load word i of the frame, and go on with it
abbrev pub flush_word : ℕ → ℕ → ℕ → ℕ → Script (Unit {0}) → Script (Unit {0})
flush_word n g h i s = Do (Get (Frame n g i)) (λ v. flush_twin n g h i v s)

-- the k words from word i on, and all words of the page
abbrev pub flush_words : ℕ → ℕ → ℕ → ℕ → ℕ → Script (Unit {0})
flush_words n g h i k = each (λ i s. flush_word n g h i s) i k (End tt)

abbrev pub flush_script : Lay → ℕ → ℕ → ℕ → Script (Unit {0})
flush_script l n g h = flush_words n g h 0 l.words

-- at word i, with k words behind it
abbrev pub flush_at : ℕ → ℕ → ℕ → ℕ → ℕ → Point → Script (Unit {0})
flush_at n g h i k LoadFrame = flush_words n g h i (suc k)
flush_at n g h i k (LoadTwin v) = flush_twin n g h i v (flush_words n g h (i + 1) k)
flush_at n g h i k (StoreTwin v) = flush_store n g h i v (flush_words n g h (i + 1) k)
flush_at n g h i k (StoreMaster v) = flush_master g h i v (flush_words n g h (i + 1) k)
flush_at n g h i k Over = End tt

abbrev pub flush_rest : Flush → Script (Unit {0})
flush_rest f = flush_at f.n f.g (home f.lay f.g) f.i (f.lay.words - (f.i + 1)) f.at

abbrev pub flush_lay : Flush → Lay
flush_lay f = lay_of f.lay

-- behind its word
abbrev pub flush_behind : Flush → Script (Unit {0})
flush_behind f = flush_words f.n f.g (home f.lay f.g) (f.i + 1) (f.lay.words - (f.i + 1))
