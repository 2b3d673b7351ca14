-- The lists of getting a page.
use Rattle.std.specs.Prelude.{ℕ, suc, ◌+◌, ◌-◌, ◌==◌, if◌then◌else◌}
use Rattle.dsm_words.specs.declared.item.Item.TheVariants.{Frame, Twin}
use Rattle.dsm_words.specs.Parts.{each}
use Rattle.dsm_words.specs.Place.{Lay, lay_of, home}
use Rattle.dsm_words.specs.Script.{Script, End, Do, Get, Put}
use Rattle.dsm_incoming.specs.declared.merge.Merge.{Merge}
use Rattle.dsm_incoming.specs.declared.merge.Point.{Point as MergePoint}
use Rattle.dsm_incoming.specs.declared.merge.Point.TheVariants.{LoadMaster, LoadTwin, StoreFrame, StoreTwin, Over as Merged}
use Rattle.dsm_incoming.specs.declared.overwrite.Overwrite.{Overwrite}
use Rattle.dsm_incoming.specs.declared.overwrite.Point.{Point as OverwritePoint}
use Rattle.dsm_incoming.specs.declared.overwrite.Point.TheVariants.{Load, Store, Over as Overwritten}

-- store v, word i of the master, in the twin of node n
abbrev pub merge_refresh : ℕ → ℕ → ℕ → ℕ → Script (Unit {0}) → Script (Unit {0})
merge_refresh n g i v s = Do (Put (Twin n g i) v) (λ _. s)

-- store it in the frame, and then in the twin
abbrev pub merge_store : ℕ → ℕ → ℕ → ℕ → Script (Unit {0}) → Script (Unit {0})
merge_store n g i v s = Do (Put (Frame n g i) v) (λ _. merge_refresh n g i v s)

-- load the twin's word; where they differ, store
abbrev pub merge_twin : ℕ → ℕ → ℕ → ℕ → Script (Unit {0}) → Script (Unit {0})
merge_twin n g i v s = Do (Get (Twin n g i)) (λ t. if v == t then s else merge_store n g i v s)

-- load word i of the master, which is the frame of the home h, and go on with it
abbrev pub merge_word : ℕ → ℕ → ℕ → ℕ → Script (Unit {0}) → Script (Unit {0})
merge_word n g h i s = Do (Get (Frame h g i)) (λ v. merge_twin n g i v s)

-- the k words from word i on, and all words of the page
abbrev pub merge_words : ℕ → ℕ → ℕ → ℕ → ℕ → Script (Unit {0})
merge_words n g h i k = each (λ i s. merge_word n g h i s) i k (End tt)

abbrev pub merge_script : Lay → ℕ → ℕ → ℕ → Script (Unit {0})
merge_script l n g h = merge_words n g h 0 l.words

-- at word i, with k words behind it
abbrev pub merge_at : ℕ → ℕ → ℕ → ℕ → ℕ → MergePoint → Script (Unit {0})
merge_at n g h i k LoadMaster = merge_words n g h i (suc k)
merge_at n g h i k (LoadTwin v) = merge_twin n g i v (merge_words n g h (i + 1) k)
merge_at n g h i k (StoreFrame v) = merge_store n g i v (merge_words n g h (i + 1) k)
merge_at n g h i k (StoreTwin v) = merge_refresh n g i v (merge_words n g h (i + 1) k)
merge_at n g h i k Merged = End tt

abbrev pub merge_rest : Merge → Script (Unit {0})
merge_rest m = merge_at m.n m.g (home m.lay m.g) m.i (m.lay.words - (m.i + 1)) m.at

abbrev pub merge_lay : Merge → Lay
merge_lay m = lay_of m.lay

-- behind its word
abbrev pub merge_behind : Merge → Script (Unit {0})
merge_behind m = merge_words m.n m.g (home m.lay m.g) (m.i + 1) (m.lay.words - (m.i + 1))

-- store v, word i of the master, in the frame of node n
abbrev pub overwrite_store : ℕ → ℕ → ℕ → ℕ → Script (Unit {0}) → Script (Unit {0})
overwrite_store n g i v s = Do (Put (Frame n g i) v) (λ _. s)

-- load word i of the master, and store it
abbrev pub overwrite_word : ℕ → ℕ → ℕ → ℕ → Script (Unit {0}) → Script (Unit {0})
overwrite_word n g h i s = Do (Get (Frame h g i)) (λ v. overwrite_store n g i v s)

-- the k words from word i on, and all words of the page
abbrev pub overwrite_words : ℕ → ℕ → ℕ → ℕ → ℕ → Script (Unit {0})
overwrite_words n g h i k = each (λ i s. overwrite_word n g h i s) i k (End tt)

abbrev pub overwrite_script : Lay → ℕ → ℕ → ℕ → Script (Unit {0})
overwrite_script l n g h = overwrite_words n g h 0 l.words

-- at word i, of which the master had v, with k words behind it
abbrev pub overwrite_at : ℕ → ℕ → ℕ → ℕ → ℕ → ℕ → OverwritePoint → Script (Unit {0})
overwrite_at n g h i v k Load = overwrite_words n g h i (suc k)
overwrite_at n g h i v k Store = overwrite_store n g i v (overwrite_words n g h (i + 1) k)
overwrite_at n g h i v k Overwritten = End tt

abbrev pub overwrite_rest : Overwrite → Script (Unit {0})
overwrite_rest o = overwrite_at o.n o.g (home o.lay o.g) o.i o.v (o.lay.words - (o.i + 1)) o.at

abbrev pub overwrite_lay : Overwrite → Lay
overwrite_lay o = lay_of o.lay

-- behind its word
abbrev pub overwrite_behind : Overwrite → Script (Unit {0})
overwrite_behind o = overwrite_words o.n o.g (home o.lay o.g) (o.i + 1) (o.lay.words - (o.i + 1))
