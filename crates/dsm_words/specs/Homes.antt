-- The homes of pages, and their words there.
use Rattle.std.specs.Prelude.{ℕ, ◌-◌, ◌/◌, ◌%◌, List}
use Rattle.dsm_words.specs.declared.item.Item.{Item}
use Rattle.dsm_words.specs.declared.item.Item.TheVariants.{Frame, Home}
use Rattle.dsm_words.specs.Place.{Lay}
use Rattle.dsm_words.specs.Words.{word}

-- the home of page g by these words: the node that its word names by its number plus 1; where it names none, the page is as at the start at
-- every node, and it is read at node 0
abbrev pub home_in : Lay → List ℕ → ℕ → ℕ
home_in l ws g = (word l ws (Home g) - 1) % l.nodes

-- the word of address w at the home of its page
abbrev pub master : Lay → List ℕ → ℕ → Item
master l ws w = Frame (home_in l ws (w / l.words)) (w / l.words) (w % l.words)
