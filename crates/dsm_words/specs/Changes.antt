-- What a list of operations makes of the words, where nobody else changes them between.
use Rattle.std.specs.Prelude.{◌≡◌, ◌≢◌, ℕ, List, [], ◌∷◌}
use Rattle.dsm_words.specs.declared.item.Item.{Item}
use Rattle.dsm_words.specs.Place.{Lay, IsWithin}
use Rattle.dsm_words.specs.Script.{Act, Script, Makes, item_of}
use Rattle.dsm_words.specs.Words.{word, done, reply}

-- the words after the operations, one behind the other
abbrev pub done_all : Lay → List ℕ → List (Act × ℕ) → List ℕ
done_all l ws [] = ws
done_all l ws (x ∷ xs) = done_all l (done l ws x.0) xs

-- each answer is that of the words as they then stood
abbrev pub IsAnswered : Lay → List ℕ → List (Act × ℕ) → Type 0
IsAnswered l ws [] = Unit {0}
IsAnswered l ws (x ∷ xs) = (x.1 ≡ reply l ws x.0) × IsAnswered l (done l ws x.0) xs

-- the script makes these operations, alone, from these words on, and they lead to this result
abbrev pub MakesAlone : {R : Type 0} → Lay → List ℕ → Script R → List (Act × ℕ) → R → Type 0
MakesAlone l ws s xs r = Makes s xs r × IsAnswered l ws xs

-- every operation is on an item in range
abbrev pub StaysWithin : Lay → List (Act × ℕ) → Type 0
StaysWithin l [] = Unit {0}
StaysWithin l (x ∷ xs) = IsWithin l (item_of x.0) × StaysWithin l xs

-- no operation is on this item
abbrev pub LeavesOut : List (Act × ℕ) → Item → Type 0
LeavesOut [] it = Unit {0}
LeavesOut (x ∷ xs) it = (it ≢ item_of x.0) × LeavesOut xs it

-- whatever list the script makes alone from these words on, this holds of the words behind it
abbrev pub AlwaysLeaves : {R : Type 0} → Lay → List ℕ → Script R → (List ℕ → Type 0) → Type 0
AlwaysLeaves l ws s Holds = (xs : List (Act × ℕ)) (r : _) → MakesAlone l ws s xs r → Holds (done_all l ws xs)

-- it leaves the word of every item that its list doesn't name
abbrev pub LeavesTheUnnamed : {R : Type 0} → Lay → Script R → Type 0
LeavesTheUnnamed l s = (ws : List ℕ) (xs : List (Act × ℕ)) (r : _) (it : Item) → MakesAlone l ws s xs r → IsWithin l it → LeavesOut xs it → word l (done_all l ws xs) it ≡ word l ws it

-- from any words on it makes a list alone
abbrev pub CanBeMade : {R : Type 0} → Lay → Script R → Type 0
CanBeMade l s = (ws : List ℕ) → (xs : List (Act × ℕ)) × ((r : _) × MakesAlone l ws s xs r)
