-- Each item has its place among the words, and no two items share one.
use Rattle.std.proofs.Common.{◌≡◌, ◌≢◌, ℕ, zero, suc, ◌+◌, ◌*◌, ◌/◌, ◌%◌, ◌<◌, ◌≤◌, List, [], ◌∷◌, get_or, refl, sym, ap, ◌∙◌, ◌⊎◌, inl, inr, arith}
use Rattle.std.proofs.lemmas.Nat.{mul-add-lt, div-mul-add, mod-mul-add}
use Rattle.std.proofs.Math.Nat.{mul_comm}
use Rattle.std.proofs.lemmas.Bool.{cases_lt}
use Rattle.dsm_words.specs.declared.item.Item.{Item}
use Rattle.dsm_words.specs.declared.item.Item.TheVariants.{Stop, Frame, Twin, Twined, Map, Dir, Update, Flush, Notice, Clock, Turn, NoticeTurn, Global, Own, Nle, Lock, Barrier, Flag, Close, Home}
use Rattle.dsm_words.specs.Place.{Lay, IsWithin, processors, groups, sizes, block, offset, start, place, all_of, total}

row : (a w b h : ℕ) → a < h → b < w → a * w + b < h * w
row a w b h p q = rw (mul_comm h w) (mul-add-lt a w b h p q)

-- an item's word lies in its block
pub offset_below : (l : Lay) (it : Item) → IsWithin l it → offset l it < get_or (sizes l) (block it) 0
offset_below l Stop w = omega arith
offset_below l (Frame n g i) w = row (n * l.pages + g) l.words i (l.nodes * l.pages) (row n l.pages g l.nodes w.0 w.1) w.2
offset_below l (Twin n g i) w = row (n * l.pages + g) l.words i (l.nodes * l.pages) (row n l.pages g l.nodes w.0 w.1) w.2
offset_below l (Twined n g) w = row n l.pages g l.nodes w.0 w.1
offset_below l (Map p g) w = row p l.pages g (processors l) w.0 w.1
offset_below l (Dir n g) w = row n l.pages g l.nodes w.0 w.1
offset_below l (Update n g) w = row n l.pages g l.nodes w.0 w.1
offset_below l (Flush n g) w = row n l.pages g l.nodes w.0 w.1
offset_below l (Notice n g) w = row n l.pages g l.nodes w.0 w.1
offset_below l (Clock n) w = w
offset_below l (Turn n g) w = row n l.pages g l.nodes w.0 w.1
offset_below l (NoticeTurn n) w = w
offset_below l (Global n m k) w = row (n * l.nodes + m) (groups l) k (l.nodes * l.nodes) (row n l.nodes m l.nodes w.0 w.1) w.2
offset_below l (Own p k) w = row p (groups l) k (processors l) w.0 w.1
offset_below l (Nle p k) w = row p (groups l) k (processors l) w.0 w.1
offset_below l (Lock i) w = w
offset_below l (Barrier b) w = w
offset_below l (Flag f) w = w
offset_below l Close w = omega arith
offset_below l (Home g) w = w

-- blocks follow one another
start_inside : (ss : List ℕ) (k o : ℕ) → o < get_or ss k 0 → start ss k + o < all_of ss
start_inside [] k o h = absurd (omega arith)
start_inside (s ∷ ss) zero o h = omega arith
start_inside (s ∷ ss) (suc k) o h = omega (arith, start_inside ss k o h)

starts_apart : (ss : List ℕ) (j k o q : ℕ) → j < k → o < get_or ss j 0 → start ss j + o < start ss k + q
starts_apart [] j k o q lt h = absurd (omega arith)
starts_apart (s ∷ ss) j zero o q lt h = absurd (omega arith)
starts_apart (s ∷ ss) zero (suc k) o q lt h = omega arith
starts_apart (s ∷ ss) (suc j) (suc k) o q lt h =
    let below : j < k = omega arith in
    omega (arith, starts_apart ss j k o q below h)

pub place_below : (l : Lay) (it : Item) → IsWithin l it → place l it < total l
place_below l it w = start_inside (sizes l) (block it) (offset l it) (offset_below l it w)

-- the item at a place of each block
items_at : Lay → ℕ → List Item
items_at l o =
    Stop
    ∷ Frame (o / l.words / l.pages) (o / l.words % l.pages) (o % l.words)
    ∷ Twin (o / l.words / l.pages) (o / l.words % l.pages) (o % l.words)
    ∷ Twined (o / l.pages) (o % l.pages)
    ∷ Map (o / l.pages) (o % l.pages)
    ∷ Dir (o / l.pages) (o % l.pages)
    ∷ Update (o / l.pages) (o % l.pages)
    ∷ Flush (o / l.pages) (o % l.pages)
    ∷ Notice (o / l.pages) (o % l.pages)
    ∷ Clock o
    ∷ Turn (o / l.pages) (o % l.pages)
    ∷ NoticeTurn o
    ∷ Global (o / groups l / l.nodes) (o / groups l % l.nodes) (o % groups l)
    ∷ Own (o / groups l) (o % groups l)
    ∷ Nle (o / groups l) (o % groups l)
    ∷ Lock o
    ∷ Barrier o
    ∷ Flag o
    ∷ Close
    ∷ Home o
    ∷ []

-- the item at a place of a block
decode : Lay → ℕ → ℕ → Item
decode l k o = get_or (items_at l o) k Stop

-- two numbers in a row, and three
pair_back : (X : Type 0) (f : ℕ → ℕ → X) (a w b : ℕ) → b < w → f ((a * w + b) / w) ((a * w + b) % w) ≡ f a b
pair_back X f a w b h = rw (div-mul-add a w b h, mod-mul-add a w b h) refl

triple_back : (X : Type 0) (f : ℕ → ℕ → ℕ → X) (a h b w c : ℕ) → b < h → c < w → f (((a * h + b) * w + c) / w / h) (((a * h + b) * w + c) / w % h) (((a * h + b) * w + c) % w) ≡ f a b c
triple_back X f a h b w c p q = rw (div-mul-add (a * h + b) w c q, mod-mul-add (a * h + b) w c q, div-mul-add a h b p, mod-mul-add a h b p) refl

decoded : (l : Lay) (it : Item) → IsWithin l it → decode l (block it) (offset l it) ≡ it
unfolding decode items_at
decoded l Stop w = refl
decoded l (Frame n g i) w = triple_back Item Frame n l.pages g l.words i w.1 w.2
decoded l (Twin n g i) w = triple_back Item Twin n l.pages g l.words i w.1 w.2
decoded l (Twined n g) w = pair_back Item Twined n l.pages g w.1
decoded l (Map p g) w = pair_back Item Map p l.pages g w.1
decoded l (Dir n g) w = pair_back Item Dir n l.pages g w.1
decoded l (Update n g) w = pair_back Item Update n l.pages g w.1
decoded l (Flush n g) w = pair_back Item Flush n l.pages g w.1
decoded l (Notice n g) w = pair_back Item Notice n l.pages g w.1
decoded l (Clock n) w = refl
decoded l (Turn n g) w = pair_back Item Turn n l.pages g w.1
decoded l (NoticeTurn n) w = refl
decoded l (Global n m k) w = triple_back Item Global n l.nodes m (groups l) k w.1 w.2
decoded l (Own p k) w = pair_back Item Own p (groups l) k w.1
decoded l (Nle p k) w = pair_back Item Nle p (groups l) k w.1
decoded l (Lock i) w = refl
decoded l (Barrier b) w = refl
decoded l (Flag f) w = refl
decoded l Close w = refl
decoded l (Home g) w = refl

same_block : (l : Lay) (a b : Item) → IsWithin l a → IsWithin l b → block a ≡ block b → place l a ≡ place l b → a ≡ b
same_block l a b v w e p =
    let q : start (sizes l) (block a) + offset l a ≡ start (sizes l) (block a) + offset l b = p ∙ ap (λ k. start (sizes l) k + offset l b) (sym e) in
    let o : offset l a ≡ offset l b = omega (arith, q) in
    sym (decoded l a v) ∙ (ap (λ k. decode l k (offset l a)) e ∙ (ap (λ x. decode l (block b) x) o ∙ decoded l b w))

-- items with one place are one item
pub place_injective : (l : Lay) (a b : Item) → IsWithin l a → IsWithin l b → place l a ≡ place l b → a ≡ b
place_injective l a b v w p = go (cases_lt (block a) (block b)) (cases_lt (block b) (block a))
  where
    go : (block a < block b) ⊎ (block b ≤ block a) → (block b < block a) ⊎ (block a ≤ block b) → a ≡ b
    go (inl h) _ = let x = starts_apart (sizes l) (block a) (block b) (offset l a) (offset l b) h (offset_below l a v) in absurd (omega (arith, x, p))
    go (inr h) (inl k) = let x = starts_apart (sizes l) (block b) (block a) (offset l b) (offset l a) k (offset_below l b w) in absurd (omega (arith, x, p))
    go (inr h) (inr k) = same_block l a b v w (omega arith) p

pub places_differ : (l : Lay) (a b : Item) → IsWithin l a → IsWithin l b → a ≢ b → place l a ≢ place l b
places_differ l a b v w ne e = ne (place_injective l a b v w e)
