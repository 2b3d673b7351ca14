-- The words at the start, seen by items.
use Rattle.std.proofs.Common.{◌≡◌, ℕ, zero, suc, ◌+◌, ◌-◌, ◌*◌, ◌<◌, ◌≤◌, List, [], ◌∷◌, ◌++◌, length, get_or, replicate, refl, ap, ◌∙◌, arith, length-append}
use Rattle.std.specs.Prelude.{flat_map, Option}
use Rattle.std.specs.List.{range_with_len}
use Rattle.std.proofs.lemmas.List.FromFn.{length-map-range_with_len, get_or-map-range_with_len}
use Rattle.dsm_protocol.specs.Processors.{new_processor}
use Rattle.std.proofs.lemmas.Nat.{mul-add-lt}
use Rattle.std.proofs.lemmas.List.{get_or-append_right, get_or_append_left, length-replicate, get_or-replicate}
use Rattle.std.proofs.Math.Nat.{mul_comm}
use Rattle.dsm_words.specs.declared.item.Item.{Item}
use Rattle.dsm_words.specs.declared.item.Item.TheVariants.{Stop, Frame, Twin, Twined, Map, Dir, Update, Flush, Notice, Clock, Turn, NoticeTurn, Global, Own, Nle, Lock, Barrier, Flag, Close, Home}
use Rattle.dsm_words.specs.Place.{IsWithin, sizes, start, place, total}
use Rattle.dsm_words.specs.Words.{word}
use Rattle.dsm_words.proofs.PlaceLaws.{offset_below}
use Rattle.dsm_runs.specs.Setups.{Setup, lay_in, who_at, initial, frames_of, first_words, first_value}
use Rattle.dsm_runs.specs.Clusters.{Cluster, Event, start as start_of, after_loose, after_all_loose}
use Rattle.dsm_runs.specs.Laws.{StartsByItems, EveryStateIsWhole}
use Rattle.dsm_runs.proofs.Events.{keeps_lengths}

-- pieces of one length, behind one another
module _ (f : ℕ → List ℕ) (size : ℕ) (each : (n : ℕ) → length (f n) ≡ size) where
  length-pieces : (n a : ℕ) → length (flat_map f (range_with_len a n)) ≡ n * size
  length-pieces zero a = omega arith
  length-pieces (suc n) a = length-append (f a) (flat_map f (range_with_len (a + 1) n)) ∙ grind (arith, each a, length-pieces n (a + 1))

  get_or-pieces : (n a m k : ℕ) → m < n → k < size → get_or (flat_map f (range_with_len a n)) (m * size + k) 0 ≡ get_or (f (a + m)) k 0
  get_or-pieces zero a m k h q = absurd (omega arith)
  get_or-pieces (suc n) a zero k h q =
      let at : zero * size + k ≡ k = omega arith in
      let p : a ≡ a + zero = omega arith in
      ap (λ i. get_or (f a ++ flat_map f (range_with_len (a + 1) n)) i 0) at ∙ get_or_append_left (f a) (flat_map f (range_with_len (a + 1) n)) 0 k (omega (arith, each a)) ∙ ap (λ i. get_or (f i) k 0) p
  get_or-pieces (suc n) a (suc m) k h q =
      let at : suc m * size + k ≡ size + (m * size + k) = grind arith in
      let back : size + (m * size + k) - size ≡ m * size + k = omega arith in
      let p : a + 1 + m ≡ a + suc m = omega arith in
      ap (λ i. get_or (f a ++ flat_map f (range_with_len (a + 1) n)) i 0) at
      ∙ get_or-append_right (f a) (flat_map f (range_with_len (a + 1) n)) size (size + (m * size + k)) 0 (each a) (omega arith)
      ∙ ap (λ i. get_or (flat_map f (range_with_len (a + 1) n)) i 0) back
      ∙ get_or-pieces n (a + 1) m k (omega arith) q
      ∙ ap (λ i. get_or (f i) k 0) p

-- behind zeros, ones and zeros again
abbrev zeros : ℕ → List ℕ
zeros n = replicate n 0

abbrev ones : ℕ → List ℕ
ones n = replicate n 1

get_or-zeros : (n k : ℕ) → get_or (zeros n) k 0 ≡ zero
get_or-zeros zero k = refl
get_or-zeros (suc n) zero = refl
get_or-zeros (suc n) (suc k) = get_or-zeros n k

module _ (b n d : ℕ) where
  abbrev tail : List ℕ
  tail = zeros b ++ (ones n ++ zeros d)

  tail_before : (k : ℕ) → k < b → get_or tail k 0 ≡ get_or (zeros b) k 0
  tail_before k h = get_or_append_left (zeros b) (ones n ++ zeros d) 0 k (rw (length-replicate {A = ℕ} b 0) h)

  tail_in : (k : ℕ) → k < n → get_or tail (b + k) 0 ≡ get_or (ones n) k 0
  tail_in k h =
      let back : b + k - b ≡ k = omega arith in
      get_or-append_right (zeros b) (ones n ++ zeros d) b (b + k) 0 (length-replicate {A = ℕ} b 0) (omega arith)
      ∙ ap (λ i. get_or (ones n ++ zeros d) i 0) back
      ∙ get_or_append_left (ones n) (zeros d) 0 k (rw (length-replicate {A = ℕ} n 1) h)

  tail_behind : (k : ℕ) → get_or tail (b + n + k) 0 ≡ get_or (zeros d) k 0
  tail_behind k =
      let back : b + n + k - b ≡ n + k = omega arith in
      let more : n + k - n ≡ k = omega arith in
      get_or-append_right (zeros b) (ones n ++ zeros d) b (b + n + k) 0 (length-replicate {A = ℕ} b 0) (omega arith)
      ∙ ap (λ i. get_or (ones n ++ zeros d) i 0) back
      ∙ get_or-append_right (ones n) (zeros d) n (n + k) 0 (length-replicate {A = ℕ} n 1) (omega arith)
      ∙ ap (λ i. get_or (zeros d) i 0) more

  length-tail : length tail ≡ b + n + d
  length-tail =
      length-append (zeros b) (ones n ++ zeros d)
      ∙ omega (arith, length-replicate {A = ℕ} b 0, length-append (ones n) (zeros d), length-replicate {A = ℕ} n 1, length-replicate {A = ℕ} d 0)

module _ (s : Setup) where
  abbrev pages : ℕ
  pages = s.program.shape.pages

  abbrev words : ℕ
  words = s.program.shape.words

  abbrev sums : List ℕ
  sums = sizes (lay_in s)

  abbrev frames_at : ℕ → List ℕ
  frames_at n = frames_of (lay_in s) s.program.init

  abbrev frames : List ℕ
  frames = flat_map frames_at (range_with_len 0 s.nodes)

  abbrev gap : ℕ
  gap = start sums 9 - start sums 2

  abbrev rest : ℕ
  rest = total (lay_in s) - start sums 10

  -- the value of word w of node n's frames
  abbrev frame_value : ℕ → ℕ → ℕ
  frame_value n w = initial s.program.init w

  each : (n : ℕ) → length (frames_at n) ≡ pages * words
  each n = length-map-range_with_len (frame_value n) 0 (pages * words)

  flat : s.nodes * (pages * words) ≡ s.nodes * pages * words
  flat = grind arith

  length-frames : length frames ≡ s.nodes * pages * words
  length-frames = length-pieces frames_at (pages * words) each s.nodes 0 ∙ flat

  at_frames : (n g i : ℕ) → n < s.nodes → g < pages → i < words → get_or (first_words s) (suc (n * (pages * words) + (g * words + i))) 0 ≡ frame_value n (g * words + i)
  at_frames n g i a b c =
      let inside : g * words + i < pages * words = rw (mul_comm pages words) (mul-add-lt g words i pages b c) in
      let below : n * (pages * words) + (g * words + i) < length frames =
      let z : n * (pages * words) + (g * words + i) < s.nodes * (pages * words) = rw (mul_comm s.nodes (pages * words)) (mul-add-lt n (pages * words) (g * words + i) s.nodes a inside) in
      rw (length-pieces frames_at (pages * words) each s.nodes 0) z in
      let p : 0 + n ≡ n = omega arith in
      let q : 0 + (g * words + i) ≡ g * words + i = omega arith in
      get_or_append_left frames (tail gap s.nodes rest) 0 (n * (pages * words) + (g * words + i)) below
      ∙ get_or-pieces frames_at (pages * words) each s.nodes 0 n (g * words + i) a inside
      ∙ ap (λ m. get_or (frames_at m) (g * words + i) 0) p
      ∙ get_or-map-range_with_len (frame_value n) 0 (pages * words) (g * words + i) (g * words + i) 0 inside q

  at_tail : (k : ℕ) → get_or (first_words s) (suc (s.nodes * pages * words + k)) 0 ≡ get_or (tail gap s.nodes rest) k 0
  at_tail k =
      let back : s.nodes * pages * words + k - s.nodes * pages * words ≡ k = omega arith in
      get_or-append_right frames (tail gap s.nodes rest) (s.nodes * pages * words) (s.nodes * pages * words + k) 0 length-frames (omega arith)
      ∙ ap (λ i. get_or (tail gap s.nodes rest) i 0) back

  before_clocks : (p : ℕ) → start sums 2 ≤ p → p < start sums 9 → get_or (first_words s) p 0 ≡ 0
  before_clocks p h q =
      let is : p ≡ suc (s.nodes * pages * words + (p - start sums 2)) = omega arith in
      ap (λ i. get_or (first_words s) i 0) is ∙ at_tail (p - start sums 2) ∙ tail_before gap s.nodes rest (p - start sums 2) (omega arith) ∙ get_or-zeros gap (p - start sums 2)

  at_clocks : (n : ℕ) → n < s.nodes → get_or (first_words s) (start sums 9 + n) 0 ≡ 1
  at_clocks n h =
      let is : start sums 9 + n ≡ suc (s.nodes * pages * words + (gap + n)) = omega arith in
      ap (λ i. get_or (first_words s) i 0) is ∙ at_tail (gap + n) ∙ tail_in gap s.nodes rest n h ∙ get_or-replicate s.nodes n 1 0 h

  behind_clocks : (p : ℕ) → start sums 10 ≤ p → get_or (first_words s) p 0 ≡ 0
  behind_clocks p h =
      let is : p ≡ suc (s.nodes * pages * words + (gap + s.nodes + (p - start sums 10))) = omega arith in
      ap (λ i. get_or (first_words s) i 0) is ∙ at_tail (gap + s.nodes + (p - start sums 10)) ∙ tail_behind gap s.nodes rest (p - start sums 10) ∙ get_or-zeros rest (p - start sums 10)

  length-first : length (first_words s) ≡ total (lay_in s)
  length-first =
      ap suc (length-append frames (tail gap s.nodes rest)) ∙ omega (arith, length-frames, length-tail gap s.nodes rest)

  starts : (it : Item) → IsWithin (lay_in s) it → get_or (first_words s) (place (lay_in s) it) 0 ≡ first_value s it
  starts Stop w = refl
  starts (Frame n g i) w =
      let is : place (lay_in s) (Frame n g i) ≡ suc (n * (pages * words) + (g * words + i)) = grind arith in
      ap (λ k. get_or (first_words s) k 0) is
      ∙ at_frames n g i w.0 w.1 w.2
  starts (Twin n g i) w = before_clocks (place (lay_in s) (Twin n g i)) (omega arith) (omega (arith, offset_below (lay_in s) (Twin n g i) w))
  starts (Twined n g) w = before_clocks (place (lay_in s) (Twined n g)) (omega arith) (omega (arith, offset_below (lay_in s) (Twined n g) w))
  starts (Map p g) w = before_clocks (place (lay_in s) (Map p g)) (omega arith) (omega (arith, offset_below (lay_in s) (Map p g) w))
  starts (Dir n g) w = before_clocks (place (lay_in s) (Dir n g)) (omega arith) (omega (arith, offset_below (lay_in s) (Dir n g) w))
  starts (Update n g) w = before_clocks (place (lay_in s) (Update n g)) (omega arith) (omega (arith, offset_below (lay_in s) (Update n g) w))
  starts (Flush n g) w = before_clocks (place (lay_in s) (Flush n g)) (omega arith) (omega (arith, offset_below (lay_in s) (Flush n g) w))
  starts (Notice n g) w = before_clocks (place (lay_in s) (Notice n g)) (omega arith) (omega (arith, offset_below (lay_in s) (Notice n g) w))
  starts (Clock n) w = at_clocks n w
  starts (Turn n g) w = behind_clocks (place (lay_in s) (Turn n g)) (omega arith)
  starts (NoticeTurn n) w = behind_clocks (place (lay_in s) (NoticeTurn n)) (omega arith)
  starts (Global n m k) w = behind_clocks (place (lay_in s) (Global n m k)) (omega arith)
  starts (Own p k) w = behind_clocks (place (lay_in s) (Own p k)) (omega arith)
  starts (Nle p k) w = behind_clocks (place (lay_in s) (Nle p k)) (omega arith)
  starts (Lock i) w = behind_clocks (place (lay_in s) (Lock i)) (omega arith)
  starts (Barrier b) w = behind_clocks (place (lay_in s) (Barrier b)) (omega arith)
  starts (Flag f) w = behind_clocks (place (lay_in s) (Flag f)) (omega arith)
  starts Close w = behind_clocks (place (lay_in s) Close) (omega arith)
  starts (Home g) w = behind_clocks (place (lay_in s) (Home g)) (omega arith)

pub starts_by_items : StartsByItems
unfolding word start_of
starts_by_items s it w = starts s it w

whole : (s : Setup) (es : List (Event × Option ℕ)) (c : Cluster) → length c.words ≡ total (lay_in s) → length c.processors ≡ s.nodes * s.procs
    → (length (after_all_loose s c es).words ≡ total (lay_in s)) × (length (after_all_loose s c es).processors ≡ s.nodes * s.procs)
unfolding after_all_loose
whole s [] c words ps = (words, ps)
whole s (e ∷ es) c words ps =
    let kept = keeps_lengths s c e.0 e.1 in
    whole s es (after_loose s c e.0 e.1) (kept.0 ∙ words) (kept.1 ∙ ps)

pub length-processors : (s : Setup) → length (start_of s).processors ≡ s.nodes * s.procs
unfolding start_of
length-processors s = length-map-range_with_len (λ q. new_processor (who_at s q) s.program.code) 0 (s.nodes * s.procs)

pub length-words : (s : Setup) → length (start_of s).words ≡ total (lay_in s)
unfolding start_of
length-words s = length-first s

pub every_whole : EveryStateIsWhole
every_whole s events = whole s events (start_of s) (length-words s) (length-processors s)
