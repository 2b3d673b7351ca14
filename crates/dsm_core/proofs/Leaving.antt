-- What a state leaves, machine by machine.
use Rattle.std.proofs.Common.{◌≡◌, ℕ, Bool, ◌+◌, ◌*◌, ◌%◌, ◌^◌, List, [], ◌∷◌, ◌++◌, Some, map, refl, sym, ap, ◌∙◌, arith}
use Rattle.std.specs.Prelude.{◌↔◌, slice_index, slice_get, is_some, IsTrue, All}
use Rattle.std.specs.List.{range_with_len, list_all}
use Rattle.std.proofs.lemmas.List.{map_push}
use Rattle.std.proofs.lemmas.List.FromFn.{map-range_with_len_more}
use Rattle.std.proofs.lemmas.Option.{slice_get-map}
use Rattle.std.proofs.lemmas.List.Sums.{sum_by_push, AllPass-from_list_all, list_all-from_AllPass}
use Rattle.std.proofs.lemmas.List.Folds.{list_all-map}
use Rattle.dsm_isa.specs.declared.instr.Instr.{Instr}
use Rattle.dsm_words.specs.Homes.{master}
use Rattle.dsm_words.specs.Place.{Lay, place}
use Rattle.dsm_words.specs.Words.{word}
use Rattle.dsm_machine.specs.declared.machine.Machine.{Machine}
use Rattle.dsm_protocol.specs.declared.counts.Counts.{Counts}
use Rattle.dsm_protocol.specs.Own.{added}
use Rattle.dsm_machine.specs.Machines.{processor_in}
use Rattle.dsm_protocol.specs.Processors.{Processor, ending}
use Rattle.dsm_protocol.specs.Jobs.{Job, Make, Again, Mark, Ask, Begin, Ended, end_of, has_ended}
use Rattle.dsm_runs.specs.Setups.{Setup, lay_in, addresses}
use Rattle.dsm_runs.specs.Outcomes.{total_of, total_counts}
use Rattle.dsm_runs.proofs.Lists.{slice_get-map-range_with_len}

-- the word of address w at its home
abbrev pub master_word : Lay → List ℕ → ℕ → ℕ
master_word l ws w = slice_index ws (place l (master l ws w))

-- the words of all addresses below n
abbrev pub master_words : Lay → List ℕ → ℕ → List ℕ
master_words l ws n = map (master_word l ws) (range_with_len 0 n)

-- a count of one processor more is added to that of all before it
total_more : (count : Counts → ℕ) (ps : List Processor) (p : Processor) → (total_of count ps + count p.own.counts) % 2 ^ 64 ≡ total_of count (ps ++ p ∷ [])
total_more count ps p = omega (arith, sum_by_push (λ m. count m.own.counts) ps p)

-- and so are all its counts
pub counts_more : (ps : List Processor) (p : Processor) → added (total_counts ps) p.own.counts ≡ total_counts (ps ++ p ∷ [])
counts_more ps p = λ i. record {
  read_faults = total_more (λ k. k.read_faults) ps p i;
  write_faults = total_more (λ k. k.write_faults) ps p i;
  overwrites = total_more (λ k. k.overwrites) ps p i;
  merges = total_more (λ k. k.merges) ps p i;
  twins = total_more (λ k. k.twins) ps p i;
  flushes = total_more (λ k. k.flushes) ps p i;
  early = total_more (λ k. k.early) ps p i;
  notices = total_more (λ k. k.notices) ps p i;
  unmaps = total_more (λ k. k.unmaps) ps p i;
  enters = total_more (λ k. k.enters) ps p i;
  breaks = total_more (λ k. k.breaks) ps p i;
  unready = total_more (λ k. k.unready) ps p i;
}

-- the words of memory, as the definition has them
pub pages_are : (s : Setup) (ws : List ℕ) (l : Lay) → l ≡ lay_in s → master_words l ws (l.pages * l.words) ≡ map (λ w. word (lay_in s) ws (master (lay_in s) ws w)) (addresses s)
unfolding word
pages_are s ws l for = ap (λ k. master_words k ws (k.pages * k.words)) for

-- one more element of what is made of a range of numbers
pub one_more : {X Y : Type 0} (f : X → Y) (g : ℕ → Y) (xs ys : List X) (x : X) (n : ℕ) → ys ≡ xs ++ x ∷ [] → map f xs ≡ map g (range_with_len 0 n) → f x ≡ g n → map f ys ≡ map g (range_with_len 0 (n + 1))
one_more f g xs ys x n is so_far next =
    ap (map f) is ∙ map_push f xs x ∙ ap (λ l. l ++ f x ∷ []) so_far ∙ ap (λ y. map g (range_with_len 0 n) ++ y ∷ []) next ∙ sym (map-range_with_len_more g 0 n n (omega arith))

-- their numbers say which is which
pub numbers : {X Y : Type 0} (f : X → Y) (g : ℕ → Y) (xs : List X) (n : ℕ) → map f xs ≡ map g (range_with_len 0 n) → (k : ℕ) (x : X) → slice_get xs k ≡ Some x → f x ≡ g k
numbers f g xs n are k x at =
    let seen_at : slice_get (map g (range_with_len 0 n)) k ≡ Some (f x) = ap (λ l. slice_get l k) (sym are) ∙ slice_get-map f xs k ∙ rw at refl in
    slice_get-map-range_with_len g n 0 k (f x) seen_at ∙ ap g (let z : 0 + k ≡ k = omega arith in z)

-- all machines have ended exactly where all processors have
some_ended : (j : Job) → is_some (end_of j) ≡ has_ended j
some_ended (Ended e) = refl
some_ended (Make a k) = refl
some_ended (Again a wanted j) = refl
some_ended (Mark n j) = refl
some_ended (Ask f) = refl
some_ended (Begin h) = refl

pub all_ended : (code : List Instr) (ms : List Machine) (r : Bool) → r ≡ list_all (λ m. is_some (ending (processor_in m code))) ms → IsTrue r ↔ All (λ m. IsTrue (has_ended m.todo)) (map (λ m. processor_in m code) ms)
all_ended code ms r is =
    let same : r ≡ list_all (λ m. has_ended m.todo) (map (λ m. processor_in m code) ms) =
    is
    ∙ (λ i. list_all (λ m. some_ended (processor_in m code).todo i) ms)
    ∙ sym (list_all-map (λ m. has_ended m.todo) (λ m. processor_in m code) ms) in
    (λ yes. AllPass-from_list_all (λ m. has_ended m.todo) (map (λ m. processor_in m code) ms) (sym same ∙ yes), λ all. same ∙ list_all-from_AllPass (λ m. has_ended m.todo) (map (λ m. processor_in m code) ms) all)
