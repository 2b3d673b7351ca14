-- No trace has an access to a word outside the memory, so nothing is asked of such a word.
use Rattle.std.proofs.Common.{◌≡◌, ℕ, zero, suc, ◌*◌, ◌/◌, ◌%◌, ◌<◌, ◌⊎◌, inl, inr, List, [], ◌∷◌, ◌++◌, length, Some, refl, ap, subst, arith}
use Rattle.std.specs.Prelude.{slice_get}
use Rattle.std.proofs.Math.Nat.{mod-lt, div-lt_iff_lt-mul}
use Rattle.dsm_isa.specs.declared.instr.Instr.{Instr}
use Rattle.dsm_words.specs.declared.item.Item.TheVariants.{Frame}
use Rattle.dsm_words.specs.Place.{Lay, IsWithin}
use Rattle.dsm_entry.specs.declared.entry.Entry.{Entry}
use Rattle.dsm_entry.specs.declared.entry.Entry.TheVariants.{Load, Store}
use Rattle.dsm_local.specs.declared.setting.Setting.{Setting}
use Rattle.dsm_local.specs.declared.stand.Stand.{Stand}
use Rattle.dsm_local.specs.Local.{Reads, starts, sets, jumps, loads, stores, prints, locks, unlocks, raises, waits, meets, leaves, arrives, passes}
use Rattle.dsm_local.specs.Readers.{IsInside}
use Rattle.dsm_local.proofs.Inside.{IsInside-next_action}
use Rattle.dsm_flat.proofs.Lists.{get_push}

-- where there is an address, a page has words
some_words : (l : Lay) (w : ℕ) → w < l.pages * l.words → 0 < l.words
some_words l w below = go l.words refl
  where
    go : (n : ℕ) → l.words ≡ n → 0 < n
    go zero none = absurd (let z : l.pages * l.words ≡ l.pages * zero = ap (λ n. l.pages * n) none in omega (arith, below, z))
    go (suc n) some = omega arith

-- in each node's frames the word of an address has its place
pub frame_within : (l : Lay) (n w : ℕ) → n < l.nodes → w < l.pages * l.words → IsWithin l (Frame n (w / l.words) (w % l.words))
frame_within l n w node below =
    let some = some_words l w below in
    (node, (div-lt_iff_lt-mul some).1 below, mod-lt w some)

-- the entry's word is one of the memory
abbrev pub InMemory : ℕ → Entry → Type 0
InMemory size (Load w v) = w < size
InMemory size (Store w v) = w < size
InMemory size _ = Unit {0}

module _ (code : List Instr) (set : Setting) where
  -- each entry of a trace is
  abbrev AllInside : List Entry → Type 0
  AllInside t = (i : ℕ) (e : Entry) → slice_get t i ≡ Some e → InMemory set.size e

  one_more : (t : List Entry) (new : Entry) → AllInside t → InMemory set.size new → AllInside (t ++ new ∷ [])
  one_more t new all ok i e at = go (get_push t new e i at)
    where
      go : (slice_get t i ≡ Some e) ⊎ ((i ≡ length t) × (new ≡ e)) → InMemory set.size e
      go (inl h) = all i e h
      go (inr h) = subst (InMemory set.size) h.1 ok

  pub reads_inside : {stand : Stand} {t : List Entry} → Reads code set stand t → (i : ℕ) (e : Entry) → slice_get t i ≡ Some e → InMemory set.size e
  reads_inside starts = λ i e at. absurd (cc at)
  reads_inside (sets d v r next) = reads_inside r
  reads_inside (jumps to r next) = reads_inside r
  reads_inside (loads {r = b} {t = t} d w v r next) = one_more t (Load w v) (reads_inside r) (subst (IsInside set.size) next (IsInside-next_action code set b))
  reads_inside (stores {r = b} {t = t} w v r next) = one_more t (Store w v) (reads_inside r) (subst (IsInside set.size) next (IsInside-next_action code set b))
  reads_inside (prints {t = t} v r next) = one_more t _ (reads_inside r) tt
  reads_inside (locks {t = t} l c r next) = one_more t _ (reads_inside r) tt
  reads_inside (unlocks {t = t} l k r next) = one_more t _ (reads_inside r) tt
  reads_inside (raises {t = t} f j r next) = one_more t _ (reads_inside r) tt
  reads_inside (waits {t = t} f need c r next le) = one_more t _ (reads_inside r) tt
  reads_inside (meets {t = t} b a r next) = one_more t _ (reads_inside r) tt
  reads_inside (leaves {t = t} b c r) = one_more t _ (reads_inside r) tt
  reads_inside (arrives {t = t} j r next) = one_more t _ (reads_inside r) tt
  reads_inside (passes {t = t} c r) = one_more t _ (reads_inside r) tt
