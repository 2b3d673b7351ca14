-- What an operation of the table does to a clock.
use Rattle.std.proofs.Common.{◌≡◌, ◌≢◌, ◌⊎◌, inl, inr, ℕ, ◌+◌, ◌%◌, ◌^◌, ◌<◌, List, length, refl, sym, ap, ◌∙◌, subst, ◌==◌, Bool, true, false, if◌then◌else◌, arith}
use Rattle.std.specs.Prelude.{slice_index, slice_set, bit_or}
use Rattle.std.proofs.lemmas.List.{get_or-set_other}
use Rattle.std.proofs.lemmas.Bool.{cases_eq}
use Rattle.dsm_words.specs.declared.item.Item.{Item}
use Rattle.dsm_words.specs.declared.item.Item.TheVariants.{Clock, Lock, Barrier, Flag, Close}
use Rattle.dsm_words.specs.Place.{Lay, IsWithin, place, total}
use Rattle.dsm_words.specs.Script.{Act, Get, Put, Swap, Change, Add, Or, item_of}
use Rattle.dsm_words.specs.Words.{word, done}
use Rattle.dsm_words.proofs.WordLaws.{word_same, word_other}
use Rattle.dsm_clock.specs.Turns.{turn_item}
use Rattle.dsm_protocol.specs.Own.{Own, Who, node_of}
use Rattle.dsm_protocol.specs.Stages.{Work}
use Rattle.dsm_protocol.specs.Standing.{IsObject, IsAside, Does, Row as By_row, Won, Lost, Aside}
use Rattle.dsm_ties.proofs.Drawing.{act_draws, IsNoClock, IsDraw, step_draws, turn_draws}

same_number : (n k : ℕ) → Clock n ≡ Clock k → n ≡ k
same_number n k e = cc

-- node n's clock stays, or is drawn from, which is its own node's
abbrev pub Ticks : Who → List ℕ → ℕ → Act → Type 0
Ticks u ws n a =
    (word u.lay (done u.lay ws a) (Clock n) ≡ word u.lay ws (Clock n))
    ⊎ ((n ≡ node_of u) × (act_draws a ≡ 1) × (word u.lay (done u.lay ws a) (Clock n) ≡ (word u.lay ws (Clock n) + 1) % 2 ^ 64))

no_clock : (n : ℕ) (it : Item) → IsNoClock it → Clock n ≢ it
no_clock n it h e = subst IsNoClock (sym e) h

module _ (u : Who) (ws : List ℕ) (n : ℕ) (whole : length ws ≡ total u.lay) (n_in : n < u.lay.nodes) where
  stays : (a : Act) → IsWithin u.lay (item_of a) → IsNoClock (item_of a) → Ticks u ws n a
  stays a w h = inl (word_other u.lay ws a (Clock n) w n_in (no_clock n (item_of a) h))

  drawn : (k j : ℕ) → k < u.lay.nodes → k ≡ node_of u → j ≡ 1 → Ticks u ws n (Add (Clock k) j)
  drawn k j w own one = go (cases_eq n k)
    where
      go : (n ≡ k) ⊎ (n ≡ k → ⊥) → Ticks u ws n (Add (Clock k) j)
      go (inl e) =
          inr (
            e ∙ own,
            refl,
            ap (λ m. word u.lay (done u.lay ws (Add (Clock k) j)) (Clock m)) e
                ∙ word_same u.lay ws (Add (Clock k) j) whole w
                ∙ ap (λ i. (word u.lay ws (Clock k) + i) % 2 ^ 64) one
                ∙ ap (λ m. (word u.lay ws (Clock m) + 1) % 2 ^ 64) (sym e),
          )
      go (inr ne) = inl (word_other u.lay ws (Add (Clock k) j) (Clock n) w n_in (λ c. ne (same_number n k c)))

  ticks : (a : Act) → IsWithin u.lay (item_of a) → IsDraw u a → Ticks u ws n a
  ticks (Add (Clock k) j) w h = drawn k j w h.0 h.1
  ticks (Add it j) w h = stays (Add it j) w h
  ticks (Get it) w h = stays (Get it) w h
  ticks (Put it v) w h = stays (Put it v) w h
  ticks (Swap it v) w h = stays (Swap it v) w h
  ticks (Change it old new) w h = stays (Change it old new) w h
  ticks (Or it bits) w h = stays (Or it bits) w h

-- an object's word stands behind the clocks, whatever its number
behind_clocks : (l : Lay) (n : ℕ) (it : Item) → n < l.nodes → IsObject it → place l (Clock n) ≢ place l it
behind_clocks l n (Lock i) n_in h e = omega arith
behind_clocks l n (Barrier b) n_in h e = omega arith
behind_clocks l n (Flag f) n_in h e = omega arith
behind_clocks l n Close n_in h e = omega arith
behind_clocks l n it n_in h e = h

-- so an operation aside leaves every clock alone
module _ (l : Lay) (ws : List ℕ) (n : ℕ) (n_in : n < l.nodes) where
  set_object : (it : Item) (v : ℕ) → IsObject it → slice_index (slice_set ws (place l it) v) (place l (Clock n)) ≡ slice_index ws (place l (Clock n))
  set_object it v h = get_or-set_other ws (place l it) (place l (Clock n)) v 0 (behind_clocks l n it n_in h)

  aside_stays : (a : Act) → IsAside a → word l (done l ws a) (Clock n) ≡ word l ws (Clock n)
  unfolding done word
  aside_stays (Get it) h = refl
  aside_stays (Put it v) h = set_object it v h
  aside_stays (Swap it v) h = set_object it v h
  aside_stays (Change it old new) h = go (slice_index ws (place l it) == old)
    where
      go : (b : Bool) → slice_index (if b then slice_set ws (place l it) new else ws) (place l (Clock n)) ≡ slice_index ws (place l (Clock n))
      go true = set_object it new h
      go false = refl
  aside_stays (Add it k) h = set_object it ((slice_index ws (place l it) + k) % 2 ^ 64) h
  aside_stays (Or it bits) h = set_object it (bit_or (slice_index ws (place l it)) bits) h

-- an operation by the table, or aside
pub does_ticks : (u : Who) (ws : List ℕ) (n : ℕ) → length ws ≡ total u.lay → n < u.lay.nodes → {o : Own} {w : Work} {a : Act} {x : ℕ} {v : Work} → Does u o w a x v → Ticks u ws n a
does_ticks u ws n whole n_in (By_row {a = a} w_in step) = ticks u ws n whole n_in a w_in (step_draws u step).1
does_ticks u ws n whole n_in (Won turn w_in wins is) = ticks u ws n whole n_in (Change (turn_item turn) 0 (u.p + 1)) w_in (turn_draws turn).1
does_ticks u ws n whole n_in (Lost turn w_in wins is) = ticks u ws n whole n_in (Change (turn_item turn) 0 (u.p + 1)) w_in (turn_draws turn).1
does_ticks u ws n whole n_in (Aside {a = a} may aside) = inl (aside_stays u.lay ws n n_in a aside)
