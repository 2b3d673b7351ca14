-- At the start each page is used by nobody, and no processor knows of one anything.
use Rattle.std.proofs.Common.{◌≡◌, ℕ, zero, suc, ◌+◌, ◌*◌, ◌<◌, ◌==◌, ◌%◌, true, false, Some, refl, sym, ap, ◌∙◌, arith}
use Rattle.std.specs.Prelude.{not, slice_get, slice_index_or, replicate}
use Rattle.std.specs.Int.{bit_at}
use Rattle.std.proofs.lemmas.Bool.{eqb-true}
use Rattle.std.proofs.lemmas.Nat.Bits.{bit_at-zero}
use Rattle.dsm_words.specs.declared.item.Item.TheVariants.{Twined, Map, Dir, Update, Turn, Nle, Home, Own as OwnWord, Global}
use Rattle.dsm_words.specs.Pages.{group_of}
use Rattle.dsm_protocol.specs.Own.{new_own}
use Rattle.dsm_protocol.specs.Processors.{new_processor}
use Rattle.dsm_protocol.specs.Stages.{Idle, Off}
use Rattle.dsm_protocol.proofs.Placed.{group_in}
use Rattle.dsm_runs.specs.Setups.{Setup, lay_in, who_at}
use Rattle.dsm_runs.specs.Clusters.{start}
use Rattle.dsm_runs.proofs.Lists.{slice_get-map-range_with_len_below}
use Rattle.dsm_runs.proofs.Starting.{starts_by_items}
use Rattle.dsm_owners.specs.Directory as D
use Rattle.dsm_ties.specs.Tied.{node_in, has_bit, Knows, Match}

no_bit : (g v : ℕ) → v ≡ 0 → has_bit g v ≡ true → ⊥
no_bit g v z e = let a : bit_at 0 (g % 64) ≡ 1 = eqb-true (bit_at 0 (g % 64)) 1 (ap (has_bit g) (sym z) ∙ e) in let b = bit_at-zero (g % 64) in absurd (omega (arith, a, b))

pub start_match : (s : Setup) (g : ℕ) → g < s.program.shape.pages → Match (who_at s 0) g (start s).words D.start
start_match s g g_in =
    record {
      home = starts_by_items s (Home g) g_in;
      low = omega arith;
      dir = λ n i. starts_by_items s (Dir n g) (i, g_in);
      twined = λ n i. starts_by_items s (Twined n g) (i, g_in);
      update = λ n i. ap (λ z. not (z == 0)) (starts_by_items s (Update n g) (i, g_in));
      turn = λ n i. starts_by_items s (Turn n g) (i, g_in);
      map = λ q i. starts_by_items s (Map q g) (i, g_in);
      nle = λ q i e. absurd (no_bit g _ (starts_by_items s (Nle q (group_of g)) (i, group_in (lay_in s) g g_in)) e);
      posted = λ n j i k e. absurd (no_bit g _ (starts_by_items s (Global n j (group_of g)) (i, k, group_in (lay_in s) g g_in)) e);
      listed = λ q i e. absurd (no_bit g _ (starts_by_items s (OwnWord q (group_of g)) (i, group_in (lay_in s) g g_in)) e);
    }

pub none_dirty : (n g : ℕ) → slice_index_or (replicate n false) g false ≡ false
none_dirty zero g = refl
none_dirty (suc n) zero = refl
none_dirty (suc n) (suc g) = none_dirty n g

true_not_false : true ≡ false → ⊥
true_not_false e = absurd (cc e)

-- the processor k of the start
pub start_at : (s : Setup) (k : ℕ) → k < s.nodes * s.procs → slice_get (start s).processors k ≡ Some (new_processor (who_at s k) s.program.code)
unfolding start
start_at s k b = slice_get-map-range_with_len_below (λ q. new_processor (who_at s q) s.program.code) (s.nodes * s.procs) 0 k b ∙ ap (λ q. Some (new_processor (who_at s q) s.program.code)) (let z : 0 + k ≡ k = omega arith in z)

-- before its first instruction it knows of no page anything
pub start_knows : (s : Setup) (g q : ℕ) → Knows (who_at s q) g D.start.home (D.start.nodes (node_in s q)) (D.start.processors q) (Off Idle) new_own
start_knows s g q = record { at = refl; round = tt; met = tt; dirty = λ c e. absurd (true_not_false (sym e ∙ none_dirty 256 g)); soils = tt; joins = tt; told = tt; heard = tt; homes = tt; times = tt }
