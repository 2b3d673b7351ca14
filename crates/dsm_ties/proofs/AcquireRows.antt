-- Rows of a page of an acquire.
use Rattle.std.proofs.Common.{◌≡◌, ◌≢◌, ℕ, zero, suc, ◌+◌, ◌*◌, ◌/◌, ◌<◌, ◌≤◌, ◌==◌, Bool, true, false, List, [], ◌∷◌, length, refl, sym, ap, ◌∙◌, subst, arith, le_antisymm, div-lt_iff_lt-mul, le-div_iff_mul-le, div-mul-le_self, if◌then◌else◌}
use Rattle.std.specs.Prelude.{not, nat_lt, ◌||◌, ◌&&◌, slice_index}
use Rattle.std.proofs.lemmas.Bool.{eq-eqb, eqb-true, eqb-false}
use Rattle.dsm_words.specs.Place.{total}
use Rattle.dsm_words.specs.Pages.{has_page}
use Rattle.dsm_words.specs.Script.{Act}
use Rattle.dsm_clock.specs.declared.turns.TurnId.{TurnId}
use Rattle.dsm_protocol.specs.Own.{Own, Who, node_of}
use Rattle.dsm_protocol.specs.Stages.{Round, Judging, Unmapping, Emptying, Emptied, Leaving, Over, Work, On}
use Rattle.dsm_protocol.specs.Rows.{Step, Wins, Slip, sees_acquire, compares_own, judges_own, unmaps, empties, sees_bare, leaves, gives_over, acquires, emptied}
use Rattle.dsm_protocol.proofs.Placed.{IsPlaced}
use Rattle.dsm_owners.specs.Stages as O
use Rattle.dsm_owners.specs.Acts as A
use Rattle.dsm_owners.specs.Directory.{State, Event, Do}
use Rattle.dsm_ties.specs.Events.{empty_events}
use Rattle.dsm_ties.specs.Tied.{bit, Match}
use Rattle.dsm_ties.proofs.Frame as F

-- the processors of node n
pub in_node : (procs n q : ℕ) → n * procs ≤ q → q < n * procs + procs → q / procs ≡ n
in_node procs n q lo hi = le_antisymm below above
  where
    some : 0 < procs
    some = omega (arith, lo, hi)

    one_more : (n + 1) * procs ≡ n * procs + procs
    one_more = grind arith

    above : n ≤ q / procs
    above = (le-div_iff_mul-le some).1 lo

    below : q / procs ≤ n
    below = let e : q / procs < n + 1 = (div-lt_iff_lt-mul {k = procs} {x = q} {y = n + 1} some).1 (omega (arith, hi, one_more)) in omega (arith, e)

pub below_node : (procs n q : ℕ) → 0 < procs → q / procs ≡ n → q < n * procs + procs
below_node procs n q some e = let i : q < (n + 1) * procs = (div-lt_iff_lt-mul {k = procs} {x = q} {y = n + 1} some).0 (omega (arith, e)) in omega (arith, i, one_more)
  where
    one_more : (n + 1) * procs ≡ n * procs + procs
    one_more = grind arith

-- a layout with a processor has some on each node
pub some_procs : (u : Who) → IsPlaced u → 0 < u.lay.procs
some_procs u at = go u.lay.procs at.p_in
  where
    go : (procs : ℕ) → u.p < u.lay.nodes * procs → 0 < procs
    go zero h = absurd (omega (arith, h))
    go (suc k) h = omega arith

pub bit_down : (t : Bool) → bit t ≡ 0 → t ≡ false
bit_down false e = refl
bit_down true e = absurd (omega (arith, e))

pub bit_up : (t : Bool) → bit t ≢ 0 → t ≡ true
bit_up false ne = absurd (ne refl)
bit_up true ne = refl

both_left : (c d : Bool) → (c && d) ≡ true → c ≡ true
both_left true d e = refl
both_left false d e = absurd (cc e)

module _ (u : Who) (at : IsPlaced u) (g : ℕ) (g_in : g < u.lay.pages) (ws : List ℕ) (long : length ws ≡ total u.lay) (b : State) (m : Match u g ws b) (o : Own) where
  abbrev Row : {w v : Work} {a : Act} {z : ℕ} → Step u o.maps o.dirty w a z v → Type 0
  Row step = F.RowActs u at g g_in ws long b m o step

  abbrev Turned : {w v : Work} {t : TurnId} → Wins u o.maps o.dirty w t v → Type 0
  Turned win = F.WinActs u at g g_in ws long b m o win

  abbrev Decision : {w v : Work} → Slip u o.maps o.dirty w v → Type 0
  Decision slip = F.SlipActs u at g g_in ws long b m o slip

  abbrev Acted : Work → List ℕ → List Event → Type 0
  Acted = F.Acted u at g g_in ws long b m o

  -- it gets the turn of a page that was posted to its node
  pub win_acquires : {set : List ℕ} (e : (has_page set g && not (slice_index o.maps g == 0)) ≡ true) → Turned (acquires {g = g} {set = set} e)
  win_acquires {set} e f k =
      record {
        runs = ((k.at, at.node_in, (sym (m.turn (node_of u) at.node_in) ∙ sym f.told, k.told (both_left (has_page set g) (not (slice_index o.maps g == 0)) e))), tt);
        match = F.turn_won u at g g_in ws long b m A.Acquire at.node_in (sym f.told) refl refl refl refl refl refl refl;
        knows = rw (eq-eqb u.p u.p refl) (record { at = rw (eq-eqb g g refl) refl; round = tt; met = λ _. tt; dirty = λ c d. k.dirty refl d; soils = λ _ d. absurd (cc d); joins = tt; told = rw (eq-eqb (node_of u) (node_of u) refl) k.told; heard = tt; homes = λ _. tt; times = λ _. tt });
      }

  module _ {r : Round} where
    pub row_sees_acquire : {x : ℕ} → Row (sees_acquire {r = r} {g = g} {x = x})
    row_sees_acquire {x} f k = F.load u at g g_in ws long b m _ (go (x == 2) refl)
      where
        is : (b.nodes (node_of u)).dir ≡ x
        is = sym (f.told ∙ m.dir (node_of u) at.node_in)

        go : (c : Bool) → (x == 2) ≡ c → Acted (On r g (if c then Over else Judging)) ws (if c then Do u.p A.Acquire_sole ∷ [] else Do u.p A.Acquire_on ∷ [])
        go true e = F.reads u at g g_in ws long b m A.Acquire_sole k refl (is ∙ eqb-true x 2 e) refl refl refl refl tt tt tt
        go false e = F.reads u at g g_in ws long b m A.Acquire_on k refl (λ d. eqb-false x 2 e (sym is ∙ d)) refl refl refl refl tt tt tt

    pub row_compares_own : {x : ℕ} → Row (compares_own {r = r} {g = g} {x = x})
    row_compares_own f k = F.load u at g g_in ws long b m _ (F.no_event u at g g_in ws long b m k refl refl tt tt tt m)

    pub row_judges_own : {y x : ℕ} → Row (judges_own {r = r} {g = g} {y = y} {x = x})
    row_judges_own {y} {x} f k = F.load u at g g_in ws long b m _ (go (y == 0 || nat_lt y x))
      where
        go : (c : Bool) → Acted (On r g (if c then Unmapping else Over)) ws (if c then [] else Do u.p A.Acquire_keep ∷ [])
        go true = F.no_event u at g g_in ws long b m k refl refl tt tt tt m
        go false = F.reads u at g g_in ws long b m A.Acquire_keep k refl tt refl refl refl refl tt tt tt

    pub row_unmaps : {x : ℕ} → Row (unmaps {r = r} {g = g} {x = x})
    row_unmaps f k = F.acts u at g g_in ws long b m (A.Unmap (node_of u * u.lay.procs)) k refl (λ q e. subst (λ z. z * u.lay.procs ≤ q) e (div-mul-le_self q u.lay.procs)) (F.map_put u at g g_in ws long b m (A.Unmap (node_of u * u.lay.procs)) 0 refl refl refl refl refl refl refl) refl refl refl refl tt tt tt

    pub row_empties : {q x : ℕ} {free : Bool} (lo : node_of u * u.lay.procs ≤ q) (hi : q < node_of u * u.lay.procs + u.lay.procs) → Row (empties {r = r} {g = g} {q = q} {x = x} {free = free} lo hi)
    row_empties {q} {x} {free} lo hi f k = F.load u at g g_in ws long b m _ (each free k)
      where
        is : (b.processors q).map ≡ x
        is = sym (f.told ∙ m.map q f.within.0)

        own : q / u.lay.procs ≡ node_of u
        own = in_node u.lay.procs (node_of u) q lo hi

        go : F.Now u at g g_in ws long b m (On r g (Emptying q true)) o → (c : Bool) → (x == 0) ≡ c → Acted (On r g (Emptying (q + 1) c)) ws (if c then Do u.p (A.Empty_zero q) ∷ [] else Do u.p (A.Empty_some q) ∷ [])
        go k true e = F.reads u at g g_in ws long b m (A.Empty_zero q) k refl (own, is ∙ eqb-true x 0 e) refl refl (ap O.Emptying (F.suc_is u at g g_in ws long b m q)) refl tt tt tt
        go k false e = F.reads u at g g_in ws long b m (A.Empty_some q) k refl (own, λ d. eqb-false x 0 e (sym is ∙ d)) refl refl refl refl tt tt tt

        each : (free : Bool) → F.Now u at g g_in ws long b m (On r g (Emptying q free)) o → Acted (On r g (Emptying (q + 1) (free && x == 0))) ws (empty_events u free x q)
        each true k = go k (x == 0) refl
        each false k = F.no_event u at g g_in ws long b m k refl refl tt tt tt m

    pub row_sees_bare : {x : ℕ} → Row (sees_bare {r = r} {g = g} {x = x})
    row_sees_bare {x} f k = F.load u at g g_in ws long b m _ (go (x == 0) refl)
      where
        is : x ≡ bit (b.nodes (node_of u)).twined
        is = f.told ∙ m.twined (node_of u) at.node_in

        go : (c : Bool) → (x == 0) ≡ c → Acted (On r g (if c then Leaving else Over)) ws (if c then Do u.p (A.Empty_none (node_of u * u.lay.procs + u.lay.procs)) ∷ [] else Do u.p (A.Empty_twin (node_of u * u.lay.procs + u.lay.procs)) ∷ [])
        go true e = F.reads u at g g_in ws long b m (A.Empty_none (node_of u * u.lay.procs + u.lay.procs)) k refl (bit_down _ (sym is ∙ eqb-true x 0 e), λ q i. below_node u.lay.procs (node_of u) q (some_procs u at) i) refl refl refl refl tt tt tt
        go false e = F.reads u at g g_in ws long b m (A.Empty_twin (node_of u * u.lay.procs + u.lay.procs)) k refl (bit_up _ (λ d. eqb-false x 0 e (is ∙ d))) refl refl refl refl tt tt tt

    pub row_leaves : {x : ℕ} → Row (leaves {r = r} {g = g} {x = x})
    row_leaves f k = F.acts u at g g_in ws long b m A.Leave k refl tt (F.dir_put u at g g_in ws long b m A.Leave 0 at.node_in refl refl refl refl refl refl refl) refl refl refl refl tt tt tt

    pub slip_emptied : {free : Bool} → Decision (emptied {r = r} {g = g} {free = free})
    slip_emptied {free} own all k = each free k
      where
        each : (free : Bool) → F.Now u at g g_in ws long b m (On r g (Emptying (node_of u * u.lay.procs + u.lay.procs) free)) o → Acted (On r g (if free then Emptied else Over)) ws []
        each true k = F.no_event u at g g_in ws long b m k refl refl tt tt tt m
        each false k = F.no_event u at g g_in ws long b m k refl refl tt tt tt m

  -- the turn is given, and the next page of the set comes
  pub row_gives_over : {x : ℕ} {set : List ℕ} → Row (gives_over {g = g} {x = x} {set = set})
  row_gives_over f k =
      record {
        runs = ((F.stage_is u at g g_in ws long b m k, at.node_in, tt), tt);
        match = F.turn_put u at g g_in ws long b m A.Done 0 at.node_in refl refl refl refl refl refl refl;
        knows = rw (eq-eqb u.p u.p refl) (record { at = refl; round = tt; met = tt; dirty = λ c d. k.dirty refl d; soils = tt; joins = tt; told = rw (eq-eqb (node_of u) (node_of u) refl) k.told; heard = tt; homes = tt; times = tt });
      }
