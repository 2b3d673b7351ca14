-- Rows of a page of a release whose stores are told: its mapping is lowered, its twin dropped, its turn given back; and what is noted of it.
use Rattle.std.proofs.Common.{◌≡◌, ◌≢◌, ◌⊎◌, inl, inr, ℕ, zero, suc, ◌+◌, ◌*◌, ◌/◌, ◌<◌, ◌≤◌, ◌==◌, Bool, true, false, List, [], ◌∷◌, length, refl, sym, ap, ◌∙◌, subst, arith, if◌then◌else◌, div-mul-le_self}
use Rattle.std.specs.Prelude.{not, IfSome, ◌||◌, ◌&&◌, None, slice_index, slice_index_or, slice_set}
use Rattle.std.proofs.Math.Nat.{div-eq_of_lt-le, lt-div-mul-add}
use Rattle.std.proofs.lemmas.Bool.{eq-eqb, eqb-true, eqb-false}
use Rattle.dsm_words.specs.declared.item.Item.TheVariants.{Map}
use Rattle.dsm_words.specs.Place.{total}
use Rattle.dsm_words.specs.Pages.{has_page}
use Rattle.dsm_words.specs.Script.{Act, Put}
use Rattle.dsm_words.specs.Words.{done}
use Rattle.dsm_words.proofs.WordLaws.{length-done}
use Rattle.dsm_protocol.specs.Own.{Own, Who, node_of, is_dirty, with_pages}
use Rattle.dsm_protocol.specs.Jobs.{Note, Give, Go, Move, Append, Map_own, Soil, Clean, Join, Count, Happen, own_after}
use Rattle.dsm_protocol.specs.Stages.{Stage, Round, Told, Mapped, Lowering, Dropping, Untwining, Done, Work, On, lowered}
use Rattle.dsm_protocol.specs.Rows.{Step, Slip, Noted, IsPlain, lowers, drops, untwins, unlists, finishes, unlowered, dropped, cleans, joins, counts}
use Rattle.dsm_protocol.proofs.Placed.{IsPlaced}
use Rattle.dsm_owners.specs.Stages as O
use Rattle.dsm_owners.specs.Acts as A
use Rattle.dsm_owners.specs.Directory.{Processor as Reader, State, Event, Do, after_event}
use Rattle.dsm_ties.specs.Views.{stage_view, home_in, time_in, told_in, is_soiling, IsMet}
use Rattle.dsm_ties.specs.Events.{lowered_events, drop_events}
use Rattle.dsm_ties.specs.Tied.{Knows, Match}
use Rattle.dsm_ties.proofs.Frame as F

-- a page that is taken out of the dirty set is not in it
cleared : (ds : List Bool) (k : ℕ) → slice_index_or (slice_set ds k false) k false ≡ false
cleared [] k = refl
cleared (d ∷ ds) zero = refl
cleared (d ∷ ds) (suc k) = cleared ds k

-- a page of the joined set was in one of both
joined_from : (ds : List Bool) (set : List ℕ) (from k : ℕ) → slice_index_or (with_pages ds set from) k false ≡ true → (slice_index_or ds k false ≡ true) ⊎ (has_page set (from + k) ≡ true)
joined_from [] set from k e = absurd (cc e)
joined_from (d ∷ ds) set from zero e = go d e
  where
    here : from + 0 ≡ from
    here = omega arith

    go : (d : Bool) → (d || has_page set from) ≡ true → (d ≡ true) ⊎ (has_page set (from + 0) ≡ true)
    go true e = inl refl
    go false e = inr (ap (has_page set) here ∙ e)
joined_from (d ∷ ds) set from (suc k) e = go (joined_from ds set (from + 1) k e)
  where
    next : from + suc k ≡ from + 1 + k
    next = omega arith

    go : (slice_index_or ds k false ≡ true) ⊎ (has_page set (from + 1 + k) ≡ true) → (slice_index_or ds k false ≡ true) ⊎ (has_page set (from + suc k) ≡ true)
    go (inl c) = inl c
    go (inr c) = inr (ap (has_page set) next ∙ c)

module _ (u : Who) (at : IsPlaced u) (g : ℕ) (g_in : g < u.lay.pages) (ws : List ℕ) (long : length ws ≡ total u.lay) (b : State) (m : Match u g ws b) (o : Own) where
  abbrev Row : {w v : Work} {a : Act} {z : ℕ} → Step u o.maps o.dirty w a z v → Type 0
  Row step = F.RowActs u at g g_in ws long b m o step

  abbrev Decision : {w v : Work} → Slip u o.maps o.dirty w v → Type 0
  Decision slip = F.SlipActs u at g g_in ws long b m o slip

  abbrev Noting : {w v : Work} {i : Note} → Noted u None w i v → Type 0
  Noting noted = F.NoteActs u at g g_in ws long b m o noted

  abbrev Acted : Work → List ℕ → List Event → Type 0
  Acted = F.Acted u at g g_in ws long b m o

  abbrev Now : Work → Type 0
  Now w = F.Now u at g g_in ws long b m w o

  abbrev node : ℕ → ℕ
  node q = q / u.lay.procs

  some_procs : 0 < u.lay.procs
  some_procs = go u.lay.procs at.p_in
    where
      go : (c : ℕ) → u.p < u.lay.nodes * c → 0 < c
      go zero h = absurd (omega (arith, h))
      go (suc c) h = omega arith

  -- the processors of the own node
  from_first : (q : ℕ) → node q ≡ node_of u → node_of u * u.lay.procs ≤ q
  from_first q e = subst (λ z. z * u.lay.procs ≤ q) e (div-mul-le_self q u.lay.procs)

  below_last : (q : ℕ) → node q ≡ node_of u → q < node_of u * u.lay.procs + u.lay.procs
  below_last q e = subst (λ z. q < z * u.lay.procs + u.lay.procs) e (lt-div-mul-add some_procs)

  of_node : (q : ℕ) → node_of u * u.lay.procs ≤ q → q < node_of u * u.lay.procs + u.lay.procs → node q ≡ node_of u
  of_node q lo hi = div-eq_of_lt-le u.lay.procs lo (let e = one_more (node_of u) u.lay.procs in omega (arith, e, hi))
    where
      one_more : (a c : ℕ) → (a + 1) * c ≡ a * c + c
      one_more a c = grind arith

  -- what it knows at another stage of the page, where its node is as it was
  next_knows : {r : Round} {s t : Stage} {y' : Reader} → Now (On r g s) → y'.stage ≡ stage_view u t → y'.dirty ≡ (b.processors u.p).dirty → is_soiling t ≡ false → IfSome (home_in t) (λ h. b.home ≡ suc h) → IfSome (time_in t) (λ z. z ≢ 0) → IsMet t → Knows u g b.home (b.nodes (node_of u)) y' (On r g t) o
  next_knows {r} {s} {t} k st di so ho ti me = record { at = rw (eq-eqb g g refl) st; round = k.round; met = λ _. me; dirty = λ c d. di ∙ k.dirty refl d; soils = λ _ d. absurd (cc (sym so ∙ d)); joins = tt; told = go r k.told; heard = tt; homes = λ _. ho; times = λ _. ti }
    where
      go : (r : Round) → IfSome (told_in (On r g s)) (λ set. has_page set g ≡ true → (b.nodes (node_of u)).noted ≡ true) → IfSome (told_in (On r g t)) (λ set. has_page set g ≡ true → (b.nodes (node_of u)).noted ≡ true)
      go (Told set q) f = f
      go r f = tt

  module _ {r : Round} where
    pub row_drops : {q x : ℕ} {unwritten free : Bool} (lo : node_of u * u.lay.procs ≤ q) (hi : q < node_of u * u.lay.procs + u.lay.procs) → Row (drops {r = r} {g = g} {q = q} {x = x} {unwritten = unwritten} {free = free} lo hi)
    row_drops {q} {x} {unwritten} {free} lo hi f k = F.load u at g g_in ws long b m _ (look unwritten k)
      where
        is : (b.processors q).map ≡ x
        is = sym (f.told ∙ m.map q f.within.0)

        up : suc q ≡ q + 1
        up = F.suc_is u at g g_in ws long b m q

        any_same : (c : Bool) → not c ≡ not (c && true)
        any_same true = refl
        any_same false = refl

        any_more : (c : Bool) → true ≡ not (c && false)
        any_more true = refl
        any_more false = refl

        zero_at : Now (On r g (Dropping q true free)) → (x == 2) ≡ false → (c : Bool) → (x == 0) ≡ c → Acted (On r g (Dropping (q + 1) true (free && c))) ws (if c then Do u.p (A.Drop_zero q (not free)) ∷ [] else Do u.p (A.Drop_one q (not free)) ∷ [])
        zero_at k two true e = F.reads u at g g_in ws long b m (A.Drop_zero q (not free)) k refl (of_node q lo hi, is ∙ eqb-true x 0 e) refl refl (λ i. O.Dropping (up i) (any_same free i)) refl tt tt tt
        zero_at k two false e = F.reads u at g g_in ws long b m (A.Drop_one q (not free)) k refl (of_node q lo hi, λ d. eqb-false x 2 two (sym is ∙ d)) refl refl (λ i. O.Dropping (up i) (any_more free i)) refl tt tt tt

        two_at : Now (On r g (Dropping q true free)) → (c : Bool) → (x == 2) ≡ c → Acted (On r g (Dropping (q + 1) (true && not c) (free && x == 0))) ws (if c then Do u.p (A.Drop_two q (not free)) ∷ [] else (if x == 0 then Do u.p (A.Drop_zero q (not free)) ∷ [] else Do u.p (A.Drop_one q (not free)) ∷ []))
        two_at k true e = F.reads u at g g_in ws long b m (A.Drop_two q (not free)) k refl (of_node q lo hi, is ∙ eqb-true x 2 e) refl refl refl refl tt tt tt
        two_at k false e = zero_at k e (x == 0) refl

        look : (c : Bool) → Now (On r g (Dropping q c free)) → Acted (On r g (Dropping (q + 1) (c && not (x == 2)) (free && x == 0))) ws (drop_events u c free x q)
        look true k = two_at k (x == 2) refl
        look false k = F.no_event u at g g_in ws long b m k refl refl tt tt tt m

    pub row_untwins : {x : ℕ} {free : Bool} → Row (untwins {r = r} {g = g} {x = x} {free = free})
    row_untwins {x} {free} = go free
      where
        go : (free : Bool) → Row (untwins {r = r} {g = g} {x = x} {free = free})
        go true f k = F.acts u at g g_in ws long b m (A.Drop_last (node_of u * u.lay.procs + u.lay.procs)) k refl below_last (F.twined_put u at g g_in ws long b m (A.Drop_last (node_of u * u.lay.procs + u.lay.procs)) 0 at.node_in refl refl refl refl refl refl refl) refl refl refl refl tt tt tt
        go false f k = F.acts u at g g_in ws long b m (A.Drop_kept (node_of u * u.lay.procs + u.lay.procs)) k refl below_last (F.twined_put u at g g_in ws long b m (A.Drop_kept (node_of u * u.lay.procs + u.lay.procs)) 0 at.node_in refl refl refl refl refl refl refl) refl refl refl refl tt tt tt

    pub row_unlists : {x : ℕ} → Row (unlists {r = r} {g = g} {x = x})
    row_unlists f k = F.acts u at g g_in ws long b m A.Unlist k refl tt (F.dir_put u at g g_in ws long b m A.Unlist 0 at.node_in refl refl refl refl refl refl refl) refl refl refl refl tt tt tt

    pub slip_dropped : {unwritten free : Bool} → Decision (dropped {r = r} {g = g} {unwritten = unwritten} {free = free})
    slip_dropped {unwritten} {free} own all k = go unwritten k
      where
        go : (c : Bool) → Now (On r g (Dropping (node_of u * u.lay.procs + u.lay.procs) c free)) → Acted (On r g (if c then Untwining free else Done)) ws []
        go true k = F.no_event u at g g_in ws long b m k refl refl tt tt tt m
        go false k = F.no_event u at g g_in ws long b m k refl refl tt tt tt m

    pub row_lowers : {x : ℕ} {flushed : Bool} (e : (slice_index o.maps g == 2) ≡ true) → Row (lowers {r = r} {g = g} {x = x} {flushed = flushed} e)
    row_lowers {x} {flushed} e f k = go flushed k
      where
        is : (b.processors u.p).map ≡ 2
        is = sym (m.map u.p at.p_in) ∙ f.own ∙ eqb-true _ 2 e

        first : (flushed : Bool) → Match u g (done u.lay ws (Put (Map u.p g) 1)) (after_event node b (Do u.p (A.Lower flushed)))
        first flushed = F.map_put u at g g_in ws long b m (A.Lower flushed) 1 refl refl refl refl refl refl refl

        long' : length (done u.lay ws (Put (Map u.p g) 1)) ≡ total u.lay
        long' = length-done u.lay ws (Put (Map u.p g) 1) ∙ long

        go : (flushed : Bool) → Now (On r g (Lowering flushed)) → Acted (On r g (Mapped 1 (lowered u flushed))) (done u.lay ws (Put (Map u.p g) 1)) (Do u.p (A.Lower flushed) ∷ lowered_events u flushed)
        go true k =
            record {
              runs = ((F.stage_is u at g g_in ws long b m k, at.node_in, is), ((rw (eq-eqb u.p u.p refl) refl, at.node_in, from_first), tt));
              match = F.read_match u at g g_in _ long' _ (first true) (A.Drop_begin (node_of u * u.lay.procs)) refl refl;
              knows = rw (eq-eqb u.p u.p refl) (rw (eq-eqb (node_of u) (node_of u) refl) (next_knows k refl refl refl tt tt tt));
            }
        go false k =
            record {
              runs = ((F.stage_is u at g g_in ws long b m k, at.node_in, is), ((rw (eq-eqb u.p u.p refl) refl, at.node_in, tt), tt));
              match = F.read_match u at g g_in _ long' _ (first false) A.Lower_end refl refl;
              knows = rw (eq-eqb u.p u.p refl) (rw (eq-eqb (node_of u) (node_of u) refl) (next_knows k refl refl refl tt tt tt));
            }

    pub slip_unlowered : {flushed : Bool} (e : (slice_index o.maps g == 2) ≡ false) → Decision (unlowered {r = r} {g = g} {flushed = flushed} e)
    slip_unlowered {flushed} e own all k = go flushed k
      where
        is : (b.processors u.p).map ≢ 2
        is d = eqb-false _ 2 e (sym own ∙ m.map u.p at.p_in ∙ d)

        first : (flushed : Bool) → Match u g ws (after_event node b (Do u.p (A.Lower_none flushed)))
        first flushed = F.read_match u at g g_in ws long b m (A.Lower_none flushed) refl refl

        go : (flushed : Bool) → Now (On r g (Lowering flushed)) → Acted (On r g (lowered u flushed)) ws (Do u.p (A.Lower_none flushed) ∷ lowered_events u flushed)
        go true k =
            record {
              runs = ((F.stage_is u at g g_in ws long b m k, at.node_in, is), ((rw (eq-eqb u.p u.p refl) refl, at.node_in, from_first), tt));
              match = F.read_match u at g g_in ws long _ (first true) (A.Drop_begin (node_of u * u.lay.procs)) refl refl;
              knows = rw (eq-eqb u.p u.p refl) (rw (eq-eqb (node_of u) (node_of u) refl) (next_knows k refl refl refl tt tt tt));
            }
        go false k =
            record {
              runs = ((F.stage_is u at g g_in ws long b m k, at.node_in, is), ((rw (eq-eqb u.p u.p refl) refl, at.node_in, tt), tt));
              match = F.read_match u at g g_in ws long _ (first false) A.Lower_end refl refl;
              knows = rw (eq-eqb u.p u.p refl) (rw (eq-eqb (node_of u) (node_of u) refl) (next_knows k refl refl refl tt tt tt));
            }

  pub row_finishes : {t0 x : ℕ} → Row (finishes {t0 = t0} {g = g} {x = x})
  row_finishes f k =
      record {
        runs = ((F.stage_is u at g g_in ws long b m k, at.node_in, tt), tt);
        match = F.turn_put u at g g_in ws long b m A.Finish 0 at.node_in refl refl refl refl refl refl refl;
        knows = rw (eq-eqb u.p u.p refl) (record { at = refl; round = tt; met = tt; dirty = λ c e. absurd (cc (sym (eq-eqb g g refl) ∙ c)); soils = tt; joins = tt; told = tt; heard = tt; homes = tt; times = tt });
      }

  pub note_cleans : {t0 : ℕ} → Noting (cleans {t0 = t0} {g = g})
  note_cleans k = record { at = k.at; round = tt; met = tt; dirty = λ c e. absurd (cc (sym (cleared o.dirty g) ∙ e)); soils = tt; joins = tt; told = tt; heard = tt; homes = tt; times = tt }

  pub note_joins : {t0 : ℕ} {set : List ℕ} → Noting (joins {t0 = t0} {set = set})
  note_joins {t0} {set} k = record { at = k.at; round = tt; met = tt; dirty = λ c e. go (joined_from o.dirty set 0 g e); soils = tt; joins = tt; told = tt; heard = tt; homes = tt; times = tt }
    where
      same : g ≡ 0 + g
      same = omega arith

      go : (is_dirty o g ≡ true) ⊎ (has_page set (0 + g) ≡ true) → (b.processors u.p).dirty ≡ true
      go (inl e) = k.dirty refl e
      go (inr e) = k.joins (ap (has_page set) same ∙ e)

  -- what no stage is about leaves the dirty set
  plain_dirty : (i : Note) → IsPlain None i → is_dirty (own_after o i) g ≡ is_dirty o g
  plain_dirty (Give d v) p = refl
  plain_dirty (Go to) p = refl
  plain_dirty Move p = refl
  plain_dirty (Append e) p = refl
  plain_dirty (Map_own h q) p = refl
  plain_dirty (Soil h) p = absurd p
  plain_dirty (Clean h) p = absurd p
  plain_dirty (Join set) p = absurd p
  plain_dirty (Count c) p = refl
  plain_dirty (Happen d) p = refl

  pub note_counts : {w : Work} (i : Note) (p : IsPlain None i) → Noting (counts {w = w} {n = i} p)
  note_counts {w} i p k = record { at = k.at; round = k.round; met = k.met; dirty = λ c e. k.dirty c (sym (plain_dirty i p) ∙ e); soils = k.soils; joins = k.joins; told = k.told; heard = k.heard; homes = k.homes; times = k.times }
