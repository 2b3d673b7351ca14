-- Rows of a fault whose page is found: its copy is brought up to date, a twin made, and the mapping stored.
use Rattle.std.proofs.Common.{◌≡◌, ℕ, suc, ◌+◌, ◌<◌, ◌==◌, Bool, true, false, List, [], ◌∷◌, length, refl, sym, ap, ◌∙◌, arith, if◌then◌else◌}
use Rattle.std.specs.Prelude.{not, nat_lt, IfSome, ◌||◌, ◌&&◌, None}
use Rattle.std.proofs.lemmas.Bool.{ne_eqb, eq-eqb, eqb-true, eqb-false}
use Rattle.dsm_words.specs.declared.item.Item.TheVariants.{Clock, Map}
use Rattle.dsm_words.specs.Place.{total}
use Rattle.dsm_words.specs.Pages.{has_page}
use Rattle.dsm_words.specs.Script.{Act, Put, Add}
use Rattle.dsm_words.specs.Words.{done}
use Rattle.dsm_protocol.specs.Own.{Own, Who, node_of}
use Rattle.dsm_protocol.specs.Jobs.{Note}
use Rattle.dsm_protocol.specs.Steps.{wanted}
use Rattle.dsm_protocol.specs.Stages.{Round, Told, Whole, Differs, Fetching, Current, Copying, Making, Setting, Mapped, Soiling, Giving, Work, On}
use Rattle.dsm_protocol.specs.Rows.{Step, Slip, Noted, compares, judges, draws, sees_twin, copies, copies_over, merges, merges_own, merges_twin, stamps, has_twin, makes, makes_twin, made, sets, gives, at_home, read_only, soils, begins_copy, fetched}
use Rattle.dsm_protocol.proofs.Placed.{IsPlaced}
use Rattle.dsm_owners.specs.Stages as O
use Rattle.dsm_owners.specs.Acts as A
use Rattle.dsm_owners.specs.Directory.{State, Event, Do, after_event}
use Rattle.dsm_ties.specs.Views.{told_in}
use Rattle.dsm_ties.specs.Events.{set_act}
use Rattle.dsm_ties.specs.Tied.{bit, Match}
use Rattle.dsm_ties.proofs.Acting.{after_read, knows_at}
use Rattle.dsm_ties.proofs.Frame as F

module _ (u : Who) (at : IsPlaced u) (g : ℕ) (g_in : g < u.lay.pages) (ws : List ℕ) (long : length ws ≡ total u.lay) (b : State) (m : Match u g ws b) (o : Own) where
  abbrev Row : {w v : Work} {a : Act} {z : ℕ} → Step u o.maps o.dirty w a z v → Type 0
  Row step = F.RowActs u at g g_in ws long b m o step

  abbrev Decision : {w v : Work} → Slip u o.maps o.dirty w v → Type 0
  Decision slip = F.SlipActs u at g g_in ws long b m o slip

  abbrev Noting : {w v : Work} {i : Note} → Noted u None w i v → Type 0
  Noting noted = F.NoteActs u at g g_in ws long b m o noted

  abbrev Acted : Work → List ℕ → List Event → Type 0
  Acted = F.Acted u at g g_in ws long b m o

  module _ {r : Round} where
    pub row_compares : {h x : ℕ} {write : Bool} (e : (node_of u == h) ≡ false) → Row (compares {r = r} {g = g} {h = h} {x = x} {write = write} e)
    row_compares {h} {x} {write} e f k = F.load u at g g_in ws long b m _ (F.reads u at g g_in ws long b m (A.Compare write (not (x == 0))) k refl ((λ d. eqb-false (node_of u) h e (let z = k.homes refl in omega (arith, d, z))), sym (ap (λ z. not (z == 0)) f.told ∙ m.update (node_of u) at.node_in)) refl refl refl refl (k.homes refl) tt tt)

    pub row_judges : {h y x : ℕ} {write : Bool} → Row (judges {r = r} {g = g} {h = h} {y = y} {x = x} {write = write})
    row_judges {h} {y} {x} {write} f k = F.load u at g g_in ws long b m _ (go (y == 0) (nat_lt y x) refl)
      where
        go : (c d : Bool) → (y == 0) ≡ c → Acted (On r g (if c || d then Fetching write h else Current write h)) ws (if c || d then Do u.p (A.Stale write (not (y == 0))) ∷ [] else Do u.p (A.Current write) ∷ [])
        go true d e = F.reads u at g g_in ws long b m (A.Stale write (not (y == 0))) k refl tt refl refl refl refl (k.homes refl) tt tt
        go false true e = F.reads u at g g_in ws long b m (A.Stale write (not (y == 0))) k refl tt refl refl refl refl (k.homes refl) tt tt
        go false false e = F.reads u at g g_in ws long b m (A.Current write) k (ap (λ c. O.Compared write (not c)) e) tt refl refl refl refl (k.homes refl) tt tt

    pub row_draws : {h x : ℕ} {write : Bool} → Row (draws {r = r} {g = g} {h = h} {x = x} {write = write})
    row_draws {write = write} f k = F.acts u at g g_in ws long b m (A.First write) k refl tt (F.untouched u at g g_in ws long _ opened (Add (Clock (node_of u)) 1) f.within (λ e. e)) refl refl refl refl (k.homes refl) (λ e. f.clocks (node_of u) at.node_in (sym f.told ∙ e)) tt
      where
        opened : Match u g ws (after_event (F.node u at g g_in ws long b m) b (Do u.p (A.First write)))
        opened = after_read u at g g_in ws long b m (node_of u) (record (b.nodes (node_of u)) { fetch_open = true }) (record (b.processors u.p) { stage = O.Opened write }) (record { dir_is = λ _. refl; twined_is = λ _. refl; update_is = λ _. refl; turn_is = λ _. refl; map_is = λ _. refl; nle_is = refl; noted_is = refl })

    pub row_sees_twin : {h t x : ℕ} {write : Bool} → Row (sees_twin {r = r} {g = g} {h = h} {t = t} {x = x} {write = write})
    row_sees_twin f k = F.load u at g g_in ws long b m _ (F.no_event u at g g_in ws long b m k refl refl (k.homes refl) (k.times refl) tt m)

    pub row_copies : {h t i x : ℕ} {write twin : Bool} → Row (copies {r = r} {g = g} {h = h} {t = t} {i = i} {x = x} {write = write} {twin = twin})
    row_copies f k = F.no_event u at g g_in ws long b m k refl refl (k.homes refl) (k.times refl) tt (F.untouched u at g g_in ws long b m _ f.within (λ e. e))

    pub row_copies_over : {h t i v x : ℕ} {write : Bool} → Row (copies_over {r = r} {g = g} {h = h} {t = t} {i = i} {v = v} {x = x} {write = write})
    row_copies_over f k = F.no_event u at g g_in ws long b m k refl refl (k.homes refl) (k.times refl) tt (F.untouched u at g g_in ws long b m _ f.within (λ e. e))

    pub row_merges : {h t i v x : ℕ} {write : Bool} → Row (merges {r = r} {g = g} {h = h} {t = t} {i = i} {v = v} {x = x} {write = write})
    row_merges {h} {t} {i} {v} {x} {write} f k = F.load u at g g_in ws long b m _ (go (v == x))
      where
        go : (c : Bool) → Acted (On r g (if c then Copying write h t true (i + 1) Whole else Copying write h t true i (Differs v))) ws []
        go true = F.no_event u at g g_in ws long b m k refl refl (k.homes refl) (k.times refl) tt m
        go false = F.no_event u at g g_in ws long b m k refl refl (k.homes refl) (k.times refl) tt m

    pub row_merges_own : {h t i v x : ℕ} {write : Bool} → Row (merges_own {r = r} {g = g} {h = h} {t = t} {i = i} {v = v} {x = x} {write = write})
    row_merges_own f k = F.no_event u at g g_in ws long b m k refl refl (k.homes refl) (k.times refl) tt (F.untouched u at g g_in ws long b m _ f.within (λ e. e))

    pub row_merges_twin : {h t i v x : ℕ} {write : Bool} → Row (merges_twin {r = r} {g = g} {h = h} {t = t} {i = i} {v = v} {x = x} {write = write})
    row_merges_twin f k = F.no_event u at g g_in ws long b m k refl refl (k.homes refl) (k.times refl) tt (F.untouched u at g g_in ws long b m _ f.within (λ e. e))

    pub row_stamps : {h t x : ℕ} {write : Bool} → Row (stamps {r = r} {g = g} {h = h} {t = t} {x = x} {write = write})
    row_stamps {t = t} {write = write} f k = F.acts u at g g_in ws long b m (A.Stamp write) k refl tt (F.update_put u at g g_in ws long b m (A.Stamp write) t at.node_in (ap not (ne_eqb t 0 (k.times refl))) refl refl refl refl refl refl) refl refl refl refl (k.homes refl) tt tt

    pub row_has_twin : {h x : ℕ} → Row (has_twin {r = r} {g = g} {h = h} {x = x})
    row_has_twin {h} {x} f k = F.load u at g g_in ws long b m _ (go (x == 1) refl (b.nodes (node_of u)).twined (f.told ∙ m.twined (node_of u) at.node_in) refl)
      where
        go : (c : Bool) → (x == 1) ≡ c → (t : Bool) → x ≡ bit t → (b.nodes (node_of u)).twined ≡ t → Acted (On r g (if c then Setting true false else Making 0 Whole)) ws (if c then Do u.p A.Has_twin ∷ [] else Do u.p A.No_twin ∷ [])
        go true e true i d = F.reads u at g g_in ws long b m A.Has_twin k refl d refl refl refl refl tt tt tt
        go false e false i d = F.reads u at g g_in ws long b m A.No_twin k refl d refl refl refl refl tt tt tt
        go true e false i d = absurd (let z = eqb-true x 1 e in omega (arith, z, i))
        go false e true i d = absurd (eqb-false x 1 e i)

    pub row_makes : {i x : ℕ} → Row (makes {r = r} {g = g} {i = i} {x = x})
    row_makes f k = F.no_event u at g g_in ws long b m k refl refl tt tt tt (F.untouched u at g g_in ws long b m _ f.within (λ e. e))

    pub row_makes_twin : {i v x : ℕ} → Row (makes_twin {r = r} {g = g} {i = i} {v = v} {x = x})
    row_makes_twin f k = F.no_event u at g g_in ws long b m k refl refl tt tt tt (F.untouched u at g g_in ws long b m _ f.within (λ e. e))

    pub row_made : {x : ℕ} → Row (made {r = r} {g = g} {x = x})
    row_made f k = F.acts u at g g_in ws long b m A.Make k refl tt (F.twined_put u at g g_in ws long b m A.Make 1 at.node_in refl refl refl refl refl refl refl) refl refl refl refl tt tt tt

    pub row_sets : {x : ℕ} {write alone : Bool} → Row (sets {r = r} {g = g} {x = x} {write = write} {alone = alone})
    row_sets {x} {write} {alone} f k = go write alone k
      where
        go : (write alone : Bool) → F.Now u at g g_in ws long b m (On r g (Setting write alone)) o → Acted (On r g (Mapped (wanted write) (if write && not alone then Soiling else Giving))) (done u.lay ws (Put (Map u.p g) (wanted write))) (Do u.p (set_act u write alone) ∷ [])
        go false alone k = F.acts u at g g_in ws long b m (A.Set_read alone) k refl tt (F.map_put u at g g_in ws long b m (A.Set_read alone) 1 refl refl refl refl refl refl refl) refl refl refl refl tt tt tt
        go true true k = F.acts u at g g_in ws long b m A.Set_sole k refl tt (F.map_put u at g g_in ws long b m A.Set_sole 2 refl refl refl refl refl refl refl) refl refl refl refl tt tt tt
        go true false k =
            record {
              runs = ((F.stage_is u at g g_in ws long b m k, at.node_in, tt), tt);
              match = F.map_put u at g g_in ws long b m A.Set_write 2 refl refl refl refl refl refl refl;
              knows = knows_at u at g g_in ws long b m (node_of u) (b.nodes (node_of u)) (record (b.processors u.p) { map = 2; dirty = true; stage = O.Giving }) {t = Mapped 2 Soiling} k refl (λ e. refl) (λ e. refl) (λ e. e) tt tt tt;
            }

    pub slip_at_home : {h : ℕ} {write : Bool} (e : (node_of u == h) ≡ true) → Decision (at_home {r = r} {g = g} {h = h} {write = write} e)
    slip_at_home {h} {write} e own all k = F.reads u at g g_in ws long b m (A.Ready_home write) k refl (k.homes refl ∙ ap suc (sym (eqb-true (node_of u) h e))) refl refl refl refl tt tt tt

    pub slip_read_only : {h : ℕ} → Decision (read_only {r = r} {g = g} {h = h})
    slip_read_only own all k = F.reads u at g g_in ws long b m A.Read_ready k refl tt refl refl refl refl tt tt tt

    pub note_begins_copy : {h t v : ℕ} {write twin : Bool} → Noting (begins_copy {r = r} {g = g} {h = h} {t = t} {v = v} {write = write} {twin = twin})
    note_begins_copy k = (F.no_event u at g g_in ws long b m k refl refl (k.homes refl) (k.times refl) tt m).knows

    pub note_fetched : {h t : ℕ} {write twin : Bool} → Noting (fetched {r = r} {g = g} {h = h} {t = t} {write = write} {twin = twin})
    note_fetched k = (F.no_event u at g g_in ws long b m k refl refl (k.homes refl) (k.times refl) tt m).knows

    pub note_soils : Noting (soils {r = r} {g = g})
    note_soils k = record { at = k.at; round = k.round; met = λ _. tt; dirty = λ c e. k.soils refl refl; soils = λ _ d. absurd (cc d); joins = tt; told = go r k.told; heard = tt; homes = λ _. tt; times = λ _. tt }
      where
        go : (r : Round) → IfSome (told_in (On r g Soiling)) (λ set. has_page set g ≡ true → (b.nodes (node_of u)).noted ≡ true) → IfSome (told_in (On r g Giving)) (λ set. has_page set g ≡ true → (b.nodes (node_of u)).noted ≡ true)
        go (Told set q) e = e
        go r e = tt

  pub row_gives : {a x : ℕ} {write : Bool} → Row (gives {g = g} {a = a} {x = x} {write = write})
  row_gives f k =
      record {
        runs = ((F.stage_is u at g g_in ws long b m k, at.node_in, tt), tt);
        match = F.turn_put u at g g_in ws long b m A.Give 0 at.node_in refl refl refl refl refl refl refl;
        knows = rw (eq-eqb u.p u.p refl) (record { at = refl; round = tt; met = tt; dirty = λ c e. k.dirty refl e; soils = tt; joins = tt; told = tt; heard = tt; homes = tt; times = tt });
      }
