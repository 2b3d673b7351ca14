-- Rows of a claim: the twin, the claim, the second look, the withdrawal, the page's words.
use Rattle.std.proofs.Common.{◌≡◌, ℕ, suc, ◌+◌, ◌<◌, ◌==◌, Bool, true, false, List, [], ◌∷◌, length, refl, sym, ap, ◌∙◌, arith, if◌then◌else◌}
use Rattle.std.specs.Prelude.{not, ◌||◌, IfSome, bit_or, ◌^◌}
use Rattle.std.proofs.lemmas.Bool.{ne_eqb, eqb-true, eqb-false}
use Rattle.dsm_words.specs.Place.{total}
use Rattle.dsm_words.specs.Pages.{has_page}
use Rattle.dsm_words.specs.Script.{Act}
use Rattle.dsm_directory.specs.declared.row.Row.{Row}
use Rattle.dsm_protocol.specs.Own.{Own, Who, node_of}
use Rattle.dsm_protocol.specs.Stages.{Round, Told, First, Got, Whole, Claiming, Claimed, Withdrawing, Entering, Filling, Filled, Entered, Ready, Work, On}
use Rattle.dsm_protocol.specs.Rows.{Step, Slip, tests, claims, looks_again, withdraws, draws_enter, fills, fills_own, stamps_enter, enters, claimed, begins_fill, filled}
use Rattle.dsm_protocol.proofs.Placed.{IsPlaced}
use Rattle.dsm_owners.specs.Stages as O
use Rattle.dsm_owners.specs.Acts as A
use Rattle.dsm_owners.specs.Directory.{Node, Processor as Reader, State, Event, Do}
use Rattle.dsm_ties.specs.Views.{stage_view, told_in}
use Rattle.dsm_ties.specs.Events.{again_events}
use Rattle.dsm_ties.specs.Tied.{bit, Match}
use Rattle.dsm_ties.proofs.Acting.{after_read}
use Rattle.dsm_ties.proofs.Frame as F

module _ (u : Who) (at : IsPlaced u) (g : ℕ) (g_in : g < u.lay.pages) (ws : List ℕ) (long : length ws ≡ total u.lay) (b : State) (m : Match u g ws b) (o : Own) where
  abbrev pub Row_acts : {w v : Work} {a : Act} {z : ℕ} → Step u o.maps o.dirty w a z v → Type 0
  Row_acts step = F.RowActs u at g g_in ws long b m o step

  abbrev pub Decision : {w v : Work} → Slip u o.maps o.dirty w v → Type 0
  Decision slip = F.SlipActs u at g g_in ws long b m o slip

  abbrev pub Acted : Work → List ℕ → List Event → Type 0
  Acted = F.Acted u at g g_in ws long b m o

  abbrev pub Now : Work → Type 0
  Now w = F.Now u at g g_in ws long b m w o

  abbrev pub x : Node
  x = b.nodes (node_of u)

  abbrev pub y : Reader
  y = b.processors u.p

  -- only what the history has of the node is changed
  unseen : (x' : Node) (z : O.Stage) → x'.dir ≡ x.dir → x'.twined ≡ x.twined → x'.update ≡ x.update → x'.turn ≡ x.turn → x'.noted ≡ x.noted → Match u g ws (record b { nodes = A.put b.nodes (node_of u) x'; processors = A.put b.processors u.p (record y { stage = z }) })
  unseen x' z di tw up tu nt = after_read u at g g_in ws long b m (node_of u) x' (record y { stage = z }) (record { dir_is = λ _. di; twined_is = λ _. tw; update_is = λ _. up; turn_is = λ _. tu; map_is = λ _. refl; nle_is = refl; noted_is = nt })

  module _ {r : Round} where
    pub row_tests : {h x : ℕ} → Row_acts (tests {r = r} {g = g} {h = h} {x = x})
    row_tests {h = h} {x = v} f k = F.load u at g g_in ws long b m _ (go (v == 1) refl x.twined (f.told ∙ m.twined (node_of u) at.node_in) refl)
      where
        go : (c : Bool) → (v == 1) ≡ c → (t : Bool) → v ≡ bit t → x.twined ≡ t → Acted (On r g (if c then Ready true h else Claiming h)) ws (if c then Do u.p A.Test_twin ∷ [] else Do u.p A.Test_none ∷ [])
        go true e true i d = F.reads u at g g_in ws long b m A.Test_twin k refl d refl refl refl refl (k.homes refl) tt tt
        go false e false i d = F.reads u at g g_in ws long b m A.Test_none k refl d refl refl refl refl (k.homes refl) tt tt
        go true e false i d = absurd (let z = eqb-true v 1 e in omega (arith, z, i))
        go false e true i d = absurd (eqb-false v 1 e i)

    pub row_claims : {h x : ℕ} → Row_acts (claims {r = r} {g = g} {h = h} {x = x})
    row_claims f k = F.acts u at g g_in ws long b m A.Claim k refl tt (F.dir_put u at g g_in ws long b m A.Claim 3 at.node_in refl refl refl refl refl refl refl) refl refl refl refl (k.homes refl) tt tt

    pub row_looks_again : {h j x : ℕ} {row : Row} → Row_acts (looks_again {r = r} {g = g} {h = h} {j = j} {x = x} {row = row})
    row_looks_again {h = h} {j = j} {x = v} {row = row} f k = F.load u at g g_in ws long b m _ (go row.others refl (j == node_of u) refl)
      where
        is : (b.nodes j).dir ≡ v
        is = sym (f.told ∙ m.dir j f.within.0)

        at_claim : row.others ≡ false → stage_view u (Claimed h j row) ≡ O.Claimed j
        at_claim e = rw e refl

        next : (others : Bool) → others ≡ false → O.Claimed (suc j) ≡ (if others then O.Failing else O.Claimed (j + 1))
        next others e = ap O.Claimed (F.suc_is u at g g_in ws long b m j) ∙ (rw e refl)

        go : (d : Bool) → row.others ≡ d → (c : Bool) → (j == node_of u) ≡ c
            → Acted (On r g (Claimed h (j + 1) (if c then record row { own = v } else record row { others = row.others || not (v == 0); busy = if v == 2 || v == 3 then bit_or row.busy (2 ^ j) else row.busy }))) ws (again_events u d c v j)
        go true d true c = F.no_event u at g g_in ws long b m k (rw d refl) refl (k.homes refl) tt tt m
        go true d false c = F.no_event u at g g_in ws long b m k (rw d refl) refl (k.homes refl) tt tt m
        go false d true c = F.acts u at g g_in ws long b m (A.Look_own j) k (at_claim d) (eqb-true j (node_of u) c, f.within.0) (unseen (record x { sure = suc j }) (O.Claimed (suc j)) refl refl refl refl refl) refl refl (next row.others d) refl (k.homes refl) tt tt
        go false d false c = heard (v == 0) refl
          where
            heard : (e : Bool) → (v == 0) ≡ e → Acted (On r g (Claimed h (j + 1) (record row { others = row.others || not e; busy = if v == 2 || v == 3 then bit_or row.busy (2 ^ j) else row.busy }))) ws (if e then Do u.p (A.Look_none j) ∷ [] else Do u.p (A.Look_some j) ∷ [])
            heard true e = F.acts u at g g_in ws long b m (A.Look_none j) k (at_claim d) (eqb-false j (node_of u) c, f.within.0, is ∙ eqb-true v 0 e) (unseen (record x { sure = suc j }) (O.Claimed (suc j)) refl refl refl refl refl) refl refl (next (row.others || false) (rw d refl)) refl (k.homes refl) tt tt
            heard false e = F.acts u at g g_in ws long b m (A.Look_some j) k (at_claim d) (eqb-false j (node_of u) c, λ i. eqb-false v 0 e (sym is ∙ i)) (unseen (record x { sure = 0 }) O.Failing refl refl refl refl refl) refl refl (rw d refl) refl (k.homes refl) tt tt

    pub row_withdraws : {h x : ℕ} → Row_acts (withdraws {r = r} {g = g} {h = h} {x = x})
    row_withdraws f k = F.acts u at g g_in ws long b m A.Withdraw k refl tt (F.dir_put u at g g_in ws long b m A.Withdraw 1 at.node_in refl refl refl refl refl refl refl) refl refl refl refl (k.homes refl) tt tt

    pub row_draws_enter : {h x : ℕ} → Row_acts (draws_enter {r = r} {g = g} {h = h} {x = x})
    row_draws_enter f k =
        F.acts u at g g_in ws long b m A.Enter_first k refl tt (F.untouched u at g g_in ws long _ (unseen (record x { fetch_open = true }) O.Copying refl refl refl refl refl) _ f.within (λ e. e)) refl refl refl refl (k.homes refl) (λ e. f.clocks (node_of u) at.node_in (sym f.told ∙ e)) tt

    pub row_fills : {h t i x : ℕ} → Row_acts (fills {r = r} {g = g} {h = h} {t = t} {i = i} {x = x})
    row_fills f k = F.no_event u at g g_in ws long b m k refl refl (k.homes refl) (k.times refl) tt (F.untouched u at g g_in ws long b m _ f.within (λ e. e))

    pub row_fills_own : {h t i v x : ℕ} → Row_acts (fills_own {r = r} {g = g} {h = h} {t = t} {i = i} {v = v} {x = x})
    row_fills_own f k = F.no_event u at g g_in ws long b m k refl refl (k.homes refl) (k.times refl) tt (F.untouched u at g g_in ws long b m _ f.within (λ e. e))

    pub row_stamps_enter : {t x : ℕ} → Row_acts (stamps_enter {r = r} {g = g} {t = t} {x = x})
    row_stamps_enter {t} f k = F.acts u at g g_in ws long b m A.Enter_stamp k refl tt (F.update_put u at g g_in ws long b m A.Enter_stamp t at.node_in (ap not (ne_eqb t 0 (k.times refl))) refl refl refl refl refl refl) refl refl refl refl tt tt tt

    pub row_enters : {x : ℕ} → Row_acts (enters {r = r} {g = g} {x = x})
    row_enters f k = F.acts u at g g_in ws long b m A.Enter k refl tt (F.dir_put u at g g_in ws long b m A.Enter 2 at.node_in refl refl refl refl refl refl refl) refl refl refl refl tt tt tt

    pub slip_claimed : {h : ℕ} {row : Row} → Decision (claimed {r = r} {g = g} {h = h} {row = row})
    slip_claimed {h} {row} own all k = go row.others refl (node_of u == h) refl
      where
        go : (d : Bool) → row.others ≡ d → (c : Bool) → (node_of u == h) ≡ c
            → Acted (On r g (if d then Withdrawing h else (if c then Entered else Entering h))) ws (if d then [] else (if c then Do u.p (A.Alone_home u.lay.nodes) ∷ [] else Do u.p (A.Alone u.lay.nodes) ∷ []))
        go true d c e = F.no_event u at g g_in ws long b m k (rw d refl) refl (k.homes refl) tt tt m
        go false d true e = F.reads u at g g_in ws long b m (A.Alone_home u.lay.nodes) k (rw d refl) (omega arith, k.homes refl ∙ ap suc (sym (eqb-true (node_of u) h e))) refl refl refl refl tt tt tt
        go false d false e = F.reads u at g g_in ws long b m (A.Alone u.lay.nodes) k (rw d refl) (omega arith, λ i. eqb-false (node_of u) h e (let z = k.homes refl in omega (arith, z, i))) refl refl refl refl (k.homes refl) tt tt

    pub note_begins_fill : {h t v : ℕ} → F.NoteActs u at g g_in ws long b m o (begins_fill {r = r} {g = g} {h = h} {t = t} {v = v})
    note_begins_fill {h} {t} {v} k = record { at = k.at; round = k.round; met = k.met; dirty = k.dirty; soils = k.soils; joins = k.joins; told = told r k.told; heard = k.heard; homes = k.homes; times = k.times }
      where
        told : (r : Round) → IfSome (told_in (On r g (Filling h t 0 (First v)))) (λ set. has_page set g ≡ true → x.noted ≡ true) → IfSome (told_in (On r g (Filling h t 0 (Got v)))) (λ set. has_page set g ≡ true → x.noted ≡ true)
        told (Told set q) f = f
        told r f = tt

    pub note_filled : {h t : ℕ} → F.NoteActs u at g g_in ws long b m o (filled {r = r} {g = g} {h = h} {t = t})
    note_filled {h} {t} k = record { at = k.at; round = k.round; met = k.met; dirty = k.dirty; soils = k.soils; joins = k.joins; told = told r k.told; heard = k.heard; homes = λ _. tt; times = k.times }
      where
        told : (r : Round) → IfSome (told_in (On r g (Filling h t u.lay.words Whole))) (λ set. has_page set g ≡ true → x.noted ≡ true) → IfSome (told_in (On r g (Filled t))) (λ set. has_page set g ≡ true → x.noted ≡ true)
        told (Told set q) f = f
        told r f = tt
