-- A fault's decisions, behind the words of all nodes, its turn, and its mapping.
use Rattle.std.proofs.Common.{◌≡◌, ◌≢◌, ◌⊎◌, inl, inr, ℕ, zero, suc, ◌+◌, ◌/◌, ◌<◌, ◌≤◌, ◌==◌, Bool, true, false, List, [], ◌∷◌, length, refl, sym, ap, ◌∙◌, subst, arith, if◌then◌else◌}
use native.Mathlib.Nat.{pow-suc}
use Rattle.std.specs.Prelude.{not, IfSome, ◌&&◌, ◌^◌, slice_index}
use Rattle.std.specs.Int.{bit_at}
use Rattle.std.proofs.lemmas.Nat.Bits.{bit_at-zero, bit_at-lt, bit_at_above, same_from_bits}
use Rattle.std.proofs.lemmas.Bool.{cases_eq, eq-eqb, ne_eqb, eqb-true, eqb-false}
use Rattle.dsm_words.specs.declared.item.Item.TheVariants.{Turn}
use Rattle.dsm_words.specs.Place.{total}
use Rattle.dsm_words.specs.Pages.{has_page}
use Rattle.dsm_words.specs.Script.{Change}
use Rattle.dsm_words.specs.Words.{word, done}
use Rattle.dsm_clock.specs.declared.turns.TurnId.{TurnId}
use Rattle.dsm_directory.specs.declared.row.Row.{Row}
use Rattle.dsm_directory.specs.Directory.{is_busy}
use Rattle.dsm_protocol.specs.Own.{Own, Who, node_of}
use Rattle.dsm_protocol.specs.Steps.{allows, page_of}
use Rattle.dsm_protocol.specs.Stages.{Round, Access, Told, Stage, Mapped, Asked, Sharing, Wanting, Testing, Ready, Work, On}
use Rattle.dsm_protocol.specs.Rows.{Wins, Slip, faults, shared, unwanted, maps}
use Rattle.dsm_protocol.proofs.Placed.{IsPlaced}
use Rattle.dsm_owners.specs.Stages as O
use Rattle.dsm_owners.specs.Acts as A
use Rattle.dsm_owners.specs.Directory.{Node, Processor as Reader, State, Event, Do, after_event}
use Rattle.dsm_owners.specs.Premises.{NoneBusy}
use Rattle.dsm_ties.specs.Views.{told_in}
use Rattle.dsm_ties.specs.Events.{busy_below}
use Rattle.dsm_ties.specs.Tied.{Knows, Match}
use Rattle.dsm_ties.proofs.Frame as F

lt_pow : (n : ℕ) → n < 2 ^ n
lt_pow zero = omega arith
lt_pow (suc n) = omega (arith, lt_pow n, pow-suc 2 n)

-- a set that is not empty has a node
module _ (busy : ℕ) (some : busy ≢ 0) where
  below : (k : ℕ) → ((j : ℕ) → k ≤ j → is_busy busy j ≡ false) → is_busy busy (busy_below busy k) ≡ true
  below zero none = absurd (some (same_from_bits busy 0 (λ i. zero_bit i (none i (omega arith)))))
    where
      zero_bit : (i : ℕ) → is_busy busy i ≡ false → bit_at busy i ≡ bit_at 0 i
      zero_bit i f = let z = bit_at-zero i in let l = bit_at-lt busy i in let e = eqb-false (bit_at busy i) 1 f in omega (arith, z, l, e)
  below (suc k) none = go (is_busy busy k) refl (λ e. below k (λ j lo. under j lo e (cases_eq j k)))
    where
      under : (j : ℕ) → k ≤ j → is_busy busy k ≡ false → (j ≡ k) ⊎ (j ≢ k) → is_busy busy j ≡ false
      under j lo e (inl d) = subst (λ z. is_busy busy z ≡ false) (sym d) e
      under j lo e (inr ne) = none j (omega (arith, lo, ne))

      go : (c : Bool) → is_busy busy k ≡ c → (is_busy busy k ≡ false → is_busy busy (busy_below busy k) ≡ true) → is_busy busy (if c then k else busy_below busy k) ≡ true
      go true e f = e
      go false e f = f e

  busy_has : is_busy busy (busy_below busy busy) ≡ true
  busy_has = below busy (λ j lo. ne_eqb (bit_at busy j) 1 (λ e. let z = bit_at_above busy j j (let p = lt_pow j in omega (arith, lo, p)) (omega arith) in absurd (omega (arith, z, e))))

module _ (u : Who) (at : IsPlaced u) (g : ℕ) (g_in : g < u.lay.pages) (ws : List ℕ) (long : length ws ≡ total u.lay) (b : State) (m : Match u g ws b) (o : Own) where
  abbrev pub Decision : {w v : Work} → Slip u o.maps o.dirty w v → Type 0
  Decision slip = F.SlipActs u at g g_in ws long b m o slip

  abbrev pub Turn_won : {w v : Work} {t : TurnId} → Wins u o.maps o.dirty w t v → Type 0
  Turn_won win = F.WinActs u at g g_in ws long b m o win

  abbrev pub Acted : Work → List ℕ → List Event → Type 0
  Acted = F.Acted u at g g_in ws long b m o

  abbrev pub Now : Work → Type 0
  Now w = F.Now u at g g_in ws long b m w o

  abbrev pub x : Node
  x = b.nodes (node_of u)

  abbrev pub y : Reader
  y = b.processors u.p

  module _ {r : Round} where
    pub slip_unwanted : {h busy : ℕ} {write : Bool} (e : (slice_index o.maps g == 0) ≡ false) → Decision (unwanted {r = r} {g = g} {h = h} {busy = busy} {write = write} e)
    slip_unwanted {busy = busy} {write = write} e own all k =
        F.reads u at g g_in ws long b m (A.Want_none write (is_busy busy)) k refl (λ d. eqb-false _ 0 e (sym own ∙ m.map u.p at.p_in ∙ d)) refl refl refl refl (k.homes refl) tt tt

    pub slip_shared : {h : ℕ} {write : Bool} {row : Row} → Decision (shared {r = r} {g = g} {h = h} {write = write} {row = row})
    slip_shared {h} {write} {row} own all k = go (row.busy == 0) refl
      where
        free : A.Act
        free = A.Free write u.lay.nodes row.others (is_busy row.busy)

        busy : A.Act
        busy = A.Busy write u.lay.nodes row.others (is_busy row.busy) (busy_below row.busy row.busy)

        b1 : State
        b1 = after_event (λ q. q / u.lay.procs) b (Do u.p free)

        m1 : Match u g ws b1
        m1 = F.read_match u at g g_in ws long b m free refl refl

        at_ready : (r : Round) → Now (On r g (Sharing write h u.lay.nodes row)) → Knows u g b.home x (record y { stage = O.Ready write }) (On r g (Ready write h)) o
        at_ready r k = record { at = rw (eq-eqb g g refl) refl; round = k.round; met = λ _. tt; dirty = λ c e. k.dirty refl e; soils = λ _ e. absurd (cc e); joins = tt; told = told r k.told; heard = tt; homes = λ _. k.homes refl; times = λ _. tt }
          where
            told : (r : Round) → IfSome (told_in (On r g (Sharing write h u.lay.nodes row))) (λ set. has_page set g ≡ true → x.noted ≡ true) → IfSome (told_in (On r g (Ready write h))) (λ set. has_page set g ≡ true → x.noted ≡ true)
            told (Told set q) f = f
            told r f = tt

        goes : NoneBusy (is_busy row.busy) 0 u.lay.nodes → (write ≡ false) ⊎ (row.others ≡ true) → Acted (On r g (Ready write h)) ws (Do u.p free ∷ Do u.p (A.Go_on write row.others) ∷ [])
        goes none on =
            record {
              runs = ((F.stage_is u at g g_in ws long b m k, at.node_in, (omega arith, none)), ((rw (eq-eqb u.p u.p refl) refl, at.node_in, on), tt));
              match = F.read_match u at g g_in ws long b1 m1 (A.Go_on write row.others) refl refl;
              knows = rw (eq-eqb u.p u.p refl) (rw (eq-eqb (node_of u) (node_of u) refl) (at_ready r k));
            }

        decide : NoneBusy (is_busy row.busy) 0 u.lay.nodes → (d f : Bool) → write ≡ d → row.others ≡ f → Acted (On r g (if d && not f then Testing h else Ready write h)) ws (Do u.p free ∷ (if d && not f then [] else Do u.p (A.Go_on write row.others) ∷ []))
        decide none true false i l = F.reads u at g g_in ws long b m free k refl (omega arith, none) refl refl (ap (λ z. O.Shared z row.others) i ∙ ap (λ z. O.Shared true z) l) refl (k.homes refl) tt tt
        decide none true true i l = goes none (inr l)
        decide none false f i l = goes none (inl i)

        go : (c : Bool) → (row.busy == 0) ≡ c → Acted (On r g (if c then (if write && not row.others then Testing h else Ready write h) else Wanting write h row.busy)) ws (if c then Do u.p free ∷ (if write && not row.others then [] else Do u.p (A.Go_on write row.others) ∷ []) else Do u.p busy ∷ [])
        go false e = F.reads u at g g_in ws long b m busy k refl (omega arith, busy_has row.busy (eqb-false row.busy 0 e)) refl refl refl refl (k.homes refl) tt tt
        go true e = decide (λ i lo hi. ap (λ z. is_busy z i) (eqb-true row.busy 0 e) ∙ sym (ap (λ z. z i) (F.none_busy u at g g_in ws long b m))) write row.others refl refl

  pub win_faults : {a : ℕ} {write : Bool} (e : allows write (slice_index o.maps (page_of u a)) ≡ false) → page_of u a ≡ g → Turn_won (faults {a = a} {write = write} e)
  win_faults {a} {write} e at_g f k = subst (λ q. Acted (On (Access true write a) q (Asked write)) (done u.lay ws (Change (Turn (node_of u) q) 0 (u.p + 1))) (Do u.p (A.Take write) ∷ [])) (sym at_g) here
    where
      free : word u.lay ws (Turn (node_of u) g) ≡ 0
      free = subst (λ q. word u.lay ws (Turn (node_of u) q) ≡ 0) at_g (sym f.told)

      here : Acted (On (Access true write a) g (Asked write)) (done u.lay ws (Change (Turn (node_of u) g) 0 (u.p + 1))) (Do u.p (A.Take write) ∷ [])
      here =
          record {
            runs = ((k.at, at.node_in, sym (m.turn (node_of u) at.node_in) ∙ free), tt);
            match = F.turn_won u at g g_in ws long b m (A.Take write) at.node_in free refl refl refl refl refl refl refl;
            knows = rw (eq-eqb u.p u.p refl) (record { at = rw (eq-eqb g g refl) refl; round = tt; met = λ _. tt; dirty = λ c d. k.dirty refl d; soils = λ _ d. absurd (cc d); joins = tt; told = tt; heard = tt; homes = λ _. tt; times = λ _. tt });
          }

  pub note_maps : {r : Round} {k : ℕ} {s : Stage} → F.NoteActs u at g g_in ws long b m o (maps {r = r} {g = g} {k = k} {s = s})
  note_maps {r = r} {k = h} {s = s} k = record { at = k.at; round = k.round; met = k.met; dirty = λ c d. k.dirty refl d; soils = k.soils; joins = tt; told = told r k.told; heard = tt; homes = k.homes; times = k.times }
    where
      told : (r : Round) → IfSome (told_in (On r g (Mapped h s))) (λ set. has_page set g ≡ true → x.noted ≡ true) → IfSome (told_in (On r g s)) (λ set. has_page set g ≡ true → x.noted ≡ true)
      told (Told set q) f = f
      told r f = tt
