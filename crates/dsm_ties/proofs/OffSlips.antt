-- Decisions and notes on no page, and the turn of a node's notices.
use Rattle.std.proofs.Common.{◌≡◌, ℕ, ◌<◌, ◌==◌, Bool, true, false, List, length, None, refl, sym, ◌∙◌}
use Rattle.std.specs.Prelude.{not, ◌&&◌, slice_index, slice_index_or}
use Rattle.std.specs.Int.{bit_at}
use Rattle.dsm_entry.specs.declared.entry.Obj.{Obj}
use Rattle.dsm_words.specs.Place.{total}
use Rattle.dsm_words.specs.Pages.{has_page}
use Rattle.dsm_clock.specs.declared.turns.TurnId.{TurnId}
use Rattle.dsm_protocol.specs.Own.{Own, Who, is_dirty}
use Rattle.dsm_protocol.specs.Jobs.{Note, Map_own, Soil, Clean, Join, own_after}
use Rattle.dsm_protocol.specs.Stages.{Work}
use Rattle.dsm_protocol.specs.Rows.{Wins, Slip, Noted, IsPlain, is_close, hears, accesses, waits, tells, finished, despairs, clean, released, unheard, heard, flagged, next_node, drained, taken, passed_over, closing, unclosing, unheld, closed, appends_load, appends_store, signals, admits, arrives, dismisses, quits, gives, goes, moves, passes, acquired, counts}
use Rattle.dsm_protocol.proofs.Placed.{IsPlaced}
use Rattle.dsm_owners.specs.Directory.{State}
use Rattle.dsm_ties.specs.Tied.{Match}
use Rattle.dsm_ties.proofs.Frame as F
use Rattle.dsm_ties.proofs.OffRows.{off_knows, off_acts}

-- what no stage is about leaves its mappings and its dirty pages
pub plain_maps : (o : Own) (i : Note) → IsPlain None i → (own_after o i).maps ≡ o.maps
plain_maps o (Map_own g k) e = absurd e
plain_maps o i e = refl

pub plain_dirty : (o : Own) (i : Note) → IsPlain None i → (own_after o i).dirty ≡ o.dirty
plain_dirty o (Soil g) e = absurd e
plain_dirty o (Clean g) e = absurd e
plain_dirty o (Join set) e = absurd e
plain_dirty o i e = refl

module _ (u : Who) (at : IsPlaced u) (g : ℕ) (g_in : g < u.lay.pages) (ws : List ℕ) (long : length ws ≡ total u.lay) (b : State) (m : Match u g ws b) (o : Own) where
  abbrev Turned : {w v : Work} {t : TurnId} → Wins u o.maps o.dirty w t v → Type 0
  Turned win = F.WinActs u at g g_in ws long b m o win

  abbrev Decision : {w v : Work} → Slip u o.maps o.dirty w v → Type 0
  Decision slip = F.SlipActs u at g g_in ws long b m o slip

  abbrev Noting : {w v : Work} {i : Note} → Noted u None w i v → Type 0
  Noting noted = F.NoteActs u at g g_in ws long b m o noted

  -- it hears its node's notices
  pub win_hears : Turned hears
  win_hears f k = off_acts u at g g_in ws long b m (F.untouched u at g g_in ws long b m _ f.within (λ e. e)) k refl tt tt tt

  -- an instruction
  pub slip_accesses : {write : Bool} {a : ℕ} → Decision (accesses {write = write} {a = a})
  slip_accesses own all k = off_acts u at g g_in ws long b m m k refl tt tt tt

  pub slip_waits : Decision waits
  slip_waits own all k = off_acts u at g g_in ws long b m m k refl tt tt tt

  pub slip_tells : Decision tells
  slip_tells own all k = off_acts u at g g_in ws long b m m k refl tt tt tt

  pub slip_finished : Decision finished
  slip_finished own all k = off_acts u at g g_in ws long b m m k refl tt tt tt

  pub slip_despairs : Decision despairs
  slip_despairs own all k = off_acts u at g g_in ws long b m m k refl tt tt tt

  -- a release
  pub slip_clean : {t0 h : ℕ} (e : slice_index_or o.dirty h false ≡ false) → Decision (clean {t0 = t0} {g = h} e)
  slip_clean e own all k = off_acts u at g g_in ws long b m m k refl tt tt tt

  pub slip_released : {t0 : ℕ} → Decision (released {t0 = t0})
  slip_released own all k = off_acts u at g g_in ws long b m m k refl tt tt tt

  -- notices are drained
  pub slip_unheard : {j k bits c : ℕ} (e : (bit_at bits c == 1) ≡ false) → Decision (unheard {j = j} {k = k} {bits = bits} {b = c} e)
  slip_unheard e own all k = off_acts u at g g_in ws long b m m k refl tt tt k.heard

  pub slip_heard : {j k bits : ℕ} → Decision (heard {j = j} {k = k} {bits = bits})
  slip_heard own all k = off_acts u at g g_in ws long b m m k refl tt tt tt

  pub slip_flagged : {j k bits c : ℕ} → Decision (flagged {j = j} {k = k} {bits = bits} {b = c})
  slip_flagged own all k = off_acts u at g g_in ws long b m m k refl tt tt k.heard

  pub slip_next_node : {j : ℕ} → Decision (next_node {j = j})
  slip_next_node own all k = off_acts u at g g_in ws long b m m k refl tt tt tt

  pub slip_drained : Decision drained
  slip_drained own all k = off_acts u at g g_in ws long b m m k refl tt tt tt

  -- the pages of which it was told
  pub slip_taken : {set : List ℕ} → Decision (taken {set = set})
  slip_taken own all k = off_acts u at g g_in ws long b m m k refl tt k.told tt

  pub slip_passed_over : {h : ℕ} {set : List ℕ} (e : (has_page set h && not (slice_index o.maps h == 0)) ≡ false) → Decision (passed_over {g = h} {set = set} e)
  slip_passed_over e own all k = off_acts u at g g_in ws long b m m k refl tt k.told tt

  -- the closing work
  pub slip_closing : (e : (u.p == 0) ≡ true) → Decision (closing e)
  slip_closing e own all k = off_acts u at g g_in ws long b m m k refl tt tt tt

  pub slip_unclosing : (e : (u.p == 0) ≡ false) → Decision (unclosing e)
  slip_unclosing e own all k = off_acts u at g g_in ws long b m m k refl tt tt tt

  pub slip_unheld : {h : ℕ} → Decision (unheld {g = h})
  slip_unheld own all k = off_acts u at g g_in ws long b m m k refl tt tt tt

  pub slip_closed : Decision closed
  slip_closed own all k = off_acts u at g g_in ws long b m m k refl tt tt tt

  -- what it knows depends on its dirty pages alone
  pub owned : {w : Work} {o' : Own} → is_dirty o' g ≡ is_dirty o g → F.Now u at g g_in ws long b m w o → F.Now u at g g_in ws long b m w o'
  owned e k = record { at = k.at; round = k.round; met = k.met; dirty = λ c d. k.dirty c (sym e ∙ d); soils = k.soils; joins = k.joins; told = k.told; heard = k.heard; homes = k.homes; times = k.times }

  pub note_appends_load : {a x : ℕ} (e : None ≡ None) → Noting (appends_load {w = a} {x = x} e)
  note_appends_load e k = owned refl (off_knows u at g g_in ws long b m k refl tt tt tt)

  pub note_appends_store : {a v : ℕ} (e : None ≡ None) → Noting (appends_store {w = a} {v = v} e)
  note_appends_store e k = owned refl (off_knows u at g g_in ws long b m k refl tt tt tt)

  pub note_signals : {t0 : ℕ} (of : Obj) (j : ℕ) (e : None ≡ None) (other : is_close of ≡ false) → Noting (signals {t0 = t0} {of = of} {j = j} e other)
  note_signals of j e other k = owned refl (off_knows u at g g_in ws long b m k refl tt tt tt)

  pub note_admits : (of : Obj) (c : ℕ) (e : None ≡ None) (other : is_close of ≡ false) → Noting (admits {of = of} {c = c} e other)
  note_admits of c e other k = owned refl (off_knows u at g g_in ws long b m k refl tt tt tt)

  pub note_arrives : {t0 : ℕ} (j : ℕ) (e : None ≡ None) → Noting (arrives {t0 = t0} {j = j} e)
  note_arrives j e k = owned refl (off_knows u at g g_in ws long b m k refl tt tt tt)

  pub note_dismisses : (c : ℕ) (e : None ≡ None) → Noting (dismisses {c = c} e)
  note_dismisses c e k = owned refl (off_knows u at g g_in ws long b m k refl tt tt tt)

  pub note_gives : (d v : ℕ) (e : None ≡ None) → Noting (gives {d = d} {v = v} e)
  note_gives d v e k = owned refl (off_knows u at g g_in ws long b m k refl tt tt tt)

  pub note_goes : (to : ℕ) (e : None ≡ None) → Noting (goes {to = to} e)
  note_goes to e k = owned refl (off_knows u at g g_in ws long b m k refl tt tt tt)

  pub note_moves : (e : None ≡ None) → Noting (moves e)
  note_moves e k = owned refl (off_knows u at g g_in ws long b m k refl tt tt tt)

  pub note_passes : (e : None ≡ None) → Noting (passes e)
  note_passes e k = owned refl (off_knows u at g g_in ws long b m k refl tt tt tt)

  pub note_quits : (e : None ≡ None) → Noting (quits e)
  note_quits e k = owned refl (off_knows u at g g_in ws long b m k refl tt tt tt)

  pub note_acquired : {set : List ℕ} → Noting (acquired {set = set})
  note_acquired k = off_knows u at g g_in ws long b m k refl tt tt tt

  pub note_counts : {w : Work} (i : Note) (e : IsPlain None i) → Noting (counts {w = w} {n = i} e)
  note_counts {w} i e k = owned (rw (plain_dirty o i e) refl) k
