-- Rows on no page, for what a node owes: a release begins; an instruction comes and ends; what is noted there.
use Rattle.std.proofs.Common.{◌≡◌, ℕ, ◌==◌, true, false, [], ◌∷◌, None, refl, sym, ap, ◌∙◌, arith}
use Rattle.std.specs.Prelude.{◌||◌, nat_le, replicate, slice_index_or}
use Rattle.std.proofs.lemmas.Bool.{le-leb, eq-eqb, eqb-true}
use Rattle.dsm_entry.specs.declared.entry.Obj.{Obj}
use Rattle.dsm_words.specs.declared.item.Item.TheVariants.{Clock}
use Rattle.dsm_words.specs.Pages.{group_of, has_page}
use Rattle.dsm_words.specs.Script.{Add}
use Rattle.dsm_words.specs.Words.{done}
use Rattle.dsm_protocol.specs.Own.{Own, node_of, is_dirty}
use Rattle.dsm_protocol.specs.Jobs.{Note, own_after}
use Rattle.dsm_protocol.specs.Stages.{Idle, Waiting, Admitted, Arrived, Dismissed, Quitting, Passing, Finished, Stopping, Collecting, Work, Off}
use Rattle.dsm_protocol.specs.Rows.{IsPlain, is_close, draws_release, waits, tells, finished, ends, forsaken, despairs, admits, dismisses, gives, goes, moves, passes, quits, counts}
use Rattle.dsm_ties.proofs.OffSlips.{plain_dirty}
use Rattle.dsm_debts.specs.Page as D
use Rattle.dsm_debts.specs.Page.{Open}
use Rattle.dsm_freshness.proofs.NoticeRows.{if_true}
use Rattle.dsm_releases.specs.Views.{release_view, dirty_view}
use Rattle.dsm_releases.proofs.Words.{Scene, home, first, match_one, untouched, dirty_kept}
use Rattle.dsm_releases.proofs.Frame as F

module _ (c : Scene) (o : Own) where
  -- a release begins: it draws its time
  pub row_draws_release : {x : ℕ} → F.RowActs c o (draws_release {x = x})
  row_draws_release {x} f = F.only_if c (node_of c.u == c.n) (λ d. on (eqb-true (node_of c.u) c.n d))
      (λ d. let off : node_of c.u ≡ c.n → ⊥ = λ e. absurd (cc (sym (eq-eqb (node_of c.u) c.n e) ∙ d)) in record { runs = tt; match = untouched c (Add (Clock (node_of c.u)) 1) f.within off; knows = F.off_knows c {r = Collecting x 0 (replicate 4 0)} c.f (λ e. absurd (off e)) (λ e. absurd (off e)) tt })
    where
      low : nat_le 0 (group_of c.g) ≡ true
      low = le-leb 0 (group_of c.g) (omega arith)

      on : node_of c.u ≡ c.n → F.Acted c (Off (Collecting x 0 (replicate 4 0))) o (done c.u.lay c.ws (Add (Clock (node_of c.u)) 1)) (Open c.u.p ∷ [])
      on e = record {
        runs = (F.stage_now c {w = Off Idle} f.here.knows (λ z. absurd (cc z)) e, tt);
        match = match_one c (Open c.u.p) (λ z. c.match.idle z) (Add (Clock (node_of c.u)) 1) f.within e refl tt (F.clock_next c (node_of c.u) e f);
        knows = F.off_knows c {r = Collecting x 0 (replicate 4 0)} (F.behind c (Open c.u.p)) (λ _. stage) (λ _. dirty) tt;
      }
        where
          stage : ((F.behind c (Open c.u.p)).processors c.u.p).stage ≡ release_view c.g (Off (Collecting x 0 (replicate 4 0)))
          stage = let here : ((F.behind c (Open c.u.p)).processors c.u.p).stage ≡ D.Drawn c.f.page.clock = rw (eq-eqb c.u.p c.u.p refl) refl in here ∙ ap D.Drawn (sym (F.time_is c (node_of c.u) e f)) ∙ sym (if_true (nat_le 0 (group_of c.g)) (D.Drawn x) (D.Releasing x) low)

          dirty : ((F.behind c (Open c.u.p)).processors c.u.p).dirty ≡ dirty_view c.g (Off (Collecting x 0 (replicate 4 0))) o
          dirty = dirty_kept (home c) (first c) c.f (Open c.u.p) refl c.u.p ∙ F.dirty_now c {w = Off Idle} f.here.knows (λ z. absurd (cc z)) e ∙ sym (if_true (nat_le 0 (group_of c.g)) (is_dirty o c.g) (is_dirty o c.g || has_page (replicate 4 0) c.g) low)

  -- an instruction
  pub slip_waits : F.SlipActs c o waits
  slip_waits own f = F.off_stays c {w = Off Idle} {t = Waiting} f.knows (λ d. absurd (cc d)) (λ _. refl) (λ _. refl) tt

  pub slip_tells : F.SlipActs c o tells
  slip_tells own f = F.off_stays c {w = Off Waiting} {t = Stopping} f.knows (λ d. absurd (cc d)) (λ _. refl) (λ _. refl) tt

  pub slip_finished : F.SlipActs c o finished
  slip_finished own f = F.off_stays c {w = Off Waiting} {t = Finished} f.knows (λ d. absurd (cc d)) (λ _. refl) (λ _. refl) tt

  pub slip_ends : F.SlipActs c o ends
  slip_ends own f = record { runs = tt; match = c.match; knows = F.gone c c.f o }

  -- at the closing barrier
  pub slip_forsaken : F.SlipActs c o forsaken
  slip_forsaken own f = record { runs = tt; match = c.match; knows = F.gone c c.f o }

  pub slip_despairs : F.SlipActs c o despairs
  slip_despairs own f = F.off_stays c {w = Off Arrived} {t = Stopping} f.knows (λ d. absurd (cc d)) (λ _. refl) (λ _. refl) tt

  -- what it notes
  pub note_admits : (of : Obj) (k : ℕ) (none : None ≡ None) (other : is_close of ≡ false) → F.NoteActs c o (admits {of = of} {c = k} none other)
  note_admits of k none other f = F.noted c refl (F.off_stays c {w = Off Waiting} {t = Admitted} f.knows (λ d. absurd (cc d)) (λ _. refl) (λ _. refl) tt)

  pub note_dismisses : (k : ℕ) (none : None ≡ None) → F.NoteActs c o (dismisses {c = k} none)
  note_dismisses k none f = F.noted c refl (F.off_stays c {w = Off Arrived} {t = Dismissed} f.knows (λ d. absurd (cc d)) (λ _. refl) (λ _. refl) tt)

  pub note_gives : (d v : ℕ) (none : None ≡ None) → F.NoteActs c o (gives {d = d} {v = v} none)
  note_gives d v none f = F.noted c refl (F.off_stays c {w = Off Finished} {t = Idle} f.knows (λ d. absurd (cc d)) (λ _. refl) (λ _. refl) tt)

  pub note_goes : (to : ℕ) (none : None ≡ None) → F.NoteActs c o (goes {to = to} none)
  note_goes to none f = F.noted c refl (F.off_stays c {w = Off Finished} {t = Idle} f.knows (λ d. absurd (cc d)) (λ _. refl) (λ _. refl) tt)

  pub note_moves : (none : None ≡ None) → F.NoteActs c o (moves none)
  note_moves none f = F.noted c refl (F.off_stays c {w = Off Finished} {t = Idle} f.knows (λ d. absurd (cc d)) (λ _. refl) (λ _. refl) tt)

  pub note_passes : (none : None ≡ None) → F.NoteActs c o (passes none)
  note_passes none f = F.noted c refl (F.off_stays c {w = Off Admitted} {t = Passing} f.knows (λ d. absurd (cc d)) (λ _. refl) (λ _. refl) tt)

  pub note_quits : (none : None ≡ None) → F.NoteActs c o (quits none)
  note_quits none f = F.noted c refl (F.off_stays c {w = Off Dismissed} {t = Quitting} f.knows (λ d. absurd (cc d)) (λ _. refl) (λ _. refl) tt)

  pub note_counts : {w : Work} (i : Note) (e : IsPlain None i) → F.NoteActs c o (counts {w = w} {n = i} e)
  note_counts {w} i e f = F.noted c {w = w} {o = o} {o' = own_after o i} {ws' = c.ws} {es = []} (ap (λ z. slice_index_or z c.g false) (sym (plain_dirty o i e))) (record { runs = tt; match = c.match; knows = f.knows })
