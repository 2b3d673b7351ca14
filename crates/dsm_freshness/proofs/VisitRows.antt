-- Rows of a visit, of the closing work, and of releases on no page.
use Rattle.std.proofs.Common.{◌≡◌, ◌≢◌, ◌⊎◌, inl, inr, ℕ, suc, ◌+◌, ◌*◌, ◌<◌, ◌≤◌, ◌==◌, Bool, true, false, List, [], ◌∷◌, Option, None, Some, refl, sym, ap, ◌∙◌, subst, arith, if◌then◌else◌}
use Rattle.std.specs.Prelude.{not, IfSome}
use Rattle.std.proofs.lemmas.Bool.{cases_eq, eq-eqb, eqb-true}
use Rattle.dsm_entry.specs.declared.entry.Obj.{Obj}
use Rattle.dsm_words.specs.declared.item.Item.{Item}
use Rattle.dsm_words.specs.declared.item.Item.TheVariants.{Dir, Turn}
use Rattle.dsm_words.specs.Script.{Act, Get, Put, item_of}
use Rattle.dsm_words.specs.Words.{done}
use Rattle.dsm_clock.specs.declared.turns.TurnId.TheVariants.{Page}
use Rattle.dsm_directory.specs.Directory.{is_busy}
use Rattle.dsm_protocol.specs.Own.{Own, node_of}
use Rattle.dsm_protocol.specs.Jobs.{Note}
use Rattle.dsm_protocol.specs.Stages.{Cause, Fault, Closing, Stage, Visiting, Looking, Ending, Broken, Parted, Round, Closes, Holder, Work, Off, On, Gone, stage_turn, round_turn, held_alone}
use Rattle.dsm_protocol.specs.Rows.{IsPlain, is_close, looks, reads_map, marks, saves, saves_twin, saves_home, twins_broken, breaks, departs, draws_release, collects, seeks_holder, stops, visits, closes, waits, tells, finished, ends, forsaken, despairs, marked, closing, unclosing, unheld, closed, cleans, joins, signals, admits, arrives, dismisses, gives, goes, moves, broken, broadcast, counts}
use Rattle.dsm_owners.specs.Stages as O
use Rattle.dsm_owners.specs.Laws.{IsBare}
use Rattle.dsm_owners.proofs.Every.{Facts, facts_of}
use Rattle.dsm_ties.specs.Views.{why}
use Rattle.dsm_fresh.specs.Stages as S
use Rattle.dsm_fresh.specs.Stages.{is_open, is_entering, is_worker}
use Rattle.dsm_fresh.specs.Pages.{Event, Share, Break, happens}
use Rattle.dsm_fresh.specs.Premises.{IsUnfetched}
use Rattle.dsm_freshness.specs.Views.{work_view, acquire_view, has_served, stamp_read, is_unseen}
use Rattle.dsm_freshness.specs.Events.{only}
use Rattle.dsm_freshness.specs.Tied.{Match}
use Rattle.dsm_freshness.proofs.Words.{Scene, node, first, IsPart, is_fetching, match_one, match_none, says_same, loaded, untouched, stage_kept}
use Rattle.dsm_freshness.proofs.Frame as F

-- who fetches, and who enters, is at work
pub open_by : (w : S.Work) → is_open w ≡ true → (q : ℕ) × (is_worker q w ≡ true)
open_by (S.Open q a t e) d = (q, eq-eqb q q refl)
open_by (S.Copied q a t e) d = (q, eq-eqb q q refl)
open_by w d = absurd (cc d)

pub enters_by : (w : S.Work) → is_entering w ≡ true → (q : ℕ) × (is_worker q w ≡ true)
enters_by (S.Open q a t e) d = (q, eq-eqb q q refl)
enters_by (S.Copied q a t e) d = (q, eq-eqb q q refl)
enters_by (S.Entered q) d = (q, eq-eqb q q refl)
enters_by w d = absurd (cc d)

fetch_case : (z : O.Stage) → is_fetching z ≡ true → (O.is_using z ≡ true) ⊎ (O.is_entering z ≡ true)
fetch_case (O.Opened write) e = inl refl
fetch_case O.Copying e = inr refl
fetch_case z e = absurd (cc e)

at_holder : (m n g : ℕ) (r : Round) (h : ℕ) (s : Stage) → F.IsHolder r → acquire_view m n g (On r h s) ≡ S.Before
at_holder m n g (Holder k j) h s i = refl
at_holder m n g r h s i = absurd i

module _ (c : Scene) where
  pub all : Facts c.u.lay.nodes (node c) c.b
  all = facts_of c.u.lay.nodes (node c) c.b c.holds

  pub none_read : (z : Option ℕ) → z ≡ None → IfSome z (λ y. c.f.page.update ≡ y)
  none_read None e = tt
  none_read (Some y) e = absurd (cc e)

  module _ {r : Round} {h : ℕ} {s t : Stage} where
    -- between stages that say the same
    pub calm : F.Now c (On r h s) → stage_turn c.u h t ≡ stage_turn c.u h s → ((k : ℕ) → work_view c.u.p k t ≡ work_view c.u.p k s) → is_unseen t ≡ is_unseen s → has_served c.m c.n c.g c.u (On r h t) ≡ false → stamp_read t ≡ None → F.Now c (On r h t)
    calm k tu wo un se st = F.quiet_on c {r = r} {h = h} {s = s} {t = t} k tu wo un (λ d. absurd (cc (sym se ∙ d))) (λ _ _. none_read (stamp_read t) st)

    -- with no operation, with a load, and with a word that is none of the copy's
    pub stays : F.Now c (On r h s) → stage_turn c.u h t ≡ stage_turn c.u h s → ((k : ℕ) → work_view c.u.p k t ≡ work_view c.u.p k s) → is_unseen t ≡ is_unseen s → has_served c.m c.n c.g c.u (On r h t) ≡ false → stamp_read t ≡ None → F.Acted c (On r h t) c.ws []
    stays k tu wo un se st = record { runs = tt; match = c.match; knows = calm k tu wo un se st }

    pub loads : {o : Own} {it : Item} {x : ℕ} → F.Meets c (On r h s) o (Get it) x → stage_turn c.u h t ≡ stage_turn c.u h s → ((k : ℕ) → work_view c.u.p k t ≡ work_view c.u.p k s) → is_unseen t ≡ is_unseen s → has_served c.m c.n c.g c.u (On r h t) ≡ false → stamp_read t ≡ None → F.Acted c (On r h t) (done c.u.lay c.ws (Get it)) []
    loads {it = it} f tu wo un se st = record { runs = tt; match = loaded c it f.within; knows = calm f.here.knows tu wo un se st }

    pub stores : {o : Own} {a : Act} {x : ℕ} → F.Meets c (On r h s) o a x → (IsPart c (item_of a) → ⊥) → stage_turn c.u h t ≡ stage_turn c.u h s → ((k : ℕ) → work_view c.u.p k t ≡ work_view c.u.p k s) → is_unseen t ≡ is_unseen s → has_served c.m c.n c.g c.u (On r h t) ≡ false → stamp_read t ≡ None → F.Acted c (On r h t) (done c.u.lay c.ws a) []
    stores {a = a} f off tu wo un se st = record { runs = tt; match = untouched c a f.within off; knows = calm f.here.knows tu wo un se st }

  -- one of two stages
  pub pick : {r : Round} {h : ℕ} {s t : Stage} {ws' : List ℕ} {es : List Event} (d : Bool) → F.Acted c (On r h s) ws' es → F.Acted c (On r h t) ws' es → F.Acted c (On r h (if d then s else t)) ws' es
  pick true y z = y
  pick false y z = z

  pub pick_now : {r : Round} {h : ℕ} {s t : Stage} (d : Bool) → F.Now c (On r h s) → F.Now c (On r h t) → F.Now c (On r h (if d then s else t))
  pick_now true y z = y
  pick_now false y z = z

  pick_off : {r t : Round} {ws' : List ℕ} {es : List Event} (d : Bool) → F.Acted c (Off r) ws' es → F.Acted c (Off t) ws' es → F.Acted c (Off (if d then r else t)) ws' es
  pick_off true y z = y
  pick_off false y z = z

  -- a turn is given back where nobody works on its copy
  pub gives_back : {r : Round} {h : ℕ} {s : Stage} {o : Own} {x : ℕ} (j : ℕ) → F.Meets c (On r h s) o (Put (Turn j h) 0) x → stage_turn c.u h s ≡ Some (Page j h) → ((k : ℕ) → work_view c.u.p k s ≡ S.Idle) → Match c.m c.n c.g c.u (done c.u.lay c.ws (Put (Turn j h) 0)) c.f
  gives_back {r} {h} {s} j f tu idle = says_same c (Put (Turn j h) 0) f.within (λ i q w. absurd (busy q (idle_at i.0 i.1) w))
    where
      either : (d : Bool) (z : S.Work) → z ≡ S.Idle → (if d then z else S.Idle) ≡ S.Idle
      either true z e = e
      either false z e = refl

      idle_at : j ≡ c.n → h ≡ c.g → c.f.page.work ≡ S.Idle
      idle_at d e = let z = f.here.knows.works (tu ∙ ap Some (λ i. Page (d i) (e i))) in z.1 ∙ either (F.IsMine c h) (work_view c.u.p z.0 s) (idle z.0)

      busy : (q : ℕ) → c.f.page.work ≡ S.Idle → is_worker q c.f.page.work ≡ true → ⊥
      busy q e w = absurd (cc (sym (ap (is_worker q) e) ∙ w))

  -- it has ended
  gone : F.Now c Gone
  gone = record { works = λ d. absurd (cc d); stage = λ _ ne. absurd (ne refl); hand = λ _ d. absurd (cc d); stamp = λ _. tt; served = λ d. absurd (cc d) }

  -- with no turn, on no page
  off_page : {r t : Round} → F.Now c (Off r) → round_turn c.u t ≡ None → (node_of c.u ≡ c.n → acquire_view c.m c.n c.g (Off r) ≡ acquire_view c.m c.n c.g (Off t)) → F.Now c (Off t)
  off_page {r} {t} k tu ac = F.off_knows c {r = t} c.f (λ e. k.stage e (λ d. absurd (cc d)) ∙ ac e) (λ _ d. absurd (cc (sym tu ∙ d)))

  pub off_slip : {r t : Round} → F.Now c (Off r) → round_turn c.u t ≡ None → (node_of c.u ≡ c.n → acquire_view c.m c.n c.g (Off r) ≡ acquire_view c.m c.n c.g (Off t)) → F.Acted c (Off t) c.ws []
  off_slip {r} {t} k tu ac = record { runs = tt; match = c.match; knows = off_page {r = r} {t = t} k tu ac }

  module _ (o : Own) where
    -- a visit
    pub row_looks : {r : Round} {g j x : ℕ} {k : Cause} → F.RowActs c o (looks {r = r} {g = g} {j = j} {x = x} {c = k})
    row_looks {r} {g} {j} {x} {k} f = pick (x == 2) (alone k f) (loads {r = r} {h = g} {s = Looking k j} {t = Parted k j} f refl (λ k. refl) refl refl refl)
      where
        alone : (k : Cause) → F.Meets c (On r g (Looking k j)) o (Get (Dir j g)) x → F.Acted c (On r g (held_alone c.u k j)) (done c.u.lay c.ws (Get (Dir j g))) []
        alone (Fault write h busy) f = loads f refl (λ k. refl) refl refl refl
        alone Closing f = loads f refl (λ k. refl) refl refl refl

    pub row_reads_map : {r : Round} {g h j q x : ℕ} {k : Cause} → F.RowActs c o (reads_map {r = r} {g = g} {h = h} {j = j} {q = q} {x = x} {c = k})
    row_reads_map {x = x} f = pick (x == 2) (loads f refl (λ k. refl) refl refl refl) (loads f refl (λ k. refl) refl refl refl)

    pub row_marks : {r : Round} {g h j q x : ℕ} {k : Cause} (lo : j * c.u.lay.procs ≤ q) (hi : q < j * c.u.lay.procs + c.u.lay.procs) → F.RowActs c o (marks {r = r} {g = g} {h = h} {j = j} {q = q} {x = x} {c = k} lo hi)
    row_marks lo hi f = stores f (λ e. e) refl (λ k. refl) refl refl refl

    pub row_saves : {r : Round} {g h j i x : ℕ} {k : Cause} → F.RowActs c o (saves {r = r} {g = g} {h = h} {j = j} {i = i} {x = x} {c = k})
    row_saves f = loads f refl (λ k. refl) refl refl refl

    pub row_saves_twin : {r : Round} {g h j i v x : ℕ} {k : Cause} → F.RowActs c o (saves_twin {r = r} {g = g} {h = h} {j = j} {i = i} {v = v} {x = x} {c = k})
    row_saves_twin f = stores f (λ e. e) refl (λ k. refl) refl refl refl

    pub row_saves_home : {r : Round} {g h j i v x : ℕ} {k : Cause} → F.RowActs c o (saves_home {r = r} {g = g} {h = h} {j = j} {i = i} {v = v} {x = x} {c = k})
    row_saves_home f = stores f (λ e. e) refl (λ k. refl) refl refl refl

    pub row_twins_broken : {r : Round} {g h j x : ℕ} {k : Cause} (e : (j == h) ≡ false) → F.RowActs c o (twins_broken {r = r} {g = g} {h = h} {j = j} {x = x} {c = k} e)
    row_twins_broken e f = stores f (λ e. e) refl (λ k. refl) refl refl refl

    pub row_breaks : {r : Round} {g j x : ℕ} {k : Cause} → F.RowActs c o (breaks {r = r} {g = g} {j = j} {x = x} {c = k})
    row_breaks {r} {g} {j} {x} {k} f = nest (g == c.g) (j == c.n) (j == c.m) (λ a b. shared (eqb-true g c.g a) (eqb-true j c.n b)) (λ a b. sends (eqb-true g c.g a) (eqb-true j c.m b))
        (λ off. stores f (λ i. off (eq-eqb g c.g i.1) (eq-eqb j c.n i.0)) refl (λ k. refl) refl refl refl)
      where
        nest : {v : Work} {ws' : List ℕ} {e d : Event} (a b z : Bool) → (a ≡ true → b ≡ true → F.Acted c v ws' (e ∷ [])) → (a ≡ true → z ≡ true → F.Acted c v ws' (d ∷ [])) → ((a ≡ true → b ≡ true → ⊥) → F.Acted c v ws' []) → F.Acted c v ws' (if a then (if b then e ∷ [] else only z d) else [])
        nest true true z y1 y2 y3 = y1 refl refl
        nest true false true y1 y2 y3 = y2 refl refl
        nest true false false y1 y2 y3 = y3 (λ _ d. absurd (cc d))
        nest false b z y1 y2 y3 = y3 (λ d _. absurd (cc d))

        next : F.Now c (On r g (Broken k j))
        next = calm {r = r} {h = g} {s = Ending k j} {t = Broken k j} f.here.knows refl (λ k. refl) refl refl refl

        ends_at : g ≡ c.g → (c.b.processors c.u.p).stage ≡ O.Ending (why k) j
        ends_at d = F.stage_is c {r = r} {h = g} {s = Ending k j} {o = o} f.here.owns d

        sole : g ≡ c.g → (c.b.nodes j).dir ≡ 2
        sole d = all.breaker c.u.p (why k) j (inr (ends_at d))

        shared : g ≡ c.g → j ≡ c.n → F.Acted c (On r g (Broken k j)) (done c.u.lay c.ws (Put (Dir j g) 1)) (Share ∷ [])
        shared d e =
            record {
              runs = ((λ z. let two = ap (λ i. (c.b.nodes i).dir) (sym e) ∙ sole d in absurd (omega (arith, z, F.dir_same c, two))), tt);
              match = match_one c Share c.match.worker c.match.drainer (Put (Dir j g) 1) f.within (e, d) refl tt refl;
              knows = F.knows_kept c (happens (first c) c.f Share) refl (stage_kept (first c) c.f Share refl c.u.p) refl refl (λ d. d) next;
            }

        bare : g ≡ c.g → j ≡ c.m → IsBare (node c) c.b c.n
        bare d e = all.breaking c.u.p c.n (why k) j (ends_at d) c.n_in (λ i. c.apart (sym e ∙ sym i))

        none_open : g ≡ c.g → j ≡ c.m → is_open c.f.page.work ≡ true → ⊥
        none_open d e is = each (fetch_case (c.b.processors q).stage ((c.others q other w).fetching is))
          where
            q : ℕ
            q = (open_by c.f.page.work is).0

            w : is_worker q c.f.page.work ≡ true
            w = (open_by c.f.page.work is).1

            at_n : node c q ≡ c.n
            at_n = (c.match.worker q w).1

            other : q ≢ c.u.p
            other i = let z = (all.turns c.n c.u.p).0 (sym (c.owned.turn c.n c.n_in) ∙ (c.match.worker q w).0 ∙ ap suc i) in let y = ap (O.held (node_of c.u)) (ends_at d) in c.apart (sym e ∙ suc_is (sym y ∙ z))
              where
                suc_is : {a b : ℕ} → suc a ≡ suc b → a ≡ b
                suc_is i = omega (arith, i)

            each : (O.is_using (c.b.processors q).stage ≡ true) ⊎ (O.is_entering (c.b.processors q).stage ≡ true) → ⊥
            each (inl i) = (all.users q j (subst (λ z. z < c.u.lay.nodes) (sym at_n) c.n_in) (λ z. c.apart (sym e ∙ z ∙ at_n)) i).not_sole (sole d)
            each (inr i) = let one = (all.entering q j f.within.0 (λ z. c.apart (sym e ∙ z ∙ at_n)) i).not_sole in let two = sole d in absurd (omega (arith, one, two))

        unfetched : g ≡ c.g → j ≡ c.m → IsUnfetched c.f.page
        unfetched d e = (F.not_true (none_open d e), go (cases_eq c.f.page.dir 0))
          where
            zero : (z : Bool) → (c.f.page.update == 0) ≡ z → not z ≡ false → c.f.page.update ≡ 0
            zero true i j = eqb-true c.f.page.update 0 i
            zero false i j = absurd (cc j)

            go : (c.f.page.dir ≡ 0) ⊎ (c.f.page.dir ≢ 0) → (c.f.page.dir ≡ 0) ⊎ (c.f.page.update ≡ 0)
            go (inl i) = inl i
            go (inr ne) = inr (zero (c.f.page.update == 0) refl (F.update_same c ∙ (bare d e).no_copy c.away (λ z. ne (F.dir_same c ∙ z))))

        sends : g ≡ c.g → j ≡ c.m → F.Acted c (On r g (Broken k j)) (done c.u.lay c.ws (Put (Dir j g) 1)) (Break ∷ [])
        sends d e =
            record {
              runs = (unfetched d e, tt);
              match = match_none c Break c.match.worker c.match.drainer (Put (Dir j g) 1) f.within refl (λ i. absurd (c.apart (sym e ∙ i.0)));
              knows = F.knows_kept c (happens (first c) c.f Break) refl (stage_kept (first c) c.f Break refl c.u.p) refl refl (λ d. d) next;
            }

    pub row_departs : {r : Round} {g j x : ℕ} {k : Cause} → F.RowActs c o (departs {r = r} {g = g} {j = j} {x = x} {c = k})
    row_departs {r} {g} {j} {x} {k = Fault write h busy} f =
        record {
          runs = tt;
          match = gives_back j f refl (λ k. refl);
          knows = record { works = λ d. absurd (cc d); stage = λ e _. f.here.knows.stage e (λ d. absurd (cc d)) ∙ F.acquire_same c.m c.n c.g r g (Parted (Fault write h busy) j) (Visiting write h busy (j + 1)) refl; hand = λ _ d. absurd (cc d); stamp = λ _ _. tt; served = λ d. absurd (cc d) };
        }
    row_departs {r} {g} {j} {x} {k = Closing} f =
        record {
          runs = tt;
          match = gives_back j f refl (λ k. refl);
          knows = F.off_knows c {r = Closes (g + 1) 0} c.f (λ e. f.here.knows.stage e (λ d. absurd (cc d)) ∙ at_holder c.m c.n c.g r g (Parted Closing j) f.here.fits) (λ _ d. absurd (cc d));
        }

    pub slip_marked : {r : Round} {g h j : ℕ} {k : Cause} → F.SlipActs c o (marked {r = r} {g = g} {h = h} {j = j} {c = k})
    slip_marked {h = h} {j = j} own f = pick (j == h) (stays f.knows refl (λ k. refl) refl refl refl) (stays f.knows refl (λ k. refl) refl refl refl)

    pub win_visits : {r : Round} {g h busy i : ℕ} {write : Bool} (j : ℕ) (lo : i ≤ j) (is : is_busy busy j ≡ true) (none : (k : ℕ) → i ≤ k → k < j → is_busy busy k ≡ false) → F.WinActs c o (visits {r = r} {g = g} {h = h} {busy = busy} {i = i} {write = write} j lo is none)
    win_visits {r} {g} {h} {busy} {i} {write} j lo is none f = F.win_on c j f refl (λ k. refl) (λ _. F.acquire_same c.m c.n c.g r g (Visiting write h busy i) (Looking (Fault write h busy) j) refl) refl refl (λ d. absurd (cc d))

    pub win_closes : {g j : ℕ} → F.WinActs c o (closes {g = g} {j = j})
    win_closes {g} {j} f = F.win_on c j f refl (λ k. refl) (λ _. refl) refl refl (λ d. absurd (cc d))

    pub note_broken : {r : Round} {g j : ℕ} {k : Cause} → F.NoteActs c o (broken {r = r} {g = g} {j = j} {c = k})
    note_broken f = stays f.knows refl (λ k. refl) refl refl refl

    pub note_broadcast : {r : Round} {g j : ℕ} {k : Cause} → F.NoteActs c o (broadcast {r = r} {g = g} {j = j} {c = k})
    note_broadcast f = stays f.knows refl (λ k. refl) refl refl refl

    -- on no page
    pub row_draws_release : {x : ℕ} → F.RowActs c o (draws_release {x = x})
    row_draws_release f = F.any_clock c f (off_page f.here.knows refl (λ _. refl))

    pub row_collects : {t0 k x : ℕ} {set : List ℕ} → F.RowActs c o (collects {t0 = t0} {k = k} {x = x} {set = set})
    row_collects f = record { runs = tt; match = untouched c _ f.within (λ e. e); knows = off_page f.here.knows refl (λ _. refl) }

    pub row_seeks_holder : {g j x : ℕ} → F.RowActs c o (seeks_holder {g = g} {j = j} {x = x})
    row_seeks_holder {g} {j} {x} f = pick_off (x == 2) (record { runs = tt; match = loaded c (Dir j g) f.within; knows = off_page f.here.knows refl (λ _. refl) }) (record { runs = tt; match = loaded c (Dir j g) f.within; knows = off_page f.here.knows refl (λ _. refl) })

    pub row_stops : {x : ℕ} → F.RowActs c o (stops {x = x})
    row_stops f = record { runs = tt; match = untouched c _ f.within (λ e. e); knows = gone }

    pub slip_waits : F.SlipActs c o waits
    slip_waits own f = off_slip f.knows refl (λ _. refl)

    pub slip_tells : F.SlipActs c o tells
    slip_tells own f = off_slip f.knows refl (λ _. refl)

    pub slip_finished : F.SlipActs c o finished
    slip_finished own f = off_slip f.knows refl (λ _. refl)

    pub slip_ends : F.SlipActs c o ends
    slip_ends own f = record { runs = tt; match = c.match; knows = gone }

    pub slip_despairs : F.SlipActs c o despairs
    slip_despairs own f = off_slip f.knows refl (λ _. refl)

    pub slip_forsaken : F.SlipActs c o forsaken
    slip_forsaken own f = record { runs = tt; match = c.match; knows = gone }

    pub slip_closing : (e : (c.u.p == 0) ≡ true) → F.SlipActs c o (closing e)
    slip_closing e own f = off_slip f.knows refl (λ _. refl)

    pub slip_unclosing : (e : (c.u.p == 0) ≡ false) → F.SlipActs c o (unclosing e)
    slip_unclosing e own f = off_slip f.knows refl (λ _. refl)

    pub slip_unheld : {g : ℕ} → F.SlipActs c o (unheld {g = g})
    slip_unheld own f = off_slip f.knows refl (λ _. refl)

    pub slip_closed : F.SlipActs c o closed
    slip_closed own f = off_slip f.knows refl (λ _. refl)

    pub note_cleans : {t0 g : ℕ} → F.NoteActs c o (cleans {t0 = t0} {g = g})
    note_cleans f = off_slip f.knows refl (λ _. refl)

    pub note_joins : {t0 : ℕ} {set : List ℕ} → F.NoteActs c o (joins {t0 = t0} {set = set})
    note_joins f = off_slip f.knows refl (λ _. refl)

    pub note_signals : {t0 : ℕ} (of : Obj) (j : ℕ) (none : None ≡ None) (other : is_close of ≡ false) → F.NoteActs c o (signals {t0 = t0} {of = of} {j = j} none other)
    note_signals of j none other f = off_slip f.knows refl (λ _. refl)

    pub note_admits : (of : Obj) (k : ℕ) (none : None ≡ None) (other : is_close of ≡ false) → F.NoteActs c o (admits {of = of} {c = k} none other)
    note_admits of k none other f = off_slip f.knows refl (λ _. refl)

    pub note_arrives : {t0 : ℕ} (j : ℕ) (none : None ≡ None) → F.NoteActs c o (arrives {t0 = t0} {j = j} none)
    note_arrives j none f = off_slip f.knows refl (λ _. refl)

    pub note_dismisses : (k : ℕ) (none : None ≡ None) → F.NoteActs c o (dismisses {c = k} none)
    note_dismisses k none f = off_slip f.knows refl (λ _. refl)

    pub note_gives : (d v : ℕ) (none : None ≡ None) → F.NoteActs c o (gives {d = d} {v = v} none)
    note_gives d v none f = off_slip f.knows refl (λ _. refl)

    pub note_goes : (to : ℕ) (none : None ≡ None) → F.NoteActs c o (goes {to = to} none)
    note_goes to none f = off_slip f.knows refl (λ _. refl)

    pub note_moves : (none : None ≡ None) → F.NoteActs c o (moves none)
    note_moves none f = off_slip f.knows refl (λ _. refl)

    pub note_counts : {w : Work} (i : Note) (e : IsPlain None i) → F.NoteActs c o (counts {w = w} {n = i} e)
    note_counts i e f = record { runs = tt; match = c.match; knows = f.knows }
