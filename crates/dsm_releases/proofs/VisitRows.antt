-- Rows of a visit to a node, and of the closing work, for what a node owes.
use Rattle.std.proofs.Common.{◌≡◌, ◌≢◌, ℕ, suc, ◌+◌, ◌*◌, ◌%◌, ◌<◌, ◌≤◌, ◌==◌, Bool, true, false, List, refl, sym, ap, ◌∙◌, subst, arith, if◌then◌else◌}
use Rattle.std.specs.Prelude.{◌&&◌, bit_or}
use Rattle.std.proofs.lemmas.Bool.{eq-eqb, ne_eqb, eqb-true}
use Rattle.dsm_words.specs.declared.item.Item.TheVariants.{Frame, Twin, Twined, Dir, Turn, Nle, Stop}
use Rattle.dsm_words.specs.Pages.{group_of, bit_of}
use Rattle.dsm_words.specs.Script.{Get, Put, Or, Change}
use Rattle.dsm_words.specs.Words.{word, done}
use Rattle.dsm_protocol.specs.Own.{Own}
use Rattle.dsm_protocol.specs.Stages.{Cause, Fault, Closing, For_closing, Whole, Got, Half, Stage, Seeking, Visiting, Looking, Breaking, Marking, Saving, Ending, Broken, Broadcast, Parted, Round, Quitting, Closed, Closes, Holder, Off, On, held_alone}
use Rattle.dsm_protocol.specs.Rows.{looks, marks, saves_twin, saves_home, twins_broken, departs, seeks_holder, stops, closes, closing, unclosing, unheld, closed, broken, broadcast}
use Rattle.dsm_ties.specs.Tied.{has_bit}
use Rattle.dsm_ties.proofs.AcquireRows.{in_node}
use Rattle.dsm_debts.specs.Page as D
use Rattle.dsm_debts.specs.Page.{Event, Break, Mark, Refresh, Send, Raise, with_part, index, looked}
use Rattle.dsm_debts.specs.Premises.{IsPart as IsPartOf, IsRefreshing}
use Rattle.dsm_freshness.proofs.Frame.{IsHolder}
use Rattle.dsm_freshness.proofs.NoticeRows.{or_same, or_other}
use Rattle.dsm_releases.specs.Views.{release_view}
use Rattle.dsm_releases.specs.Events.{only}
use Rattle.dsm_releases.proofs.Words.{Scene, node, home, match_one, match_get, match_aside, says, says_same, untouched, loaded}
use Rattle.dsm_releases.proofs.Models.{part_at, part_past, part_same, part_next}
use Rattle.dsm_releases.proofs.Frame as F

-- in the closing work no release is under way
holder_runs : (g : ℕ) (r : Round) (k : ℕ) (s : Stage) → IsHolder r → release_view g (On r k s) ≡ D.Running
holder_runs g (Holder h j) k s i = refl
holder_runs g r k s i = absurd i

-- one of two rounds
pick_off : (c : Scene) (o : Own) {r t : Round} {ws' : List ℕ} {es : List Event} (d : Bool) → F.Acted c (Off r) o ws' es → F.Acted c (Off t) o ws' es → F.Acted c (Off (if d then r else t)) o ws' es
pick_off c o true y z = y
pick_off c o false y z = z

module _ (c : Scene) where
  module _ (o : Own) where
    -- the word of the node that is visited: where it is exclusive, a break begins
    pub row_looks : {r : Round} {g j x : ℕ} {k : Cause} → F.RowActs c o (looks {r = r} {g = g} {j = j} {x = x} {c = k})
    row_looks {r} {g} {j} {x} {k} f = go (x == 2) refl
      where
        sole : (x == 2) ≡ true → g ≡ c.g → j ≡ c.n → c.f.page.sole ≡ true
        sole two d e = (says c (Dir j g) f.within (e, d)).0 (sym f.told ∙ eqb-true x 2 two)

        alone : (k : Cause) → F.Meets c (On r g (Looking k j)) o (Get (Dir j g)) x → (x == 2) ≡ true → F.Acted c (On r g (held_alone c.u k j)) o (done c.u.lay c.ws (Get (Dir j g))) (only (F.IsAt c g j && true) Break)
        alone (Fault write h busy) f two = F.turn_row c {r = r} {k = g} {s = Looking (Fault write h busy) j} {t = Breaking (Fault write h busy) h j (j * c.u.lay.procs)} j true Break f refl refl refl refl refl (λ _. loaded c (Dir j g) f.within) (λ d e other w. absurd (cc other))
            (λ d e _ w. record {
              may = (w, sole two d e);
              works = ap (λ z. D.Marking (z * c.u.lay.procs)) (sym e);
              match = match_get c Break (F.held c j f refl d e (F.behind c Break)) (Dir j g) f.within refl;
            })
        alone Closing f two = F.turn_row c {r = r} {k = g} {s = Looking Closing j} {t = Seeking (For_closing j)} j true Break f refl refl refl refl refl (λ _. loaded c (Dir j g) f.within) (λ d e other w. absurd (cc other))
            (λ d e _ w. record {
              may = (w, sole two d e);
              works = refl;
              match = match_get c Break (F.held c j f refl d e (F.behind c Break)) (Dir j g) f.within refl;
            })

        go : (b : Bool) → (x == 2) ≡ b → F.Acted c (On r g (if b then held_alone c.u k j else Parted k j)) o (done c.u.lay c.ws (Get (Dir j g))) (only (F.IsAt c g j && b) Break)
        go true two = alone k f two
        go false other = F.turn_row c {r = r} {k = g} {s = Looking k j} {t = Parted k j} j false Break f refl refl refl refl refl (λ _. loaded c (Dir j g) f.within) (λ d e _ w. w) (λ d e yes w. absurd (cc yes))

    -- a processor of the node gets its bit; the bits of other pages of the group stay
    pub row_marks : {r : Round} {g h j q x : ℕ} {k : Cause} (lo : j * c.u.lay.procs ≤ q) (hi : q < j * c.u.lay.procs + c.u.lay.procs) → F.RowActs c o (marks {r = r} {g = g} {h = h} {j = j} {q = q} {x = x} {c = k} lo hi)
    row_marks {r} {g} {h} {j} {q} {x} {k} lo hi f = F.event_row c {r = r} {k = g} {s = Marking k h j q} {t = Breaking k h j (q + 1)} j Mark f refl refl refl refl refl
        (λ off. says_same c (Or (Nle q (group_of g)) (bit_of g)) f.within (λ i. or_other (word c.u.lay c.ws (Nle q (group_of g))) (g % 64) (c.g % 64) (apart i.1 (λ d. off d (sym at ∙ i.0))) ∙ says c (Nle q (group_of g)) f.within i))
        (λ d e w. record {
          may = (q, w);
          works = ap looked w ∙ ap D.Marking (let z : suc q ≡ q + 1 = omega arith in z);
          match = match_one c Mark (F.held c j f refl d e (F.behind c Mark)) (Or (Nle q (group_of g)) (bit_of g)) f.within (at ∙ e, ap group_of d) refl (sym (ap index w))
              (ap (λ z. has_bit c.g (bit_or (word c.u.lay c.ws (Nle q (group_of g))) (bit_of z))) d ∙ or_same (word c.u.lay c.ws (Nle q (group_of g))) (c.g % 64) ∙ sym (rw (eq-eqb q (index c.f.page.work) (sym (ap index w))) refl));
        })
      where
        at : node c q ≡ j
        at = in_node c.u.lay.procs j q lo hi

        apart : group_of g ≡ group_of c.g → g ≢ c.g → c.g % 64 ≢ g % 64
        apart e ne d = ne (omega (arith, e, d))

    -- the next parts of a copying: the twin's word, and the home's
    pub row_saves_twin : {r : Round} {g h j i v x : ℕ} {k : Cause} → F.RowActs c o (saves_twin {r = r} {g = g} {h = h} {j = j} {i = i} {v = v} {x = x} {c = k})
    row_saves_twin {r} {g} {h} {j} {i} {v} {x} {k} f = F.turn_row c {r = r} {k = g} {s = Saving k h j i (Got v)} {t = Saving k h j i (Half v)} j (i == c.i) Refresh f refl refl refl refl refl (λ _. untouched c (Put (Twin j g i) v) f.within (λ z. z))
        (λ d e other w. w ∙ ap D.Copying (part_same c.i i D.Loaded D.Sending (λ z. absurd (cc (sym (eq-eqb i c.i z) ∙ other)))))
        (λ d e yes w. let at = eqb-true i c.i yes in record {
          may = subst (λ z. IsRefreshing z) (sym w) (part_at c.i i D.Loaded at);
          works = ap (with_part D.Sending) w ∙ ap D.Copying (sym (part_at c.i i D.Sending at));
          match = match_aside c Refresh (F.held c j f refl d e (F.behind c Refresh)) (Put (Twin j g i) v) f.within refl (λ z. z);
        })

    pub row_saves_home : {r : Round} {g h j i v x : ℕ} {k : Cause} → F.RowActs c o (saves_home {r = r} {g = g} {h = h} {j = j} {i = i} {v = v} {x = x} {c = k})
    row_saves_home {r} {g} {h} {j} {i} {v} {x} {k} f = F.turn_row c {r = r} {k = g} {s = Saving k h j i (Half v)} {t = Saving k h j (i + 1) Whole} j (i == c.i) Send f refl refl refl refl refl (λ _. untouched c (Put (Frame h g i) v) f.within (λ z. z))
        (λ d e other w. w ∙ ap D.Copying (part_next c.i i D.Sending (λ z. absurd (cc (sym (eq-eqb i c.i z) ∙ other)))))
        (λ d e yes w. let at = eqb-true i c.i yes in record {
          may = subst (λ z. IsPartOf D.Sending z) (sym w) (part_at c.i i D.Sending at);
          works = ap (with_part D.After) w ∙ ap D.Copying (sym (part_past c.i (i + 1) D.Before (omega (arith, at))));
          match = match_aside c Send (F.held c j f refl d e (F.behind c Send)) (Put (Frame h g i) v) f.within refl (λ z. z);
        })

    -- the twin is up again behind the last word
    pub row_twins_broken : {r : Round} {g h j x : ℕ} {k : Cause} (e : (j == h) ≡ false) → F.RowActs c o (twins_broken {r = r} {g = g} {h = h} {j = j} {x = x} {c = k} e)
    row_twins_broken {r} {g} {h} {j} {x} {k} other f = F.event_row c {r = r} {k = g} {s = Saving k h j c.u.lay.words Whole} {t = Ending k j} j Raise f refl refl refl refl refl (λ off. untouched c (Put (Twined j g) 1) f.within (λ i. off i.1 i.0))
        (λ d e w. record {
          may = w ∙ ap D.Copying (part_past c.i c.u.lay.words D.Before c.i_in);
          works = ap (λ z. if z then D.Marking (c.n * c.u.lay.procs + c.u.lay.procs) else D.Copied) (sym (away d e));
          match = match_one c Raise (F.held c j f refl d e (F.behind c Raise)) (Put (Twined j g) 1) f.within (e, d) refl tt refl;
        })
      where
        away : g ≡ c.g → j ≡ c.n → home c ≡ false
        away d e = ne_eqb c.n c.h (λ z. absurd (cc (sym (eq-eqb j h (e ∙ z ∙ sym (F.home_found c h (f.here.owns.homes d)))) ∙ other)))

    -- the turn of the node is given back, where nobody works on its copy
    pub row_departs : {r : Round} {g j x : ℕ} {k : Cause} → F.RowActs c o (departs {r = r} {g = g} {j = j} {x = x} {c = k})
    row_departs {r} {g} {j} {x} {k = Fault write h busy} f = F.quiet_row c {r = r} {k = g} {s = Parted (Fault write h busy) j} {t = Visiting write h busy (j + 1)} f
        (says_same c (Put (Turn j g) 0) f.within (λ i _. F.works_here c {r = r} {k = g} {s = Parted (Fault write h busy) j} j f.here.knows refl i.1 i.0)) (λ e. absurd (cc e)) (λ _ _ w. w) refl
    row_departs {r} {g} {j} {x} {k = Closing} f = F.off_row c {w = On r g (Parted Closing j)} {t = Closes (g + 1) 0} f
        (says_same c (Put (Turn j g) 0) f.within (λ i _. F.works_here c {r = r} {k = g} {s = Parted Closing j} j f.here.knows refl i.1 i.0)) (λ z. absurd (cc z)) (λ _. holder_runs c.g r g (Parted Closing j) f.here.fits) (λ _. F.none_soiled (g == c.g) _) tt

    pub note_broken : {r : Round} {g j : ℕ} {k : Cause} → F.NoteActs c o (broken {r = r} {g = g} {j = j} {c = k})
    note_broken {r} {g} {j} {k} f = F.stays c {r = r} {k = g} {s = Broken k j} {t = Broadcast k j} f.knows (λ e. e) (λ _ _ w. w) refl

    pub note_broadcast : {r : Round} {g j : ℕ} {k : Cause} → F.NoteActs c o (broadcast {r = r} {g = g} {j = j} {c = k})
    note_broadcast {r} {g} {j} {k} f = F.stays c {r = r} {k = g} {s = Broadcast k j} {t = Parted k j} f.knows (λ e. e) (λ _ _ w. w) refl

    -- the closing work
    pub row_seeks_holder : {g j x : ℕ} → F.RowActs c o (seeks_holder {g = g} {j = j} {x = x})
    row_seeks_holder {g} {j} {x} f = pick_off c o (x == 2)
        (F.off_row c {w = Off (Closes g j)} {t = Holder g j} f (loaded c (Dir j g) f.within) (λ z. absurd (cc z)) (λ _. refl) (λ _. refl) tt)
        (F.off_row c {w = Off (Closes g j)} {t = Closes g (j + 1)} f (loaded c (Dir j g) f.within) (λ z. absurd (cc z)) (λ _. refl) (λ _. refl) tt)

    pub row_stops : {x : ℕ} → F.RowActs c o (stops {x = x})
    row_stops {x} f = record { runs = tt; match = untouched c (Change Stop 0 (c.u.p + 1)) f.within (λ i. i); knows = F.gone c c.f o }

    pub win_closes : {g j : ℕ} → F.WinActs c o (closes {g = g} {j = j})
    win_closes {g} {j} f = F.win_on c {r = Holder g j} {k = g} {s = Looking Closing j} {w = Off (Holder g j)} j f (λ d. absurd (cc d)) refl (λ d e w. w) (λ _. refl) (λ _. sym (F.none_soiled (g == c.g) _)) tt tt

    pub slip_closing : (e : (c.u.p == 0) ≡ true) → F.SlipActs c o (closing e)
    slip_closing e own f = F.off_stays c {w = Off Quitting} {t = Closes 0 0} f.knows (λ d. absurd (cc d)) (λ _. refl) (λ _. refl) tt

    pub slip_unclosing : (e : (c.u.p == 0) ≡ false) → F.SlipActs c o (unclosing e)
    slip_unclosing e own f = F.off_stays c {w = Off Quitting} {t = Closed} f.knows (λ d. absurd (cc d)) (λ _. refl) (λ _. refl) tt

    pub slip_unheld : {g : ℕ} → F.SlipActs c o (unheld {g = g})
    slip_unheld {g} own f = F.off_stays c {w = Off (Closes g c.u.lay.nodes)} {t = Closes (g + 1) 0} f.knows (λ d. absurd (cc d)) (λ _. refl) (λ _. refl) tt

    pub slip_closed : F.SlipActs c o closed
    slip_closed own f = F.off_stays c {w = Off (Closes c.u.lay.pages 0)} {t = Closed} f.knows (λ d. absurd (cc d)) (λ _. refl) (λ _. refl) tt
