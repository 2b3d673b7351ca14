-- Rows of an acquire, and of the notices that it drains, for what a node owes.
use Rattle.std.proofs.Common.{◌≡◌, ℕ, ◌+◌, ◌*◌, ◌%◌, ◌^◌, ◌<◌, ◌≤◌, ◌==◌, Bool, true, false, List, refl, sym, ◌∙◌, arith}
use Rattle.std.specs.Prelude.{◌&&◌, ◌||◌, not, nat_lt, slice_set, replicate}
use Rattle.std.specs.Int.{bit_at}
use Rattle.std.proofs.lemmas.Bool.{eq-eqb}
use Rattle.dsm_words.specs.declared.item.Item.TheVariants.{Map, Dir, Turn, NoticeTurn, Notice, Global, Own as OwnWord}
use Rattle.dsm_words.specs.Pages.{has_page, pages_in}
use Rattle.dsm_words.specs.Place.{groups}
use Rattle.dsm_words.specs.Script.{Put, Swap, Or, Change}
use Rattle.dsm_protocol.specs.Own.{Own, node_of}
use Rattle.dsm_protocol.specs.Stages.{Round, Passing, Finished, Draining, Hearing, Noticing, Flagging, Drained, Taking, Told, Mapped, Acquiring, Judging, Judged, Unmapping, Emptying, Emptied, Leaving, Over, Off, On}
use Rattle.dsm_protocol.specs.Rows.{map_at, sees_acquire, compares_own, judges_own, unmaps, empties, sees_bare, leaves, gives_over, drains, draws_notice, notices, flags, gives_notices, takes, hears, acquires, emptied, unheard, heard, flagged, next_node, drained, taken, passed_over, acquired}
use Rattle.dsm_debts.specs.Page.{Unmap}
use Rattle.dsm_releases.proofs.Words.{Scene, match_one, says_same, untouched}
use Rattle.dsm_releases.proofs.Frame as F

module _ (c : Scene) where
  module _ (o : Own) where
    -- the page of an acquire
    pub row_sees_acquire : {r : Round} {g x : ℕ} → F.RowActs c o (sees_acquire {r = r} {g = g} {x = x})
    row_sees_acquire {r} {g} {x} f = F.pick c (x == 2) (F.loads c {r = r} {k = g} {s = Acquiring} {t = Over} f (λ e. e) (λ _ _ w. w) refl) (F.loads c {r = r} {k = g} {s = Acquiring} {t = Judging} f (λ e. e) (λ _ _ w. w) refl)

    pub row_compares_own : {r : Round} {g x : ℕ} → F.RowActs c o (compares_own {r = r} {g = g} {x = x})
    row_compares_own {r} {g} {x} f = F.loads c {r = r} {k = g} {s = Judging} {t = Judged x} f (λ e. e) (λ _ _ w. w) refl

    pub row_judges_own : {r : Round} {g y x : ℕ} → F.RowActs c o (judges_own {r = r} {g = g} {y = y} {x = x})
    row_judges_own {r} {g} {y} {x} f = F.pick c (y == 0 || nat_lt y x) (F.loads c {r = r} {k = g} {s = Judged y} {t = Unmapping} f (λ e. e) (λ _ _ w. w) refl) (F.loads c {r = r} {k = g} {s = Judged y} {t = Over} f (λ e. e) (λ _ _ w. w) refl)

    -- its mapping is taken away
    pub row_unmaps : {r : Round} {g x : ℕ} → F.RowActs c o (unmaps {r = r} {g = g} {x = x})
    row_unmaps {r} {g} {x} f = F.event_row c {r = r} {k = g} {s = Unmapping} {t = Mapped 0 (Emptying (node_of c.u * c.u.lay.procs) true)} (node_of c.u) (Unmap c.u.p) f refl refl refl refl refl (λ off. untouched c (Put (Map c.u.p g) 0) f.within (λ i. off i.1 i.0))
        (λ d e w. record {
          may = w;
          works = w;
          match = match_one c (Unmap c.u.p) (F.held c (node_of c.u) f refl d e (F.behind c (Unmap c.u.p))) (Put (Map c.u.p g) 0) f.within (e, d) refl refl (rw (eq-eqb c.u.p c.u.p refl) refl);
        })

    pub row_empties : {r : Round} {g q x : ℕ} {free : Bool} (lo : node_of c.u * c.u.lay.procs ≤ q) (hi : q < node_of c.u * c.u.lay.procs + c.u.lay.procs) → F.RowActs c o (empties {r = r} {g = g} {q = q} {x = x} {free = free} lo hi)
    row_empties {r} {g} {q} {x} {free} lo hi f = F.loads c {r = r} {k = g} {s = Emptying q free} {t = Emptying (q + 1) (free && x == 0)} f (λ e. e) (λ _ _ w. w) refl

    pub row_sees_bare : {r : Round} {g x : ℕ} → F.RowActs c o (sees_bare {r = r} {g = g} {x = x})
    row_sees_bare {r} {g} {x} f = F.pick c (x == 0) (F.loads c {r = r} {k = g} {s = Emptied} {t = Leaving} f (λ e. e) (λ _ _ w. w) refl) (F.loads c {r = r} {k = g} {s = Emptied} {t = Over} f (λ e. e) (λ _ _ w. w) refl)

    -- the node leaves the page, which it does not have alone
    pub row_leaves : {r : Round} {g x : ℕ} → F.RowActs c o (leaves {r = r} {g = g} {x = x})
    row_leaves {r} {g} {x} f = F.quiet_row c {r = r} {k = g} {s = Leaving} {t = Over} f
        (says_same c (Put (Dir (node_of c.u) g) 0) f.within (λ i. ((λ z. absurd (omega (arith, z))), λ z. absurd (cc (sym z ∙ shared i.1 i.0))))) (λ e. e) (λ _ _ w. w) refl
      where
        shared : g ≡ c.g → node_of c.u ≡ c.n → c.f.page.sole ≡ false
        shared d e = F.not_sole c (F.turn_says c {r = r} {k = g} {s = Leaving} {o = o} (node_of c.u) f.here.owns d e refl).0

    -- the turn is given back, where nobody works on the copy
    pub row_gives_over : {g x : ℕ} {set : List ℕ} → F.RowActs c o (gives_over {g = g} {x = x} {set = set})
    row_gives_over {g} {x} {set} f = F.off_row c {w = On (Told set g) g Over} {t = Told set (g + 1)} f
        (says_same c (Put (Turn (node_of c.u) g) 0) f.within (λ i _. F.works_here c {r = Told set g} {k = g} {s = Over} (node_of c.u) f.here.knows refl i.1 i.0)) (λ z. absurd (cc z)) (λ _. refl) (λ _. F.none_soiled (g == c.g) _) tt

    -- notices are drained
    pub row_drains : {j k x : ℕ} → F.RowActs c o (drains {j = j} {k = k} {x = x})
    row_drains {j} {k} {x} f = F.off_row c {w = Off (Draining j k)} {t = Hearing j k x 0} f (untouched c (Swap (Global (node_of c.u) j k) 0) f.within (λ i. i)) (λ z. absurd (cc z)) (λ _. refl) (λ _. refl) tt

    pub row_draws_notice : {j k bits b x : ℕ} (s : (bit_at bits b == 1) ≡ true) (j_in : j < c.u.lay.nodes) (page : 64 * k + b < c.u.lay.pages) → F.RowActs c o (draws_notice {j = j} {k = k} {bits = bits} {b = b} {x = x} s j_in page)
    row_draws_notice {j} {k} {bits} {b} {x} s j_in page f = F.any_clock c f (F.off_same c {w = Off (Hearing j k bits b)} {t = Noticing j k bits b x} f.here.knows (λ z. absurd (cc z)) (λ _. refl) (λ _. refl) tt)

    pub row_notices : {j k bits b t x : ℕ} → F.RowActs c o (notices {j = j} {k = k} {bits = bits} {b = b} {t = t} {x = x})
    row_notices {j} {k} {bits} {b} {t} {x} f = F.off_row c {w = Off (Noticing j k bits b t)} {t = Flagging j k bits b (node_of c.u * c.u.lay.procs)} f (untouched c (Put (Notice (node_of c.u) (64 * k + b)) t) f.within (λ i. i)) (λ z. absurd (cc z)) (λ _. refl) (λ _. refl) tt

    pub row_flags : {j k bits b q x : ℕ} (s : (bit_at bits b == 1) ≡ true) (lo : node_of c.u * c.u.lay.procs ≤ q) (hi : q < node_of c.u * c.u.lay.procs + c.u.lay.procs) → F.RowActs c o (flags {j = j} {k = k} {bits = bits} {b = b} {q = q} {x = x} s lo hi)
    row_flags {j} {k} {bits} {b} {q} {x} s lo hi f = F.off_row c {w = Off (Flagging j k bits b q)} {t = Flagging j k bits b (q + 1)} f (untouched c (Or (OwnWord q k) (2 ^ b)) f.within (λ i. i)) (λ z. absurd (cc z)) (λ _. refl) (λ _. refl) tt

    pub row_gives_notices : {x : ℕ} → F.RowActs c o (gives_notices {x = x})
    row_gives_notices {x} f = F.off_row c {w = Off Drained} {t = Taking 0 (replicate 4 0)} f (untouched c (Put (NoticeTurn (node_of c.u)) 0) f.within (λ i. i)) (λ z. absurd (cc z)) (λ _. refl) (λ _. refl) tt

    pub row_takes : {k x : ℕ} {set : List ℕ} → F.RowActs c o (takes {k = k} {x = x} {set = set})
    row_takes {k} {x} {set} f = F.off_row c {w = Off (Taking k set)} {t = Taking (k + 1) (slice_set set k (x % 2 ^ pages_in c.u.lay k))} f (untouched c (Swap (OwnWord c.u.p k) 0) f.within (λ i. i)) (λ z. absurd (cc z)) (λ _. refl) (λ _. refl) tt

    -- a turn is won
    pub win_hears : F.WinActs c o hears
    win_hears f = F.off_row c {w = Off Passing} {t = Draining 0 0} f (untouched c (Change (NoticeTurn (node_of c.u)) 0 (c.u.p + 1)) f.within (λ i. i)) (λ z. absurd (cc z)) (λ _. refl) (λ _. refl) tt

    pub win_acquires : {g : ℕ} {set : List ℕ} (e : (has_page set g && not (map_at c.u o.maps o.dirty g == 0)) ≡ true) → F.WinActs c o (acquires {g = g} {set = set} e)
    win_acquires {g} {set} e f = F.win_on c {r = Told set g} {k = g} {s = Acquiring} {w = Off (Told set g)} (node_of c.u) f (λ d. absurd (cc d)) refl (λ d e w. w) (λ _. refl) (λ _. sym (F.none_soiled (g == c.g) _)) tt tt

    -- decisions
    pub slip_emptied : {r : Round} {g : ℕ} {free : Bool} → F.SlipActs c o (emptied {r = r} {g = g} {free = free})
    slip_emptied {r} {g} {free} own f = F.pick c free (F.stays c {r = r} {k = g} {s = Emptying (node_of c.u * c.u.lay.procs + c.u.lay.procs) free} {t = Emptied} f.knows (λ e. e) (λ _ _ w. w) refl) (F.stays c {r = r} {k = g} {s = Emptying (node_of c.u * c.u.lay.procs + c.u.lay.procs) free} {t = Over} f.knows (λ e. e) (λ _ _ w. w) refl)

    pub slip_unheard : {j k bits b : ℕ} (e : (bit_at bits b == 1) ≡ false) → F.SlipActs c o (unheard {j = j} {k = k} {bits = bits} {b = b} e)
    slip_unheard {j} {k} {bits} {b} e own f = F.off_stays c {w = Off (Hearing j k bits b)} {t = Hearing j k bits (b + 1)} f.knows (λ d. absurd (cc d)) (λ _. refl) (λ _. refl) tt

    pub slip_heard : {j k bits : ℕ} → F.SlipActs c o (heard {j = j} {k = k} {bits = bits})
    slip_heard {j} {k} {bits} own f = F.off_stays c {w = Off (Hearing j k bits (pages_in c.u.lay k))} {t = Draining j (k + 1)} f.knows (λ d. absurd (cc d)) (λ _. refl) (λ _. refl) tt

    pub slip_flagged : {j k bits b : ℕ} → F.SlipActs c o (flagged {j = j} {k = k} {bits = bits} {b = b})
    slip_flagged {j} {k} {bits} {b} own f = F.off_stays c {w = Off (Flagging j k bits b (node_of c.u * c.u.lay.procs + c.u.lay.procs))} {t = Hearing j k bits (b + 1)} f.knows (λ d. absurd (cc d)) (λ _. refl) (λ _. refl) tt

    pub slip_next_node : {j : ℕ} → F.SlipActs c o (next_node {j = j})
    slip_next_node {j} own f = F.off_stays c {w = Off (Draining j (groups c.u.lay))} {t = Draining (j + 1) 0} f.knows (λ d. absurd (cc d)) (λ _. refl) (λ _. refl) tt

    pub slip_drained : F.SlipActs c o drained
    slip_drained own f = F.off_stays c {w = Off (Draining c.u.lay.nodes 0)} {t = Drained} f.knows (λ d. absurd (cc d)) (λ _. refl) (λ _. refl) tt

    pub slip_taken : {set : List ℕ} → F.SlipActs c o (taken {set = set})
    slip_taken {set} own f = F.off_stays c {w = Off (Taking (groups c.u.lay) set)} {t = Told set 0} f.knows (λ d. absurd (cc d)) (λ _. refl) (λ _. refl) tt

    pub slip_passed_over : {g : ℕ} {set : List ℕ} (e : (has_page set g && not (map_at c.u o.maps o.dirty g == 0)) ≡ false) → F.SlipActs c o (passed_over {g = g} {set = set} e)
    slip_passed_over {g} {set} e own f = F.off_stays c {w = Off (Told set g)} {t = Told set (g + 1)} f.knows (λ d. absurd (cc d)) (λ _. refl) (λ _. refl) tt

    -- all pages were looked at
    pub note_acquired : {set : List ℕ} → F.NoteActs c o (acquired {set = set})
    note_acquired {set} f = F.off_stays c {w = Off (Told set c.u.lay.pages)} {t = Finished} f.knows (λ d. absurd (cc d)) (λ _. refl) (λ _. refl) tt
