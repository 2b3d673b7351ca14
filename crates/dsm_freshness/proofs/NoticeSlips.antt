-- Decisions, turns and notes of an acquire on no page, and operations aside.
use Rattle.std.proofs.Common.{◌≡◌, ◌≢◌, ◌⊎◌, inl, inr, ℕ, suc, ◌+◌, ◌%◌, ◌<◌, ◌==◌, Bool, true, false, List, [], ◌∷◌, None, refl, sym, ap, ◌∙◌, subst, arith}
use Rattle.std.specs.Prelude.{◌&&◌, not, nat_le, slice_index}
use Rattle.std.specs.Int.{bit_at}
use Rattle.std.proofs.lemmas.Bool.{cases_eq, eq-eqb, ne_eqb, eqb-true, le-leb, lt-leb, and_right}
use Rattle.dsm_words.specs.declared.item.Item.TheVariants.{NoticeTurn}
use Rattle.dsm_words.specs.Place.{groups}
use Rattle.dsm_words.specs.Pages.{group_of, has_page, pages_in}
use Rattle.dsm_words.specs.Words.{word}
use Rattle.dsm_clock.specs.declared.turns.TurnId.TheVariants.{Notices}
use Rattle.dsm_protocol.specs.Own.{Own, node_of}
use Rattle.dsm_protocol.specs.Stages.{Round, Admitted, Dismissed, Quitting, Passing, Finished, Draining, Hearing, Drained, Taking, Told, Off, round_turn}
use Rattle.dsm_protocol.specs.Rows.{map_at, hears, unheard, heard, next_node, drained, taken, passed_over, passes, quits, acquired}
use Rattle.dsm_protocol.proofs.Placed.{group_in}
use Rattle.dsm_owners.specs.Stages as O
use Rattle.dsm_fresh.specs.Pages.{Pass, Skip, Settle, happens}
use Rattle.dsm_fresh.specs.Stages as S
use Rattle.dsm_fresh.specs.Stages.{is_worker}
use Rattle.dsm_freshness.specs.Events.{only}
use Rattle.dsm_freshness.specs.Views.{acquire_view, looked}
use Rattle.dsm_freshness.specs.Tied.{may_load}
use Rattle.dsm_freshness.proofs.Words.{Scene, match_still, put_same, first}
use Rattle.dsm_freshness.proofs.AcquireRows.{le_next, past_it}
use Rattle.dsm_freshness.proofs.NoticeRows.{if_false, all_three, three, all_but, looks_next, looks_over, looks_start, looks_end, in_group, rest_hand, rest_none, rest_past, rest_unset, rest_next}
use Rattle.dsm_freshness.proofs.Frame as F

-- a page that is not in the set, or has no mapping, needs nothing
passed_not : (a b : Bool) → (a && not b) ≡ false → a ≡ true → b ≡ true
passed_not true true e d = refl
passed_not true false e d = absurd (cc e)
passed_not false b e d = absurd (cc d)

module _ (c : Scene) (o : Own) where
  -- the turn of the notices is won
  pub win_hears : F.WinActs c o hears
  win_hears f = record {
    runs = tt;
    match = F.won_says c (Notices (node_of c.u)) f;
    knows = F.off_knows c {r = Draining 0 0} c.f (λ e. F.off_stage c f.here e ∙ sym (ap (looked c.m c.n c.g) (looks_start c.m (group_of c.g)))) (λ e _. (0, c.match.drainer (ap (λ y. word c.u.lay c.ws (NoticeTurn y)) (sym e) ∙ sym f.told)));
  }

  -- notices are drained
  pub slip_unheard : {j k bits b : ℕ} (e : (bit_at bits b == 1) ≡ false) → F.SlipActs c o (unheard {j = j} {k = k} {bits = bits} {b = b} e)
  slip_unheard {j} {k} {bits} {b} e own f = record { runs = tt; match = c.match; knows = F.off_same c {r = Hearing j k bits b} {t = Hearing j k bits (b + 1)} f.knows refl (λ _. refl) (λ y _. go y (cases_eq b (c.g % 64))) }
    where
      go : (y : ℕ) → (b ≡ c.g % 64) ⊎ (b ≢ c.g % 64) → rest_hand c o y j k bits b ≡ rest_hand c o y j k bits (b + 1)
      go y (inl d) = rest_unset c o y j k bits b (subst (λ z. (bit_at bits z == 1) ≡ false) d e) ∙ sym (rest_past c o y j k bits (b + 1) (past_it b (c.g % 64) d))
      go y (inr ne) = rest_next c o y j k bits b (and_right (k == group_of c.g) (b == c.g % 64) (ne_eqb b (c.g % 64) ne))

  pub slip_heard : {j k bits : ℕ} → F.SlipActs c o (heard {j = j} {k = k} {bits = bits})
  slip_heard {j} {k} {bits} own f = record { runs = tt; match = c.match; knows = F.off_same c {r = Hearing j k bits (pages_in c.u.lay k)} {t = Draining j (k + 1)} f.knows refl (λ _. ap (looked c.m c.n c.g) (looks_next c.m j (group_of c.g) k)) (λ y _. go y (cases_eq k (group_of c.g))) }
    where
      go : (y : ℕ) → (k ≡ group_of c.g) ⊎ (k ≢ group_of c.g) → rest_hand c o y j k bits (pages_in c.u.lay k) ≡ S.Empty
      go y (inl d) = rest_past c o y j k bits (pages_in c.u.lay k) (lt-leb (pages_in c.u.lay k) (c.g % 64) (subst (λ z. c.g % 64 < pages_in c.u.lay z) (sym d) (in_group c.u.lay c.g c.g_in)))
      go y (inr ne) = rest_none c o y j k bits (pages_in c.u.lay k) (and_right (j == c.m) (k == group_of c.g) (ne_eqb k (group_of c.g) ne))

  pub slip_next_node : {j : ℕ} → F.SlipActs c o (next_node {j = j})
  slip_next_node {j} own f = record { runs = tt; match = c.match; knows = F.off_same c {r = Draining j (groups c.u.lay)} {t = Draining (j + 1) 0} f.knows refl (λ _. ap (looked c.m c.n c.g) (looks_over c.m j (group_of c.g) (groups c.u.lay) (group_in c.u.lay c.g c.g_in))) (λ _ _. refl) }

  pub slip_drained : F.SlipActs c o drained
  slip_drained own f = record { runs = tt; match = c.match; knows = F.off_same c {r = Draining c.u.lay.nodes 0} {t = Drained} f.knows refl (λ _. ap (looked c.m c.n c.g) (looks_end c.m (group_of c.g) c.u.lay.nodes c.m_in)) (λ _ _. refl) }

  -- the pages of the set
  pub slip_taken : {set : List ℕ} → F.SlipActs c o (taken {set = set})
  slip_taken {set} own f = record { runs = tt; match = c.match; knows = F.off_same c {r = Taking (groups c.u.lay) set} {t = Told set 0} f.knows refl (λ _. if_false (nat_le (groups c.u.lay) (group_of c.g)) S.Given (S.Taken (has_page set c.g)) (lt-leb (groups c.u.lay) (group_of c.g) (group_in c.u.lay c.g c.g_in)) ∙ ap S.Taken (all (has_page set c.g))) (λ _ _. refl) }
    where
      all : (d : Bool) → d ≡ (d && nat_le 0 c.g)
      all true = sym (le-leb 0 c.g (omega arith))
      all false = refl

  pub slip_passed_over : {g : ℕ} {set : List ℕ} (e : (has_page set g && not (map_at c.u o.maps o.dirty g == 0)) ≡ false) → F.SlipActs c o (passed_over {g = g} {set = set} e)
  slip_passed_over {g} {set} e own f = F.only_if c (node_of c.u == c.n && g == c.g && has_page set c.g) (λ d. let z = three (node_of c.u == c.n) (g == c.g) (has_page set c.g) d in on (eqb-true (node_of c.u) c.n z.0) (eqb-true g c.g z.1) z.2) off
    where
      off : (node_of c.u == c.n && g == c.g && has_page set c.g) ≡ false → F.Acted c (Off (Told set (g + 1))) c.ws []
      off d = record { runs = tt; match = c.match; knows = F.off_same c {r = Told set g} {t = Told set (g + 1)} f.knows refl (λ n. same n (cases_eq g c.g)) (λ _ _. refl) }
        where
          same : node_of c.u ≡ c.n → (g ≡ c.g) ⊎ (g ≢ c.g) → acquire_view c.m c.n c.g (Off (Told set g)) ≡ acquire_view c.m c.n c.g (Off (Told set (g + 1)))
          same n (inl i) = let no : has_page set c.g ≡ false = F.not_true (λ z. absurd (cc (sym (all_three (eq-eqb (node_of c.u) c.n n) (eq-eqb g c.g i) z) ∙ d))) in rw no refl
          same n (inr ne) = ap (λ z. S.Taken (has_page set c.g && z)) (le_next g c.g ne)

      on : node_of c.u ≡ c.n → g ≡ c.g → has_page set c.g ≡ true → F.Acted c (Off (Told set (g + 1))) c.ws (Skip c.u.p ∷ [])
      on n i has = record {
        runs = ((has_page set c.g && nat_le g c.g, F.off_stage c f n, bare), tt);
        match = match_still c (Skip c.u.p) c.match.worker c.match.drainer refl;
        knows = F.off_knows c {r = Told set (g + 1)} (happens (first c) c.f (Skip c.u.p)) (λ _. ap (λ z. z.stage) (put_same c.f.processors c.u.p _) ∙ sym (ap S.Taken (ap (λ z. has_page set c.g && z) (past_it g c.g i) ∙ all_but (has_page set c.g)))) (λ _ d. absurd (cc d));
      }
        where
          zero : slice_index o.maps g ≡ 0
          zero = eqb-true (slice_index o.maps g) 0 (passed_not (has_page set g) (slice_index o.maps g == 0) e (ap (has_page set) i ∙ has))

          bare : (c.f.processors c.u.p).mapped ≡ false
          bare = sym (c.match.mapped c.u.p c.at.p_in n) ∙ ap may_load (own ∙ ap (slice_index o.maps) (sym i) ∙ zero)

  -- it has passed an object: it was at rest, and its acquire or the closing work comes
  pass_acts : (r t : Round) → acquire_view c.m c.n c.g (Off r) ≡ S.Rest → acquire_view c.m c.n c.g (Off t) ≡ S.Before → round_turn c.u t ≡ None → F.Here c (Off r) o → F.Acted c (Off t) c.ws (only (node_of c.u == c.n) (Pass c.u.p))
  pass_acts r t rests comes none f = F.only_if c (node_of c.u == c.n) (λ d. on (eqb-true (node_of c.u) c.n d)) (λ off. record { runs = tt; match = c.match; knows = F.off_knows c {r = t} c.f (λ n. absurd (cc (sym (eq-eqb (node_of c.u) c.n n) ∙ off))) (λ _ d. absurd (cc (sym none ∙ d))) })
    where
      idle : (is_worker c.u.p c.f.page.work ≡ true) → ⊥
      idle w = let turn : (c.b.nodes c.n).turn ≡ suc c.u.p = sym (c.owned.turn c.n c.n_in) ∙ (c.match.worker c.u.p w).0 in
          absurd (cc (sym (ap (O.held (node_of c.u)) f.owns.at) ∙ (c.holds.fits c.n c.u.p).held_is turn))

      on : node_of c.u ≡ c.n → F.Acted c (Off t) c.ws (Pass c.u.p ∷ [])
      on n = record {
        runs = ((F.off_stage c f n ∙ rests, F.not_true idle), tt);
        match = match_still c (Pass c.u.p) c.match.worker c.match.drainer refl;
        knows = F.off_knows c {r = t} (happens (first c) c.f (Pass c.u.p)) (λ _. ap (λ z. z.stage) (put_same c.f.processors c.u.p _) ∙ sym comes) (λ _ d. absurd (cc (sym none ∙ d)));
      }

  pub note_passes : (e : None ≡ None) → F.NoteActs c o (passes e)
  note_passes e = pass_acts Admitted Passing refl refl refl

  pub note_quits : (e : None ≡ None) → F.NoteActs c o (quits e)
  note_quits e = pass_acts Dismissed Quitting refl refl refl

  -- all pages were looked at
  pub note_acquired : {set : List ℕ} → F.NoteActs c o (acquired {set = set})
  note_acquired {set} f = F.only_if c (node_of c.u == c.n) (λ d. on (eqb-true (node_of c.u) c.n d)) (λ off. record { runs = tt; match = c.match; knows = F.off_knows c {r = Finished} c.f (λ n. absurd (cc (sym (eq-eqb (node_of c.u) c.n n) ∙ off))) (λ _ d. absurd (cc d)) })
    where
      on : node_of c.u ≡ c.n → F.Acted c (Off Finished) c.ws (Settle c.u.p ∷ [])
      on n = record {
        runs = (F.off_stage c f n ∙ ap S.Taken (ap (λ z. has_page set c.g && z) (lt-leb c.u.lay.pages c.g c.g_in) ∙ all_but (has_page set c.g)), tt);
        match = match_still c (Settle c.u.p) c.match.worker c.match.drainer refl;
        knows = F.off_knows c {r = Finished} (happens (first c) c.f (Settle c.u.p)) (λ _. ap (λ z. z.stage) (put_same c.f.processors c.u.p _)) (λ _ d. absurd (cc d));
      }
