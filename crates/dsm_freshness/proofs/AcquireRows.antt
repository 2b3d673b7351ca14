-- Rows of a page of an acquire.
use Rattle.std.proofs.Common.{◌≡◌, ◌≢◌, ◌⊎◌, inl, inr, ℕ, ◌+◌, ◌*◌, ◌<◌, ◌≤◌, ◌==◌, Bool, true, false, List, [], refl, sym, ap, ◌∙◌, subst, arith, if◌then◌else◌}
use Rattle.std.specs.Prelude.{◌&&◌, ◌||◌, not, nat_lt, nat_le}
use Rattle.std.proofs.lemmas.Bool.{cases_eq, ne_eqb, eqb-true, ltb-false, le-leb, lt-leb, or_parts, cases_lt}
use Rattle.std.proofs.Math.Nat.{mul-le-mul_right}
use Rattle.dsm_words.specs.declared.item.Item.TheVariants.{Dir, Update, Notice, Map, Turn, Twined}
use Rattle.dsm_words.specs.Pages.{has_page}
use Rattle.dsm_words.specs.Script.{Get, Put}
use Rattle.dsm_words.specs.Words.{word, done}
use Rattle.dsm_protocol.specs.Own.{Own, node_of}
use Rattle.dsm_protocol.specs.Stages.{Round, Told, Acquiring, Judging, Judged, Unmapping, Mapped, Emptying, Emptied, Leaving, Over, Off, On}
use Rattle.dsm_protocol.specs.Rows.{map_at, sees_acquire, compares_own, judges_own, unmaps, empties, sees_bare, leaves, gives_over, acquires, emptied}
use Rattle.dsm_owners.proofs.Every.{facts_of}
use Rattle.dsm_ties.proofs.AcquireRows.{in_node}
use Rattle.dsm_fresh.specs.Pages.{Keep, Keep_sole, Unmap, Leave}
use Rattle.dsm_fresh.specs.Stages as S
use Rattle.dsm_fresh.specs.Stages.{is_worker}
use Rattle.dsm_freshness.specs.Views.{acquire_view}
use Rattle.dsm_freshness.specs.Events.{only}
use Rattle.dsm_freshness.specs.Tied.{may_load}
use Rattle.dsm_freshness.proofs.Words.{Scene, match_one, match_none, says_same, says, loaded, put_same, node, first, top}
use Rattle.dsm_freshness.proofs.Frame as F

-- a condition of three
last_true : (a b : Bool) → (a && b && true) ≡ (a && b)
last_true true true = refl
last_true true false = refl
last_true false b = refl

last_false : (a b : Bool) → (a && b && false) ≡ false
last_false true true = refl
last_false true false = refl
last_false false b = refl

-- a processor of a node is one of all
below_all : (n nodes procs q : ℕ) → n < nodes → q < n * procs + procs → q < nodes * procs
below_all n nodes procs q h lt = let e : (n + 1) * procs ≤ nodes * procs = mul-le-mul_right procs (omega (arith, h)) in omega (arith, e, lt, one_more n procs)
  where
    one_more : (a c : ℕ) → (a + 1) * c ≡ a * c + c
    one_more a c = grind arith

-- another page than h is at or past it where it is past it
pub le_next : (h g : ℕ) → h ≢ g → nat_le h g ≡ nat_le (h + 1) g
le_next h g ne = go (cases_lt g h)
  where
    go : (g < h) ⊎ (h ≤ g) → nat_le h g ≡ nat_le (h + 1) g
    go (inl lt) = lt-leb h g lt ∙ sym (lt-leb (h + 1) g (omega (arith, lt)))
    go (inr le) = le-leb h g le ∙ sym (le-leb (h + 1) g (omega (arith, le, ne)))

pub past_it : (h g : ℕ) → h ≡ g → nat_le (h + 1) g ≡ false
past_it h g e = lt-leb (h + 1) g (omega (arith, e))

pub at_it : (h g : ℕ) → h ≡ g → nat_le h g ≡ true
at_it h g e = le-leb h g (omega (arith, e))

and_false : (a : Bool) → (a && false) ≡ false
and_false true = refl
and_false false = refl

and_is : (a b : Bool) → a ≡ true → b ≡ true → (a && b) ≡ true
and_is true b e d = d
and_is false b e d = absurd (cc e)

-- a page that was looked at, and one that will be
pub over_told : (m n g h : ℕ) (set : List ℕ) → acquire_view m n g (On (Told set h) h Over) ≡ acquire_view m n g (Off (Told set (h + 1)))
over_told m n g h set = go (cases_eq h g)
  where
    go : (h ≡ g) ⊎ (h ≢ g) → acquire_view m n g (On (Told set h) h Over) ≡ acquire_view m n g (Off (Told set (h + 1)))
    go (inl d) = F.at_told m n g (Told set h) h Over tt d ∙ ap S.Taken (sym (ap (λ z. has_page set g && z) (past_it h g d) ∙ and_false (has_page set g)))
    go (inr ne) = rw (ne_eqb h g ne) (ap (λ z. S.Taken (has_page set g && z)) (le_next h g ne))

pub told_on : (m n g h : ℕ) (set : List ℕ) → has_page set h ≡ true → acquire_view m n g (Off (Told set h)) ≡ acquire_view m n g (On (Told set h) h Acquiring)
told_on m n g h set e = go (cases_eq h g)
  where
    go : (h ≡ g) ⊎ (h ≢ g) → acquire_view m n g (Off (Told set h)) ≡ acquire_view m n g (On (Told set h) h Acquiring)
    go (inl d) = ap S.Taken (and_is (has_page set g) (nat_le h g) (ap (has_page set) (sym d) ∙ e) (at_it h g d)) ∙ sym (F.at_told m n g (Told set h) h Acquiring tt d)
    go (inr ne) = rw (ne_eqb h g ne) refl

module _ (c : Scene) (o : Own) where
  pub row_sees_acquire : {r : Round} {g x : ℕ} → F.RowActs c o (sees_acquire {r = r} {g = g} {x = x})
  row_sees_acquire {r} {g} {x} f = go (x == 2) refl
    where
      go : (d : Bool) → (x == 2) ≡ d → F.Acted c (On r g (if d then Over else Judging)) (done c.u.lay c.ws (Get (Dir (node_of c.u) g))) (only (g == c.g && node_of c.u == c.n && d) (Keep_sole c.u.p))
      go true e = subst (λ z. F.Acted c (On r g Over) (done c.u.lay c.ws (Get (Dir (node_of c.u) g))) (only z (Keep_sole c.u.p))) (sym (last_true (g == c.g) (node_of c.u == c.n))) (F.own_row c (Keep_sole c.u.p) f refl refl refl (λ i. (i.1, i.0)) (λ is. let i = F.mine c g is in
          record {
            may = (true, F.stage_here c f.here is ∙ F.at_told c.m c.n c.g r g Acquiring f.here.fits i.0, sym (says c (Dir (node_of c.u) g) f.within (i.1, i.0)) ∙ sym f.told ∙ eqb-true x 2 e);
            works = F.works_here c f.here is refl;
            hand = refl;
            stamp = tt;
            stage = ap (λ z. z.stage) (put_same c.f.processors c.u.p _) ∙ sym (F.at_told c.m c.n c.g r g Over f.here.fits i.0);
            match = λ w d. match_none c (Keep_sole c.u.p) w d (Get (Dir (node_of c.u) g)) f.within refl (λ j. says c (Dir (node_of c.u) g) f.within j);
          }))
      go false e = subst (λ z. F.Acted c (On r g Judging) (done c.u.lay c.ws (Get (Dir (node_of c.u) g))) (only z (Keep_sole c.u.p))) (sym (last_false (g == c.g) (node_of c.u == c.n))) (F.quiet_row c f (loaded c (Dir (node_of c.u) g) f.within) refl (λ k. refl) refl (λ d. d) (λ _ _. tt))

  pub row_compares_own : {r : Round} {g x : ℕ} → F.RowActs c o (compares_own {r = r} {g = g} {x = x})
  row_compares_own {r} {g} {x} f = F.quiet_row c f (loaded c (Update (node_of c.u) g) f.within) refl (λ k. refl) refl (λ d. d) (λ d n. sym c.match.update ∙ sym (f.told ∙ ap (word c.u.lay c.ws) (λ i. Update (n i) (d i))))

  pub row_judges_own : {r : Round} {g y x : ℕ} → F.RowActs c o (judges_own {r = r} {g = g} {y = y} {x = x})
  row_judges_own {r} {g} {y} {x} f = go (y == 0 || nat_lt y x) refl
    where
      go : (d : Bool) → (y == 0 || nat_lt y x) ≡ d → F.Acted c (On r g (if d then Unmapping else Over)) (done c.u.lay c.ws (Get (Notice (node_of c.u) g))) (if d then [] else only (g == c.g && node_of c.u == c.n) (Keep c.u.p))
      go true e = F.quiet_row c f (loaded c (Notice (node_of c.u) g) f.within) refl (λ k. refl) refl (λ d. d) (λ _ _. tt)
      go false e = F.own_row c (Keep c.u.p) f refl refl refl (λ i. (i.1, i.0)) (λ is. let i = F.mine c g is in let k = F.works_here c f.here is refl in
          let stamp : c.f.page.update ≡ y = f.here.knows.stamp i.1 i.0 in let time : x ≡ c.f.page.notice = f.told ∙ says c (Notice (node_of c.u) g) f.within (i.1, i.0) in let le : x ≤ y = ltb-false y x (or_parts (y == 0) (nat_lt y x) e).1 in
          record {
            may = (true, F.stage_here c f.here is ∙ F.at_told c.m c.n c.g r g (Judged y) f.here.fits i.0, k.1, omega (arith, stamp, time, le));
            works = k;
            hand = refl;
            stamp = tt;
            stage = ap (λ z. z.stage) (put_same c.f.processors c.u.p _) ∙ sym (F.at_told c.m c.n c.g r g Over f.here.fits i.0);
            match = λ w d. match_none c (Keep c.u.p) w d (Get (Notice (node_of c.u) g)) f.within refl (λ j. says c (Notice (node_of c.u) g) f.within j);
          })

  pub row_unmaps : {r : Round} {g x : ℕ} → F.RowActs c o (unmaps {r = r} {g = g} {x = x})
  row_unmaps {r} {g} {x} f = F.own_row c (Unmap c.u.p) f refl refl refl (λ i. (i.1, i.0)) (λ is. let i = F.mine c g is in
      record {
        may = (true, F.stage_here c f.here is ∙ F.at_told c.m c.n c.g r g Unmapping f.here.fits i.0);
        works = F.works_here c f.here is refl;
        hand = refl;
        stamp = tt;
        stage = ap (λ z. z.stage) (put_same c.f.processors c.u.p _) ∙ sym (F.at_told c.m c.n c.g r g (Mapped 0 (Emptying (node_of c.u * c.u.lay.procs) true)) f.here.fits i.0);
        match = λ w d. match_one c (Unmap c.u.p) w d (Put (Map c.u.p g) 0) f.within (i.1, i.0) refl refl (sym (ap (λ z. z.mapped) (put_same c.f.processors c.u.p _)));
      })

  pub row_empties : {r : Round} {g q x : ℕ} {free : Bool} (lo : node_of c.u * c.u.lay.procs ≤ q) (hi : q < node_of c.u * c.u.lay.procs + c.u.lay.procs) → F.RowActs c o (empties {r = r} {g = g} {q = q} {x = x} {free = free} lo hi)
  row_empties {r} {g} {q} {x} {free} lo hi f = F.quiet_row c f (loaded c (Map q g) f.within) refl (λ k. refl) refl (λ d. d) (λ _ _. tt)

  pub row_sees_bare : {r : Round} {g x : ℕ} → F.RowActs c o (sees_bare {r = r} {g = g} {x = x})
  row_sees_bare {r} {g} {x} f = go (x == 0)
    where
      go : (d : Bool) → F.Acted c (On r g (if d then Leaving else Over)) (done c.u.lay c.ws (Get (Twined (node_of c.u) g))) []
      go true = F.quiet_row c f (loaded c (Twined (node_of c.u) g) f.within) refl (λ k. refl) refl (λ d. d) (λ _ _. tt)
      go false = F.quiet_row c f (loaded c (Twined (node_of c.u) g) f.within) refl (λ k. refl) refl (λ d. d) (λ _ _. tt)

  pub row_leaves : {r : Round} {g x : ℕ} → F.RowActs c o (leaves {r = r} {g = g} {x = x})
  row_leaves {r} {g} {x} f = F.own_row c Leave f refl refl refl (λ i. (i.1, i.0)) (λ is. let i = F.mine c g is in let k = F.works_here c f.here is refl in
      record { may = (k.1, λ q of. unmapped i.0 i.1 q of.0 of.1); works = k; hand = refl; stamp = tt; stage = F.stage_on c Over Leave f.here is refl refl; match = λ w d. match_one c Leave w d _ f.within (i.1, i.0) refl tt refl })
    where
      unmapped : g ≡ c.g → node_of c.u ≡ c.n → (q : ℕ) → first c ≤ q → q < top c → (c.f.processors q).mapped ≡ false
      unmapped d e q lo hi = let at : node c q ≡ c.n = in_node c.u.lay.procs c.n q lo hi in
          F.mapped_same c q (below_all c.n c.u.lay.nodes c.u.lay.procs q c.n_in hi) at ∙ ap may_load (((facts_of c.u.lay.nodes (node c) c.b c.holds).leaving c.u.p (inl (F.stage_is c f.here.owns d))).3 q (at ∙ sym e))

  -- the page was looked at, and the turn is given
  pub row_gives_over : {g x : ℕ} {set : List ℕ} → F.RowActs c o (gives_over {g = g} {x = x} {set = set})
  row_gives_over {g} {x} {set} f =
      record {
        runs = tt;
        match = says_same c (Put (Turn (node_of c.u) g) 0) f.within (λ i q w. absurd (cc (sym w ∙ ap (is_worker q) (F.works_here c f.here (F.is_mine c i.1 i.0) refl).1)));
        knows = F.off_knows c {r = Told set (g + 1)} c.f (λ e. f.here.knows.stage e (λ d. absurd (cc d)) ∙ over_told c.m c.n c.g g set) (λ e d. absurd (cc d));
      }

  pub win_acquires : {g : ℕ} {set : List ℕ} (e : (has_page set g && not (map_at c.u o.maps o.dirty g == 0)) ≡ true) → F.WinActs c o (acquires {g = g} {set = set} e)
  win_acquires {g} {set} e f = F.win_on c (node_of c.u) f refl (λ k. refl) (λ _. told_on c.m c.n c.g g set (F.both e).0) refl refl (λ d. absurd (cc d))

  pub slip_emptied : {r : Round} {g : ℕ} {free : Bool} → F.SlipActs c o (emptied {r = r} {g = g} {free = free})
  slip_emptied {r} {g} {free} own f = go free f
    where
      go : (d : Bool) → F.Here c (On r g (Emptying (node_of c.u * c.u.lay.procs + c.u.lay.procs) d)) o → F.Acted c (On r g (if d then Emptied else Over)) c.ws []
      go true f = record { runs = tt; match = c.match; knows = F.quiet_on c f.knows refl (λ k. refl) refl (λ d. d) (λ _ _. tt) }
      go false f = record { runs = tt; match = c.match; knows = F.quiet_on c f.knows refl (λ k. refl) refl (λ d. d) (λ _ _. tt) }
