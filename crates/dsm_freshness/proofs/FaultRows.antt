-- Rows of a fault, up to its fetch: the home, the registration, the sharers, the claim; and the accesses.
use Rattle.std.proofs.Common.{◌≡◌, ◌⊎◌, inl, inr, ℕ, suc, ◌+◌, ◌-◌, ◌%◌, ◌<◌, ◌≤◌, ◌==◌, Bool, true, false, [], Option, None, Some, refl, sym, ap, ◌∙◌, subst, arith, if◌then◌else◌}
use Rattle.std.specs.Prelude.{◌&&◌, not, IfSome}
use Rattle.std.proofs.lemmas.Bool.{eqb-true}
use Rattle.dsm_words.specs.declared.item.Item.TheVariants.{Dir, Map, Turn, Home, Twined}
use Rattle.dsm_words.specs.Script.{Act, Get, Put, Change}
use Rattle.dsm_words.specs.Words.{word, done}
use Rattle.dsm_clock.specs.declared.turns.TurnId.TheVariants.{Page}
use Rattle.dsm_directory.specs.declared.row.Row.{Row}
use Rattle.dsm_directory.specs.Directory.{no_row, is_busy}
use Rattle.dsm_protocol.specs.Own.{Own, node_of}
use Rattle.dsm_protocol.specs.Steps.{allows, page_of, address_item}
use Rattle.dsm_protocol.specs.Stages.{Seeker, For_fault, For_release, For_closing, Stage, Seeking, Registering, Sharing, Parting, Visiting, Back, Claimed, Withdrawing, Entering, Entered, Ready, Current, Setting, Round, Access, On, found, registered, seeker_node, stage_turn}
use Rattle.dsm_protocol.specs.Rows.{map_at, Allowed, sees_dir, seeks, settles, clears, registers, shares, wants, parts, sees_again, tests, claims, looks_again, withdraws, gives, loads, stores, faults, returns, accesses, shared, unwanted, claimed, at_home, read_only}
use Rattle.dsm_fresh.specs.Stages as S
use Rattle.dsm_fresh.specs.Stages.{is_worker}
use Rattle.dsm_fresh.specs.Pages.{Reset, Register, Claim, Share, Current_sole, Done, happens}
use Rattle.dsm_freshness.specs.Views.{work_view, has_served, stamp_read, is_unseen}
use Rattle.dsm_freshness.specs.Events.{only}
use Rattle.dsm_freshness.specs.Tied.{Match, may_load}
use Rattle.dsm_freshness.proofs.Words.{Scene, says, match_one, match_none, says_same, loaded, untouched, stage_kept, first}
use Rattle.dsm_freshness.proofs.Frame as F

-- with a third that is so, and with one that isn't
and_true : (a b : Bool) → (a && b && true) ≡ (a && b)
and_true true true = refl
and_true true false = refl
and_true false b = refl

and_false : (a b : Bool) → (a && b && false) ≡ false
and_false true true = refl
and_false true false = refl
and_false false b = refl

module _ (c : Scene) where
  -- a stage that says nothing of the copy but whose turn is held: that of node j's copy of page h
  pub record Calm (j h : ℕ) (t : Stage) : Type 0 where
    pub turn : stage_turn c.u h t ≡ Some (Page j h)
    pub idle : (k : ℕ) → work_view c.u.p k t ≡ S.Idle
    pub unseen : is_unseen t ≡ false
    pub served : (r : Round) → has_served c.m c.n c.g c.u (On r h t) ≡ false
    pub stamp : stamp_read t ≡ None

  either : {j h : ℕ} {s t : Stage} (d : Bool) → Calm j h s → Calm j h t → Calm j h (if d then s else t)
  either true s t = s
  either false s t = t

  none_read : (z : Option ℕ) → z ≡ None → IfSome z (λ y. c.f.page.update ≡ y)
  none_read None e = tt
  none_read (Some y) e = absurd (cc e)

  calm_knows : {r : Round} {j h : ℕ} {s t : Stage} → Calm j h s → Calm j h t → F.Now c (On r h s) → F.Now c (On r h t)
  calm_knows {r} {j} {h} {s} {t} a b k = F.quiet_on c {r = r} {h = h} {s = s} {t = t} k (b.turn ∙ sym a.turn) (λ i. b.idle i ∙ sym (a.idle i)) (b.unseen ∙ sym a.unseen) (λ d. absurd (cc (sym (b.served r) ∙ d))) (λ _ _. none_read (stamp_read t) b.stamp)

  calm_row : {r : Round} {j h : ℕ} {s t : Stage} {o : Own} {a : Act} {x : ℕ} → F.Meets c (On r h s) o a x → Match c.m c.n c.g c.u (done c.u.lay c.ws a) c.f → Calm j h s → Calm j h t → F.Acted c (On r h t) (done c.u.lay c.ws a) []
  calm_row {r} {j} {h} {s} {t} f m a b = record { runs = tt; match = m; knows = calm_knows {r = r} {j = j} {h = h} {s = s} {t = t} a b f.here.knows }

  calm_slip : {r : Round} {j h : ℕ} {s t : Stage} {o : Own} → F.Here c (On r h s) o → Calm j h s → Calm j h t → F.Acted c (On r h t) c.ws []
  calm_slip {r} {j} {h} {s} {t} f a b = record { runs = tt; match = c.match; knows = calm_knows {r = r} {j = j} {h = h} {s = s} {t = t} a b f.knows }

  calm_registered : {g : ℕ} (write : Bool) (h : ℕ) (d : Bool) → Calm (node_of c.u) g (registered write h d)
  calm_registered write h true = record { turn = refl; idle = λ k. refl; unseen = refl; served = λ r. refl; stamp = refl }
  calm_registered write h false = record { turn = refl; idle = λ k. refl; unseen = refl; served = λ r. refl; stamp = refl }

  calm_found : {g : ℕ} (a : Seeker) (h : ℕ) → Calm (seeker_node c.u a) g (found c.u a h)
  calm_found (For_fault write d) h = calm_registered write h (d == 0)
  calm_found For_release h = record { turn = refl; idle = λ k. refl; unseen = refl; served = λ r. refl; stamp = refl }
  calm_found (For_closing j) h = record { turn = refl; idle = λ k. refl; unseen = refl; served = λ r. refl; stamp = refl }

  -- its node's word is looked at: where it is 2, the node has the page alone
  sole_row : {r : Round} {g x : ℕ} {s : Stage} {o : Own} (t : Stage) (write : Bool) → F.Meets c (On r g s) o (Get (Dir (node_of c.u) g)) x → F.IsAccess r → Calm (node_of c.u) g s → Calm (node_of c.u) g t
      → F.Acted c (On r g (if x == 2 then Setting write true else t)) (done c.u.lay c.ws (Get (Dir (node_of c.u) g))) (only (g == c.g && node_of c.u == c.n && x == 2) (Current_sole c.u.p))
  sole_row {r} {g} {x} {s} {o} t write f acc a b = go (x == 2) refl
    where
      go : (d : Bool) → (x == 2) ≡ d → F.Acted c (On r g (if d then Setting write true else t)) (done c.u.lay c.ws (Get (Dir (node_of c.u) g))) (only (g == c.g && node_of c.u == c.n && d) (Current_sole c.u.p))
      go true e = subst (λ z. F.Acted c (On r g (Setting write true)) (done c.u.lay c.ws (Get (Dir (node_of c.u) g))) (only z (Current_sole c.u.p))) (sym (and_true (g == c.g) (node_of c.u == c.n)))
          (F.own_row c {r = r} {h = g} {s = s} {t = Setting write true} (Current_sole c.u.p) f a.turn refl refl (λ i. (i.1, i.0)) (λ is. let i = F.mine c g is in let k = F.works_here c f.here is a.turn in
          record {
            may = ((F.is_of c i.1, F.stage_here c f.here is ∙ F.at_rest c.m c.n c.g r g s acc, k.1 ∙ a.idle k.0), sym c.match.dir ∙ ap (word c.u.lay c.ws) (λ z. Dir (sym i.1 z) (sym i.0 z)) ∙ sym f.told ∙ eqb-true x 2 e);
            works = (0, refl);
            hand = refl;
            stage = F.stage_on c (Setting write true) (Current_sole c.u.p) f.here is refl a.unseen;
            stamp = tt;
            match = λ w d. match_none c (Current_sole c.u.p) w d (Get (Dir (node_of c.u) g)) f.within refl (λ j. says c (Dir (node_of c.u) g) f.within j);
          }))
      go false e = subst (λ z. F.Acted c (On r g t) (done c.u.lay c.ws (Get (Dir (node_of c.u) g))) (only z (Current_sole c.u.p))) (sym (and_false (g == c.g) (node_of c.u == c.n))) (calm_row {r = r} {h = g} {s = s} {t = t} f (loaded c (Dir (node_of c.u) g) f.within) a b)

module _ (c : Scene) (o : Own) where
  pub row_sees_dir : {r : Round} {g x : ℕ} {write : Bool} → F.RowActs c o (sees_dir {r = r} {g = g} {x = x} {write = write})
  row_sees_dir {r} {g} {x} {write} f = sole_row c (Seeking (For_fault write x)) write f f.here.fits (record { turn = refl; idle = λ k. refl; unseen = refl; served = λ r. refl; stamp = refl }) (record { turn = refl; idle = λ k. refl; unseen = refl; served = λ r. refl; stamp = refl })

  pub row_seeks : {r : Round} {g x : ℕ} {a : Seeker} → F.RowActs c o (seeks {r = r} {g = g} {x = x} {a = a})
  row_seeks {r} {g} {x} {a} f = calm_row c {j = seeker_node c.u a} f (loaded c (Home g) f.within) (record { turn = refl; idle = λ k. refl; unseen = refl; served = λ r. refl; stamp = refl })
      (either c (x == 0) (record { turn = refl; idle = λ k. refl; unseen = refl; served = λ r. refl; stamp = refl }) (calm_found c a ((x - 1) % c.u.lay.nodes)))

  pub row_settles : {r : Round} {g x : ℕ} {a : Seeker} → F.RowActs c o (settles {r = r} {g = g} {x = x} {a = a})
  row_settles {r} {g} {x} {a} f = calm_row c {j = seeker_node c.u a} f (untouched c (Change (Home g) 0 (node_of c.u + 1)) f.within (λ e. e)) (record { turn = refl; idle = λ k. refl; unseen = refl; served = λ r. refl; stamp = refl }) (calm_found c a (if x == 0 then node_of c.u else (x - 1) % c.u.lay.nodes))

  -- a word of its own copy is stored
  pub row_clears : {r : Round} {g h x : ℕ} {write : Bool} → F.RowActs c o (clears {r = r} {g = g} {h = h} {x = x} {write = write})
  row_clears {r} {g} {h} {x} {write} f = F.own_row c Reset f refl refl refl (λ i. (i.1, i.0)) (λ is. let i = F.mine c g is in
      record { may = F.dir_same c ∙ (F.own_turn c f.here.owns i.0 i.1 refl).0; works = F.works_here c f.here is refl; hand = refl; stage = F.stage_on c (Registering write h) Reset f.here is refl refl; stamp = tt; match = λ w d. match_one c Reset w d _ f.within (i.1, i.0) refl tt refl })

  pub row_registers : {r : Round} {g h x : ℕ} {write : Bool} → F.RowActs c o (registers {r = r} {g = g} {h = h} {x = x} {write = write})
  row_registers {r} {g} {h} {x} {write} f = F.own_row c Register f refl refl refl (λ i. (i.1, i.0)) (λ is. let i = F.mine c g is in
      record { may = cleared (F.update_same c ∙ (F.own_turn c f.here.owns i.0 i.1 refl).2); works = F.works_here c f.here is refl; hand = refl; stage = F.stage_on c (Sharing write h 0 no_row) Register f.here is refl refl; stamp = tt; match = λ w d. match_one c Register w d _ f.within (i.1, i.0) refl tt refl })
    where
      decide : (d : Bool) → (c.f.page.update == 0) ≡ d → not d ≡ false → c.f.page.update ≡ 0
      decide true e z = eqb-true c.f.page.update 0 e
      decide false e z = absurd (cc z)

      cleared : not (c.f.page.update == 0) ≡ false → c.f.page.update ≡ 0
      cleared z = decide (c.f.page.update == 0) refl z

  pub row_shares : {r : Round} {g h j x : ℕ} {write : Bool} {row : Row} → F.RowActs c o (shares {r = r} {g = g} {h = h} {j = j} {x = x} {write = write} {row = row})
  row_shares {r} {g} {h} {j} {x} {write} {row} f = F.quiet_row c f (loaded c (Dir j g) f.within) refl (λ k. refl) refl (λ d. d) (λ _ _. tt)

  pub row_wants : {r : Round} {g h busy x : ℕ} {write : Bool} (e : (map_at c.u o.maps o.dirty g == 0) ≡ true) → F.RowActs c o (wants {r = r} {g = g} {h = h} {busy = busy} {x = x} {write = write} e)
  row_wants {r} {g} {h} {busy} {x} {write} e f = F.quiet_row c f (says_same c (Put (Map c.u.p g) 3) f.within same) refl (λ k. refl) refl (λ d. d) (λ _ _. tt)
    where
      same : (node_of c.u ≡ c.n) × (g ≡ c.g) → false ≡ (c.f.processors c.u.p).mapped
      same i = let z : word c.u.lay c.ws (Map c.u.p g) ≡ 0 = ap (λ y. word c.u.lay c.ws (Map c.u.p y)) i.1 ∙ f.own ∙ ap (λ y. map_at c.u o.maps o.dirty y) (sym i.1) ∙ eqb-true _ 0 e in sym (ap may_load z) ∙ says c (Map c.u.p g) f.within i

  -- its turn is given
  pub row_parts : {r : Round} {g h busy x : ℕ} {write : Bool} → F.RowActs c o (parts {r = r} {g = g} {h = h} {busy = busy} {x = x} {write = write})
  row_parts {r} {g} {h} {busy} {x} {write} f =
      record {
        runs = tt;
        match = says_same c (Put (Turn (node_of c.u) g) 0) f.within (λ i q w. absurd (nobody i q w));
        knows = record {
          works = λ d. absurd (cc d);
          stage = λ e ne. f.here.knows.stage e (λ d. absurd (cc d)) ∙ F.acquire_same c.m c.n c.g r g (Parting write h busy) (Visiting write h busy 0) refl;
          hand = λ e d. absurd (F.no_notices c.u g (Visiting write h busy 0) c.n d);
          stamp = λ e d. tt;
          served = λ d. absurd (cc d);
        };
      }
    where
      nobody : (node_of c.u ≡ c.n) × (g ≡ c.g) → (q : ℕ) → is_worker q c.f.page.work ≡ true → ⊥
      nobody i q w = let k = F.works_here c f.here (F.is_mine c {h = g} i.1 i.0) refl in let z : false ≡ true = sym (ap (is_worker q) k.1) ∙ w in absurd (cc z)

  pub row_sees_again : {r : Round} {g h x : ℕ} {write : Bool} → F.RowActs c o (sees_again {r = r} {g = g} {h = h} {x = x} {write = write})
  row_sees_again {r} {g} {h} {x} {write} f = sole_row c (Ready write h) write f f.here.fits (record { turn = refl; idle = λ k. refl; unseen = refl; served = λ r. refl; stamp = refl }) (record { turn = refl; idle = λ k. refl; unseen = refl; served = λ r. refl; stamp = refl })

  -- a claim
  pub row_tests : {r : Round} {g h x : ℕ} → F.RowActs c o (tests {r = r} {g = g} {h = h} {x = x})
  row_tests {r} {g} {h} {x} f = calm_row c {j = node_of c.u} f (loaded c (Twined (node_of c.u) g) f.within) (record { turn = refl; idle = λ k. refl; unseen = refl; served = λ r. refl; stamp = refl })
      (either c (x == 1) (record { turn = refl; idle = λ k. refl; unseen = refl; served = λ r. refl; stamp = refl }) (record { turn = refl; idle = λ k. refl; unseen = refl; served = λ r. refl; stamp = refl }))

  pub row_claims : {r : Round} {g h x : ℕ} → F.RowActs c o (claims {r = r} {g = g} {h = h} {x = x})
  row_claims {r} {g} {h} {x} f = F.own_row c Claim f refl refl refl (λ i. (i.1, i.0)) (λ is. let i = F.mine c g is in
      let k = F.own_turn c f.here.owns i.0 i.1 refl in
      record { may = λ d. absurd (omega (arith, d, F.dir_same c, k.0)); works = F.works_here c f.here is refl; hand = refl; stage = F.stage_on c (Claimed h 0 no_row) Claim f.here is refl refl; stamp = tt; match = λ w d. match_one c Claim w d _ f.within (i.1, i.0) refl tt refl })

  pub row_looks_again : {r : Round} {g h j x : ℕ} {row : Row} → F.RowActs c o (looks_again {r = r} {g = g} {h = h} {j = j} {x = x} {row = row})
  row_looks_again {r} {g} {h} {j} {x} {row} f = F.quiet_row c f (loaded c (Dir j g) f.within) refl (λ k. refl) refl (λ d. d) (λ _ _. tt)

  pub row_withdraws : {r : Round} {g h x : ℕ} → F.RowActs c o (withdraws {r = r} {g = g} {h = h} {x = x})
  row_withdraws {r} {g} {h} {x} f = F.own_row c Share f refl refl refl (λ i. (i.1, i.0)) (λ is. let i = F.mine c g is in
      let k = F.own_turn c f.here.owns i.0 i.1 refl in
      record { may = λ d. absurd (omega (arith, d, F.dir_same c, k.0)); works = F.works_here c f.here is refl; hand = refl; stage = F.stage_on c (Ready true h) Share f.here is refl refl; stamp = tt; match = λ w d. match_one c Share w d _ f.within (i.1, i.0) refl tt refl })

  -- the fault is done
  pub row_gives : {g a x : ℕ} {write : Bool} → F.RowActs c o (gives {g = g} {a = a} {x = x} {write = write})
  row_gives {g} {a} {x} {write} f = F.only_if c (F.IsMine c g)
      (λ is. let i = F.mine c g is in let k = F.works_here c f.here is refl in
      record {
        runs = (k.1, tt);
        match = match_none c (Done c.u.p) (λ q (w : false ≡ true). absurd (cc w)) c.match.drainer (Put (Turn (node_of c.u) g) 0) f.within refl (λ _ q (w : false ≡ true). absurd (cc w));
        knows = F.off_knows c {r = Access true write a} (happens (first c) c.f (Done c.u.p)) (λ e. stage_kept (first c) c.f (Done c.u.p) refl c.u.p ∙ f.here.knows.stage e (λ d. absurd (cc d))) (λ e d. absurd (cc d));
      })
      (λ off. record { runs = tt; match = untouched c (Put (Turn (node_of c.u) g) 0) f.within (λ i. absurd (cc (sym (F.is_mine c {h = g} i.1 i.0) ∙ off))); knows = F.off_knows c {r = Access true write a} c.f (λ e. f.here.knows.stage e (λ d. absurd (cc d))) (λ e d. absurd (cc d)) })

  -- an access
  pub row_loads : {faulted : Bool} {a x : ℕ} (e : Allowed c.u o.maps o.dirty false a) → F.RowActs c o (loads {faulted = faulted} {a = a} {x = x} e)
  row_loads {faulted} {a} {x} e f = record { runs = tt; match = loaded c (address_item c.u a) f.within; knows = F.off_same c f.here.knows refl (λ _. refl) (λ _ _. refl) }

  pub row_stores : {faulted : Bool} {a v x : ℕ} (e : Allowed c.u o.maps o.dirty true a) → F.RowActs c o (stores {faulted = faulted} {a = a} {v = v} {x = x} e)
  row_stores {faulted} {a} {v} {x} e f = record { runs = tt; match = untouched c (Put (address_item c.u a) v) f.within (λ i. i); knows = F.off_same c f.here.knows refl (λ _. refl) (λ _ _. refl) }

  -- decisions
  pub slip_accesses : {write : Bool} {a : ℕ} → F.SlipActs c o (accesses {write = write} {a = a})
  slip_accesses {write} {a} own f = record { runs = tt; match = c.match; knows = F.off_same c f.knows refl (λ _. refl) (λ _ _. refl) }

  pub slip_shared : {r : Round} {g h : ℕ} {write : Bool} {row : Row} → F.SlipActs c o (shared {r = r} {g = g} {h = h} {write = write} {row = row})
  slip_shared {r} {g} {h} {write} {row} own f = calm_slip c {j = node_of c.u} f (record { turn = refl; idle = λ k. refl; unseen = refl; served = λ r. refl; stamp = refl })
      (either c (row.busy == 0) (either c (write && not row.others) (record { turn = refl; idle = λ k. refl; unseen = refl; served = λ r. refl; stamp = refl }) (record { turn = refl; idle = λ k. refl; unseen = refl; served = λ r. refl; stamp = refl })) (record { turn = refl; idle = λ k. refl; unseen = refl; served = λ r. refl; stamp = refl }))

  pub slip_unwanted : {r : Round} {g h busy : ℕ} {write : Bool} (e : (map_at c.u o.maps o.dirty g == 0) ≡ false) → F.SlipActs c o (unwanted {r = r} {g = g} {h = h} {busy = busy} {write = write} e)
  slip_unwanted {r} {g} {h} {busy} {write} e own f = calm_slip c {j = node_of c.u} f (record { turn = refl; idle = λ k. refl; unseen = refl; served = λ r. refl; stamp = refl }) (record { turn = refl; idle = λ k. refl; unseen = refl; served = λ r. refl; stamp = refl })

  -- of the home's own node: its copy is none
  at_its_home : {r : Round} {g h : ℕ} {s : Stage} (t : Stage) → (node_of c.u == h) ≡ true → F.Here c (On r g s) o → (g ≡ c.g → c.b.home ≡ suc h) → stage_turn c.u g t ≡ stage_turn c.u g s → (has_served c.m c.n c.g c.u (On r g t) ≡ true → has_served c.m c.n c.g c.u (On r g s) ≡ true) → F.Acted c (On r g t) c.ws []
  at_its_home {r} {g} {h} {s} t e f home tu se = go (F.true_or_false (F.IsMine c g))
    where
      go : (F.IsMine c g ≡ true) ⊎ (F.IsMine c g ≡ false) → F.Acted c (On r g t) c.ws []
      go (inl is) = let i = F.mine c g is in absurd (F.not_home c h (home i.0) (sym (eqb-true (node_of c.u) h e) ∙ i.1))
      go (inr off) = record { runs = tt; match = c.match; knows = F.elsewhere_on c {r = r} {h = g} {s = s} {t = t} off f.knows tu se }

  pub slip_at_home : {r : Round} {g h : ℕ} {write : Bool} (e : (node_of c.u == h) ≡ true) → F.SlipActs c o (at_home {r = r} {g = g} {h = h} {write = write} e)
  slip_at_home {r} {g} {h} {write} e own f = at_its_home (Setting write false) e f f.owns.homes refl (λ d. d)

  pub slip_claimed : {r : Round} {g h : ℕ} {row : Row} → F.SlipActs c o (claimed {r = r} {g = g} {h = h} {row = row})
  slip_claimed {r} {g} {h} {row} own f = go row.others (node_of c.u == h) refl
    where
      go : (a d : Bool) → (node_of c.u == h) ≡ d → F.Acted c (On r g (if a then Withdrawing h else (if d then Entered else Entering h))) c.ws []
      go true d e = calm_slip c {j = node_of c.u} {s = Claimed h c.u.lay.nodes row} f (record { turn = refl; idle = λ k. refl; unseen = refl; served = λ r. refl; stamp = refl }) (record { turn = refl; idle = λ k. refl; unseen = refl; served = λ r. refl; stamp = refl })
      go false true e = at_its_home {s = Claimed h c.u.lay.nodes row} Entered e f f.owns.homes refl (λ d. d)
      go false false e = calm_slip c {j = node_of c.u} {s = Claimed h c.u.lay.nodes row} f (record { turn = refl; idle = λ k. refl; unseen = refl; served = λ r. refl; stamp = refl }) (record { turn = refl; idle = λ k. refl; unseen = refl; served = λ r. refl; stamp = refl })

  pub slip_read_only : {r : Round} {g h : ℕ} → F.SlipActs c o (read_only {r = r} {g = g} {h = h})
  slip_read_only {r} {g} {h} own f = record { runs = tt; match = c.match; knows = F.quiet_on c {r = r} {h = g} {s = Current false h} {t = Setting false false} f.knows refl (λ k. refl) refl (λ d. d) (λ _ _. tt) }

  -- turns
  pub win_faults : {a : ℕ} {write : Bool} (e : allows write (map_at c.u o.maps o.dirty (page_of c.u a)) ≡ false) → F.WinActs c o (faults {a = a} {write = write} e)
  win_faults {a} {write} e f = F.win_on c (node_of c.u) f refl (λ k. refl) (λ _. refl) refl refl (λ d. absurd (cc d))

  pub win_returns : {r : Round} {g h busy i : ℕ} {write : Bool} (none : (k : ℕ) → i ≤ k → k < c.u.lay.nodes → is_busy busy k ≡ false) → F.WinActs c o (returns {r = r} {g = g} {h = h} {busy = busy} {i = i} {write = write} none)
  win_returns {r} {g} {h} {busy} {i} {write} none f = F.win_on c (node_of c.u) f refl (λ k. refl) (λ _. F.acquire_same c.m c.n c.g r g (Visiting write h busy i) (Back write h) refl) refl refl (λ d. absurd (cc d))
