-- Rows of a fault, up to its fetch, and of the accesses: what they leave of what a node owes.
use Rattle.std.proofs.Common.{◌≡◌, ℕ, ◌-◌, ◌*◌, ◌%◌, ◌<◌, ◌≤◌, ◌==◌, Bool, true, false, [], Some, inr, refl, sym, ap, ◌∙◌, subst, arith, if◌then◌else◌}
use Rattle.std.specs.Prelude.{◌&&◌, not, IfSome}
use Rattle.std.proofs.lemmas.Bool.{eq-eqb, eqb-true}
use Rattle.dsm_words.specs.declared.item.Item.TheVariants.{Dir, Map, Turn}
use Rattle.dsm_words.specs.Script.{Put}
use Rattle.dsm_words.specs.Words.{word}
use Rattle.dsm_clock.specs.declared.turns.TurnId.TheVariants.{Page}
use Rattle.dsm_directory.specs.declared.row.Row.{Row}
use Rattle.dsm_directory.specs.Directory.{no_row, is_busy}
use Rattle.dsm_protocol.specs.Own.{Own, node_of, is_dirty}
use Rattle.dsm_protocol.specs.Steps.{allows, page_of, address_item}
use Rattle.dsm_protocol.specs.Stages.{Seeker, For_fault, For_release, For_closing, Mapped, Asked, Seeking, Missing, Registering, Sharing, Wanting, Parting, Visiting, Back, Claiming, Claimed, Withdrawing, Entering, Entered, Ready, Giving, Round, Idle, Access, Loaded, Off, On, found, registered, seeker_node, stage_turn}
use Rattle.dsm_protocol.specs.Rows.{map_at, Allowed, seeks, settles, clears, registers, shares, wants, parts, sees_again, tests, claims, looks_again, withdraws, gives, loads, faults, returns, accesses, shared, unwanted, claimed, at_home, read_only}
use Rattle.dsm_debts.specs.Page as D
use Rattle.dsm_releases.specs.Views.{soils as is_soiling}
use Rattle.dsm_releases.proofs.Words.{Scene, home, says, says_same, loaded}
use Rattle.dsm_releases.proofs.Frame as F

module _ (c : Scene) where
  -- behind the search for the home the same turn is held
  found_turn : (a : Seeker) (h k : ℕ) → stage_turn c.u k (found c.u a h) ≡ Some (Page (seeker_node c.u a) k)
  found_turn (For_fault write d) h k = go (d == 0)
    where
      go : (b : Bool) → stage_turn c.u k (registered write h b) ≡ Some (Page (node_of c.u) k)
      go true = refl
      go false = refl
  found_turn For_release h k = refl
  found_turn (For_closing j) h k = refl

  -- nothing is to be soiled there
  found_soils : (a : Seeker) (h : ℕ) → is_soiling (found c.u a h) ≡ false
  found_soils (For_fault write d) h = go (d == 0)
    where
      go : (b : Bool) → is_soiling (registered write h b) ≡ false
      go true = refl
      go false = refl
  found_soils For_release h = refl
  found_soils (For_closing j) h = refl

  -- and the work on the copy is where it was
  found_works : (a : Seeker) (h k : ℕ) → Some (Page (seeker_node c.u a) k) ≡ Some (Page c.n c.g) → F.WorksHere c (Seeking a) c.f → F.WorksHere c (found c.u a h) c.f
  found_works (For_fault write d) h k tu w = go (d == 0)
    where
      go : (b : Bool) → F.WorksHere c (registered write h b) c.f
      go true = w
      go false = w
  found_works For_release h k tu w = w
  found_works (For_closing j) h k tu w = w ∙ ap (λ z. D.Marking (z * c.u.lay.procs)) (sym (F.page_is tu).0)

  -- a page with no home yet is worked on as one whose home is looked for
  missing_works : (a : Seeker) → F.WorksHere c (Seeking a) c.f → F.WorksHere c (Missing a) c.f
  missing_works (For_fault write d) w = w
  missing_works For_release w = w
  missing_works (For_closing j) w = w

  -- and the other way round
  seeking_works : (a : Seeker) → F.WorksHere c (Missing a) c.f → F.WorksHere c (Seeking a) c.f
  seeking_works (For_fault write d) w = w
  seeking_works For_release w = w
  seeking_works (For_closing j) w = w

  module _ (o : Own) where
    -- the home is looked for
    pub row_seeks : {r : Round} {g x : ℕ} {a : Seeker} → F.RowActs c o (seeks {r = r} {g = g} {x = x} {a = a})
    row_seeks {r} {g} {x} {a} f = F.pick c (x == 0) (F.loads c {r = r} {k = g} {s = Seeking a} {t = Missing a} f (λ e. e) (λ _ _ w. missing_works a w) refl)
        (F.loads c {r = r} {k = g} {s = Seeking a} {t = found c.u a ((x - 1) % c.u.lay.nodes)} f (λ e. sym (found_turn a ((x - 1) % c.u.lay.nodes) g) ∙ e) (λ _ e w. found_works a ((x - 1) % c.u.lay.nodes) g e w) (found_soils a ((x - 1) % c.u.lay.nodes)))

    -- where there is none yet, the own node tries to be it
    pub row_settles : {r : Round} {g x : ℕ} {a : Seeker} → F.RowActs c o (settles {r = r} {g = g} {x = x} {a = a})
    row_settles {r} {g} {x} {a} f = F.stores c {r = r} {k = g} {s = Missing a} {t = found c.u a h} f (λ i. i) (λ e. sym (found_turn a h g) ∙ e) (λ _ e w. found_works a h g e (seeking_works a w)) (found_soils a h)
      where
        h : ℕ
        h = if x == 0 then node_of c.u else (x - 1) % c.u.lay.nodes

    -- a node that is to be registered has no stamp
    pub row_clears : {r : Round} {g h x : ℕ} {write : Bool} → F.RowActs c o (clears {r = r} {g = g} {h = h} {x = x} {write = write})
    row_clears f = F.stores c f (λ i. i) (λ e. e) (λ _ _ w. w) refl

    -- it is registered, and was not exclusive
    pub row_registers : {r : Round} {g h x : ℕ} {write : Bool} → F.RowActs c o (registers {r = r} {g = g} {h = h} {x = x} {write = write})
    row_registers {r} {g} {h} {x} {write} f = F.quiet_row c {r = r} {k = g} {s = Registering write h} {t = Sharing write h 0 no_row} f (says_same c (Put (Dir (node_of c.u) g) 1) f.within (λ i. (λ z. absurd (omega (arith, z)), λ z. absurd (cc (sym (shared_yet i.1 i.0) ∙ z))))) (λ e. e) (λ _ _ w. w) refl
      where
        shared_yet : g ≡ c.g → node_of c.u ≡ c.n → c.f.page.sole ≡ false
        shared_yet d e = let z = (F.turn_says c {r = r} {k = g} {s = Registering write h} {o = o} (node_of c.u) f.here.owns d e refl).0 in F.not_sole c (omega (arith, z))

    -- the words of the other nodes are looked at
    pub row_shares : {r : Round} {g h j x : ℕ} {write : Bool} {row : Row} → F.RowActs c o (shares {r = r} {g = g} {h = h} {j = j} {x = x} {write = write} {row = row})
    row_shares f = F.loads c f (λ e. e) (λ _ _ w. w) refl

    -- the wanted mapping is none to write
    pub row_wants : {r : Round} {g h busy x : ℕ} {write : Bool} (e : (map_at c.u o.maps o.dirty g == 0) ≡ true) → F.RowActs c o (wants {r = r} {g = g} {h = h} {busy = busy} {x = x} {write = write} e)
    row_wants {r} {g} {h} {busy} {x} {write} e f = F.quiet_row c {r = r} {k = g} {s = Wanting write h busy} {t = Mapped 3 (Parting write h busy)} f (says_same c (Put (Map c.u.p g) 3) f.within same) (λ e. e) (λ _ _ w. w) refl
      where
        same : (node_of c.u ≡ c.n) × (g ≡ c.g) → false ≡ (c.f.processors c.u.p).writes
        same i = let z : word c.u.lay c.ws (Map c.u.p g) ≡ 0 = ap (λ y. word c.u.lay c.ws (Map c.u.p y)) i.1 ∙ f.own ∙ ap (λ y. map_at c.u o.maps o.dirty y) (sym i.1) ∙ eqb-true _ 0 e in sym (ap (λ y. y == 2) z) ∙ says c (Map c.u.p g) f.within i

    -- the turn is given back for the visits
    pub row_parts : {r : Round} {g h busy x : ℕ} {write : Bool} → F.RowActs c o (parts {r = r} {g = g} {h = h} {busy = busy} {x = x} {write = write})
    row_parts {r} {g} {h} {busy} {x} {write} f = F.quiet_row c {r = r} {k = g} {s = Parting write h busy} {t = Visiting write h busy 0} f (says_same c (Put (Turn (node_of c.u) g) 0) f.within (λ i _. F.works_here c {r = r} {k = g} {s = Parting write h busy} (node_of c.u) f.here.knows refl i.1 i.0)) (λ e. absurd (cc e)) (λ _ _ w. w) refl

    -- behind the visits the own word is looked at again
    pub row_sees_again : {r : Round} {g h x : ℕ} {write : Bool} → F.RowActs c o (sees_again {r = r} {g = g} {h = h} {x = x} {write = write})
    row_sees_again {x = x} f = F.pick c (x == 2) (F.loads c f (λ e. e) (λ _ _ w. w) refl) (F.loads c f (λ e. e) (λ _ _ w. w) refl)

    -- a claim needs a copy with no twin
    pub row_tests : {r : Round} {g h x : ℕ} → F.RowActs c o (tests {r = r} {g = g} {h = h} {x = x})
    row_tests {x = x} f = F.pick c (x == 1) (F.loads c f (λ e. e) (λ _ _ w. w) refl) (F.loads c f (λ e. e) (λ _ _ w. w) refl)

    -- a node that claims the page is not exclusive yet
    pub row_claims : {r : Round} {g h x : ℕ} → F.RowActs c o (claims {r = r} {g = g} {h = h} {x = x})
    row_claims {r} {g} {h} {x} f = F.quiet_row c {r = r} {k = g} {s = Claiming h} {t = Claimed h 0 no_row} f (says_same c (Put (Dir (node_of c.u) g) 3) f.within (λ _. (λ z. absurd (omega (arith, z)), λ _. inr refl))) (λ e. e) (λ d e w. (w, shared_yet d (F.page_is e).0)) refl
      where
        shared_yet : g ≡ c.g → node_of c.u ≡ c.n → c.f.page.sole ≡ false
        shared_yet d e = let z = (F.turn_says c {r = r} {k = g} {s = Claiming h} {o = o} (node_of c.u) f.here.owns d e refl).0 in F.not_sole c (omega (arith, z))

    -- the words of the other nodes are looked at once more
    pub row_looks_again : {r : Round} {g h j x : ℕ} {row : Row} → F.RowActs c o (looks_again {r = r} {g = g} {h = h} {j = j} {x = x} {row = row})
    row_looks_again f = F.loads c f (λ e. e) (λ _ _ w. w) refl

    -- a claim that is withdrawn has not made the node exclusive
    pub row_withdraws : {r : Round} {g h x : ℕ} → F.RowActs c o (withdraws {r = r} {g = g} {h = h} {x = x})
    row_withdraws {r} {g} {h} {x} f = F.quiet_row c {r = r} {k = g} {s = Withdrawing h} {t = Ready true h} f (says_same c (Put (Dir (node_of c.u) g) 1) f.within (λ i. (λ z. absurd (omega (arith, z)), λ z. absurd (cc (sym (F.works_here c {r = r} {k = g} {s = Withdrawing h} (node_of c.u) f.here.knows refl i.1 i.0).1 ∙ z))))) (λ e. e) (λ _ _ w. w.0) refl

    -- the fault is done, and nobody works on the copy
    pub row_gives : {g a x : ℕ} {write : Bool} → F.RowActs c o (gives {g = g} {a = a} {x = x} {write = write})
    row_gives {g} {a} {x} {write} f = F.off_row c {w = On (Access true write a) g Giving} {t = Access true write a} f (says_same c (Put (Turn (node_of c.u) g) 0) f.within (λ i _. F.works_here c {r = Access true write a} {k = g} {s = Giving} (node_of c.u) f.here.knows refl i.1 i.0)) (λ d. absurd (cc d)) (λ _. refl) (λ _. F.none_soiled (g == c.g) (is_dirty o c.g)) tt

    -- a load is no store
    pub row_loads : {faulted : Bool} {a x : ℕ} (e : Allowed c.u o.maps o.dirty false a) → F.RowActs c o (loads {faulted = faulted} {a = a} {x = x} e)
    row_loads {faulted} {a} {x} e f = F.off_row c {w = Off (Access faulted false a)} {t = Loaded a x} f (loaded c (address_item c.u a) f.within) (λ d. absurd (cc d)) (λ _. refl) (λ _. refl) tt

    -- the turn is won for a fault
    pub win_faults : {a : ℕ} {write : Bool} (e : allows write (map_at c.u o.maps o.dirty (page_of c.u a)) ≡ false) → F.WinActs c o (faults {a = a} {write = write} e)
    win_faults {a} {write} e f = F.win_on c {r = Access true write a} {k = page_of c.u a} {s = Asked write} {w = Off (Access false write a)} (node_of c.u) f (λ d. absurd (cc d)) refl (λ d e w. w) (λ _. refl) (λ _. sym (F.none_soiled (page_of c.u a == c.g) (is_dirty o c.g))) tt tt

    -- and again behind the visits
    pub win_returns : {r : Round} {g h busy i : ℕ} {write : Bool} (none : (k : ℕ) → i ≤ k → k < c.u.lay.nodes → is_busy busy k ≡ false) → F.WinActs c o (returns {r = r} {g = g} {h = h} {busy = busy} {i = i} {write = write} none)
    win_returns {r} {g} {h} {busy} {i} {write} none f = F.win_on c {r = r} {k = g} {s = Back write h} {w = On r g (Visiting write h busy i)} (node_of c.u) f (λ d. absurd (cc d)) refl (λ d e w. w)
        (λ _. F.release_same c.g r g (Visiting write h busy i) (Back write h)) (λ _. refl)
        (subst (λ z. IfSome z (λ y. c.g < y → is_dirty o c.g ≡ false)) (F.walk_same c.u.lay.pages r g (Visiting write h busy i) (Back write h)) f.here.knows.walked)
        (subst (λ z. IfSome z (λ y. y ≡ c.g → is_dirty o c.g ≡ true)) (F.released_same r g (Visiting write h busy i) (Back write h)) f.here.knows.released)

    -- an access begins
    pub slip_accesses : {write : Bool} {a : ℕ} → F.SlipActs c o (accesses {write = write} {a = a})
    slip_accesses {write} {a} own f = F.off_stays c {w = Off Idle} {t = Access false write a} f.knows (λ d. absurd (cc d)) (λ _. refl) (λ _. refl) tt

    -- all words of the other nodes are looked at
    pub slip_shared : {r : Round} {g h : ℕ} {write : Bool} {row : Row} → F.SlipActs c o (shared {r = r} {g = g} {h = h} {write = write} {row = row})
    slip_shared {write = write} {row = row} own f = F.pick c (row.busy == 0) (F.pick c (write && not row.others) (F.stays c f.knows (λ e. e) (λ _ _ w. w) refl) (F.stays c f.knows (λ e. e) (λ _ _ w. w) refl)) (F.stays c f.knows (λ e. e) (λ _ _ w. w) refl)

    -- there is a mapping already
    pub slip_unwanted : {r : Round} {g h busy : ℕ} {write : Bool} (e : (map_at c.u o.maps o.dirty g == 0) ≡ false) → F.SlipActs c o (unwanted {r = r} {g = g} {h = h} {busy = busy} {write = write} e)
    slip_unwanted e own f = F.stays c f.knows (λ e. e) (λ _ _ w. w) refl

    -- a claim stands or falls; where it stands, the home has no words to fetch
    pub slip_claimed : {r : Round} {g h : ℕ} {row : Row} → F.SlipActs c o (claimed {r = r} {g = g} {h = h} {row = row})
    slip_claimed {r} {g} {h} {row} own f = go row.others (node_of c.u == h) refl
      where
        at_its_home : (node_of c.u == h) ≡ true → g ≡ c.g → node_of c.u ≡ c.n → home c ≡ true
        at_its_home is d e = eq-eqb c.n c.h (sym e ∙ eqb-true (node_of c.u) h is ∙ F.home_found c h (f.owns.homes d))

        go : (a d : Bool) → (node_of c.u == h) ≡ d → F.Acted c (On r g (if a then Withdrawing h else (if d then Entered else Entering h))) o c.ws []
        go true d is = F.stays c {r = r} {k = g} {s = Claimed h c.u.lay.nodes row} {t = Withdrawing h} f.knows (λ e. e) (λ _ _ w. w) refl
        go false true is = F.stays c {r = r} {k = g} {s = Claimed h c.u.lay.nodes row} {t = Entered} f.knows (λ e. e) (λ d e w. (w.0, λ away. absurd (cc (sym (at_its_home is d (F.page_is e).0) ∙ away)))) refl
        go false false is = F.stays c {r = r} {k = g} {s = Claimed h c.u.lay.nodes row} {t = Entering h} f.knows (λ e. e) (λ _ _ w. w.0) refl

    -- the home has no copy to bring up to date
    pub slip_at_home : {r : Round} {g h : ℕ} {write : Bool} (e : (node_of c.u == h) ≡ true) → F.SlipActs c o (at_home {r = r} {g = g} {h = h} {write = write} e)
    slip_at_home e own f = F.stays c f.knows (λ e. e) (λ _ _ w. w) refl

    -- a read needs no twin
    pub slip_read_only : {r : Round} {g h : ℕ} → F.SlipActs c o (read_only {r = r} {g = g} {h = h})
    slip_read_only own f = F.stays c f.knows (λ e. e) (λ _ _ w. w) refl
