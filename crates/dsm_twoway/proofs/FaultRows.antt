-- Rows of a fault, up to its fetch: the home, the registration, the sharers, the claim.
use Rattle.std.proofs.Common.{◌≡◌, ◌≢◌, ◌⊎◌, inl, inr, ℕ, ◌-◌, ◌%◌, ◌<◌, ◌≤◌, ◌==◌, Bool, true, false, List, [], Some, refl, sym, ap, ◌∙◌, subst, arith, if◌then◌else◌}
use Rattle.std.specs.Prelude.{◌&&◌, not}
use Rattle.std.proofs.lemmas.Bool.{cases_eq, eqb-true, ne_eqb}
use Rattle.dsm_words.specs.declared.item.Item.TheVariants.{Twined, Dir, Update, Turn}
use Rattle.dsm_words.specs.Script.{Act, Put}
use Rattle.dsm_words.specs.Words.{word, done}
use Rattle.dsm_directory.specs.declared.row.Row.{Row}
use Rattle.dsm_directory.specs.Directory.{no_row, is_busy}
use Rattle.dsm_protocol.specs.Own.{Own, node_of}
use Rattle.dsm_protocol.specs.Steps.{allows, page_of}
use Rattle.dsm_protocol.specs.Stages.{Seeker, For_fault, For_release, For_closing, Stage, Asked, Seeking, Missing, Clearing, Registering, Sharing, Wanting, Parting, Visiting, Back, Testing, Claiming, Claimed, Withdrawing, Entering, Entered, Round, On, found, registered, stage_turn}
use Rattle.dsm_protocol.specs.Rows.{map_at, seeks, settles, clears, registers, shares, wants, parts, sees_again, tests, claims, faults, returns, shared, unwanted, claimed}
use Rattle.dsm_clock.specs.declared.turns.TurnId.TheVariants.{Page}
use Rattle.dsm_copies.specs.Modes.{Mode, Bare, Twinned, Exclusive}
use Rattle.dsm_owners.specs.Stages as O
use Rattle.dsm_fresh.specs.Pages as S
use Rattle.dsm_freshness.specs.Events as FE
use Rattle.dsm_twoway.specs.Views.{resting, mode_view}
use Rattle.dsm_twoway.specs.Tied.{IsAway, rest_of, is_copied, is_beginning}
use Rattle.dsm_twoway.proofs.Numbers.{AllQuiet, step_quiet}
use Rattle.dsm_twoway.proofs.Scene.{Scene, RowActs, WinActs, SlipActs, Acted, Meets}
use Rattle.dsm_twoway.proofs.Changes.{stays, becomes, rest_stays}
use Rattle.dsm_twoway.proofs.Frame.{by_none, on_knows}
use Rattle.dsm_twoway.proofs.Blocks.{turn_node, at_turn, stage_is}
use Rattle.dsm_twoway.proofs.Controls.{quiet_stay, won_row, given, control_words, control_row, turn_kept, home_has, Like, like_pick, like_row, like_stay}

-- a twin that is up, or exclusive use, where both words are as before
both : {p p' q q' : ℕ} → p' ≡ p → q' ≡ q → (p' ≡ 1) ⊎ (q' ≡ 2) → (p ≡ 1) ⊎ (q ≡ 2)
both e d (inl z) = inl (sym e ∙ z)
both e d (inr z) = inr (sym d ∙ z)

module _ (s : Scene) where
  -- the home is found
  like_registered : {k d : ℕ} (z : Stage) (write : Bool) (h : ℕ) (b : Bool) → Like s k (Seeking (For_fault write d)) z → Like s k z (registered write h b)
  like_registered z write h true l = record { turn = sym l.turn; same = λ rest d d'. sym (l.same rest d d); copied = refl; beginning = refl }
  like_registered z write h false l = record { turn = sym l.turn; same = λ rest d d'. sym (l.same rest d d); copied = refl; beginning = refl }

  -- its node registers, or it is checked, or broken
  like_found : {k : ℕ} (a : Seeker) (h : ℕ) → Like s k (Seeking a) (found s.u a h)
  like_found (For_fault write d) h = like_registered {d = d} (Seeking (For_fault write d)) write h (d == 0) (record { turn = refl; same = λ rest d d'. refl; copied = refl; beginning = refl })
  like_found For_release h = record { turn = refl; same = λ rest d d'. refl; copied = refl; beginning = refl }
  like_found (For_closing j) h = record { turn = refl; same = λ rest d d'. refl; copied = refl; beginning = refl }

  -- behind the answer that there is none, the same is open
  like_missing : {k : ℕ} (a : Seeker) (t : Stage) → Like s k (Seeking a) t → Like s k (Missing a) t
  like_missing (For_fault write d) t l = record { turn = l.turn; same = l.same; copied = l.copied; beginning = l.beginning }
  like_missing For_release t l = record { turn = l.turn; same = l.same; copied = l.copied; beginning = l.beginning }
  like_missing (For_closing j) t l = record { turn = l.turn; same = l.same; copied = l.copied; beginning = l.beginning }

  -- there is none yet
  like_sought : {k : ℕ} (a : Seeker) → Like s k (Seeking a) (Missing a)
  like_sought (For_fault write d) = record { turn = refl; same = λ rest d d'. refl; copied = refl; beginning = refl }
  like_sought For_release = record { turn = refl; same = λ rest d d'. refl; copied = refl; beginning = refl }
  like_sought (For_closing j) = record { turn = refl; same = λ rest d d'. refl; copied = refl; beginning = refl }

  module _ (o : Own) where
    -- the home is looked up, and where there is none it is settled
    pub row_seeks : {r : Round} {g x : ℕ} {a : Seeker} → RowActs s o (seeks {r = r} {g = g} {x = x} {a = a})
    row_seeks {r} {g} {x} {a} f = like_row s {r = r} {k = g} {z = Seeking a} (λ m n. []) [] f (λ i. refl) tt (λ m n. tt) (like_pick s (x == 0) (like_sought a) (like_found a ((x - 1) % s.u.lay.nodes)))

    pub row_settles : {r : Round} {g x : ℕ} {a : Seeker} → RowActs s o (settles {r = r} {g = g} {x = x} {a = a})
    row_settles {r} {g} {x} {a} f = like_row s {r = r} {k = g} {z = Missing a} (λ m n. []) [] f (λ i. absurd i) tt (λ m n. tt) (like_missing a (found s.u a (if x == 0 then node_of s.u else (x - 1) % s.u.lay.nodes)) (like_found a (if x == 0 then node_of s.u else (x - 1) % s.u.lay.nodes)))

    -- the stamp of the node's copy is cleared
    pub row_clears : {r : Round} {g h x : ℕ} {write : Bool} → RowActs s o (clears {r = r} {g = g} {h = h} {x = x} {write = write})
    row_clears {r} {g} {h} {x} {write} f =
        control_row s {r = r} {k = g} {z = Clearing write h} (Registering write h) es (node_of s.u) f (λ i. i) (λ m n. step_quiet m n s.g s.u {ms = o.maps} {ds = o.dirty} (clears {r = r} {g = g} {h = h} {x = x} {write = write}) refl) refl refl refl refl
        (λ d. control_words s a f.within (node_of s.u) (refl, d) (λ away. turn_kept s {z = Clearing write h} (node_of s.u) f d refl away)
        (λ away ne. absurd (ne ((λ q. word s.u.lay (done s.u.lay s.ws (Put (Update (node_of s.u) g) 0)) (Update (node_of s.u) (sym d q))) ∙ becomes s (Put (Update (node_of s.u) g) 0) f.within)))
        (λ away z. (s.match.words.each (node_of s.u) away).rights (both (stays s (Put (Update (node_of s.u) g) 0) f.within (Twined (node_of s.u) s.g) (away.0, s.g_in) (λ e. absurd (cc e))) (stays s (Put (Update (node_of s.u) g) 0) f.within (Dir (node_of s.u) s.g) (away.0, s.g_in) (λ e. absurd (cc e))) z))
        (ap (λ z. z == 2) (stays s (Put (Update (node_of s.u) g) 0) f.within (Dir s.h s.g) (s.h_in, s.g_in) (λ e. absurd (cc e))) ∙ s.match.words.home_is))
        (λ d away b b'. rest_stays s (Put (Update (node_of s.u) g) 0) f.within (node_of s.u) (stays s (Put (Update (node_of s.u) g) 0) f.within (Dir (node_of s.u) s.g) (away.0, s.g_in) (λ e. absurd (cc e))) (stays s (Put (Update (node_of s.u) g) 0) f.within (Twined (node_of s.u) s.g) (away.0, s.g_in) (λ e. absurd (cc e))))
      where
        es : (m n : ℕ) → List S.Event
        es m n = FE.step_events m n s.g s.u {maps = o.maps} {dirty = o.dirty} (clears {r = r} {g = g} {h = h} {x = x} {write = write})

        a : Act
        a = Put (Update (node_of s.u) g) 0

    -- the directory's word of the node is stored where it is not 2 before and behind
    dir_row : {r : Round} {k y : ℕ} {z : Stage} (t : Stage) (v : ℕ) (es : (m n : ℕ) → List S.Event) → Meets s (On r k z) o (Put (Dir (node_of s.u) k) v) y → ((m n : ℕ) → AllQuiet (es m n)) → stage_turn s.u k z ≡ Some (Page (node_of s.u) k) → stage_turn s.u k t ≡ Some (Page (node_of s.u) k) → is_copied t ≡ false → is_beginning t ≡ false
        → ((rest : Mode) (d : Bool) → mode_view s.i rest d z ≡ rest) → ((rest : Mode) (d : Bool) → mode_view s.i rest d t ≡ rest) → (k ≡ s.g → (s.b.nodes (node_of s.u)).dir ≢ 2) → v ≢ 2 → Acted s (On r k t) (done s.u.lay s.ws (Put (Dir (node_of s.u) k) v)) es []
    dir_row {r} {k} {y} {z} t v es f quiet tu tu' copied beginning rests rests' low ne =
        control_row s {r = r} {k = k} {z = z} t es (node_of s.u) f (λ i. i) quiet tu tu' copied beginning
        (λ d. control_words s (Put (Dir (node_of s.u) k) v) f.within (node_of s.u) (refl, d) (λ away. turn_kept s {z = z} (node_of s.u) f d tu away)
        (λ away ne. (s.match.words.each (node_of s.u) away).fetched_is (λ e. ne (stays s (Put (Dir (node_of s.u) k) v) f.within (Update (node_of s.u) s.g) (away.0, s.g_in) (λ e. absurd (cc e)) ∙ e)))
        (λ away w. (s.match.words.each (node_of s.u) away).rights (twin d (stays s (Put (Dir (node_of s.u) k) v) f.within (Twined (node_of s.u) s.g) (away.0, s.g_in) (λ e. absurd (cc e))) w))
        (home d (cases_eq (node_of s.u) s.h)))
        (λ d away b b'. rests' (rest_of s.h s.g s.i s.u (done s.u.lay s.ws (Put (Dir (node_of s.u) k) v)) (node_of s.u)) b' ∙ rest d away ∙ sym (rests (rest_of s.h s.g s.i s.u s.ws (node_of s.u)) b))
      where
        after : k ≡ s.g → word s.u.lay (done s.u.lay s.ws (Put (Dir (node_of s.u) k) v)) (Dir (node_of s.u) s.g) ≡ v
        after d = (λ q. word s.u.lay (done s.u.lay s.ws (Put (Dir (node_of s.u) k) v)) (Dir (node_of s.u) (sym d q))) ∙ becomes s (Put (Dir (node_of s.u) k) v) f.within

        before : k ≡ s.g → word s.u.lay s.ws (Dir (node_of s.u) s.g) ≢ 2
        before d e = low d (sym (s.owned.dir (node_of s.u) s.at.node_in) ∙ e)

        twin : k ≡ s.g → {p p' : ℕ} → p' ≡ p → (p' ≡ 1) ⊎ (word s.u.lay (done s.u.lay s.ws (Put (Dir (node_of s.u) k) v)) (Dir (node_of s.u) s.g) ≡ 2) → (p ≡ 1) ⊎ (word s.u.lay s.ws (Dir (node_of s.u) s.g) ≡ 2)
        twin d e (inl w) = inl (sym e ∙ w)
        twin d e (inr w) = absurd (ne (sym (after d) ∙ w))

        none : {p : ℕ} → p ≢ 2 → (p == 2) ≡ false
        none {p} e = ne_eqb p 2 e

        home : k ≡ s.g → (node_of s.u ≡ s.h) ⊎ (node_of s.u ≢ s.h) → (word s.u.lay (done s.u.lay s.ws (Put (Dir (node_of s.u) k) v)) (Dir s.h s.g) == 2) ≡ s.x.home_exclusive
        home d (inl e) =
            subst (λ q. (word s.u.lay (done s.u.lay s.ws (Put (Dir (node_of s.u) k) v)) (Dir q s.g) == 2) ≡ (word s.u.lay s.ws (Dir q s.g) == 2)) e (ap (λ z. z == 2) (after d) ∙ none ne ∙ sym (none (before d)))
            ∙ s.match.words.home_is
        home d (inr off) = ap (λ z. z == 2) (stays s (Put (Dir (node_of s.u) k) v) f.within (Dir s.h s.g) (s.h_in, s.g_in) (λ e. off (sym (cc e)))) ∙ s.match.words.home_is

        rest : k ≡ s.g → IsAway s.h s.u (node_of s.u) → rest_of s.h s.g s.i s.u (done s.u.lay s.ws (Put (Dir (node_of s.u) k) v)) (node_of s.u) ≡ rest_of s.h s.g s.i s.u s.ws (node_of s.u)
        rest d away =
            ap (λ q. resting q (word s.u.lay (done s.u.lay s.ws (Put (Dir (node_of s.u) k) v)) (Twined (node_of s.u) s.g))) (after d)
            ∙ ap (λ q. if q then Exclusive else (if word s.u.lay (done s.u.lay s.ws (Put (Dir (node_of s.u) k) v)) (Twined (node_of s.u) s.g) == 1 then Twinned else Bare)) (none ne ∙ sym (none (before d)))
            ∙ ap (λ q. resting (word s.u.lay s.ws (Dir (node_of s.u) s.g)) q) (stays s (Put (Dir (node_of s.u) k) v) f.within (Twined (node_of s.u) s.g) (away.0, s.g_in) (λ e. absurd (cc e)))

    -- the node registers
    pub row_registers : {r : Round} {g h x : ℕ} {write : Bool} → RowActs s o (registers {r = r} {g = g} {h = h} {x = x} {write = write})
    row_registers {r} {g} {h} {x} {write} f =
        dir_row {r = r} {k = g} {z = Registering write h} (Sharing write h 0 no_row) 1 (λ m n. FE.step_events m n s.g s.u {maps = o.maps} {dirty = o.dirty} (registers {r = r} {g = g} {h = h} {x = x} {write = write})) f
        (λ m n. step_quiet m n s.g s.u {ms = o.maps} {ds = o.dirty} (registers {r = r} {g = g} {h = h} {x = x} {write = write}) refl) refl refl refl refl (λ rest d. refl) (λ rest d. refl)
        (λ d e. let at = at_turn s (O.Registering write) (node_of s.u) (stage_is s {z = Registering write h} f d) refl in let z = at.0 in absurd (omega (arith, z, e))) (λ e. absurd (omega (arith, e)))

    -- it claims the page
    pub row_claims : {r : Round} {g h x : ℕ} → RowActs s o (claims {r = r} {g = g} {h = h} {x = x})
    row_claims {r} {g} {h} {x} f =
        dir_row {r = r} {k = g} {z = Claiming h} (Claimed h 0 no_row) 3 (λ m n. FE.step_events m n s.g s.u {maps = o.maps} {dirty = o.dirty} (claims {r = r} {g = g} {h = h} {x = x})) f
        (λ m n. step_quiet m n s.g s.u {ms = o.maps} {ds = o.dirty} (claims {r = r} {g = g} {h = h} {x = x}) refl) refl refl refl refl (λ rest d. refl) (λ rest d. refl)
        (λ d e. let at = at_turn s O.Claiming (node_of s.u) (stage_is s {z = Claiming h} f d) refl in let z = at.0 in absurd (omega (arith, z, e))) (λ e. absurd (omega (arith, e)))

    -- the other nodes' words are read
    pub row_shares : {r : Round} {g h j x : ℕ} {write : Bool} {row : Row} → RowActs s o (shares {r = r} {g = g} {h = h} {j = j} {x = x} {write = write} {row = row})
    row_shares {r} {g} {h} {j} {x} {write} {row} f = like_row s {r = r} {k = g} {z = Sharing write h j row} (λ m n. []) [] f (λ i. refl) tt (λ m n. tt) (record { turn = refl; same = λ rest d d'. refl; copied = refl; beginning = refl })

    -- the wanted mapping is stored
    pub row_wants : {r : Round} {g h busy x : ℕ} {write : Bool} (e : (map_at s.u o.maps o.dirty g == 0) ≡ true) → RowActs s o (wants {r = r} {g = g} {h = h} {busy = busy} {x = x} {write = write} e)
    row_wants {r} {g} {h} {busy} {x} {write} e f = like_row s {r = r} {k = g} {z = Wanting write h busy} (λ m n. []) [] f (λ i. absurd i) tt (λ m n. tt) (record { turn = refl; same = λ rest d d'. refl; copied = refl; beginning = refl })

    -- its turn is given back before the visits
    pub row_parts : {r : Round} {g h busy x : ℕ} {write : Bool} → RowActs s o (parts {r = r} {g = g} {h = h} {busy = busy} {x = x} {write = write})
    row_parts {r} {g} {h} {busy} {x} {write} f =
        by_none s {es = λ m n. []} [] tt (given s {z = Parting write h busy} (node_of s.u) f refl (λ rest d. refl))
        (on_knows s (done s.u.lay s.ws (Put (Turn (node_of s.u) g) 0)) s.fresh s.pages s.x s.c r g (Visiting write h busy 0) refl refl (λ n away d tu. absurd (cc tu)))

    -- behind the visits its node's word is read again
    pub row_sees_again : {r : Round} {g h x : ℕ} {write : Bool} → RowActs s o (sees_again {r = r} {g = g} {h = h} {x = x} {write = write})
    row_sees_again {r} {g} {h} {x} {write} f =
        like_row s {r = r} {k = g} {z = Back write h} (λ m n. FE.step_events m n s.g s.u {maps = o.maps} {dirty = o.dirty} (sees_again {r = r} {g = g} {h = h} {x = x} {write = write})) [] f (λ i. refl) tt
        (λ m n. step_quiet m n s.g s.u {ms = o.maps} {ds = o.dirty} (sees_again {r = r} {g = g} {h = h} {x = x} {write = write}) refl)
        (like_pick s (x == 2) (record { turn = refl; same = λ rest d d'. refl; copied = refl; beginning = refl }) (record { turn = refl; same = λ rest d d'. refl; copied = refl; beginning = refl }))

    -- its twin is looked for before a claim
    pub row_tests : {r : Round} {g h x : ℕ} → RowActs s o (tests {r = r} {g = g} {h = h} {x = x})
    row_tests {r} {g} {h} {x} f = like_row s {r = r} {k = g} {z = Testing h} (λ m n. []) [] f (λ i. refl) tt (λ m n. tt) (like_pick s (x == 1) (record { turn = refl; same = λ rest d d'. refl; copied = refl; beginning = refl }) (record { turn = refl; same = λ rest d d'. refl; copied = refl; beginning = refl }))

    -- decisions
    pub slip_shared : {r : Round} {g h : ℕ} {write : Bool} {row : Row} → SlipActs s o (shared {r = r} {g = g} {h = h} {write = write} {row = row})
    slip_shared {r} {g} {h} {write} {row} own f =
        like_stay s {r = r} {k = g} {z = Sharing write h s.u.lay.nodes row} (λ m n. []) [] f.knows tt (λ m n. tt)
        (like_pick s (row.busy == 0) (like_pick s (write && not row.others) (record { turn = refl; same = λ rest d d'. refl; copied = refl; beginning = refl }) (record { turn = refl; same = λ rest d d'. refl; copied = refl; beginning = refl })) (record { turn = refl; same = λ rest d d'. refl; copied = refl; beginning = refl }))

    pub slip_unwanted : {r : Round} {g h busy : ℕ} {write : Bool} (e : (map_at s.u o.maps o.dirty g == 0) ≡ false) → SlipActs s o (unwanted {r = r} {g = g} {h = h} {busy = busy} {write = write} e)
    slip_unwanted {r} {g} {h} {busy} {write} e own f = like_stay s {r = r} {k = g} {z = Wanting write h busy} (λ m n. []) [] f.knows tt (λ m n. tt) (record { turn = refl; same = λ rest d d'. refl; copied = refl; beginning = refl })

    -- who is at the home enters at once, and there no copy is
    pub slip_claimed : {r : Round} {g h : ℕ} {row : Row} → SlipActs s o (claimed {r = r} {g = g} {h = h} {row = row})
    slip_claimed {r} {g} {h} {row} own f = go row.others (node_of s.u == h) refl
      where
        go : (b d : Bool) → (node_of s.u == h) ≡ d → Acted s (On r g (if b then Withdrawing h else (if d then Entered else Entering h))) s.ws (λ m n. []) []
        go true d e = like_stay s {r = r} {k = g} {z = Claimed h s.u.lay.nodes row} (λ m n. []) [] f.knows tt (λ m n. tt) (record { turn = refl; same = λ rest d d'. refl; copied = refl; beginning = refl })
        go false false e = like_stay s {r = r} {k = g} {z = Claimed h s.u.lay.nodes row} (λ m n. []) [] f.knows tt (λ m n. tt) (record { turn = refl; same = λ rest d d'. refl; copied = refl; beginning = refl })
        go false true e = quiet_stay s {r = r} {k = g} {z = Claimed h s.u.lay.nodes row} {t = Entered} (λ m n. []) [] f.knows tt (λ m n. tt) refl
            (λ n away tu d b b'. absurd (away.1 (sym (ap turn_node tu) ∙ eqb-true (node_of s.u) h e ∙ home_has s f.owns.homes d h refl))) refl refl

    -- turns
    pub win_faults : {a : ℕ} {write : Bool} (e : allows write (map_at s.u o.maps o.dirty (page_of s.u a)) ≡ false) → WinActs s o (faults {a = a} {write = write} e)
    win_faults {a} {write} e f = won_row s (Asked write) (node_of s.u) f refl (λ rest d. refl) refl refl

    pub win_returns : {r : Round} {g h busy i : ℕ} {write : Bool} (none : (k : ℕ) → i ≤ k → k < s.u.lay.nodes → is_busy busy k ≡ false) → WinActs s o (returns {r = r} {g = g} {h = h} {busy = busy} {i = i} {write = write} none)
    win_returns {r} {g} {h} {busy} {i} {write} none f = won_row s (Back write h) (node_of s.u) f refl (λ rest d. refl) refl refl
