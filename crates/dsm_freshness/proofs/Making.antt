-- By whom an event is made, and the turn that its maker holds.
use Rattle.std.proofs.Common.{◌≡◌, ◌⊎◌, inl, inr, ℕ, ◌+◌, ◌*◌, ◌==◌, Bool, true, false, List, [], ◌∷◌, Option, None, Some, refl, sym, ap, ◌∙◌, if◌then◌else◌}
use Rattle.std.specs.Prelude.{◌&&◌, ◌||◌, nat_lt}
use Rattle.std.proofs.lemmas.Bool.{eqb-true}
use Rattle.dsm_words.specs.Pages.{group_of, has_page}
use Rattle.dsm_words.specs.Script.{Act}
use Rattle.dsm_clock.specs.declared.turns.TurnId.{TurnId}
use Rattle.dsm_clock.specs.declared.turns.TurnId.TheVariants.{Page, Notices}
use Rattle.dsm_protocol.specs.Own.{Who, node_of}
use Rattle.dsm_protocol.specs.Jobs.{Note}
use Rattle.dsm_protocol.specs.Stages.{Work, turn_at}
use Rattle.dsm_protocol.specs.Rows.{Step, Slip, Noted, sees_dir, clears, registers, breaks, sees_again, claims, withdraws, draws_enter, stamps_enter, enters, judges, draws, stamps, sets, gives, draws_send, stamps_flush, reads_dir, posts, unlists, sees_acquire, judges_own, unmaps, leaves, draws_release, drains, draws_notice, notices, flags, gives_notices, takes, flagged, passed_over, passes, quits, acquired, begins_copy, begins_fill, fetched, filled, told}
use Rattle.dsm_fresh.specs.Pages.{Event, Reset, Register, Claim, Share, Leave, Draw, First, Last, Stamp, Enter, Current, Current_sole, Map, Done, Send, Pass_by, Post_bit, Tell, Break, Pass, Drain_none, Drain_some, Time, Notify, Flag, Flagged, Other_time, Other_notice, Other_flag, Give, Take, Skip, Unmap, Keep, Keep_sole, Settle, Tick}
use Rattle.dsm_freshness.specs.Views.{is_set}
use Rattle.dsm_freshness.specs.Events.{only, is_page, step_events, slip_events, note_events}
use Rattle.dsm_freshness.proofs.Frame.{both}

-- processor p makes it, where it tells of its maker
abbrev pub IsBy : ℕ → Event → Type 0
IsBy p (Draw q) = q ≡ p
IsBy p (First q a) = q ≡ p
IsBy p (Last q) = q ≡ p
IsBy p (Stamp q) = q ≡ p
IsBy p (Enter q) = q ≡ p
IsBy p (Current q) = q ≡ p
IsBy p (Current_sole q) = q ≡ p
IsBy p (Map q) = q ≡ p
IsBy p (Done q) = q ≡ p
IsBy p (Pass q) = q ≡ p
IsBy p (Drain_none q) = q ≡ p
IsBy p (Drain_some q) = q ≡ p
IsBy p (Give q) = q ≡ p
IsBy p (Take q) = q ≡ p
IsBy p (Skip q) = q ≡ p
IsBy p (Unmap q) = q ≡ p
IsBy p (Keep q) = q ≡ p
IsBy p (Keep_sole q) = q ≡ p
IsBy p (Settle q) = q ≡ p
IsBy p e = Unit {0}

module _ (m n g : ℕ) where
  -- the turn under which it is made
  abbrev pub need : Event → Option TurnId
  need Reset = Some (Page n g)
  need (Draw q) = Some (Page n g)
  need (First q a) = Some (Page n g)
  need (Last q) = Some (Page n g)
  need (Stamp q) = Some (Page n g)
  need (Enter q) = Some (Page n g)
  need (Current q) = Some (Page n g)
  need (Current_sole q) = Some (Page n g)
  need (Done q) = Some (Page n g)
  need Send = Some (Page m g)
  need (Drain_some q) = Some (Notices n)
  need Time = Some (Notices n)
  need Notify = Some (Notices n)
  need Flag = Some (Notices n)
  need Flagged = Some (Notices n)
  need Other_time = Some (Notices n)
  need Other_notice = Some (Notices n)
  need e = None

  -- processor p makes it, and holds turn t
  abbrev pub Made : ℕ → Option TurnId → Event → Type 0
  Made p t e = IsBy p e × ((need e ≡ None) ⊎ (need e ≡ t))

  abbrev pub AllMade : ℕ → Option TurnId → List Event → Type 0
  AllMade p t [] = Unit {0}
  AllMade p t (e ∷ es) = Made p t e × AllMade p t es

  module _ (u : Who) (t : Option TurnId) where
    abbrev By : List Event → Type 0
    By es = AllMade u.p t es

    at_page : {h : ℕ} → (node_of u == n) ≡ true → (h == g) ≡ true → Some (Page (node_of u) h) ≡ Some (Page n g)
    at_page {h} e d = λ i. Some (Page (eqb-true (node_of u) n e i) (eqb-true h g d i))

    where_so : (d : Bool) (e : Event) → (d ≡ true → Made u.p t e) → By (only d e)
    where_so true e h = (h refl, tt)
    where_so false e h = tt

    free : (d : Bool) (e : Event) → IsBy u.p e → need e ≡ None → By (only d e)
    free d e i z = where_so d e (λ _. (i, inl z))

    -- under the turn of its own node's copy, at the page
    own : (h : ℕ) (e : Event) → IsBy u.p e → need e ≡ Some (Page n g) → t ≡ Some (Page (node_of u) h) → By (only (h == g && node_of u == n) e)
    own h e i z at = where_so (h == g && node_of u == n) e (λ d. let y = both d in (i, inr (z ∙ sym (at ∙ ap Some (λ j. Page (eqb-true (node_of u) n y.1 j) (eqb-true h g y.0 j))))))

    drawn : (h : ℕ) → t ≡ Some (Page (node_of u) h) → By (only (node_of u == n) (if h == g then Draw u.p else Tick))
    drawn h at = where_so (node_of u == n) (if h == g then Draw u.p else Tick) (λ d. go (eqb-true (node_of u) n d) (h == g) refl)
      where
        go : node_of u ≡ n → (d : Bool) → (h == g) ≡ d → Made u.p t (if d then Draw u.p else Tick)
        go e true d = (refl, inr (sym (at ∙ ap Some (λ j. Page (e j) (eqb-true h g d j)))))
        go e false d = (tt, inl refl)

    broke : (j : ℕ) (c d : Bool) → By (if c then (if d then Share ∷ [] else only (j == m) Break) else [])
    broke j false d = tt
    broke j true true = ((tt, inl refl), tt)
    broke j true false = free (j == m) Break tt refl

    unless : (c : Bool) (es : List Event) → By es → By (if c then [] else es)
    unless true es h = tt
    unless false es h = h

  module _ (u : Who) {ms : List ℕ} {ds : List Bool} where
    pub row_made : {w : Work} {a : Act} {x : ℕ} {v : Work} (step : Step u ms ds w a x v) → AllMade u.p (turn_at u w) (step_events m n g u step)
    row_made (sees_dir {g = h} {x = x}) = where_so u _ (h == g && node_of u == n && x == 2) (Current_sole u.p) (λ d. let y = both (both d).0 in (refl, inr (sym (at_page u None y.1 y.0))))
    row_made (clears {g = h}) = own u _ h Reset tt refl refl
    row_made (registers {g = h}) = free u _ _ Register tt refl
    row_made (breaks {g = h} {j = j}) = broke u _ j (h == g) (j == n)
    row_made (claims {g = h}) = free u _ _ Claim tt refl
    row_made (withdraws {g = h}) = free u _ _ Share tt refl
    row_made (draws_enter {g = h}) = drawn u _ h refl
    row_made (stamps_enter {g = h}) = own u _ h (Stamp u.p) refl refl refl
    row_made (enters {g = h}) = own u _ h (Enter u.p) refl refl refl
    row_made (judges {g = h} {y = y} {x = x}) = unless u _ (y == 0 || nat_lt y x) _ (own u _ h (Current u.p) refl refl refl)
    row_made (draws {g = h}) = drawn u _ h refl
    row_made (stamps {g = h}) = own u _ h (Stamp u.p) refl refl refl
    row_made (sets {g = h}) = free u _ _ (Map u.p) refl refl
    row_made (gives {g = h}) = own u _ h (Done u.p) refl refl refl
    row_made (draws_send {g = h}) = free u _ _ Tick tt refl
    row_made (stamps_flush {g = h} {h = home} {flushed = flushed}) = where_so u _ (h == g && node_of u == m && (flushed || node_of u == home)) Send (λ d. let y = both (both d).0 in (tt, inr (sym (λ i. Some (Page (eqb-true (node_of u) m y.1 i) (eqb-true h g y.0 i))))))
    row_made (reads_dir {g = h} {j = j} {x = x}) = free u _ _ Pass_by tt refl
    row_made (posts {g = h} {j = j} v e) = free u _ _ Post_bit tt refl
    row_made (unlists {g = h}) = free u _ _ Leave tt refl
    row_made (sees_again {g = h} {x = x}) = where_so u _ (h == g && node_of u == n && x == 2) (Current_sole u.p) (λ d. let y = both (both d).0 in (refl, inr (sym (at_page u None y.1 y.0))))
    row_made (sees_acquire {g = h} {x = x}) = free u _ _ (Keep_sole u.p) refl refl
    row_made (judges_own {g = h} {y = y} {x = x}) = unless u _ (y == 0 || nat_lt y x) _ (free u _ _ (Keep u.p) refl refl)
    row_made (unmaps {g = h}) = free u _ _ (Unmap u.p) refl refl
    row_made (leaves {g = h}) = free u _ _ Leave tt refl
    row_made draws_release = free u _ _ Tick tt refl
    row_made (drains {j = j} {k = k} {x = x}) = where_so u _ (node_of u == n && j == m && k == group_of g) (if is_set m n g x then Drain_some u.p else Drain_none u.p) (λ d. go (eqb-true (node_of u) n (both (both d).0).0) (is_set m n g x))
      where
        go : node_of u ≡ n → (c : Bool) → Made u.p (Some (Notices (node_of u))) (if c then Drain_some u.p else Drain_none u.p)
        go e true = (refl, inr (sym (ap Some (λ i. Notices (e i)))))
        go e false = (refl, inl refl)
    row_made (draws_notice {j = j} {k = k} {b = b} e j_in page) = where_so u _ (node_of u == n) (if 64 * k + b == g then (if j == m && k == group_of g then Time else Other_time) else Tick) (λ d. go (eqb-true (node_of u) n d) (64 * k + b == g) (j == m && k == group_of g))
      where
        go : node_of u ≡ n → (c d : Bool) → Made u.p (Some (Notices (node_of u))) (if c then (if d then Time else Other_time) else Tick)
        go e true true = (tt, inr (sym (ap Some (λ i. Notices (e i)))))
        go e true false = (tt, inr (sym (ap Some (λ i. Notices (e i)))))
        go e false d = (tt, inl refl)
    row_made (notices {j = j} {k = k} {b = b}) = where_so u _ (node_of u == n && 64 * k + b == g) (if j == m && k == group_of g then Notify else Other_notice) (λ d. go (eqb-true (node_of u) n (both d).0) (j == m && k == group_of g))
      where
        go : node_of u ≡ n → (c : Bool) → Made u.p (Some (Notices (node_of u))) (if c then Notify else Other_notice)
        go e true = (tt, inr (sym (ap Some (λ i. Notices (e i)))))
        go e false = (tt, inr (sym (ap Some (λ i. Notices (e i)))))
    row_made (flags {j = j} {k = k} {b = b} {q = q} e lo hi) = where_so u _ (node_of u == n && is_page m n g u k b) (if j == m then Flag else Other_flag q) (λ d. go (eqb-true (node_of u) n (both d).0) (j == m))
      where
        go : node_of u ≡ n → (c : Bool) → Made u.p (Some (Notices (node_of u))) (if c then Flag else Other_flag q)
        go e true = (tt, inr (sym (ap Some (λ i. Notices (e i)))))
        go e false = (tt, inl refl)
    row_made gives_notices = free u _ _ (Give u.p) refl refl
    row_made (takes {k = k}) = free u _ _ (Take u.p) refl refl
    row_made step = tt

    pub slip_made : {w v : Work} (slip : Slip u ms ds w v) → AllMade u.p (turn_at u w) (slip_events m n g u slip)
    slip_made (flagged {j = j} {k = k} {b = b}) = where_so u _ (node_of u == n && is_page m n g u k b && j == m) Flagged (λ d. (tt, inr (sym (ap Some (λ i. Notices (eqb-true (node_of u) n (both (both d).0).0 i))))))
    slip_made (passed_over {g = h} {set = set} e) = free u _ (node_of u == n && h == g && has_page set g) (Skip u.p) refl refl
    slip_made slip = tt

  pub note_made : (u : Who) {w : Work} {i : Note} {v : Work} (noted : Noted u None w i v) → AllMade u.p (turn_at u w) (note_events m n g u noted)
  note_made u (passes none) = free u _ _ (Pass u.p) refl refl
  note_made u (quits none) = free u _ _ (Pass u.p) refl refl
  note_made u acquired = free u _ _ (Settle u.p) refl refl
  note_made u (begins_copy {g = h}) = own u _ h (First u.p false) refl refl refl
  note_made u (begins_fill {g = h}) = own u _ h (First u.p true) refl refl refl
  note_made u (fetched {g = h}) = own u _ h (Last u.p) refl refl refl
  note_made u (filled {g = h}) = own u _ h (Last u.p) refl refl refl
  note_made u (told {g = h} e) = free u _ _ Tell tt refl
  note_made u noted = tt
