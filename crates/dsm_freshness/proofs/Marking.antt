-- Each trail is a list of marks that fit, and who owes the note of a send has just sent.
use Rattle.std.proofs.Common.{◌≡◌, ◌≢◌, ◌⊎◌, inl, inr, ℕ, suc, ◌*◌, ◌/◌, ◌<◌, ◌≤◌, ◌==◌, Bool, true, false, List, [], ◌∷◌, ◌++◌, None, refl, sym, ap, ◌∙◌, subst, arith}
use Rattle.std.specs.Prelude.{◌&&◌}
use Rattle.std.proofs.lemmas.Bool.{eqb-true, eq-eqb}
use Rattle.std.proofs.lemmas.List.{append-nil}
use Rattle.dsm_words.specs.Script.{Act}
use Rattle.dsm_protocol.specs.Own.{Own, Who}
use Rattle.dsm_protocol.specs.Jobs.{Note, Happen, Passed, Acquired, Told, Began, Fetched}
use Rattle.dsm_protocol.specs.Stages.{Work}
use Rattle.dsm_protocol.specs.Rows.{IsPlain, Noted, passes, quits, acquired, begins_copy, begins_fill, fetched, filled, broken, broadcast, sent, told, counts}
use Rattle.dsm_protocol.specs.Standing.{Does, Row, Won, Lost, Aside}
use Rattle.dsm_runs.specs.Setups.{Setup, who_at}
use Rattle.dsm_ties.proofs.Trails.{Position, Piece, Decides, Acts, Notes, Starves, is_noting, Trail, Starts, Goes, piece_moments, moments_of}
use Rattle.dsm_fresh.specs.Pages.{State, Event, First, Last, Pass, Settle, Send, Tell, Break, happens, after, start}
use Rattle.dsm_freshness.specs.Events.{only, slip_events, note_events}
use Rattle.dsm_freshness.proofs.Following.{after_append}
use Rattle.dsm_freshness.proofs.Finding.{gather_append, before_last}
use Rattle.dsm_freshness.proofs.Trailing.{does_fresh, piece_fresh, fresh_of, left, at_put, works_left}
use Rattle.dsm_freshness.proofs.Owing.{Owes, Tells, IsTop, owes_noting, Owed, Sends, piece_owes}
use Rattle.dsm_freshness.proofs.Marks.{AllPlain, step_plain, slip_plain, Mark, event_in, moment_in, events_in, moments_in, deeds, noted as noted_marks, deeds_events, deeds_moments, noted_events, noted_moments, sent_by, told_by, Late, AllFit, fit_append, deeds_fit}

-- the number of sends never falls
sent_step : (first : ℕ) (f : State) (e : Event) → f.page.sent ≤ (happens first f e).page.sent
sent_step first f Send = omega arith
sent_step first f Break = omega arith
sent_step first f e = omega arith

pub sent_more : (first : ℕ) (f : State) (es : List Event) → f.page.sent ≤ (after first f es).page.sent
sent_more first f [] = omega arith
sent_more first f (e ∷ es) = let a = sent_step first f e in let b = sent_more first (happens first f e) es in omega (arith, a, b)

module _ (first : ℕ) where
  -- of a list and one that goes on
  pub sent_prefix : (es fs : List Event) → sent_by first es ≤ sent_by first (es ++ fs)
  sent_prefix es fs =
      let a = sent_more first (after first start es) fs in
      let b = ap (λ z. z.page.sent) (after_append first 0 start es fs) in
      omega (arith, a, b)

  -- behind the end of a send no fetch has begun
  late_one : (es : List Event) (e : Event) → sent_by first (es ++ (e ∷ [])) ≡ suc (sent_by first es) → ((i : ℕ) (a : Bool) → e ≢ First i a) → Late first (es ++ (e ∷ []))
  late_one es e h ne =
      record {
        some = omega (arith, h);
        later = λ xs ys i a z.
            let b = before_last es e xs (First i a) ys z (ne i a) in
            let c = sent_prefix xs (First i a ∷ b.0) in
            let d = ap (sent_by first) b.1 in
            omega (arith, h, c, d);
      }

  -- one event more
  one_more : (es : List Event) (e : Event) → after first start (es ++ (e ∷ [])) ≡ happens first (after first start es) e
  one_more es e = after_append first 0 start es (e ∷ [])

  -- so it is behind the last operation of a send and of a break; a break is told at once
  pub late_send : (es : List Event) → Late first (es ++ (Send ∷ []))
  late_send es = late_one es Send (ap (λ z. z.page.sent) (one_more es Send)) (λ i a z. absurd (cc z))

  pub late_break : (es : List Event) → Late first (es ++ (Break ∷ []))
  late_break es = late_one es Break (ap (λ z. z.page.sent) (one_more es Break)) (λ i a z. absurd (cc z))

  pub told_break : (es : List Event) → told_by first (es ++ (Break ∷ [])) ≡ sent_by first (es ++ (Break ∷ []))
  told_break es = ap (λ z. z.page.told) (one_more es Break) ∙ sym (ap (λ z. z.page.sent) (one_more es Break))

module _ (s : Setup) (m n g : ℕ) (apart : m ≢ n) where
  -- what holds of a processor that owes the note of a send
  pub record Owing (es : List Event) (u : Who) (w : Work) : Type 0 where
    pub top : IsTop m g u w
    pub late : Late (n * s.procs) es
    pub told : Tells m g u w → told_by (n * s.procs) es ≡ sent_by (n * s.procs) es

  abbrev pub IfOwing : List Event → Who → Work → Type 0
  IfOwing es u w = Owes m g u w → Owing es u w

  -- the marks of a note, and of a piece
  abbrev pub note_marks : (u : Who) {w : Work} {i : Note} {v : Work} → Noted u None w i v → List Mark
  note_marks u {i = Happen d} noted = noted_marks (note_events m n g u noted) d
  note_marks u noted = deeds (note_events m n g u noted)

  abbrev pub piece_marks : {z : Position} {p : ℕ} → Piece s z p → List Mark
  piece_marks {p = p} (Notes i noted) = note_marks (who_at s p) noted
  piece_marks piece = deeds (piece_fresh s m n g piece)

  -- they are its events and its moment
  note_made : (u : Who) {w : Work} {i : Note} {v : Work} (noted : Noted u None w i v) → events_in (note_marks u noted) ≡ note_events m n g u noted
  note_made u {i = Happen d} noted = noted_events (note_events m n g u noted) d
  note_made u noted = deeds_events (note_events m n g u noted)

  pub piece_made : {z : Position} {p : ℕ} (piece : Piece s z p) → events_in (piece_marks piece) ≡ piece_fresh s m n g piece
  piece_made {p = p} (Notes i noted) = note_made (who_at s p) noted
  piece_made {p = p} (Decides slip) = deeds_events (slip_events m n g (who_at s p) slip)
  piece_made {p = p} (Acts any does) = deeds_events (does_fresh s m n g p does)
  piece_made (Starves o none) = refl

  pub piece_noted : {z : Position} {p : ℕ} (piece : Piece s z p) → moments_in (piece_marks piece) ≡ piece_moments s piece
  piece_noted {p = p} (Notes (Happen d) noted) = noted_moments (note_events m n g (who_at s p) noted) d
  piece_noted {p = p} (Notes i noted) = deeds_moments (note_events m n g (who_at s p) noted)
  piece_noted {p = p} (Decides slip) = deeds_moments (slip_events m n g (who_at s p) slip)
  piece_noted {p = p} (Acts any does) = deeds_moments (does_fresh s m n g p does)
  piece_noted (Starves o none) = refl

  module _ (es : List Event) where
    -- a moment with its event, where the processor is one of the node; else alone
    fit_pass : (p : ℕ) (b : Bool) → (p / s.procs == n) ≡ b → AllFit s.procs m n g es (noted_marks (only b (Pass p)) (Passed p))
    fit_pass p true e = (refl, tt)
    fit_pass p false e = ((λ z. absurd (cc (e, eq-eqb (p / s.procs) n z))), tt)

    fit_settle : (p : ℕ) (b : Bool) → (p / s.procs == n) ≡ b → AllFit s.procs m n g es (noted_marks (only b (Settle p)) (Acquired p))
    fit_settle p true e = (refl, tt)
    fit_settle p false e = ((λ z. absurd (cc (e, eq-eqb (p / s.procs) n z))), tt)

    fit_first : (p h : ℕ) (a b c : Bool) → (h == g) ≡ b → (p / s.procs == n) ≡ c → AllFit s.procs m n g es (noted_marks (only (b && c) (First p a)) (Began (p / s.procs) h))
    fit_first p h a true true d e = (ap (λ z. Began z h) (eqb-true (p / s.procs) n e) ∙ ap (Began n) (eqb-true h g d), tt)
    fit_first p h a true false d e = (tt, tt)
    fit_first p h a false c d e = (tt, tt)

    fit_last : (p h : ℕ) (b c : Bool) → (h == g) ≡ b → (p / s.procs == n) ≡ c → AllFit s.procs m n g es (noted_marks (only (b && c) (Last p)) (Fetched (p / s.procs) h))
    fit_last p h true true d e = (ap (λ z. Fetched z h) (eqb-true (p / s.procs) n e) ∙ ap (Fetched n) (eqb-true h g d), tt)
    fit_last p h true false d e = (tt, tt)
    fit_last p h false c d e = (tt, tt)

    fit_tell : (p h : ℕ) (b c : Bool) → (h == g) ≡ b → (p / s.procs == m) ≡ c → AllFit s.procs m n g es (noted_marks (only (b && c) Tell) (Told (p / s.procs) h))
    fit_tell p h true true d e = (ap (λ z. Told z h) (eqb-true (p / s.procs) m e) ∙ ap (Told m) (eqb-true h g d), tt)
    fit_tell p h true false d e = ((λ x y. absurd (cc (e, eq-eqb (p / s.procs) m x))), tt)
    fit_tell p h false c d e = ((λ x y. absurd (cc (d, eq-eqb h g y))), tt)

    -- a note that is about no stage is no mark
    fit_count : (u : Who) (w : Work) (i : Note) (plain : IsPlain None i) → AllFit s.procs m n g es (note_marks u (counts {w = w} {n = i} plain))
    fit_count u w (Happen d) plain = absurd plain
    fit_count u w i plain = tt

    -- each note's mark fits, and each piece's
    note_fits : (p : ℕ) {w : Work} {i : Note} {v : Work} (noted : Noted (who_at s p) None w i v) → IfOwing es (who_at s p) w → AllFit s.procs m n g es (note_marks (who_at s p) noted)
    note_fits p (passes none) o = fit_pass p (p / s.procs == n) refl
    note_fits p (quits none) o = fit_pass p (p / s.procs == n) refl
    note_fits p acquired o = fit_settle p (p / s.procs == n) refl
    note_fits p (begins_copy {g = h}) o = fit_first p h false (h == g) (p / s.procs == n) refl refl
    note_fits p (begins_fill {g = h}) o = fit_first p h true (h == g) (p / s.procs == n) refl refl
    note_fits p (fetched {g = h}) o = fit_last p h (h == g) (p / s.procs == n) refl refl
    note_fits p (filled {g = h}) o = fit_last p h (h == g) (p / s.procs == n) refl refl
    note_fits p broken o = ((λ a b. (o (b, a)).late), tt)
    note_fits p broadcast o = ((λ a b. (o (b, a)).told (b, a)), tt)
    note_fits p (sent e) o = ((λ a b. (o (b, a, e)).late), tt)
    note_fits p (told {g = h} e) o = fit_tell p h (h == g) (p / s.procs == m) refl refl
    note_fits p (counts {w = w} {n = i} plain) o = fit_count (who_at s p) w i plain
    note_fits p row o = tt

    does_plain : (p : ℕ) {o : Own} {w : Work} {a : Act} {x : ℕ} {v : Work} (does : Does (who_at s p) o w a x v) → AllPlain (does_fresh s m n g p does)
    does_plain p (Row within step) = step_plain m n g (who_at s p) step
    does_plain p (Won turn within win is) = tt
    does_plain p (Lost turn within win is) = tt
    does_plain p (Aside may is) = tt

    pub piece_fits : {z : Position} {p : ℕ} (piece : Piece s z p) → IfOwing es (who_at s p) (z.works p) → AllFit s.procs m n g es (piece_marks piece)
    piece_fits {p = p} (Notes i noted) o = note_fits p noted o
    piece_fits {p = p} (Decides slip) o = deeds_fit s.procs m n g es _ (slip_plain m n g (who_at s p) slip)
    piece_fits {p = p} (Acts any does) o = deeds_fit s.procs m n g es _ (does_plain p does)
    piece_fits (Starves o' none) o = tt

  -- a trail's marks
  pub record Marked {z : Position} (t : Trail s z) : Type 0 where
    pub marks : List Mark
    pub events : events_in marks ≡ fresh_of s m n g t
    pub moments : moments_in marks ≡ moments_of s t
    pub fits : AllFit s.procs m n g [] marks
    pub owing : (q : ℕ) → q < s.nodes * s.procs → IfOwing (fresh_of s m n g t) (who_at s q) (z.works q)

  -- what is owed behind a piece of its own
  owing_own : {z : Position} {p : ℕ} (piece : Piece s z p) (es : List Event) → IfOwing es (who_at s p) (z.works p) → IfOwing (es ++ piece_fresh s m n g piece) (who_at s p) (left s piece)
  owing_own {z = z} {p = p} piece es old o = go (piece_owes m n g apart s piece o)
    where
      go : Owed m n g apart s piece ⊎ Sends m g (who_at s p) (piece_fresh s m n g piece) (left s piece) → Owing (es ++ piece_fresh s m n g piece) (who_at s p) (left s piece)
      go (inl h) =
          let k = old h.0 in
          let t = h.2 k.top in
          subst (λ y. Owing y (who_at s p) (left s piece)) (sym (append-nil es) ∙ ap (λ y. es ++ y) (sym h.1)) (record { top = t.0; late = k.late; told = λ x. k.told (t.1 x) })
      go (inr (top, inl h)) = subst (λ y. Owing (es ++ y) (who_at s p) (left s piece)) (sym h.0) (record { top = top; late = late_send (n * s.procs) es; told = λ x. absurd (h.1 x) })
      go (inr (top, inr h)) = subst (λ y. Owing (es ++ y) (who_at s p) (left s piece)) (sym h) (record { top = top; late = late_break (n * s.procs) es; told = λ x. told_break (n * s.procs) es })

  -- the others owe nothing
  owing_other : (u : Who) (w : Work) (es fs : List Event) → is_noting u w ≡ false → IfOwing es u w → IfOwing fs u w
  owing_other u w es fs quiet old o = absurd (let a = owes_noting m g u w o (old o).top in cc (a, quiet))

  -- every trail has such marks
  pub marked : {z : Position} (t : Trail s z) → Marked t
  marked Starts = record { marks = []; events = refl; moments = refl; fits = tt; owing = λ q q_in o. absurd o }
  marked (Goes {z = z} t p p_in fine piece fair quiet) = go (marked t)
    where
      go : Marked t → Marked (Goes t p p_in fine piece fair quiet)
      go k =
          record {
            marks = k.marks ++ piece_marks piece;
            events = gather_append event_in k.marks (piece_marks piece) ∙ (ap (λ y. y ++ events_in (piece_marks piece)) k.events ∙ ap (λ y. fresh_of s m n g t ++ y) (piece_made piece));
            moments = gather_append moment_in k.marks (piece_marks piece) ∙ (ap (λ y. y ++ moments_in (piece_marks piece)) k.moments ∙ ap (λ y. moments_of s t ++ y) (piece_noted piece));
            fits = fit_append s.procs m n g [] k.marks (piece_marks piece) k.fits (piece_fits (events_in k.marks) piece (subst (λ y. IfOwing y (who_at s p) (z.works p)) (sym k.events) (k.owing p p_in)));
            owing = λ q q_in. subst (IfOwing (fresh_of s m n g t ++ piece_fresh s m n g piece) (who_at s q)) (works_left s z p piece q) (at_put (IfOwing (fresh_of s m n g t ++ piece_fresh s m n g piece) (who_at s q)) z.works p q (left s piece)
                (λ e. subst (λ y. IfOwing (fresh_of s m n g t ++ piece_fresh s m n g piece) (who_at s y) (left s piece)) (sym e) (owing_own piece (fresh_of s m n g t) (k.owing p p_in)))
                (λ ne. owing_other (who_at s q) (z.works q) (fresh_of s m n g t) (fresh_of s m n g t ++ piece_fresh s m n g piece) (quiet q ne q_in) (k.owing q q_in)));
          }
