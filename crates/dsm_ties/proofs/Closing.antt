-- Once all processors have halted, no node has a page alone: the closing work has been through all pages, and all had arrived before.
use Rattle.std.proofs.Common.{◌≡◌, ◌≢◌, ◌⊎◌, inl, inr, ℕ, ◌+◌, ◌-◌, ◌*◌, ◌/◌, ◌%◌, ◌<◌, ◌≤◌, ◌==◌, Bool, true, false, List, length, Option, None, Some, refl, sym, ap, ◌∙◌, subst, arith, if◌then◌else◌}
use Rattle.std.specs.Prelude.{slice_get}
use Rattle.std.proofs.lemmas.Bool.{cases_eq, eq-eqb, ne_eqb, eqb-true, eqb-false}
use Rattle.dsm_entry.specs.declared.entry.Obj.TheVariants.{Close as CloseOf}
use Rattle.dsm_entry.specs.declared.entry.Entry.TheVariants.{Signal, Pass}
use Rattle.dsm_words.specs.declared.item.Item.TheVariants.{Stop, Dir}
use Rattle.dsm_words.specs.Place.{IsWithin, total}
use Rattle.dsm_words.specs.Script.{Act, Get, Put, Change, item_of}
use Rattle.dsm_words.specs.Words.{word, done, reply}
use Rattle.dsm_words.proofs.WordLaws.{word_same, reply_is}
use Rattle.dsm_clock.specs.declared.turns.TurnId.{TurnId}
use Rattle.dsm_flat.proofs.History.{Log}
use Rattle.dsm_flat.proofs.Legal.{Legal, Leaves, counted, signals}
use Rattle.dsm_protocol.specs.Own.{Own, Who}
use Rattle.dsm_protocol.specs.Jobs.{Job, Ended, Note, Append, end_of}
use Rattle.dsm_protocol.specs.Processors.{Processor}
use Rattle.dsm_local.specs.declared.end.End.TheVariants.{Halted}
use Rattle.dsm_protocol.specs.Stages.{Cause, Closing, For_closing, Stage, Mapped, Seeking, Missing, Looking, Breaking, Marking, Saving, Whole, Ending, Broken, Broadcast, Parted, Dismissed, Quitting, Closed, Closes, Holder, Work, Off, On, Gone}
use Rattle.dsm_protocol.specs.Rows.{IsPlain, Step, departs, seeks, settles, looks, reads_map, marks, saves, saves_twin, saves_home, twins_broken, breaks, seeks_holder, Wins, closes, Slip, marked, closing, unclosing, unheld, closed, Noted, maps as maps_row, signals as signals_row, arrives, dismisses, quits, broken, broadcast, counts}
use Rattle.dsm_protocol.specs.Standing.{EndsAt, Does, Row as By_row, Won, Lost, Aside}
use Rattle.dsm_runs.specs.Setups.{Setup, lay_in, who_at}
use Rattle.dsm_runs.specs.Clusters.{start, answer, after_all_loose}
use Rattle.dsm_runs.proofs.Legality.{every_log_legal}
use Rattle.dsm_runs.proofs.Mappings.{IsSparing}
use Rattle.dsm_owners.proofs.Every.{every}
use Rattle.dsm_ties.specs.Always.{AlwaysLoosely}
use Rattle.dsm_ties.specs.Clocks.{sum_from}
use Rattle.dsm_ties.specs.Holders.{HaltedIsShared}
use Rattle.dsm_ties.specs.Tied.{bit, node_in}
use Rattle.dsm_ties.proofs.Along.{others_stay, dir_tied}
use Rattle.dsm_ties.proofs.EventTrails.{processor_at}
use Rattle.dsm_ties.proofs.Frame.{done_get}
use Rattle.dsm_ties.proofs.Leaving.{leaver, slip_left, does_left, note_left, does_spares, still_shared}
use Rattle.dsm_ties.proofs.RunTrails.{every_run, sound}
use Rattle.dsm_ties.proofs.Sums.{sum_le, sum_most, sum_three, only_at, sum_only}
use Rattle.dsm_ties.proofs.Tracing.{put_same}
use Rattle.dsm_ties.proofs.Trails.{Position, Piece, Decides, Acts, Notes, Starves, behind, IsFair, Trail, Starts, Goes, Taken, piece_log, log_in, dir_of}

-- node n does not have page g alone
abbrev IsShared : Setup → List ℕ → ℕ → ℕ → Type 0
IsShared s ws n g = n < s.nodes → g < s.program.shape.pages → word (lay_in s) ws (Dir n g) ≢ 2

-- where a node has a page alone, no other one has it alone
abbrev IsAlone : Setup → List ℕ → Type 0
IsAlone s ws = (g m n : ℕ) → g < s.program.shape.pages → m < s.nodes → n < s.nodes → n ≢ m → word (lay_in s) ws (Dir m g) ≡ 2 → word (lay_in s) ws (Dir n g) ≢ 2

-- where a visit is one of the closing work
abbrev ByCause : Cause → Type 0 → Type 0
ByCause Closing P = P
ByCause c P = Unit {0}

-- what one leads to, the other does for such a visit
by_cause : (c : Cause) (P Q : Type 0) → (P → Q) → ByCause c P → ByCause c Q
by_cause Closing P Q f k = f k
by_cause c P Q f k = tt

-- an answer, or a store, of a node's word in the directory is what the word has
abbrev Shows : Setup → List ℕ → Act → ℕ → Type 0
Shows s ws (Get (Dir n g)) x = word (lay_in s) ws (Dir n g) ≡ x
Shows s ws (Put (Dir n g) v) x = word (lay_in s) ws (Dir n g) ≡ v
Shows s ws a x = Unit {0}

module _ (s : Setup) (ws : List ℕ) (left : Type 0) where
  -- all have left, and no node has one of the pages below g alone
  abbrev Below : ℕ → Type 0
  Below g = left × ((n h : ℕ) → h < g → IsShared s ws n h)

  -- nor has one of the nodes below j page g
  abbrev BelowNode : ℕ → ℕ → Type 0
  BelowNode g j = Below g × ((n : ℕ) → n < j → IsShared s ws n g)

  -- nor has one of the nodes but j page g
  abbrev BelowBut : ℕ → ℕ → Type 0
  BelowBut g j = Below g × ((n : ℕ) → n ≢ j → IsShared s ws n g)

  -- what is so on page g in the closing work
  abbrev AtVisit : ℕ → Stage → Type 0
  AtVisit g (Mapped k t) = AtVisit g t
  AtVisit g (Seeking (For_closing j)) = BelowBut g j
  AtVisit g (Missing (For_closing j)) = BelowBut g j
  AtVisit g (Looking c j) = ByCause c (BelowBut g j)
  AtVisit g (Breaking c h j q) = ByCause c (BelowBut g j)
  AtVisit g (Marking c h j q) = ByCause c (BelowBut g j)
  AtVisit g (Saving c h j i part) = ByCause c (BelowBut g j)
  AtVisit g (Ending c j) = ByCause c (BelowBut g j)
  AtVisit g (Broken c j) = ByCause c (Below (g + 1))
  AtVisit g (Broadcast c j) = ByCause c (Below (g + 1))
  AtVisit g (Parted c j) = ByCause c (Below (g + 1))
  AtVisit g t = Unit {0}

  -- how far the closing work has come where the processor that does it stands
  abbrev Walk : Work → Type 0
  Walk (Off Dismissed) = left
  Walk (Off Quitting) = left
  Walk (Off (Closes g j)) = BelowNode g j
  Walk (Off (Holder g j)) = BelowBut g j
  Walk (Off Closed) = Below s.program.shape.pages
  Walk (On r g t) = AtVisit g t
  Walk w = Unit {0}

  -- where no node has page g alone, this is so of one page more
  below_more : (g : ℕ) → Below g → ((n : ℕ) → IsShared s ws n g) → Below (g + 1)
  below_more g b all = (b.0, λ n h lt. go n h lt (cases_eq h g))
    where
      go : (n h : ℕ) → h < g + 1 → (h ≡ g) ⊎ (h ≡ g → ⊥) → IsShared s ws n h
      go n h lt (inl e) = subst (IsShared s ws n) (sym e) (all n)
      go n h lt (inr ne) = b.1 n h (omega (arith, lt, ne))

  -- it is where node j does not have it alone either
  below_whole : (g j : ℕ) → BelowBut g j → IsShared s ws j g → Below (g + 1)
  below_whole g j b own = below_more g b.0 (λ n. go n (cases_eq n j))
    where
      go : (n : ℕ) → (n ≡ j) ⊎ (n ≡ j → ⊥) → IsShared s ws n g
      go n (inl e) = subst (λ k. IsShared s ws k g) (sym e) own
      go n (inr ne) = b.1 n ne

  -- one of two stages
  pick : (b : Bool) (g : ℕ) (t k : Stage) → AtVisit g t → AtVisit g k → AtVisit g (if b then t else k)
  pick true g t k d e = d
  pick false g t k d e = e

  -- behind a turn that is won
  wins_walk : (p : ℕ) {maps : List ℕ} {dirty : List Bool} {w : Work} {t : TurnId} {v : Work} → Wins (who_at s p) maps dirty w t v → Walk w → Walk v
  wins_walk p closes k = k
  wins_walk p win k = tt

  -- behind a decision of the processor that does the closing work
  slip_walk : (p : ℕ) → p ≡ 0 → {maps : List ℕ} {dirty : List Bool} {w v : Work} → Slip (who_at s p) maps dirty w v → Walk w → Walk v
  slip_walk p first (marked {g = g} {h = h} {j = j} {c = c}) k = pick (j == h) g (Ending c j) (Saving c h j 0 Whole) k k
  slip_walk p first (closing is) k = ((k, λ n h lt. absurd (omega (arith, lt))), λ n lt. absurd (omega (arith, lt)))
  slip_walk p first (unclosing is) k = absurd (let z = eq-eqb p 0 first in cc (z, is))
  slip_walk p first (unheld {g = g}) k = (below_more g k.0 (λ n n_in. k.1 n n_in n_in), λ n lt. absurd (omega (arith, lt)))
  slip_walk p first closed k = k.0
  slip_walk p first slip k = grind arith

  module _ (p : ℕ) (alone : IsAlone s ws) where
    -- what is so behind a row
    step_walk : {maps : List ℕ} {dirty : List Bool} {w : Work} {a : Act} {x : ℕ} {v : Work} → Step (who_at s p) maps dirty w a x v → IsWithin (lay_in s) (item_of a) → Shows s ws a x → Walk w → Walk v
    step_walk (departs {g = g} {c = Closing}) within shows k = (k, λ n lt. absurd (omega (arith, lt)))
    step_walk (seeks {g = g} {x = x} {a = For_closing j}) within shows k = pick (x == 0) g (Missing (For_closing j)) (Breaking Closing ((x - 1) % s.nodes) j (j * s.procs)) k k
    step_walk (settles {a = For_closing j}) within shows k = k
    step_walk (looks {g = g} {j = j} {x = x} {c = Closing}) within shows k = go (x == 2) refl
      where
        go : (b : Bool) → (x == 2) ≡ b → AtVisit g (if b then Seeking (For_closing j) else Parted Closing j)
        go true is = k
        go false is = below_whole g j k (λ j_in g_in e. absurd (eqb-false x 2 is (sym shows ∙ e)))
    step_walk (reads_map {g = g} {h = h} {j = j} {q = q} {x = x} {c = c}) within shows k = pick (x == 2) g (Marking c h j q) (Breaking c h j (q + 1)) k k
    step_walk (marks low high) within shows k = k
    step_walk saves within shows k = k
    step_walk saves_twin within shows k = k
    step_walk saves_home within shows k = k
    step_walk (twins_broken ne) within shows k = k
    step_walk (breaks {g = g} {j = j} {c = Closing}) within shows k = below_whole g j k (λ j_in g_in e. absurd (let z = sym shows ∙ e in omega (arith, z)))
    step_walk (seeks_holder {g = g} {j = j} {x = x}) within shows k = go (x == 2) refl
      where
        more : (x == 2) ≡ false → (n : ℕ) → n < j + 1 → (n ≡ j) ⊎ (n ≡ j → ⊥) → IsShared s ws n g
        more is n lt (inl e) = λ n_in g_in two. eqb-false x 2 is (sym shows ∙ (ap (λ i. word (lay_in s) ws (Dir i g)) (sym e) ∙ two))
        more is n lt (inr ne) = k.1 n (omega (arith, lt, ne))

        go : (b : Bool) → (x == 2) ≡ b → Walk (Off (if b then Holder g j else Closes g (j + 1)))
        go true is = (k.0, λ n ne n_in g_in. alone g j n g_in within.0 n_in ne (shows ∙ eqb-true x 2 is))
        go false is = (k.0, λ n lt. more is n lt (cases_eq n j))
    step_walk step within shows k = grind arith

    -- behind an operation
    does_walk : {o : Own} {w : Work} {a : Act} {x : ℕ} {v : Work} → Does (who_at s p) o w a x v → Shows s ws a x → Walk w → Walk v
    does_walk (By_row within step) shows k = step_walk step within shows k
    does_walk (Won turn within win is) shows k = wins_walk p win k
    does_walk (Lost turn within win held) shows k = k
    does_walk (Aside may aside) shows k = k

  -- behind a note, where all have left when the closing barrier is passed
  note_walk : (u : Who) {w : Work} {i : Note} {v : Work} → ((c : ℕ) → i ≡ Append (Pass CloseOf c) → left) → Noted u None w i v → Walk w → Walk v
  note_walk u all maps_row k = k
  note_walk u all (dismisses {c = c} none) k = all c refl
  note_walk u all (quits none) k = k
  note_walk u all (broken {c = c}) k = k
  note_walk u all (broadcast {c = c}) k = k
  note_walk u all (counts plain) k = k
  note_walk u all noted k = grind arith

-- where no node gets a page alone, and all that have left stay away, all this stays so
module _ (s : Setup) (ws ws' : List ℕ) (left left' : Type 0) (away : left → left') (stays : left → (n g : ℕ) → IsShared s ws n g → IsShared s ws' n g) where
  -- of the pages below one; and of page g at the nodes but one
  below_kept : (g : ℕ) → Below s ws left g → Below s ws' left' g
  below_kept g b = (away b.0, λ n h lt. stays b.0 n h (b.1 n h lt))

  but_kept : (g j : ℕ) → BelowBut s ws left g j → BelowBut s ws' left' g j
  but_kept g j b = (below_kept g b.0, λ n ne. stays b.0.0 n g (b.1 n ne))

  -- amid a visit
  visit_kept : (g : ℕ) (t : Stage) → AtVisit s ws left g t → AtVisit s ws' left' g t
  visit_kept g (Mapped m t) k = visit_kept g t k
  visit_kept g (Seeking (For_closing j)) k = but_kept g j k
  visit_kept g (Missing (For_closing j)) k = but_kept g j k
  visit_kept g (Looking c j) k = by_cause c _ _ (but_kept g j) k
  visit_kept g (Breaking c h j q) k = by_cause c _ _ (but_kept g j) k
  visit_kept g (Marking c h j q) k = by_cause c _ _ (but_kept g j) k
  visit_kept g (Saving c h j i part) k = by_cause c _ _ (but_kept g j) k
  visit_kept g (Ending c j) k = by_cause c _ _ (but_kept g j) k
  visit_kept g (Broken c j) k = by_cause c _ _ (below_kept (g + 1)) k
  visit_kept g (Broadcast c j) k = by_cause c _ _ (below_kept (g + 1)) k
  visit_kept g (Parted c j) k = by_cause c _ _ (below_kept (g + 1)) k
  visit_kept g t k = tt

  -- and wherever the processor that does it stands
  walk_kept : (w : Work) → Walk s ws left w → Walk s ws' left' w
  walk_kept (Off Dismissed) k = away k
  walk_kept (Off Quitting) k = away k
  walk_kept (Off (Closes g j)) k = (below_kept g k.0, λ n lt. stays k.0.0 n g (k.1 n lt))
  walk_kept (Off (Holder g j)) k = but_kept g j k
  walk_kept (Off Closed) k = below_kept s.program.shape.pages k
  walk_kept (On r g t) k = visit_kept g t k
  walk_kept w k = tt

-- an operation's answer is what the word has
shown : (s : Setup) (p : ℕ) (ws : List ℕ) (any : Option ℕ) (a : Act) → length ws ≡ total (lay_in s) → IsSparing (who_at s p) a → Shows s (done (lay_in s) ws a) a (answer any a (reply (lay_in s) ws a))
shown s p ws any (Get (Dir n g)) long sparing = ap (λ z. word (lay_in s) z (Dir n g)) (done_get (who_at s p) ws (Dir n g)) ∙ sym (reply_is (lay_in s) ws (Get (Dir n g)))
shown s p ws any (Put (Dir n g) v) long sparing = word_same (lay_in s) ws (Put (Dir n g) v) long sparing.0
shown s p ws any a long sparing = tt

-- what holds where another thing does, is no more
bit_le : (b c : Bool) → (b ≡ true → c ≡ true) → bit b ≤ bit c
bit_le true true h = omega arith
bit_le true false h = absurd (let z = h refl in cc z)
bit_le false c h = omega arith

-- how many signals of the closing barrier there are with the entry of a note
abbrev with_note : Note → ℕ → ℕ
with_note (Append e) n = counted CloseOf e n
with_note i n = n

-- a count, or an entry of what is printed, is none
plain_same : (i : Note) (n : ℕ) → IsPlain None i → with_note i n ≡ n
plain_same (Append (Signal of j)) n plain = absurd plain
plain_same i n plain = refl

-- only who has not left makes one more, and has left then
note_signals : (u : Who) {w : Work} {i : Note} {v : Work} → Noted u None w i v → (n : ℕ) → (with_note i n ≡ n) ⊎ ((with_note i n ≡ n + 1) × (leaver w ≡ false) × (leaver v ≡ true))
note_signals u (signals_row {of = CloseOf} none ne) n = absurd (cc ne)
note_signals u (arrives none) n = inr (refl, refl, refl)
note_signals u (counts {n = i} plain) n = inl (plain_same i n plain)
note_signals u noted n = inl refl

-- who passes the closing barrier is behind as many signals as there are processors
passes_behind : (P : ℕ) (log : Log) (p c : ℕ) → Leaves P log p CloseOf c → P ≤ signals CloseOf log
passes_behind P log p c leaves =
    let more : (leaves.a / P + 1) * P ≡ leaves.a / P * P + P = grind arith in
    omega (arith, leaves.need, leaves.all, more)

module _ (s : Setup) where
  -- how many processors there are
  abbrev all : ℕ
  all = s.nodes * s.procs

  -- all processors have left
  abbrev AllLeft : Position → Type 0
  AllLeft z = (q : ℕ) → q < s.nodes * s.procs → leaver (z.works q) ≡ true

  -- where a node has a page alone, no other one does
  alone_at : {z : Position} → Trail s z → IsAlone s z.words
  alone_at t g m n g_in m_in n_in ne two =
      let d = dir_tied s g g_in t in
      let b = (every s.nodes (node_in s) (dir_of s g t) d.runs).sole m n n_in ne (sym (d.match.dir m m_in) ∙ two) in
      λ e. absurd (let low = b.not_sole in omega (arith, low, sym (d.match.dir n n_in) ∙ e))

  module _ {z : Position} {p : ℕ} where
    -- who has left has left behind every step
    own_left : (piece : Piece s z p) → leaver (z.works p) ≡ true → leaver ((behind s z p piece).works p) ≡ true
    own_left (Decides {v = v} slip) e = ap leaver (put_same z.works p v) ∙ slip_left (who_at s p) slip e
    own_left (Acts {v = v} any does) e = ap leaver (put_same z.works p v) ∙ does_left (who_at s p) does e
    own_left (Notes {v = v} i noted) e = ap leaver (put_same z.works p v) ∙ note_left (who_at s p) noted e
    own_left (Starves o none) e = ap leaver (put_same z.works p Gone)

    -- and so have all others that had left
    piece_left : (piece : Piece s z p) (q : ℕ) → leaver (z.works q) ≡ true → leaver ((behind s z p piece).works q) ≡ true
    piece_left piece q e = go (cases_eq q p)
      where
        go : (q ≡ p) ⊎ (q ≡ p → ⊥) → leaver ((behind s z p piece).works q) ≡ true
        go (inl is) = subst (λ r. leaver ((behind s z p piece).works r) ≡ true) (sym is) (own_left piece (subst (λ r. leaver (z.works r) ≡ true) is e))
        go (inr ne) = ap leaver (others_stay s z p piece q ne).0 ∙ e

    -- a step of one that has left gives no node a page alone
    piece_spares : (piece : Piece s z p) → length z.words ≡ total (lay_in s) → IsFair s z p piece → leaver (z.works p) ≡ true → (n g : ℕ) → n < s.nodes → g < s.program.shape.pages → word (lay_in s) z.words (Dir n g) ≢ 2 → word (lay_in s) (behind s z p piece).words (Dir n g) ≢ 2
    piece_spares (Decides slip) long fair e n g n_in g_in h = h
    piece_spares (Acts {a = a} any does) long fair e n g n_in g_in h = still_shared (who_at s p) z.words n g n_in g_in long a fair.1 (does_spares (who_at s p) does e) h
    piece_spares (Notes i noted) long fair e n g n_in g_in h = h
    piece_spares (Starves o none) long fair e n g n_in g_in h = still_shared (who_at s p) z.words n g n_in g_in long (Change Stop 0 (p + 1)) (tt, tt) refl h

  -- 1 where the processor has left, and how many have left
  abbrev has_gone : Position → ℕ → ℕ
  has_gone z q = bit (leaver (z.works q))

  abbrev gone_in : Position → ℕ
  gone_in z = sum_from (has_gone z) 0 (s.nodes * s.procs)

  -- where they are as many as there are processors, all have left
  everyone : (z : Position) → s.nodes * s.procs ≤ gone_in z → AllLeft z
  everyone z most q q_in = go (leaver (z.works q)) refl
    where
      each : leaver (z.works q) ≡ false → (r : ℕ) → (r ≡ q) ⊎ (r ≡ q → ⊥) → has_gone z r + only_at q 1 r + 0 ≤ 1 + 0
      each e r (inl is) =
          let none : has_gone z r ≡ 0 = ap bit (ap (λ k. leaver (z.works k)) is ∙ e) in
          let here : only_at q 1 r ≡ 1 = ap (λ b. if b then 1 else 0) (eq-eqb r q is) in
          omega (arith, none, here)
      each e r (inr ne) =
          let low = bit_le (leaver (z.works r)) true (λ h. refl) in
          let here : only_at q 1 r ≡ 0 = ap (λ b. if b then 1 else 0) (ne_eqb r q ne) in
          omega (arith, low, here)

      go : (b : Bool) → leaver (z.works q) ≡ b → leaver (z.works q) ≡ true
      go true e = e
      go false e =
          let three = sum_three (has_gone z) (only_at q 1) (λ r. 0) (λ r. 1) (λ r. 0) (λ r. each e r (cases_eq r q)) 0 (s.nodes * s.procs) in
          let one = sum_only q 1 0 (s.nodes * s.procs) (omega arith) (omega (arith, q_in)) in
          let ones = sum_most (λ r. 1) 1 (λ r. omega arith) 0 (s.nodes * s.procs) in
          let zeros = sum_most (λ r. 0) 0 (λ r. omega arith) 0 (s.nodes * s.procs) in
          absurd (omega (arith, three, one, ones, zeros, most))

  -- the signals with a note's entry
  note_log : (z : Position) (p : ℕ) {v : Work} (i : Note) (noted : Noted (who_at s p) None (z.works p) i v) (log : Log) → signals CloseOf (piece_log s {z = z} p (Notes {v = v} i noted) log) ≡ with_note i (signals CloseOf log)
  note_log z p (Append e) noted log = refl
  note_log z p i noted log = refl

  module _ {z : Position} {p : ℕ} where
    -- behind a step they are no fewer
    gone_kept : (piece : Piece s z p) → gone_in z ≤ gone_in (behind s z p piece)
    gone_kept piece = sum_le (has_gone z) (has_gone (behind s z p piece)) (λ q. bit_le (leaver (z.works q)) (leaver ((behind s z p piece).works q)) (piece_left piece q)) 0 (s.nodes * s.procs)

    -- and one more where its processor leaves
    gone_more : (piece : Piece s z p) → p < s.nodes * s.procs → leaver (z.works p) ≡ false → leaver ((behind s z p piece).works p) ≡ true → gone_in z + 1 ≤ gone_in (behind s z p piece)
    gone_more piece p_in before now =
        let three = sum_three (has_gone z) (only_at p 1) (λ q. 0) (has_gone (behind s z p piece)) (λ q. 0) (λ q. each q (cases_eq q p)) 0 (s.nodes * s.procs) in
        let one = sum_only p 1 0 (s.nodes * s.procs) (omega arith) (omega (arith, p_in)) in
        let zeros = sum_most (λ r. 0) 0 (λ r. omega arith) 0 (s.nodes * s.procs) in
        omega (arith, three, one, zeros)
      where
        each : (q : ℕ) → (q ≡ p) ⊎ (q ≡ p → ⊥) → has_gone z q + only_at p 1 q + 0 ≤ has_gone (behind s z p piece) q + 0
        each q (inl is) =
            let old : has_gone z q ≡ 0 = ap bit (ap (λ k. leaver (z.works k)) is ∙ before) in
            let new : has_gone (behind s z p piece) q ≡ 1 = ap bit (ap (λ k. leaver ((behind s z p piece).works k)) is ∙ now) in
            let here : only_at p 1 q ≡ 1 = ap (λ b. if b then 1 else 0) (eq-eqb q p is) in
            omega (arith, old, new, here)
        each q (inr ne) =
            let more = bit_le (leaver (z.works q)) (leaver ((behind s z p piece).works q)) (piece_left piece q) in
            let here : only_at p 1 q ≡ 0 = ap (λ b. if b then 1 else 0) (ne_eqb q p ne) in
            omega (arith, more, here)

    -- a step makes no more signals than processors leave by it
    signals_kept : (piece : Piece s z p) → p < s.nodes * s.procs → (log : Log) → signals CloseOf log ≤ gone_in z → signals CloseOf (piece_log s p piece log) ≤ gone_in (behind s z p piece)
    signals_kept (Notes {v = v} i noted) p_in log few = go (note_signals (who_at s p) noted (signals CloseOf log))
      where
        go : (with_note i (signals CloseOf log) ≡ signals CloseOf log) ⊎ ((with_note i (signals CloseOf log) ≡ signals CloseOf log + 1) × (leaver (z.works p) ≡ false) × (leaver v ≡ true)) → signals CloseOf (piece_log s {z = z} p (Notes {v = v} i noted) log) ≤ gone_in (behind s z p (Notes i noted))
        go (inl same) = let more = gone_kept (Notes i noted) in omega (arith, note_log z p i noted log ∙ same, few, more)
        go (inr (one, before, now)) = let more = gone_more (Notes i noted) p_in before (ap leaver (put_same z.works p v) ∙ now) in omega (arith, note_log z p i noted log ∙ one, few, more)
    signals_kept (Decides slip) p_in log few = let more = gone_kept (Decides slip) in omega (arith, few, more)
    signals_kept (Acts any does) p_in log few = let more = gone_kept (Acts any does) in omega (arith, few, more)
    signals_kept (Starves o none) p_in log few = let more = gone_kept (Starves o none) in omega (arith, few, more)

    -- the log before a step is legal where that behind it is
    legal_before : (piece : Piece s z p) (log : Log) → Legal all (piece_log s p piece log) → Legal all log
    legal_before (Notes (Append e) noted) log legal = legal.1
    legal_before piece log legal = legal

    -- what the step notes
    abbrev note_in : Piece s z p → Option Note
    note_in (Notes i noted) = Some i
    note_in piece = None

    -- where it passes the closing barrier, the log has as many signals of it as there are processors
    signals_there : (piece : Piece s z p) (log : Log) (c : ℕ) → note_in piece ≡ Some (Append (Pass CloseOf c)) → Legal all (piece_log s p piece log) → s.nodes * s.procs ≤ signals CloseOf log
    signals_there (Notes (Append (Pass CloseOf d)) noted) log c is legal = passes_behind all log p d legal.0
    signals_there piece log c is legal = absurd (cc is)

    -- what is so of the closing work behind a step of the processor that does it
    piece_walk : (piece : Piece s z p) → let y = behind s z p piece in length z.words ≡ total (lay_in s) → IsFair s z p piece
        → IsAlone s y.words → p ≡ 0 → ((c : ℕ) → note_in piece ≡ Some (Append (Pass CloseOf c)) → AllLeft y) → Walk s y.words (AllLeft y) (z.works p) → Walk s y.words (AllLeft y) (y.works p)
    piece_walk (Decides {v = v} slip) long fair alone first left k =
        let y = behind s z p (Decides slip) in subst (Walk s y.words (AllLeft y)) (sym (put_same z.works p v)) (slip_walk s y.words (AllLeft y) p first slip k)
    piece_walk (Acts {a = a} {v = v} any does) long fair alone first left k =
        let y = behind s z p (Acts any does) in subst (Walk s y.words (AllLeft y)) (sym (put_same z.works p v)) (does_walk s y.words (AllLeft y) p alone does (shown s p z.words any a long fair.1) k)
    piece_walk (Notes {v = v} i noted) long fair alone first left k =
        let y = behind s z p (Notes i noted) in subst (Walk s y.words (AllLeft y)) (sym (put_same z.works p v)) (note_walk s y.words (AllLeft y) (who_at s p) (λ c e. left c (ap Some e)) noted k)
    piece_walk (Starves o none) long fair alone first left k =
        let y = behind s z p (Starves o none) in subst (Walk s y.words (AllLeft y)) (sym (put_same z.works p Gone)) tt

  -- there are no more signals of the closing barrier than processors that have left
  signals_left : {z : Position} (t : Trail s z) → signals CloseOf (log_in s t) ≤ gone_in z
  signals_left Starts = omega arith
  signals_left (Goes t p p_in fine piece fair quiet) = signals_kept piece p_in (log_in s t) (signals_left t)

  -- along every trail with a legal log, what is so of the closing work is that of the place of the processor that does it
  walked : {z : Position} (t : Trail s z) → Legal all (log_in s t) → Walk s z.words (AllLeft z) (z.works 0)
  walked Starts legal = tt
  walked (Goes {z = z} t p p_in fine piece fair quiet) legal = go (walked t (legal_before piece (log_in s t) legal)) (cases_eq p 0)
    where
      kept : (w : Work) → Walk s z.words (AllLeft z) w → Walk s (behind s z p piece).words (AllLeft (behind s z p piece)) w
      kept w k = walk_kept s z.words (behind s z p piece).words (AllLeft z) (AllLeft (behind s z p piece)) (λ left q q_in. piece_left piece q (left q q_in)) (λ left n g h n_in g_in. piece_spares piece fine.long fair (left p p_in) n g n_in g_in (h n_in g_in)) w k

      left : (c : ℕ) → note_in piece ≡ Some (Append (Pass CloseOf c)) → AllLeft (behind s z p piece)
      left c is = λ q q_in. piece_left piece q (everyone z (let some = signals_there piece (log_in s t) c is legal in let most = signals_left t in omega (arith, some, most)) q q_in)

      go : Walk s z.words (AllLeft z) (z.works 0) → (p ≡ 0) ⊎ (p ≡ 0 → ⊥) → Walk s (behind s z p piece).words (AllLeft (behind s z p piece)) ((behind s z p piece).works 0)
      go k (inl e) =
          subst (λ q. Walk s (behind s z p piece).words (AllLeft (behind s z p piece)) ((behind s z p piece).works q)) e
          (piece_walk piece fine.long fair (alone_at (Goes t p p_in fine piece fair quiet)) e left (kept (z.works p) (subst (λ q. Walk s z.words (AllLeft z) (z.works q)) (sym e) k)))
      go k (inr ne) = subst (Walk s (behind s z p piece).words (AllLeft (behind s z p piece))) (sym (others_stay s z p piece 0 (λ e. ne (sym e))).0) (kept (z.works 0) k)

-- one that has halted is behind the closing work
closed_at : (j : Job) (w : Work) → end_of j ≡ Some Halted → EndsAt j w → w ≡ Off Closed
closed_at (Ended Halted) w e over = over
closed_at j w e over = absurd (cc e)

-- so behind every list of events, where all have halted, no node has a page alone
pub halted_shared : AlwaysLoosely HaltedIsShared
halted_shared s events is halted n g n_in g_in = subst (λ ws. word (lay_in s) ws (Dir n g) ≢ 2) run.pictures.words (walk.1 n g g_in n_in g_in)
  where
    run : Taken s events
    run = every_run s is events

    some : 0 < s.nodes * s.procs
    some = grind (arith, is.nodes.0, is.procs.0)

    first : (m : Processor) × (slice_get (after_all_loose s (start s) events).processors 0 ≡ Some m)
    first = processor_at s (after_all_loose s (start s) events) (sound s is events) 0 some

    at : run.last.works 0 ≡ Off Closed
    at = closed_at first.0.todo (run.last.works 0) (halted 0 first.0 first.1) (run.pictures.all 0 first.0 first.1).1.over

    walk : Walk s run.last.words (AllLeft s run.last) (Off Closed)
    walk = subst (Walk s run.last.words (AllLeft s run.last)) at (walked s run.trail (subst (Legal (s.nodes * s.procs)) (sym run.log) (every_log_legal s is events)))
