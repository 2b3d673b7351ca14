-- A run taken apart: what the processors decide, do and note, one after the other, and what each of these is to a page.
use Rattle.std.proofs.Common.{◌≡◌, ◌≢◌, ℕ, ◌+◌, ◌*◌, ◌<◌, ◌==◌, Bool, true, false, List, [], ◌∷◌, ◌++◌, length, Option, None, Some, if◌then◌else◌}
use Rattle.std.specs.Prelude.{slice_get, slice_index, ◌^◌, ◌↔◌, ◌||◌}
use Rattle.dsm_words.specs.declared.item.Item.TheVariants.{Map, Clock, Stop}
use Rattle.dsm_words.specs.Place.{IsWithin, total}
use Rattle.dsm_words.specs.Script.{Act, Change}
use Rattle.dsm_words.specs.Words.{word, done, reply}
use Rattle.dsm_clock.specs.declared.turns.TurnId.{TurnId}
use Rattle.dsm_clock.specs.Turns.{turn_item}
use Rattle.dsm_directory.specs.Directory.{is_busy}
use Rattle.dsm_flat.proofs.History.{Log}
use Rattle.dsm_protocol.specs.Own.{Own, Who, node_of, new_own}
use Rattle.dsm_protocol.specs.Jobs.{Moment, Note, Append, Happen, own_after}
use Rattle.dsm_protocol.specs.Processors.{Processor}
use Rattle.dsm_protocol.specs.Stages.{First, Visiting, Stamped, Broken, Broadcast, Copying, Filling, Idle, Loaded, Stored, Admitted, Dismissed, Work, Off, On, Gone, turn_at}
use Rattle.dsm_protocol.specs.Rows.{Slip, Noted}
use Rattle.dsm_protocol.specs.Standing.{Stands, Does, Row, Won, Lost, Aside}
use Rattle.dsm_protocol.proofs.Turning.{IsSettled}
use Rattle.dsm_runs.specs.Setups.{Setup, lay_in, who_at}
use Rattle.dsm_runs.specs.Clusters.{Cluster, Event as Going, start, answer, after_all_loose}
use Rattle.dsm_runs.specs.Moments.{history}
use Rattle.dsm_runs.proofs.Logs.{log_of}
use Rattle.dsm_runs.proofs.Mappings.{IsSparing}
use Rattle.dsm_owners.specs.Acts as A
use Rattle.dsm_owners.specs.Directory as D
use Rattle.dsm_owners.specs.Premises.{Runs}
use Rattle.dsm_ties.specs.Events.{events_at, won_at, slipped_at}
use Rattle.dsm_ties.specs.Tied.{node_in, Knows, Match}
use Rattle.dsm_ties.specs.Views.{is_cleaned}

-- Between two steps: the words, and for each processor its place in the table and what it holds.
pub record Position : Type 0 where
  pub words : List ℕ
  pub works : ℕ → Work
  pub owns : ℕ → Own

-- its last operation has a note that is still to come, and that others must not come before
abbrev pub is_noting : Who → Work → Bool
is_noting u (On r g (Stamped h flushed)) = flushed || node_of u == h
is_noting u (On r g (Broken c j)) = true
is_noting u (On r g (Broadcast c j)) = true
is_noting u (On r g (Copying write h t twin i (First v))) = true
is_noting u (On r g (Filling h t i (First v))) = true
is_noting u (Off (Loaded a x)) = true
is_noting u (Off (Stored a v)) = true
is_noting u (Off Admitted) = true
is_noting u (Off Dismissed) = true
is_noting u w = false

-- each event has the answer that the words give
abbrev pub AllExact : List (Going × Option ℕ) → Type 0
AllExact [] = Unit {0}
AllExact (e ∷ es) = (e.1 ≡ None) × AllExact es

module _ (s : Setup) where
  -- What processor p does next: it decides, makes an operation and gets its answer, or notes something; or it wants memory, and ends.
  pub data Piece (z : Position) (p : ℕ) : Type 0 where
    Decides : {v : Work} → Slip (who_at s p) (z.owns p).maps (z.owns p).dirty (z.works p) v → Piece z p
    Acts : {a : Act} {v : Work} (any : Option ℕ) → Does (who_at s p) (z.owns p) (z.works p) a (answer any a (reply (lay_in s) z.words a)) v → Piece z p
    Notes : {v : Work} (i : Note) → Noted (who_at s p) None (z.works p) i v → Piece z p
    Starves : (o : Own) → turn_at (who_at s p) (z.works p) ≡ None → Piece z p

  -- what it leaves
  abbrev pub behind : (z : Position) (p : ℕ) → Piece z p → Position
  behind z p (Decides {v = v} slip) = record { words = z.words; works = A.put z.works p v; owns = z.owns }
  behind z p (Acts {a = a} {v = v} any does) = record { words = done (lay_in s) z.words a; works = A.put z.works p v; owns = z.owns }
  behind z p (Notes {v = v} i noted) = record { words = z.words; works = A.put z.works p v; owns = A.put z.owns p (own_after (z.owns p) i) }
  behind z p (Starves o none) = record { words = done (lay_in s) z.words (Change Stop 0 (p + 1)); works = A.put z.works p Gone; owns = A.put z.owns p o }

  -- What is so at each position: all words are there, no clock is 0 or comes round, and who stands at a turn has its number in the turn's word.
  pub record Fine (z : Position) : Type 0 where
    pub long : length z.words ≡ total (lay_in s)
    pub clocks : (k : ℕ) → k < s.nodes → (word (lay_in s) z.words (Clock k) ≢ 0) × (word (lay_in s) z.words (Clock k) < 2 ^ 37)
    pub turns : (p : ℕ) (t : TurnId) → p < s.nodes * s.procs → IsWithin (lay_in s) (turn_item t) → (word (lay_in s) z.words (turn_item t) ≡ p + 1) ↔ (turn_at (who_at s p) (z.works p) ≡ Some t)
    pub settled : (p : ℕ) → p < s.nodes * s.procs → IsSettled (who_at s p) (z.works p)

  -- the words of p's mappings are what it holds
  abbrev pub HoldsMaps : Position → ℕ → Type 0
  HoldsMaps z p = (g : ℕ) → g < s.program.shape.pages → word (lay_in s) z.words (Map p g) ≡ slice_index (z.owns p).maps g

  -- and what is so of a step: it is made with the mappings known, and spares those of others; who wants memory is not amid its notes
  abbrev pub IsFair : (z : Position) (p : ℕ) → Piece z p → Type 0
  IsFair z p (Decides slip) = HoldsMaps z p
  IsFair z p (Acts {a = a} any does) = HoldsMaps z p × IsSparing (who_at s p) a
  IsFair z p (Notes i noted) = Unit {0}
  IsFair z p (Starves o none) = ((g : ℕ) → is_cleaned (z.works p) g ≡ false) × (z.works p ≢ Gone) × (o.dirty ≡ (z.owns p).dirty) × (is_noting (who_at s p) (z.works p) ≡ false)

  -- no other processor is amid an event's notes
  abbrev pub IsQuiet : Position → ℕ → Type 0
  IsQuiet z p = (q : ℕ) → q ≢ p → q < s.nodes * s.procs → is_noting (who_at s q) (z.works q) ≡ false

  -- before any step each processor stands before its first instruction
  abbrev pub outset : Position
  outset = record { words = (start s).words; works = λ p. Off Idle; owns = λ p. new_own }

  -- such steps, one after the other, lead from there to a position
  pub data Trail : Position → Type 0 where
    Starts : Trail outset
    Goes : {z : Position} → Trail z → (p : ℕ) → p < s.nodes * s.procs → Fine z → (piece : Piece z p) → IsFair z p piece → IsQuiet z p → Trail (behind z p piece)

  -- an operation has the answer that the words give, and so has each of a trail
  abbrev pub IsSure : {z : Position} {p : ℕ} → Piece z p → Type 0
  IsSure (Acts any does) = any ≡ None
  IsSure piece = Unit {0}

  abbrev pub IsExact : {z : Position} → Trail z → Type 0
  IsExact Starts = Unit {0}
  IsExact (Goes t p p_in fine piece fair quiet) = IsExact t × IsSure piece

  -- the moments of a trail, oldest first, and its entries, newest first
  abbrev pub piece_moments : {z : Position} {p : ℕ} → Piece z p → List Moment
  piece_moments (Notes (Happen d) noted) = d ∷ []
  piece_moments piece = []

  abbrev pub moments_of : {z : Position} → Trail z → List Moment
  moments_of Starts = []
  moments_of (Goes t p p_in fine piece fair quiet) = moments_of t ++ piece_moments piece

  abbrev pub piece_log : {z : Position} (p : ℕ) → Piece z p → Log → Log
  piece_log p (Notes (Append e) noted) log = record { p = p; e = e } ∷ log
  piece_log p piece log = log

  abbrev pub log_in : {z : Position} → Trail z → Log
  log_in Starts = []
  log_in (Goes t p p_in fine piece fair quiet) = piece_log p piece (log_in t)

  -- the position shows a cluster
  pub record Pictures (z : Position) (c : Cluster) : Type 0 where
    pub words : z.words ≡ c.words
    pub all : (p : ℕ) (m : Processor) → slice_get c.processors p ≡ Some m → (z.owns p ≡ m.own) × Stands (who_at s p) (z.works p) m

  -- a list of loose events, taken apart: its trail leads to a position that shows where the events lead, with their moments and entries
  pub record Taken (events : List (Going × Option ℕ)) : Type 0 where
    pub last : Position
    pub trail : Trail last
    pub fine : Fine last
    pub maps : (p : ℕ) → p < s.nodes * s.procs → HoldsMaps last p
    pub quiet : (q : ℕ) → q < s.nodes * s.procs → is_noting (who_at s q) (last.works q) ≡ false
    pub exact : AllExact events → IsExact trail
    pub pictures : Pictures last (after_all_loose s (start s) events)
    pub moments : moments_of trail ≡ history s (start s) events
    pub log : log_in trail ≡ log_of s events

  -- what a step is to the directory of page g
  abbrev pub stop_act : ℕ → Work → A.Act
  stop_act g (On r h (Visiting write home busy i)) = if h == g then A.Stop_visit write i (is_busy busy) else A.Stop
  stop_act g w = A.Stop

  abbrev pub does_dir : (g p : ℕ) {o : Own} {w : Work} {a : Act} {x : ℕ} {v : Work} → Does (who_at s p) o w a x v → List D.Event
  does_dir g p (Row within step) = events_at g (who_at s p) step
  does_dir g p (Won turn within win is) = won_at g (who_at s p) win
  does_dir g p (Lost turn within win is) = []
  does_dir g p (Aside may is) = []

  abbrev pub piece_dir : (g : ℕ) {z : Position} {p : ℕ} → Piece z p → List D.Event
  piece_dir g {p = p} (Decides slip) = slipped_at g (who_at s p) slip
  piece_dir g {p = p} (Acts any does) = does_dir g p does
  piece_dir g (Notes i noted) = []
  piece_dir g {z = z} {p = p} (Starves o none) = D.Do p (stop_act g (z.works p)) ∷ []

  -- and what a trail is to it, oldest first
  abbrev pub dir_of : (g : ℕ) {z : Position} → Trail z → List D.Event
  dir_of g Starts = []
  dir_of g (Goes t p p_in fine piece fair quiet) = dir_of g t ++ piece_dir g piece

  abbrev pub dir_at : (g : ℕ) {z : Position} → Trail z → D.State
  dir_at g t = D.after (node_in s) D.start (dir_of g t)

  -- the events of the directory keep all their premises, and words and places show where they lead
  pub record DirTied (g : ℕ) {z : Position} (t : Trail z) : Type 0 where
    pub runs : Runs s.nodes (node_in s) D.start (dir_of g t)
    pub match : Match (who_at s 0) g z.words (dir_at g t)
    pub knows : (p : ℕ) → p < s.nodes * s.procs → Knows (who_at s p) g (dir_at g t).home ((dir_at g t).nodes (node_in s p)) ((dir_at g t).processors p) (z.works p) (z.owns p)
