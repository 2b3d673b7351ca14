-- What a row of the table is to the copies of word i of page g, whose home is node h: moves of the law of one word, newest first.
use Rattle.std.specs.Prelude.{ℕ, ◌==◌, ◌&&◌, not, Bool, if◌then◌else◌, Option, None, Some, List, [], ◌∷◌, ◌++◌, map}
use Rattle.dsm_words.specs.Script.{Act}
use Rattle.dsm_protocol.specs.Own.{Who, node_of}
use Rattle.dsm_protocol.specs.Jobs.{Note}
use Rattle.dsm_protocol.specs.Stages.{Work}
use Rattle.dsm_protocol.specs.Rows.{Step, Slip, Noted, loads, stores, looks, reads_map, marks, saves, saves_twin, saves_home, twins_broken, breaks, fills, fills_own, copies, copies_over, merges, merges_own, merges_twin, makes, makes_twin, made, marked, fetched, passes, quits}
use Rattle.dsm_copies.specs.Copies as W
use Rattle.dsm_debts.specs.Page as D
use Rattle.dsm_debts.specs.Joining.{Move, At, Other}
use Rattle.dsm_releases.specs.Events as R

-- an event, where this is so
abbrev pub only : Bool → W.Event → List W.Event
only c e = if c then e ∷ [] else []

-- a node's place: the home, or the node
abbrev pub place_of : (h n : ℕ) → Option ℕ
place_of h n = if n == h then None else Some n

module _ (h g i : ℕ) (u : Who) where
  -- it is at the page, and its node is not the home
  abbrev pub is_away : ℕ → Bool
  is_away k = k == g && not (node_of u == h)

  -- the first load of a fetch begins it
  abbrev pub begins : (k e : ℕ) → W.Event → List W.Event
  begins k e event = only (is_away k && e == i) (W.Op (node_of u)) ++ only (is_away k && e == 0) event

  -- an operation on the word
  abbrev pub op : (k e : ℕ) → List W.Event
  op k e = only (is_away k && e == i) (W.Op (node_of u))

  module _ {maps : List ℕ} {dirty : List Bool} where
    -- of an operation: what is of the copies alone,
    abbrev pub step_others : {w : Work} {a : Act} {x : ℕ} {v : Work} → Step u maps dirty w a x v → List W.Event
    step_others (loads {a = a} {x = x} e) = only (R.is_word h (node_of u) g i u a) (W.Load u.p x)
    step_others (fills {g = k} {i = e}) = begins k e (W.Enter (node_of u))
    step_others (fills_own {g = k} {i = e}) = op k e
    step_others (copies {g = k} {i = e} {twin = twin}) = begins k e (W.Begin (node_of u) (if twin then W.Merge else W.Overwrite))
    step_others (copies_over {g = k} {i = e}) = op k e
    step_others (merges {g = k} {i = e}) = op k e
    step_others (merges_own {g = k} {i = e}) = op k e
    step_others (merges_twin {g = k} {i = e}) = op k e
    step_others (makes {g = k} {i = e}) = begins k e (W.Begin (node_of u) W.Make)
    step_others (makes_twin {g = k} {i = e}) = op k e
    step_others (made {g = k}) = only (is_away k) (W.Op (node_of u))
    step_others step = []

    -- the node whose copy it is about: a visited one, or its own
    abbrev pub step_node : {w : Work} {a : Act} {x : ℕ} {v : Work} → Step u maps dirty w a x v → ℕ
    step_node (looks {j = j}) = j
    step_node (reads_map {j = j}) = j
    step_node (marks {j = j} lo hi) = j
    step_node (saves {j = j}) = j
    step_node (saves_twin {j = j}) = j
    step_node (saves_home {j = j}) = j
    step_node (twins_broken {j = j} e) = j
    step_node (breaks {j = j}) = j
    step_node step = node_of u

    -- and what it stores
    abbrev pub step_value : {w : Work} {a : Act} {x : ℕ} {v : Work} → Step u maps dirty w a x v → ℕ
    step_value (stores {v = v} e) = v
    step_value step = 0

    -- what it is, where these are the pages at all places
    abbrev pub step_moves : (Option ℕ → D.State) → {w : Work} {a : Act} {x : ℕ} {v : Work} → Step u maps dirty w a x v → List Move
    step_moves f step =
        map Other (step_others step)
        ++ map (At (place_of h (step_node step)) (step_value step)) (R.step_events h (step_node step) g i u (f (place_of h (step_node step))) step)

    -- a decision
    abbrev pub slip_node : {w v : Work} → Slip u maps dirty w v → ℕ
    slip_node (marked {j = j}) = j
    slip_node slip = node_of u

    abbrev pub slip_moves : (Option ℕ → D.State) → {w v : Work} → Slip u maps dirty w v → List Move
    slip_moves f slip = map (At (place_of h (slip_node slip)) 0) (R.slip_events h (slip_node slip) g i u (f (place_of h (slip_node slip))) slip)

  -- a note
  abbrev pub note_others : {w : Work} {e : Note} {v : Work} → Noted u None w e v → List W.Event
  note_others (fetched {g = k}) = only (is_away k) (W.Op (node_of u))
  note_others (passes none) = W.Pass u.p ∷ []
  note_others (quits none) = W.Pass u.p ∷ []
  note_others noted = []

  abbrev pub note_moves : {w : Work} {e : Note} {v : Work} → Noted u None w e v → List Move
  note_moves noted = map Other (note_others noted) ++ map (At (place_of h (node_of u)) 0) (R.note_events h (node_of u) g i u noted)
