-- Protocol work: what a processor may do on the way to the rest of its job, and under which turn.
use Rattle.std.specs.Prelude.{◌≡◌, ℕ, ◌+◌, ◌<◌, Option, None, Some}
use Rattle.dsm_words.specs.declared.item.Item.TheVariants.{Frame, Twin, Twined, Map, Dir, Update, Flush, Notice, Clock, Global, Own, Nle, Home}
use Rattle.dsm_words.specs.Place.{IsWithin}
use Rattle.dsm_words.specs.Script.{Act, Get, Put, Swap, Change, Add, Or, item_of}
use Rattle.dsm_clock.specs.declared.turns.TurnId.{TurnId}
use Rattle.dsm_clock.specs.declared.turns.TurnId.TheVariants.{Page, Notices}
use Rattle.dsm_clock.specs.Turns.{turn_item}
use Rattle.dsm_protocol.specs.Own.{Own as Held, Who, Unready, node_of}
use Rattle.dsm_protocol.specs.Jobs.{Job, Make, Again, Mark, Ask, Note, Give, Go, Move, Append, Map_own, Count, Happen, Passed}

-- which operation changes which word under which turn; turns and its own mapping come below, and nothing else is changed
abbrev pub Rights : Who → Option TurnId → Act → Type 0
Rights u t (Put (Frame n g i) v) = Unit {0}
Rights u t (Put (Twin n g i) v) = t ≡ Some (Page n g)
Rights u t (Put (Twined n g) v) = t ≡ Some (Page n g)
Rights u t (Put (Dir n g) v) = t ≡ Some (Page n g)
Rights u t (Put (Update n g) v) = t ≡ Some (Page n g)
Rights u t (Put (Flush n g) v) = t ≡ Some (Page n g)
Rights u t (Put (Notice n g) v) = t ≡ Some (Notices n)
Rights u t (Swap (Global n m k) v) = (t ≡ Some (Notices n)) × (v ≡ 0)
Rights u t (Swap (Own p k) v) = (p ≡ u.p) × (v ≡ 0)
Rights u t (Swap (Nle p k) v) = (p ≡ u.p) × (v ≡ 0)
Rights u t (Change (Home g) old v) = (old ≡ 0) × (v ≡ node_of u + 1)
Rights u t (Add (Clock n) k) = (n ≡ node_of u) × (k ≡ 1)
Rights u t (Or (Global n m k) bits) = m ≡ node_of u
Rights u t (Or (Own p k) bits) = t ≡ Some (Notices (node_of u))
Rights u t (Or (Nle p k) bits) = Unit {0}
Rights u t _ = ⊥

-- it loads, or changes what it may
abbrev pub Legal : Who → Option TurnId → Act → Type 0
Legal u t (Get it) = Unit {0}
Legal u t a = IsWithin u.lay (item_of a) × Rights u t a

-- a change of what it holds that is of no matter to others
abbrev pub IsInner : Note → Type 0
IsInner (Give d v) = ⊥
IsInner (Go to) = ⊥
IsInner Move = ⊥
IsInner (Append e) = ⊥
IsInner (Happen (Passed p)) = ⊥
IsInner (Map_own g m) = ⊥
IsInner (Count Unready) = ⊥
IsInner _ = Unit {0}

-- an operation under turn t leaves it with turn t', and with a mapping that it still has to change
pub data May (u : Who) : Option TurnId → Act → Option TurnId → Option (ℕ × ℕ) → Type 0 where
  Plain : {t : Option TurnId} {a : Act} → Legal u t a → May u t a t None
  Maps : {g m : ℕ} → g < u.lay.pages → May u (Some (Page (node_of u) g)) (Put (Map u.p g) m) (Some (Page (node_of u) g)) (Some (g, m))
  Gives : (turn : TurnId) → IsWithin u.lay (turn_item turn) → May u (Some turn) (Put (turn_item turn) 0) None None

-- a job does protocol work: holding turn t, with w its mapping that it still has to change, until it goes on with the rest, with no turn
pub data Works (u : Who) (rest : Job) : Option TurnId → Option (ℕ × ℕ) → Job → Type 0 where
  Over : Works u rest None None rest
  Makes : {t t' : Option TurnId} {w : Option (ℕ × ℕ)} {a : Act} {k : ℕ → Job} → May u t a t' w → ((x : ℕ) → Works u rest t' w (k x)) → Works u rest t None (Make a k)
  Takes : {j : Job} (turn : TurnId) → IsWithin u.lay (turn_item turn) → Works u rest (Some turn) None j → Works u rest None None (Again (Change (turn_item turn) 0 (u.p + 1)) 0 j)
  Marks_map : {t : Option TurnId} {j : Job} {g m : ℕ} → Works u rest t None j → Works u rest t (Some (g, m)) (Mark (Map_own g m) j)
  Marks : {t : Option TurnId} {w : Option (ℕ × ℕ)} (n : Note) (j : Job) → IsInner n → Works u rest t w j → Works u rest t w (Mark n j)
  Asks : {t : Option TurnId} {w : Option (ℕ × ℕ)} {f : Held → Job} → ((o : Held) → Works u rest t w (f o)) → Works u rest t w (Ask f)
