-- What holds of the page, and of each processor of the node.
use Rattle.std.proofs.Common.{◌≡◌, ◌≢◌, ℕ, ◌≤◌, ◌<◌, ◌⊎◌, Bool, true, false}
use Rattle.std.specs.Prelude.{nat_lt}
use Rattle.dsm_copies.specs.Modes.{exclusive, owed, covered, ended, told}
use Rattle.dsm_debts.specs.Page.{Part, Before, After, Work, Ready, Flushing, Posting, Posted, Marking, Copying, Copied, Stage, Running, Page, Processor, is_loaded, is_broken, has_taken, IsDue, time_of, opened}

abbrev pub has_time : Work → Bool
has_time (Ready p t) = true
has_time (Flushing p t x) = true
has_time _ = false

-- a flush is made and its twin stands
abbrev pub is_flush : Work → Bool
is_flush (Flushing p t x) = true
is_flush (Posting p b) = b
is_flush (Posted p b j) = b
is_flush _ = false

-- a flush is stamped and its twin stands
abbrev pub is_flushed : Work → Bool
is_flushed (Posting p b) = b
is_flushed (Posted p b j) = b
is_flushed _ = false

abbrev pub is_break : Work → Bool
is_break (Marking j) = true
is_break (Copying x) = true
is_break Copied = true
is_break _ = false

abbrev pub is_copying : Work → Bool
is_copying (Copying x) = true
is_copying Copied = true
is_copying _ = false

abbrev pub is_copied : Work → Bool
is_copied Copied = true
is_copied _ = false

abbrev pub is_posting : Work → Bool
is_posting (Posting p b) = true
is_posting _ = false

abbrev pub is_stamped : Work → Bool
is_stamped (Posting p b) = true
is_stamped (Posted p b j) = true
is_stamped _ = false

abbrev pub has_part : Part → Bool
has_part Before = false
has_part After = false
has_part _ = true

-- the word's part is under way
abbrev pub in_part : Work → Bool
in_part (Flushing p t x) = has_part x
in_part (Copying x) = has_part x
in_part _ = false

-- a break has dealt with the bit of q
abbrev pub is_marked : ℕ → Work → Bool
is_marked q (Marking j) = nat_lt q j
is_marked q (Copying x) = true
is_marked q Copied = true
is_marked q _ = false

-- q was read to have no write mapping
abbrev pub is_read : ℕ → Work → Bool
is_read q (Posted p b j) = nat_lt q j
is_read q _ = false

abbrev pub IsWorker : ℕ → Work → Type 0
IsWorker q (Ready p t) = p ≡ q
IsWorker q (Flushing p t x) = p ≡ q
IsWorker q (Posting p b) = p ≡ q
IsWorker q (Posted p b j) = p ≡ q
IsWorker q _ = ⊥

abbrev pub in_release : Stage → Bool
in_release Running = false
in_release _ = true

-- a page by its parts
abbrev pub page : (flush clock : ℕ) (twin sole : Bool) → Work → Page
page flush clock twin sole w = record { flush = flush; clock = clock; twin = twin; sole = sole; work = w }

-- of the page
pub record Sound (home : Bool) (g : Page) : Type 0 where
  pub flush_in : g.flush < g.clock
  pub time_in : has_time g.work ≡ true → time_of g.work < g.clock
  pub sole_bare : g.sole ≡ true → (g.twin ≡ false) ⊎ (is_copied g.work ≡ true)
  pub home_bare : home ≡ true → g.twin ≡ false
  pub flush_twin : is_flush g.work ≡ true → g.twin ≡ true
  pub break_sole : is_break g.work ≡ true → g.sole ≡ true
  pub copied_twin : is_copied g.work ≡ true → g.twin ≡ true
  pub copying_away : is_copying g.work ≡ true → home ≡ false

-- who may store
pub record Maps (home : Bool) (first top : ℕ) (sole twin : Bool) (w : Work) (q : ℕ) (x : Processor) : Type 0 where
  pub of_node : x.writes ≡ true → (first ≤ q) × (q < top)
  pub writes_due : x.writes ≡ true → (x.dirty ≡ true) ⊎ (x.bit ≡ true) ⊎ (sole ≡ true)
  pub writes_twin : x.writes ≡ true → (home ≡ true) ⊎ (sole ≡ true) ⊎ (twin ≡ true)
  pub marked : x.writes ≡ true → is_marked q w ≡ true → (x.dirty ≡ true) ⊎ (x.bit ≡ true)
  pub read : is_read q w ≡ true → x.writes ≡ false

-- how far its last store is
pub record Owes (home sole twin : Bool) (w : Work) (x : Processor) : Type 0 where
  pub most : x.debt ≤ told
  pub untold : x.debt ≢ told → (sole ≡ true) ⊎ IsDue x
  pub owed_away : x.debt ≡ owed → (home ≡ false) × IsDue x
  pub owed_twin : x.debt ≡ owed → (twin ≡ true) ⊎ (is_broken w ≡ true)
  pub owed_break : x.debt ≡ owed → is_broken w ≡ true → x.seen ≡ false
  pub exclusive_is : x.debt ≡ exclusive → (home ≡ false) × (sole ≡ true) × (is_loaded w ≡ true → x.seen ≡ true)
  pub covered_is : x.debt ≡ covered → (home ≡ true) ⊎ ((is_loaded w ≡ true) × (x.seen ≡ false))
  pub ended_is : x.debt ≡ ended → (is_posting w ≡ true) × ((home ≡ true) ⊎ (is_flushed w ≡ true))
  pub seen_is : x.seen ≡ true → in_part w ≡ true
  pub later : x.debt ≡ owed → is_loaded w ≡ true → x.seen ≡ false → x.writes ≡ true
  pub drop : x.debt ≡ owed → is_flushed w ≡ true → x.writes ≡ true

-- its release
pub record Releases (flush clock : ℕ) (sole : Bool) (w : Work) (q : ℕ) (x : Processor) : Type 0 where
  pub opened_in : in_release x.stage ≡ true → opened x.stage < clock
  pub under_way : in_release x.stage ≡ true → has_time w ≡ true → opened x.stage < time_of w → is_loaded w ≡ true → x.debt ≡ owed → x.seen ≡ true
  pub coalesced : in_release x.stage ≡ true → opened x.stage < flush → (ended ≤ x.debt) ⊎ ((sole ≡ true) × (x.debt ≢ owed))
  pub works : IsWorker q w → (has_taken x.stage ≡ true) × (x.dirty ≡ true)
  pub timed : IsWorker q w → has_time w ≡ true → opened x.stage < time_of w
  pub stamped : IsWorker q w → is_stamped w ≡ true → opened x.stage < flush

pub record Fits (home : Bool) (first top : ℕ) (g : Page) (q : ℕ) (x : Processor) : Type 0 where
  pub maps : Maps home first top g.sole g.twin g.work q x
  pub owes : Owes home g.sole g.twin g.work x
  pub releases : Releases g.flush g.clock g.sole g.work q x
