-- What holds of the page, and of each processor of the node.
use Rattle.std.proofs.Common.{◌≡◌, ◌≢◌, ℕ, ◌≤◌, ◌<◌, ◌⊎◌, Bool, true, false}
use Rattle.dsm_fresh.specs.Stages.{Work, Idle, Ready, Open, Copied, Entered, Fetched, Hand, Found, Timed, Flags, Other, Stage, Rest, Before, Drained, Given, Taken, is_worker, is_open, is_entering, snap_of, time_of, carried, hand_time}
use Rattle.dsm_fresh.specs.Pages.{Page, Processor}

-- a fault is under way; has drawn a time; has made its copy
abbrev pub is_fault : Work → Bool
is_fault Idle = false
is_fault _ = true

abbrev pub has_time : Work → Bool
has_time (Ready q t) = true
has_time (Open q a t e) = true
has_time (Copied q a t e) = true
has_time _ = false

abbrev pub is_copied : Work → Bool
is_copied (Copied q a t e) = true
is_copied _ = false

-- stamped, or not stale: the page may be mapped
abbrev pub is_stamped : Work → Bool
is_stamped (Entered q) = true
is_stamped (Fetched q) = true
is_stamped _ = false

-- a notice of the sender is in hand; it has a time; any notice in hand has one
abbrev pub in_hand : Hand → Bool
in_hand (Found c) = true
in_hand (Timed c t) = true
in_hand _ = false

abbrev pub is_timed : Hand → Bool
is_timed (Timed c t) = true
is_timed _ = false

abbrev pub has_hand_time : Hand → Bool
has_hand_time (Timed c t) = true
has_hand_time (Other t) = true
has_hand_time _ = false

-- the node has send s, or fetches it before it uses the page
abbrev pub Will : Page → ℕ → Type 0
Will g s = (s ≤ g.got) ⊎ (g.dir ≡ 0) ⊎ ((g.update ≡ 0) × ((is_open g.work ≡ false) ⊎ (s ≤ snap_of g.work)))

-- a notice of time x that stands for c sends is not too early
abbrev pub Warns : Page → ℕ → ℕ → Type 0
Warns g c x = (c ≤ g.got) ⊎ (g.dir ≡ 0) ⊎ ((is_open g.work ≡ false) × ((g.update ≡ 0) ⊎ (g.update < x))) ⊎ ((is_open g.work ≡ true) × ((c ≤ snap_of g.work) ⊎ (time_of g.work < x)))

-- how the counts stand to one another
pub record Bounds (g : Page) : Type 0 where
  -- each count is of sends that have ended; what is noted was posted, and what is told was posted or broken
  pub told_in : g.told ≤ g.sent
  pub got_in : g.got ≤ g.sent
  pub broken_in : g.broken ≤ g.sent
  pub snap_in : snap_of g.work ≤ g.sent
  pub posted_in : g.posted ≤ g.sent
  pub dealt_in : g.dealt ≤ g.posted
  pub told_posted : (g.told ≤ g.posted) ⊎ (g.told ≤ g.broken)
  -- a notice in hand stands for what is not noted yet
  pub hand_in : in_hand g.hand ≡ true → (g.dealt ≤ carried g.hand) × (carried g.hand ≤ g.posted)
  -- where the sender has dealt with the node, all is posted, or the last send was a break
  pub posting : g.served ≡ true → (g.posted ≡ g.sent) ⊎ (g.broken ≡ g.sent)
  -- a fault works on a registered node, and finds a copy behind its fetch, which has got what had ended when it began
  pub fault_listed : is_fault g.work ≡ true → g.dir ≢ 0
  pub stamped_has : is_stamped g.work ≡ true → g.update ≢ 0
  pub copied_has : is_copied g.work ≡ true → snap_of g.work ≤ g.got
  -- who enters, or is exclusive, misses no send
  pub copying_all : is_entering g.work ≡ true → is_open g.work ≡ true → snap_of g.work ≡ g.sent
  pub entered_has : is_entering g.work ≡ true → is_open g.work ≡ false → g.got ≡ g.sent
  pub sole_has : g.dir ≡ 2 → (g.got ≡ g.sent) × (g.update ≢ 0)

-- each time was drawn from the clock, and that of a notice in hand is later than the last one
pub record Times (g : Page) : Type 0 where
  pub update_in : g.update < g.clock
  pub notice_in : g.notice < g.clock
  pub work_in : has_time g.work ≡ true → (0 < time_of g.work) × (time_of g.work < g.clock)
  pub hand_in : has_hand_time g.hand ≡ true → (g.notice < hand_time g.hand) × (hand_time g.hand < g.clock)

-- what the node hears of
pub record Notices (g : Page) : Type 0 where
  -- what was posted is fetched before the next use, or noted, or its bit stands, or it is in hand
  pub posted_is : Will g g.posted ⊎ (g.posted ≤ g.dealt) ⊎ (g.bit ≡ true) ⊎ ((in_hand g.hand ≡ true) × (g.posted ≤ carried g.hand))
  -- a break is fetched before the next use
  pub breaks : Will g g.broken
  -- the stored notice is late enough for what is noted, and a timed one for what it stands for
  pub dealt_is : Warns g g.dealt g.notice
  pub stamping : is_timed g.hand ≡ true → Warns g (carried g.hand) (hand_time g.hand)

-- all that holds of the page
pub record Sound (g : Page) : Type 0 where
  pub bounds : Bounds g
  pub times : Times g
  pub notices : Notices g

-- the page is still to be looked at; who holds the notices will flag q
abbrev pub is_taken : Stage → Bool
is_taken (Taken b) = b
is_taken _ = false

abbrev pub flags_to : Hand → ℕ → Type 0
flags_to (Flags j) q = j ≤ q
flags_to _ q = ⊥

-- a notice reaches q
abbrev pub Reached : Page → ℕ → Processor → Type 0
Reached g q x = (x.own ≡ true) ⊎ flags_to g.hand q ⊎ (is_taken x.stage ≡ true)

-- the sends that q knows of are noticed, or fetched before the next use, or broken
abbrev pub Heard : Page → ℕ → Type 0
Heard g k = (k ≤ g.dealt) ⊎ Will g k ⊎ (k ≤ g.broken)

-- what q knows at its stage
abbrev pub AtStage : Page → Processor → Stage → Type 0
AtStage g x Rest = Heard g x.known × (x.mapped ≡ true → x.known ≤ g.got)
AtStage g x Before = Unit {0}
AtStage g x Drained = Heard g x.known ⊎ ((in_hand g.hand ≡ true) × (x.known ≤ carried g.hand))
AtStage g x Given = Heard g x.known × (x.mapped ≡ true → (x.known ≤ g.got) ⊎ (x.own ≡ true))
AtStage g x (Taken b) = Heard g x.known × (x.mapped ≡ true → (x.known ≤ g.got) ⊎ (b ≡ true))

-- what q knows where it is the worker
abbrev pub AtWork : Page → ℕ → Processor → Work → Type 0
AtWork g q x (Open p a t e) = p ≡ q → (x.known ≤ e) × (g.got < g.dealt → e < g.dealt → Reached g q x)
AtWork g q x (Copied p a t e) = p ≡ q → (x.known ≤ e) × (g.got < g.dealt → e < g.dealt → Reached g q x)
AtWork g q x (Fetched p) = p ≡ q → (x.known ≤ g.got) × (g.got < g.dealt → Reached g q x)
AtWork g q x _ = Unit {0}

module _ (first top : ℕ) where
  -- what holds of a processor of the node
  pub record Fits (g : Page) (q : ℕ) (x : Processor) : Type 0 where
    -- what it maps is of a registered node with a copy
    pub unlisted : g.dir ≡ 0 → x.mapped ≡ false
    pub unfetched : g.update ≡ 0 → x.mapped ≡ false
    pub known_in : x.known ≤ g.told
    -- a fault is of a processor at rest, and both are of the node
    pub at_rest : is_worker q g.work ≡ true → x.stage ≡ Rest
    pub of_node : (x.mapped ≡ true) ⊎ (is_worker q g.work ≡ true) → (first ≤ q) × (q < top)
    -- where the node has not got what is noted, a notice reaches who maps the page
    pub reached : x.mapped ≡ true → g.got < g.dealt → Reached g q x
    pub at_work : AtWork g q x g.work
    pub at_stage : AtStage g x x.stage
