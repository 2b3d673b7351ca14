-- What holds of a node, of a processor, of a processor at a node, and of two nodes.
use Rattle.std.proofs.Common.{◌≡◌, ◌≢◌, ℕ, suc, ◌≤◌, ◌<◌, ◌⊎◌, Bool, true, false}
use Rattle.dsm_owners.specs.Stages.{Why, Stage, held, Known, Finding, Clearing, Registering, Sharing, Wanting, Parting, Visiting, Looking, Breaking, Ending, Parted, Back, Shared, Claiming, Claimed, Failing, Entering, Copying, Entered, Ready, Compared, Fetching, Opened, Fetched, Making, Setting, Giving, Releasing, Checked, Flushing, Posting, Lowering, Lowered, Dropping, Unlisting, Clean, Acquiring, Judging, Emptying, Emptied}
use Rattle.dsm_owners.specs.Acts.{Act, moves, Share_none, Share_one, Share_busy, Look_none, Look_some, Drop_zero, Drop_one, Drop_two, Empty_zero, Empty_some}
use Rattle.dsm_owners.specs.Directory.{Node, Processor}

-- a processor at the stage of an act
abbrev pub before : Act → Processor → Processor
before e y = record y { stage = (moves e).0 }

-- between its claim and its end
abbrev pub claims : Stage → Bool
claims (Claimed j) = true
claims Failing = true
claims Entering = true
claims Copying = true
claims Entered = true
claims _ = false

-- while a fetch is open
abbrev pub opens : Stage → Bool
opens Copying = true
opens (Opened w) = true
opens _ = false

-- at the last store of a break
abbrev pub ends : Stage → Bool
ends (Ending c j) = true
ends _ = false

-- what the holder of the turn of node m knows of its words; n is the own node
abbrev pub AtTurn : ℕ → ℕ → ℕ → ℕ → Node → Stage → Type 0
AtTurn top home n m x (Known w d) = (x.dir ≡ d) × (d ≤ 1)
AtTurn top home n m x (Finding w) = x.dir ≡ 0
AtTurn top home n m x (Clearing w) = (x.dir ≡ 0) × (home ≢ 0)
AtTurn top home n m x (Registering w) = (x.dir ≡ 0) × (home ≢ 0) × (x.update ≡ false)
AtTurn top home n m x (Sharing w j f b) = x.dir ≡ 1
AtTurn top home n m x (Wanting w b) = x.dir ≡ 1
AtTurn top home n m x (Parting w b) = x.dir ≡ 1
AtTurn top home n m x (Breaking c j) = x.dir ≡ 2
AtTurn top home n m x (Ending c j) = (x.dir ≡ 2) × (home ≢ suc m → x.twined ≡ true)
AtTurn top home n m x (Parted c j) = x.dir ≤ 1
AtTurn top home n m x (Shared w f) = x.dir ≡ 1
AtTurn top home n m x Claiming = (x.dir ≡ 1) × (x.twined ≡ false)
AtTurn top home n m x (Claimed j) = (x.dir ≡ 3) × (x.twined ≡ false) × (x.sure ≡ j)
AtTurn top home n m x Failing = (x.dir ≡ 3) × (x.twined ≡ false)
AtTurn top home n m x Entering = (x.dir ≡ 3) × (x.twined ≡ false) × (top ≤ x.sure) × (home ≢ suc m)
AtTurn top home n m x Copying = (x.dir ≡ 3) × (x.twined ≡ false) × (top ≤ x.sure) × (home ≢ suc m)
AtTurn top home n m x Entered = (x.dir ≡ 3) × (x.twined ≡ false) × (top ≤ x.sure) × (home ≢ suc m → x.update ≡ true)
AtTurn top home n m x (Ready w) = x.dir ≡ 1
AtTurn top home n m x (Compared w u) = (x.dir ≡ 1) × (home ≢ suc m) × (x.update ≡ u)
AtTurn top home n m x (Fetching w) = (x.dir ≡ 1) × (home ≢ suc m)
AtTurn top home n m x (Opened w) = (x.dir ≡ 1) × (home ≢ suc m)
AtTurn top home n m x (Fetched w) = (x.dir ≡ 1) × (home ≢ suc m) × (x.update ≡ true)
AtTurn top home n m x Making = (x.dir ≡ 1) × (home ≢ suc m) × (x.update ≡ true)
AtTurn top home n m x (Setting w e) = (e ≡ true → x.dir ≡ 2) × (e ≡ false → (x.dir ≡ 1) × (w ≡ true → home ≢ suc m → x.twined ≡ true)) × (home ≢ suc m → x.update ≡ true)
AtTurn top home n m x Checked = x.dir ≤ 1
AtTurn top home n m x Flushing = (x.dir ≤ 1) × (x.twined ≡ true)
AtTurn top home n m x (Posting f) = (x.dir ≤ 1) × (f ≡ true → x.twined ≡ true)
AtTurn top home n m x (Lowering f) = (x.dir ≤ 1) × (f ≡ true → x.twined ≡ true)
AtTurn top home n m x (Lowered f) = (x.dir ≤ 1) × (f ≡ true → x.twined ≡ true)
AtTurn top home n m x (Dropping j a) = (x.dir ≤ 1) × (x.twined ≡ true)
AtTurn top home n m x Unlisting = (x.dir ≤ 1) × (x.twined ≡ false) × (home ≢ suc m)
AtTurn top home n m x Acquiring = x.noted ≡ true
AtTurn top home n m x Judging = (x.dir ≤ 1) × (x.noted ≡ true)
AtTurn top home n m x (Emptying j) = (x.dir ≤ 1) × (x.noted ≡ true)
AtTurn top home n m x Emptied = (x.dir ≤ 1) × (x.noted ≡ true) × (x.twined ≡ false)
AtTurn top home n m x _ = Unit {0}

-- what a processor at another node knows of itself, and mp of its mapping: its own node was not busy, the one that it is at was
abbrev pub Cause : ℕ → ℕ → Why → ℕ → Type 0
Cause n mp c j = c.faults ≡ true → (c.busy n ≡ false) × (c.busy j ≡ true) × (mp ≢ 0)

-- what a processor knows of itself
abbrev pub Own : ℕ → ℕ → Bool → Stage → Type 0
Own n mp d (Sharing w j f b) = b n ≡ false
Own n mp d (Wanting w b) = b n ≡ false
Own n mp d (Parting w b) = (b n ≡ false) × (mp ≢ 0)
Own n mp d (Visiting w i b) = (b n ≡ false) × (mp ≢ 0)
Own n mp d (Looking c j) = Cause n mp c j
Own n mp d (Breaking c j) = Cause n mp c j
Own n mp d (Ending c j) = Cause n mp c j
Own n mp d (Parted c j) = Cause n mp c j
Own n mp d (Back w) = mp ≢ 0
Own n mp d Giving = mp ≢ 0
Own n mp d Releasing = d ≡ true
Own n mp d Checked = d ≡ true
Own n mp d Flushing = d ≡ true
Own n mp d (Posting f) = d ≡ true
Own n mp d (Lowering f) = d ≡ true
Own n mp d (Lowered f) = d ≡ true
Own n mp d (Dropping j a) = d ≡ true
Own n mp d Unlisting = d ≡ true
Own n mp d Clean = d ≡ true
Own n mp d _ = Unit {0}

-- a fault at this stage still visits node m before it uses the page
abbrev pub Still : Why → ℕ → ℕ → Type 0
Still c j m = c.faults ≡ true → (j ≤ m) × (c.busy m ≡ true)

abbrev pub Blocked : ℕ → Stage → Type 0
Blocked m (Sharing w j f b) = (j ≤ m) ⊎ (b m ≡ true)
Blocked m (Wanting w b) = b m ≡ true
Blocked m (Parting w b) = b m ≡ true
Blocked m (Visiting w i b) = (i ≤ m) × (b m ≡ true)
Blocked m (Looking c j) = Still c j m
Blocked m (Breaking c j) = Still c j m
Blocked m (Ending c j) = Still c j m
Blocked m (Parted c j) = Still c (suc j) m
Blocked m (Back w) = ⊥
Blocked m (Shared w f) = ⊥
Blocked m Claiming = ⊥
Blocked m (Claimed j) = ⊥
Blocked m Failing = ⊥
Blocked m Entering = ⊥
Blocked m Copying = ⊥
Blocked m Entered = ⊥
Blocked m (Ready w) = ⊥
Blocked m (Compared w u) = ⊥
Blocked m (Fetching w) = ⊥
Blocked m (Opened w) = ⊥
Blocked m (Fetched w) = ⊥
Blocked m Making = ⊥
Blocked m (Setting w e) = ⊥
Blocked m Giving = ⊥
Blocked m _ = Unit {0}

-- a processor of node n while node m is sure of n
pub record Shut (home n m : ℕ) (z : Processor) : Type 0 where
  pub unused : (z.map ≡ 0) ⊎ (z.map ≡ 3)
  pub clean : home ≡ suc n → (z.dirty ≡ false) × (z.nle ≡ false)
  pub blocked : Blocked m z.stage

-- what one that has looked at mappings of its node knows of processor r
abbrev pub Looked : Stage → ℕ → ℕ → Type 0
Looked (Dropping j a) r mp = r < j → (mp ≢ 2) × (a ≡ false → mp ≡ 0)
Looked Unlisting r mp = mp ≡ 0
Looked (Emptying j) r mp = r < j → mp ≡ 0
Looked Emptied r mp = mp ≡ 0
Looked _ r mp = Unit {0}

pub record Good (top home m : ℕ) (x : Node) : Type 0 where
  pub unlisted : x.dir ≡ 0 → (x.twined ≡ false) × (x.fetch_open ≡ false)
  pub dir_in : x.dir ≤ 3
  pub sole_sure : x.dir ≡ 2 → top ≤ x.sure
  pub claim_turn : x.dir ≡ 3 → x.turn ≢ 0
  pub open_turn : x.fetch_open ≡ true → x.turn ≢ 0
  pub sole_bare : x.turn ≡ 0 → x.dir ≡ 2 → x.twined ≡ false
  pub sure_dir : x.sure ≢ 0 → (x.dir ≡ 2) ⊎ (x.dir ≡ 3)
  pub sure_in : x.sure ≢ 0 → m < top
  pub home_bare : home ≡ suc m → (x.twined ≡ false) × (x.noted ≡ false)
  pub fetched : home ≢ suc m → (x.dir ≡ 2) ⊎ (x.twined ≡ true) → x.update ≡ true
  pub homeless : home ≡ 0 → (x.dir ≡ 0) × (x.noted ≡ false)

pub record Mine (home n : ℕ) (y : Processor) : Type 0 where
  pub own : Own n y.map y.dirty y.stage
  pub homeless : home ≡ 0 → (y.map ≡ 0) × (y.dirty ≡ false) × (y.nle ≡ false)

-- processor r of node n, and node m
pub record Fits (top home n m r : ℕ) (x : Node) (z : Processor) : Type 0 where
  pub turn_is : held n z.stage ≡ suc m → x.turn ≡ suc r
  pub held_is : x.turn ≡ suc r → held n z.stage ≡ suc m
  pub at_turn : x.turn ≡ suc r → AtTurn top home n m x z.stage
  pub no_claim : x.turn ≡ suc r → claims z.stage ≡ false → x.dir ≢ 3
  pub no_open : x.turn ≡ suc r → opens z.stage ≡ false → x.fetch_open ≡ false
  pub sole_bare : x.turn ≡ suc r → ends z.stage ≡ false → x.dir ≡ 2 → x.twined ≡ false
  pub unlisted : n ≡ m → x.dir ≡ 0 → z.map ≡ 0
  pub fetched : n ≡ m → home ≢ suc m → 1 ≤ z.map → z.map ≤ 2 → x.update ≡ true
  pub writer : n ≡ m → home ≢ suc m → z.map ≡ 2 → (x.dir ≡ 2) ⊎ (x.twined ≡ true)
  pub kept : n ≡ m → home ≡ suc m → (z.dirty ≡ true) ⊎ (z.nle ≡ true) → x.dir ≢ 0
  pub shut : n ≢ m → n < x.sure → Shut home n m z

-- node n, as node m may be sure of it
pub record Duo (home m n : ℕ) (xm xn : Node) : Type 0 where
  pub no_twin : n < xm.sure → xn.twined ≡ false
  pub no_fetch : n < xm.sure → xn.fetch_open ≡ false
  pub no_claim : n < xm.sure → xn.dir ≤ 1
  pub no_copy : n < xm.sure → home ≢ suc n → xn.dir ≢ 0 → xn.update ≡ false

-- the word heard is the directory word of node j
abbrev pub Tells : Act → ℕ → Node → ℕ → Type 0
Tells (Share_none w j f b) m x v = m ≡ j → x.dir ≡ v
Tells (Share_one w j f b) m x v = m ≡ j → x.dir ≡ v
Tells (Share_busy w j f b) m x v = m ≡ j → x.dir ≡ v
Tells (Look_none j) m x v = m ≡ j → x.dir ≡ v
Tells (Look_some j) m x v = m ≡ j → x.dir ≡ v
Tells _ m x v = Unit {0}

-- or the mapping of processor j
abbrev pub Maps : Act → ℕ → ℕ → ℕ → Type 0
Maps (Drop_zero j a) r mr v = r ≡ j → mr ≡ v
Maps (Drop_one j a) r mr v = r ≡ j → mr ≡ v
Maps (Drop_two j a) r mr v = r ≡ j → mr ≡ v
Maps (Empty_zero j) r mr v = r ≡ j → mr ≡ v
Maps (Empty_some j) r mr v = r ≡ j → mr ≡ v
Maps _ r mr v = Unit {0}

-- node j was found unregistered
abbrev pub Hears : ℕ → ℕ → Act → ℕ → Processor → Type 0
Hears home m (Look_none j) k z = k ≡ j → Shut home k m z
Hears home m _ k z = Unit {0}
