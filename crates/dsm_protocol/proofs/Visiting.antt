-- A visit is made by the table: the home is found, node m has the page alone no longer, and the turn of its copy is given back.
use Rattle.std.proofs.Common.{◌≡◌, ℕ, zero, suc, ◌+◌, ◌*◌, ◌<◌, ◌≤◌, ◌==◌, Bool, true, false, Option, refl, subst, arith, if◌then◌else◌}
use Rattle.std.specs.Prelude.{◌-◌, ◌%◌}
use Rattle.std.proofs.Math.Nat.{mod-lt}
use Rattle.dsm_words.specs.declared.item.Item.TheVariants.{Home}
use Rattle.dsm_words.specs.Place.{processors}
use Rattle.dsm_words.specs.Parts.{each}
use Rattle.dsm_words.specs.Script.{Change, Script, End, Do}
use Rattle.dsm_directory.specs.Homes.{find_home_script}
use Rattle.dsm_exclusive.specs.Breaking.{break_tell, break_map, break_word, break_end, break_twined, break_words, break_copy, break_maps}
use Rattle.dsm_protocol.specs.Own.{Own, Who, node_of}
use Rattle.dsm_protocol.specs.Jobs.{Job, call}
use Rattle.dsm_protocol.specs.Steps.{give_job, break_job}
use Rattle.dsm_protocol.specs.Stages.{Cause, Seeker, Whole, Stage, Seeking, Missing, Breaking, Marking, Saving, Ending, Broken, Parted, Round, Work, Off, On, found, departed}
use Rattle.dsm_protocol.specs.Rows.{seeks, settles, reads_map, marks, saves, saves_twin, saves_home, twins_broken, breaks, departs, marked, broken as breaks_off, broadcast, counts}
use Rattle.dsm_protocol.specs.Standing.{Works, Makes, Marks, Slips}
use Rattle.dsm_protocol.proofs.Placed.{IsPlaced, group_in, rows}

module _ (u : Who) (rest : Option Job) (r : Round) where
  -- a job at a stage of page g, and one on no page, whatever it holds
  abbrev pub At : ℕ → Stage → Own → Job → Type 0
  At g s o j = Works u rest (On r g s) o j

  abbrev pub Rested : Job → Type 0
  Rested j = (o : Own) → Works u rest (Off r) o j

  pub pick : {o : Own} {g : ℕ} {s t : Stage} {x y : Job} (c : Bool) → At g s o x → At g t o y → At g (if c then s else t) o (if c then x else y)
  pick true a b = a
  pick false a b = b

  -- the parts of a loop, each of which leads from its place to the next one's
  pub in_turn : (o : Own) (f : Unit {0} → Job) (place : ℕ → Work) (low bound : ℕ) (part : ℕ → Script (Unit {0}) → Script (Unit {0}))
      → ((i : ℕ) → low ≤ i → i < bound → (s : Script (Unit {0})) → Works u rest (place (i + 1)) o (call s f) → Works u rest (place i) o (call (part i s) f))
      → (i k : ℕ) (s : Script (Unit {0})) → low ≤ i → i + k ≡ bound → Works u rest (place bound) o (call s f) → Works u rest (place i) o (call (each part i k s) f)
  in_turn o f place low bound part one i zero s lo e p = subst (λ z. Works u rest (place z) o (call s f)) (omega (arith, e)) p
  in_turn o f place low bound part one i (suc k) s lo e p =
      one i lo (omega (arith, e)) (each part (i + 1) k s) (in_turn o f place low bound part one (i + 1) k s (omega (arith, lo)) (omega (arith, e)) p)

  module _ (at : IsPlaced u) (g : ℕ) (g_in : g < u.lay.pages) where
    -- the home is found
    pub seeking : (a : Seeker) (o : Own) (f : ℕ → Job) → ((h : ℕ) → h < u.lay.nodes → At g (found u a h) o (f h)) → At g (Seeking a) o (call (find_home_script u.lay (node_of u) g) f)
    seeking a o f k = Makes g_in (λ x. seeks) (λ x. go x (x == 0))
      where
        mod_in : (x : ℕ) → (x - 1) % u.lay.nodes < u.lay.nodes
        mod_in x = mod-lt (x - 1) (omega (arith, at.node_in))

        new : (x : ℕ) (b : Bool) → At g (found u a (if b then node_of u else (x - 1) % u.lay.nodes)) o (f (if b then node_of u else (x - 1) % u.lay.nodes))
        new x true = k (node_of u) at.node_in
        new x false = k _ (mod_in x)

        go : (x : ℕ) (b : Bool) → At g (if b then Missing a else found u a ((x - 1) % u.lay.nodes)) o (call (if b then Do (Change (Home g) 0 (node_of u + 1)) (λ y. End (if y == 0 then node_of u else (y - 1) % u.lay.nodes)) else End ((x - 1) % u.lay.nodes)) f)
        go x true = Makes g_in (λ y. settles) (λ y. new y (y == 0))
        go x false = k _ (mod_in x)

  module _ (g : ℕ) (g_in : g < u.lay.pages) (c : Cause) (m : ℕ) (m_in : m < u.lay.nodes) where
    -- the turn of node m's copy is given back
    pub parted : {j : Job} (o : Own) → ((p : Own) → Works u rest (departed r g c m) p j) → At g (Parted c m) o (give_job m g j)
    parted o k = Makes (m_in, g_in) (λ x. departs) (λ x. k o)

    -- node m has the page alone no longer, and so
    module _ (h : ℕ) (h_in : h < u.lay.nodes) where
      saving : (o : Own) (f : Unit {0} → Job) → (m == h) ≡ false → At g (Broken c m) o (f tt) → At g (Saving c h m 0 Whole) o (call (break_words m g h 0 u.lay.words) f)
      saving o f ne p =
          in_turn o f (λ i. On r g (Saving c h m i Whole)) 0 u.lay.words (λ i s. break_word m g h i s) (λ i lo w s q. Makes (m_in, g_in, w) (λ v. saves) (λ v. Makes (m_in, g_in, w) (λ x. saves_twin) (λ x. Makes (h_in, g_in, w) (λ y. saves_home) (λ y. q))))
          0 u.lay.words (break_twined m g) (omega arith) (omega arith) (Makes (m_in, g_in) (λ x. twins_broken ne) (λ x. Makes (m_in, g_in) (λ y. breaks) (λ y. p)))

      last : (o : Own) (f : Unit {0} → Job) (b : Bool) → (m == h) ≡ b → At g (Broken c m) o (f tt) → At g (if b then Ending c m else Saving c h m 0 Whole) o (call (if b then break_end m g else break_words m g h 0 u.lay.words) f)
      last o f true e p = Makes (m_in, g_in) (λ x. breaks) (λ x. p)
      last o f false e p = saving o f e p

      breaking : (o : Own) (f : Unit {0} → Job) → At g (Broken c m) o (f tt) → At g (Breaking c h m (m * u.lay.procs)) o (call (break_maps u.lay m g h (m * u.lay.procs) u.lay.procs) f)
      breaking o f p =
          in_turn o f (λ q. On r g (Breaking c h m q)) (m * u.lay.procs) (m * u.lay.procs + u.lay.procs) (λ q s. break_map g q s) (λ q lo hi s k. Makes (in_all q hi, g_in) (λ v. reads_map) (λ v. told q lo hi (v == 2) s k))
          (m * u.lay.procs) u.lay.procs (break_copy u.lay m g h) (omega arith) refl (Slips marked (last o f (m == h) refl p))
        where
          in_all : (q : ℕ) → q < m * u.lay.procs + u.lay.procs → q < processors u.lay
          in_all q hi = let b = rows u.lay m m_in in omega (arith, hi, b)

          told : (q : ℕ) → m * u.lay.procs ≤ q → q < m * u.lay.procs + u.lay.procs → (b : Bool) (s : Script (Unit {0})) → At g (Breaking c h m (q + 1)) o (call s f)
              → At g (if b then Marking c h m q else Breaking c h m (q + 1)) o (call (if b then break_tell g q s else s) f)
          told q lo hi true s k = Makes (in_all q hi, group_in u.lay g g_in) (λ x. marks lo hi) (λ x. k)
          told q lo hi false s k = k

      pub broken : {j : Job} (o : Own) → ((p : Own) → Works u rest (departed r g c m) p j) → At g (Breaking c h m (m * u.lay.procs)) o (break_job u m g h (give_job m g j))
      broken o k = breaking o _ (Marks (counts tt) (Marks breaks_off (Marks broadcast (parted _ k))))
