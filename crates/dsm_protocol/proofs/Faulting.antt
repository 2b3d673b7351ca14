-- A fault is made by the table, and behind it the mapping of its page allows the access.
use Rattle.std.proofs.Common.{◌≡◌, ℕ, zero, suc, ◌+◌, ◌<◌, ◌≤◌, ◌==◌, Bool, true, false, Option, length, slice_index, slice_set, refl, sym, ap, subst, arith, if◌then◌else◌, ◌⊎◌, inl, inr}
use Rattle.std.specs.Prelude.{◌&&◌, ◌||◌, not, nat_lt}
use Rattle.std.proofs.lemmas.Bool.{cases_eq, ne_eqb}
use Rattle.std.proofs.lemmas.List.{get_or-set_same, length-set}
use Rattle.dsm_words.specs.declared.item.Item.TheVariants.{Frame}
use Rattle.dsm_words.specs.Parts.{each}
use Rattle.dsm_words.specs.Script.{Get, Script, End, Do}
use Rattle.dsm_clock.specs.declared.turns.TurnId.TheVariants.{Page}
use Rattle.dsm_directory.specs.declared.row.Row.{Row}
use Rattle.dsm_directory.specs.Directory.{is_busy, no_row, row_with, sharers_from, register_script}
use Rattle.dsm_twin.specs.Twins.{make_twin_from}
use Rattle.dsm_incoming.specs.Getting.{merge_store, merge_twin, overwrite_store}
use Rattle.dsm_protocol.specs.Own.{Own, Who, node_of, mapping, mapped}
use Rattle.dsm_protocol.specs.Jobs.{Job, Happen, Began, call, call_noting}
use Rattle.dsm_protocol.specs.Steps.{give_job, map_job, copy_job, fetch_job, refresh_job, twin_job, visit_job, visits_from, wanted, allows, page_of, alone_job, shared_job, ready_job, share_job, entered_job, enter_job, claim_job, sole_job, visited_job, leave_job, busy_job, seen_job, look_round_job, fault_job}
use Rattle.dsm_protocol.specs.Stages.{Fault, For_fault, Part, Whole, First, Got, Differs, Stage, Sharing, Wanting, Parting, Visiting, Testing, Claiming, Claimed, Entering, Filling, Filled, Entered, Ready, Fetching, Copying, Copied, Current, Making, Setting, Giving, Access, Work, Off, On, registered}
use Rattle.dsm_protocol.specs.Rows.{loaded, Allowed, Step, sees_dir, clears, registers, shares, wants, parts, looks, sees_again, tests, claims, looks_again, withdraws, draws_enter, fills, fills_own, stamps_enter, enters, compares, judges, draws, sees_twin, copies, copies_over, merges, merges_own, merges_twin, stamps, has_twin, makes, makes_twin, made, sets, gives, faults, visits, returns, shared, unwanted, claimed, at_home, read_only, Noted, maps, soils, begins_copy, begins_fill, fetched, filled, counts}
use Rattle.dsm_protocol.specs.Standing.{Works, Makes, Takes, Marks, Asks, Slips}
use Rattle.dsm_protocol.proofs.Placed.{IsPlaced}
use Rattle.dsm_protocol.proofs.Visiting.{pick, in_turn, seeking, broken, parted}

-- access a faults on page g
module _ (u : Who) (rest : Option Job) (at : IsPlaced u) (a g : ℕ) (g_in : g < u.lay.pages) where
  n_in : node_of u < u.lay.nodes
  n_in = at.node_in

  -- its mapping of the page allows the access
  abbrev Permits : Bool → Own → Type 0
  Permits write o = g < length o.maps → allows write (slice_index o.maps g) ≡ true

  -- a job at a stage of the fault, and one behind it
  abbrev Under : Bool → Stage → Own → Job → Type 0
  Under write s o j = Works u rest (On (Access true write a) g s) o j

  abbrev Behind : Bool → Job → Type 0
  Behind write j = (p : Own) → Permits write p → Works u rest (Off (Access true write a)) p j

  -- the mapping that is wanted allows it
  same : (o : Own) (m : ℕ) → g < length (slice_set o.maps g m) → slice_index (slice_set o.maps g m) g ≡ m
  same o m w = get_or-set_same o.maps g m 0 (omega (arith, w, length-set o.maps g m))

  permits : (write : Bool) (o : Own) → Permits write (mapped o g (wanted write))
  permits false o w = ap (λ m. allows false m) (same o 1 w)
  permits true o w = ap (λ m. allows true m) (same o 2 w)

  -- the end of a fault
  giving : {j : Job} (write : Bool) (o : Own) → Permits write o → Behind write j → Under write Giving o (give_job (node_of u) g j)
  giving write o m k = Makes (n_in, g_in) (λ x. gives) (λ x. k o m)

  alone : {j : Job} (write : Bool) (o : Own) → Behind write j → Under write (Setting write true) o (alone_job u write g j)
  alone false o k = Makes (at.p_in, g_in) (λ x. sets) (λ x. Marks maps (Marks (counts tt) (giving false _ (permits false o) k)))
  alone true o k = Makes (at.p_in, g_in) (λ x. sets) (λ x. Marks maps (Marks (counts tt) (giving true _ (permits true o) k)))

  sharing_end : {j : Job} (write : Bool) (o : Own) → Behind write j → Under write (Setting write false) o (shared_job u write g j)
  sharing_end false o k = Makes (at.p_in, g_in) (λ x. sets) (λ x. Marks maps (Marks (counts tt) (giving false _ (permits false o) k)))
  sharing_end true o k = Makes (at.p_in, g_in) (λ x. sets) (λ x. Marks maps (Marks (counts tt) (Marks soils (giving true _ (permits true o) k))))

  -- each node's word is looked at, once and again
  sharing : (write : Bool) (h j k : ℕ) (row : Row) (o : Own) (f : Row → Job) → j + k ≡ u.lay.nodes → ((row : Row) → Under write (Sharing write h u.lay.nodes row) o (f row)) → Under write (Sharing write h j row) o (call (sharers_from (node_of u) g j k row) f)
  sharing write h j zero row o f e p = subst (λ z. Under write (Sharing write h z row) o (f row)) (omega (arith, e)) (p row)
  sharing write h j (suc k) row o f e p = Makes (omega (arith, e), g_in) (λ x. shares) (λ x. sharing write h (j + 1) k (row_with (node_of u) j x row) o f (omega (arith, e)) p)

  claiming : (h j k : ℕ) (row : Row) (o : Own) (f : Row → Job) → j + k ≡ u.lay.nodes → ((row : Row) → Under true (Claimed h u.lay.nodes row) o (f row)) → Under true (Claimed h j row) o (call (sharers_from (node_of u) g j k row) f)
  claiming h j zero row o f e p = subst (λ z. Under true (Claimed h z row) o (f row)) (omega (arith, e)) (p row)
  claiming h j (suc k) row o f e p = Makes (omega (arith, e), g_in) (λ x. looks_again) (λ x. claiming h (j + 1) k (row_with (node_of u) j x row) o f (omega (arith, e)) p)

  -- h is the home
  module _ (h : ℕ) (h_in : h < u.lay.nodes) where
    -- the home's words, each loaded and then put where it belongs; with the first load the fetch begins
    getting : (o : Own) (f : Unit {0} → Job) (place : ℕ → Part → Work) (put : ℕ → ℕ → Script (Unit {0}) → Script (Unit {0}))
        → ((i x : ℕ) → Step u o.maps o.dirty (place i Whole) (Get (Frame h g i)) x (place i (loaded i x)))
        → ((v : ℕ) → Noted u rest (place 0 (First v)) (Happen (Began (node_of u) g)) (place 0 (Got v)))
        → ((i v : ℕ) → i < u.lay.words → (s : Script (Unit {0})) → Works u rest (place (i + 1) Whole) o (call s f) → Works u rest (place i (Got v)) o (call (put i v s) f))
        → Works u rest (place u.lay.words Whole) o (f tt)
        → Works u rest (place 0 Whole) o (call_noting (Happen (Began (node_of u) g)) (each (λ i s. Do (Get (Frame h g i)) (λ v. put i v s)) 0 u.lay.words (End tt)) f)
    getting o f place put loads begins puts p = go u.lay.words refl
      where
        one : (i : ℕ) → 1 ≤ i → i < u.lay.words → (s : Script (Unit {0})) → Works u rest (place (i + 1) Whole) o (call s f) → Works u rest (place i Whole) o (call (Do (Get (Frame h g i)) (λ v. put i v s)) f)
        one i lo w s q =
            let e : (i == 0) ≡ false = ne_eqb i 0 (λ z. absurd (omega (arith, lo, z))) in
            Makes (h_in, g_in, w) (λ v. loads i v) (λ v. subst (λ c. Works u rest (place i (if c then First v else Got v)) o (call (put i v s) f)) (sym e) (puts i v w s q))

        go : (k : ℕ) → k ≡ u.lay.words → Works u rest (place 0 Whole) o (call_noting (Happen (Began (node_of u) g)) (each (λ i s. Do (Get (Frame h g i)) (λ v. put i v s)) 0 k (End tt)) f)
        go zero e = subst (λ z. Works u rest (place z Whole) o (f tt)) (sym e) p
        go (suc k) e =
            let w : 0 < u.lay.words = omega (arith, e) in
            Makes (h_in, g_in, w) (λ v. loads 0 v)
            (λ v. Marks (begins v) (puts 0 v w _ (in_turn u rest (Access true true a) o f (λ i. place i Whole) 1 u.lay.words (λ i s. Do (Get (Frame h g i)) (λ v. put i v s)) one 1 k (End tt) (omega arith) (omega (arith, e)) p)))

    -- they come to the node
    copying : {j : Job} (write : Bool) (t : ℕ) (twin : Bool) (o : Own) → ((p : Own) → Under write (Copied write h t) p j) → Under write (Copying write h t twin 0 Whole) o (copy_job u g h twin j)
    copying write t true o k =
        getting o _ (λ i part. On (Access true write a) g (Copying write h t true i part)) (λ i v s. merge_twin (node_of u) g i v s) (λ i x. copies) (λ v. begins_copy) (λ i v w s q. Makes (n_in, g_in, w) (λ x. merges) (λ x. word _ i v w (v == x) s q)) (Marks (counts tt) (Marks fetched (k _)))
      where
        word : (f : Unit {0} → Job) (i v : ℕ) → i < u.lay.words → (c : Bool) (s : Script (Unit {0})) → Under write (Copying write h t true (i + 1) Whole) o (call s f)
            → Under write (if c then Copying write h t true (i + 1) Whole else Copying write h t true i (Differs v)) o (call (if c then s else merge_store (node_of u) g i v s) f)
        word f i v w true s q = q
        word f i v w false s q = Makes (n_in, g_in, w) (λ x. merges_own) (λ x. Makes (n_in, g_in, w) (λ y. merges_twin) (λ y. q))
    copying write t false o k =
        getting o _ (λ i part. On (Access true write a) g (Copying write h t false i part)) (λ i v s. overwrite_store (node_of u) g i v s) (λ i x. copies) (λ v. begins_copy) (λ i v w s q. Makes (n_in, g_in, w) (λ x. copies_over) (λ x. q)) (Marks (counts tt) (Marks fetched (k _)))

    filling : {j : Job} (t : ℕ) (o : Own) → ((p : Own) → Under true (Filled t) p j) → Under true (Filling h t 0 Whole) o (copy_job u g h false j)
    filling t o k =
        getting o _ (λ i part. On (Access true true a) g (Filling h t i part)) (λ i v s. overwrite_store (node_of u) g i v s) (λ i x. fills) (λ v. begins_fill) (λ i v w s q. Makes (n_in, g_in, w) (λ x. fills_own) (λ x. q)) (Marks (counts tt) (Marks filled (k _)))

    fetching : {j : Job} (write : Bool) (o : Own) → ((p : Own) → Under write (Current write h) p j) → Under write (Fetching write h) o (fetch_job u g h j)
    fetching write o k = Makes n_in (λ t. draws) (λ t. Makes (n_in, g_in) (λ x. sees_twin) (λ x. copying write t (x == 1) o (λ p. Makes (n_in, g_in) (λ y. stamps) (λ y. k p))))

    refreshing : {j : Job} (write : Bool) (o : Own) → (node_of u == h) ≡ false → ((p : Own) → Under write (Current write h) p j) → Under write (Ready write h) o (refresh_job u g h j)
    refreshing write o e k = Makes (n_in, g_in) (λ x. compares e) (λ x. Makes (n_in, g_in) (λ y. judges) (λ y. pick u rest _ (x == 0 || nat_lt x y) (fetching write o k) (k o)))

    -- a twin is made
    making : (i k : ℕ) (o : Own) (f : Unit {0} → Job) → i + k ≡ u.lay.words → Under true (Setting true false) o (f tt) → Under true (Making i Whole) o (call (make_twin_from (node_of u) g i k) f)
    making i zero o f e p = subst (λ z. Under true (Making z Whole) o (call (make_twin_from (node_of u) g i zero) f)) (omega (arith, e)) (Makes (n_in, g_in) (λ x. made) (λ x. p))
    making i (suc k) o f e p =
        let w : i < u.lay.words = omega (arith, e) in
        Makes (n_in, g_in, w) (λ v. makes) (λ v. Makes (n_in, g_in, w) (λ x. makes_twin) (λ x. making (i + 1) k o f (omega (arith, e)) p))

    twinning : {j : Job} (o : Own) → ((p : Own) → Under true (Setting true false) p j) → Under true (Current true h) o (twin_job u g j)
    twinning o k = Makes (n_in, g_in) (λ x. has_twin) (λ x. pick u rest _ (x == 1) (k o) (making 0 u.lay.words o _ (omega arith) (Marks (counts tt) (k _))))

    -- the page is shared
    ready : {j : Job} (write : Bool) (o : Own) → Behind write j → Under write (Current write h) o (ready_job u write g j)
    ready false o k = Slips read_only (sharing_end false o k)
    ready true o k = twinning o (λ p. sharing_end true p k)

    readying : {j : Job} (write : Bool) (o : Own) → Behind write j → Under write (Ready write h) o (share_job u write g h j)
    readying {j} write o k = go (node_of u == h) refl
      where
        go : (c : Bool) → (node_of u == h) ≡ c → Under write (Ready write h) o (share_job u write g h j)
        go true e = rw e (Slips (at_home e) (sharing_end write o k))
        go false e = rw e (refreshing write o e (λ p. ready write p k))

    -- the page is claimed
    entered : {j : Job} (o : Own) → Behind true j → Under true Entered o (entered_job u g j)
    entered o k = Makes (n_in, g_in) (λ x. enters) (λ x. Marks (counts tt) (alone true _ k))

    entering : {j : Job} (o : Own) → Behind true j → Under true (if node_of u == h then Entered else Entering h) o (enter_job u g h j)
    entering o k = pick u rest _ (node_of u == h) (entered o k) (Makes n_in (λ t. draws_enter) (λ t. filling t o (λ p. Makes (n_in, g_in) (λ y. stamps_enter) (λ y. entered p k))))

    claimed_at : {j : Job} (o : Own) → Behind true j → Under true (Claiming h) o (claim_job u g h j)
    claimed_at o k =
        Makes (n_in, g_in) (λ x. claims) (λ x. claiming h 0 u.lay.nodes no_row o _ (omega arith) (λ row. Slips claimed (pick u rest _ row.others (Makes (n_in, g_in) (λ y. withdraws) (λ y. readying true o k)) (entering o k))))

    testing : {j : Job} (o : Own) → Behind true j → Under true (Testing h) o (sole_job u g h j)
    testing o k = Makes (n_in, g_in) (λ x. tests) (λ x. pick u rest _ (x == 1) (readying true o k) (claimed_at o k))

    -- the busy nodes are visited
    module _ (write : Bool) (busy : ℕ) where
      -- none of these nodes is busy
      abbrev None_of : ℕ → ℕ → Type 0
      None_of i m = (k : ℕ) → i ≤ k → k < m → is_busy busy k ≡ false

      one_more : (i m : ℕ) → None_of i m → is_busy busy m ≡ false → None_of i (m + 1)
      one_more i m none e k lo hi = go (cases_eq k m)
        where
          go : (k ≡ m) ⊎ (k ≡ m → ⊥) → is_busy busy k ≡ false
          go (inl d) = subst (λ z. is_busy busy z ≡ false) (sym d) e
          go (inr ne) = none k lo (omega (arith, hi, ne))

      empty : (i : ℕ) → None_of i i
      empty i k lo hi = absurd (omega (arith, lo, hi))

      visiting : {j : Job} (i m : ℕ) (o : Own) → m < u.lay.nodes → i ≤ m → is_busy busy m ≡ true → None_of i m → ((p : Own) → Under write (Visiting write h busy (m + 1)) p j) → Under write (Visiting write h busy i) o (visit_job u m g h j)
      visiting i m o m_in le e none k =
          Takes (Page m g) (m_in, g_in) (visits m le e none) (Makes (m_in, g_in) (λ x. looks) (λ x. pick u rest _ (x == 2) (broken u rest _ g g_in (Fault write h busy) m m_in h h_in o k) (parted u rest _ g g_in (Fault write h busy) m m_in o k)))

      visits_all : {j : Job} (i m k : ℕ) (o : Own) → m + k ≡ u.lay.nodes → i ≤ m → None_of i m → ((i : ℕ) (p : Own) → None_of i u.lay.nodes → Under write (Visiting write h busy i) p j) → Under write (Visiting write h busy i) o (visits_from u g h busy m k j)
      visits_all i m zero o e le none p = p i o (λ q lo hi. none q lo (omega (arith, e, hi)))
      visits_all {j} i m (suc k) o e le none p =
          go (is_busy busy m) refl (λ q. visits_all (m + 1) (m + 1) k q (omega (arith, e)) (omega arith) (empty (m + 1)) p) (λ d. visits_all i (m + 1) k o (omega (arith, e)) (omega (arith, le)) (one_more i m none d) p)
        where
          go : (c : Bool) → is_busy busy m ≡ c → ((q : Own) → Under write (Visiting write h busy (m + 1)) q (visits_from u g h busy (m + 1) k j)) → (is_busy busy m ≡ false → Under write (Visiting write h busy i) o (visits_from u g h busy (m + 1) k j))
              → Under write (Visiting write h busy i) o (if c then visit_job u m g h (visits_from u g h busy (m + 1) k j) else visits_from u g h busy (m + 1) k j)
          go true d met nay = visiting i m o (omega (arith, e)) le d none met
          go false d met nay = nay d

      back : {j : Job} (i : ℕ) (o : Own) → None_of i u.lay.nodes → Behind write j → Under write (Visiting write h busy i) o (visited_job u write g h j)
      back i o none k = Takes (Page (node_of u) g) (n_in, g_in) (returns none) (Makes (n_in, g_in) (λ x. sees_again) (λ x. pick u rest _ (x == 2) (alone write o k) (readying write o k)))

      parting : {j : Job} (o : Own) → Behind write j → Under write (Parting write h busy) o (leave_job u write g h busy j)
      parting o k = Makes (n_in, g_in) (λ x. parts) (λ x. visits_all 0 0 u.lay.nodes o (omega arith) (omega arith) (empty 0) (λ i p none. back i p none k))

      wanting : {j : Job} (o : Own) → Behind write j → Under write (Wanting write h busy) o (busy_job u write g h busy j)
      wanting {j} o k = Asks (λ p. go p (mapping p g == 0) refl)
        where
          go : (p : Own) (c : Bool) → (mapping p g == 0) ≡ c → Under write (Wanting write h busy) p (if c then map_job u g 3 (leave_job u write g h busy j) else leave_job u write g h busy j)
          go p true e = Makes (at.p_in, g_in) (λ x. wants e) (λ x. Marks maps (parting _ k))
          go p false e = Slips (unwanted e) (parting p k)

    seen : {j : Job} (write : Bool) (row : Row) (o : Own) → Behind write j → Under write (Sharing write h u.lay.nodes row) o (seen_job u write g h row j)
    seen write row o k = Slips shared (pick u rest _ (row.busy == 0) (used write row o k) (wanting write row.busy o k))
      where
        used : {j : Job} (write : Bool) (row : Row) (o : Own) → Behind write j → Under write (if write && not row.others then Testing h else Ready write h) o (if write && not row.others then sole_job u g h j else share_job u write g h j)
        used true row o k = pick u rest _ (not row.others) (testing o k) (readying true o k)
        used false row o k = readying false o k

    looking : {j : Job} (write : Bool) (o : Own) → Behind write j → Under write (Sharing write h 0 no_row) o (look_round_job u write g h j)
    looking write o k = sharing write h 0 u.lay.nodes no_row o _ (omega arith) (λ row. seen write row o k)

    registering : {j : Job} (write : Bool) (o : Own) → Behind write j → (c : Bool) → Under write (registered write h c) o (if c then call (register_script (node_of u) g) (λ _. look_round_job u write g h j) else look_round_job u write g h j)
    registering write o k true = Makes (n_in, g_in) (λ x. clears) (λ x. Makes (n_in, g_in) (λ y. registers) (λ y. looking write o k))
    registering write o k false = looking write o k

-- a fault
pub fault_typed : (u : Who) (at : IsPlaced u) {rest : Option Job} (write : Bool) (a : ℕ) → page_of u a < u.lay.pages → {j : Job} (o : Own) → allows write (mapping o (page_of u a)) ≡ false
    → ((p : Own) → Allowed u p.maps p.dirty write a → Works u rest (Off (Access true write a)) p j) → Works u rest (Off (Access false write a)) o (fault_job u write (page_of u a) j)
fault_typed u at {rest} write a g_in o e k =
    Takes (Page (node_of u) (page_of u a)) (at.node_in, g_in) (faults e)
    (Makes (at.node_in, g_in) (λ d. sees_dir)
    (λ d. pick u rest (Access true write a) (d == 2) (alone u rest at a (page_of u a) g_in write o k)
    (seeking u rest (Access true write a) at (page_of u a) g_in (For_fault write d) o _ (λ h h_in. registering u rest at a (page_of u a) g_in h h_in write o k (d == 0)))))
