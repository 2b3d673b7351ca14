-- An acquire and the closing work stand where the table says.
use Rattle.std.proofs.Common.{◌≡◌, ℕ, zero, suc, ◌+◌, ◌*◌, ◌<◌, ◌≤◌, ◌==◌, Bool, true, false, List, Option, None, Some, refl, subst, arith, if◌then◌else◌}
use Rattle.std.specs.Prelude.{◌^◌, ◌&&◌, ◌||◌, not, nat_lt}
use Rattle.std.specs.Int.{bit_at}
use Rattle.dsm_words.specs.declared.item.Item.TheVariants.{Dir, Own as OwnWord}
use Rattle.dsm_words.specs.Place.{Lay, groups}
use Rattle.dsm_words.specs.Pages.{has_page, pages_in, take_from}
use Rattle.dsm_words.specs.Script.{Script, End, Do, Put}
use Rattle.dsm_clock.specs.declared.turns.TurnId.TheVariants.{Page, Notices}
use Rattle.dsm_directory.specs.Directory.{holder_from, leave_end, leave_from}
use Rattle.dsm_notice.specs.Notices.{flag_from, hear, hear_from, drain_groups, drain_from}
use Rattle.dsm_protocol.specs.Own.{Own, Who, node_of, mapping}
use Rattle.dsm_protocol.specs.Jobs.{Job, call}
use Rattle.dsm_protocol.specs.Steps.{give_job, unmap_job, check_job, acquire_page, acquire_from, acquire_job, closing_page, closing_from, closing_job}
use Rattle.dsm_protocol.specs.Stages.{Closing, For_closing, Stage, Judging, Unmapping, Emptying, Emptied, Leaving, Over, Quitting, Passing, Finished, Closed, Draining, Hearing, Flagging, Drained, Taking, Told, Closes, Holder, Round, Off, On}
use Rattle.dsm_protocol.specs.Rows.{looks, sees_acquire, compares_own, judges_own, unmaps, empties, sees_bare, leaves, gives_over, drains, draws_notice, notices, flags, gives_notices, takes, seeks_holder, hears, acquires, closes, unclosing, emptied, unheard, heard, flagged, next_node, drained, taken, passed_over, closing, unheld, closed, maps, acquired, counts}
use Rattle.dsm_protocol.specs.Standing.{Works, Makes, Takes, Marks, Asks, Slips}
use Rattle.dsm_protocol.proofs.Placed.{IsPlaced, rows}
use Rattle.dsm_protocol.proofs.Visiting.{pick, seeking, broken, parted}

module _ (u : Who) (at : IsPlaced u) (rest : Option Job) where
  -- a page of an acquire, which was told of the pages of this set
  module _ (set : List ℕ) (g : ℕ) (g_in : g < u.lay.pages) where
    abbrev Here : Stage → Own → Job → Type 0
    Here s o j = Works u rest (On (Told set g) g s) o j

    over : {j : Job} (o : Own) → ((p : Own) → Works u rest (Off (Told set (g + 1))) p j) → Here Over o (give_job (node_of u) g j)
    over o k = Makes (at.node_in, g_in) (λ x. gives_over) (λ x. k o)

    -- where its node has no other mapping and no twin, it does not use the page any more
    emptying : (q k : ℕ) (b : Bool) (o : Own) (f : Bool → Job) → node_of u * u.lay.procs ≤ q → q + k ≡ node_of u * u.lay.procs + u.lay.procs → ((x : Bool) → Here Over o (f x)) → Here (Emptying q b) o (call (leave_from (node_of u) g q k b) f)
    emptying q zero b o f lo e p = subst (λ z. Here (Emptying z b) o (call (leave_from (node_of u) g q zero b) f)) (omega (arith, e)) (Slips emptied (free b))
      where
        last : (c : Bool) → Here (if c then Leaving else Over) o (call (if c then Do (Put (Dir (node_of u) g) 0) (λ _. End true) else End false) f)
        last true = Makes (at.node_in, g_in) (λ x. leaves) (λ x. p true)
        last false = p false

        free : (b : Bool) → Here (if b then Emptied else Over) o (call (if b then leave_end (node_of u) g else End false) f)
        free true = Makes (at.node_in, g_in) (λ x. sees_bare) (λ x. last (x == 0))
        free false = p false
    emptying q (suc k) b o f lo e p =
        let i = rows u.lay (node_of u) at.node_in in
        Makes (omega (arith, e, i), g_in) (λ x. empties lo (omega (arith, e))) (λ x. emptying (q + 1) k (b && x == 0) o f (omega (arith, lo)) (omega (arith, e)) p)

    unmapping : {j : Job} (o : Own) → ((p : Own) → Here Over p j) → Here Unmapping o (unmap_job u g j)
    unmapping o k = Makes (at.p_in, g_in) (λ x. unmaps) (λ x. Marks maps (Marks (counts tt) (emptying (node_of u * u.lay.procs) u.lay.procs true _ _ (omega arith) refl (λ y. k _))))

    judging : {j : Job} (o : Own) → ((p : Own) → Here Over p j) → Here Judging o (check_job u g j)
    judging o k = Makes (at.node_in, g_in) (λ x. compares_own) (λ x. Makes (at.node_in, g_in) (λ y. judges_own) (λ y. pick u rest (Told set g) (x == 0 || nat_lt x y) (unmapping o k) (k o)))

    acquire_on : {j : Job} (o : Own) → (has_page set g && not (mapping o g == 0)) ≡ true → ((p : Own) → Works u rest (Off (Told set (g + 1))) p j) → Works u rest (Off (Told set g)) o (acquire_page u g j)
    acquire_on o e k = Takes (Page (node_of u) g) (at.node_in, g_in) (acquires e) (Makes (at.node_in, g_in) (λ x. sees_acquire) (λ d. pick u rest (Told set g) (d == 2) (over o k) (judging o (λ p. over p k))))

  acquires_on : {j : Job} (set : List ℕ) (g k : ℕ) (o : Own) → g + k ≡ u.lay.pages → ((p : Own) → Works u rest (Off Finished) p j) → Works u rest (Off (Told set g)) o (acquire_from u set g k j)
  acquires_on {j} set g zero o w r = subst (λ z. Works u rest (Off (Told set z)) o (acquire_from u set g zero j)) (omega (arith, w)) (Marks acquired (r o))
  acquires_on {j} set g (suc k) o w r = Asks (λ p. go p (has_page set g && not (mapping p g == 0)) refl (λ q. acquires_on set (g + 1) k q (omega (arith, w)) r))
    where
      go : (p : Own) (c : Bool) → (has_page set g && not (mapping p g == 0)) ≡ c → ((q : Own) → Works u rest (Off (Told set (g + 1))) q (acquire_from u set (g + 1) k j))
          → Works u rest (Off (Told set g)) p (if c then acquire_page u g (acquire_from u set (g + 1) k j) else acquire_from u set (g + 1) k j)
      go p true e later = acquire_on set g (omega (arith, w)) p e later
      go p false e later = Slips (passed_over e) (later p)

  -- it takes its own words
  taking : (k c : ℕ) (set : List ℕ) (o : Own) (f : List ℕ → Job) → k + c ≡ groups u.lay → ((set : List ℕ) → Works u rest (Off (Told set 0)) o (f set)) → Works u rest (Off (Taking k set)) o (call (take_from u.lay (λ i. OwnWord u.p i) k c set) f)
  taking k zero set o f e p = subst (λ z. Works u rest (Off (Taking z set)) o (f set)) (omega (arith, e)) (Slips taken (p set))
  taking k (suc c) set o f e p = Makes (at.p_in, omega (arith, e)) (λ x. takes) (λ x. taking (k + 1) c _ o f (omega (arith, e)) p)

  -- its node's notices are drained
  module _ (o : Own) (f : Unit {0} → Job) where
    abbrev Drains : Round → Script (Unit {0}) → Type 0
    Drains r s = Works u rest (Off r) o (call s f)

    flagging : (j k bits b q c : ℕ) (s : Script (Unit {0})) → (bit_at bits b == 1) ≡ true → node_of u * u.lay.procs ≤ q → k < groups u.lay → q + c ≡ node_of u * u.lay.procs + u.lay.procs → Drains (Hearing j k bits (b + 1)) s → Drains (Flagging j k bits b q) (flag_from k (2 ^ b) q c s)
    flagging j k bits b q zero s set lo w e p = subst (λ z. Drains (Flagging j k bits b z) s) (omega (arith, e)) (Slips flagged p)
    flagging j k bits b q (suc c) s set lo w e p =
        let i = rows u.lay (node_of u) at.node_in in
        Makes (omega (arith, e, i), w) (λ x. flags set lo (omega (arith, e))) (λ x. flagging j k bits b (q + 1) c s set (omega (arith, lo)) w (omega (arith, e)) p)

    hearing : (j k bits b c : ℕ) (s : Script (Unit {0})) → j < u.lay.nodes → k < groups u.lay → b + c ≡ pages_in u.lay k → 64 * k + b + c ≤ u.lay.pages → Drains (Draining j (k + 1)) s → Drains (Hearing j k bits b) (hear_from u.lay (node_of u) k bits b c s)
    hearing j k bits b zero s j_in w e l p = subst (λ z. Drains (Hearing j k bits z) s) (omega (arith, e)) (Slips heard p)
    hearing j k bits b (suc c) s j_in w e l p = go (bit_at bits b == 1) refl (hearing j k bits (b + 1) c s j_in w (omega (arith, e)) (omega (arith, l)) p)
      where
        go : (z : Bool) → (bit_at bits b == 1) ≡ z → Drains (Hearing j k bits (b + 1)) (hear_from u.lay (node_of u) k bits (b + 1) c s)
            → Drains (Hearing j k bits b) (if z then hear u.lay (node_of u) k b (hear_from u.lay (node_of u) k bits (b + 1) c s) else hear_from u.lay (node_of u) k bits (b + 1) c s)
        go true d q = Makes at.node_in (λ t. draws_notice d j_in (omega (arith, l))) (λ t. Makes (at.node_in, omega (arith, l)) (λ x. notices) (λ x. flagging j k bits b (node_of u * u.lay.procs) u.lay.procs _ d (omega arith) w refl q))
        go false d q = Slips (unheard d) q

    draining_groups : (j k c : ℕ) (s : Script (Unit {0})) → j < u.lay.nodes → k + c ≡ groups u.lay → Drains (Draining (j + 1) 0) s → Drains (Draining j k) (drain_groups u.lay (node_of u) j k c s)
    draining_groups j k zero s w e p = subst (λ z. Drains (Draining j z) s) (omega (arith, e)) (Slips next_node p)
    draining_groups j k (suc c) s w e p =
        let k_in : k < groups u.lay = omega (arith, e) in
        Makes (at.node_in, w, k_in) (λ x. drains) (λ x. hearing j k x 0 (pages_in u.lay k) _ w k_in (omega arith) (fits u.lay k k_in) (draining_groups j (k + 1) c s w (omega (arith, e)) p))
      where
        fits : (l : Lay) (k : ℕ) → k < groups l → 64 * k + 0 + pages_in l k ≤ l.pages
        fits l k w = omega arith

    draining : (j c : ℕ) → j + c ≡ u.lay.nodes → Works u rest (Off Drained) o (f tt) → Drains (Draining j 0) (drain_from u.lay (node_of u) j c)
    draining j zero e p = subst (λ z. Works u rest (Off (Draining z 0)) o (f tt)) (omega (arith, e)) (Slips drained p)
    draining j (suc c) e p = draining_groups j 0 (groups u.lay) (drain_from u.lay (node_of u) (j + 1) c) (omega (arith, e)) (omega arith) (draining (j + 1) c (omega (arith, e)) p)

  acquiring : {j : Job} (o : Own) → ((p : Own) → Works u rest (Off Finished) p j) → Works u rest (Off Passing) o (acquire_job u j)
  acquiring o r =
      Takes (Notices (node_of u)) at.node_in hears (draining o _ 0 u.lay.nodes (omega arith) (Makes at.node_in (λ x. gives_notices) (λ x. taking 0 (groups u.lay) _ o _ (omega arith) (λ set. acquires_on set 0 u.lay.pages o (omega arith) r))))

  -- a page of the closing work, which node m has alone
  close_on : {j : Job} (g : ℕ) → g < u.lay.pages → (m : ℕ) → m < u.lay.nodes → (o : Own) → ((p : Own) → Works u rest (Off (Closes (g + 1) 0)) p j) → Works u rest (Off (Holder g m)) o (closing_page u g (Some m) j)
  close_on g g_in m m_in o k =
      Takes (Page m g) (m_in, g_in) closes
      (Makes (m_in, g_in) (λ x. looks) (λ d. pick u rest (Holder g m) (d == 2) (seeking u rest (Holder g m) at g g_in (For_closing m) o _ (λ h h_in. broken u rest (Holder g m) g g_in Closing m m_in h h_in o k)) (parted u rest (Holder g m) g g_in Closing m m_in o k)))

  -- the node that has it alone is looked for
  holding : (g m k : ℕ) (o : Own) (f : Option ℕ → Job) → g < u.lay.pages → m + k ≡ u.lay.nodes → Works u rest (Off (Closes (g + 1) 0)) o (f None) → ((m : ℕ) → m < u.lay.nodes → Works u rest (Off (Holder g m)) o (f (Some m))) → Works u rest (Off (Closes g m)) o (call (holder_from g m k) f)
  holding g m zero o f g_in e p q = subst (λ z. Works u rest (Off (Closes g z)) o (f None)) (omega (arith, e)) (Slips unheld p)
  holding g m (suc k) o f g_in e p q = Makes (omega (arith, e), g_in) (λ x. seeks_holder) (λ x. go (x == 2) (holding g (m + 1) k o f g_in (omega (arith, e)) p q))
    where
      go : (b : Bool) → Works u rest (Off (Closes g (m + 1))) o (call (holder_from g (m + 1) k) f) → Works u rest (Off (if b then Holder g m else Closes g (m + 1))) o (call (if b then End (Some m) else holder_from g (m + 1) k) f)
      go true later = q m (omega (arith, e))
      go false later = later

  closes_on : {j : Job} (g k : ℕ) (o : Own) → g + k ≡ u.lay.pages → ((p : Own) → Works u rest (Off Closed) p j) → Works u rest (Off (Closes g 0)) o (closing_from u g k j)
  closes_on {j} g zero o w r = subst (λ z. Works u rest (Off (Closes z 0)) o j) (omega (arith, w)) (Slips closed (r o))
  closes_on {j} g (suc k) o w r = holding g 0 u.lay.nodes o _ (omega (arith, w)) (omega arith) (closes_on (g + 1) k o (omega (arith, w)) r) (λ m m_in. close_on g (omega (arith, w)) m m_in o (λ p. closes_on (g + 1) k p (omega (arith, w)) r))

  closing_all : {j : Job} (o : Own) → ((p : Own) → Works u rest (Off Closed) p j) → Works u rest (Off Quitting) o (closing_job u j)
  closing_all {j} o r = go (u.p == 0) refl
    where
      go : (b : Bool) → (u.p == 0) ≡ b → Works u rest (Off Quitting) o (if b then closing_from u 0 u.lay.pages j else j)
      go true first = Slips (closing first) (closes_on 0 u.lay.pages o (omega arith) r)
      go false other = Slips (unclosing other) (r o)

-- an acquire
pub acquire_typed : (u : Who) (at : IsPlaced u) {rest : Option Job} {j : Job} (o : Own) → ((p : Own) → Works u rest (Off Finished) p j) → Works u rest (Off Passing) o (acquire_job u j)
acquire_typed u at o r = acquiring u at _ o r

-- the closing work
pub closing_typed : (u : Who) (at : IsPlaced u) {rest : Option Job} {j : Job} (o : Own) → ((p : Own) → Works u rest (Off Closed) p j) → Works u rest (Off Quitting) o (closing_job u j)
closing_typed u at o r = closing_all u at _ o r
