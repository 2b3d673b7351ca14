-- A release stands where the table says.
use Rattle.std.proofs.Common.{◌≡◌, ℕ, zero, suc, ◌+◌, ◌*◌, ◌<◌, ◌≤◌, ◌==◌, Bool, true, false, List, Option, refl, subst, arith, if◌then◌else◌}
use Rattle.std.specs.Prelude.{◌&&◌, ◌||◌, not, nat_lt}
use Rattle.dsm_words.specs.declared.item.Item.TheVariants.{Dir, Nle, Global}
use Rattle.dsm_words.specs.Place.{groups}
use Rattle.dsm_words.specs.Pages.{group_of, bit_of, take_from}
use Rattle.dsm_words.specs.Script.{Script, End, Do, Put, Or}
use Rattle.dsm_clock.specs.declared.turns.TurnId.TheVariants.{Page}
use Rattle.dsm_twin.specs.Twins.{drop_twin_end, drop_twin_from}
use Rattle.dsm_outgoing.specs.Sending.{flush_store, flush_words}
use Rattle.dsm_notice.specs.Notices.{post_from}
use Rattle.dsm_protocol.specs.Own.{Own, Who, node_of, mapping, is_dirty}
use Rattle.dsm_protocol.specs.Jobs.{Job, Mark, Happen, Sent, Told, call, call_counting}
use Rattle.dsm_protocol.specs.Steps.{map_job, done_job, lower_job, drop_job, told_job, post_job, sent_job, flush_job, send_job, tell_job, release_page, release_from, release_job}
use Rattle.dsm_protocol.specs.Stages.{For_release, Whole, Differs, Stage, Checking, Drawing, Timed, Flushing, Stamping, Stamped, Posting, Posted, Telling, Lowering, Dropping, Untwining, Unlisting, Done, Idle, Signalling, Collecting, Releasing, Off, On, lowered}
use Rattle.dsm_protocol.specs.Rows.{sees_release, lasts, draws_send, tests_flush, flushes, flushes_same, flushes_twin, flushes_home, stamps_flush, reads_dir, posts, lowers, drops, untwins, unlists, finishes, draws_release, collects, releases, flushed_all, unsent, posted, untold, unlowered, dropped, clean, released, maps, cleans, joins, sent, told, counts}
use Rattle.dsm_protocol.specs.Standing.{Works, Makes, Takes, Marks, Asks, Slips}
use Rattle.dsm_protocol.proofs.Placed.{IsPlaced, group_in, rows}
use Rattle.dsm_protocol.proofs.Visiting.{pick, seeking}

module _ (u : Who) (at : IsPlaced u) (rest : Option Job) where
  -- a page of a release, which began at time t0
  module _ (t0 g : ℕ) (g_in : g < u.lay.pages) where
    abbrev Here : Stage → Own → Job → Type 0
    Here s o j = Works u rest (On (Releasing t0 g) g s) o j

    done_at : {j : Job} (o : Own) → ((p : Own) → Works u rest (Off (Releasing t0 (g + 1))) p j) → Here Done o (done_job u g j)
    done_at o k = Makes (at.node_in, g_in) (λ x. finishes) (λ x. Marks cleans (k _))

    -- a twin that was flushed is dropped
    dropping : (q k : ℕ) (a b : Bool) (o : Own) (f : Bool → Job) → node_of u * u.lay.procs ≤ q → q + k ≡ node_of u * u.lay.procs + u.lay.procs → ((x : Bool) → Here Done o (f x)) → Here (Dropping q a b) o (call (drop_twin_from (node_of u) g q k a b) f)
    dropping q zero a b o f lo e p = subst (λ z. Here (Dropping z a b) o (call (drop_twin_from (node_of u) g q zero a b) f)) (omega (arith, e)) (Slips dropped (over a b))
      where
        last : (b : Bool) → Here (if b then Unlisting else Done) o (call (if b then Do (Put (Dir (node_of u) g) 0) (λ _. End true) else End true) f)
        last true = Makes (at.node_in, g_in) (λ x. unlists) (λ x. p true)
        last false = p true

        over : (a b : Bool) → Here (if a then Untwining b else Done) o (call (if a then drop_twin_end (node_of u) g b else End false) f)
        over true b = Makes (at.node_in, g_in) (λ x. untwins) (λ x. last b)
        over false b = p false
    dropping q (suc k) a b o f lo e p =
        let i = rows u.lay (node_of u) at.node_in in
        Makes (omega (arith, e, i), g_in) (λ x. drops lo (omega (arith, e))) (λ x. dropping (q + 1) k (a && not (x == 2)) (b && x == 0) o f (omega (arith, lo)) (omega (arith, e)) p)

    lowered_at : {j : Job} (f : Bool) (o : Own) → ((p : Own) → Here Done p j) → Here (lowered u f) o (drop_job u g f j)
    lowered_at true o k = dropping (node_of u * u.lay.procs) u.lay.procs true true o _ (omega arith) refl (λ x. k o)
    lowered_at false o k = k o

    lowering : {j : Job} (f : Bool) (o : Own) → ((p : Own) → Here (lowered u f) p j) → Here (Lowering f) o (lower_job u g j)
    lowering {j} f o k = Asks (λ p. go p (mapping p g == 2) refl)
      where
        go : (p : Own) (c : Bool) → (mapping p g == 2) ≡ c → Here (Lowering f) p (if c then map_job u g 1 j else j)
        go p true e = Makes (at.p_in, g_in) (λ x. lowers e) (λ x. Marks maps (k _))
        go p false e = Slips (unlowered e) (k p)

    -- the home
    module _ (h : ℕ) (h_in : h < u.lay.nodes) where
      told_at : {j : Job} (f : Bool) (o : Own) → ((p : Own) → Here Done p j) → Here (Posted h f) o (told_job u g h f j)
      told_at {j} f o k = go (f || node_of u == h) refl
        where
          later : Here (Lowering f) o (lower_job u g (drop_job u g f j))
          later = lowering f o (λ p. lowered_at f p k)

          go : (c : Bool) → (f || node_of u == h) ≡ c → Here (Posted h f) o (if c then Mark (Happen (Told (node_of u) g)) (lower_job u g (drop_job u g f j)) else lower_job u g (drop_job u g f j))
          go true e = Marks (told e) later
          go false e = Slips (untold e) later

      posting : (f : Bool) (j k c : ℕ) (o : Own) (next : ℕ → Job) → j + k ≡ u.lay.nodes → ((c : ℕ) (p : Own) → Here (Posted h f) p (next c)) → Here (Posting h f j) o (call_counting (post_from (node_of u) g h j k c) next)
      posting f j zero c o next e p = subst (λ z. Here (Posting h f z) o (next c)) (omega (arith, e)) (Slips posted (p c o))
      posting f j (suc k) c o next e p =
          Makes (omega (arith, e), g_in) (λ x. reads_dir) (λ x. go x (x == 0 || j == node_of u || j == h) refl (posting f (j + 1) k c o next (omega (arith, e)) p) (λ q. posting f (j + 1) k (c + 1) q next (omega (arith, e)) p))
        where
          go : (v : ℕ) (b : Bool) → (v == 0 || j == node_of u || j == h) ≡ b → Here (Posting h f (j + 1)) o (call_counting (post_from (node_of u) g h (j + 1) k c) next) → ((q : Own) → Here (Posting h f (j + 1)) q (call_counting (post_from (node_of u) g h (j + 1) k (c + 1)) next))
              → Here (if b then Posting h f (j + 1) else Telling h f j) o (call_counting (if b then post_from (node_of u) g h (j + 1) k c else Do (Or (Global j (node_of u) (group_of g)) (bit_of g)) (λ _. post_from (node_of u) g h (j + 1) k (c + 1))) next)
          go v true i a b = a
          go v false i a b = Makes (omega (arith, e), at.node_in, group_in u.lay g g_in) (λ x. posts v i) (λ x. Marks (counts tt) (b _))

      sent_at : {j : Job} (t : ℕ) (f : Bool) (o : Own) → ((p : Own) → Here Done p j) → Here (Stamping h t f) o (sent_job u g h t f j)
      sent_at {j} t f o k = Makes (at.node_in, g_in) (λ x. stamps_flush) (λ x. go (f || node_of u == h) refl)
        where
          later : Here (Posting h f 0) o (post_job u g h f j)
          later = posting f 0 u.lay.nodes 0 o _ (omega arith) (λ c p. told_at f p k)

          go : (c : Bool) → (f || node_of u == h) ≡ c → Here (Stamped h f) o (if c then Mark (Happen (Sent (node_of u) g)) (post_job u g h f j) else post_job u g h f j)
          go true e = Marks (sent e) later
          go false e = Slips (unsent e) later

      flushing : (t i k : ℕ) (o : Own) (f : Unit {0} → Job) → i + k ≡ u.lay.words → Here (Stamping h t true) o (f tt) → Here (Flushing h t i Whole) o (call (flush_words (node_of u) g h i k) f)
      flushing t i zero o f e p = subst (λ z. Here (Flushing h t z Whole) o (f tt)) (omega (arith, e)) (Slips flushed_all p)
      flushing t i (suc k) o f e p =
          let ih = flushing t (i + 1) k o f (omega (arith, e)) p in
          let i_in : i < u.lay.words = omega (arith, e) in
          Makes (at.node_in, g_in, i_in) (λ v. flushes) (λ v. Makes (at.node_in, g_in, i_in) (λ x. flushes_same) (λ x. word v i_in (v == x) (flush_words (node_of u) g h (i + 1) k) ih))
        where
          word : (v : ℕ) → i < u.lay.words → (c : Bool) (s : Script (Unit {0})) → Here (Flushing h t (i + 1) Whole) o (call s f)
              → Here (if c then Flushing h t (i + 1) Whole else Flushing h t i (Differs v)) o (call (if c then s else flush_store (node_of u) g h i v s) f)
          word v i_in true s q = q
          word v i_in false s q = Makes (at.node_in, g_in, i_in) (λ x. flushes_twin) (λ x. Makes (h_in, g_in, i_in) (λ y. flushes_home) (λ y. q))

      timed : {j : Job} (t : ℕ) (o : Own) → (node_of u == h) ≡ false → ((p : Own) → Here Done p j) → Here (Timed h t) o (flush_job u g h t j)
      timed t o e k = Makes (at.node_in, g_in) (λ x. tests_flush e) (λ x. pick u rest (Releasing t0 g) (x == 1) (flushing t 0 u.lay.words o _ (omega arith) (Marks (counts tt) (sent_at t true _ k))) (sent_at t false o k))

      drawing : {j : Job} (o : Own) → ((p : Own) → Here Done p j) → Here (Drawing h) o (send_job u g h j)
      drawing {j} o k = Makes at.node_in (λ t. draws_send) (λ t. go t (node_of u == h) refl)
        where
          go : (t : ℕ) (c : Bool) → (node_of u == h) ≡ c → Here (if c then Stamping h t false else Timed h t) o (if c then sent_job u g h t false j else flush_job u g h t j)
          go t true e = sent_at t false o k
          go t false e = timed t o e k

      checking : {j : Job} (o : Own) → ((p : Own) → Here Done p j) → Here (Checking h) o (tell_job u t0 g h j)
      checking o k = Makes (at.node_in, g_in) (λ x. lasts) (λ x. pick u rest (Releasing t0 g) (nat_lt t0 x) (Marks (counts tt) (lowering false _ k)) (drawing o k))

    release_on : {j : Job} (o : Own) → is_dirty o g ≡ true → ((p : Own) → Works u rest (Off (Releasing t0 (g + 1))) p j) → Works u rest (Off (Releasing t0 g)) o (release_page u t0 g j)
    release_on o e k =
        Takes (Page (node_of u) g) (at.node_in, g_in) (releases e) (Makes (at.node_in, g_in) (λ x. sees_release) (λ d. pick u rest (Releasing t0 g) (d == 2) (done_at o k) (seeking u rest (Releasing t0 g) at g g_in For_release o _ (λ h h_in. checking h h_in o (λ p. done_at p k)))))

  releases_on : {j : Job} (t0 g k : ℕ) (o : Own) → g + k ≡ u.lay.pages → ((p : Own) → Works u rest (Off (Signalling t0)) p j) → Works u rest (Off (Releasing t0 g)) o (release_from u t0 g k j)
  releases_on {j} t0 g zero o w r = subst (λ z. Works u rest (Off (Releasing t0 z)) o j) (omega (arith, w)) (Slips released (r o))
  releases_on {j} t0 g (suc k) o w r = Asks (λ p. go p (is_dirty p g) refl (λ q. releases_on t0 (g + 1) k q (omega (arith, w)) r))
    where
      go : (p : Own) (c : Bool) → is_dirty p g ≡ c → ((q : Own) → Works u rest (Off (Releasing t0 (g + 1))) q (release_from u t0 (g + 1) k j))
          → Works u rest (Off (Releasing t0 g)) p (if c then release_page u t0 g (release_from u t0 (g + 1) k j) else release_from u t0 (g + 1) k j)
      go p true e later = release_on t0 g (omega (arith, w)) p e later
      go p false e later = Slips (clean e) (later p)

  collecting : (t0 k c : ℕ) (set : List ℕ) (o : Own) (f : List ℕ → Job) → k + c ≡ groups u.lay → ((set : List ℕ) → Works u rest (Off (Collecting t0 (groups u.lay) set)) o (f set)) → Works u rest (Off (Collecting t0 k set)) o (call (take_from u.lay (λ i. Nle u.p i) k c set) f)
  collecting t0 k zero set o f e p = subst (λ z. Works u rest (Off (Collecting t0 z set)) o (f set)) (omega (arith, e)) (p set)
  collecting t0 k (suc c) set o f e p = Makes (at.p_in, omega (arith, e)) (λ x. collects) (λ x. collecting t0 (k + 1) c _ o f (omega (arith, e)) p)

  typed : {j : Job} (o : Own) → ((t0 : ℕ) (p : Own) → Works u rest (Off (Signalling t0)) p j) → Works u rest (Off Idle) o (release_job u j)
  typed o r = Makes at.node_in (λ t0. draws_release) (λ t0. collecting t0 0 (groups u.lay) _ o _ (omega arith) (λ set. Marks joins (releases_on t0 0 u.lay.pages _ (omega arith) (r t0))))

-- a release
pub release_typed : (u : Who) (at : IsPlaced u) {rest : Option Job} {j : Job} (o : Own) → ((t0 : ℕ) (p : Own) → Works u rest (Off (Signalling t0)) p j) → Works u rest (Off Idle) o (release_job u j)
release_typed u at o r = typed u at _ o r
