-- Behind every list of loose events, each processor holds the turn that its job gives back, and has its mappings in its words.
use Rattle.std.proofs.Common.{◌≡◌, ◌⊎◌, ◌↔◌, inl, inr, ℕ, zero, suc, ◌+◌, ◌*◌, ◌<◌, ◌≤◌, ◌==◌, Bool, true, false, List, [], ◌∷◌, length, Option, Some, None, refl, sym, ap, ◌∙◌, subst, arith, if◌then◌else◌, ◌||◌, replicate}
use Rattle.std.specs.Prelude.{slice_get, slice_set, slice_index, is_some}
use Rattle.std.proofs.lemmas.Bool.{cases_eq, eqb-true, eqb-false}
use Rattle.std.proofs.lemmas.List.{length-replicate}
use Rattle.std.proofs.lemmas.Option.{slice_get_within}
use Rattle.dsm_isa.specs.declared.instr.Instr.{Instr}
use Rattle.dsm_local.specs.declared.end.End.TheVariants.{NoMemory}
use Rattle.dsm_words.specs.declared.item.Item.{Item}
use Rattle.dsm_words.specs.declared.item.Item.TheVariants.{Stop, Map}
use Rattle.dsm_words.specs.Place.{Lay, IsWithin, processors, total}
use Rattle.dsm_words.specs.Script.{Act, Get, Put, Swap, Change, Add, Or, item_of}
use Rattle.dsm_words.specs.Words.{word, done, reply}
use Rattle.dsm_clock.specs.declared.turns.TurnId.{TurnId}
use Rattle.dsm_clock.specs.declared.turns.TurnId.TheVariants.{Page, Notices}
use Rattle.dsm_clock.specs.Turns.{turn_item}
use Rattle.dsm_protocol.specs.declared.head.Head.TheVariants.{Instruction}
use Rattle.dsm_protocol.specs.Own.{Own, Who, new_own}
use Rattle.dsm_protocol.specs.Jobs.{Job, Make, Again, Mark, Ask, Begin, Ended, first_act, job_after, has_ended, held_turn}
use Rattle.dsm_protocol.specs.Steps.{starved_job}
use Rattle.dsm_protocol.specs.Processors.{Processor, run_on, new_processor, wanting}
use Rattle.dsm_protocol.proofs.Placed.{placed}
use Rattle.dsm_runs.specs.Setups.{Setup, IsSetup, lay_in, who_at}
use Rattle.dsm_runs.specs.Clusters.{Cluster, Event, stays, start, answer, act_in, moved, after_loose, after_all_loose}
use Rattle.dsm_runs.specs.Turning.{MapsAreItsOwn, MapsAreStoredByTheirOwn, HoldsItsTurn, TriesHoldingNone, IsHeld, EachTurnIsHeld, CanGoOn, NoCircle}
use Rattle.dsm_runs.proofs.Alive.{alive, wanting_is}
use Rattle.dsm_runs.proofs.Lists.{slice_get-set_same, slice_get-set_other, slice_get-map-range_with_len, some_one}
use Rattle.dsm_runs.proofs.Events.{by_cases}
use Rattle.dsm_runs.proofs.Starting.{starts_by_items, length-processors}
use Rattle.dsm_runs.proofs.Logs.{log_of, log_after, every_log}
use Rattle.dsm_flat.proofs.History.{Log}
use Rattle.dsm_runs.proofs.Legality.{IsFine, event_fine, start_fine, wanting_good}
use Rattle.dsm_runs.proofs.Mappings.{IsSparing, first_spares}
use Rattle.dsm_runs.proofs.Keeping.{IsFree, Frees, Keeps, Step, Apart, Own_map, Gives_back, maps_with, keeps_held, stop_keeps, Behind, run_keeps}
use Rattle.dsm_runs.proofs.Holding.{turn_no_map, Says, IsOwned, Leaves, step_leaves, take_leaves, lost_leaves}

-- an exchange answers its word
reply_change : (l : Lay) (ws : List ℕ) (it : Item) (old new : ℕ) → reply l ws (Change it old new) ≡ word l ws it
unfolding reply word
reply_change l ws it old new = refl

-- one operation of a processor
module _ (u : Who) (code : List Instr) (p_in : u.p < processors u.lay) (few : u.lay.pages ≤ 256) (any : Option ℕ) (ws : List ℕ) (long : length ws ≡ total u.lay) where
  abbrev got : Act → ℕ
  got a = answer any a (reply u.lay ws a)

  record Result (j : Job) (o : Own) : Type 0 where
    pub turn : Option TurnId
    pub maps : List ℕ
    pub leaves : Leaves u ws long p_in few (first_act j) turn maps
    pub behind : Behind u (placed u p_in) turn maps (run_on u code o (job_after j (got (first_act j))))

  stay : (j : Job) (o : Own) (t : Option TurnId) → first_act j ≡ Get Stop → ((x : ℕ) → job_after j x ≡ j) → Keeps u t None j → Says u.lay ws u.p t o.maps → Result j o
  stay j o t act same k s =
      record {
        turn = t;
        maps = o.maps;
        leaves = rw act (step_leaves u ws long p_in few o.maps (Apart tt) tt s);
        behind = rw (same (got (first_act j))) (run_keeps u (placed u p_in) code j o t None k);
      }

  tries : (turn : TurnId) (j : Job) (o : Own) → IsWithin u.lay (turn_item turn) → Keeps u (Some turn) None j → Says u.lay ws u.p None o.maps → Result (Again (Change (turn_item turn) 0 (u.p + 1)) 0 j) o
  tries turn j o within k s = go (got (Change (turn_item turn) 0 (u.p + 1)) == 0) refl
    where
      again : Keeps u None None (Again (Change (turn_item turn) 0 (u.p + 1)) 0 j)
      again = (turn, refl, refl, within, refl, refl, k)

      go : (b : Bool) → (got (Change (turn_item turn) 0 (u.p + 1)) == 0) ≡ b → Result (Again (Change (turn_item turn) 0 (u.p + 1)) 0 j) o
      go true is =
          let won : word u.lay ws (turn_item turn) ≡ 0 = sym (reply_change u.lay ws (turn_item turn) 0 (u.p + 1)) ∙ eqb-true _ 0 is in
          record {
            turn = Some turn;
            maps = o.maps;
            leaves = take_leaves u ws long p_in few turn o.maps within won s;
            behind = rw is (run_keeps u (placed u p_in) code j o (Some turn) None k);
          }
      go false is =
          record {
            turn = None;
            maps = o.maps;
            leaves = lost_leaves u ws long p_in few turn (u.p + 1) None o.maps within (λ e. eqb-false _ 0 is (reply_change u.lay ws (turn_item turn) 0 (u.p + 1) ∙ e)) s;
            behind = rw is (run_keeps u (placed u p_in) code (Again (Change (turn_item turn) 0 (u.p + 1)) 0 j) o None None again);
          }

  one : (j : Job) (o : Own) (t : Option TurnId) → Keeps u t None j → Says u.lay ws u.p t o.maps → IsSparing u (first_act j) → Result j o
  one (Make a k) o t h s spares =
      record { turn = h.1; maps = maps_with h.2 o.maps; leaves = step_leaves u ws long p_in few o.maps h.3 spares s; behind = run_keeps u (placed u p_in) code (k (got a)) o h.1 h.2 (h.4 (got a)) }
  one (Again a v j) o t h s spares = rw (h.4, h.5) (tries h.0 j o h.3 h.6 (subst (λ y. Says u.lay ws u.p y o.maps) h.2 s))
  one (Mark n j) o t h s spares = stay (Mark n j) o t refl (λ x. refl) h s
  one (Ask f) o t h s spares = stay (Ask f) o t refl (λ x. refl) h s
  one (Begin g) o t h s spares = stay (Begin g) o t refl (λ x. refl) h s
  one (Ended e) o t h s spares = stay (Ended e) o t refl (λ x. refl) h s

module _ (s : Setup) (setup : IsSetup s) where
  abbrev lay : Lay
  lay = lay_in s

  few : s.program.shape.pages ≤ 256
  few = setup.sizes.1

  -- where a processor stands, and what the words say of it
  record Seat (ws : List ℕ) (p : ℕ) (m : Processor) : Type 0 where
    pub turn : Option TurnId
    pub keeps : Keeps (who_at s p) turn None m.todo
    pub says : Says lay ws p turn m.own.maps

  record IsSeated (c : Cluster) : Type 0 where
    pub seat : (p : ℕ) (m : Processor) → slice_get c.processors p ≡ Some m → Seat c.words p m
    pub owned : (k : TurnId) → IsWithin lay (turn_item k) → IsOwned lay c.words k

  -- the same for want of memory, which comes with no turn held
  wanting_seat : (ws : List ℕ) (p : ℕ) (m : Processor) (b : Bool) → stays b m.todo ≡ false → Seat ws p m → Seat ws p (wanting (who_at s p) b m)
  wanting_seat ws p m false goes seat = seat
  wanting_seat ws p m true goes seat =
      let none : seat.turn ≡ None = sym (keeps_held (who_at s p) m.todo seat.turn None seat.keeps) ∙ free (has_ended m.todo) (held_turn m.todo) goes in
      subst (λ n. Seat ws p n) (sym (wanting_is (who_at s p) m (alive true m.todo goes)))
      (record { turn = None; keeps = stop_keeps (who_at s p) NoMemory; says = subst (λ t. Says lay ws p t m.own.maps) none seat.says })
    where
      free : (a : Bool) (t : Option TurnId) → (a || is_some t) ≡ false → t ≡ None
      free true t h = absurd (cc h)
      free false None h = refl
      free false (Some t) h = absurd (cc h)

  moved_seated : (c : Cluster) (e : Event) (any : Option ℕ) (log : Log) (m : Processor) → slice_get c.processors e.p ≡ Some m → stays e.starved m.todo ≡ false → IsFine s c log → IsSeated c → IsSeated (moved s c e any m)
  moved_seated c e any log m here goes fine seated =
      record { seat = λ q n h. each q n h (cases_eq e.p q); owned = λ k there. step.leaves.owned k there (seated.owned k there) }
    where
      u : Who
      u = who_at s e.p

      p_in : e.p < s.nodes * s.procs
      p_in = omega (arith, slice_get_within c.processors e.p m here, fine.processors)

      n : Processor
      n = wanting (who_at s e.p) e.starved m

      seat : Seat c.words e.p (wanting (who_at s e.p) e.starved m)
      seat = wanting_seat c.words e.p m e.starved goes (seated.seat e.p m here)

      spares : IsSparing (who_at s e.p) (first_act (wanting (who_at s e.p) e.starved m).todo)
      spares = first_spares (who_at s e.p) (wanting (who_at s e.p) e.starved m).own (wanting (who_at s e.p) e.starved m).todo (wanting_good s setup e.p log m e.starved (fine.synced.good e.p m here)).syncs

      step : Result (who_at s e.p) s.program.code p_in few any c.words fine.words (wanting (who_at s e.p) e.starved m).todo (wanting (who_at s e.p) e.starved m).own
      step = one (who_at s e.p) s.program.code p_in few any c.words fine.words (wanting (who_at s e.p) e.starved m).todo (wanting (who_at s e.p) e.starved m).own seat.turn seat.keeps seat.says spares

      new : Processor
      new = run_on (who_at s e.p) s.program.code (wanting (who_at s e.p) e.starved m).own (job_after (wanting (who_at s e.p) e.starved m).todo (answer any (act_in s e m) (reply (lay_in s) c.words (act_in s e m))))

      new_seat : Seat (done (lay_in s) c.words (act_in s e m)) e.p new
      new_seat = record { turn = step.turn; keeps = step.behind.keeps; says = subst (λ maps. Says lay (done (lay_in s) c.words (act_in s e m)) e.p step.turn maps) (sym step.behind.maps_are) step.leaves.own }

      each : (q : ℕ) (o : Processor) → slice_get (slice_set c.processors e.p new) q ≡ Some o → (e.p ≡ q) ⊎ (e.p ≡ q → ⊥) → Seat (done (lay_in s) c.words (act_in s e m)) q o
      each q o h (inl is) =
          let same : new ≡ o = some_one new o (sym (slice_get-set_same c.processors e.p m new here) ∙ (ap (slice_get (slice_set c.processors e.p new)) is ∙ h)) in
          subst (λ i. Seat (done (lay_in s) c.words (act_in s e m)) i o) is (subst (λ y. Seat (done (lay_in s) c.words (act_in s e m)) e.p y) same new_seat)
      each q o h (inr ne) =
          let old : slice_get c.processors q ≡ Some o = sym (slice_get-set_other c.processors e.p q new (λ x. ne (sym x))) ∙ h in
          let was = seated.seat q o old in
          let q_in : q < s.nodes * s.procs = omega (arith, slice_get_within c.processors q o old, fine.processors) in
          record { turn = was.turn; keeps = was.keeps; says = step.leaves.others q was.turn o.own.maps (λ x. ne (sym x)) q_in was.says }

  abbrev Both : Cluster → Log → Type 0
  Both c log = IsFine s c log × IsSeated c

  event_both : (c : Cluster) (e : Event) (any : Option ℕ) (log : Log) → Both c log → Both (after_loose s c e any) (log_after s c e any log)
  event_both c e any log both =
      (event_fine s setup c e any log both.0, by_cases s c e any IsSeated both.1 (λ m here goes. moved_seated c e any log m here goes both.0 both.1))

  -- at the start
  start_seat : (p : ℕ) (m : Processor) → slice_get (start s).processors p ≡ Some m → Seat (start s).words p m
  unfolding start
  start_seat p m at =
      let new : ℕ → Processor = λ q. new_processor (who_at s q) s.program.code in
      let is : m ≡ new p = slice_get-map-range_with_len new (s.nodes * s.procs) 0 p m at ∙ ap new (let z : 0 + p ≡ p = omega arith in z) in
      let p_in : p < s.nodes * s.procs = omega (arith, slice_get_within (start s).processors p m at, length-processors s) in
      let b = run_keeps (who_at s p) (placed (who_at s p) p_in) s.program.code (Begin Instruction) new_own None None (refl, refl) in
      subst (Seat (start s).words p) (sym is)
      (record {
        turn = None;
        keeps = b.keeps;
        says =
            record {
              turns = λ k there. turn k there;
              mapped = λ g h. starts_by_items s (Map p g) (p_in, h) ∙ (sym (zeros 256 g) ∙ ap (λ maps. slice_index maps g) (sym b.maps_are));
              places = ap length b.maps_are ∙ length-replicate {A = ℕ} 256 0;
            };
      })
    where
      zeros : (n k : ℕ) → slice_index (replicate n 0) k ≡ 0
      zeros zero k = refl
      zeros (suc n) zero = refl
      zeros (suc n) (suc k) = zeros n k

      turn : (k : TurnId) → IsWithin lay (turn_item k) → (word lay (start s).words (turn_item k) ≡ p + 1) ↔ (None ≡ Some k)
      turn (Page n g) there = (λ h. absurd (let z = starts_by_items s (turn_item (Page n g)) there in omega (arith, z, h)), λ h. absurd (cc h))
      turn (Notices n) there = (λ h. absurd (let z = starts_by_items s (turn_item (Notices n)) there in omega (arith, z, h)), λ h. absurd (cc h))

  start_owned : (k : TurnId) → IsWithin lay (turn_item k) → IsOwned lay (start s).words k
  start_owned (Page n g) there = inl (starts_by_items s (turn_item (Page n g)) there)
  start_owned (Notices n) there = inl (starts_by_items s (turn_item (Notices n)) there)

  every_both : (events : List (Event × Option ℕ)) → Both (after_all_loose s (start s) events) (log_of s events)
  every_both events = every_log s Both event_both events (start s) [] (start_fine s setup, record { seat = start_seat; owned = start_owned })

pub maps_are_its_own : MapsAreItsOwn
maps_are_its_own s events p m setup at g h = ((every_both s setup events).1.seat p m at).says.mapped g h

-- what an operation on a mapping's word is, of processor p
abbrev IsOwnMap : ℕ → ℕ → ℕ → Act → Type 0
IsOwnMap p q g a = (a ≡ Get (Map q g)) ⊎ ((q ≡ p) × (v : ℕ) × (a ≡ Put (Map q g) v))

free_map : (a : Act) (p q g : ℕ) → Frees a → item_of a ≡ Map q g → IsOwnMap p q g a
free_map (Get it) p q g frees e = inl (ap Get e)
free_map (Put it v) p q g frees e = absurd (subst IsFree e frees)
free_map (Swap it v) p q g frees e = absurd (subst IsFree e frees)
free_map (Change it old new) p q g frees e = absurd (subst IsFree e frees)
free_map (Add it n) p q g frees e = absurd (subst IsFree e frees)
free_map (Or it bits) p q g frees e = absurd (subst IsFree e frees)

step_map : (u : Who) {t t' : Option TurnId} {w : Option (ℕ × ℕ)} {a : Act} (q g : ℕ) → Step u t a t' w → item_of a ≡ Map q g → IsOwnMap u.p q g a
step_map u q g (Apart frees) e = free_map _ u.p q g frees e
step_map u q g (Own_map h m page) e = inr (let same : q ≡ u.p = cc e in same, m, ap (λ it. Put it m) e)
step_map u q g (Gives_back turn within) e = absurd (turn_no_map turn q g e)

first_map : (u : Who) (j : Job) (t : Option TurnId) (q g : ℕ) → Keeps u t None j → item_of (first_act j) ≡ Map q g → IsOwnMap u.p q g (first_act j)
first_map u (Make a k) t q g h e = step_map u q g h.3 e
first_map u (Again a v j) t q g h e = absurd (turn_no_map h.0 q g (sym (ap item_of h.5) ∙ e))
first_map u (Mark n j) t q g h e = absurd (cc e)
first_map u (Ask f) t q g h e = absurd (cc e)
first_map u (Begin b) t q g h e = absurd (cc e)
first_map u (Ended x) t q g h e = absurd (cc e)

pub maps_are_stored_by_their_own : MapsAreStoredByTheirOwn
maps_are_stored_by_their_own s events e m q g setup at is = go e.starved is
  where
    u : Who
    u = who_at s e.p

    wants : (b : Bool) → item_of (first_act (if b then m.todo else starved_job u)) ≡ Map q g → IsOwnMap e.p q g (first_act (if b then m.todo else starved_job u))
    wants true h = let seat = (every_both s setup events).1.seat e.p m at in first_map u m.todo seat.turn q g seat.keeps h
    wants false h = absurd (cc h)

    go : (b : Bool) → item_of (first_act (wanting u b m).todo) ≡ Map q g → IsOwnMap e.p q g (first_act (wanting u b m).todo)
    go true h = wants (has_ended m.todo) h
    go false h = wants true h

pub holds_its_turn : HoldsItsTurn
holds_its_turn s events p m setup at t there =
    let seat = (every_both s setup events).1.seat p m at in
    let held = keeps_held (who_at s p) m.todo seat.turn None seat.keeps in
    let says = seat.says.turns t there in
    (λ h. held ∙ says.0 h, λ h. says.1 (sym held ∙ h))

-- an operation that is made once tries no turn
no_try : (u : Who) {t t' : Option TurnId} {w : Option (ℕ × ℕ)} {a : Act} (k : TurnId) (new : ℕ) → Step u t a t' w → a ≡ Change (turn_item k) 0 new → ⊥
no_try u (Page n g) new (Apart frees) e = subst Frees e frees
no_try u (Notices n) new (Apart frees) e = subst Frees e frees
no_try u k new (Own_map g m page) e = absurd (cc e)
no_try u k new (Gives_back turn within) e = absurd (cc e)

tries_nothing : (u : Who) (j : Job) (t : Option TurnId) (k : TurnId) (new : ℕ) → Keeps u t None j → first_act j ≡ Change (turn_item k) 0 new → held_turn j ≡ None
tries_nothing u (Make a f) t k new h e = absurd (no_try u k new h.3 e)
tries_nothing u (Again a v j) t k new h e = refl
tries_nothing u (Mark n j) t k new h e = absurd (cc e)
tries_nothing u (Ask f) t k new h e = absurd (cc e)
tries_nothing u (Begin g) t k new h e = refl
tries_nothing u (Ended x) t k new h e = refl

pub tries_holding_none : TriesHoldingNone
tries_holding_none s events p m setup at t e = let seat = (every_both s setup events).1.seat p m at in tries_nothing (who_at s p) m.todo seat.turn t (p + 1) seat.keeps e

pub each_turn_is_held : EachTurnIsHeld
each_turn_is_held s events t setup there = go ((every_both s setup events).1.owned t there)
  where
    some_at : (xs : List Processor) (q : ℕ) → q < length xs → (n : Processor) × (slice_get xs q ≡ Some n)
    some_at [] q h = absurd (omega arith)
    some_at (x ∷ xs) zero h = (x, refl)
    some_at (x ∷ xs) (suc q) h = some_at xs q (omega (arith, h))

    go : IsOwned (lay_in s) (after_all_loose s (start s) events).words t → (word (lay_in s) (after_all_loose s (start s) events).words (turn_item t) ≡ 0) ⊎ IsHeld (after_all_loose s (start s) events) t
    go (inl z) = inl z
    go (inr x) =
        let n = some_at (after_all_loose s (start s) events).processors x.0 (omega (arith, x.1, (every_both s setup events).0.processors)) in
        inr (x.0, n.0, n.1, (holds_its_turn s events x.0 n.0 setup n.1 t there).0 x.2)

-- of two tries, the words of the same turn are tried
same_item : (a b : Item) (x y : ℕ) → Change a 0 x ≡ Change b 0 y → a ≡ b
same_item a b x y e = cc e

pub no_circle : NoCircle
no_circle s events p m setup at runs = go m.todo refl seat.keeps runs
  where
    c : Cluster
    c = after_all_loose s (start s) events

    seat : Seat s setup (after_all_loose s (start s) events).words p m
    seat = (every_both s setup events).1.seat p m at

    ended_holds : (j : Job) (t : TurnId) → held_turn j ≡ Some t → has_ended j ≡ false
    ended_holds (Ended e) t h = absurd (cc h)
    ended_holds (Make a k) t h = refl
    ended_holds (Again a v j) t h = refl
    ended_holds (Mark n j) t h = refl
    ended_holds (Ask f) t h = refl
    ended_holds (Begin g) t h = refl

    tried : (k : TurnId) (e : first_act m.todo ≡ Change (turn_item k) 0 (p + 1)) → (word (lay_in s) (after_all_loose s (start s) events).words (turn_item k) ≡ 0) ⊎ IsHeld (after_all_loose s (start s) events) k → (q : ℕ) × (n : Processor) × CanGoOn s (after_all_loose s (start s) events) q n
    tried k e (inl free) =
        (p, m, (at, runs, λ t there f. subst (λ it. word (lay_in s) (after_all_loose s (start s) events).words it ≡ 0) (same_item (turn_item k) (turn_item t) (p + 1) (p + 1) (sym e ∙ f)) free))
    tried k e (inr x) =
        (x.0, x.1, (x.2, ended_holds x.1.todo k x.3, λ t there f. absurd (let none = tries_holding_none s events x.0 x.1 setup x.2 t f in let z : None ≡ Some k = sym none ∙ x.3 in cc z)))

    go : (j : Job) → m.todo ≡ j → Keeps (who_at s p) seat.turn None j → has_ended j ≡ false → (q : ℕ) × (n : Processor) × CanGoOn s (after_all_loose s (start s) events) q n
    go (Make a k) is h lives = (p, m, (at, runs, λ t there f. absurd (no_try (who_at s p) t (p + 1) h.3 (sym (ap first_act is) ∙ f))))
    go (Again a v j) is h lives = tried h.0 (ap first_act is ∙ h.5) (each_turn_is_held s events h.0 setup h.3)
    go (Mark n j) is h lives = (p, m, (at, runs, λ t there f. absurd (let z : Get Stop ≡ Change (turn_item t) 0 (p + 1) = sym (ap first_act is) ∙ f in cc z)))
    go (Ask f) is h lives = (p, m, (at, runs, λ t there f. absurd (let z : Get Stop ≡ Change (turn_item t) 0 (p + 1) = sym (ap first_act is) ∙ f in cc z)))
    go (Begin g) is h lives = (p, m, (at, runs, λ t there f. absurd (let z : Get Stop ≡ Change (turn_item t) 0 (p + 1) = sym (ap first_act is) ∙ f in cc z)))
    go (Ended e) is h lives = absurd (cc lives)
