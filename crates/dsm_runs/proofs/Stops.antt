-- The stop word names a processor that told all others to stop, and whoever is stopped is stopped by such a one.
use Rattle.std.proofs.Common.{◌≡◌, ◌≢◌, ◌⊎◌, inl, inr, ℕ, zero, suc, ◌+◌, ◌-◌, ◌*◌, ◌%◌, ◌^◌, ◌<◌, Bool, true, false, List, [], ◌∷◌, length, Option, Some, None, refl, sym, ap, ◌∙◌, subst, arith, if◌then◌else◌, ◌==◌, length-set}
use Rattle.std.specs.Prelude.{slice_get, slice_set, slice_index}
use Rattle.std.proofs.Math.Nat.{mod-eq_of_lt}
use Rattle.std.proofs.lemmas.Bool.{cases_eq, ne_eqb}
use Rattle.std.proofs.lemmas.List.{get_or-set_same, get_or-set_other}
use Rattle.dsm_words.specs.declared.item.Item.{Item}
use Rattle.dsm_words.specs.declared.item.Item.TheVariants.{Stop}
use Rattle.dsm_words.specs.Place.{Lay, place, total}
use Rattle.dsm_words.specs.Script.{Act, Get, Put, Swap, Change, Add, Or, item_of}
use Rattle.dsm_words.specs.Words.{word, done, reply}
use Rattle.dsm_words.proofs.WordLaws.{length-done}
use Rattle.dsm_local.specs.declared.end.End.{End as Ending}
use Rattle.dsm_local.specs.declared.end.End.TheVariants.{Stopped, NoMemory}
use Rattle.dsm_protocol.specs.Own.{Who, new_own}
use Rattle.dsm_protocol.specs.Jobs.{Job, Make, Again, Mark, Ask, Begin, Ended, first_act, job_after, has_ended, end_of, is_ready}
use Rattle.dsm_protocol.specs.declared.head.Head.TheVariants.{Instruction}
use Rattle.dsm_protocol.specs.Processors.{Processor, wanting, after_answer, run_on, new_processor}
use Rattle.dsm_protocol.proofs.Placed.{placed}
use Rattle.dsm_runs.specs.Setups.{Setup, lay_in, who_at}
use Rattle.dsm_runs.specs.Clusters.{Cluster, Event, stays, start, answer, act_in, moved, after_loose, after_all_loose}
use Rattle.dsm_runs.proofs.Alive.{alive, wanting_is}
use Rattle.dsm_runs.specs.Stopping.{TellsAll, HasToldAll, StopWordNames, EveryStopIsTold, EveryStoppedIsTold}
use Rattle.dsm_runs.proofs.Lists.{slice_get-set_same, slice_get-set_other, slice_get-map-range_with_len, some_one}
use Rattle.dsm_runs.proofs.Events.{by_cases}
use Rattle.dsm_runs.proofs.Starting.{length-words, length-processors}
use Rattle.dsm_runs.proofs.Telling.{MayMake, loaded, Heeds, stop_heeds, run_heeds}
use Rattle.dsm_runs.proofs.Working.{run_ready}

-- an item that there is at p is below the length
below : {X : Type 0} (xs : List X) (p : ℕ) (x : X) → slice_get xs p ≡ Some x → p < length xs
below [] p x h = absurd (cc h)
below (y ∷ ys) zero x h = omega arith
below (y ∷ ys) (suc p) x h = omega (arith, below ys p x h)

-- only the stop word stands at place 0
far : (l : Lay) (it : Item) → it ≢ Stop → place l it ≢ 0
far l Stop ne e = absurd (ne refl)
far l it ne e = absurd (omega (arith, e))

-- an operation on another item leaves the stop word
stop_other : (l : Lay) (ws : List ℕ) (a : Act) → item_of a ≢ Stop → word l (done l ws a) Stop ≡ word l ws Stop
unfolding word done
stop_other l ws (Get it) ne = refl
stop_other l ws (Put it v) ne = get_or-set_other ws (place l it) 0 v 0 (λ e. far l it ne (sym e))
stop_other l ws (Swap it v) ne = get_or-set_other ws (place l it) 0 v 0 (λ e. far l it ne (sym e))
stop_other l ws (Change it old new) ne = go (slice_index ws (place l it) == old)
  where
    go : (b : Bool) → slice_index (if b then slice_set ws (place l it) new else ws) 0 ≡ slice_index ws 0
    go true = get_or-set_other ws (place l it) 0 new 0 (λ e. far l it ne (sym e))
    go false = refl
stop_other l ws (Add it n) ne = get_or-set_other ws (place l it) 0 _ 0 (λ e. far l it ne (sym e))
stop_other l ws (Or it bits) ne = get_or-set_other ws (place l it) 0 _ 0 (λ e. far l it ne (sym e))

-- the exchange of the stop word, 0 for v
stop_change : (l : Lay) (ws : List ℕ) (v : ℕ) → length ws ≡ total l → word l (done l ws (Change Stop 0 v)) Stop ≡ (if word l ws Stop == 0 then v else word l ws Stop)
unfolding word done
stop_change l ws v long = go (slice_index ws 0 == 0)
  where
    go : (b : Bool) → slice_index (if b then slice_set ws 0 v else ws) 0 ≡ (if b then v else slice_index ws 0)
    go true = get_or-set_same ws 0 v 0 (omega (arith, long))
    go false = refl

-- its load answers it
stop_reply : (l : Lay) (ws : List ℕ) (any : Option ℕ) → answer any (Get Stop) (reply l ws (Get Stop)) ≡ word l ws Stop
unfolding word reply
stop_reply l ws any = refl

stop_get : (l : Lay) (ws : List ℕ) (it : Item) → word l (done l ws (Get it)) Stop ≡ word l ws Stop
unfolding done
stop_get l ws it = refl

-- what an operation does with the stop word: nothing, or it loads a word, or it is the exchange with which processor p ends
abbrev Does : ℕ → Act → (ℕ → Job) → Type 0
Does p a after = (item_of a ≢ Stop) ⊎ (((it : Item) × (a ≡ Get it)) ⊎ ((a ≡ Change Stop 0 (p + 1)) × ((x : ℕ) → (e : Ending) × (after x ≡ Ended e) × TellsAll e)))

does_make : (p : ℕ) (a : Act) (k : ℕ → Job) → MayMake p a k → Does p a k
does_make p (Get it) k h = inr (inl (it, refl))
does_make p (Change Stop old new) k h = inr (inr ((λ i. Change Stop (h.0 i) (h.1 i)), h.2))
does_make p a k h = inl h

does : (p : ℕ) (d : Option ℕ) (j : Job) → Heeds p d j → Does p (first_act j) (job_after j)
does p d (Make a k) h = does_make p a k h.0
does p d (Again a wanted j) h = inl h.0
does p d (Mark n j) h = inr (inl (Stop, refl))
does p d (Ask f) h = inr (inl (Stop, refl))
does p d (Begin g) h = inr (inl (Stop, refl))
does p d (Ended e) h = inr (inl (Stop, refl))

-- what is left behind an answer heeds what was loaded
abbrev Later : ℕ → Act → ℕ → Job → Type 0
Later p a x j = (d : Option ℕ) × ((d ≡ None) ⊎ (d ≡ loaded a x)) × Heeds p d j

later : (p : ℕ) (j : Job) (x : ℕ) → Heeds p None j → Later p (first_act j) x (job_after j x)
later p (Make a k) x h = (loaded a x, inr refl, h.1 x)
later p (Again a wanted j) x h = (None, inl refl, go (x == wanted))
  where
    go : (b : Bool) → Heeds p None (if b then j else Again a wanted j)
    go true = h.1
    go false = h
later p (Mark n j) x h = (None, inl refl, h)
later p (Ask f) x h = (None, inl refl, h)
later p (Begin g) x h = (None, inl refl, h)
later p (Ended e) x h = (None, inl refl, h)

loaded_is : (a : Act) (y x : ℕ) → loaded a y ≡ Some x → (a ≡ Get Stop) × (y ≡ x)
loaded_is (Get Stop) y x e = (refl, some_one y x e)
loaded_is a y x e = absurd (cc e)

abbrev StoppedBy : Cluster → Ending → Type 0
StoppedBy c (Stopped b) = HasToldAll c b
StoppedBy c e = Unit {0}

-- one that ended was stopped by one that told all; every other heeds the stop word
abbrev IsStoppedWell : Cluster → ℕ → Job → Type 0
IsStoppedWell c p (Ended e) = StoppedBy c e
IsStoppedWell c p j = Heeds p None j

module _ (s : Setup) (few : s.nodes * s.procs < 2 ^ 32) where
  record IsFine (c : Cluster) : Type 0 where
    words : length c.words ≡ total (lay_in s)
    processors : length c.processors ≡ s.nodes * s.procs
    names : StopWordNames s c
    each : (p : ℕ) (m : Processor) → slice_get c.processors p ≡ Some m → IsStoppedWell c p m.todo

  module _ (c : Cluster) (e : Event) (any : Option ℕ) (m : Processor) (here : slice_get c.processors e.p ≡ Some m) (goes : stays e.starved m.todo ≡ false) (fine : IsFine c) where
    abbrev u : Who
    u = who_at s e.p

    abbrev act : Act
    act = act_in s e m

    abbrev got : ℕ
    got = answer any act (reply (lay_in s) c.words act)

    abbrev new : Processor
    new = after_answer u s.program.code (wanting u e.starved m) got

    abbrev next : Cluster
    next = moved s c e any m

    open_heeds : (j : Job) → has_ended j ≡ false → IsStoppedWell c e.p j → Heeds e.p None j
    open_heeds (Ended x) g h = absurd (cc g)
    open_heeds j g h = h

    before_heeds : (b : Bool) → stays b m.todo ≡ false → Heeds e.p None (wanting u b m).todo
    before_heeds true g = subst (λ n. Heeds e.p None n.todo) (sym (wanting_is u m (alive true m.todo g))) (stop_heeds u None NoMemory tt)
    before_heeds false g = open_heeds m.todo g (fine.each e.p m here)

    -- one that has told all has ended, and stays as it is
    told_stays : (b : ℕ) → HasToldAll c b → HasToldAll next b
    told_stays b h = go (cases_eq b e.p)
      where
        go : (b ≡ e.p) ⊎ (b ≡ e.p → ⊥) → HasToldAll next b
        go (inl q) =
            let same : h.0 ≡ m = some_one h.0 m (sym h.2 ∙ ap (slice_get c.processors) q ∙ here) in
            let over : m.todo ≡ Ended h.1 = sym (ap (λ x. x.todo) same) ∙ h.3 in
            absurd (cc (sym (ap has_ended over) ∙ alive e.starved m.todo goes))
        go (inr ne) = (h.0, h.1, slice_get-set_other c.processors e.p b new ne ∙ h.2, h.3, h.4)

    names_same : word (lay_in s) next.words Stop ≡ word (lay_in s) c.words Stop → StopWordNames s next
    names_same same = go fine.names
      where
        go : StopWordNames s c → StopWordNames s next
        go (inl z) = inl (same ∙ z)
        go (inr h) = inr (h.0, same ∙ h.1, told_stays h.0 h.2)

    -- it ends with the exchange, and has told all
    names_new : act ≡ Change Stop 0 (e.p + 1) → ((x : ℕ) → (y : Ending) × (job_after (wanting u e.starved m).todo x ≡ Ended y) × TellsAll y) → StopWordNames s next
    names_new is ends = go fine.names
      where
        changed : word (lay_in s) next.words Stop ≡ (if word (lay_in s) c.words Stop == 0 then e.p + 1 else word (lay_in s) c.words Stop)
        changed = ap (λ a. word (lay_in s) (done (lay_in s) c.words a) Stop) is ∙ stop_change (lay_in s) c.words (e.p + 1) fine.words

        told : HasToldAll next e.p
        told = (new, (ends got).0, slice_get-set_same c.processors e.p m new here, ap (λ j. (run_on u s.program.code (wanting u e.starved m).own j).todo) (ends got).1, (ends got).2)

        go : StopWordNames s c → StopWordNames s next
        go (inl z) = inr (e.p, changed ∙ ap (λ w. if w == 0 then e.p + 1 else w) z, told)
        go (inr h) =
            let full : (word (lay_in s) c.words Stop == 0) ≡ false = ne_eqb (word (lay_in s) c.words Stop) 0 (λ z. absurd (omega (arith, h.1, z))) in
            inr (h.0, changed ∙ ap (λ b. if b then e.p + 1 else word (lay_in s) c.words Stop) full ∙ h.1, told_stays h.0 h.2)

    names_next : StopWordNames s next
    names_next = go (does e.p None (wanting u e.starved m).todo (before_heeds e.starved goes))
      where
        go : Does e.p act (job_after (wanting u e.starved m).todo) → StopWordNames s next
        go (inl ne) = names_same (stop_other (lay_in s) c.words act ne)
        go (inr (inl h)) = names_same (ap (λ a. word (lay_in s) (done (lay_in s) c.words a) Stop) h.1 ∙ stop_get (lay_in s) c.words h.0)
        go (inr (inr h)) = names_new h.0 h.1

    -- who is stopped now is stopped by the one that the word named
    stopped_now : (b x : ℕ) → loaded act got ≡ Some x → x ≢ 0 → b ≡ (x - 1) % 2 ^ 32 → HasToldAll next b
    stopped_now b x is some at = go fine.names
      where
        held : word (lay_in s) c.words Stop ≡ x
        held =
            let q = loaded_is act got x is in
            sym (ap (λ a. answer any a (reply (lay_in s) c.words a)) q.0 ∙ stop_reply (lay_in s) c.words any) ∙ q.1

        go : StopWordNames s c → HasToldAll next b
        go (inl z) = absurd (some (sym held ∙ z))
        go (inr h) =
            let low : h.0 < 2 ^ 32 = omega (arith, below c.processors h.0 h.2.0 h.2.2, fine.processors, few) in
            let less : x - 1 ≡ h.0 = omega (arith, held, h.1) in
            let same : h.0 ≡ b = sym (at ∙ ap (λ y. y % 2 ^ 32) less ∙ mod-eq_of_lt low) in
            subst (λ y. HasToldAll next y) same (told_stays h.0 h.2)

    well_now : (j : Job) → is_ready j ≡ true → Later e.p act got j → IsStoppedWell next e.p j
    well_now (Make a k) r h = h.2
    well_now (Again a wanted j) r h = h.2
    well_now (Mark n j) r h = absurd (cc r)
    well_now (Ask f) r h = absurd (cc r)
    well_now (Begin g) r h = absurd (cc r)
    well_now (Ended (Stopped b)) r h = go h.1
      where
        go : (h.0 ≡ None) ⊎ (h.0 ≡ loaded act got) → HasToldAll next b
        go (inl none) = absurd (cc (sym none ∙ h.2.1))
        go (inr is) = stopped_now b h.2.0 (sym is ∙ h.2.1) h.2.2 h.2.3
    well_now (Ended x) r h = tt

    well_new : IsStoppedWell next e.p new.todo
    well_new =
        let h = later e.p (wanting u e.starved m).todo got (before_heeds e.starved goes) in
        let j : Job = job_after (wanting u e.starved m).todo got in
        let o = (wanting u e.starved m).own in
        well_now new.todo (run_ready u s.program.code j o) (h.0, h.1, run_heeds u (placed u (omega (arith, below c.processors e.p m here, fine.processors))) s.program.code h.0 j o h.2)

    well_stays : (q : ℕ) (j : Job) → IsStoppedWell c q j → IsStoppedWell next q j
    well_stays q (Ended (Stopped b)) h = told_stays b h
    well_stays q (Ended x) h = tt
    well_stays q j h = h

    fine_next : IsFine next
    fine_next = record { words = length-done (lay_in s) c.words act ∙ fine.words; processors = length-set c.processors e.p new ∙ fine.processors; names = names_next; each = all }
      where
        all : (q : ℕ) (n : Processor) → slice_get next.processors q ≡ Some n → IsStoppedWell next q n.todo
        all q n at = go (cases_eq q e.p)
          where
            go : (q ≡ e.p) ⊎ (q ≡ e.p → ⊥) → IsStoppedWell next q n.todo
            go (inl is) =
                let same : new ≡ n = some_one new n (sym (slice_get-set_same c.processors e.p m new here) ∙ sym (ap (slice_get next.processors) is) ∙ at) in
                subst (λ (y : ℕ × Processor). IsStoppedWell next y.0 y.1.todo) (λ i. (sym is i, same i)) well_new
            go (inr ne) = well_stays q n.todo (fine.each q n (sym (slice_get-set_other c.processors e.p q new ne) ∙ at))

  fine_event : (c : Cluster) (e : Event) (any : Option ℕ) → IsFine c → IsFine (after_loose s c e any)
  fine_event c e any fine = by_cases s c e any IsFine fine (λ m here goes. fine_next c e any m here goes fine)

  fine_events : (es : List (Event × Option ℕ)) (c : Cluster) → IsFine c → IsFine (after_all_loose s c es)
  unfolding after_all_loose
  fine_events [] c fine = fine
  fine_events (e ∷ es) c fine = fine_events es (after_loose s c e.0 e.1) (fine_event c e.0 e.1 fine)

  well_first : (c : Cluster) (p : ℕ) (j : Job) → Heeds p None j → IsStoppedWell c p j
  well_first c p (Ended (Stopped b)) h = absurd (cc h.1)
  well_first c p (Ended x) h = tt
  well_first c p j h = h

  names_first : StopWordNames s (start s)
  unfolding start word
  names_first = inl refl

  each_first : (p : ℕ) (m : Processor) → slice_get (start s).processors p ≡ Some m → IsStoppedWell (start s) p m.todo
  unfolding start
  each_first p m at =
      let first : ℕ → Processor = λ q. new_processor (who_at s q) s.program.code in
      let is : m ≡ first p = slice_get-map-range_with_len first (s.nodes * s.procs) 0 p m at ∙ ap first (let z : 0 + p ≡ p = omega arith in z) in
      subst (λ x. IsStoppedWell (start s) p x.todo) (sym is) (well_first (start s) p (first p).todo (run_heeds (who_at s p) (placed (who_at s p) (omega (arith, below (start s).processors p m at, length-processors s))) s.program.code None (Begin Instruction) new_own tt))

  fine_first : IsFine (start s)
  fine_first = record { words = length-words s; processors = length-processors s; names = names_first; each = each_first }

pub every_stop : EveryStopIsTold
every_stop s events few = (fine_events s few events (start s) (fine_first s few)).names

pub every_stopped : EveryStoppedIsTold
every_stopped s events p b m few at ends =
    let fine = fine_events s few events (start s) (fine_first s few) in
    go m.todo ends (fine.each p m at)
  where
    go : (j : Job) → end_of j ≡ Some (Stopped b) → IsStoppedWell (after_all_loose s (start s) events) p j → HasToldAll (after_all_loose s (start s) events) b
    go (Ended x) is h = subst (λ y. StoppedBy (after_all_loose s (start s) events) y) (some_one x (Stopped b) is) h
    go j is h = absurd (cc is)
