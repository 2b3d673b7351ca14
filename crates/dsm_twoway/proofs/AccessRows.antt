-- Rows of an access: a load and a store of the word, and what its processor may count on.
use Rattle.std.proofs.Common.{◌≡◌, ◌≢◌, ◌⊎◌, inl, inr, ℕ, suc, ◌%◌, ◌≤◌, ◌==◌, Bool, true, false, List, [], ◌∷◌, ◌++◌, Option, None, Some, refl, sym, ap, ◌∙◌, subst, arith}
use Rattle.std.specs.Prelude.{map, ◌&&◌, slice_index}
use Rattle.std.proofs.lemmas.Bool.{cases_eq, eq-eqb, eqb-true}
use Rattle.dsm_words.specs.declared.item.Item.{Item}
use Rattle.dsm_words.specs.declared.item.Item.TheVariants.{Frame, Twin, Twined, Map, Dir, Update, Turn}
use Rattle.dsm_words.specs.Place.{IsWithin}
use Rattle.dsm_words.specs.Script.{Act, Get, Put, item_of}
use Rattle.dsm_words.specs.Words.{word, done}
use Rattle.dsm_protocol.specs.Own.{Own, node_of}
use Rattle.dsm_protocol.specs.Steps.{allows, page_of, address_item}
use Rattle.dsm_protocol.specs.Stages.{Work, Off, Access, Loaded, Stored}
use Rattle.dsm_protocol.specs.Rows.{Allowed, loads, stores}
use Rattle.dsm_copies.specs.Modes.{Mode, Bare, may_store, outdated, touched}
use Rattle.dsm_copies.specs.Copies as W
use Rattle.dsm_copies.specs.Copies.{out_node, touch_node, store_at, put, read}
use Rattle.dsm_copies.specs.Premises.{Premise, Values, Order, Apart, Fetched, Told, Broken, Rights, Away, IsApart}
use Rattle.dsm_copies.specs.Debts.{AsksOf}
use Rattle.dsm_copies.specs.Joining.{onto}
use Rattle.dsm_debts.specs.Page as P
use Rattle.dsm_debts.specs.Joining.{Move, At, Other, AgreesAt, event_at}
use Rattle.dsm_fresh.specs.Pages as S
use Rattle.dsm_freshness.specs.Tied.{may_load}
use Rattle.dsm_ties.specs.Tied.{bit}
use Rattle.dsm_freshness.proofs.Frame.{both, and_true}
use Rattle.dsm_releases.specs.Events as R
use Rattle.dsm_twoway.specs.Events.{place_of, only}
use Rattle.dsm_twoway.specs.Tied.{IsAway, Copy, Words, Match}
use Rattle.dsm_twoway.proofs.Modes.{store_plain, outdated_plain, touched_plain}
use Rattle.dsm_twoway.proofs.Scene.{Scene, Asked, place, fresh_left, pages_left, RowActs, Acted, Meets}
use Rattle.dsm_twoway.proofs.Changes.{IsOf, stays, becomes, part_stays, rest_stays, copy_off, words_stay}
use Rattle.dsm_twoway.proofs.Frame.{by_events, by_none, numbers_stay, off_knows}
use Rattle.dsm_twoway.proofs.Ops.{put_same, put_other}
use Rattle.dsm_twoway.proofs.Blocks.{place_away, place_home, pick_move}
use Rattle.dsm_twoway.proofs.Accesses.{fetched_here, breaks_got, sends_got}
use Rattle.dsm_twoway.proofs.Apart.{access_apart}

-- a mapping that allows an access allows a load, and one that allows a store is to write
allowed_load : (write : Bool) (k : ℕ) → allows write k ≡ true → may_load k ≡ true
allowed_load false k e = e
allowed_load true k e = ap may_load (eqb-true k 2 e)

-- a store keeps who may store at another node
may_out : (x : Mode) → may_store (outdated x) ≡ may_store x
may_out x = store_plain (outdated x) ∙ ap may_store (outdated_plain x) ∙ sym (store_plain x)

may_touched : (x : Mode) → may_store (touched x) ≡ may_store x
may_touched x = store_plain (touched x) ∙ ap may_store (touched_plain x) ∙ sym (store_plain x)

-- what a store is to the copies, wherever it is made
store_event : (k : Option ℕ) (w : P.Work) (v q : ℕ) → event_at k w v (P.Store q) ≡ Some (W.Store q v)
store_event None w v q = refl
store_event (Some n) w v q = refl

store_agrees : (place : ℕ → Option ℕ) (k : Option ℕ) (x : W.State) (q : ℕ) → place q ≡ k → AgreesAt place k x (P.Store q)
store_agrees place None x q e = e
store_agrees place (Some n) x q e = e

module _ (s : Scene) where
  -- at the own place: nothing where that is the home, else this
  at_place : (Q : ℕ → Type 0) → (node_of s.u ≢ s.h → Q (node_of s.u)) → Away (place_of s.h (node_of s.u)) Q
  at_place Q k = go (cases_eq (node_of s.u) s.h)
    where
      go : (node_of s.u ≡ s.h) ⊎ (node_of s.u ≢ s.h) → Away (place_of s.h (node_of s.u)) Q
      go (inl d) = subst (λ z. Away z Q) (sym (place_home s.h (node_of s.u) d)) tt
      go (inr ne) = subst (λ z. Away z Q) (sym (place_away s.h (node_of s.u) ne)) (k ne)

  -- what is read there is the word
  frame_read : word s.u.lay s.ws (Frame (node_of s.u) s.g s.i) ≡ read s.x (place_of s.h (node_of s.u))
  frame_read = go (cases_eq (node_of s.u) s.h)
    where
      go : (node_of s.u ≡ s.h) ⊎ (node_of s.u ≢ s.h) → word s.u.lay s.ws (Frame (node_of s.u) s.g s.i) ≡ read s.x (place_of s.h (node_of s.u))
      go (inl d) = ap (λ z. word s.u.lay s.ws (Frame z s.g s.i)) d ∙ s.match.words.master_is ∙ sym (ap (read s.x) (place_home s.h (node_of s.u) d))
      go (inr ne) = (s.match.words.each (node_of s.u) (s.at.node_in, ne)).frame_is ∙ sym (ap (read s.x) (place_away s.h (node_of s.u) ne))

  module _ {o : Own} {a' : Act} {y : ℕ} {faulted write : Bool} {a : ℕ} (f : Meets s (Off (Access faulted write a)) o a' y) (e : Allowed s.u o.maps o.dirty write a) (here : R.is_word s.h (node_of s.u) s.g s.i s.u a ≡ true) where
    page_is : page_of s.u a ≡ s.g
    page_is = eqb-true (page_of s.u a) s.g (both here).0

    word_is : a % s.u.lay.words ≡ s.i
    word_is = eqb-true (a % s.u.lay.words) s.i (both here).1

    item_is : address_item s.u a ≡ Frame (node_of s.u) s.g s.i
    item_is = λ z. Frame (node_of s.u) (page_is z) (word_is z)

    -- its mapping allows it
    allowed : allows write (word s.u.lay s.ws (Map s.u.p s.g)) ≡ true
    allowed = ap (allows write) (f.own ∙ ap (slice_index o.maps) (sym page_is)) ∙ e (let k = f.here.maps_in in let l = s.g_in in let p = page_is in omega (arith, k, l, p))

    mapped : may_load (word s.u.lay s.ws (Map s.u.p s.g)) ≡ true
    mapped = allowed_load write (word s.u.lay s.ws (Map s.u.p s.g)) allowed

    apart : IsApart s.x (place_of s.h (node_of s.u))
    apart = access_apart s mapped

    fetched : Away (place_of s.h (node_of s.u)) (λ k. (s.x.nodes k).fetched ≡ true)
    fetched = at_place (λ k. (s.x.nodes k).fetched ≡ true) (λ ne. fetched_here s (s.at.node_in, ne) mapped)

    got_told : Away (place_of s.h (node_of s.u)) (λ k. (m : ℕ) → m ≢ suc k → s.c.known s.u.p m ≤ s.c.got k m)
    got_told = at_place (λ k. (m : ℕ) → m ≢ suc k → s.c.known s.u.p m ≤ s.c.got k m) (λ ne. sends_got s (s.at.node_in, ne) mapped {w = Off (Access faulted write a)} {o = o} f.here (λ d. absurd (cc d)) (λ m. refl))

    got_broken : Away (place_of s.h (node_of s.u)) (λ k. (m : ℕ) → m ≢ suc k → s.c.broken m ≤ s.c.got k m)
    got_broken = at_place (λ k. (m : ℕ) → m ≢ suc k → s.c.broken m ≤ s.c.got k m) (λ ne. breaks_got s (s.at.node_in, ne) mapped)

    -- a load is asked this
    load_asks : (v : ℕ) → v ≡ read s.x (place_of s.h (node_of s.u)) → (r : Premise) → Asked r → AsksOf (place s) r s.x s.c s.d (W.Load s.u.p v)
    load_asks v value Values i = value
    load_asks v value Order i = absurd (i.1 refl)
    load_asks v value Apart i = apart
    load_asks v value Fetched i = fetched
    load_asks v value Told i = got_told
    load_asks v value Broken i = got_broken
    load_asks v value r i = tt

    -- and a store this
    store_asks : (v : ℕ) → Away (place_of s.h (node_of s.u)) (λ k. may_store (s.x.nodes k).mode ≡ true) → (r : Premise) → Asked r → AsksOf (place s) r s.x s.c s.d (W.Store s.u.p v)
    store_asks v may Order i = absurd (i.1 refl)
    store_asks v may Apart i = apart
    store_asks v may Fetched i = fetched
    store_asks v may Told i = got_told
    store_asks v may Broken i = got_broken
    store_asks v may Rights i = may
    store_asks v may r i = tt

  -- who may store away from the home has its node exclusive or a twin up
  rights : word s.u.lay s.ws (Map s.u.p s.g) ≡ 2 → Away (place_of s.h (node_of s.u)) (λ k. may_store (s.x.nodes k).mode ≡ true)
  rights w = at_place (λ k. may_store (s.x.nodes k).mode ≡ true) (λ ne. (s.match.words.each (node_of s.u) (s.at.node_in, ne)).rights (go ((s.holds.fits (node_of s.u) s.u.p).writer refl (not_home ne s.home) (sym (s.owned.map s.u.p s.at.p_in) ∙ w))))
    where
      not_home : node_of s.u ≢ s.h → (s.b.home ≡ 0) ⊎ (s.b.home ≡ suc s.h) → s.b.home ≢ suc (node_of s.u)
      not_home ne (inl z) e = absurd (cc (sym z ∙ e))
      not_home ne (inr z) e = let x = sym z ∙ e in ne (omega (arith, x))

      go : ((s.b.nodes (node_of s.u)).dir ≡ 2) ⊎ ((s.b.nodes (node_of s.u)).twined ≡ true) → (word s.u.lay s.ws (Twined (node_of s.u) s.g) ≡ 1) ⊎ (word s.u.lay s.ws (Dir (node_of s.u) s.g) ≡ 2)
      go (inl d) = inr (s.owned.dir (node_of s.u) s.at.node_in ∙ d)
      go (inr d) = inl (s.owned.twined (node_of s.u) s.at.node_in ∙ ap bit d)

  module _ (a : Act) (within : IsWithin s.u.lay (item_of a)) (v : ℕ) (is : item_of a ≡ Frame (node_of s.u) s.g s.i) (new : word s.u.lay (done s.u.lay s.ws a) (item_of a) ≡ v) where
    other : (it : Item) → it ≢ Frame (node_of s.u) s.g s.i → it ≢ item_of a
    other it ne e = ne (e ∙ is)

    stored : word s.u.lay (done s.u.lay s.ws a) (Frame (node_of s.u) s.g s.i) ≡ v
    stored = ap (word s.u.lay (done s.u.lay s.ws a)) (sym is) ∙ new

    home_left : (word s.u.lay (done s.u.lay s.ws a) (Dir s.h s.g) == 2) ≡ s.x.home_exclusive
    home_left = ap (λ z. z == 2) (stays s a within (Dir s.h s.g) (s.h_in, s.g_in) (other (Dir s.h s.g) (λ e. absurd (cc e)))) ∙ s.match.words.home_is

    -- a copy elsewhere
    out_copy : (k : ℕ) → IsAway s.h s.u k → k ≢ node_of s.u → Copy s.h s.g s.i s.u (done s.u.lay s.ws a) k (out_node (s.x.nodes k))
    out_copy k away ne =
        let c = copy_off s a within k away (s.x.nodes k) (λ i. ne (sym (subst (IsOf s k) is i).0)) (s.match.words.each k away) in
        record { frame_is = c.frame_is; twin_is = c.twin_is; fetched_is = c.fetched_is; rest_is = λ z. outdated_plain (s.x.nodes k).mode ∙ c.rest_is z; rights = λ z. may_out (s.x.nodes k).mode ∙ c.rights z }

    -- and the own one
    own_copy : IsAway s.h s.u (node_of s.u) → Copy s.h s.g s.i s.u (done s.u.lay s.ws a) (node_of s.u) (touch_node v (s.x.nodes (node_of s.u)))
    own_copy away =
        let j : ℕ = node_of s.u in
        let c = s.match.words.each j away in
        let up = stays s a within (Update j s.g) (away.0, s.g_in) (other (Update j s.g) (λ e. absurd (cc e))) in
        let tu = stays s a within (Turn j s.g) (away.0, s.g_in) (other (Turn j s.g) (λ e. absurd (cc e))) in
        let di = stays s a within (Dir j s.g) (away.0, s.g_in) (other (Dir j s.g) (λ e. absurd (cc e))) in
        let tw = stays s a within (Twined j s.g) (away.0, s.g_in) (other (Twined j s.g) (λ e. absurd (cc e))) in
        record {
          frame_is = stored;
          twin_is = stays s a within (Twin j s.g s.i) (away.0, s.g_in, s.i_in) (other (Twin j s.g s.i) (λ e. absurd (cc e))) ∙ c.twin_is;
          fetched_is = λ ne. c.fetched_is (λ z. ne (up ∙ z));
          rest_is = λ z. touched_plain (s.x.nodes j).mode ∙ c.rest_is (sym tu ∙ z) ∙ sym (rest_stays s a within j di tw);
          rights = λ z. may_touched (s.x.nodes j).mode ∙ c.rights (either (sym tw) (sym di) z);
        }
      where
        either : {p p' q q' : ℕ} → p ≡ p' → q ≡ q' → (p' ≡ 1) ⊎ (q' ≡ 2) → (p ≡ 1) ⊎ (q ≡ 2)
        either e f (inl z) = inl (e ∙ z)
        either e f (inr z) = inr (f ∙ z)

    -- no copy is at the home, and none past the nodes
    bare : (k : ℕ) → (k ≡ s.h) ⊎ (s.u.lay.nodes ≤ k) → (out_node (s.x.nodes k)).mode ≡ Bare
    bare k out = ap outdated (s.match.words.none k out)

    -- the words behind a store at the home
    home_words : node_of s.u ≡ s.h → Words s.h s.g s.i s.u (done s.u.lay s.ws a) (store_at s.x s.u.p None v)
    home_words d = record { master_is = ap (λ z. word s.u.lay (done s.u.lay s.ws a) (Frame z s.g s.i)) (sym d) ∙ stored; home_is = home_left; each = λ k away. out_copy k away (λ e. away.1 (e ∙ d)); none = bare }

    -- and behind one elsewhere
    away_words : node_of s.u ≢ s.h → Words s.h s.g s.i s.u (done s.u.lay s.ws a) (store_at s.x s.u.p (Some (node_of s.u)) v)
    away_words ne = record {
      master_is = stays s a within (Frame s.h s.g s.i) (s.h_in, s.g_in, s.i_in) (other (Frame s.h s.g s.i) (λ e. ne (sym (frame_node e)))) ∙ s.match.words.master_is;
      home_is = home_left;
      each = λ k away. each k away (cases_eq k (node_of s.u));
      none = λ k out. ap (λ (z : W.Node). z.mode) (put_other outs (node_of s.u) mine k (λ e. off k out e)) ∙ bare k out;
    }
      where
        outs : ℕ → W.Node
        outs k = out_node (s.x.nodes k)

        mine : W.Node
        mine = touch_node v (s.x.nodes (node_of s.u))

        frame_node : {j k : ℕ} → Frame j s.g s.i ≡ Frame k s.g s.i → j ≡ k
        frame_node e = cc e

        off : (k : ℕ) → (k ≡ s.h) ⊎ (s.u.lay.nodes ≤ k) → k ≡ node_of s.u → ⊥
        off k (inl d) e = ne (sym e ∙ d)
        off k (inr l) e = let i = s.at.node_in in absurd (omega (arith, l, e, i))

        each : (k : ℕ) → IsAway s.h s.u k → (k ≡ node_of s.u) ⊎ (k ≢ node_of s.u) → Copy s.h s.g s.i s.u (done s.u.lay s.ws a) k (put outs (node_of s.u) mine k)
        each k away (inl d) = subst (λ z. Copy s.h s.g s.i s.u (done s.u.lay s.ws a) z (put outs (node_of s.u) mine z)) (sym d) (subst (Copy s.h s.g s.i s.u (done s.u.lay s.ws a) (node_of s.u)) (sym (put_same outs (node_of s.u) mine)) (own_copy (subst (IsAway s.h s.u) d away)))
        each k away (inr ne') = subst (Copy s.h s.g s.i s.u (done s.u.lay s.ws a) k) (sym (put_other outs (node_of s.u) mine k ne')) (out_copy k away ne')

    store_words : Words s.h s.g s.i s.u (done s.u.lay s.ws a) (W.after_event (place s) s.x (W.Store s.u.p v))
    store_words = go (cases_eq (node_of s.u) s.h)
      where
        go : (node_of s.u ≡ s.h) ⊎ (node_of s.u ≢ s.h) → Words s.h s.g s.i s.u (done s.u.lay s.ws a) (store_at s.x s.u.p (place_of s.h (node_of s.u)) v)
        go (inl d) = subst (λ z. Words s.h s.g s.i s.u (done s.u.lay s.ws a) (store_at s.x s.u.p z v)) (sym (place_home s.h (node_of s.u) d)) (home_words d)
        go (inr ne) = subst (λ z. Words s.h s.g s.i s.u (done s.u.lay s.ws a) (store_at s.x s.u.p z v)) (sym (place_away s.h (node_of s.u) ne)) (away_words ne)

  -- an event of the copies alone, where its condition is so
  pick_other : {v : Work} {ws' : List ℕ} {es : (m n : ℕ) → List S.Event} (e : W.Event) (d : Bool) → (d ≡ true → Acted s v ws' es (Other e ∷ [])) → (d ≡ false → Acted s v ws' es []) → Acted s v ws' es (map Other (only d e) ++ [])
  pick_other e true y z = y refl
  pick_other e false y z = z refl

  module _ (o : Own) where
    -- a load of an address: of the word, or of another one
    pub row_loads : {faulted : Bool} {a x : ℕ} (e : Allowed s.u o.maps o.dirty false a) → RowActs s o (loads {faulted = faulted} {a = a} {x = x} e)
    row_loads {faulted} {a} {x} e f = pick_other (W.Load s.u.p x) (R.is_word s.h (node_of s.u) s.g s.i s.u a) yes' (λ d. by_none s {es = es} [] tt words (off_knows s ws' (fresh_left s es) s.pages s.x s.c (Loaded a x)))
      where
        es : (m n : ℕ) → List S.Event
        es m n = []

        ws' : List ℕ
        ws' = done s.u.lay s.ws (Get (address_item s.u a))

        words : Match s.h s.g s.i s.u ws' (fresh_left s es) s.x s.c
        words = record { words = words_stay s (Get (address_item s.u a)) f.within (part_stays s (Get (address_item s.u a)) f.within (λ _. refl)); counted = numbers_stay s es (λ m n. tt) }

        yes' : R.is_word s.h (node_of s.u) s.g s.i s.u a ≡ true → Acted s (Off (Loaded a x)) ws' es (Other (W.Load s.u.p x) ∷ [])
        yes' d = by_events s {es = es} (Other (W.Load s.u.p x) ∷ []) (W.Load s.u.p x ∷ []) refl (tt, tt) (load_asks {faulted = faulted} {write = false} {a = a} f e d x (f.told ∙ ap (word s.u.lay s.ws) (item_is {faulted = faulted} {write = false} {a = a} f e d) ∙ frame_read), tt) words (off_knows s ws' (fresh_left s es) s.pages s.x s.c (Loaded a x))

    -- a store
    pub row_stores : {faulted : Bool} {a v x : ℕ} (e : Allowed s.u o.maps o.dirty true a) → RowActs s o (stores {faulted = faulted} {a = a} {v = v} {x = x} e)
    row_stores {faulted} {a} {v} {x} e f = pick_move s (place_of s.h (node_of s.u)) v (P.Store s.u.p) (node_of s.u == node_of s.u && R.is_word s.h (node_of s.u) s.g s.i s.u a) (λ d. yes' (both d).1) (λ d. by_none s {es = es} [] tt (none' d) (off_knows s ws' (fresh_left s es) s.pages s.x s.c (Stored a v)))
      where
        es : (m n : ℕ) → List S.Event
        es m n = []

        act : Act
        act = Put (address_item s.u a) v

        ws' : List ℕ
        ws' = done s.u.lay s.ws (Put (address_item s.u a) v)

        none' : (node_of s.u == node_of s.u && R.is_word s.h (node_of s.u) s.g s.i s.u a) ≡ false → Match s.h s.g s.i s.u ws' (fresh_left s es) s.x s.c
        none' d = record {
          words = words_stay s act f.within (part_stays s act f.within (λ i. absurd (cc (sym d ∙ and_true (eq-eqb (node_of s.u) (node_of s.u) refl) (and_true (eq-eqb (page_of s.u a) s.g i.0) (eq-eqb (a % s.u.lay.words) s.i i.1))))));
          counted = numbers_stay s es (λ m n. tt);
        }

        yes' : R.is_word s.h (node_of s.u) s.g s.i s.u a ≡ true → Acted s (Off (Stored a v)) ws' es (At (place_of s.h (node_of s.u)) v (P.Store s.u.p) ∷ [])
        yes' d =
            let k : Option ℕ = place_of s.h (node_of s.u) in
            let ms : List Move = At k v (P.Store s.u.p) ∷ [] in
            let is : address_item s.u a ≡ Frame (node_of s.u) s.g s.i = item_is {faulted = faulted} {write = true} {a = a} f e d in
            by_events s {es = es} ms (W.Store s.u.p v ∷ []) (ap (λ (q : Option W.Event). onto q []) (store_event k (s.pages k).page.work v s.u.p)) (store_agrees (place s) k s.x s.u.p refl, tt)
            (store_asks {faulted = faulted} {write = true} {a = a} f e d v (rights (eqb-true (word s.u.lay s.ws (Map s.u.p s.g)) 2 (allowed {faulted = faulted} {write = true} {a = a} f e d))), tt)
            (record { words = store_words act f.within v is (becomes s act f.within); counted = numbers_stay s es (λ m n. tt) })
            (off_knows s ws' (fresh_left s es) (pages_left s ms) (W.after_event (place s) s.x (W.Store s.u.p v)) s.c (Stored a v))
