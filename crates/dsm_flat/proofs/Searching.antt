-- A search from a place along the edges.
use Rattle.std.proofs.Common.{◌≡◌, ◌≢◌, ℕ, zero, suc, ◌+◌, ◌-◌, ◌<◌, ◌≤◌, ◌⊎◌, List, [], ◌∷◌, Option, Some, None, length, refl, sym, ap, ◌∙◌, subst, inl, inr, arith, get_or}
use Rattle.std.specs.Prelude.{slice_get, slice_index, slice_set, map, Vec}
use Rattle.std.specs.declared.alloc.Global.{Global}
use Rattle.std.proofs.lemmas.Bool.{cases_eq, cases_order, cases_lt}
use Rattle.std.proofs.lemmas.List.{length-set, length-map}
use Rattle.std.proofs.lemmas.Option.{slice_get_within, slice_get-map, slice_get_read, slice_get-get_or}
use Rattle.dsm_entry.specs.declared.entry.Obj.{Obj}
use Rattle.dsm_entry.specs.declared.entry.Entry.{Entry}
use Rattle.dsm_entry.specs.declared.entry.Entry.TheVariants.{Load, Store, Signal, Pass, Out}
use Rattle.dsm_entry.specs.declared.entry.Place.{Place}
use Rattle.dsm_entry.specs.Told.{Told}
use Rattle.dsm_flat.specs.Order.{Traces, found_in, entry_at, Holds, Edge, Next, Sync, Before, One, Then}
use Rattle.dsm_entry.specs.Told.{list_of, lists_of}
use Rattle.dsm_flat.specs.Links.{WaitsFor, IsPass, AreFirstPasses, LeadsTo, AreTraceLinks, AreLinks}
use Rattle.dsm_flat.specs.Rows.{Covers, IsLowered, IsAt, IsReach}
use Rattle.dsm_flat.proofs.OrderLaws.{transitive, same_place, Within, within, own_before}
use Rattle.dsm_flat.proofs.Rows.{index_set, lowered_le, lowered_within, lowered_is}

-- the entries of a trace by places
pub holds_in : (ts : Traces) (p i : ℕ) (t : List Entry) (e : Entry) → slice_get ts p ≡ Some t → slice_get t i ≡ Some e → Holds ts (record { p = p; i = i }) e
holds_in ts p i t e at h = ap (λ o. found_in o i) at ∙ h

-- a trace of the code as a list of entries
pub trace_at : (told : List Told) (p : ℕ) (r : Told) → p < length told → r ≡ get_or told p r → slice_get (lists_of told) p ≡ Some r.list
trace_at told p r lt is =
    let g : slice_get told p ≡ Some r = slice_get_read told (length told) p r refl lt is in
    slice_get-map list_of told p ∙ rw g refl

-- there is an entry where an access is
pub entry_of : (ts : Traces) (x : Place) → IsAt ts x → (e : Entry) × Holds ts x e
entry_of ts x (w, (v, inl h)) = (Load w v, h)
entry_of ts x (w, (v, inr h)) = (Store w v, h)

-- an entry leads to first passes as a signal, or leads to none
pub leads : (ts : Traces) (e : Option Entry) (row : List ℕ) → LeadsTo ts e row → ((o : Obj) × (j : ℕ) × (e ≡ Some (Signal o j)) × AreFirstPasses ts o j row) ⊎ (row ≡ [])
leads ts (Some (Signal o j)) row h = inl (o, j, refl, h)
leads ts (Some (Load w v)) row h = inr h
leads ts (Some (Store w v)) row h = inr h
leads ts (Some (Pass o c)) row h = inr h
leads ts (Some (Out v)) row h = inr h
leads ts None row h = inr h

pub leads_len : (ts : Traces) (e : Option Entry) (row : List ℕ) → LeadsTo ts e row → length row ≤ length ts
leads_len ts e row h = go (leads ts e row h)
  where
    go : ((o : Obj) × (j : ℕ) × (e ≡ Some (Signal o j)) × AreFirstPasses ts o j row) ⊎ (row ≡ []) → length row ≤ length ts
    go (inl f) = let l = f.3.len in omega (arith, l)
    go (inr f) = let l : length row ≡ 0 = ap length f in omega (arith, l)

-- the links of a trace, as the code reads them
pub links_at : (ts : Traces) (links : List (Vec (List ℕ) Global)) (p : ℕ) (rows : Vec (List ℕ) Global) → AreLinks ts links → p < length ts → rows ≡ get_or links p rows
    → (t : List Entry) × (slice_get ts p ≡ Some t) × AreTraceLinks ts t rows.items
links_at ts links p rows h lt is =
    let at = slice_get-get_or ts p [] lt in
    (get_or ts p [], at, h.each p rows (get_or ts p []) (slice_get_read links (length links) p rows refl (omega (arith, lt, h.len)) is) at)

-- what an entry leads to, as the code reads it
pub link_at : (ts : Traces) (p i : ℕ) (t : List Entry) (rows : List (List ℕ)) (row : List ℕ) → slice_get ts p ≡ Some t → AreTraceLinks ts t rows → i < length rows → row ≡ get_or rows i row
    → LeadsTo ts (entry_at ts (record { p = p; i = i })) row
link_at ts p i t rows row at h lt is =
    let leads = h.each i row (slice_get_read rows (length rows) i row refl lt is) in
    subst (λ e. LeadsTo ts e row) (sym (ap (λ o. found_in o i) at)) leads

-- there is an entry, which is a pass
waiting_entry : (o : Obj) (j : ℕ) (e : Option Entry) → IsPass o j e → (c : Entry) × (e ≡ Some c) × WaitsFor o j c
waiting_entry o j None h = absurd h
waiting_entry o j (Some c) h = (c, refl, h)

-- no pass stands before the first one
first_covers : (ts : Traces) (o : Obj) (j : ℕ) (row : List ℕ) → AreFirstPasses ts o j row → (b : Place) (c : Entry) → Holds ts b c → WaitsFor o j c → (b.p < length row) × Covers row b
first_covers ts o j row h b c at f = (room, go (cases_lt b.i (slice_index row b.p)))
  where
    room : b.p < length row
    room = let w = within ts b c at in let l = slice_get_within ts b.p w.trace w.at in let k = h.len in omega (arith, l, k)

    go : (b.i < slice_index row b.p) ⊎ (slice_index row b.p ≤ b.i) → Covers row b
    go (inr le) = le
    go (inl lt) =
        let w = within ts b c at in
        let first = h.each b.p (slice_index row b.p) w.trace (slice_get-get_or row b.p 0 room) w.at in
        absurd (first.first b.i lt (subst (λ z. IsPass o j z) (sym w.entry) f))

-- what a first pass covers is behind it
first_sound : (ts : Traces) (o : Obj) (j : ℕ) (row : List ℕ) → AreFirstPasses ts o j row → (y : Place) (e : Entry) → Holds ts y e → y.p < length row → Covers row y
    → (c : Entry) × Holds ts (record { p = y.p; i = slice_index row y.p }) c × WaitsFor o j c
first_sound ts o j row h y e at room cover = go (h.each y.p (slice_index row y.p) w.trace (slice_get-get_or row y.p 0 room) w.at).found
  where
    w : Within ts y e
    w = within ts y e at

    go : (slice_index row y.p ≡ length w.trace) ⊎ IsPass o j (slice_get w.trace (slice_index row y.p)) → (c : Entry) × Holds ts (record { p = y.p; i = slice_index row y.p }) c × WaitsFor o j c
    go (inl end) = absurd (omega (arith, end, cover, w.inside))
    go (inr pass) =
        let c = waiting_entry o j (slice_get w.trace (slice_index row y.p)) pass in
        (c.0, holds_in ts y.p (slice_index row y.p) w.trace c.0 w.at c.1, c.2)

-- what is reached, and what of it was looked at
pub record Searching (ts : Traces) (x : Place) (reached scanned : List ℕ) : Type 0 where
  pub len : length reached ≡ length ts
  pub same_len : length scanned ≡ length ts
  pub fits : (q : ℕ) (t : List Entry) → slice_get ts q ≡ Some t → slice_index scanned q ≤ length t
  pub le : (q : ℕ) → q < length ts → slice_index reached q ≤ slice_index scanned q
  pub sound : (y : Place) (e : Entry) → Holds ts y e → Covers reached y → Before ts x y
  pub own : slice_index reached x.p ≤ x.i + 1
  pub closed : (a b : Place) (o : Obj) (j : ℕ) (c : Entry) → Holds ts a (Signal o j) → Covers scanned a → Holds ts b c → WaitsFor o j c → Covers reached b

module _ (ts : Traces) (x : Place) (reached scanned : List ℕ) (g : Searching ts x reached scanned) where
  -- one entry more is looked at
  module _ (p : ℕ) (lt : p < length ts) (less : slice_index reached p < slice_index scanned p) (row new : List ℕ) (to : LeadsTo ts (entry_at ts (record { p = p; i = slice_index scanned p - 1 })) row) (f : IsLowered reached row new) where
    abbrev at : Place
    at = record { p = p; i = slice_index scanned p - 1 }

    abbrev next : List ℕ
    next = slice_set scanned p (slice_index scanned p - 1)

    lower : (q : ℕ) → slice_index new q ≤ slice_index reached q
    lower q = lowered_le (length row) reached row new f q

    next_is : (q : ℕ) → ((p ≡ q) × (slice_index next q ≡ slice_index scanned p - 1)) ⊎ ((p ≢ q) × (slice_index next q ≡ slice_index scanned q))
    next_is q = index_set scanned p q (slice_index scanned p - 1) (omega (arith, lt, g.same_len))

    pub searching_step : Searching ts x new next
    searching_step =
        record {
          len = omega (arith, f.len, g.len);
          same_len = length-set scanned p (slice_index scanned p - 1) ∙ g.same_len;
          fits = λ q t h. fits q t h (next_is q);
          le = λ q b. le q b (next_is q);
          sound = λ y e h r. sound y e h r (lowered_is (length row) reached row new f y.p);
          own = omega (arith, lower x.p, g.own);
          closed = λ a b o j c h s k w. closed a b o j c h s k w (next_is a.p);
        }
      where
        fits : (q : ℕ) (t : List Entry) → slice_get ts q ≡ Some t → ((p ≡ q) × (slice_index next q ≡ slice_index scanned p - 1)) ⊎ ((p ≢ q) × (slice_index next q ≡ slice_index scanned q)) → slice_index next q ≤ length t
        fits q t h (inl e) =
            let s : slice_index scanned p ≡ slice_index scanned q = ap (λ z. slice_index scanned z) e.0 in
            omega (arith, e.1, s, g.fits q t h)
        fits q t h (inr d) = omega (arith, d.1, g.fits q t h)

        le : (q : ℕ) → q < length ts → ((p ≡ q) × (slice_index next q ≡ slice_index scanned p - 1)) ⊎ ((p ≢ q) × (slice_index next q ≡ slice_index scanned q)) → slice_index new q ≤ slice_index next q
        le q b (inl e) =
            let s : slice_index reached p ≡ slice_index reached q = ap (λ z. slice_index reached z) e.0 in
            omega (arith, e.1, s, less, lower q)
        le q b (inr d) = omega (arith, d.1, lower q, g.le q b)

        sound : (y : Place) (e : Entry) → Holds ts y e → Covers new y → (slice_index new y.p ≡ slice_index reached y.p) ⊎ ((y.p < length row) × (slice_index new y.p ≡ slice_index row y.p)) → Before ts x y
        sound y e h r (inl s) = g.sound y e h (omega (arith, s, r))
        sound y e h r (inr n) = go (leads ts (entry_at ts at) row to)
          where
            go : ((o : Obj) × (j : ℕ) × (entry_at ts at ≡ Some (Signal o j)) × AreFirstPasses ts o j row) ⊎ (row ≡ []) → Before ts x y
            go (inr none) = let l : length row ≡ 0 = ap length none in absurd (omega (arith, n.0, l))
            go (inl s) = pick (cases_order (slice_index row y.p) y.i)
              where
                cover : Covers row y
                cover = omega (arith, r, n.1)

                pass : (c : Entry) × Holds ts (record { p = y.p; i = slice_index row y.p }) c × WaitsFor s.0 s.1 c
                pass = first_sound ts s.0 s.1 row s.3 y e h n.0 cover

                first : Place
                first = record { p = y.p; i = slice_index row y.p }

                before : Before ts x first
                before =
                    transitive ts x at first (g.sound at (Signal s.0 s.1) s.2 (omega (arith, less)))
                    (One (Sync s.0 s.1 pass.2.0 pass.0 s.2 pass.1 pass.2.1 pass.2.2))

                pick : (slice_index row y.p ≡ y.i) ⊎ ((slice_index row y.p < y.i) ⊎ (y.i < slice_index row y.p)) → Before ts x y
                pick (inl i) = subst (λ z. Before ts x z) (same_place first y refl i) before
                pick (inr (inl l)) = transitive ts x first y before (own_before ts first y (record { same = refl; earlier = l; there = (e, h) }))
                pick (inr (inr l)) = absurd (omega (arith, l, cover))

        closed : (a b : Place) (o : Obj) (j : ℕ) (c : Entry) → Holds ts a (Signal o j) → Covers next a → Holds ts b c → WaitsFor o j c → ((p ≡ a.p) × (slice_index next a.p ≡ slice_index scanned p - 1)) ⊎ ((p ≢ a.p) × (slice_index next a.p ≡ slice_index scanned a.p)) → Covers new b
        closed a b o j c h s k w (inr d) = omega (arith, lower b.p, g.closed a b o j c h (omega (arith, d.1, s)) k w)
        closed a b o j c h s k w (inl e) = pick (cases_eq (slice_index scanned p - 1) a.i)
          where
            pick : (slice_index scanned p - 1 ≡ a.i) ⊎ (slice_index scanned p - 1 ≡ a.i → ⊥) → Covers new b
            pick (inl i) =
                let is : entry_at ts at ≡ Some (Signal o j) = ap (λ z. entry_at ts z) (same_place at a e.0 i) ∙ h in
                let first : AreFirstPasses ts o j row = subst (λ z. LeadsTo ts z row) is to in
                let covers = first_covers ts o j row first b c k w in
                omega (arith, covers.1, lowered_within (length row) reached row new f b.p covers.0)
            pick (inr d) =
                let t : slice_index scanned p ≡ slice_index scanned a.p = ap (λ z. slice_index scanned z) e.0 in
                omega (arith, lower b.p, g.closed a b o j c h (omega (arith, e.1, s, d, t)) k w)

  -- what is reached at the end
  module _ (done : (q : ℕ) → q < length scanned → slice_index scanned q ≤ slice_index reached q) (access : IsAt ts x) where
    edge : (a b : Place) → Edge ts a b → (a ≡ x) ⊎ Covers reached a → Covers reached b
    edge a b (Next e f h k p i) (inl s) =
        let q : slice_index reached b.p ≡ slice_index reached x.p = ap (λ z. slice_index reached z) (p ∙ ap (λ z. z.p) s) in
        let r : a.i ≡ x.i = ap (λ z. z.i) s in
        omega (arith, q, r, i, g.own)
    edge a b (Next e f h k p i) (inr r) =
        let q : slice_index reached b.p ≡ slice_index reached a.p = ap (λ z. slice_index reached z) p in
        omega (arith, q, r, i)
    edge a b (Sync o j n c h k wt lt) (inl s) = absurd (not_signal access.1.1)
      where
        at : Holds ts x (Signal o j)
        at = subst (λ z. Holds ts z (Signal o j)) s h

        not_signal : Holds ts x (Load access.0 access.1.0) ⊎ Holds ts x (Store access.0 access.1.0) → ⊥
        not_signal (inl l) = absurd (let y = at in cc (y, l))
        not_signal (inr l) = absurd (let y = at in cc (y, l))
    edge a b (Sync o j n c h k wt lt) (inr r) =
        let w = within ts a (Signal o j) h in
        let l = slice_get_within ts a.p w.trace w.at in
        g.closed a b o j c h (omega (arith, r, done a.p (omega (arith, l, g.same_len)))) k (n, wt, lt)

    chain : (a y : Place) → Before ts a y → (a ≡ x) ⊎ Covers reached a → Covers reached y
    chain a y (One e) s = edge a y e s
    chain a y (Then {z = z} e f) s = chain z y f (inr (edge a z e s))

    pub reach_is : IsReach ts x reached
    reach_is = record { len = g.len; after = λ y e h. (g.sound y e h, λ b. chain x y b (inl refl)) }

-- the lengths of the traces
pub length_at : (told : List Told) (q : ℕ) (t : List Entry) → slice_get (lists_of told) q ≡ Some t → slice_index (map (λ s. length s.list) told) q ≡ length t
length_at [] q t h = absurd (cc h)
length_at (s ∷ ss) zero t h = let e : s.list ≡ t = cc h in ap length e
length_at (s ∷ ss) (suc q) t h = length_at ss q t h

module _ (told : List Told) (x : Place) (r s : List ℕ) (access : IsAt (lists_of told) x) (er : r ≡ map (λ t. length t.list) told) (es : s ≡ map (λ t. length t.list) told) where
  -- a place is below the length of its trace
  past : (v : List ℕ) → v ≡ map (λ t. length t.list) told → (y : Place) (e : Entry) → Holds (lists_of told) y e → Covers v y → ⊥
  past v is y e h le =
      let w = within (lists_of told) y e h in
      let n = length_at told y.p w.trace w.at in
      let k : slice_index v y.p ≡ slice_index (map (λ t. length t.list) told) y.p = ap (λ z. slice_index z y.p) is in
      absurd (omega (arith, n, k, le, w.inside))

  pub own_room : x.p < length r
  own_room =
      let e = entry_of (lists_of told) x access in
      let w = within (lists_of told) x e.0 e.1 in
      let l = slice_get_within (lists_of told) x.p w.trace w.at in
      omega (arith, l, ap length er, length-map {B = ℕ} told (λ t. length t.list), length-map told list_of)

  pub searching_start : Searching (lists_of told) x (slice_set r x.p (x.i + 1)) s
  searching_start =
      record {
        len = length-set r x.p (x.i + 1) ∙ (ap length er ∙ (length-map {B = ℕ} told (λ t. length t.list) ∙ sym (length-map told list_of)));
        same_len = ap length es ∙ (length-map {B = ℕ} told (λ t. length t.list) ∙ sym (length-map told list_of));
        fits = λ q t h.
            let n = length_at told q t h in
            let k : slice_index s q ≡ slice_index (map (λ t. length t.list) told) q = ap (λ z. slice_index z q) es in
            omega (arith, n, k);
        le = λ q b. le q (index_set r x.p q (x.i + 1) own_room);
        sound = λ y e h c. sound y e h c (index_set r x.p y.p (x.i + 1) own_room);
        own = own (index_set r x.p x.p (x.i + 1) own_room);
        closed = λ a b o j c h k f lt. absurd (past s es a (Signal o j) h k);
      }
    where
      le : (q : ℕ) → ((x.p ≡ q) × (slice_index (slice_set r x.p (x.i + 1)) q ≡ x.i + 1)) ⊎ ((x.p ≢ q) × (slice_index (slice_set r x.p (x.i + 1)) q ≡ slice_index r q)) → slice_index (slice_set r x.p (x.i + 1)) q ≤ slice_index s q
      le q (inl e) = pick (cases_lt x.i (slice_index s q))
        where
          pick : (x.i < slice_index s q) ⊎ (slice_index s q ≤ x.i) → slice_index (slice_set r x.p (x.i + 1)) q ≤ slice_index s q
          pick (inl lt) = omega (arith, e.1, lt)
          pick (inr ge) =
              let f = entry_of (lists_of told) x access in
              absurd (past s es x f.0 f.1 (subst (λ z. slice_index s z ≤ x.i) (sym e.0) ge))
      le q (inr d) =
          let k : slice_index r q ≡ slice_index s q = ap (λ z. slice_index z q) (er ∙ sym es) in
          omega (arith, d.1, k)

      sound : (y : Place) (e : Entry) → Holds (lists_of told) y e → Covers (slice_set r x.p (x.i + 1)) y → ((x.p ≡ y.p) × (slice_index (slice_set r x.p (x.i + 1)) y.p ≡ x.i + 1)) ⊎ ((x.p ≢ y.p) × (slice_index (slice_set r x.p (x.i + 1)) y.p ≡ slice_index r y.p)) → Before (lists_of told) x y
      sound y e h c (inl k) = own_before (lists_of told) x y (record { same = k.0; earlier = omega (arith, k.1, c); there = (e, h) })
      sound y e h c (inr d) = absurd (past r er y e h (omega (arith, d.1, c)))

      own : ((x.p ≡ x.p) × (slice_index (slice_set r x.p (x.i + 1)) x.p ≡ x.i + 1)) ⊎ ((x.p ≢ x.p) × (slice_index (slice_set r x.p (x.i + 1)) x.p ≡ slice_index r x.p)) → slice_index (slice_set r x.p (x.i + 1)) x.p ≤ x.i + 1
      own (inl e) = omega (arith, e.1)
      own (inr d) = absurd (d.0 refl)
