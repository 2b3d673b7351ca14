-- Rows of a fault: the home, the registration, the sharers, the wanted mapping.
use Rattle.std.proofs.Common.{◌≡◌, ◌≢◌, ℕ, suc, ◌+◌, ◌-◌, ◌*◌, ◌/◌, ◌%◌, ◌<◌, ◌≤◌, ◌==◌, Bool, true, false, List, [], ◌∷◌, length, refl, sym, ap, ◌∙◌, subst, arith, mod-eq_of_lt, if◌then◌else◌}
use Rattle.std.specs.Prelude.{not, ◌||◌, bit_or, ◌^◌, slice_index}
use Rattle.std.proofs.lemmas.Bool.{eq-eqb, eqb-true, eqb-false}
use Rattle.dsm_words.specs.declared.item.Item.{Item}
use Rattle.dsm_words.specs.declared.item.Item.TheVariants.{Home}
use Rattle.dsm_words.specs.Place.{IsWithin, total}
use Rattle.dsm_words.specs.Script.{Act, Change, item_of}
use Rattle.dsm_words.specs.Words.{word, done}
use Rattle.dsm_words.proofs.WordLaws.{word_same, word_other, length-done}
use Rattle.dsm_directory.specs.declared.row.Row.{Row}
use Rattle.dsm_directory.specs.Directory.{is_busy}
use Rattle.dsm_protocol.specs.Own.{Own, Who, node_of}
use Rattle.dsm_protocol.specs.Stages.{Seeker, Round, For_fault, For_release, For_closing, Closing, Seeking, Missing, Clearing, Sharing, Checking, Breaking, Setting, Work, On, registered}
use Rattle.dsm_protocol.specs.Rows.{Step, sees_dir, seeks, settles, clears, registers, shares, wants, parts}
use Rattle.dsm_protocol.proofs.Placed.{IsPlaced, group_in}
use Rattle.dsm_owners.specs.Stages as O
use Rattle.dsm_owners.specs.Acts as A
use Rattle.dsm_owners.specs.Directory.{Node, Processor as Reader, State, Event, Do, Touch}
use Rattle.dsm_owners.proofs.Facts.{AtTurn, Own as OwnPart}
use Rattle.dsm_owners.proofs.Keeps.{Holds}
use Rattle.dsm_ties.specs.Events.{settle_events, share_events}
use Rattle.dsm_ties.specs.Tied.{has_bit, Match}
use Rattle.dsm_ties.proofs.Frame as F

module _ (u : Who) (at : IsPlaced u) (g : ℕ) (g_in : g < u.lay.pages) (ws : List ℕ) (long : length ws ≡ total u.lay) (b : State) (m : Match u g ws b) (o : Own) where
  abbrev pub Row_acts : {w v : Work} {a : Act} {z : ℕ} → Step u o.maps o.dirty w a z v → Type 0
  Row_acts step = F.RowActs u at g g_in ws long b m o step

  abbrev pub Acted : Work → List ℕ → List Event → Type 0
  Acted = F.Acted u at g g_in ws long b m o

  abbrev pub Now : Work → Type 0
  Now w = F.Now u at g g_in ws long b m w o

  abbrev pub x : Node
  x = b.nodes (node_of u)

  abbrev pub y : Reader
  y = b.processors u.p

  -- what the holder of node j's turn knows of it
  turn_at : (z : O.Stage) (j : ℕ) → Holds u.lay.nodes (λ q. q / u.lay.procs) b → y.stage ≡ z → O.held (node_of u) z ≡ suc j → AtTurn u.lay.nodes b.home (node_of u) j (b.nodes j) z
  turn_at z j all e h = let f = all.fits j u.p in subst (λ z. AtTurn u.lay.nodes b.home (node_of u) j (b.nodes j) z) e (f.at_turn (f.turn_is (ap (O.held (node_of u)) e ∙ h)))

  -- the home is another one
  module _ (a : Act) (within : IsWithin u.lay (item_of a)) (is : item_of a ≡ Home g) where
    abbrev ws' : List ℕ
    ws' = done u.lay ws a

    other : (it : Item) → IsWithin u.lay it → it ≢ Home g → word u.lay ws' it ≡ word u.lay ws it
    other it i ne = word_other u.lay ws a it within i (λ e. ne (e ∙ is))

    home_put : (v : ℕ) → word u.lay ws' (Home g) ≡ v → v ≤ u.lay.nodes → Match u g ws' (record b { home = v })
    home_put v e low =
        record {
          home = e;
          low = low;
          dir = λ j i. other _ (i, g_in) (λ d. absurd (cc d)) ∙ m.dir j i;
          twined = λ j i. other _ (i, g_in) (λ d. absurd (cc d)) ∙ m.twined j i;
          update = λ j i. ap (λ z. not (z == 0)) (other _ (i, g_in) (λ d. absurd (cc d))) ∙ m.update j i;
          turn = λ j i. other _ (i, g_in) (λ d. absurd (cc d)) ∙ m.turn j i;
          map = λ q i. other _ (i, g_in) (λ d. absurd (cc d)) ∙ m.map q i;
          nle = λ q i d. m.nle q i (ap (has_bit g) (sym (other _ (i, group_in u.lay g g_in) (λ d. absurd (cc d)))) ∙ d);
          posted = λ j l i c d. m.posted j l i c (ap (has_bit g) (sym (other _ (i, c, group_in u.lay g g_in) (λ d. absurd (cc d)))) ∙ d);
          listed = λ q i d. m.listed q i (ap (has_bit g) (sym (other _ (i, group_in u.lay g g_in) (λ d. absurd (cc d)))) ∙ d);
        }

  home_is : (v : ℕ) → b.home ≡ v → v ≢ 0 → b.home ≡ suc ((v - 1) % u.lay.nodes)
  home_is v is ne = let z = mod-eq_of_lt (let t : v - 1 < u.lay.nodes = (let low = m.low in omega (arith, low, is, ne)) in t) in omega (arith, z, is, ne)

  module _ {r : Round} where
    pub row_sees_dir : {x : ℕ} {write : Bool} → Row_acts (sees_dir {r = r} {g = g} {x = x} {write = write})
    row_sees_dir {x} {write} f k = F.load u at g g_in ws long b m _ (go (x == 2) refl)
      where
        is : (b.nodes (node_of u)).dir ≡ x
        is = sym (f.told ∙ m.dir (node_of u) at.node_in)

        go : (c : Bool) → (x == 2) ≡ c → Acted (On r g (if c then Setting write true else Seeking (For_fault write x))) ws (if c then Do u.p (A.See_sole write) ∷ [] else Do u.p (A.See write x) ∷ [])
        go true e = F.reads u at g g_in ws long b m (A.See_sole write) k refl (is ∙ eqb-true x 2 e) refl refl refl refl tt tt tt
        go false e = F.reads u at g g_in ws long b m (A.See write x) k refl (is, eqb-false x 2 e) refl refl refl refl tt tt tt

    pub row_seeks : {x : ℕ} {a : Seeker} → Row_acts (seeks {r = r} {g = g} {x = x} {a = a})
    row_seeks {x = v} {a = For_fault write d} f k = F.load u at g g_in ws long b m _ (go (v == 0) refl (d == 0) refl)
      where
        is : b.home ≡ v
        is = sym (f.told ∙ m.home)

        known : (x.dir ≡ d) × (d ≤ 1)
        known = turn_at (O.Known write d) (node_of u) f.holds (F.stage_is u at g g_in ws long b m k) refl

        bare : b.home ≡ 0 → d ≡ 0
        bare e = sym known.0 ∙ ((f.holds.good (node_of u)).homeless e).0

        go : (c : Bool) → (v == 0) ≡ c → (e : Bool) → (d == 0) ≡ e
            → Acted (On r g (if c then Missing (For_fault write d) else registered write ((v - 1) % u.lay.nodes) e)) ws (if c then Do u.p (A.Find_none write d) ∷ [] else (if e then Do u.p (A.Find_new write) ∷ [] else Do u.p (A.Find_old write d) ∷ []))
        go true c e i = F.reads u at g g_in ws long b m (A.Find_none write d) k refl (is ∙ eqb-true v 0 c) refl refl refl refl tt tt (bare (is ∙ eqb-true v 0 c))
        go false c true i = F.reads u at g g_in ws long b m (A.Find_new write) k (ap (λ q. O.Known write q) (eqb-true d 0 i)) (λ e. eqb-false v 0 c (sym is ∙ e)) refl refl refl refl (home_is v is (eqb-false v 0 c)) tt tt
        go false c false i = F.reads u at g g_in ws long b m (A.Find_old write d) k refl ((λ e. eqb-false v 0 c (sym is ∙ e)), eqb-false d 0 i) refl refl (ap (λ z. O.Sharing write 0 false z) (F.none_busy u at g g_in ws long b m)) refl (home_is v is (eqb-false v 0 c)) tt tt
    row_seeks {x = v} {a = For_release} f k = F.load u at g g_in ws long b m _ (go (v == 0) refl)
      where
        is : b.home ≡ v
        is = sym (f.told ∙ m.home)

        dirty : y.dirty ≡ true
        dirty = subst (λ z. OwnPart (node_of u) y.map y.dirty z) (F.stage_is u at g g_in ws long b m k) (f.holds.mine u.p).own

        go : (c : Bool) → (v == 0) ≡ c → Acted (On r g (if c then Missing For_release else Checking ((v - 1) % u.lay.nodes))) ws []
        go true c = absurd (let d = ((f.holds.mine u.p).homeless (is ∙ eqb-true v 0 c)).1 in cc (sym dirty ∙ d))
        go false c = F.no_event u at g g_in ws long b m k refl refl (home_is v is (eqb-false v 0 c)) tt tt m
    row_seeks {x = v} {a = For_closing j} f k = F.load u at g g_in ws long b m _ (go (v == 0) refl)
      where
        is : b.home ≡ v
        is = sym (f.told ∙ m.home)

        sole : (b.nodes j).dir ≡ 2
        sole = turn_at (O.Breaking O.closing j) j f.holds (F.stage_is u at g g_in ws long b m k) refl

        go : (c : Bool) → (v == 0) ≡ c → Acted (On r g (if c then Missing (For_closing j) else Breaking Closing ((v - 1) % u.lay.nodes) j (j * u.lay.procs))) ws []
        go true c = absurd (let d = ((f.holds.good j).homeless (is ∙ eqb-true v 0 c)).0 in omega (arith, sole, d))
        go false c = F.no_event u at g g_in ws long b m k refl refl (home_is v is (eqb-false v 0 c)) tt tt m

    pub row_clears : {h x : ℕ} {write : Bool} → Row_acts (clears {r = r} {g = g} {h = h} {x = x} {write = write})
    row_clears {write = write} f k = F.acts u at g g_in ws long b m (A.Clear write) k refl tt (F.update_put u at g g_in ws long b m (A.Clear write) 0 at.node_in refl refl refl refl refl refl refl) refl refl refl refl (k.homes refl) tt tt

    pub row_registers : {h x : ℕ} {write : Bool} → Row_acts (registers {r = r} {g = g} {h = h} {x = x} {write = write})
    row_registers {write = write} f k =
        F.acts u at g g_in ws long b m (A.Register write) k refl tt (F.dir_put u at g g_in ws long b m (A.Register write) 1 at.node_in refl refl refl refl refl refl refl) refl refl (ap (λ z. O.Sharing write 0 false z) (F.none_busy u at g g_in ws long b m)) refl (k.homes refl) tt tt

    pub row_parts : {h busy x : ℕ} {write : Bool} → Row_acts (parts {r = r} {g = g} {h = h} {busy = busy} {x = x} {write = write})
    row_parts {busy = busy} {write = write} f k = F.acts u at g g_in ws long b m (A.Part write _) k refl tt (F.turn_put u at g g_in ws long b m (A.Part write _) 0 at.node_in refl refl refl refl refl refl refl) refl refl refl refl (k.homes refl) tt tt

    pub row_wants : {h busy x : ℕ} {write : Bool} (e : (slice_index o.maps g == 0) ≡ true) → Row_acts (wants {r = r} {g = g} {h = h} {busy = busy} {x = x} {write = write} e)
    row_wants {busy = busy} {write = write} e f k =
        F.acts u at g g_in ws long b m (A.Want write (is_busy busy)) k refl (sym (m.map u.p at.p_in) ∙ f.own ∙ eqb-true _ 0 e) (F.map_put u at g g_in ws long b m (A.Want write (is_busy busy)) 3 refl refl refl refl refl refl refl) refl refl refl refl (k.homes refl) tt tt

    pub row_shares : {h j x : ℕ} {write : Bool} {row : Row} → Row_acts (shares {r = r} {g = g} {h = h} {j = j} {x = x} {write = write} {row = row})
    row_shares {h = h} {j = j} {x = v} {write = write} {row = row} f k = F.load u at g g_in ws long b m _ (go (j == node_of u) refl)
      where
        is : (b.nodes j).dir ≡ v
        is = sym (f.told ∙ m.dir j f.within.0)

        low : v ≤ 3
        low = let z = (f.holds.good j).dir_in in omega (arith, z, is)

        up : (f : Bool) (c : ℕ → Bool) → O.Sharing write (suc j) f c ≡ O.Sharing write (j + 1) f c
        up f c = ap (λ z. O.Sharing write z f c) (F.suc_is u at g g_in ws long b m j)

        another : j ≢ node_of u → (c d : Bool) → (v == 0) ≡ c → (v == 1) ≡ d
            → Acted (On r g (Sharing write h (j + 1) (record row { others = row.others || not c; busy = if v == 2 || v == 3 then bit_or row.busy (2 ^ j) else row.busy }))) ws
            (if c then Do u.p (A.Share_none write j row.others (is_busy row.busy)) ∷ [] else (if d then Do u.p (A.Share_one write j row.others (is_busy row.busy)) ∷ [] else Do u.p (A.Share_busy write j row.others (is_busy row.busy)) ∷ []))
        another ne true d i l =
            let z : v ≡ 0 = eqb-true v 0 i in
            rw z (F.reads u at g g_in ws long b m (A.Share_none write j row.others (is_busy row.busy)) k refl (ne, is ∙ z) refl refl (up _ _ ∙ ap (λ q. O.Sharing write (j + 1) q (is_busy row.busy)) (F.or_false u at g g_in ws long b m row.others)) refl (k.homes refl) tt tt)
        another ne false true i l =
            let z : v ≡ 1 = eqb-true v 1 l in
            rw z (F.reads u at g g_in ws long b m (A.Share_one write j row.others (is_busy row.busy)) k refl (ne, is ∙ z) refl refl (up _ _ ∙ ap (λ q. O.Sharing write (j + 1) q (is_busy row.busy)) (F.or_true u at g g_in ws long b m row.others)) refl (k.homes refl) tt tt)
        another ne false false i l = more (v == 2) refl
          where
            more : (c : Bool) → (v == 2) ≡ c → Acted (On r g (Sharing write h (j + 1) (record row { others = row.others || true; busy = if c || v == 3 then bit_or row.busy (2 ^ j) else row.busy }))) ws (Do u.p (A.Share_busy write j row.others (is_busy row.busy)) ∷ [])
            more c e = rw (is_more c e) (F.reads u at g g_in ws long b m (A.Share_busy write j row.others (is_busy row.busy)) k refl (ne, let p = eqb-false v 0 i in let q = eqb-false v 1 l in omega (arith, is, p, q)) refl refl (up _ _ ∙ ap (λ q. O.Sharing write (j + 1) q (A.put (is_busy row.busy) j true)) (F.or_true u at g g_in ws long b m row.others) ∙ ap (λ q. O.Sharing write (j + 1) (row.others || true) q) (F.busy_more u at g g_in ws long b m row.busy j)) refl (k.homes refl) tt tt)
              where
                is_more : (c : Bool) → (v == 2) ≡ c → (c || v == 3) ≡ true
                is_more true e = refl
                is_more false e = eq-eqb v 3 (let p = eqb-false v 0 i in let q = eqb-false v 1 l in let s = eqb-false v 2 e in omega (arith, low, p, q, s))

        go : (c : Bool) → (j == node_of u) ≡ c → Acted (On r g (Sharing write h (j + 1) (if c then record row { own = v } else record row { others = row.others || not (v == 0); busy = if v == 2 || v == 3 then bit_or row.busy (2 ^ j) else row.busy }))) ws (share_events u c v write row j)
        go true e = F.reads u at g g_in ws long b m (A.Share_own write j row.others (is_busy row.busy)) k refl (eqb-true j (node_of u) e) refl refl (up _ _) refl (k.homes refl) tt tt
        go false e = another (eqb-false j (node_of u) e) (v == 0) (v == 1) refl refl

    pub row_settles : {x : ℕ} {a : Seeker} → Row_acts (settles {r = r} {g = g} {x = x} {a = a})
    row_settles {x = v} {a = For_fault write d} f k = subst (λ c. Acted (On r g (registered write (if v == 0 then node_of u else (v - 1) % u.lay.nodes) c)) (done u.lay ws act) (settle_events u (For_fault write d) v)) (sym (eq-eqb d 0 (k.met refl))) (go (v == 0) refl)
      where
        act : Act
        act = Change (Home g) 0 (node_of u + 1)

        is : b.home ≡ v
        is = sym (f.told ∙ m.home)

        go : (c : Bool) → (v == 0) ≡ c → Acted (On r g (Clearing write (if c then node_of u else (v - 1) % u.lay.nodes))) (done u.lay ws act) (if c then Touch u.p write ∷ Do u.p (A.Find_late write) ∷ [] else Do u.p (A.Find_late write) ∷ [])
        go true e = record { runs = ((F.stage_is u at g g_in ws long b m k, at.node_in, none), late.runs); match = late.match; knows = late.knows }
          where
            none : b.home ≡ 0
            none = is ∙ eqb-true v 0 e

            ws1 : List ℕ
            ws1 = done u.lay ws act

            b1 : State
            b1 = record b { home = suc (node_of u) }

            long1 : length ws1 ≡ total u.lay
            long1 = length-done u.lay ws act ∙ long

            m1 : Match u g ws1 b1
            m1 = home_put act g_in refl (suc (node_of u)) (word_same u.lay ws act long g_in ∙ (rw (m.home ∙ none) (sym (F.suc_is u at g g_in ws long b m (node_of u))))) at.node_in

            k1 : F.Now u at g g_in ws1 long1 b1 m1 (On r g (Missing (For_fault write d))) o
            k1 = record { at = k.at; round = k.round; met = k.met; dirty = k.dirty; soils = k.soils; joins = k.joins; told = k.told; heard = k.heard; homes = λ _. tt; times = k.times }

            late : F.Acted u at g g_in ws1 long1 b1 m1 o (On r g (Clearing write (node_of u))) ws1 (Do u.p (A.Find_late write) ∷ [])
            late = F.reads u at g g_in ws1 long1 b1 m1 (A.Find_late write) k1 refl (λ e. absurd (cc e)) refl refl refl refl refl tt tt
        go false e = F.acts u at g g_in ws long b m (A.Find_late write) k refl (λ i. eqb-false v 0 e (sym is ∙ i)) (F.read_match u at g g_in ws1 long1 b m1 (A.Find_late write) refl refl) refl refl refl refl (home_is v is (eqb-false v 0 e)) tt tt
          where
            ws1 : List ℕ
            ws1 = done u.lay ws act

            long1 : length ws1 ≡ total u.lay
            long1 = length-done u.lay ws act ∙ long

            m1 : Match u g ws1 b
            m1 = home_put act g_in refl b.home (word_same u.lay ws act long g_in ∙ (rw (m.home ∙ is) (rw e (sym is)))) m.low
    row_settles {x = v} {a = For_release} f k = absurd (k.met refl)
    row_settles {x = v} {a = For_closing j} f k = absurd (k.met refl)
