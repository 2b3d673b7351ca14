-- Rows of a page of a release: it is sent, its mapping lowered, its twin dropped, its node unlisted.
use Rattle.std.proofs.Common.{◌≡◌, ◌≢◌, ◌⊎◌, inl, inr, ℕ, suc, ◌+◌, ◌*◌, ◌%◌, ◌<◌, ◌≤◌, ◌==◌, Bool, true, false, [], ◌∷◌, refl, sym, ap, ◌∙◌, arith, if◌then◌else◌}
use Rattle.std.specs.Prelude.{◌&&◌, ◌||◌, nat_lt, max, bit_or, slice_index, slice_index_or}
use Rattle.std.specs.Int.{bit_at}
use Rattle.std.proofs.Math.Nat.{div-eq_of_lt-le}
use Rattle.std.proofs.lemmas.Bool.{cases_eq, eq-eqb, eqb-true}
use Rattle.std.proofs.lemmas.Nat.Bits.{bit_at_or, bit_at-pow_same, bit_at-pow_other, bit_at-lt}
use Rattle.dsm_words.specs.declared.item.Item.TheVariants.{Dir, Flush, Global, Map}
use Rattle.dsm_words.specs.Pages.{group_of, bit_of}
use Rattle.dsm_words.specs.Script.{Get, Put, Or}
use Rattle.dsm_words.specs.Words.{word, done}
use Rattle.dsm_protocol.specs.Own.{Own, node_of}
use Rattle.dsm_protocol.specs.Stages.{Stage, Mapped, Drawing, Timed, Stamping, Stamped, Posting, Posted, Telling, Lowering, Unlisting, Done, Round, Cleaning, On, lowered, stage_turn}
use Rattle.dsm_protocol.specs.Rows.{map_at, sees_release, lasts, draws_send, tests_flush, flushes, flushes_same, flushes_twin, flushes_home, stamps_flush, reads_dir, posts, lowers, drops, untwins, unlists, finishes, releases, flushed_all, unsent, posted, untold, unlowered, dropped, clean, released, sent, told}
use Rattle.dsm_protocol.proofs.Placed.{rows}
use Rattle.dsm_owners.specs.Stages as O
use Rattle.dsm_owners.specs.Laws.{IsNotAlone}
use Rattle.dsm_ties.specs.Tied.{has_bit}
use Rattle.dsm_fresh.specs.Stages.{is_entering}
use Rattle.dsm_fresh.specs.Pages.{Send, Pass_by, Post_bit, Tell, Leave, happens}
use Rattle.dsm_fresh.specs.Premises.{IsOf}
use Rattle.dsm_freshness.specs.Views.{work_view, is_unseen}
use Rattle.dsm_freshness.specs.Tied.{may_load}
use Rattle.dsm_freshness.proofs.Words.{Scene, node, first, top, match_one, match_none, match_still, says, says_same, loaded, stage_kept}
use Rattle.dsm_freshness.proofs.Frame as F
use Rattle.dsm_freshness.proofs.VisitRows as V

three : (a b z : Bool) → (a && b && z) ≡ true → (a ≡ true) × (b ≡ true) × (z ≡ true)
three true true true e = (refl, refl, refl)
three true true false e = absurd (cc e)
three true false z e = absurd (cc e)
three false b z e = absurd (cc e)

all_three : (a b z : Bool) → a ≡ true → b ≡ true → z ≡ true → (a && b && z) ≡ true
all_three true true true i j k = refl
all_three true true false i j k = absurd (cc k)
all_three true false z i j k = absurd (cc j)
all_three false b z i j k = absurd (cc i)

four : (a b y z : Bool) → (a && b && y && z) ≡ true → (a ≡ true) × (b ≡ true) × (y ≡ true) × (z ≡ true)
four true true true true e = (refl, refl, refl, refl)
four true true true false e = absurd (cc e)
four true true false z e = absurd (cc e)
four true false y z e = absurd (cc e)
four false b y z e = absurd (cc e)

all_four : (a b y z : Bool) → a ≡ true → b ≡ true → y ≡ true → z ≡ true → (a && b && y && z) ≡ true
all_four true true true true i j k l = refl
all_four true true true false i j k l = absurd (cc l)
all_four true true false z i j k l = absurd (cc k)
all_four true false y z i j k l = absurd (cc j)
all_four false b y z i j k l = absurd (cc i)

one_of : (a b z : Bool) → (a || b || z) ≡ true → (a ≡ true) ⊎ ((b ≡ true) ⊎ (z ≡ true))
one_of true b z e = inl refl
one_of false true z e = inr (inl refl)
one_of false false true e = inr (inr refl)
one_of false false false e = absurd (cc e)

none_below : (a b : Bool) (n : ℕ) → (a && b && nat_lt n 0) ≡ false
none_below a b n = F.not_true (λ e. absurd (bad ((three a b (nat_lt n 0) e).2)))
  where
    bad : nat_lt n 0 ≡ true → ⊥
    bad e = grind arith

below : (k n : ℕ) → nat_lt k n ≡ true → k < n
below k n e = grind arith

is_below : (k n : ℕ) → k < n → nat_lt k n ≡ true
is_below k n e = grind arith

-- below the next node is below this one, or this one
next_below : (k n : ℕ) → nat_lt k (n + 1) ≡ true → (nat_lt k n ≡ true) ⊎ (n ≡ k)
next_below k n e = go (cases_eq n k)
  where
    go : (n ≡ k) ⊎ (n ≢ k) → (nat_lt k n ≡ true) ⊎ (n ≡ k)
    go (inl d) = inr d
    go (inr ne) = let lt = below k (n + 1) e in inl (is_below k n (omega (arith, lt, ne)))

-- the bit of a page, with the bit of a page of its group
bit_same : (g w : ℕ) → has_bit g (bit_or w (bit_of g)) ≡ true
bit_same g w = eq-eqb (bit_at (bit_or w (bit_of g)) (g % 64)) 1 (let both = bit_at_or w (bit_of g) (g % 64) in let one = bit_at-pow_same (g % 64) in let low = bit_at-lt w (g % 64) in both ∙ larger (bit_at w (g % 64)) (bit_at (bit_of g) (g % 64)) one low)
  where
    larger : (a b : ℕ) → b ≡ 1 → a < 2 → max a b ≡ 1
    larger a b e l = omega (arith, e, l)

bit_other : (g h w : ℕ) → h % 64 ≢ g % 64 → has_bit g (bit_or w (bit_of h)) ≡ has_bit g w
bit_other g h w ne = ap (λ z. z == 1) (bit_at_or w (bit_of h) (g % 64) ∙ larger (bit_at w (g % 64)) (bit_at (bit_of h) (g % 64)) (bit_at-pow_other (h % 64) (g % 64) (λ d. ne (sym d))))
  where
    larger : (a b : ℕ) → b ≡ 0 → max a b ≡ a
    larger a b e = omega (arith, e)

apart_in : (g h : ℕ) → h ≢ g → group_of h ≡ group_of g → h % 64 ≢ g % 64
apart_in g h ne e d = ne (omega (arith, e, d))

module _ (c : Scene) where
  module _ (o : Own) where
    pub row_sees_release : {r : Round} {g x : ℕ} → F.RowActs c o (sees_release {r = r} {g = g} {x = x})
    row_sees_release {x = x} f = V.pick c (x == 2) (V.loads c f refl (λ k. refl) refl refl refl) (V.loads c f refl (λ k. refl) refl refl refl)

    pub row_lasts : {t0 k g h x : ℕ} → F.RowActs c o (lasts {t0 = t0} {k = k} {g = g} {h = h} {x = x})
    row_lasts {t0 = t0} {x = x} f = V.pick c (nat_lt t0 x) (V.loads c f refl (λ k. refl) refl refl refl) (V.loads c f refl (λ k. refl) refl refl refl)

    pub row_draws_send : {r : Round} {g h x : ℕ} → F.RowActs c o (draws_send {r = r} {g = g} {h = h} {x = x})
    row_draws_send {r} {g} {h} {x} f = F.any_clock c f (V.pick_now c {r = r} {h = g} {s = Stamping h x false} {t = Timed h x} (node_of c.u == h) (V.calm c {s = Drawing h} f.here.knows refl (λ k. refl) refl refl refl) (V.calm c {s = Drawing h} f.here.knows refl (λ k. refl) refl refl refl))

    pub row_tests_flush : {r : Round} {g h t x : ℕ} (e : (node_of c.u == h) ≡ false) → F.RowActs c o (tests_flush {r = r} {g = g} {h = h} {t = t} {x = x} e)
    row_tests_flush {x = x} e f = V.pick c (x == 1) (V.loads c f refl (λ k. refl) refl refl refl) (V.loads c f refl (λ k. refl) refl refl refl)

    pub row_flushes : {r : Round} {g h t i x : ℕ} → F.RowActs c o (flushes {r = r} {g = g} {h = h} {t = t} {i = i} {x = x})
    row_flushes f = V.loads c f refl (λ k. refl) refl refl refl

    pub row_flushes_same : {r : Round} {g h t i v x : ℕ} → F.RowActs c o (flushes_same {r = r} {g = g} {h = h} {t = t} {i = i} {v = v} {x = x})
    row_flushes_same {v = v} {x = x} f = V.pick c (v == x) (V.loads c f refl (λ k. refl) refl refl refl) (V.loads c f refl (λ k. refl) refl refl refl)

    pub row_flushes_twin : {r : Round} {g h t i v x : ℕ} → F.RowActs c o (flushes_twin {r = r} {g = g} {h = h} {t = t} {i = i} {v = v} {x = x})
    row_flushes_twin f = V.stores c f (λ e. e) refl (λ k. refl) refl refl refl

    pub row_flushes_home : {r : Round} {g h t i v x : ℕ} → F.RowActs c o (flushes_home {r = r} {g = g} {h = h} {t = t} {i = i} {v = v} {x = x})
    row_flushes_home f = V.stores c f (λ e. e) refl (λ k. refl) refl refl refl

    -- it is sent
    pub row_stamps_flush : {r : Round} {g h t x : ℕ} {flushed : Bool} → F.RowActs c o (stamps_flush {r = r} {g = g} {h = h} {t = t} {x = x} {flushed = flushed})
    row_stamps_flush {r} {g} {h} {t} {x} {flushed} f =
        F.only_if c (g == c.g && node_of c.u == c.m && (flushed || node_of c.u == h)) (λ d. let z = three (g == c.g) (node_of c.u == c.m) (flushed || node_of c.u == h) d in sends (eqb-true g c.g z.0) (eqb-true (node_of c.u) c.m z.1) z.2)
        (λ _. V.stores c f (λ e. e) refl (λ k. refl) refl refl refl)
      where
        stage_in : (fl : Bool) → (fl || node_of c.u == h) ≡ true → (z : O.Stage) → z ≡ (if fl then O.Flushing else (if node_of c.u == h then O.Checked else O.Posting false)) → c.b.home ≡ suc h → (z ≡ O.Flushing) ⊎ ((z ≡ O.Checked) × (c.b.home ≡ suc (node_of c.u)))
        stage_in true e z s i = inl s
        stage_in false e z s i = inr (s ∙ ap (λ y. if y then O.Checked else O.Posting false) e, i ∙ ap suc (sym (eqb-true (node_of c.u) h e)))

        not_alone : g ≡ c.g → node_of c.u ≡ c.m → (flushed || node_of c.u == h) ≡ true → IsNotAlone (node c) c.b c.n
        not_alone d e i = (V.all c).senders c.u.p c.n c.at.node_in (λ z. c.apart (sym (z ∙ e))) (stage_in flushed i (c.b.processors c.u.p).stage (F.stage_is c {r = r} {h = g} {s = Stamping h t flushed} {o = o} f.here.owns d) (f.here.owns.homes d))

        not_entering : g ≡ c.g → node_of c.u ≡ c.m → (flushed || node_of c.u == h) ≡ true → is_entering c.f.page.work ≡ true → ⊥
        not_entering d e i is = absurd (cc (sym ((not_alone d e i).not_entering q at_n) ∙ (c.others q (λ z. c.apart (sym e ∙ ap (node c) (sym z) ∙ at_n)) (V.enters_by c.f.page.work is).1).entering is))
          where
            q : ℕ
            q = (V.enters_by c.f.page.work is).0

            at_n : node c q ≡ c.n
            at_n = (c.match.worker q (V.enters_by c.f.page.work is).1).1

        sends : g ≡ c.g → node_of c.u ≡ c.m → (flushed || node_of c.u == h) ≡ true → F.Acted c (On r g (Stamped h flushed)) (done c.u.lay c.ws (Put (Flush (node_of c.u) g) t)) (Send ∷ [])
        sends d e i =
            record {
              runs = ((λ z. (not_alone d e i).not_sole (sym (F.dir_same c) ∙ z), F.not_true (not_entering d e i)), tt);
              match = match_none c Send c.match.worker c.match.drainer (Put (Flush (node_of c.u) g) t) f.within refl (λ z. absurd z);
              knows = F.sender_knows c {r = r} {h = g} {t = Stamped h flushed} (happens (first c) c.f Send) e refl (λ z. absurd (cc z));
            }

    -- each other node is passed by, or told
    pub row_reads_dir : {r : Round} {g h j x : ℕ} {flushed : Bool} → F.RowActs c o (reads_dir {r = r} {g = g} {h = h} {j = j} {x = x} {flushed = flushed})
    row_reads_dir {r} {g} {h} {j} {x} {flushed} f =
        F.only_if c (g == c.g && node_of c.u == c.m && j == c.n && x == 0) (λ d. let z = four (g == c.g) (node_of c.u == c.m) (j == c.n) (x == 0) d in passes (eqb-true g c.g z.0) (eqb-true (node_of c.u) c.m z.1) (eqb-true j c.n z.2) (eqb-true x 0 z.3)) (λ off. quiet off (x == 0 || j == node_of c.u || j == h) refl)
      where
        passes : g ≡ c.g → node_of c.u ≡ c.m → j ≡ c.n → x ≡ 0 → F.Acted c (On r g (if x == 0 || j == node_of c.u || j == h then Posting h flushed (j + 1) else Telling h flushed j)) (done c.u.lay c.ws (Get (Dir j g))) (Pass_by ∷ [])
        passes d e i zero = V.pick c (x == 0 || j == node_of c.u || j == h) (at (Posting h flushed (j + 1)) refl) (at (Telling h flushed j) refl)
          where
            at : (t : Stage) → stage_turn c.u g t ≡ stage_turn c.u g (Posting h flushed j) → F.Acted c (On r g t) (done c.u.lay c.ws (Get (Dir j g))) (Pass_by ∷ [])
            at t tu =
                record {
                  runs = (sym (says c (Dir j g) f.within (i, d)) ∙ sym f.told ∙ zero, tt);
                  match = match_none c Pass_by c.match.worker c.match.drainer (Get (Dir j g)) f.within refl (λ y. says c (Dir j g) f.within y);
                  knows = F.sender_knows c {r = r} {h = g} {t = t} (happens (first c) c.f Pass_by) e tu (λ _. refl);
                }

        quiet : (g == c.g && node_of c.u == c.m && j == c.n && x == 0) ≡ false → (d : Bool) → (x == 0 || j == node_of c.u || j == h) ≡ d → F.Acted c (On r g (if d then Posting h flushed (j + 1) else Telling h flushed j)) (done c.u.lay c.ws (Get (Dir j g))) []
        quiet off false e = F.quiet_row c {r = r} {h = g} {s = Posting h flushed j} {t = Telling h flushed j} f (loaded c (Dir j g) f.within) refl (λ k. refl) refl (λ d. d) (λ _ _. tt)
        quiet off true e = F.quiet_row c {r = r} {h = g} {s = Posting h flushed j} {t = Posting h flushed (j + 1)} f (loaded c (Dir j g) f.within) refl (λ k. refl) refl served (λ _ _. tt)
          where
            served : (g == c.g && node_of c.u == c.m && nat_lt c.n (j + 1)) ≡ true → (g == c.g && node_of c.u == c.m && nat_lt c.n j) ≡ true
            served d = let z = three (g == c.g) (node_of c.u == c.m) (nat_lt c.n (j + 1)) d in all_three (g == c.g) (node_of c.u == c.m) (nat_lt c.n j) z.0 z.1 (go z.0 z.1 (next_below c.n j z.2))
              where
                go : (g == c.g) ≡ true → (node_of c.u == c.m) ≡ true → (nat_lt c.n j ≡ true) ⊎ (j ≡ c.n) → nat_lt c.n j ≡ true
                go a b (inl lt) = lt
                go a b (inr is) = absurd (bad (one_of (x == 0) (j == node_of c.u) (j == h) e))
                  where
                    bad : ((x == 0) ≡ true) ⊎ (((j == node_of c.u) ≡ true) ⊎ ((j == h) ≡ true)) → ⊥
                    bad (inl z) = absurd (cc (sym off ∙ all_four (g == c.g) (node_of c.u == c.m) (j == c.n) (x == 0) a b (eq-eqb j c.n is) z))
                    bad (inr (inl z)) = c.apart (sym (eqb-true (node_of c.u) c.m b) ∙ sym (eqb-true j (node_of c.u) z) ∙ is)
                    bad (inr (inr z)) = F.not_home c h (f.here.owns.homes (eqb-true g c.g a)) (sym (eqb-true j h z) ∙ is)

    pub row_posts : {r : Round} {g h j x : ℕ} {flushed : Bool} (v : ℕ) (e : (v == 0 || j == node_of c.u || j == h) ≡ false) → F.RowActs c o (posts {r = r} {g = g} {h = h} {j = j} {x = x} {flushed = flushed} v e)
    row_posts {r} {g} {h} {j} {x} {flushed} v e f =
        F.only_if c (g == c.g && node_of c.u == c.m && j == c.n) (λ d. let z = three (g == c.g) (node_of c.u == c.m) (j == c.n) d in tells (eqb-true g c.g z.0) (eqb-true (node_of c.u) c.m z.1) (eqb-true j c.n z.2)) quiet
      where
        tells : g ≡ c.g → node_of c.u ≡ c.m → j ≡ c.n → F.Acted c (On r g (Posting h flushed (j + 1))) (done c.u.lay c.ws (Or (Global j (node_of c.u) (group_of g)) (bit_of g))) (Post_bit ∷ [])
        tells d s i =
            record {
              runs = (tt, tt);
              match = match_one c Post_bit c.match.worker c.match.drainer (Or (Global j (node_of c.u) (group_of g)) (bit_of g)) f.within (i, s, ap group_of d) refl tt (ap (λ z. has_bit c.g (bit_or (word c.u.lay c.ws (Global j (node_of c.u) (group_of g))) (bit_of z))) d ∙ bit_same c.g (word c.u.lay c.ws (Global j (node_of c.u) (group_of g))));
              knows = F.sender_knows c {r = r} {h = g} {t = Posting h flushed (j + 1)} (happens (first c) c.f Post_bit) s refl (λ _. refl);
            }

        quiet : (g == c.g && node_of c.u == c.m && j == c.n) ≡ false → F.Acted c (On r g (Posting h flushed (j + 1))) (done c.u.lay c.ws (Or (Global j (node_of c.u) (group_of g)) (bit_of g))) []
        quiet off = F.quiet_row c {r = r} {h = g} {s = Telling h flushed j} {t = Posting h flushed (j + 1)} f
            (says_same c (Or (Global j (node_of c.u) (group_of g)) (bit_of g)) f.within (λ i. bit_other c.g g (word c.u.lay c.ws (Global j (node_of c.u) (group_of g))) (apart_in c.g g (λ d. absurd (cc (sym off ∙ all_three (g == c.g) (node_of c.u == c.m) (j == c.n) (eq-eqb g c.g d) (eq-eqb (node_of c.u) c.m i.1) (eq-eqb j c.n i.0)))) i.2) ∙ says c (Global j (node_of c.u) (group_of g)) f.within i))
            refl (λ k. refl) refl served (λ _ _. tt)
          where
            served : (g == c.g && node_of c.u == c.m && nat_lt c.n (j + 1)) ≡ true → (g == c.g && node_of c.u == c.m && nat_lt c.n j) ≡ true
            served d = let z = three (g == c.g) (node_of c.u == c.m) (nat_lt c.n (j + 1)) d in all_three (g == c.g) (node_of c.u == c.m) (nat_lt c.n j) z.0 z.1 (go z.0 z.1 (next_below c.n j z.2))
              where
                go : (g == c.g) ≡ true → (node_of c.u == c.m) ≡ true → (nat_lt c.n j ≡ true) ⊎ (j ≡ c.n) → nat_lt c.n j ≡ true
                go a b (inl lt) = lt
                go a b (inr is) = absurd (cc (sym off ∙ all_three (g == c.g) (node_of c.u == c.m) (j == c.n) a b (eq-eqb j c.n is)))

    -- its mapping is lowered
    pub row_lowers : {r : Round} {g x : ℕ} {flushed : Bool} (e : (map_at c.u o.maps o.dirty g == 2) ≡ true) → F.RowActs c o (lowers {r = r} {g = g} {x = x} {flushed = flushed} e)
    row_lowers {r} {g} {x} {flushed} e f = F.quiet_row c {r = r} {h = g} {s = Lowering flushed} {t = Mapped 1 (lowered c.u flushed)} f
        (says_same c (Put (Map c.u.p g) 1) f.within (λ i. sym (ap may_load (ap (λ z. word c.u.lay c.ws (Map c.u.p z)) i.1 ∙ f.own ∙ ap (slice_index o.maps) (sym i.1) ∙ eqb-true (slice_index o.maps g) 2 e)) ∙ says c (Map c.u.p g) f.within i))
        refl (still flushed) (un flushed) (λ d. absurd (cc d)) (λ _ _. tt)
      where
        still : (d : Bool) (k : ℕ) → work_view c.u.p k (Mapped 1 (lowered c.u d)) ≡ work_view c.u.p k (Lowering d)
        still true k = refl
        still false k = refl

        un : (d : Bool) → is_unseen (Mapped 1 (lowered c.u d)) ≡ is_unseen (Lowering d)
        un true = refl
        un false = refl

    -- the twin is dropped
    pub row_drops : {r : Round} {g q x : ℕ} {unwritten free : Bool} (lo : node_of c.u * c.u.lay.procs ≤ q) (hi : q < node_of c.u * c.u.lay.procs + c.u.lay.procs) → F.RowActs c o (drops {r = r} {g = g} {q = q} {x = x} {unwritten = unwritten} {free = free} lo hi)
    row_drops lo hi f = V.loads c f refl (λ k. refl) refl refl refl

    pub row_untwins : {r : Round} {g x : ℕ} {free : Bool} → F.RowActs c o (untwins {r = r} {g = g} {x = x} {free = free})
    row_untwins {free = free} f = V.pick c free (V.stores c f (λ e. e) refl (λ k. refl) refl refl refl) (V.stores c f (λ e. e) refl (λ k. refl) refl refl refl)

    -- the node leaves
    pub row_unlists : {r : Round} {g x : ℕ} → F.RowActs c o (unlists {r = r} {g = g} {x = x})
    row_unlists {r} {g} {x} f = F.own_row c {r = r} {h = g} {s = Unlisting} {t = Done} Leave f refl refl refl (λ i. (i.1, i.0)) (λ is. let i = F.mine c g is in
        record { may = ((F.works_here c f.here is refl).1, λ q of. unmapped i.0 i.1 q of); works = F.works_here c f.here is refl; hand = refl; stage = F.stage_on c Done Leave f.here is refl refl; stamp = tt; match = λ w d. match_one c Leave w d (Put (Dir (node_of c.u) g) 0) f.within (i.1, i.0) refl tt refl })
      where
        at_n : (q : ℕ) → IsOf (first c) (top c) q → node c q ≡ c.n
        at_n q of = div-eq_of_lt-le c.u.lay.procs of.0 (let e = one_more c.n c.u.lay.procs in omega (arith, e, of.1))
          where
            one_more : (a b : ℕ) → (a + 1) * b ≡ a * b + b
            one_more a b = grind arith

        unmapped : g ≡ c.g → node_of c.u ≡ c.n → (q : ℕ) → IsOf (first c) (top c) q → (c.f.processors q).mapped ≡ false
        unmapped d e q of = F.mapped_same c q (let z = rows c.u.lay c.n c.n_in in omega (arith, z, of.1)) (at_n q of) ∙ ap may_load (((V.all c).leaving c.u.p (inr (F.stage_is c {r = r} {h = g} {s = Unlisting} {o = o} f.here.owns d))).3 q (at_n q of ∙ sym e))

    -- the page is done
    pub row_finishes : {t0 g x : ℕ} → F.RowActs c o (finishes {t0 = t0} {g = g} {x = x})
    row_finishes {t0} {g} {x} f =
        record {
          runs = tt;
          match = V.gives_back c (node_of c.u) f refl (λ k. refl);
          knows = F.off_knows c {r = Cleaning t0 g} c.f (λ e. f.here.knows.stage e (λ d. absurd (cc d))) (λ _ d. absurd (cc d));
        }

    pub slip_flushed_all : {r : Round} {g h t : ℕ} → F.SlipActs c o (flushed_all {r = r} {g = g} {h = h} {t = t})
    slip_flushed_all own f = V.stays c f.knows refl (λ k. refl) refl refl refl

    pub slip_unsent : {r : Round} {g h : ℕ} {flushed : Bool} (e : (flushed || node_of c.u == h) ≡ false) → F.SlipActs c o (unsent {r = r} {g = g} {h = h} {flushed = flushed} e)
    slip_unsent {g = g} e own f = V.stays c f.knows refl (λ k. refl) refl (none_below (g == c.g) (node_of c.u == c.m) c.n) refl

    pub slip_posted : {r : Round} {g h : ℕ} {flushed : Bool} → F.SlipActs c o (posted {r = r} {g = g} {h = h} {flushed = flushed})
    slip_posted {r} {g} {h} {flushed} own f = record { runs = tt; match = c.match; knows = F.quiet_on c {r = r} {h = g} {s = Posting h flushed c.u.lay.nodes} {t = Posted h flushed} f.knows refl (λ k. refl) refl (λ d. let z = F.both d in all_three (g == c.g) (node_of c.u == c.m) (nat_lt c.n c.u.lay.nodes) z.0 z.1 (is_below c.n c.u.lay.nodes c.n_in)) (λ _ _. tt) }

    pub slip_untold : {r : Round} {g h : ℕ} {flushed : Bool} (e : (flushed || node_of c.u == h) ≡ false) → F.SlipActs c o (untold {r = r} {g = g} {h = h} {flushed = flushed} e)
    slip_untold e own f = V.stays c f.knows refl (λ k. refl) refl refl refl

    pub slip_unlowered : {r : Round} {g : ℕ} {flushed : Bool} (e : (map_at c.u o.maps o.dirty g == 2) ≡ false) → F.SlipActs c o (unlowered {r = r} {g = g} {flushed = flushed} e)
    slip_unlowered {r} {g} {flushed} e own f = go flushed f.knows
      where
        go : (d : Bool) → F.Now c (On r g (Lowering d)) → F.Acted c (On r g (lowered c.u d)) c.ws []
        go true k = V.stays c k refl (λ k. refl) refl refl refl
        go false k = V.stays c k refl (λ k. refl) refl refl refl

    pub slip_dropped : {r : Round} {g : ℕ} {unwritten free : Bool} → F.SlipActs c o (dropped {r = r} {g = g} {unwritten = unwritten} {free = free})
    slip_dropped {unwritten = unwritten} own f = V.pick c unwritten (V.stays c f.knows refl (λ k. refl) refl refl refl) (V.stays c f.knows refl (λ k. refl) refl refl refl)

    pub slip_clean : {t0 g : ℕ} (e : slice_index_or o.dirty g false ≡ false) → F.SlipActs c o (clean {t0 = t0} {g = g} e)
    slip_clean e own f = V.off_slip c f.knows refl (λ _. refl)

    pub slip_released : {t0 : ℕ} → F.SlipActs c o (released {t0 = t0})
    slip_released own f = V.off_slip c f.knows refl (λ _. refl)

    pub win_releases : {t0 g : ℕ} (e : slice_index_or o.dirty g false ≡ true) → F.WinActs c o (releases {t0 = t0} {g = g} e)
    win_releases e f = F.win_on c (node_of c.u) f refl (λ k. refl) (λ _. refl) refl refl (λ d. absurd (cc d))

    pub note_sent : {r : Round} {g h : ℕ} {flushed : Bool} (e : (flushed || node_of c.u == h) ≡ true) → F.NoteActs c o (sent {r = r} {g = g} {h = h} {flushed = flushed} e)
    note_sent {g = g} e f = V.stays c f.knows refl (λ k. refl) refl (none_below (g == c.g) (node_of c.u == c.m) c.n) refl

    -- all are dealt with
    pub note_told : {r : Round} {g h : ℕ} {flushed : Bool} (e : (flushed || node_of c.u == h) ≡ true) → F.NoteActs c o (told {r = r} {g = g} {h = h} {flushed = flushed} e)
    note_told {r} {g} {h} {flushed} e f = F.only_if c (g == c.g && node_of c.u == c.m)
        (λ d. record {
          runs = (f.knows.served d, tt);
          match = match_still c Tell c.match.worker c.match.drainer refl;
          knows = F.knows_kept c (happens (first c) c.f Tell) refl (stage_kept (first c) c.f Tell refl c.u.p) refl refl (λ z. z) (V.calm c {r = r} {h = g} {s = Posted h flushed} {t = Lowering flushed} f.knows refl (λ k. refl) refl refl refl);
        })
        (λ _. V.stays c f.knows refl (λ k. refl) refl refl refl)
