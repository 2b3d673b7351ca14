-- A row of each kind, for what a node owes.
use Rattle.std.proofs.Common.{◌≡◌, ◌≢◌, ◌⊎◌, inl, inr, ℕ, zero, suc, ◌+◌, ◌*◌, ◌%◌, ◌^◌, ◌<◌, ◌≤◌, ◌==◌, Bool, true, false, List, [], ◌∷◌, length, None, Some, refl, sym, ap, ◌∙◌, subst, arith, if◌then◌else◌}
use Rattle.std.specs.Prelude.{◌&&◌, ◌||◌, not, nat_lt, nat_le, IfSome, slice_set, slice_index, slice_index_or}
use Rattle.std.proofs.Math.Nat.{div-eq_of_lt-le}
use Rattle.std.proofs.lemmas.Bool.{cases_eq, lt-leb, eq-eqb, ne_eqb, eqb-true}
use Rattle.std.proofs.lemmas.List.{get_or-set_same, get_or-set_other}
use Rattle.dsm_entry.specs.declared.entry.Obj.{Obj}
use Rattle.dsm_words.specs.declared.item.Item.{Item}
use Rattle.dsm_words.specs.declared.item.Item.TheVariants.{Frame, Twin, Map, Dir, Flush, Clock, Turn, Nle}
use Rattle.dsm_words.specs.Pages.{group_of, has_page, pages_in}
use Rattle.dsm_words.specs.Place as P
use Rattle.dsm_words.specs.Place.{groups}
use Rattle.dsm_words.specs.Script.{Get, Put, Swap, Add}
use Rattle.dsm_words.specs.Words.{word, done}
use Rattle.dsm_clock.specs.declared.turns.TurnId.TheVariants.{Page}
use Rattle.dsm_directory.specs.Directory.{is_busy}
use Rattle.dsm_protocol.proofs.Placed.{group_in}
use Rattle.dsm_protocol.specs.Own.{Own, node_of, is_dirty, cleaned, soiled, with_pages}
use Rattle.dsm_protocol.specs.Steps.{page_of, address_item}
use Rattle.dsm_protocol.specs.Stages.{Cause, Fault, Whole, Got, Differs, Stage, Mapped, Parting, Emptying, Visiting, Looking, Breaking, Saving, Ending, Broken, Filling, Filled, Setting, Soiling, Giving, Released, Drawing, Timed, Flushing, Stamping, Stamped, Dropping, Done, Round, Waiting, Signalling, Arrived, Access, Stored, Collecting, Releasing, Cleaning, Work, Off, On, stage_turn, Marking}
use Rattle.dsm_protocol.specs.Rows.{Allowed, sees_dir, stores, sets, draws_send, flushes_same, stamps_flush, drops, finishes, breaks, saves, collects, releases, visits, marked, clean, released, maps, soils, cleans, joins, filled, signals, arrives, is_close, reads_map}
use Rattle.dsm_ties.specs.Tied.{has_bit}
use Rattle.dsm_ties.proofs.OffRows.{no_bit}
use Rattle.dsm_debts.specs.Page as D
use Rattle.dsm_debts.specs.Page.{Event, Store, Map_exclusive, Map_write, Unmap, Draw, Tick, Same, Differ, Stamp, Stamp_bare, Look, Finish, Keep, Early, End, End_home, Load, Take, Copy, Signal, Enter, Pass_by, with_part, worker, time_of, looked, opened}
use Rattle.dsm_debts.specs.Premises.{IsPart as IsPartOf, IsFlushPart, May}
use Rattle.dsm_freshness.proofs.AcquireRows.{le_next, past_it, at_it}
use Rattle.dsm_freshness.proofs.Frame.{both, and_true, not_true, true_or_false}
use Rattle.dsm_freshness.proofs.NoticeRows.{if_true, if_false, set_same, set_other}
use Rattle.dsm_releases.specs.Views.{part_view, release_view, dirty_view, soils as is_soiling}
use Rattle.dsm_releases.specs.Events.{only, finish_event}
use Rattle.dsm_releases.proofs.Words.{Scene, node, home, first, top, IsPart, Says, match_one, match_none, match_get, match_aside, match_said, match_still, says, untouched, loaded, stage_kept, dirty_kept, keeps_stage, touched}
use Rattle.dsm_releases.proofs.Frame as F

-- three conditions, of which the first two are one
pub and_assoc : (a b z : Bool) → (a && b && z) ≡ (a && (b && z))
and_assoc true b z = refl
and_assoc false b z = refl

-- where word i stands in a copying that is at word k: at it, behind it, or it is another one
pub part_at : (i k : ℕ) (x : D.Part) → k ≡ i → part_view i k x ≡ x
part_at i k x e = subst (λ z. part_view i z x ≡ x) (sym e) same
  where
    less : nat_lt i i ≡ false
    less = not_true (λ d. absurd (bad d))
      where
        bad : nat_lt i i ≡ true → ⊥
        bad d = grind arith

    same : part_view i i x ≡ x
    same = rw less (rw (eq-eqb i i refl) refl)

pub part_past : (i k : ℕ) (x : D.Part) → i < k → part_view i k x ≡ D.After
part_past i k x l = rw less (rw (ne_eqb k i (λ e. absurd (omega (arith, e, l)))) refl)
  where
    less : nat_lt k i ≡ false
    less = not_true (λ d. absurd (bad d))
      where
        bad : nat_lt k i ≡ true → ⊥
        bad d = grind arith

pub part_same : (i k : ℕ) (x y : D.Part) → k ≢ i → part_view i k x ≡ part_view i k y
part_same i k x y ne = rw (ne_eqb k i ne) refl

pub part_next : (i k : ℕ) (x : D.Part) → k ≢ i → part_view i k x ≡ part_view i (k + 1) D.Before
part_next i k x ne = go (true_or_false (nat_lt k i))
  where
    go : (nat_lt k i ≡ true) ⊎ (nat_lt k i ≡ false) → part_view i k x ≡ part_view i (k + 1) D.Before
    go (inl d) = rw d (sym (first_part (k + 1) (let z : k < i = grind arith in omega (arith, z, ne))))
      where
        first_part : (m : ℕ) → m ≤ i → part_view i m D.Before ≡ D.Before
        first_part m l = split (nat_lt m i) (m == i) refl refl
          where
            split : (a b : Bool) → nat_lt m i ≡ a → (m == i) ≡ b → (if a then D.Before else (if b then D.Before else D.After)) ≡ D.Before
            split true b e f = refl
            split false true e f = refl
            split false false e f = absurd (bad e f)
              where
                bad : nat_lt m i ≡ false → (m == i) ≡ false → ⊥
                bad e f = grind arith
    go (inr d) = part_past i k x (let z : i ≤ k = grind arith in omega (arith, z, ne)) ∙ sym (part_past i (k + 1) D.Before (let z : i ≤ k = grind arith in omega (arith, z)))

module _ (c : Scene) where
  me : (c.u.p == c.u.p) ≡ true
  me = eq-eqb c.u.p c.u.p refl

  module _ (o : Own) where
    -- a load with no event
    pub row_sees_dir : {r : Round} {g x : ℕ} {write : Bool} → F.RowActs c o (sees_dir {r = r} {g = g} {x = x} {write = write})
    row_sees_dir {x = x} f = F.pick c (x == 2) (F.loads c f (λ e. e) (λ _ _ w. w) refl) (F.loads c f (λ e. e) (λ _ _ w. w) refl)

    -- a part of a copying
    pub row_saves : {r : Round} {g h j i x : ℕ} {k : Cause} → F.RowActs c o (saves {r = r} {g = g} {h = h} {j = j} {i = i} {x = x} {c = k})
    row_saves {r} {g} {h} {j} {i} {x} {k} f = F.turn_row c {r = r} {k = g} {s = Saving k h j i Whole} {t = Saving k h j i (Got x)} j (i == c.i) Load f refl refl refl refl refl (λ _. loaded c (Frame j g i) f.within)
        (λ d e other w. w ∙ ap D.Copying (part_same c.i i D.Before D.Loaded (λ z. absurd (cc (sym (eq-eqb i c.i z) ∙ other)))))
        (λ d e yes w. let at = eqb-true i c.i yes in record {
          may = subst (λ z. IsPartOf D.Before z) (sym w) (part_at c.i i D.Before at);
          works = ap (with_part D.Loaded) w ∙ ap D.Copying (sym (part_at c.i i D.Loaded at));
          match = match_get c Load (F.held c j f refl d e (F.behind c Load)) (Frame j g i) f.within refl;
        })

    pub row_flushes_same : {r : Round} {g h t i v x : ℕ} → F.RowActs c o (flushes_same {r = r} {g = g} {h = h} {t = t} {i = i} {v = v} {x = x})
    row_flushes_same {r} {g} {h} {t} {i} {v} {x} f = go (v == x)
      where
        go : (d : Bool) → F.Acted c (On r g (if d then Flushing h t (i + 1) Whole else Flushing h t i (Differs v))) o (done c.u.lay c.ws (Get (Twin (node_of c.u) g i))) (only (F.IsAt c g (node_of c.u) && (i == c.i)) (if d then Same else Differ))
        go true = F.turn_row c {r = r} {k = g} {s = Flushing h t i (Got v)} {t = Flushing h t (i + 1) Whole} (node_of c.u) (i == c.i) Same f refl refl refl refl refl (λ _. loaded c (Twin (node_of c.u) g i) f.within)
            (λ d e other w. w ∙ ap (D.Flushing c.u.p t) (part_next c.i i D.Loaded (λ z. absurd (cc (sym (eq-eqb i c.i z) ∙ other)))))
            (λ d e yes w. let at = eqb-true i c.i yes in record {
              may = subst (λ z. IsFlushPart D.Loaded z) (sym w) (part_at c.i i D.Loaded at);
              works = ap (with_part D.After) w ∙ ap (D.Flushing c.u.p t) (sym (part_past c.i (i + 1) D.Before (omega (arith, at))));
              match = match_get c Same (F.held c (node_of c.u) f refl d e (F.behind c Same)) (Twin (node_of c.u) g i) f.within refl;
            })
        go false = F.turn_row c {r = r} {k = g} {s = Flushing h t i (Got v)} {t = Flushing h t i (Differs v)} (node_of c.u) (i == c.i) Differ f refl refl refl refl refl (λ _. loaded c (Twin (node_of c.u) g i) f.within)
            (λ d e other w. w ∙ ap (D.Flushing c.u.p t) (part_same c.i i D.Loaded D.Differs (λ z. absurd (cc (sym (eq-eqb i c.i z) ∙ other)))))
            (λ d e yes w. let at = eqb-true i c.i yes in record {
              may = subst (λ z. IsFlushPart D.Loaded z) (sym w) (part_at c.i i D.Loaded at);
              works = ap (with_part D.Differs) w ∙ ap (D.Flushing c.u.p t) (sym (part_at c.i i D.Differs at));
              match = match_get c Differ (F.held c (node_of c.u) f refl d e (F.behind c Differ)) (Twin (node_of c.u) g i) f.within refl;
            })

    -- an event that changes the word of the operation
    pub row_stamps_flush : {r : Round} {g h t x : ℕ} {flushed : Bool} → F.RowActs c o (stamps_flush {r = r} {g = g} {h = h} {t = t} {x = x} {flushed = flushed})
    row_stamps_flush {r} {g} {h} {t} {x} {flushed = true} f = F.event_row c {r = r} {k = g} {s = Stamping h t true} {t = Stamped h true} (node_of c.u) Stamp f refl refl refl refl refl (λ off. untouched c (Put (Flush (node_of c.u) g) t) f.within (λ i. off i.1 i.0))
        (λ d e w. record {
          may = subst (λ z. IsFlushPart D.After z) (sym w) refl;
          works = ap (λ z. D.Posting (worker z) true) w;
          match = match_one c Stamp (F.held c (node_of c.u) f refl d e (F.behind c Stamp)) (Put (Flush (node_of c.u) g) t) f.within (e, d) refl tt (sym (ap time_of w));
        })
    row_stamps_flush {r} {g} {h} {t} {x} {flushed = false} f = F.event_row c {r = r} {k = g} {s = Stamping h t false} {t = Stamped h false} (node_of c.u) Stamp_bare f refl refl refl refl refl (λ off. untouched c (Put (Flush (node_of c.u) g) t) f.within (λ i. off i.1 i.0))
        (λ d e w. record {
          may = (c.u.p, t, w.0, w.1);
          works = ap (λ z. D.Posting (worker z) false) w.0;
          match = match_one c Stamp_bare (F.held c (node_of c.u) f refl d e (F.behind c Stamp_bare)) (Put (Flush (node_of c.u) g) t) f.within (e, d) refl tt (sym (ap time_of w.0));
        })

    -- an event that depends on the home
    pub row_breaks : {r : Round} {g j x : ℕ} {k : Cause} → F.RowActs c o (breaks {r = r} {g = g} {j = j} {x = x} {c = k})
    row_breaks {r} {g} {j} {x} {k} f = go (home c) refl
      where
        go : (b : Bool) → home c ≡ b → F.Acted c (On r g (Broken k j)) o (done c.u.lay c.ws (Put (Dir j g) 1)) (only (F.IsAt c g j) (if b then End_home else End))
        go true is = F.event_row c {r = r} {k = g} {s = Ending k j} {t = Broken k j} j End_home f refl refl refl refl refl (λ off. untouched c (Put (Dir j g) 1) f.within (λ i. off i.1 i.0))
            (λ d e w. record {
              may = (top c, w ∙ ap (λ z. if z then D.Marking (top c) else D.Copied) is, omega arith, is);
              works = refl;
              match = match_one c End_home (F.held c j f refl d e (F.behind c End_home)) (Put (Dir j g) 1) f.within (e, d) refl tt (λ z. absurd (omega (arith, z)), λ z. absurd (cc z));
            })
        go false is = F.event_row c {r = r} {k = g} {s = Ending k j} {t = Broken k j} j End f refl refl refl refl refl (λ off. untouched c (Put (Dir j g) 1) f.within (λ i. off i.1 i.0))
            (λ d e w. record {
              may = w ∙ ap (λ z. if z then D.Marking (top c) else D.Copied) is;
              works = refl;
              match = match_one c End (F.held c j f refl d e (F.behind c End)) (Put (Dir j g) 1) f.within (e, d) refl tt (λ z. absurd (omega (arith, z)), λ z. absurd (cc z));
            })

    -- an access, beside the pages
    pub row_stores : {faulted : Bool} {a v x : ℕ} (e : Allowed c.u o.maps o.dirty true a) → F.RowActs c o (stores {faulted = faulted} {a = a} {v = v} {x = x} e)
    row_stores {faulted} {a} {v} {x} allowed f = F.only_if c (node_of c.u == c.n && (page_of c.u a == c.g && (a % c.u.lay.words == c.i))) (λ d. let z = both d in on (eqb-true (node_of c.u) c.n z.0) (eqb-true (page_of c.u a) c.g (both z.1).0)) (λ d. F.off_row c {w = w} {t = Stored a v} f (untouched c (Put (address_item c.u a) v) f.within (λ i. i)) (λ z. absurd (cc z)) (λ _. refl) (λ _. refl) tt)
      where
        w : Work
        w = Off (Access faulted true a)

        on : node_of c.u ≡ c.n → page_of c.u a ≡ c.g → F.Acted c (Off (Stored a v)) o (done c.u.lay c.ws (Put (address_item c.u a) v)) (Store c.u.p ∷ [])
        on e d = record {
          runs = ((F.stage_now c {w = w} f.here.knows (λ z. absurd (cc z)) e, writes), tt);
          match = match_aside c (Store c.u.p) (λ z. c.match.idle z) (Put (address_item c.u a) v) f.within refl (λ i. i);
          knows = F.off_knows c {r = Stored a v} (F.behind c (Store c.u.p)) (λ _. stage_kept (home c) (first c) c.f (Store c.u.p) refl c.u.p ∙ F.stage_now c {w = w} f.here.knows (λ z. absurd (cc z)) e) (λ _. dirty_kept (home c) (first c) c.f (Store c.u.p) refl c.u.p ∙ F.dirty_now c {w = w} f.here.knows (λ z. absurd (cc z)) e) tt;
        }
          where
            is_two : (slice_index o.maps c.g == 2) ≡ true
            is_two = subst (λ z. (slice_index o.maps z == 2) ≡ true) d (allowed (let y = f.here.maps_in in let z = c.g_in in omega (arith, y, z, d)))

            writes : (c.f.processors c.u.p).writes ≡ true
            writes = sym (says c (Map c.u.p c.g) (c.at.p_in, c.g_in) (e, refl)) ∙ ap (λ z. z == 2) f.own ∙ is_two

    -- the processor's own mapping
    pub row_sets : {r : Round} {g x : ℕ} {write alone : Bool} → F.RowActs c o (sets {r = r} {g = g} {x = x} {write = write} {alone = alone})
    row_sets {r} {g} {x} {write = true} {alone = true} f = F.event_row c {r = r} {k = g} {s = Setting true true} {t = Mapped 2 Giving} (node_of c.u) (Map_exclusive c.u.p) f refl refl refl refl refl (λ off. untouched c (Put (Map c.u.p g) 2) f.within (λ i. off i.1 i.0))
        (λ d e w. record {
          may = (F.is_of c e, w, F.alone_same c ((F.turn_says c {r = r} {k = g} {s = Setting true true} {o = o} (node_of c.u) f.here.owns d e refl).0 refl));
          works = w;
          match = match_one c (Map_exclusive c.u.p) (F.held c (node_of c.u) f refl d e (F.behind c (Map_exclusive c.u.p))) (Put (Map c.u.p g) 2) f.within (e, d) refl refl (rw me refl);
        })
    row_sets {r} {g} {x} {write = true} {alone = false} f = F.only_if c (F.IsAt c g (node_of c.u)) (λ z. let m = F.at_is c g (node_of c.u) z in on m.0 m.1)
        (λ z. let off : g ≡ c.g → node_of c.u ≡ c.n → ⊥ = λ d e. absurd (cc (sym (F.is_at c d e) ∙ z)) in record { runs = tt; match = untouched c (Put (Map c.u.p g) 2) f.within (λ i. off i.1 i.0); knows = F.elsewhere_on c {r = r} {k = g} {s = Setting true false} {t = Mapped 2 Soiling} (node_of c.u) off f.here.knows refl (λ e. F.dirty_off c (Mapped 2 Soiling) f.here.knows (λ d. off d e) e) })
      where
        twin : g ≡ c.g → node_of c.u ≡ c.n → (home c ≡ true) ⊎ (c.f.page.twin ≡ true)
        twin d e = go (true_or_false (home c))
          where
            go : (home c ≡ true) ⊎ (home c ≡ false) → (home c ≡ true) ⊎ (c.f.page.twin ≡ true)
            go (inl y) = inl y
            go (inr y) = inr (F.twin_same c ∙ ((F.turn_says c {r = r} {k = g} {s = Setting true false} {o = o} (node_of c.u) f.here.owns d e refl).1 refl).1 refl (F.home_away c y))

        on : g ≡ c.g → node_of c.u ≡ c.n → F.Acted c (On r g (Mapped 2 Soiling)) o (done c.u.lay c.ws (Put (Map c.u.p g) 2)) (Map_write c.u.p ∷ [])
        on d e = let w = F.works_here c {r = r} {k = g} {s = Setting true false} (node_of c.u) f.here.knows refl d e in record {
          runs = ((F.is_of c e, w, twin d e), tt);
          match = match_one c (Map_write c.u.p) (F.held c (node_of c.u) f refl d e (F.behind c (Map_write c.u.p))) (Put (Map c.u.p g) 2) f.within (e, d) refl refl (rw me refl);
          knows = F.next_on c {r = r} {k = g} {s = Setting true false} {t = Mapped 2 Soiling} (F.behind c (Map_write c.u.p)) f.here.knows (λ _ _. w) (stage_kept (home c) (first c) c.f (Map_write c.u.p) refl c.u.p) (λ _. rw me (rw (eq-eqb g c.g d) refl));
        }
    row_sets {r} {g} {x} {write = false} {alone = alone} f = F.event_row c {r = r} {k = g} {s = Setting false alone} {t = Mapped 1 Giving} (node_of c.u) (Unmap c.u.p) f refl refl refl refl refl (λ off. untouched c (Put (Map c.u.p g) 1) f.within (λ i. off i.1 i.0))
        (λ d e w. record {
          may = w;
          works = w;
          match = match_one c (Unmap c.u.p) (F.held c (node_of c.u) f refl d e (F.behind c (Unmap c.u.p))) (Put (Map c.u.p g) 1) f.within (e, d) refl refl (rw me refl);
        })

    -- a look at another processor's mapping
    pub row_drops : {r : Round} {g q x : ℕ} {unwritten free : Bool} (lo : node_of c.u * c.u.lay.procs ≤ q) (hi : q < node_of c.u * c.u.lay.procs + c.u.lay.procs) → F.RowActs c o (drops {r = r} {g = g} {q = q} {x = x} {unwritten = unwritten} {free = free} lo hi)
    row_drops {r} {g} {q} {x} {unwritten} {free} lo hi f = subst (λ z. F.Acted c (On r g (Dropping (q + 1) (unwritten && not (x == 2)) (free && (x == 0)))) o (done c.u.lay c.ws (Get (Map q g))) (only z Look)) (sym (and_assoc (F.IsAt c g (node_of c.u)) unwritten (not (x == 2)))) (F.turn_row c {r = r} {k = g} {s = Dropping q unwritten free} {t = Dropping (q + 1) (unwritten && not (x == 2)) (free && (x == 0))} (node_of c.u) (unwritten && not (x == 2)) Look f refl refl refl refl refl (λ _. loaded c (Map q g) f.within)
        (λ d e other w. (w.0, w.1, (λ y. absurd (cc (sym other ∙ y))), w.3))
        (λ d e yes w. let z = both yes in let same : w.0 ≡ q = w.2 z.0 in record {
          may = (c.u.p, true, w.0, w.1, subst (λ y. (c.f.processors y).writes ≡ false) (sym same) (bare d e (not_two (x == 2) z.1)));
          works = (suc w.0, ap looked w.1, (λ _. omega (arith, same)), w.3);
          match = match_get c Look (F.held c (node_of c.u) f refl d e (F.behind c Look)) (Map q g) f.within refl;
        }))
      where
        not_two : (b : Bool) → not b ≡ true → b ≡ false
        not_two true y = absurd (cc y)
        not_two false y = refl

        at_n : node_of c.u ≡ c.n → node c q ≡ c.n
        at_n e = div-eq_of_lt-le c.u.lay.procs lo (let y = one_more (node_of c.u) c.u.lay.procs in omega (arith, y, hi)) ∙ e
          where
            one_more : (a b : ℕ) → (a + 1) * b ≡ a * b + b
            one_more a b = grind arith

        bare : g ≡ c.g → node_of c.u ≡ c.n → (x == 2) ≡ false → (c.f.processors q).writes ≡ false
        bare d e n2 = sym (says c (Map q g) f.within (at_n e, d)) ∙ ap (λ y. y == 2) (sym f.told) ∙ n2

    -- the turn is given back at the end of a release of the page
    pub row_finishes : {t0 g x : ℕ} → F.RowActs c o (finishes {t0 = t0} {g = g} {x = x})
    row_finishes {t0} {g} {x} f = F.only_if c (F.IsAt c g (node_of c.u)) (λ z. let m = F.at_is c g (node_of c.u) z in on m.0 m.1 (F.works_here c {r = Releasing t0 g} {k = g} {s = Done} (node_of c.u) f.here.knows refl m.0 m.1))
        (λ z. let off : g ≡ c.g → node_of c.u ≡ c.n → ⊥ = λ d e. absurd (cc (sym (F.is_at c d e) ∙ z)) in F.off_row c {w = w} {t = Cleaning t0 g} f (untouched c (Put (Turn (node_of c.u) g) 0) f.within (λ i. off i.1 i.0)) (λ y. absurd (cc y)) (λ _. refl) (λ e. rw (ne_eqb g c.g (λ d. off d e)) refl) f.here.knows.walked)
      where
        w : Work
        w = On (Releasing t0 g) g Done

        -- what is the same for each of its events
        ends : (e : Event) → keeps_stage e ≡ true → touched e ≡ 0 → g ≡ c.g → node_of c.u ≡ c.n → May (home c) (first c) (top c) c.f e → (F.behind c e).page.work ≡ D.Idle → ((F.behind c e).processors c.u.p).dirty ≡ false → F.Acted c (Off (Cleaning t0 g)) o (done c.u.lay c.ws (Put (Turn (node_of c.u) g) 0)) (e ∷ [])
        ends e st none d at may idle empty = record {
          runs = (may, tt);
          match = match_none c e (F.held c (node_of c.u) f refl d at (F.behind c e)) (Put (Turn (node_of c.u) g) 0) f.within none (λ _ _. idle);
          knows = F.off_knows c {r = Cleaning t0 g} (F.behind c e) (λ _. stage_kept (home c) (first c) c.f e st c.u.p ∙ F.stage_now c {w = w} f.here.knows (λ y. absurd (cc y)) at) (λ _. empty ∙ sym (if_true (g == c.g) false (is_dirty o c.g) (eq-eqb g c.g d))) f.here.knows.walked;
        }

        by : {e : Event} → finish_event c.u.p c.f.page.sole c.f.page.work ≡ e → F.Acted c (Off (Cleaning t0 g)) o (done c.u.lay c.ws (Put (Turn (node_of c.u) g) 0)) (e ∷ []) → F.Acted c (Off (Cleaning t0 g)) o (done c.u.lay c.ws (Put (Turn (node_of c.u) g) 0)) (finish_event c.u.p c.f.page.sole c.f.page.work ∷ [])
        by same y = subst (λ z. F.Acted c (Off (Cleaning t0 g)) o (done c.u.lay c.ws (Put (Turn (node_of c.u) g) 0)) (z ∷ [])) (sym same) y

        kept : g ≡ c.g → node_of c.u ≡ c.n → c.f.page.work ≡ D.Idle → c.f.page.sole ≡ true → F.Acted c (Off (Cleaning t0 g)) o (done c.u.lay c.ws (Put (Turn (node_of c.u) g) 0)) (finish_event c.u.p c.f.page.sole c.f.page.work ∷ [])
        kept d e idle sole = by (ap (finish_event c.u.p c.f.page.sole) idle ∙ ap (λ z. if z then Keep c.u.p else Early c.u.p) sole) (ends (Keep c.u.p) refl refl d e (idle, sole) idle (rw me refl))

        early : g ≡ c.g → node_of c.u ≡ c.n → c.f.page.work ≡ D.Idle → (opened (c.f.processors c.u.p).stage < c.f.page.flush) → (c.f.processors c.u.p).writes ≡ false → (c.f.page.sole ≡ true) ⊎ (c.f.page.sole ≡ false) → F.Acted c (Off (Cleaning t0 g)) o (done c.u.lay c.ws (Put (Turn (node_of c.u) g) 0)) (finish_event c.u.p c.f.page.sole c.f.page.work ∷ [])
        early d e idle later bare (inl sole) = kept d e idle sole
        early d e idle later bare (inr shared) = let st = F.stage_now c {w = w} f.here.knows (λ y. absurd (cc y)) e in by (ap (finish_event c.u.p c.f.page.sole) idle ∙ ap (λ z. if z then Keep c.u.p else Early c.u.p) shared) (ends (Early c.u.p) refl refl d e (t0, st, idle, subst (λ z. opened z < c.f.page.flush) st later, bare) idle (rw me refl))

        on : (d : g ≡ c.g) (e : node_of c.u ≡ c.n) → F.WorksHere c Done c.f → F.Acted c (Off (Cleaning t0 g)) o (done c.u.lay c.ws (Put (Turn (node_of c.u) g) 0)) (finish_event c.u.p c.f.page.sole c.f.page.work ∷ [])
        on d e (inl y) = let at = y.0.2 in by (ap (finish_event c.u.p c.f.page.sole) at) (ends Finish refl refl d e (c.u.p, y.0.0, y.0.1, at, y.1) refl (rw (eq-eqb c.u.p (worker c.f.page.work) (sym (ap worker at))) refl))
        on d e (inr (inl y)) = kept d e y.0 y.1
        on d e (inr (inr y)) = early d e y.0.0 y.0.1 y.1 (true_or_false c.f.page.sole)

    -- a time is drawn for the flush of the page; for another page it is a tick
    pub row_draws_send : {r : Round} {g h x : ℕ} → F.RowActs c o (draws_send {r = r} {g = g} {h = h} {x = x})
    row_draws_send {r} {g} {h} {x} f = go (node_of c.u == h) refl
      where
        drawn : (t : Stage) → stage_turn c.u g t ≡ Some (Page (node_of c.u) g) → is_soiling t ≡ false → (g ≡ c.g → node_of c.u ≡ c.n → F.WorksHere c t (F.behind c (Draw c.u.p))) → F.Acted c (On r g t) o (done c.u.lay c.ws (Add (Clock (node_of c.u)) 1)) (only (node_of c.u == c.n) (if g == c.g then Draw c.u.p else Tick))
        drawn t tu so wo = F.only_if c (node_of c.u == c.n) (λ d. at_node (eqb-true (node_of c.u) c.n d) (true_or_false (g == c.g)))
            (λ d. let off : node_of c.u ≡ c.n → ⊥ = λ e. absurd (cc (sym (eq-eqb (node_of c.u) c.n e) ∙ d)) in record { runs = tt; match = untouched c (Add (Clock (node_of c.u)) 1) f.within off; knows = F.elsewhere_on c {r = r} {k = g} {s = Drawing h} {t = t} (node_of c.u) (λ _. off) f.here.knows tu (F.dirty_on c t f.here.knows so) })
          where
            in_set : g ≡ c.g → node_of c.u ≡ c.n → (c.f.processors c.u.p).dirty ≡ true
            in_set d e = F.dirty_now c {w = On r g (Drawing h)} f.here.knows (λ y. absurd (cc y)) e ∙ ap (λ z. (g == c.g && false) || z) (F.dirty_at c.g r g (Drawing h) o f.here.releasing d f.here.knows.released) ∙ or_true (g == c.g && false)
              where
                or_true : (b : Bool) → (b || true) ≡ true
                or_true true = refl
                or_true false = refl

            at_node : node_of c.u ≡ c.n → ((g == c.g) ≡ true) ⊎ ((g == c.g) ≡ false) → F.Acted c (On r g t) o (done c.u.lay c.ws (Add (Clock (node_of c.u)) 1)) ((if g == c.g then Draw c.u.p else Tick) ∷ [])
            at_node e (inl z) = let d = eqb-true g c.g z in let at = F.releasing_at c.g r g (Drawing h) f.here.releasing in subst (λ y. F.Acted c (On r g t) o (done c.u.lay c.ws (Add (Clock (node_of c.u)) 1)) ((if y then Draw c.u.p else Tick) ∷ [])) (sym z)
                (F.event_on c {r = r} {k = g} {s = Drawing h} {t = t} (Draw c.u.p) f.here.knows refl refl so (record {
                  may = (at.0, F.stage_now c {w = On r g (Drawing h)} f.here.knows (λ y. absurd (cc y)) e ∙ at.1, in_set d e, F.works_here c {r = r} {k = g} {s = Drawing h} (node_of c.u) f.here.knows refl d e);
                  works = wo d e;
                  match = match_one c (Draw c.u.p) (F.held c (node_of c.u) f refl d e (F.behind c (Draw c.u.p))) (Add (Clock (node_of c.u)) 1) f.within e refl tt (F.clock_next c (node_of c.u) e f);
                }))
            at_node e (inr z) = let off : g ≡ c.g → node_of c.u ≡ c.n → ⊥ = λ d _. absurd (cc (sym (eq-eqb g c.g d) ∙ z)) in subst (λ y. F.Acted c (On r g t) o (done c.u.lay c.ws (Add (Clock (node_of c.u)) 1)) ((if y then Draw c.u.p else Tick) ∷ [])) (sym z)
                (F.ticks c f e (F.elsewhere_on c {r = r} {k = g} {s = Drawing h} {t = t} (node_of c.u) off f.here.knows tu (F.dirty_on c t f.here.knows so)))

        ready : node_of c.u ≡ c.n → D.Ready c.u.p c.f.page.clock ≡ D.Ready c.u.p x
        ready e = ap (D.Ready c.u.p) (sym (F.time_is c (node_of c.u) e f))

        go : (b : Bool) → (node_of c.u == h) ≡ b → F.Acted c (On r g (if b then Stamping h x false else Timed h x)) o (done c.u.lay c.ws (Add (Clock (node_of c.u)) 1)) (only (node_of c.u == c.n) (if g == c.g then Draw c.u.p else Tick))
        go true is = drawn (Stamping h x false) refl refl (λ d e. (ready e, inl (eq-eqb c.n c.h (sym e ∙ eqb-true (node_of c.u) h is ∙ F.home_found c h (f.here.owns.homes d)))))
        go false is = drawn (Timed h x) refl refl (λ d e. ready e)

    -- a look at a mapping in a break, which may be that of another node's processor
    pub row_reads_map : {r : Round} {g h j q x : ℕ} {k : Cause} → F.RowActs c o (reads_map {r = r} {g = g} {h = h} {j = j} {q = q} {x = x} {c = k})
    row_reads_map {r} {g} {h} {j} {q} {x} {k} f = go (x == 2) refl
      where
        go : (b : Bool) → (x == 2) ≡ b → F.Acted c (On r g (if b then Marking k h j q else Breaking k h j (q + 1))) o (done c.u.lay c.ws (Get (Map q g))) (only (F.IsAt c g j && not b) Pass_by)
        go true is = F.turn_row c {r = r} {k = g} {s = Breaking k h j q} {t = Marking k h j q} j false Pass_by f refl refl refl refl refl (λ _. loaded c (Map q g) f.within) (λ d e _ w. w) (λ d e other w. absurd (cc other))
        go false is = F.turn_row c {r = r} {k = g} {s = Breaking k h j q} {t = Breaking k h j (q + 1)} j true Pass_by f refl refl refl refl refl (λ _. loaded c (Map q g) f.within) (λ d e other w. absurd (cc other))
            (λ d e _ w. record {
              may = (q, w, bare d (cases_eq (node c q) c.n));
              works = ap looked w ∙ ap D.Marking (let z : suc q ≡ q + 1 = omega arith in z);
              match = match_get c Pass_by (F.held c j f refl d e (F.behind c Pass_by)) (Map q g) f.within refl;
            })
          where
            bare : g ≡ c.g → (node c q ≡ c.n) ⊎ (node c q ≢ c.n) → (c.f.processors q).writes ≡ false
            bare d (inl e) = sym (says c (Map q g) f.within (e, d)) ∙ ap (λ y. y == 2) (sym f.told) ∙ is
            bare d (inr ne) = F.no_mapping c q ne

    -- a word of the set that a release takes
    pub row_collects : {t0 k x : ℕ} {set : List ℕ} → F.RowActs c o (collects {t0 = t0} {k = k} {x = x} {set = set})
    row_collects {t0} {k} {x} {set} f = F.only_if c (node_of c.u == c.n && k == group_of c.g) (λ d. let z = both d in on (eqb-true (node_of c.u) c.n z.0) (eqb-true k (group_of c.g) z.1))
        (λ d. let other : node_of c.u ≡ c.n → k ≢ group_of c.g = λ e b. absurd (cc (sym (and_true (eq-eqb (node_of c.u) c.n e) (eq-eqb k (group_of c.g) b)) ∙ d)) in
        F.off_row c {w = w} {t = Collecting t0 (k + 1) next} f (untouched c (Swap (Nle c.u.p k) 0) f.within (λ i. other i.0 i.1)) (λ y. absurd (cc y))
        (λ e. ap (λ z. if z then D.Drawn t0 else D.Releasing t0) (le_next k (group_of c.g) (other e)))
        (λ e. ap (λ z. if z then is_dirty o c.g else (is_dirty o c.g || has_page set c.g)) (le_next k (group_of c.g) (other e)) ∙ ap (λ z. if nat_le (k + 1) (group_of c.g) then is_dirty o c.g else (is_dirty o c.g || z)) (set_other c.g k (x % 2 ^ pages_in c.u.lay k) set (other e))) tt)
      where
        w : Work
        w = Off (Collecting t0 k set)

        next : List ℕ
        next = slice_set set k (x % 2 ^ pages_in c.u.lay k)

        on : node_of c.u ≡ c.n → k ≡ group_of c.g → F.Acted c (Off (Collecting t0 (k + 1) next)) o (done c.u.lay c.ws (Swap (Nle c.u.p k) 0)) (Take c.u.p ∷ [])
        on e b = record {
          runs = ((t0, drawn), tt);
          match = match_one c (Take c.u.p) (λ z. c.match.idle z) (Swap (Nle c.u.p k) 0) f.within (e, b) refl refl (not_true (λ z. no_bit (c.g % 64) z) ∙ sym (rw me refl));
          knows = F.off_knows c {r = Collecting t0 (k + 1) next} (F.behind c (Take c.u.p)) (λ _. stage) (λ _. dirty) tt;
        }
          where
            drawn : (c.f.processors c.u.p).stage ≡ D.Drawn t0
            drawn = F.stage_now c {w = w} f.here.knows (λ y. absurd (cc y)) e ∙ if_true (nat_le k (group_of c.g)) (D.Drawn t0) (D.Releasing t0) (at_it k (group_of c.g) b)

            stage : ((F.behind c (Take c.u.p)).processors c.u.p).stage ≡ release_view c.g (Off (Collecting t0 (k + 1) next))
            stage = let here : ((F.behind c (Take c.u.p)).processors c.u.p).stage ≡ D.Releasing (opened (c.f.processors c.u.p).stage) = rw me refl in
                here ∙ ap (λ z. D.Releasing (opened z)) drawn ∙ sym (if_false (nat_le (k + 1) (group_of c.g)) (D.Drawn t0) (D.Releasing t0) (past_it k (group_of c.g) b))

            held : (c.f.processors c.u.p).dirty ≡ is_dirty o c.g
            held = F.dirty_now c {w = w} f.here.knows (λ y. absurd (cc y)) e ∙ if_true (nat_le k (group_of c.g)) (is_dirty o c.g) (is_dirty o c.g || has_page set c.g) (at_it k (group_of c.g) b)

            found : (c.f.processors c.u.p).bit ≡ has_page next c.g
            found = sym (says c (Nle c.u.p k) f.within (e, b)) ∙ ap (has_bit c.g) (sym f.told) ∙ sym (set_same c.u.lay c.g k x set c.g_in c.few f.here.releasing b)

            dirty : ((F.behind c (Take c.u.p)).processors c.u.p).dirty ≡ dirty_view c.g (Off (Collecting t0 (k + 1) next)) o
            dirty = let here : ((F.behind c (Take c.u.p)).processors c.u.p).dirty ≡ ((c.f.processors c.u.p).dirty || (c.f.processors c.u.p).bit) = rw me refl in
                here ∙ ap (λ z. z || (c.f.processors c.u.p).bit) held ∙ ap (λ z. is_dirty o c.g || z) found ∙ sym (if_false (nat_le (k + 1) (group_of c.g)) (is_dirty o c.g) (is_dirty o c.g || has_page next c.g) (past_it k (group_of c.g) b))

    -- a turn is won
    pub win_visits : {r : Round} {g h busy i : ℕ} {write : Bool} (j : ℕ) (lo : i ≤ j) (here : is_busy busy j ≡ true) (none : (k : ℕ) → i ≤ k → k < j → is_busy busy k ≡ false) → F.WinActs c o (visits {r = r} {g = g} {h = h} {busy = busy} {i = i} {write = write} j lo here none)
    win_visits {r} {g} {h} {busy} {i} {write} j lo here none f = F.win_on c {r = r} {k = g} {s = Looking (Fault write h busy) j} {w = On r g (Visiting write h busy i)} j f (λ d. absurd (cc d)) refl (λ d e w. w)
        (λ e. F.release_same c.g r g (Visiting write h busy i) (Looking (Fault write h busy) j)) (λ e. refl)
        (subst (λ z. IfSome z (λ y. c.g < y → is_dirty o c.g ≡ false)) (F.walk_same c.u.lay.pages r g (Visiting write h busy i) (Looking (Fault write h busy) j)) f.here.knows.walked)
        (subst (λ z. IfSome z (λ y. y ≡ c.g → is_dirty o c.g ≡ true)) (F.released_same r g (Visiting write h busy i) (Looking (Fault write h busy) j)) f.here.knows.released)

    pub win_releases : {t0 g : ℕ} (dirty : slice_index_or o.dirty g false ≡ true) → F.WinActs c o (releases {t0 = t0} {g = g} dirty)
    win_releases {t0} {g} dirty f = F.win_on c {r = Releasing t0 g} {k = g} {s = Released} {w = Off (Releasing t0 g)} (node_of c.u) f (λ d. absurd (cc d)) refl (λ d e w. w) (λ e. refl) (λ e. view) f.here.knows.walked (λ d. subst (λ z. is_dirty o z ≡ true) d dirty)
      where
        view : is_dirty o c.g ≡ ((g == c.g && false) || is_dirty o c.g)
        view = go (g == c.g)
          where
            go : (b : Bool) → is_dirty o c.g ≡ ((b && false) || is_dirty o c.g)
            go true = refl
            go false = refl

    -- a decision with an event
    pub slip_marked : {r : Round} {g h j : ℕ} {k : Cause} → F.SlipActs c o (marked {r = r} {g = g} {h = h} {j = j} {c = k})
    slip_marked {r} {g} {h} {j} {k} own f = go (j == h) refl
      where
        at_home : g ≡ c.g → h ≡ c.h
        at_home d = F.home_found c h (f.owns.homes d)

        go : (b : Bool) → (j == h) ≡ b → F.Acted c (On r g (if b then Ending k j else Saving k h j 0 Whole)) o c.ws (only (F.IsAt c g j && not b) Copy)
        go true is = F.event_slip c {r = r} {k = g} {s = Breaking k h j (j * c.u.lay.procs + c.u.lay.procs)} {t = Ending k j} j false Copy f.knows refl refl refl refl refl
            (λ d e _ w. let here : home c ≡ true = eq-eqb c.n c.h (sym e ∙ eqb-true j h is ∙ at_home d) in w ∙ ap (λ z. D.Marking (z * c.u.lay.procs + c.u.lay.procs)) e ∙ sym (ap (λ z. if z then D.Marking (top c) else D.Copied) here))
            (λ d e other w. absurd (cc other))
        go false is = F.event_slip c {r = r} {k = g} {s = Breaking k h j (j * c.u.lay.procs + c.u.lay.procs)} {t = Saving k h j 0 Whole} j true Copy f.knows refl refl refl refl refl
            (λ d e other w. absurd (cc other))
            (λ d e _ w. let away : home c ≡ false = ne_eqb c.n c.h (λ z. absurd (cc (sym (eq-eqb j h (e ∙ z ∙ sym (at_home d))) ∙ is))) in record {
              may = (j * c.u.lay.procs + c.u.lay.procs, w, (let z = ap (λ y. y * c.u.lay.procs + c.u.lay.procs) e in omega (arith, z)), away);
              works = ap D.Copying (sym (part_first c.i));
              match = match_still c Copy (F.busy c w (λ z. absurd (cc z)) (F.behind c Copy)) refl;
            })
          where
            part_first : (i : ℕ) → part_view i 0 D.Before ≡ D.Before
            part_first i = split (nat_lt 0 i) (0 == i) refl refl
              where
                split : (a b : Bool) → nat_lt 0 i ≡ a → (0 == i) ≡ b → (if a then D.Before else (if b then D.Before else D.After)) ≡ D.Before
                split true b e f = refl
                split false true e f = refl
                split false false e f = absurd (bad e f)
                  where
                    bad : nat_lt 0 i ≡ false → (0 == i) ≡ false → ⊥
                    bad e f = grind arith

    -- decisions on no page
    pub slip_released : {t0 : ℕ} → F.SlipActs c o (released {t0 = t0})
    slip_released {t0} own f = F.off_stays c {w = Off (Releasing t0 c.u.lay.pages)} {t = Signalling t0} f.knows (λ d. absurd (cc d)) (λ _. refl) (λ _. refl) f.knows.walked

    pub slip_clean : {t0 g : ℕ} (e : slice_index_or o.dirty g false ≡ false) → F.SlipActs c o (clean {t0 = t0} {g = g} e)
    slip_clean {t0} {g} absent own f = F.off_stays c {w = Off (Releasing t0 g)} {t = Releasing t0 (g + 1)} f.knows (λ d. absurd (cc d)) (λ _. refl) (λ _. refl) (λ l. go l (cases_eq c.g g))
      where
        go : c.g < g + 1 → (c.g ≡ g) ⊎ (c.g ≢ g) → is_dirty o c.g ≡ false
        go l (inl e) = subst (λ z. is_dirty o z ≡ false) (sym e) absent
        go l (inr ne) = f.knows.walked (omega (arith, l, ne))

    -- notes
    pub note_signals : {t0 : ℕ} (of : Obj) (j : ℕ) (none : None ≡ None) (other : is_close of ≡ false) → F.NoteActs c o (signals {t0 = t0} {of = of} {j = j} none other)
    note_signals {t0} of j none other f = F.only_if c (node_of c.u == c.n)
        (λ d. let e = eqb-true (node_of c.u) c.n d in record {
          runs = ((t0, F.stage_now c {w = Off (Signalling t0)} f.knows (λ d. absurd (cc d)) e, F.dirty_now c {w = Off (Signalling t0)} f.knows (λ d. absurd (cc d)) e ∙ f.knows.walked c.g_in), tt);
          match = match_still c (Signal c.u.p) (λ z. c.match.idle z) refl;
          knows = F.off_knows c {r = Waiting} (F.behind c (Signal c.u.p)) (λ _. rw me refl) (λ _. dirty_kept (home c) (first c) c.f (Signal c.u.p) refl c.u.p ∙ F.dirty_now c {w = Off (Signalling t0)} f.knows (λ d. absurd (cc d)) e) tt;
        })
        (λ d. record { runs = tt; match = c.match; knows = F.off_knows c {r = Waiting} c.f (λ e. absurd (cc (sym (eq-eqb (node_of c.u) c.n e) ∙ d))) (λ e. absurd (cc (sym (eq-eqb (node_of c.u) c.n e) ∙ d))) tt })

    pub note_arrives : {t0 : ℕ} (j : ℕ) (none : None ≡ None) → F.NoteActs c o (arrives {t0 = t0} {j = j} none)
    note_arrives {t0} j none f = F.only_if c (node_of c.u == c.n)
        (λ d. let e = eqb-true (node_of c.u) c.n d in record {
          runs = ((t0, F.stage_now c {w = Off (Signalling t0)} f.knows (λ d. absurd (cc d)) e, F.dirty_now c {w = Off (Signalling t0)} f.knows (λ d. absurd (cc d)) e ∙ f.knows.walked c.g_in), tt);
          match = match_still c (Signal c.u.p) (λ z. c.match.idle z) refl;
          knows = F.off_knows c {r = Arrived} (F.behind c (Signal c.u.p)) (λ _. rw me refl) (λ _. dirty_kept (home c) (first c) c.f (Signal c.u.p) refl c.u.p ∙ F.dirty_now c {w = Off (Signalling t0)} f.knows (λ d. absurd (cc d)) e) tt;
        })
        (λ d. record { runs = tt; match = c.match; knows = F.off_knows c {r = Arrived} c.f (λ e. absurd (cc (sym (eq-eqb (node_of c.u) c.n e) ∙ d))) (λ e. absurd (cc (sym (eq-eqb (node_of c.u) c.n e) ∙ d))) tt })

    pub note_maps : {r : Round} {g k : ℕ} {s : Stage} → F.NoteActs c o (maps {r = r} {g = g} {k = k} {s = s})
    note_maps {r} {g} {k} {s = Parting write h busy} f = F.noted c refl (F.stays c {r = r} {k = g} {s = Mapped k (Parting write h busy)} {t = Parting write h busy} f.knows (λ e. e) (λ _ _ w. w) refl)
    note_maps {r} {g} {k} {s = Soiling} f = F.noted c refl (F.stays c {r = r} {k = g} {s = Mapped k Soiling} {t = Soiling} f.knows (λ e. e) (λ _ _ w. w) refl)
    note_maps {r} {g} {k} {s = Giving} f = F.noted c refl (F.stays c {r = r} {k = g} {s = Mapped k Giving} {t = Giving} f.knows (λ e. e) (λ _ _ w. w) refl)
    note_maps {r} {g} {k} {s = Dropping q unwritten free} f = F.noted c refl (F.stays c {r = r} {k = g} {s = Mapped k (Dropping q unwritten free)} {t = Dropping q unwritten free} f.knows (λ e. e) (λ _ _ w. w) refl)
    note_maps {r} {g} {k} {s = Done} f = F.noted c refl (F.stays c {r = r} {k = g} {s = Mapped k Done} {t = Done} f.knows (λ e. e) (λ _ _ w. w) refl)
    note_maps {r} {g} {k} {s = Emptying q free} f = F.noted c refl (F.stays c {r = r} {k = g} {s = Mapped k (Emptying q free)} {t = Emptying q free} f.knows (λ e. e) (λ _ _ w. w) refl)
    note_maps {r} {g} {k} {s} f = absurd f.fits.0

    pub note_cleans : {t0 g : ℕ} → F.NoteActs c o (cleans {t0 = t0} {g = g})
    note_cleans {t0} {g} f = record { runs = tt; match = c.match; knows = F.off_knows c {r = Releasing t0 (g + 1)} c.f (λ e. F.stage_now c {w = Off (Cleaning t0 g)} f.knows (λ d. absurd (cc d)) e) (λ e. F.dirty_now c {w = Off (Cleaning t0 g)} f.knows (λ d. absurd (cc d)) e ∙ view (cases_eq c.g g)) (λ l. walked l (cases_eq c.g g)) }
      where
        cleared : c.g ≡ g → is_dirty (cleaned o g) c.g ≡ false
        cleared e = subst (λ z. slice_index_or (slice_set o.dirty g false) z false ≡ false) (sym e) (get_or-set_same o.dirty g false false (let z = f.dirty_in in let y = c.g_in in omega (arith, z, y, e)))

        kept : c.g ≢ g → is_dirty o c.g ≡ is_dirty (cleaned o g) c.g
        kept ne = sym (get_or-set_other o.dirty g c.g false false ne)

        view : (c.g ≡ g) ⊎ (c.g ≢ g) → (if g == c.g then false else is_dirty o c.g) ≡ is_dirty (cleaned o g) c.g
        view (inl e) = if_true (g == c.g) false (is_dirty o c.g) (eq-eqb g c.g (sym e)) ∙ sym (cleared e)
        view (inr ne) = if_false (g == c.g) false (is_dirty o c.g) (ne_eqb g c.g (λ z. ne (sym z))) ∙ kept ne

        walked : c.g < g + 1 → (c.g ≡ g) ⊎ (c.g ≢ g) → is_dirty (cleaned o g) c.g ≡ false
        walked l (inl e) = cleared e
        walked l (inr ne) = sym (kept ne) ∙ f.knows.walked (omega (arith, l, ne))

    pub note_joins : {t0 : ℕ} {set : List ℕ} → F.NoteActs c o (joins {t0 = t0} {set = set})
    note_joins {t0} {set} f = record { runs = tt; match = c.match; knows = F.off_knows c {r = Releasing t0 0} c.f (λ e. F.stage_now c {w = w} f.knows (λ d. absurd (cc d)) e ∙ if_false (nat_le (groups c.u.lay) (group_of c.g)) (D.Drawn t0) (D.Releasing t0) past) (λ e. F.dirty_now c {w = w} f.knows (λ d. absurd (cc d)) e ∙ if_false (nat_le (groups c.u.lay) (group_of c.g)) (is_dirty o c.g) (is_dirty o c.g || has_page set c.g) past ∙ ap (λ z. is_dirty o c.g || has_page set z) zero_more ∙ sym (joined_at o.dirty set 0 c.g (let z = f.dirty_in in let y = c.g_in in omega (arith, z, y)))) (λ l. absurd (omega (arith, l))) }
      where
        w : Work
        w = Off (Collecting t0 (groups c.u.lay) set)

        zero_more : c.g ≡ 0 + c.g
        zero_more = omega arith

        past : nat_le (groups c.u.lay) (group_of c.g) ≡ false
        past = lt-leb (groups c.u.lay) (group_of c.g) (group_in c.u.lay c.g c.g_in)

        joined_at : (ds : List Bool) (set : List ℕ) (from k : ℕ) → k < length ds → slice_index_or (with_pages ds set from) k false ≡ (slice_index_or ds k false || has_page set (from + k))
        joined_at [] set from k l = absurd (omega (arith, l))
        joined_at (d ∷ ds) set from zero l = let here : from ≡ from + 0 = omega arith in ap (λ z. d || has_page set z) here
        joined_at (d ∷ ds) set from (suc k) l = let next : from + 1 + k ≡ from + suc k = omega arith in joined_at ds set (from + 1) k (omega (arith, l)) ∙ ap (λ z. slice_index_or ds k false || has_page set z) next

    pub note_soils : {r : Round} {g : ℕ} → F.NoteActs c o (soils {r = r} {g = g})
    note_soils {r} {g} f = go r f
      where
        view : (c.g ≡ g) ⊎ (c.g ≢ g) → ((g == c.g && true) || is_dirty o c.g) ≡ ((g == c.g && false) || is_dirty (soiled o g) c.g)
        view (inl e) = rw (eq-eqb g c.g (sym e)) (sym (subst (λ z. slice_index_or (slice_set o.dirty g true) z false ≡ true) (sym e) (get_or-set_same o.dirty g true false (let z = f.dirty_in in let y = c.g_in in omega (arith, z, y, e)))))
        view (inr ne) = rw (ne_eqb g c.g (λ z. ne (sym z))) (sym (get_or-set_other o.dirty g c.g true false ne))

        go : (r : Round) → F.Here c (On r g Soiling) o → F.Acted c (On r g Giving) (soiled o g) c.ws []
        go (Access faulted write a) f = record { runs = tt; match = c.match; knows = record { works = λ tu d. f.knows.works tu d; stage = λ e _. f.knows.stage e (λ d. absurd (cc d)); dirty = λ e _. f.knows.dirty e (λ d. absurd (cc d)) ∙ view (cases_eq c.g g); walked = tt; released = tt } }
        go r f = absurd f.fits

    -- a note with an event
    pub note_filled : {r : Round} {g h t : ℕ} → F.NoteActs c o (filled {r = r} {g = g} {h = h} {t = t})
    note_filled {r} {g} {h} {t} f = F.event_note c {r = r} {k = g} {s = Filling h t c.u.lay.words Whole} {t = Filled t} (node_of c.u) Enter f.knows refl refl refl refl refl
        (λ d e w. let z = F.turn_says c {r = r} {k = g} {s = Filling h t c.u.lay.words Whole} {o = o} (node_of c.u) f.owns d e refl in record {
          may = (w, F.twin_same c ∙ z.1);
          works = (w, refl);
          match = match_said c Enter (λ _. w) (λ it p b. said z.0 it p b);
        })
      where
        said : (c.b.nodes c.n).dir ≡ 3 → (it : Item) → IsPart c it → P.block it ≡ 5 → Says c (F.behind c Enter) it (word c.u.lay c.ws it)
        said three (Dir k j) p b = (λ _. refl, λ _. inr (ap (word c.u.lay c.ws) (λ y. Dir (p.0 y) (p.1 y)) ∙ c.owned.dir c.n c.n_in ∙ three))
        said three it p b = absurd (omega (arith, b))
