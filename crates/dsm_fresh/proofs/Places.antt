-- What the counters say of places in the list.
use Rattle.std.proofs.Common.{◌≡◌, ◌≢◌, ℕ, ◌<◌, ◌≤◌, ◌⊎◌, ◌++◌, Bool, true, false, List, [], ◌∷◌, refl, sym, ap, ◌∙◌, subst, inl, inr, arith, rules}
use Rattle.std.proofs.lemmas.Bool.{cases_eq, eq-eqb, ne_eqb}
use mathlib.Core.List.{append_assoc}
use Rattle.std.specs.Prelude.{max}
use Rattle.dsm_fresh.specs.Stages.{Work, Ready, Open, Copied, opened, copied, stamped, snap_of, is_open}
use Rattle.dsm_fresh.specs.Pages.{Processor, State, put, Event, Reset, Draw, First, Last, Stamp, Enter, Current, Current_sole, Done, Pass, processor_after, processor_of, happens, after, start}
use Rattle.dsm_fresh.specs.Premises.{May, Runs}
use Rattle.dsm_fresh.specs.Laws.{Finished, Since, SinceBreak, SinceStart}
use Rattle.dsm_fresh.proofs.Facts.{is_copied}
use Rattle.dsm_fresh.proofs.Keeps.{Holds, keeps, goes_on, starts, fresh, usable}

abbrev opener : Work → ℕ
opener (Open q a t e) = q
opener (Copied q a t e) = q
opener _ = 0

abbrev Began : ℕ → ℕ → ℕ → List Event → Type 0
Began first i k past = (xs : List Event) × (a : Bool) × (ys : List Event) × (past ≡ xs ++ (First i a ∷ ys)) × (k ≤ (after first start xs).page.sent)

module _ (first top : ℕ) where
  began_more : (i k : ℕ) (past : List Event) (e : Event) → Began first i k past → Began first i k (past ++ (e ∷ []))
  began_more i k past e b = (b.0, b.1, b.2 ++ (e ∷ []), ap (λ z. z ++ (e ∷ [])) b.3 ∙ append_assoc b.0 (First i b.1 ∷ b.2) (e ∷ []), b.4)

  finished_more : (k : ℕ) (past : List Event) (e : Event) → Finished first k past → Finished first k (past ++ (e ∷ []))
  finished_more k past e b =
      (b.0, b.1, b.2, b.3, b.4 ++ (e ∷ []), ap (λ z. z ++ (e ∷ [])) b.5 ∙ (append_assoc b.0 (First b.1 b.2 ∷ (b.3 ++ (Last b.1 ∷ b.4))) (e ∷ []) ∙ ap (λ z. b.0 ++ (First b.1 b.2 ∷ z)) (append_assoc b.3 (Last b.1 ∷ b.4) (e ∷ []))), b.6)

  finishes : (k i : ℕ) (past : List Event) → Began first i k past → Finished first k (past ++ (Last i ∷ []))
  finishes k i past b = (b.0, i, b.1, b.2, [], ap (λ z. z ++ (Last i ∷ [])) b.3 ∙ append_assoc b.0 (First i b.1 ∷ b.2) (Last i ∷ []), b.4)

  begins : (k i : ℕ) (a : Bool) (past : List Event) → k ≤ (after first start past).page.sent → Began first i k (past ++ (First i a ∷ []))
  begins k i a past h = (past, a, [], refl, h)

  record Dated (past : List Event) (s : State) : Type 0 where
    opened_at : (k : ℕ) → is_open s.page.work ≡ true → k ≤ snap_of s.page.work → Began first (opener s.page.work) k past
    got_at : (k : ℕ) → 0 < k → k ≤ s.page.got → Finished first k past
    copied_at : is_copied s.page.work ≡ true → Finished first 0 past
    update_at : s.page.update ≢ 0 → Finished first 0 past

  -- an event that begins and finishes no fetch
  kept : (past : List Event) (s s' : State) (e : Event) → s'.page.got ≡ s.page.got → (is_open s'.page.work ≡ true → (is_open s.page.work ≡ true) × (snap_of s'.page.work ≡ snap_of s.page.work) × (opener s.page.work ≡ opener s'.page.work)) → (is_copied s'.page.work ≡ true → is_copied s.page.work ≡ true) → (s'.page.update ≢ 0 → s.page.update ≢ 0) → Dated past s → Dated (past ++ (e ∷ [])) s'
  kept past s s' e a b c u d =
      record {
        opened_at = λ k o h. subst (λ i. Began first i k (past ++ (e ∷ []))) (b o).2 (began_more (opener s.page.work) k past e (d.opened_at k (b o).0 (let z = (b o).1 in omega (arith, h, z))));
        got_at = λ k p h. finished_more k past e (d.got_at k p (omega (arith, h, a)));
        copied_at = λ o. finished_more 0 past e (d.copied_at (c o));
        update_at = λ n. finished_more 0 past e (d.update_at (u n));
      }

  opens : (past : List Event) (s : State) (q : ℕ) (a : Bool) (w : Work) (t : ℕ) → s ≡ after first start past → w ≡ Ready q t → (k : ℕ) → k ≤ snap_of (opened a s.page.sent w) → Began first (opener (opened a s.page.sent w)) k (past ++ (First q a ∷ []))
  opens past s q a w t e i k h =
      let z : snap_of (opened a s.page.sent w) ≡ s.page.sent = ap (λ y. snap_of (opened a s.page.sent y)) i in
      let y : s.page.sent ≡ (after first start past).page.sent = ap (λ x. x.page.sent) e in
      let o : q ≡ opener (opened a s.page.sent w) = sym (ap (λ y. opener (opened a s.page.sent y)) i) in
      subst (λ j. Began first j k (past ++ (First q a ∷ []))) o (begins k q a past (omega (arith, h, z, y)))

  either : (a b k : ℕ) → k ≤ max a b → (k ≤ a) ⊎ (k ≤ b)
  either a b k h = grind arith

  closed : (w : Work) (a : Bool) (q t e : ℕ) → w ≡ Copied q a t e → is_open (stamped w) ≡ true → ⊥
  closed w a q t e i o = go a (subst (λ z. is_open (stamped z) ≡ true) i o)
    where
      go : (b : Bool) → is_open (stamped (Copied q b t e)) ≡ true → ⊥
      go true h = cc h
      go false h = cc h

  stepped : (past : List Event) (s : State) (e : Event) → s ≡ after first start past → May first top s e → Dated past s → Dated (past ++ (e ∷ [])) (happens first s e)
  stepped past s (First q a) i m d =
      record {
        opened_at = λ k o h. opens past s q a s.page.work m.0 i m.1 k h;
        got_at = λ k p h. finished_more k past (First q a) (d.got_at k p h);
        copied_at = λ o. absurd (let z = subst (λ w. is_copied (opened a s.page.sent w) ≡ true) m.1 o in cc z);
        update_at = λ n. finished_more 0 past (First q a) (d.update_at n);
      }
  stepped past s (Last q) i m d =
      let o : is_open s.page.work ≡ true = ap is_open m.3 in
      let same : snap_of (copied s.page.work) ≡ snap_of s.page.work = ap (λ y. snap_of (copied y)) m.3 ∙ ap snap_of (sym m.3) in
      let who : opener s.page.work ≡ opener (copied s.page.work) = ap opener m.3 ∙ sym (ap (λ y. opener (copied y)) m.3) in
      record {
        opened_at = λ k x h. subst (λ j. Began first j k (past ++ (Last q ∷ []))) who (began_more (opener s.page.work) k past (Last q) (d.opened_at k o (omega (arith, h, same))));
        got_at = λ k p h. pick k p (λ l. subst (λ j. Began first j k past) (ap opener m.3) (d.opened_at k o l)) (either s.page.got (snap_of s.page.work) k h);
        copied_at = λ x. finishes 0 q past (subst (λ j. Began first j 0 past) (ap opener m.3) (d.opened_at 0 o (omega arith)));
        update_at = λ n. finished_more 0 past (Last q) (d.update_at n);
      }
    where
      pick : (k : ℕ) → 0 < k → (k ≤ snap_of s.page.work → Began first q k past) → (k ≤ s.page.got) ⊎ (k ≤ snap_of s.page.work) → Finished first k (past ++ (Last q ∷ []))
      pick k p f (inl h) = finished_more k past (Last q) (d.got_at k p h)
      pick k p f (inr h) = finishes k q past (f h)
  stepped past s (Draw q) i m d = kept past s _ (Draw q) refl (λ o. absurd (cc o)) (λ o. absurd (cc o)) (λ n. n) d
  stepped past s (Stamp q) i m d =
      let c : Finished first 0 (past ++ (Stamp q ∷ [])) = finished_more 0 past (Stamp q) (d.copied_at (ap is_copied m.3)) in
      record {
        opened_at = λ k o h. absurd (closed s.page.work m.0 q m.1 m.2 m.3 o);
        got_at = λ k p h. finished_more k past (Stamp q) (d.got_at k p h);
        copied_at = λ o. c;
        update_at = λ n. c;
      }
  stepped past s Reset i m d = kept past s _ Reset refl (λ o. (o, refl, refl)) (λ o. o) (λ n. absurd (n refl)) d
  stepped past s (Enter q) i m d = kept past s _ (Enter q) refl (λ o. absurd (cc o)) (λ o. absurd (cc o)) (λ n. n) d
  stepped past s (Current q) i m d = kept past s _ (Current q) refl (λ o. absurd (cc o)) (λ o. absurd (cc o)) (λ n. n) d
  stepped past s (Current_sole q) i m d = kept past s _ (Current_sole q) refl (λ o. absurd (cc o)) (λ o. absurd (cc o)) (λ n. n) d
  stepped past s (Done q) i m d = kept past s _ (Done q) refl (λ o. absurd (cc o)) (λ o. absurd (cc o)) (λ n. n) d
  stepped past s e i m d = kept past s (happens first s e) e refl (λ o. (o, refl, refl)) (λ o. o) (λ n. n) d

  after_more : (s : State) (es : List Event) (e : Event) → after first s (es ++ (e ∷ [])) ≡ happens first (after first s es) e
  after_more s [] e = refl
  after_more s (d ∷ es) e = after_more (happens first s d) es e

  dated : (past es : List Event) (s : State) → s ≡ after first start past → Runs first top s es → Dated past s → Dated (past ++ es) (after first s es)
  dated past [] s i r d = subst (λ z. Dated z s) (sym (end past)) d
    where
      end : (xs : List Event) → xs ++ [] ≡ xs
      end xs = search (rules)
  dated past (e ∷ es) s i r d =
      let next = dated (past ++ (e ∷ [])) es (happens first s e) (ap (λ z. happens first z e) i ∙ sym (after_more start past e)) r.1 (stepped past s e i r.0 d) in
      subst (λ z. Dated z (after first (happens first s e) es)) (append_assoc past (e ∷ []) es) next

  begun : Dated [] start
  begun = record { opened_at = λ k o h. absurd (cc o); got_at = λ k p h. absurd (omega (arith, p, h)); copied_at = λ o. absurd (cc o); update_at = λ n. absurd (n refl) }

  -- what a processor knows never falls
  known_after : (told : ℕ) (x : Processor) (e : Event) → x.known ≤ told → x.known ≤ (processor_after first told x e).known
  known_after told x (Pass q) h = h
  known_after told x e h = omega arith

  known_put : (f : ℕ → Processor) (p : ℕ) (y : Processor) (q : ℕ) → (f p).known ≤ y.known → (f q).known ≤ (put f p y q).known
  known_put f p y q h = go (cases_eq q p)
    where
      go : (q ≡ p) ⊎ (q ≢ p) → (f q).known ≤ (put f p y q).known
      go (inl i) = rw (eq-eqb q p i) (subst (λ z. (f z).known ≤ y.known) (sym i) h)
      go (inr n) = rw (ne_eqb q p n) (omega arith)

  known_step : (s : State) (e : Event) (q : ℕ) → Holds first top s → (s.processors q).known ≤ ((happens first s e).processors q).known
  known_step s e q h = let p = processor_of first s.page.hand e in known_put s.processors p (processor_after first s.page.told (s.processors p) e) q (known_after s.page.told (s.processors p) e (h.each p).known_in)

  known_grows : (s : State) (es : List Event) (q : ℕ) → Holds first top s → Runs first top s es → (s.processors q).known ≤ ((after first s es).processors q).known
  known_grows s [] q h r = omega arith
  known_grows s (e ∷ es) q h r = let a = known_step s e q h in let b = known_grows (happens first s e) es q (keeps first top s e h r.0) r.1 in omega (arith, a, b)

  split : (xs ys : List Event) (s : State) → Runs first top s (xs ++ ys) → Runs first top s xs × Runs first top (after first s xs) ys
  split [] ys s r = (tt, r)
  split (x ∷ xs) ys s r = let z = split xs ys (happens first s x) r.1 in ((r.0, z.0), z.1)

  after_both : (xs ys : List Event) (s : State) → after first s (xs ++ ys) ≡ after first (after first s xs) ys
  after_both [] ys s = refl
  after_both (x ∷ xs) ys s = after_both xs ys (happens first s x)

  passed : (s : State) (q : ℕ) → ((happens first s (Pass q)).processors q).known ≡ s.page.told
  passed s q = rw (eq-eqb q q refl) refl

  heard : (xs ys : List Event) (q : ℕ) → Runs first top start (xs ++ (Pass q ∷ ys)) → (after first start xs).page.told ≤ ((after first start (xs ++ (Pass q ∷ ys))).processors q).known
  heard xs ys q r =
      let z = split xs (Pass q ∷ ys) start r in
      let s = after first start xs in
      let h = keeps first top s (Pass q) (goes_on first top start xs (starts first top) z.0) z.1.0 in
      let a = known_grows (happens first s (Pass q)) ys q h z.1.1 in
      let b = passed s q in
      let c = after_both xs (Pass q ∷ ys) start in
      rw c (omega (arith, a, b))

pub since : Since
since first top xs ys q k r e m p h =
    let f = fresh first top (xs ++ (Pass q ∷ ys)) q r e m in
    let g = heard first top xs ys q r in
    (dated first top [] (xs ++ (Pass q ∷ ys)) start refl r (begun first top)).got_at k p (omega (arith, f, g, h))

pub since_break : SinceBreak
since_break first top es q k r m p h =
    let u = usable first top es q r m in
    (dated first top [] es start refl r (begun first top)).got_at k p (omega (arith, u.2, h))

pub since_start : SinceStart
since_start first top es q r m = (dated first top [] es start refl r (begun first top)).update_at (usable first top es q r m).1
