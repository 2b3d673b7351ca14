-- A processor is at rest where each of its passes is followed by the end of its acquire; and what is told is told for good.
use Rattle.std.proofs.Common.{◌≡◌, ◌≢◌, ◌⊎◌, inl, inr, ℕ, ◌≤◌, List, [], ◌∷◌, ◌++◌, refl, sym, ap, subst, arith}
use Rattle.std.proofs.lemmas.Bool.{cases_eq, eq-eqb, ne_eqb}
use Rattle.dsm_fresh.specs.Stages.{Rest}
use Rattle.dsm_fresh.specs.Pages.{Processor, State, Event, Tell, Break, Pass, Drain_none, Drain_some, Give, Take, Skip, Unmap, Keep, Keep_sole, Settle, put, processor_of, processor_after, happens, after}
use Rattle.dsm_fresh.specs.Premises.{May, Runs}
use Rattle.dsm_fresh.proofs.Keeps.{Holds, keeps}

-- an event is this pass, or this end of an acquire, or not
pass_or : (q : ℕ) (e : Event) → (e ≡ Pass q) ⊎ (e ≢ Pass q)
pass_or q (Pass k) = go (cases_eq k q)
  where
    go : (k ≡ q) ⊎ (k ≢ q) → (Pass k ≡ Pass q) ⊎ (Pass k ≢ Pass q)
    go (inl e) = inl (ap Pass e)
    go (inr ne) = inr (λ e. ne (cc e))
pass_or q e = inr (λ z. cc z)

settle_or : (q : ℕ) (e : Event) → (e ≡ Settle q) ⊎ (e ≢ Settle q)
settle_or q (Settle k) = go (cases_eq k q)
  where
    go : (k ≡ q) ⊎ (k ≢ q) → (Settle k ≡ Settle q) ⊎ (Settle k ≢ Settle q)
    go (inl e) = inl (ap Settle e)
    go (inr ne) = inr (λ e. ne (cc e))
settle_or q e = inr (λ z. cc z)

-- a table in which the changed processor is at rest, if it is this one
put_rest : (f : ℕ → Processor) (k : ℕ) (x : Processor) (q : ℕ) → (q ≡ k → x.stage ≡ Rest) → (f q).stage ≡ Rest → (put f k x q).stage ≡ Rest
put_rest f k x q own r = go (cases_eq q k)
  where
    go : (q ≡ k) ⊎ (q ≢ k) → (put f k x q).stage ≡ Rest
    go (inl e) = rw (eq-eqb q k e) (own e)
    go (inr ne) = rw (ne_eqb q k ne) r

module _ (first top : ℕ) where
  -- processor q is in no acquire
  abbrev pub Rests : State → ℕ → Type 0
  Rests s q = (s.processors q).stage ≡ Rest

  -- one at rest stays there, but for its pass
  rest_own : (s : State) (e : Event) (q : ℕ) → May first top s e → e ≢ Pass q → q ≡ processor_of first s.page.hand e → Rests s (processor_of first s.page.hand e) → (processor_after first s.page.told (s.processors (processor_of first s.page.hand e)) e).stage ≡ Rest
  rest_own s (Pass k) q m ne d r = absurd (ne (ap Pass (sym d)))
  rest_own s (Drain_none k) q m ne d r = absurd (let a = m.0 in cc (a, r))
  rest_own s (Drain_some k) q m ne d r = absurd (let a = m.0 in cc (a, r))
  rest_own s (Give k) q m ne d r = absurd (let a = m.0 in cc (a, r))
  rest_own s (Take k) q m ne d r = absurd (cc (m, r))
  rest_own s (Skip k) q m ne d r = absurd (let a = m.1 in cc (a, r))
  rest_own s (Unmap k) q m ne d r = absurd (let a = m.1 in cc (a, r))
  rest_own s (Keep k) q m ne d r = absurd (let a = m.1 in cc (a, r))
  rest_own s (Keep_sole k) q m ne d r = absurd (let a = m.1 in cc (a, r))
  rest_own s (Settle k) q m ne d r = refl
  rest_own s e q m ne d r = r

  rest_stays : (s : State) (e : Event) (q : ℕ) → May first top s e → e ≢ Pass q → Rests s q → Rests (happens first s e) q
  rest_stays s e q m ne r = put_rest s.processors (processor_of first s.page.hand e) (processor_after first s.page.told (s.processors (processor_of first s.page.hand e)) e) q (λ d. rest_own s e q m ne d (subst (Rests s) d r)) r

  -- the end of its acquire
  settles : (s : State) (q : ℕ) → Rests (happens first s (Settle q)) q
  settles s q = rw (eq-eqb q q refl) refl

  -- the end of an acquire of q is among these events
  abbrev pub HasSettle : ℕ → List Event → Type 0
  HasSettle q es = (xs : List Event) × (ys : List Event) × (es ≡ xs ++ (Settle q ∷ ys))

  -- it is not the first of them
  later_settle : (q : ℕ) (e : Event) (es : List Event) → e ≢ Settle q → HasSettle q (e ∷ es) → HasSettle q es
  later_settle q e es ne ([], ys, d) = absurd (ne (cc d))
  later_settle q e es ne (x ∷ xs, ys, d) = (xs, ys, cc d)

  -- so one is at rest behind the events, if its last pass among them is followed by the end of its acquire
  pub rests : (s : State) (es : List Event) (q : ℕ) → Runs first top s es → Rests s q ⊎ HasSettle q es → ((xs ys : List Event) → es ≡ xs ++ (Pass q ∷ ys) → HasSettle q ys) → Rests (after first s es) q
  rests s [] q runs (inl r) all = r
  rests s [] q runs (inr ([], ys, d)) all = absurd (cc d)
  rests s [] q runs (inr (x ∷ xs, ys, d)) all = absurd (cc d)
  rests s (e ∷ es) q runs start all = rests (happens first s e) es q runs.1 (go (pass_or q e) (settle_or q e) start) (λ xs ys d. all (e ∷ xs) ys (ap (λ z. e ∷ z) d))
    where
      go : (e ≡ Pass q) ⊎ (e ≢ Pass q) → (e ≡ Settle q) ⊎ (e ≢ Settle q) → Rests s q ⊎ HasSettle q (e ∷ es) → Rests (happens first s e) q ⊎ HasSettle q es
      go (inl d) k r = inr (all [] es (ap (λ z. z ∷ es) d))
      go (inr ne) (inl d) r = inl (subst (λ z. Rests (happens first s z) q) (sym d) (settles s q))
      go (inr ne) (inr no_settle) (inl r) = inl (rest_stays s e q runs.0 ne r)
      go (inr ne) (inr no_settle) (inr h) = inr (later_settle q e es no_settle h)

  -- the number of sends that are told never falls
  told_step : (s : State) (e : Event) → Holds first top s → s.page.told ≤ (happens first s e).page.told
  told_step s Tell h = h.sound.bounds.told_in
  told_step s Break h = let a = h.sound.bounds.told_in in omega (arith, a)
  told_step s e h = omega arith

  pub told_more : (s : State) (es : List Event) → Holds first top s → Runs first top s es → s.page.told ≤ (after first s es).page.told
  told_more s [] h r = omega arith
  told_more s (e ∷ es) h r = let a = told_step s e h in let b = told_more (happens first s e) es (keeps first top s e h r.0) r.1 in omega (arith, a, b)

  -- a list of events that keep their premises is cut in two
  pub runs_split : (s : State) (xs ys : List Event) → Runs first top s (xs ++ ys) → Runs first top s xs × Runs first top (after first s xs) ys
  runs_split s [] ys r = (tt, r)
  runs_split s (x ∷ xs) ys r = let z = runs_split (happens first s x) xs ys r.1 in ((r.0, z.0), z.1)
