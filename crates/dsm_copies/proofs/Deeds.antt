-- What the processors did, in a list of events and in a log.
use Rattle.std.proofs.Common.{◌≡◌, ℕ, ◌<◌, ◌≤◌, ◌⊎◌, Bool, true, false, Option, None, Some, List, [], ◌∷◌, length, refl, ap, ◌∙◌, subst, inl, inr, arith, if◌then◌else◌}
use Rattle.dsm_entry.specs.declared.entry.Entry.{Entry}
use Rattle.dsm_entry.specs.declared.entry.Place.{Place}
use Rattle.dsm_flat.specs.Logs.{Deed, Log, Was, rank, IsOld, IsNewest}
use Rattle.dsm_flat.proofs.History.{one_more, old_stays}
use Rattle.dsm_copies.specs.Copies.{State, Event, Load, Store, Signal, Pass, after_event, after}
use Rattle.dsm_copies.specs.Premises.{Premise, RunsUnder}
use Rattle.dsm_copies.specs.Joining.{is_deed, deeds_in, event_of, onto, deeds_of}

-- the same is known of the last store
pub record SameKnown (s s' : State) : Type 0 where
  pub by : s'.by ≡ s.by
  pub released : s'.released ≡ s.released
  pub knows : s'.knows ≡ s.knows

same_known : (s t u : State) → SameKnown s t → SameKnown t u → SameKnown s u
same_known s t u a b = record { by = b.by ∙ a.by; released = b.released ∙ a.released; knows = b.knows ∙ a.knows }

module _ (place : ℕ → Option ℕ) where
  -- what happens to the copies changes nothing of it
  copies_known : (s : State) (e : Event) → is_deed e ≡ false → SameKnown s (after_event place s e)
  copies_known s (Load p v) is = absurd (cc is)
  copies_known s (Store p v) is = absurd (cc is)
  copies_known s (Signal p) is = absurd (cc is)
  copies_known s (Pass p) is = absurd (cc is)
  copies_known s _ is = record { by = refl; released = refl; knows = refl }

  module _ (asked : Premise → Type 0) (s : State) where
    -- the newest deed of a list is e, behind which stands `older`
    pub record Split (es : List Event) (e : Event) (rest : List Event) : Type 0 where
      pub older : List Event
      pub same : deeds_in older ≡ rest
      pub known : SameKnown (after place s (e ∷ older)) (after place s es)
      pub runs : RunsUnder place asked s es → RunsUnder place asked s (e ∷ older)

    pub split : (es : List Event) (e : Event) (rest : List Event) → deeds_in es ≡ e ∷ rest → Split es e rest
    split [] e rest h = absurd (cc h)
    split (x ∷ es) e rest h = go (is_deed x) refl h (λ g. split es e rest g)
      where
        go : (b : Bool) → is_deed x ≡ b → (if b then x ∷ deeds_in es else deeds_in es) ≡ e ∷ rest → (deeds_in es ≡ e ∷ rest → Split es e rest) → Split (x ∷ es) e rest
        go true is g ih =
            let same : x ≡ e = cc g in
            record {
              older = es;
              same = cc g;
              known = subst (λ y. SameKnown (after place s (y ∷ es)) (after place s (x ∷ es))) same (record { by = refl; released = refl; knows = refl });
              runs = λ r. subst (λ y. RunsUnder place asked s (y ∷ es)) same r;
            }
        go false is g ih =
            let i = ih g in
            record {
              older = i.older;
              same = i.same;
              known = same_known (after place s (e ∷ i.older)) (after place s es) (after place s (x ∷ es)) i.known (copies_known (after place s es) x is);
              runs = λ r. i.runs r.1;
            }

    -- where there is no deed, nothing is known anew
    pub none_known : (es : List Event) → deeds_in es ≡ [] → SameKnown s (after place s es)
    none_known [] h = record { by = refl; released = refl; knows = refl }
    none_known (x ∷ es) h = go (is_deed x) refl h (λ g. none_known es g)
      where
        go : (b : Bool) → is_deed x ≡ b → (if b then x ∷ deeds_in es else deeds_in es) ≡ [] → (deeds_in es ≡ [] → SameKnown s (after place s es)) → SameKnown s (after place s (x ∷ es))
        go true is g ih = absurd (cc g)
        go false is g ih = same_known s (after place s es) (after place s (x ∷ es)) (ih g) (copies_known (after place s es) x is)

    -- the list that stands behind the newest deed of a log
    pub record Rest (w : ℕ) (log : Log) (es : List Event) : Type 0 where
      pub older : List Event
      pub same : deeds_in older ≡ deeds_of w log
      pub runs : RunsUnder place asked s es → RunsUnder place asked s older

    pub rest_of : (w : ℕ) (d : Deed) (log : Log) (es : List Event) → deeds_in es ≡ deeds_of w (d ∷ log) → Rest w log es
    rest_of w d log es h = go (event_of w d.p d.e) h
      where
        go : (x : Option Event) → deeds_in es ≡ onto x (deeds_of w log) → Rest w log es
        go None g = record { older = es; same = g; runs = λ r. r }
        go (Some e) g = let f = split es e (deeds_of w log) g in record { older = f.older; same = f.same; runs = λ r. (f.runs r).1 }

-- the first log is the second without some of its newest deeds
pub data OlderIn : Log → Log → Type 0 where
  Whole : {log : Log} → OlderIn log log
  Without : {older log : Log} (d : Deed) → OlderIn older log → OlderIn older (d ∷ log)

pub without_newest : (d : Deed) (older log : Log) → OlderIn (d ∷ older) log → OlderIn older log
without_newest d older log Whole = Without d Whole
without_newest d older (b ∷ log) (Without c o) = Without b (without_newest d older log o)

length-older : (older log : Log) → OlderIn older log → length older ≤ length log
length-older older log Whole = omega arith
length-older older (d ∷ log) (Without c o) = let i = length-older older log o in omega (arith, i)

-- an entry of an older log is in the newer one, with its rank,
pub was_newer : (older log : Log) → OlderIn older log → (x : Place) (e : Entry) → Was older x e → Was log x e × (rank log x ≡ rank older x)
was_newer older log Whole x e h = (h, refl)
was_newer older (d ∷ log) (Without c o) x e h =
    let i = was_newer older log o x e h in
    let a = old_stays d log x e i.0 in
    (a.0, a.1.rank_same ∙ i.1)

-- and one of the newer log with a low rank is in the older one
pub was_older : (older log : Log) → OlderIn older log → (x : Place) (e : Entry) → Was log x e → rank log x < length older → Was older x e × (rank log x ≡ rank older x)
was_older older log Whole x e h lt = (h, refl)
was_older older (d ∷ log) (Without c o) x e h lt = go (one_more d log x e h) (λ g l. was_older older log o x e g l)
  where
    go : IsOld d log x e ⊎ IsNewest d log x e → (Was log x e → rank log x < length older → Was older x e × (rank log x ≡ rank older x)) → Was older x e × (rank (d ∷ log) x ≡ rank older x)
    go (inl a) ih = let i = ih a.was (let r = a.rank_same in omega (arith, lt, r)) in (i.0, a.rank_same ∙ i.1)
    go (inr a) ih = absurd (let r = a.rank_is in let l = length-older older log o in omega (arith, lt, r, l))

-- the newest deed of a log that concerns the word
pub record LogSplit (w : ℕ) (log : Log) (e : Event) (rest : List Event) : Type 0 where
  pub deed : Deed
  pub older : Log
  pub is : event_of w deed.p deed.e ≡ Some e
  pub same : deeds_of w older ≡ rest
  pub inside : OlderIn (deed ∷ older) log

pub log_split : (w : ℕ) (log : Log) (e : Event) (rest : List Event) → deeds_of w log ≡ e ∷ rest → LogSplit w log e rest
log_split w [] e rest h = absurd (cc h)
log_split w (d ∷ log) e rest h = go (event_of w d.p d.e) refl h (λ g. log_split w log e rest g)
  where
    go : (x : Option Event) → event_of w d.p d.e ≡ x → onto x (deeds_of w log) ≡ e ∷ rest → (deeds_of w log ≡ e ∷ rest → LogSplit w log e rest) → LogSplit w (d ∷ log) e rest
    go None is g ih = let i = ih g in record { deed = i.deed; older = i.older; is = i.is; same = i.same; inside = Without d i.inside }
    go (Some f) is g ih = let same : f ≡ e = cc g in record { deed = d; older = log; is = is ∙ ap (λ y. Some y) same; same = cc g; inside = Whole }

pub older_older : (a b log : Log) → OlderIn a b → OlderIn b log → OlderIn a log
older_older a b log o Whole = o
older_older a b (d ∷ log) o (Without c q) = Without d (older_older a b log o q)
