use Rattle.std.proofs.Common.{◌≡◌, ℕ, ◌++◌, ◌∷◌, [], ◌∙◌, sym, refl, ap, subst}
use Rattle.std.proofs.lemmas.Result.{on_ok_weaker}
use Rattle.dsm_entry.specs.declared.entry.Obj.{Obj}
use Rattle.dsm_entry.specs.declared.entry.Entry.{Entry}
use Rattle.dsm_entry.specs.declared.entry.Entry.TheVariants.{Signal, Pass}
use Rattle.dsm_flat.specs.Gates.{IsOf, OfSignal, OfPass}
use Rattle.dsm_flat.proofs.Adding.{added_one, added_other, at_place, signs_signal, signs_pass, signal_of, pass_of}
use Rattle.dsm_flat.proofs.gates.Gates.add.Goals as goal

pub returns-in_ok-k-in-Signal : goal.returns-in_ok-k-in-Signal
returns-in_ok-k-in-Signal c =
    record {
      added = on_ok_weaker c.add_signal.result (λ signals ts held a.
          let mid = c.enter.new.self in
          let g = c.index_mut.result.now in
          let k = c.in_ok-k-in-Signal.k in
          let e = c.in_ok-k-in-Signal.ensures in
          let is = c.in-Signal.is in
          let b = e.added ts c.args.place a in
          let r = at_place mid.index mid.list.items c.in-Signal.o k g e.indexed e.place c.index_mut.ensures.value in
          let f = c.add_signal.ensures in
          let new : c.add_signal.new.self.signals.items ≡ g.signals.items ++ record { j = c.in-Signal.j; place = c.args.place } ∷ [] = signals in
          added_one ts c.args.place c.args.e held mid _ k g c.add_signal.new.self c.in-Signal.o b refl refl r.0 f.o r.1
          (subst (λ d. IsOf c.in-Signal.o d) (sym is) (OfSignal c.in-Signal.j)) (λ q of. signal_of c.in-Signal.o q c.in-Signal.j (subst (λ d. IsOf q d) is of)) (f.new (b.each k g r.0).0)
          (λ s. rw (new, f.counts) (signs_signal ts c.args.place c.args.e held g.o c.in-Signal.j g.signals.items g.counts.items (is ∙ ap (λ o. Signal o c.in-Signal.j) (sym r.1)) s))) c.add_signal.ensures.signals;
    }

pub returns-in_ok-k-in-Pass : goal.returns-in_ok-k-in-Pass
returns-in_ok-k-in-Pass c =
    record {
      added = on_ok_weaker c.add_pass.result (λ counts ts held a.
          let mid = c.enter-in-Pass.new.self in
          let g = c.index_mut-in-Pass.result.now in
          let k = c.in_ok-k-in-Pass.k in
          let e = c.in_ok-k-in-Pass.ensures in
          let is = c.in-Pass.is in
          let b = e.added ts c.args.place a in
          let r = at_place mid.index mid.list.items c.in-Pass.o k g e.indexed e.place c.index_mut-in-Pass.ensures.value in
          let f = c.add_pass.ensures in
          let new : c.add_pass.new.self.counts.items ≡ g.counts.items ++ c.in-Pass.c ∷ [] = counts in
          added_one ts c.args.place c.args.e held mid _ k g c.add_pass.new.self c.in-Pass.o b refl refl r.0 f.o r.1
          (subst (λ d. IsOf c.in-Pass.o d) (sym is) (OfPass c.in-Pass.c)) (λ q of. pass_of c.in-Pass.o q c.in-Pass.c (subst (λ d. IsOf q d) is of)) (f.new (b.each k g r.0).0)
          (λ s. rw (f.signals, new) (signs_pass ts c.args.place c.args.e held g.o c.in-Pass.c g.signals.items g.counts.items (is ∙ ap (λ o. Pass o c.in-Pass.c) (sym r.1)) s))) c.add_pass.ensures.counts;
    }

-- an entry that is neither is of no object
neither : (e : Entry) (q : Obj) → ((o : Obj) (j : ℕ) → e ≡ Signal o j → ⊥) → ((o : Obj) (n : ℕ) → e ≡ Pass o n → ⊥) → IsOf q e → ⊥
neither e q none nay (OfSignal j) = none q j refl
neither e q none nay (OfPass c) = nay q c refl

pub returns-in_default : goal.returns-in_default
returns-in_default c =
    record { added = λ ts held a. added_other ts c.args.place c.args.e held c.args.self.now (λ q of. neither c.args.e q c.in_default.not-Signal c.in_default.not-Pass of) a }
