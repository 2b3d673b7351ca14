-- Who has halted has signalled behind all its stores.
use Rattle.std.proofs.Common.{◌≡◌, ℕ, ◌<◌, ◌⊎◌, inl, inr, List, [], ◌∷◌, ◌++◌, map, length, Option, None, Some, refl, sym, ap, ◌∙◌, subst}
use Rattle.std.specs.Prelude.{slice_get}
use Rattle.std.proofs.lemmas.Option.{slice_get_within, get_or_from_slice_get}
use Rattle.dsm_isa.specs.declared.instr.Instr.{Instr}
use Rattle.dsm_entry.specs.declared.entry.Entry.{Entry}
use Rattle.dsm_entry.specs.declared.entry.Entry.TheVariants.{Store, Signal, Pass}
use Rattle.dsm_entry.specs.declared.entry.Obj.TheVariants.{Close}
use Rattle.dsm_entry.specs.declared.entry.Place.{Place}
use Rattle.dsm_local.specs.declared.end.End.{End}
use Rattle.dsm_local.specs.declared.end.End.TheVariants.{Halted}
use Rattle.dsm_local.specs.declared.setting.Setting.{Setting}
use Rattle.dsm_local.specs.declared.stand.Stand.{Stand}
use Rattle.dsm_local.specs.declared.stand.Stand.TheVariants.{Before, Met, Arrived, Passed}
use Rattle.dsm_local.specs.Local.{Reads, arrives, passes, MayEnd, LocalTo}
use Rattle.dsm_flat.specs.Order.{Traces, Holds, found_in}
use Rattle.dsm_flat.proofs.History.{Log, IsHistory, rank_own}
use Rattle.dsm_flat.proofs.Lists.{get_push, get_push_old, get_push_new}
use Rattle.dsm_copies.specs.Joining.{AllSignalled}
use Rattle.dsm_protocol.specs.Processors.{Processor, ending}
use Rattle.dsm_runs.specs.Outcomes.{AllHalted}
use Rattle.dsm_runs.proofs.Histories.{traces_of}
use Rattle.dsm_runs.proofs.Promising.{item_of_map, map_of_item}

module _ (code : List Instr) (set : Setting) where
  -- who has arrived at the end has signalled last
  arrived : {stand : Stand} {t : List Entry} → Reads code set stand t → stand ≡ Arrived → (b : List Entry) × (j : ℕ) × (t ≡ b ++ Signal Close j ∷ [])
  arrived (arrives {t = t} j r next) e = (t, j, refl)
  arrived r e = absurd (cc e)

  -- and who has passed there has passed since
  passed : {stand : Stand} {t : List Entry} → Reads code set stand t → stand ≡ Passed → (b : List Entry) × (j c : ℕ) × (t ≡ (b ++ Signal Close j ∷ []) ++ Pass Close c ∷ [])
  passed (passes c r) e = let a = arrived r refl in (a.0, a.1, c, ap (λ x. x ++ Pass Close c ∷ []) a.2)
  passed r e = absurd (cc e)

  -- who has halted has passed
  has_passed : (stand : Stand) → MayEnd code set stand (Some Halted) → stand ≡ Passed
  has_passed (Before r) m = absurd m
  has_passed (Met r b) m = absurd m
  has_passed Arrived m = absurd m
  has_passed Passed m = refl

  -- so behind each of its stores it has signalled
  halted_signals : (t : List Entry) → LocalTo code set t (Some Halted) → (i w v : ℕ) → slice_get t i ≡ Some (Store w v) → (k j : ℕ) × (slice_get t k ≡ Some (Signal Close j)) × (i < k)
  halted_signals t local i w v at =
      let p = passed local.1 (has_passed local.0 local.2) in
      (length p.0, p.1, ap (λ x. slice_get x (length p.0)) p.3 ∙ get_push_old _ _ _ (length p.0) (get_push_new p.0 (Signal Close p.1)), low p.0 p.1 p.2 (sym (ap (λ x. slice_get x i) p.3) ∙ at))
    where
      low : (b : List Entry) (j c : ℕ) → slice_get ((b ++ Signal Close j ∷ []) ++ Pass Close c ∷ []) i ≡ Some (Store w v) → i < length b
      low b j c h = go (get_push (b ++ Signal Close j ∷ []) (Pass Close c) (Store w v) i h)
        where
          go : (slice_get (b ++ Signal Close j ∷ []) i ≡ Some (Store w v)) ⊎ ((i ≡ length (b ++ Signal Close j ∷ [])) × (Pass Close c ≡ Store w v)) → i < length b
          go (inr x) = absurd (cc x.1)
          go (inl g) = pick (get_push b (Signal Close j) (Store w v) i g)
            where
              pick : (slice_get b i ≡ Some (Store w v)) ⊎ ((i ≡ length b) × (Signal Close j ≡ Store w v)) → i < length b
              pick (inl f) = slice_get_within b i (Store w v) f
              pick (inr x) = absurd (cc x.1)

-- where a trace is found, an entry of it is that of the trace
pub trace_found : (ts : Traces) (x : Place) (e : Entry) → Holds ts x e → (t : List Entry) × (slice_get ts x.p ≡ Some t) × (slice_get t x.i ≡ Some e)
trace_found ts x e h = go (slice_get ts x.p) refl h
  where
    go : (o : Option (List Entry)) → slice_get ts x.p ≡ o → found_in o x.i ≡ Some e → (t : List Entry) × (slice_get ts x.p ≡ Some t) × (slice_get t x.i ≡ Some e)
    go None is f = absurd (cc f)
    go (Some t) is f = (t, is, f)

-- all processors have halted
pub halted_at : (ends : List (Option End)) (p : ℕ) (e : Option End) → AllHalted ends → slice_get ends p ≡ Some e → e ≡ Some Halted
halted_at ends p e all at = sym (get_or_from_slice_get ends p e None at) ∙ all p None (slice_get_within ends p e at)

module _ (code : List Instr) (set : ℕ → Setting) (ps : List Processor) (log : Log) where
  -- so where all have halted, all stores are signalled
  pub all_signalled : IsHistory log (traces_of ps)
      → ((p : ℕ) (t : List Entry) (e : Option End) → slice_get (traces_of ps) p ≡ Some t → slice_get (map ending ps) p ≡ Some e → LocalTo code (set p) t e)
      → AllHalted (map ending ps) → (w : ℕ) → AllSignalled (traces_of ps) log w
  all_signalled history local all w x store =
      let v = store.0 in
      let t = trace_found (traces_of ps) x (Store w v) store.1 in
      let m = item_of_map (λ m. m.own.trace) ps x.p t.0 t.1 in
      let end = map_of_item ending ps x.p m.0 m.1 in
      let halted = halted_at (map ending ps) x.p (ending m.0) all end in
      let a = halted_signals code (set x.p) t.0 (subst (λ e. LocalTo code (set x.p) t.0 e) halted (local x.p t.0 (ending m.0) t.1 end)) x.i w v t.2 in
      let y : Place = record { p = x.p; i = a.0 } in
      let holds : Holds (traces_of ps) y (Signal Close a.1) = ap (λ o. found_in o a.0) t.1 ∙ a.2 in
      (y, Close, a.1, holds, refl, rank_own log x y (Store w v) (Signal Close a.1) ((history x (Store w v)).0 store.1) ((history y (Signal Close a.1)).0 holds) refl a.3)
