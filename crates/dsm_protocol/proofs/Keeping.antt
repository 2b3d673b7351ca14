-- Protocol work leaves the reader and the trace alone; what each of its steps keeps holds of the whole where it holds of the rest.
use Rattle.std.proofs.Common.{ℕ, Bool, List, Option}
use Rattle.dsm_words.specs.Script.{Act}
use Rattle.dsm_clock.specs.declared.turns.TurnId.{TurnId}
use Rattle.dsm_protocol.specs.declared.counts.Counts.{Counts}
use Rattle.dsm_protocol.specs.Own.{Own, Who}
use Rattle.dsm_protocol.specs.Jobs.{Job, Note, Make, Again, Mark, Ask, Give, Go, Move, Append, Map_own, Soil, Clean, Join, Count, Happen, own_after}
use Rattle.dsm_protocol.specs.Rights.{IsInner, Works, Over, Makes, Takes, Marks_map, Marks, Asks}

-- the same reader and trace with other mappings, dirty pages and counts
abbrev pub with_others : Own → List ℕ → List Bool → Counts → Own
with_others o maps dirty counts = record o { maps = maps; dirty = dirty; counts = counts }

-- S holds of each of these with this job
abbrev pub Throughout : Own → (Own → Job → Type 0) → Job → Type 0
Throughout o S j = (maps : List ℕ) (dirty : List Bool) (counts : Counts) → S (with_others o maps dirty counts) j

-- S holds of a job where it holds of what follows its first step
pub record IsKept (o : Own) (S : Own → Job → Type 0) : Type 0 where
  pub makes : (a : Act) (k : ℕ → Job) → ((x : ℕ) → Throughout o S (k x)) → Throughout o S (Make a k)
  pub repeats : (a : Act) (wanted : ℕ) (j : Job) → Throughout o S j → Throughout o S (Again a wanted j)
  pub marks : (p : Own) (n : Note) (j : Job) → S (own_after p n) j → S p (Mark n j)
  pub asks : (p : Own) (f : Own → Job) → S p (f p) → S p (Ask f)

module _ (o : Own) (S : Own → Job → Type 0) (kept : IsKept o S) where
  inner_kept : (n : Note) (j : Job) → IsInner n → Throughout o S j → Throughout o S (Mark n j)
  inner_kept (Soil g) j inner h = λ maps dirty counts. kept.marks _ _ j (h maps _ counts)
  inner_kept (Clean g) j inner h = λ maps dirty counts. kept.marks _ _ j (h maps _ counts)
  inner_kept (Join set) j inner h = λ maps dirty counts. kept.marks _ _ j (h maps _ counts)
  inner_kept (Count t) j inner h = λ maps dirty counts. kept.marks _ _ j (h maps dirty _)
  inner_kept (Happen d) j inner h = λ maps dirty counts. kept.marks _ _ j (h maps dirty counts)
  inner_kept (Give d v) j inner h = absurd inner
  inner_kept (Go to) j inner h = absurd inner
  inner_kept Move j inner h = absurd inner
  inner_kept (Append e) j inner h = absurd inner
  inner_kept (Map_own g m) j inner h = absurd inner

  pub works_kept : {u : Who} {rest : Job} {t : Option TurnId} {w : Option (ℕ × ℕ)} {j : Job} → Works u rest t w j → Throughout o S rest → Throughout o S j
  works_kept Over h = h
  works_kept (Makes may f) h = kept.makes _ _ (λ x. works_kept (f x) h)
  works_kept (Takes turn within f) h = kept.repeats _ _ _ (works_kept f h)
  works_kept (Marks_map f) h = λ maps dirty counts. kept.marks _ _ _ (works_kept f h _ dirty counts)
  works_kept (Marks n j inner f) h = inner_kept n j inner (works_kept f h)
  works_kept (Asks f) h = λ maps dirty counts. kept.asks _ _ (works_kept (f _) h maps dirty counts)
