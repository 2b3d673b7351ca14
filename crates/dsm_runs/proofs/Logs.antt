-- The log of a run: what all processors did, newest first.
use Rattle.std.proofs.Common.{◌≡◌, ◌≢◌, ℕ, List, [], ◌∷◌, ◌++◌, map, Option, None, Some, length, drop, slice_get, refl, sym, ap, ◌∙◌, append_assoc}
use Rattle.std.proofs.lemmas.List.{append-nil}
use Rattle.dsm_entry.specs.declared.entry.Entry.{Entry}
use Rattle.dsm_flat.proofs.History.{Log, mine, mine_own, mine_other}
use Rattle.dsm_protocol.specs.Processors.{Processor}
use Rattle.dsm_runs.specs.Setups.{Setup}
use Rattle.dsm_runs.specs.Clusters.{Cluster, Event, start, exactly, after_loose, after_event, after_all_loose}

-- the trace of processor p; there is none where there is no such processor
abbrev pub traced : Option Processor → List Entry
traced None = []
traced (Some m) = m.own.trace

abbrev pub trace_at : Cluster → ℕ → List Entry
trace_at c p = traced (slice_get c.processors p)

-- these entries of processor p, the first of which is the oldest, come onto the log
abbrev pub onto : ℕ → List Entry → Log → Log
onto p [] log = log
onto p (e ∷ es) log = onto p es (record { p = p; e = e } ∷ log)

-- the log behind a loose event: what its processor's trace has more
abbrev pub log_after : Setup → Cluster → Event → Option ℕ → Log → Log
log_after s c e any log = onto e.p (drop (length (trace_at c e.p)) (trace_at (after_loose s c e any) e.p)) log

-- the log behind a list of loose events, from a state and its log on
unfoldable pub log_all : Setup → Cluster → Log → List (Event × Option ℕ) → Log
log_all s c log [] = log
log_all s c log (e ∷ es) = log_all s (after_loose s c e.0 e.1) (log_after s c e.0 e.1 log) es

-- the log of a list of loose events from the start
abbrev pub log_of : Setup → List (Event × Option ℕ) → Log
log_of s events = log_all s (start s) [] events

-- what holds at the start, and behind each loose event with what it adds to the log, holds of every log
pub every_log : (s : Setup) (P : Cluster → Log → Type 0) → ((c : Cluster) (e : Event) (any : Option ℕ) (log : Log) → P c log → P (after_loose s c e any) (log_after s c e any log))
    → (events : List (Event × Option ℕ)) (c : Cluster) (log : Log) → P c log → P (after_all_loose s c events) (log_all s c log events)
unfolding after_all_loose log_all
every_log s P one [] c log h = h
every_log s P one (e ∷ es) c log h = every_log s P one es (after_loose s c e.0 e.1) (log_after s c e.0 e.1 log) (one c e.0 e.1 log h)

-- the same over events that have the answers of the words
pub every_exact_log : (s : Setup) (P : Cluster → Log → Type 0) → ((c : Cluster) (e : Event) (log : Log) → P c log → P (after_event s c e) (log_after s c e None log))
    → (events : List Event) (c : Cluster) (log : Log) → P c log → P (after_all_loose s c (map exactly events)) (log_all s c log (map exactly events))
unfolding after_all_loose log_all
every_exact_log s P one [] c log h = h
every_exact_log s P one (e ∷ es) c log h = every_exact_log s P one es (after_event s c e) (log_after s c e None log) (one c e log h)

-- the entries come behind those that their processor has in the log, and leave those of the others
pub mine-onto_own : (p : ℕ) (es : List Entry) (log : Log) → mine p (onto p es log) ≡ mine p log ++ es
mine-onto_own p [] log = sym (append-nil (mine p log))
mine-onto_own p (e ∷ es) log =
    mine-onto_own p es (record { p = p; e = e } ∷ log)
    ∙ ap (λ t. t ++ es) (mine_own (record { p = p; e = e }) log p refl)
    ∙ append_assoc (mine p log) (e ∷ []) es

pub mine-onto_other : (p q : ℕ) (es : List Entry) (log : Log) → q ≢ p → mine q (onto p es log) ≡ mine q log
mine-onto_other p q [] log ne = refl
mine-onto_other p q (e ∷ es) log ne =
    mine-onto_other p q es (record { p = p; e = e } ∷ log) ne
    ∙ mine_other (record { p = p; e = e }) log q (λ h. ne (sym h))
