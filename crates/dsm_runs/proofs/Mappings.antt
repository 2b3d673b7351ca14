-- No event changes another processor's mapping.
use Rattle.std.proofs.Common.{◌≡◌, ◌≢◌, inl, inr, ℕ, List, Some, None, refl, sym, subst}
use Rattle.dsm_entry.specs.declared.entry.Obj.{Obj}
use Rattle.dsm_entry.specs.declared.entry.Obj.TheVariants.{Lock, Barrier, Flag, Close}
use Rattle.dsm_entry.specs.declared.entry.Entry.{Entry}
use Rattle.dsm_entry.specs.declared.entry.Entry.TheVariants.{Load, Store, Signal, Pass, Out}
use Rattle.dsm_words.specs.declared.item.Item.{Item}
use Rattle.dsm_words.specs.declared.item.Item.TheVariants.{Map}
use Rattle.dsm_words.specs.Place.{Lay, IsWithin}
use Rattle.dsm_words.specs.Script.{Act, Get, Put, Swap, Change, Add, Or, item_of}
use Rattle.dsm_words.specs.Words.{word, done}
use Rattle.dsm_words.proofs.WordLaws.{word_other}
use Rattle.dsm_protocol.specs.Own.{Own, Who}
use Rattle.dsm_protocol.specs.Jobs.{Give, Go, Move, Append, Map_own, Soil, Clean, Join, Count, Happen, Job, Make, Again, Mark, Ask, Begin, Ended, own_after, first_act}
use Rattle.dsm_protocol.specs.Processors.{wanting}
use Rattle.dsm_runs.specs.Setups.{lay_in, who_at}
use Rattle.dsm_runs.specs.Clusters.{start, act_in, after_all_loose}
use Rattle.dsm_runs.specs.Laws.{LeavesOtherMappings}
use Rattle.dsm_runs.proofs.Events.{by_cases, leaves_processors}
use Rattle.dsm_runs.proofs.Logs.{log_of}
use Rattle.dsm_runs.proofs.Owing.{object_item, SparesOthers, Quiet, Pays, Syncs}
use Rattle.dsm_runs.proofs.Legality.{wanting_good, every_fine}

-- a load leaves all words
pub word_loaded : (l : Lay) (ws : List ℕ) (jt it : Item) → word l (done l ws (Get jt)) it ≡ word l ws it
unfolding done
word_loaded l ws jt it = refl

-- the operation is a load, or of a word of the layout that is no other processor's mapping
abbrev pub IsSparing : Who → Act → Type 0
IsSparing u (Get it) = Unit {0}
IsSparing u a = IsWithin u.lay (item_of a) × SparesOthers u (item_of a)

-- the answer with which an exchange is won; of the other operations any would do
abbrev won : Act → ℕ
won (Change it old new) = old
won a = 0

module _ (u : Who) where
  quiet_spares : (a : Act) → Quiet u a (won a) → IsSparing u a
  quiet_spares (Get it) quiet = tt
  quiet_spares (Change it old new) (inl other) = (other.0, other.2)
  quiet_spares (Change it old new) (inr lost) = absurd (lost refl)
  quiet_spares (Put it v) other = (other.0, other.2)
  quiet_spares (Swap it v) other = (other.0, other.2)
  quiet_spares (Add it n) other = (other.0, other.2)
  quiet_spares (Or it bits) other = (other.0, other.2)

  object_spares : (it : Item) (r : Obj) → it ≡ object_item r → IsWithin u.lay (object_item r) → IsWithin u.lay it × SparesOthers u it
  object_spares it r is there = subst (λ i. IsWithin u.lay i × SparesOthers u i) (sym is) (there, go r)
    where
      go : (o : Obj) → SparesOthers u (object_item o)
      go (Lock l) = tt
      go (Barrier b) = tt
      go (Flag f) = tt
      go Close = tt

  paid_spares : (o : Own) (a : Act) (e : Entry) → Pays u o a (won a) e → IsSparing u a
  paid_spares o a (Load w v) pays = quiet_spares a pays
  paid_spares o a (Store w v) pays = quiet_spares a pays
  paid_spares o a (Out v) pays = quiet_spares a pays
  paid_spares o (Get it) e pays = tt
  paid_spares o (Change it v new) (Pass (Lock l) c) pays = object_spares it (Lock l) pays.0 pays.1
  paid_spares o (Put it v) (Signal (Lock l) k) pays = object_spares it (Lock l) pays.0 pays.1
  paid_spares o (Add it n) (Signal r j) pays = object_spares it r pays.0 pays.1
  paid_spares o a e pays = absurd pays

  -- an operation is quiet, or its entry is owed
  behind_spares : (a : Act) (o : Own) (j : Job) → Syncs u o (Some (a, won a)) j → IsSparing u a
  behind_spares a o (Make b k) s = quiet_spares a s.0
  behind_spares a o (Again b wanted j) s = quiet_spares a s.0
  behind_spares a o (Mark (Append e) j) s = paid_spares o a e s.0
  behind_spares a o (Mark (Give r v) j) s = behind_spares a (own_after o (Give r v)) j s
  behind_spares a o (Mark (Go to) j) s = behind_spares a (own_after o (Go to)) j s
  behind_spares a o (Mark Move j) s = behind_spares a (own_after o Move) j s
  behind_spares a o (Mark (Map_own page mode) j) s = behind_spares a (own_after o (Map_own page mode)) j s
  behind_spares a o (Mark (Soil page) j) s = behind_spares a (own_after o (Soil page)) j s
  behind_spares a o (Mark (Clean page) j) s = behind_spares a (own_after o (Clean page)) j s
  behind_spares a o (Mark (Join pages) j) s = behind_spares a (own_after o (Join pages)) j s
  behind_spares a o (Mark (Count tally) j) s = behind_spares a (own_after o (Count tally)) j s
  behind_spares a o (Mark (Happen moment) j) s = behind_spares a (own_after o (Happen moment)) j s
  behind_spares a o (Ask f) s = behind_spares a o (f o) s
  behind_spares a o (Begin h) s = quiet_spares a s.0
  behind_spares a o (Ended e) s = quiet_spares a s

  pub first_spares : (o : Own) (j : Job) → Syncs u o None j → IsSparing u (first_act j)
  first_spares o (Make a k) s = behind_spares a o (k (won a)) (s.1 (won a))
  first_spares o (Again a wanted j) s = quiet_spares a (s.1 (won a))
  first_spares o j s = tt

  map_kept : (ws : List ℕ) (a : Act) (q g : ℕ) → q ≢ u.p → IsWithin u.lay (Map q g) → IsSparing u a → word u.lay (done u.lay ws a) (Map q g) ≡ word u.lay ws (Map q g)
  map_kept ws (Get it) q g ne there spares = word_loaded u.lay ws it (Map q g)
  map_kept ws a q g ne there spares = word_other u.lay ws a (Map q g) spares.0 there (λ is. ne (subst (SparesOthers u) (sym is) spares.1))

pub leaves_other_mappings : LeavesOtherMappings
leaves_other_mappings s events e any q g setup ne there page =
    let c = after_all_loose s (start s) events in
    let u = who_at s e.p in
    let log = log_of s events in (
      leaves_processors s c e any q ne,
      by_cases s c e any (λ d. word (lay_in s) d.words (Map q g) ≡ word (lay_in s) c.words (Map q g)) refl
          (λ m here goes.
          let n = wanting u e.starved m in
          let good = wanting_good s setup e.p log m e.starved ((every_fine s setup events).synced.good e.p m here) in
          map_kept u c.words (act_in s e m) q g ne (there, page) (first_spares u n.own n.todo good.syncs)),
    )
