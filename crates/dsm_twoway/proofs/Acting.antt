-- What any step of a trail gives, by what the rows give.
use Rattle.std.proofs.Common.{◌≡◌, ℕ, ◌+◌, List, [], None, refl, sym, subst}
use Rattle.dsm_words.specs.declared.item.Item.{Item}
use Rattle.dsm_words.specs.declared.item.Item.TheVariants.{Stop, Frame, Twin, Lock, Barrier, Flag, Close}
use Rattle.dsm_words.specs.Place.{IsWithin}
use Rattle.dsm_words.specs.Script.{Act, Get, Put, Swap, Change, Add, Or, item_of}
use Rattle.dsm_words.specs.Words.{done}
use Rattle.dsm_protocol.specs.Jobs.{Note}
use Rattle.dsm_protocol.specs.Stages.{Round, Work, Gone, Off}
use Rattle.dsm_protocol.specs.Rows.{Noted, counts}
use Rattle.dsm_protocol.specs.Standing.{IsAside, IsObject}
use Rattle.dsm_runs.specs.Clusters.{answer}
use Rattle.dsm_runs.proofs.Mappings.{IsSparing}
use Rattle.dsm_ties.proofs.Frame.{done_get}
use Rattle.dsm_freshness.specs.Events as FE
use Rattle.dsm_twoway.specs.Events.{note_moves}
use Rattle.dsm_twoway.proofs.Scene.{Scene, Now, Acted}
use Rattle.dsm_twoway.proofs.Changes.{IsPart, words_stay, part_stays}
use Rattle.dsm_twoway.proofs.Frame.{by_none, off_knows, gone_knows}

-- words of objects, and the stop word, are none of the copies
object_off : (c : Scene) (it : Item) → IsObject it → IsPart c it → ⊥
object_off c (Lock l) i of = of
object_off c (Barrier l) i of = of
object_off c (Flag l) i of = of
object_off c Close i of = of
object_off c it i of = absurd i

aside_off : (c : Scene) (a : Act) → IsAside a → IsPart c (item_of a) → ⊥
aside_off c (Get Stop) i of = of
aside_off c (Get it) i of = object_off c it i of
aside_off c (Put it v) i of = object_off c it i of
aside_off c (Swap it v) i of = object_off c it i of
aside_off c (Change it v z) i of = object_off c it i of
aside_off c (Add it v) i of = object_off c it i of
aside_off c (Or it v) i of = object_off c it i of

-- an exact answer is what the words give
pub answer_none : (a : Act) (x : ℕ) → answer None a x ≡ x
answer_none (Get (Frame n g i)) x = refl
answer_none (Get (Twin n g i)) x = refl
answer_none a x = refl

-- a step that is nothing to the copies, and changes no word of theirs
module _ (c : Scene) where
  aside_acts : (a : Act) → IsWithin c.u.lay (item_of a) → (IsPart c (item_of a) → ⊥) → (r : Round) → Acted c (Off r) (done c.u.lay c.ws a) (λ m n. []) []
  aside_acts a within off r =
      by_none c {es = λ m n. []} [] tt (record { words = words_stay c a within (part_stays c a within (λ k. absurd (off k))); counted = c.match.counted })
      (off_knows c (done c.u.lay c.ws a) c.fresh c.pages c.x c.c r)

  stop_acts : (a : Act) → IsWithin c.u.lay (item_of a) → (IsPart c (item_of a) → ⊥) → Acted c Gone (done c.u.lay c.ws a) (λ m n. []) []
  stop_acts a within off =
      by_none c {es = λ m n. []} [] tt (record { words = words_stay c a within (part_stays c a within (λ k. absurd (off k))); counted = c.match.counted })
      (gone_knows c (done c.u.lay c.ws a) c.fresh c.pages c.x c.c)

  pub same_acts : (w : Work) (ws' : List ℕ) → ws' ≡ c.ws → Now c w → Acted c w ws' (λ m n. []) []
  same_acts w ws' e now = subst (λ y. Acted c w y (λ m n. []) []) (sym e) (by_none c {es = λ m n. []} [] tt c.match now)

  pub off_acts : (a : Act) → IsAside a → (sparing : IsSparing c.u a) → (r : Round) → Now c (Off r) → Acted c (Off r) (done c.u.lay c.ws a) (λ m n. []) []
  off_acts (Get it) e sp r now = same_acts (Off r) _ (done_get c.u c.ws it) now
  off_acts (Put it y) e sp r now = aside_acts (Put it y) sp.0 (aside_off c (Put it y) e) r
  off_acts (Swap it y) e sp r now = aside_acts (Swap it y) sp.0 (aside_off c (Swap it y) e) r
  off_acts (Change it y y') e sp r now = aside_acts (Change it y y') sp.0 (aside_off c (Change it y y') e) r
  off_acts (Add it y) e sp r now = aside_acts (Add it y) sp.0 (aside_off c (Add it y) e) r
  off_acts (Or it y) e sp r now = aside_acts (Or it y) sp.0 (aside_off c (Or it y) e) r

  pub gone_acts : Acted c Gone (done c.u.lay c.ws (Change Stop 0 (c.u.p + 1))) (λ m n. []) []
  gone_acts = stop_acts (Change Stop 0 (c.u.p + 1)) tt (λ e. e)

  -- who has ended notes nothing but what is counted
  pub gone_notes : {w v : Work} {e : Note} (noted : Noted c.u None w e v) → w ≡ Gone → Now c w → Acted c v c.ws (λ m n. FE.note_events m n c.g c.u noted) (note_moves c.h c.g c.i c.u noted)
  gone_notes {w = w} (counts plain) e now = same_acts w c.ws refl now
  gone_notes noted e now = absurd (cc e)
