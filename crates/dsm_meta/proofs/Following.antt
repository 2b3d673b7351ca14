-- A schedule under way.
use Rattle.std.proofs.Common.{◌≡◌, ℕ, Bool, true, false, List, [], ◌∷◌, ◌++◌, refl, sym, ap, ◌∙◌, subst}
use Rattle.std.proofs.lemmas.List.Elements.{All-nil, All-push}
use Rattle.dsm_isa.specs.ProgramText.{ProgramText}
use Rattle.dsm_words.specs.declared.topology.Topology.{Topology}
use Rattle.dsm_protocol.specs.declared.limits.Limits.{Limits}
use Rattle.dsm_runs.specs.Setups.{Setup}
use Rattle.dsm_runs.specs.Clusters.{Cluster, Event, start, is_defined, all_defined, after, after_event, reached, IsReached}
use Rattle.dsm_core.specs.declared.state.State.{State}
use Rattle.dsm_core.specs.declared.state.Step.{Step}
use Rattle.dsm_core.specs.declared.state.Step.TheVariants.{Did, Ended, NoMemory}
use Rattle.dsm_core.specs.States.{setup_of, setup_in, cluster_in, IsEvent, HasEnded, Stepped}
use Rattle.dsm_runs.proofs.Runs.{after_one_more, defined_one_more}
use Rattle.dsm_ties.specs.Always.{AlwaysLoosely}
use Rattle.dsm_meta.specs.Following.{Begins, Leaves_out, Takes, FollowedFrom, FollowedFed, Followed, HoldsIn}
use Rattle.dsm_meta.proofs.Reached.{holds_reached}

pub followed_none : (s : Setup) (c d : Cluster) → d ≡ c → FollowedFrom s c [] d
unfolding after all_defined
followed_none s c d is = record { events = []; follows = Begins; defined = refl; reaches = is }

pub fed_none : (s : Setup) (c d : Cluster) → d ≡ c → FollowedFed s c [] d
unfolding followed_none
fed_none s c d is = record { from = followed_none s c d is; fed = All-nil (λ e. e.starved ≡ false) }

module _ (s : Setup) (c : Cluster) (schedule : List ℕ) (old new : Cluster) (p : ℕ) where
  one_more : (starved : Bool) → FollowedFrom s c schedule old → IsEvent s old new (record { p = p; starved = starved }) → FollowedFrom s c (schedule ++ p ∷ []) new
  one_more starved f is =
      let e : Event = record { p = p; starved = starved } in
      let can : is_defined (after s c f.events) e ≡ true = ap (λ x. is_defined x e) (sym f.reaches) ∙ is.0 in
      record {
        events = f.events ++ e ∷ [];
        follows = Takes p starved f.follows can;
        defined = defined_one_more s c f.events e f.defined can;
        reaches = is.1 ∙ ap (λ x. after_event s x e) f.reaches ∙ sym (after_one_more s c f.events e);
      }

  left_out : FollowedFrom s c schedule old → HasEnded old p → new ≡ old → FollowedFrom s c (schedule ++ p ∷ []) new
  left_out f over is = record { events = f.events; follows = Leaves_out p f.follows (subst (λ x. HasEnded x p) f.reaches over); defined = f.defined; reaches = is ∙ f.reaches }

  -- a step of the processor that comes next is one number more
  pub followed_on : (r : Step) → FollowedFrom s c schedule old → Stepped s old new p r → FollowedFrom s c (schedule ++ p ∷ []) new
  followed_on Did f is = one_more false f is
  followed_on NoMemory f is = one_more true f is
  followed_on Ended f is = left_out f is.0 is.1

  -- and it is not starved, where it did not want memory
  pub fed_on : (r : Step) → (r ≡ NoMemory → ⊥) → FollowedFed s c schedule old → Stepped s old new p r → FollowedFed s c (schedule ++ p ∷ []) new
  unfolding one_more left_out
  fed_on Did room f is = record { from = one_more false f.from is; fed = All-push (λ e. e.starved ≡ false) f.from.events (record { p = p; starved = false }) f.fed refl }
  fed_on NoMemory room f is = absurd (room refl)
  fed_on Ended room f is = record { from = left_out f.from is.0 is.1; fed = f.fed }

-- from the start on it is one of the program
pub from_start : (s t : Setup) (schedule : List ℕ) (c d : Cluster) → t ≡ s → c ≡ start s → FollowedFrom t c schedule d → Followed s schedule d
from_start s t schedule c d is at f = subst (λ x. FollowedFrom s x schedule d) at (subst (λ (x : Setup). FollowedFrom x c schedule d) is f)

-- a schedule that is followed from the start leads to a reached state
pub followed_reaches : (s : Setup) (schedule : List ℕ) (d : Cluster) → Followed s schedule d → IsReached s d
unfolding reached
followed_reaches s schedule d f = (f.events, f.defined, f.reaches)

-- so what always holds holds of the code's state behind a schedule
pub holds_followed : (P : Setup → Cluster → Type 0) → AlwaysLoosely P → (program : ProgramText) (t : Topology) (limits : Limits) (schedule : List ℕ) (st : State)
    → setup_in st program ≡ setup_of program t limits → Followed (setup_of program t limits) schedule (cluster_in st program.code) → HoldsIn P program st
holds_followed P always program t limits schedule st is f setup =
    let c : Cluster = cluster_in st program.code in
    holds_reached P always (setup_in st program) c setup (subst (λ (s : Setup). IsReached s c) (sym is) (followed_reaches (setup_of program t limits) schedule c f))
