-- The directory's words of a node whose turn is held stay under events of other processors.
use Rattle.std.proofs.Common.{◌≡◌, ◌≢◌, ◌⊎◌, inl, inr, ℕ, suc, List, [], ◌∷◌, refl, sym, ap, ◌∙◌, subst}
use Rattle.std.proofs.lemmas.Bool.{cases_eq, eq-eqb, ne_eqb}
use Rattle.dsm_owners.specs.Stages.{held}
use Rattle.dsm_owners.specs.Acts.{Act, Take, Register, Part, Visit, Close, Twin_up, Break, Go_back, Close_end, Return, Claim, Withdraw, Enter, Make, Give, Release, Drop_kept, Drop_last, Unlist, Finish, Acquire, Leave, Done, put, moves, place}
use Rattle.dsm_owners.specs.Directory.{Node, Processor, State, Event, Do, Touch, Mark, node_after, after_event, after}
use Rattle.dsm_owners.specs.Premises.{Asks, May, Runs}
use Rattle.dsm_owners.proofs.Keeps.{Holds, keeps}
use Rattle.dsm_ties.proofs.Elsewhere.{IsBy, AllBy}

-- the words of a node are the same in the turn, the directory and the twin
pub record Alike (x x' : Node) : Type 0 where
  pub turn : x'.turn ≡ x.turn
  pub dir : x'.dir ≡ x.dir
  pub twined : x'.twined ≡ x.twined

same : (x : Node) → Alike x x
same x = record { turn = refl; dir = refl; twined = refl }

module _ (top : ℕ) (node : ℕ → ℕ) where
  -- an act of processor p at a node whose turn another one holds
  act_alike : (a : Act) (home n v p q : ℕ) (x : Node) (y : Processor) → Asks top node home n x y v a → (held n (moves a).0 ≡ suc (place n a) → x.turn ≡ suc p) → x.turn ≡ suc q → q ≢ p → Alike x (node_after p a x)
  act_alike (Take write) home n v p q x y ask own turn ne = absurd (cc (sym ask ∙ turn))
  act_alike (Visit write i busy j) home n v p q x y ask own turn ne = absurd (cc (sym ask.0 ∙ turn))
  act_alike (Close j) home n v p q x y ask own turn ne = absurd (cc (sym ask ∙ turn))
  act_alike (Return write i busy) home n v p q x y ask own turn ne = absurd (cc (sym ask.0 ∙ turn))
  act_alike Release home n v p q x y ask own turn ne = absurd (cc (sym ask.0 ∙ turn))
  act_alike Acquire home n v p q x y ask own turn ne = absurd (cc (sym ask.0 ∙ turn))
  act_alike (Register write) home n v p q x y ask own turn ne = absurd (ne (cc (sym turn ∙ own refl)))
  act_alike (Part write busy) home n v p q x y ask own turn ne = absurd (ne (cc (sym turn ∙ own refl)))
  act_alike (Twin_up why j) home n v p q x y ask own turn ne = absurd (ne (cc (sym turn ∙ own refl)))
  act_alike (Break why j) home n v p q x y ask own turn ne = absurd (ne (cc (sym turn ∙ own refl)))
  act_alike (Go_back write busy j) home n v p q x y ask own turn ne = absurd (ne (cc (sym turn ∙ own refl)))
  act_alike (Close_end j) home n v p q x y ask own turn ne = absurd (ne (cc (sym turn ∙ own refl)))
  act_alike Claim home n v p q x y ask own turn ne = absurd (ne (cc (sym turn ∙ own refl)))
  act_alike Withdraw home n v p q x y ask own turn ne = absurd (ne (cc (sym turn ∙ own refl)))
  act_alike Enter home n v p q x y ask own turn ne = absurd (ne (cc (sym turn ∙ own refl)))
  act_alike Make home n v p q x y ask own turn ne = absurd (ne (cc (sym turn ∙ own refl)))
  act_alike Give home n v p q x y ask own turn ne = absurd (ne (cc (sym turn ∙ own refl)))
  act_alike (Drop_kept j) home n v p q x y ask own turn ne = absurd (ne (cc (sym turn ∙ own refl)))
  act_alike (Drop_last j) home n v p q x y ask own turn ne = absurd (ne (cc (sym turn ∙ own refl)))
  act_alike Unlist home n v p q x y ask own turn ne = absurd (ne (cc (sym turn ∙ own refl)))
  act_alike Finish home n v p q x y ask own turn ne = absurd (ne (cc (sym turn ∙ own refl)))
  act_alike Leave home n v p q x y ask own turn ne = absurd (ne (cc (sym turn ∙ own refl)))
  act_alike Done home n v p q x y ask own turn ne = absurd (ne (cc (sym turn ∙ own refl)))
  act_alike a home n v p q x y ask own turn ne = record { turn = refl; dir = refl; twined = refl }

  -- an event of another processor,
  event_alike : (b : State) (e : Event) (p q m : ℕ) → Holds top node b → May top node b e → IsBy p e → (b.nodes m).turn ≡ suc q → q ≢ p → Alike (b.nodes m) ((after_event node b e).nodes m)
  event_alike b (Do r a) p q m h may by turn ne = go (cases_eq m (place (node r) a))
    where
      go : (m ≡ place (node r) a) ⊎ (m ≢ place (node r) a) → Alike (b.nodes m) (put b.nodes (place (node r) a) (node_after r a (b.nodes (place (node r) a))) m)
      go (inl e) =
          rw (eq-eqb m (place (node r) a) e) (subst (λ k. Alike (b.nodes k) (node_after r a (b.nodes (place (node r) a)))) (sym e)
          (act_alike a b.home (node r) _ r q (b.nodes (place (node r) a)) (b.processors r) may.2
          (λ d. (h.fits (place (node r) a) r).turn_is (ap (held (node r)) may.0 ∙ d)) (ap (λ k. (b.nodes k).turn) (sym e) ∙ turn) (λ d. ne (d ∙ by))))
      go (inr c) = rw (ne_eqb m (place (node r) a) c) (same (b.nodes m))
  event_alike b (Touch r write) p q m h may by turn ne = same (b.nodes m)
  event_alike b (Mark r k why j) p q m h may by turn ne = same (b.nodes m)

  -- and events of another one, oldest first
  pub events_alike : (es : List Event) (b : State) (p q m : ℕ) → Holds top node b → Runs top node b es → AllBy p es → (b.nodes m).turn ≡ suc q → q ≢ p → Alike (b.nodes m) ((after node b es).nodes m)
  events_alike [] b p q m h run by turn ne = same (b.nodes m)
  events_alike (e ∷ es) b p q m h run by turn ne =
      let one = event_alike b e p q m h run.0 by.0 turn ne in
      let rest = events_alike es (after_event node b e) p q m (keeps top node b e h run.0) run.1 by.1 (one.turn ∙ turn) ne in
      record { turn = rest.turn ∙ one.turn; dir = rest.dir ∙ one.dir; twined = rest.twined ∙ one.twined }
