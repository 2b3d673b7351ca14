-- The lists that are written out, computed.
use Rattle.std.proofs.Common.{◌≡◌, ℕ, ◌≤◌, ◌<◌, ◌⊎◌, Bool, true, false, List, refl, ap, inl, inr, arith}
use Rattle.std.specs.Prelude.{◌&&◌, nat_lt}
use Rattle.dsm_owners.specs.Stages.{Why, Stage, Setting, Ending}
use Rattle.dsm_owners.specs.Acts.{moves}
use Rattle.dsm_owners.specs.Directory.{State, start}
use Rattle.dsm_owners.specs.Laws.{OneHolder, UnregisteredUnmapped, MappedFetched, WritersTwinned}
use Rattle.dsm_owners.specs.Examples.{Example, MeetsAll, Case, Breaks, reached, behind, last, one_each, two_at_one}
use Rattle.dsm_owners.proofs.Tests.{and_left, and_right, all_stand, stages_of, runs_test, runs}

-- processors of no node, with one processor a node,
pub far_each : (top q : ℕ) → top ≤ q → top ≤ one_each q
far_each top q le = le

-- and with two at node 1
pub far_two : (q : ℕ) → 3 ≤ q → 2 ≤ two_at_one q
far_two q le = grind arith

module _ (bound : ℕ) where
  -- a list that passes meets all premises
  pub meets : (x : Example) → ((q : ℕ) → bound ≤ q → x.top ≤ x.node q) → all_stand x.top bound x.node start x.events ≡ stages_of x.events → runs_test x.top bound x.node start x.events ≡ true → MeetsAll x
  meets x far i h = runs x.top bound x.node far start x.events i h

  -- where the processors of a case stand,
  abbrev pub case_stand : Case → List Stage × Stage × List Stage
  case_stand c = (all_stand c.top bound c.node start c.earlier, ((reached c).processors c.p).stage, all_stand c.top bound c.node (behind c) c.later)

  -- where they should,
  abbrev pub case_stages : Case → List Stage × Stage × List Stage
  case_stages c = (stages_of c.earlier, (moves c.act).0, stages_of c.later)

  -- and whether all but its act meet their premises
  abbrev pub case_test : Case → Bool
  case_test c = runs_test c.top bound c.node start c.earlier && (nat_lt (c.node c.p) c.top && runs_test c.top bound c.node (behind c) c.later)

  less : (a b : ℕ) (c : Bool) → (nat_lt a b && c) ≡ true → a < b
  less a b c e = grind arith

  pub breaks : (fact : (top : ℕ) → (node : ℕ → ℕ) → State → Type 0) (c : Case) → ((q : ℕ) → bound ≤ q → c.top ≤ c.node q) → case_stand c ≡ case_stages c → case_test c ≡ true → (fact c.top c.node (last c) → ⊥) → Breaks fact c
  breaks fact c far i h broken =
      let earlier = runs_test c.top bound c.node start c.earlier in
      let later = runs_test c.top bound c.node (behind c) c.later in
      let rest = and_right earlier (nat_lt (c.node c.p) c.top && later) h in
      record {
        before = runs c.top bound c.node far start c.earlier (ap (λ z. z.0) i) (and_left earlier (nat_lt (c.node c.p) c.top && later) h);
        standing = ap (λ z. z.1) i;
        ranged = less (c.node c.p) c.top later rest;
        afterwards = runs c.top bound c.node far (behind c) c.later (ap (λ z. z.2) i) (and_right (nat_lt (c.node c.p) c.top) later rest);
        broken = broken;
      }

-- node 0 is exclusive, and processor 1, of node 1, may load
pub shares : (c : Case) → 1 < c.top → c.node 1 ≡ 1 → ((last c).nodes 0).dir ≡ 2 → ((last c).processors 1).map ≡ 1 → OneHolder c.top c.node (last c) → ⊥
shares c lt i d m f = go ((f 0 1 lt (omega arith) d).2 1 i)
  where
    go : (((last c).processors 1).map ≡ 0) ⊎ (((last c).processors 1).map ≡ 3) → ⊥
    go (inl e) = absurd (omega (arith, m, e))
    go (inr e) = absurd (omega (arith, m, e))

-- a processor of an unregistered node may load
pub maps : (c : Case) (r : ℕ) → ((last c).nodes (c.node r)).dir ≡ 0 → ((last c).processors r).map ≡ 1 → UnregisteredUnmapped c.top c.node (last c) → ⊥
maps c r d m f = let e = (f (c.node r) d).2 r refl in absurd (omega (arith, m, e))

-- a mapping away from the home, of a copy that was not fetched
pub unstamped_map : (c : Case) (r : ℕ) → (last c).home ≡ 1 → c.node r ≡ 1 → 1 ≤ ((last c).processors r).map → ((last c).processors r).map ≤ 2 → ((last c).nodes (c.node r)).update ≡ false → MappedFetched c.top c.node (last c) → ⊥
unstamped_map c r h n low high u f = absurd (cc (f r (λ e. absurd (omega (arith, e, h, n))) low high, u))

-- a mapping to write away from the home, of a shared node with no twin
pub untwinned_map : (c : Case) (r : ℕ) → (last c).home ≡ 1 → c.node r ≡ 1 → ((last c).processors r).map ≡ 2 → ((last c).nodes (c.node r)).dir ≡ 1 → ((last c).nodes (c.node r)).twined ≡ false → WritersTwinned c.top c.node (last c) → ⊥
untwinned_map c r h n m d t f = go (f r (λ e. absurd (omega (arith, e, h, n))) m)
  where
    go : (((last c).nodes (c.node r)).dir ≡ 2) ⊎ (((last c).nodes (c.node r)).twined ≡ true) → ⊥
    go (inl e) = absurd (omega (arith, d, e))
    go (inr e) = absurd (cc (t, e))

-- a processor that is about to map the page breaks nobody
pub setting : ((why : Why) × (j : ℕ) × (Setting true true ≡ Ending why j)) → ⊥
setting z = absurd (cc z.2)
