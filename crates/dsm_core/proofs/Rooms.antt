-- Room for entries, where one machine has more or less of it.
use Rattle.std.proofs.Common.{◌≡◌, ◌≢◌, ◌⊎◌, inl, inr, ℕ, zero, suc, ◌+◌, ◌≤◌, ◌<◌, List, [], ◌∷◌, ◌++◌, Option, Some, None, length, get_or, take, map, All, refl, sym, ap, ◌∙◌, subst, arith}
use Rattle.std.specs.Prelude.{slice_get, slice_set, option_map, IsSomeAnd}
use Rattle.std.specs.List.{AllZip}
use Rattle.std.proofs.Math.Seq.{map-set_same}
use Rattle.std.proofs.lemmas.Bool.{cases_eq, cases_lt}
use Rattle.std.proofs.lemmas.Grind.{get_or_default_zero}
use Rattle.std.proofs.lemmas.List.{map-set, length-map, length-set, get_or-map, get_or-set_same, get_or-set_other, map_push, take_more_set}
use Rattle.std.proofs.lemmas.List.Elements.{All-push}
use Rattle.std.proofs.lemmas.Option.{slice_get-map, slice_get_within, get_or_from_slice_get}
use Rattle.dsm_machine.specs.declared.machine.Machine.{Machine}
use Rattle.dsm_words.specs.Place.{lay_of}
use Rattle.dsm_machine.specs.Machines.{who, spare_of}
use Rattle.dsm_core.specs.declared.state.State.{State}
use Rattle.dsm_core.specs.Room.{rooms, HasRoomFor, UsesOne}
use Rattle.dsm_core.specs.States.{HasNoRoom}
use Rattle.dsm_runs.proofs.Lists.{some_one}

-- nothing is used where all stays
pub uses_none : (p : ℕ) (old new : List ℕ) → new ≡ old → UsesOne p old new
uses_none p old new is =
    record {
      all = ap length is;
      own = let same : get_or new p 0 ≡ get_or old p 0 = ap (λ l. get_or l p 0) is in omega (arith, same);
      others = λ q ne. ap (λ l. get_or l q 0) is;
    }

-- one number in a list is one less at most
one_less : (old : List ℕ) (p room : ℕ) → p < length old → get_or old p 0 ≤ room + 1 → UsesOne p old (slice_set old p room)
one_less old p room inside less =
    record {
      all = length-set old p room;
      own = let is = get_or-set_same old p room 0 inside in omega (arith, is, less);
      others = λ q ne. get_or-set_other old p q room 0 ne;
    }

-- machine m at place p has room for one entry less at most
pub uses_one : (ms : List Machine) (p : ℕ) (m new : Machine) → p < length ms → m ≡ get_or ms p m → spare_of m ≤ spare_of new + 1 → UsesOne p (map spare_of ms) (map spare_of (slice_set ms p new))
uses_one ms p m new inside at less =
    let long : length (map spare_of ms) ≡ length ms = length-map ms spare_of in
    let here : get_or (map spare_of ms) p 0 ≡ spare_of m = get_or-map spare_of ms p m 0 inside ∙ ap spare_of (sym at) in
    subst (UsesOne p (map spare_of ms)) (sym (map-set spare_of ms p new)) (one_less (map spare_of ms) p (spare_of new) (omega (arith, long, inside)) (omega (arith, here, less)))

-- where there was room for one entry more, there is room for so many still
pub room_left : (old new : State) (p count : ℕ) → UsesOne p (rooms old) (rooms new) → HasRoomFor old (count + 1) → HasRoomFor new count
room_left old new p count uses had q d inside =
    let default : get_or (rooms new) q d ≡ get_or (rooms new) q 0 = get_or_default_zero (rooms new) q d inside in
    let was : count + 1 ≤ get_or (rooms old) q 0 = had q 0 (omega (arith, uses.all, inside)) in
    go (cases_eq q p) default was
  where
    go : (q ≡ p) ⊎ (q ≢ p) → get_or (rooms new) q d ≡ get_or (rooms new) q 0 → count + 1 ≤ get_or (rooms old) q 0 → count ≤ get_or (rooms new) q d
    go (inl e) default was =
        let own : get_or (rooms old) q 0 ≤ get_or (rooms new) q 0 + 1 = subst (λ k. get_or (rooms old) k 0 ≤ get_or (rooms new) k 0 + 1) (sym e) uses.own in
        omega (arith, default, was, own)
    go (inr ne) default was = let other = uses.others q ne in omega (arith, default, was, other)

-- where there is some room, no trace has none
pub has_some : (st : State) (p count : ℕ) → HasRoomFor st (count + 1) → HasNoRoom st p → ⊥
has_some st p count had = go (slice_get st.machines.items p) refl
  where
    go : (o : Option Machine) → slice_get st.machines.items p ≡ o → IsSomeAnd o (λ m. spare_of m ≡ 0) → ⊥
    go None at none = none
    go (Some m) at none =
        let there : slice_get (rooms st) p ≡ Some (spare_of m) = slice_get-map spare_of st.machines.items p ∙ ap (option_map spare_of) at in
        let is : get_or (rooms st) p 0 ≡ spare_of m = get_or_from_slice_get (rooms st) p (spare_of m) 0 there in
        let has : count + 1 ≤ get_or (rooms st) p 0 = had p 0 (slice_get_within (rooms st) p (spare_of m) there) in
        absurd (omega (arith, is, has, none))

-- no list has less than itself, and one has no less where one number in it has grown
pub keeps_all : (xs : List ℕ) → AllZip (λ had has. had ≤ has) xs xs
keeps_all [] = tt
keeps_all (x ∷ xs) = (omega arith, keeps_all xs)

keeps_set : (xs ys : List ℕ) (i room : ℕ) → AllZip (λ had has. had ≤ has) xs ys → get_or ys i 0 ≤ room → AllZip (λ had has. had ≤ has) xs (slice_set ys i room)
keeps_set [] [] i room keeps more = tt
keeps_set [] (y ∷ ys) i room keeps more = absurd keeps
keeps_set (x ∷ xs) [] i room keeps more = absurd keeps
keeps_set (x ∷ xs) (y ∷ ys) zero room keeps more = let first = keeps.0 in (omega (arith, first, more), keeps.1)
keeps_set (x ∷ xs) (y ∷ ys) (suc i) room keeps more = (keeps.0, keeps_set xs ys i room keeps.1 more)

-- the machine at place i, which a new one takes
module _ (ms : List Machine) (i : ℕ) (d new : Machine) (inside : i < length ms) where
  -- what is seen alike of both is seen of all as before
  pub seen_alike : {X : Type 0} (f : Machine → X) → f new ≡ f (get_or ms i d) → map f (slice_set ms i new) ≡ map f ms
  seen_alike f same = map-set_same f ms i new d same

  here : get_or (map spare_of ms) i 0 ≡ spare_of (get_or ms i d)
  here = get_or-map spare_of ms i d 0 inside

  pub keeps_more : (old : List ℕ) → AllZip (λ had has. had ≤ has) old (map spare_of ms) → spare_of (get_or ms i d) ≤ spare_of new → AllZip (λ had has. had ≤ has) old (map spare_of (slice_set ms i new))
  keeps_more old keeps more =
      subst (AllZip (λ had has. had ≤ has) old) (sym (map-set spare_of ms i new)) (keeps_set old (map spare_of ms) i (spare_of new) keeps (omega (arith, here, more)))

  pub one_more_has : (count : ℕ) → All (λ room. count ≤ room) (map spare_of (take i ms)) → count ≤ spare_of new → All (λ room. count ≤ room) (map spare_of (take (i + 1) (slice_set ms i new)))
  one_more_has count so_far has =
      let is : map spare_of (take (i + 1) (slice_set ms i new)) ≡ map spare_of (take i ms) ++ spare_of new ∷ [] = ap (map spare_of) (take_more_set ms i new inside) ∙ map_push spare_of (take i ms) new in
      subst (All (λ room. count ≤ room)) (sym is) (All-push (λ room. count ≤ room) (map spare_of (take i ms)) (spare_of new) so_far has)

  -- where all have so much room as before, so has this one
  pub has_as_before : (count : ℕ) (old : List ℕ) → All (λ room. count ≤ room) old → map spare_of ms ≡ old → count ≤ spare_of (get_or ms i d)
  has_as_before count old all is =
      let long : length (map spare_of ms) ≡ length ms = length-map ms spare_of in
      let has : count ≤ get_or (map spare_of ms) i 0 = subst (All (λ room. count ≤ room)) (sym is) all i 0 (omega (arith, long, inside)) in
      omega (arith, here, has)

-- who has so much, and as much as before where that was enough, has no less than before
pub no_less : (count had has : ℕ) → count ≤ has → (count ≤ had → has ≡ had) → had ≤ has
no_less count had has enough same = go (cases_lt had count)
  where
    go : (had < count) ⊎ (count ≤ had) → had ≤ has
    go (inl less) = omega (arith, enough, less)
    go (inr more) = let is = same more in omega (arith, is)

-- machines that have the numbers of a state's machines are numbered as those
pub numbered_alike : (st : State) (new : List Machine) → map who new ≡ map who st.machines.items → (k : ℕ) (x : Machine) → slice_get new k ≡ Some x → who x ≡ record { lay = lay_of st.lay; p = k; limits = st.limits }
numbered_alike st new same k x at = go (slice_get st.machines.items k) refl
  where
    there : slice_get (map who st.machines.items) k ≡ Some (who x)
    there = ap (λ l. slice_get l k) (sym same) ∙ slice_get-map who new k ∙ ap (option_map who) at

    go : (o : Option Machine) → slice_get st.machines.items k ≡ o → who x ≡ record { lay = lay_of st.lay; p = k; limits = st.limits }
    go None none = let z : None ≡ Some (who x) = sym (slice_get-map who st.machines.items k ∙ ap (option_map who) none) ∙ there in absurd (cc z)
    go (Some y) is = some_one (who x) (who y) (sym there ∙ slice_get-map who st.machines.items k ∙ ap (option_map who) is) ∙ st.numbered k y is
