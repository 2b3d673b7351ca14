-- What a script leaves that is made alone, operation by operation, and part by part of a loop.
use Rattle.std.proofs.Common.{◌≡◌, ◌≢◌, ℕ, zero, suc, ◌+◌, ◌<◌, ◌≤◌, Bool, true, false, List, [], ◌∷◌, length, refl, sym, ap, ◌∙◌, subst, ◌⊎◌, inl, inr, arith, if◌then◌else◌}
use Rattle.std.proofs.lemmas.Bool.{cases_lt}
use Rattle.dsm_words.specs.declared.item.Item.{Item}
use Rattle.dsm_words.specs.Place.{Lay, IsWithin, total}
use Rattle.dsm_words.specs.Script.{Act, Get, Script, End, Do, Until, Makes, item_of, step}
use Rattle.dsm_words.specs.Parts.{each, and_then}
use Rattle.dsm_words.specs.Words.{word, done, reply}
use Rattle.dsm_words.specs.Changes.{done_all, IsAnswered, MakesAlone, StaysWithin, AlwaysLeaves, LeavesTheUnnamed, CanBeMade}
use Rattle.dsm_words.proofs.ListChanges.{all_others}
use Rattle.dsm_words.proofs.Parts.{step-and_then}

-- the end, an operation, and a load of a word
pub leaves_end : {R : Type 0} (l : Lay) (ws : List ℕ) (r : R) (Holds : List ℕ → Type 0) → Holds ws → AlwaysLeaves l ws (End r) Holds
leaves_end l ws r Holds h [] r' m = h
leaves_end l ws r Holds h (x ∷ xs) r' m = absurd (cc m.0.0)

pub leaves_do : {R : Type 0} (l : Lay) (ws : List ℕ) (a : Act) (k : ℕ → Script R) (Holds : List ℕ → Type 0) → AlwaysLeaves l (done l ws a) (k (reply l ws a)) Holds → AlwaysLeaves l ws (Do a k) Holds
leaves_do l ws a k Holds h [] r m = absurd (cc m.0)
leaves_do l ws a k Holds h (x ∷ xs) r m =
    let same : x.0 ≡ a = m.0.1 in
    let told : x.1 ≡ reply l ws a = m.1.0 ∙ ap (λ b. reply l ws b) same in
    let made = subst (λ y. Makes (k y) xs r) told m.0.2 in
    let answered = subst (λ b. IsAnswered l (done l ws b) xs) same m.1.1 in
    subst (λ b. Holds (done_all l (done l ws b) xs)) (sym same) (h xs r (made, answered))

pub leaves_get : {R : Type 0} (l : Lay) (ws : List ℕ) (it : Item) (k : ℕ → Script R) (Holds : List ℕ → Type 0) → AlwaysLeaves l ws (k (word l ws it)) Holds → AlwaysLeaves l ws (Do (Get it) k) Holds
unfolding done reply word
leaves_get l ws it k Holds h = leaves_do l ws (Get it) k Holds h

-- a script and the one behind it
followed : {A B : Type 0} (l : Lay) (xs : List (Act × ℕ)) (s : Script A) (ws : List ℕ) (f : A → Script B) (Holds : List ℕ → Type 0) → ((ys : List (Act × ℕ)) (x : A) → MakesAlone l ws s ys x → AlwaysLeaves l (done_all l ws ys) (f x) Holds) → (r : B) → MakesAlone l ws (and_then s f) xs r → Holds (done_all l ws xs)
followed l xs (End x) ws f Holds h r m = h [] x (refl, tt) xs r m
followed l [] (Do a k) ws f Holds h r m = absurd (cc m.0)
followed l [] (Until a wanted s) ws f Holds h r m = absurd (cc m.0)
followed l (x ∷ xs) (Do a k) ws f Holds h r m = followed l xs (k x.1) (done l ws x.0) f Holds (λ ys y m'. h (x ∷ ys) y ((refl, m.0.1, m'.0), (m.1.0, m'.1))) r (m.0.2, m.1.1)
followed l (x ∷ xs) (Until a wanted s) ws f Holds h r m =
    let made = subst (λ z. Makes z xs r) (step-and_then (Until a wanted s) f x.1 refl) m.0.2 in
    followed l xs (step (Until a wanted s) x.1) (done l ws x.0) f Holds (λ ys y m'. h (x ∷ ys) y ((refl, m.0.1, m'.0), (m.1.0, m'.1))) r (made, m.1.1)

pub leaves_and_then : {A B : Type 0} (l : Lay) (ws : List ℕ) (s : Script A) (f : A → Script B) (Between Holds : List ℕ → Type 0) → AlwaysLeaves l ws s Between → ((mid : List ℕ) (x : A) → Between mid → AlwaysLeaves l mid (f x) Holds) → AlwaysLeaves l ws (and_then s f) Holds
leaves_and_then l ws s f Between Holds h go xs r m = followed l xs s ws f Holds (λ ys x m'. go (done_all l ws ys) x (h ys x m')) r m

-- from element lo on and below hi each has become what it should, and no item changed but theirs
pub record AreDone (l : Lay) (Changed : ℕ → Item → Type 0) (Becomes : ℕ → (Item → ℕ) → (Item → ℕ) → Type 0) (lo hi : ℕ) (ws new : List ℕ) : Type 0 where
  pub become : (j : ℕ) → lo ≤ j → j < hi → Becomes j (λ it. word l ws it) (λ it. word l new it)
  pub others : (it : Item) → IsWithin l it → ((j : ℕ) → lo ≤ j → j < hi → Changed j it → ⊥) → word l new it ≡ word l ws it
  pub long : length new ≡ length ws

-- the items of which an element's becoming speaks are changed by no other element
abbrev pub SpeaksOfItsOwn : Lay → (ℕ → Item → Type 0) → (ℕ → (Item → ℕ) → (Item → ℕ) → Type 0) → ℕ → Type 0
SpeaksOfItsOwn l Changed Becomes hi =
    (j : ℕ) (f f' g g' : Item → ℕ) → j < hi → ((it : Item) → IsWithin l it → ((i : ℕ) → i ≢ j → Changed i it → ⊥) → f it ≡ f' it) → ((it : Item) → IsWithin l it → ((i : ℕ) → i ≢ j → Changed i it → ⊥) → g it ≡ g' it) → Becomes j f g → Becomes j f' g'

module _ (l : Lay) (Changed : ℕ → Item → Type 0) (Becomes : ℕ → (Item → ℕ) → (Item → ℕ) → Type 0) where
  -- one element alone
  pub one_done : (i : ℕ) (ws new : List ℕ) → Becomes i (λ it. word l ws it) (λ it. word l new it) → ((it : Item) → IsWithin l it → (Changed i it → ⊥) → word l new it ≡ word l ws it) → length new ≡ length ws → AreDone l Changed Becomes i (i + 1) ws new
  one_done i ws new b others long =
      record {
        become = λ j p q. let e : i ≡ j = omega arith in subst (λ x. Becomes x (λ it. word l ws it) (λ it. word l new it)) e b;
        others = λ it w ne. others it w (ne i (omega arith) (omega arith));
        long = long;
      }

  -- and the others behind it
  joined : (i hi : ℕ) (ws mid new : List ℕ) → SpeaksOfItsOwn l Changed Becomes hi → i < hi → AreDone l Changed Becomes i (i + 1) ws mid → AreDone l Changed Becomes (i + 1) hi mid new → AreDone l Changed Becomes i hi ws new
  joined i hi ws mid new own lt a b =
      record {
        become = λ j p q. go j p q (cases_lt i j);
        others = λ it w ne. b.others it w (λ j p q. ne j (omega arith) q) ∙ a.others it w (λ j p q. ne j p (omega arith));
        long = b.long ∙ a.long;
      }
    where
      go : (j : ℕ) → i ≤ j → j < hi → (i < j) ⊎ (j ≤ i) → Becomes j (λ it. word l ws it) (λ it. word l new it)
      go j p q (inl h) =
          own j (λ it. word l mid it) (λ it. word l ws it) (λ it. word l new it) (λ it. word l new it) q (λ it w ne. a.others it w (λ i' p' q'. ne i' (omega arith))) (λ it w ne. refl) (b.become j (omega arith) q)
      go j p q (inr h) =
          own j (λ it. word l ws it) (λ it. word l ws it) (λ it. word l mid it) (λ it. word l new it) q (λ it w ne. refl) (λ it w ne. sym (b.others it w (λ i' p' q'. ne i' (omega arith)))) (a.become j p (omega arith))

  -- a loop, where each part leaves its element done
  module _ {R : Type 0} (part : ℕ → Script R → Script R) (hi : ℕ) (Holds : List ℕ → Type 0) (own : SpeaksOfItsOwn l Changed Becomes hi) (one : (i : ℕ) (ws : List ℕ) (s : Script R) → i < hi → length ws ≡ total l → ((new : List ℕ) → AreDone l Changed Becomes i (i + 1) ws new → AlwaysLeaves l new s Holds) → AlwaysLeaves l ws (part i s) Holds) where
    pub leaves_each : (i k : ℕ) (ws : List ℕ) (s : Script R) → i + k ≡ hi → length ws ≡ total l → ((new : List ℕ) → AreDone l Changed Becomes i hi ws new → AlwaysLeaves l new s Holds) → AlwaysLeaves l ws (each part i k s) Holds
    leaves_each i zero ws s e n go = go ws (record { become = λ j p q. absurd (omega arith); others = λ it w ne. refl; long = refl })
    leaves_each i (suc k) ws s e n go = one i ws (each part (i + 1) k s) (omega arith) n (λ mid a. leaves_each (i + 1) k mid s (omega arith) (a.long ∙ n) (λ new b. go new (joined i hi ws mid new own (omega arith) a b)))

-- it makes no operation again and again, and every operation that it may make is on an item in range
pub IsPlain : {R : Type 0} → Lay → Script R → Type 0
IsPlain l (End r) = Unit {0}
IsPlain l (Do a k) = IsWithin l (item_of a) × ((x : ℕ) → IsPlain l (k x))
IsPlain l (Until a wanted s) = ⊥

stays : {R : Type 0} (l : Lay) (s : Script R) (xs : List (Act × ℕ)) (r : R) → IsPlain l s → Makes s xs r → StaysWithin l xs
unfolding IsPlain
stays l s [] r v m = tt
stays l (End x) (y ∷ xs) r v m = absurd (cc m.0)
stays l (Do a k) (y ∷ xs) r v m = (subst (λ b. IsWithin l (item_of b)) (sym m.1) v.0, stays l (k y.1) xs r (v.1 y.1) m.2)
stays l (Until a wanted s) (y ∷ xs) r v m = absurd v

-- so what its list doesn't name is left, and there is such a list
pub leaves_unnamed : {R : Type 0} (l : Lay) (s : Script R) → IsPlain l s → LeavesTheUnnamed l s
leaves_unnamed l s v ws xs r it m w out = all_others l ws xs it (stays l s xs r v m.0) w out

pub can_be_made : {R : Type 0} (l : Lay) (s : Script R) → IsPlain l s → CanBeMade l s
unfolding IsPlain
can_be_made l (End r) v ws = ([], (r, (refl, tt)))
can_be_made l (Do a k) v ws =
    let rest = can_be_made l (k (reply l ws a)) (v.1 (reply l ws a)) (done l ws a) in
    ((a, reply l ws a) ∷ rest.0, (rest.1.0, ((refl, refl, rest.1.1.0), (refl, rest.1.1.1))))
can_be_made l (Until a wanted s) v ws = absurd v

pub plain_end : {R : Type 0} (l : Lay) (r : R) → IsPlain l (End r)
unfolding IsPlain
plain_end l r = tt

pub plain_do : {R : Type 0} (l : Lay) (a : Act) (k : ℕ → Script R) → IsWithin l (item_of a) → ((x : ℕ) → IsPlain l (k x)) → IsPlain l (Do a k)
unfolding IsPlain
plain_do l a k w v = (w, v)

pub plain_if : {R : Type 0} (l : Lay) (b : Bool) (s t : Script R) → IsPlain l s → IsPlain l t → IsPlain l (if b then s else t)
plain_if l true s t v w = v
plain_if l false s t v w = w

pub plain_each : {R : Type 0} (l : Lay) (part : ℕ → Script R → Script R) (hi : ℕ) → ((i : ℕ) (s : Script R) → i < hi → IsPlain l s → IsPlain l (part i s)) → (i k : ℕ) (s : Script R) → i + k ≡ hi → IsPlain l s → IsPlain l (each part i k s)
plain_each l part hi one i zero s e v = v
plain_each l part hi one i (suc k) s e v = one i (each part (i + 1) k s) (omega arith) (plain_each l part hi one (i + 1) k s (omega arith) v)

pub plain_and_then : {A B : Type 0} (l : Lay) (s : Script A) (f : A → Script B) → IsPlain l s → ((x : A) → IsPlain l (f x)) → IsPlain l (and_then s f)
unfolding IsPlain
plain_and_then l (End r) f v w = w r
plain_and_then l (Do a k) f v w = (v.0, λ x. plain_and_then l (k x) f (v.1 x) w)
plain_and_then l (Until a wanted s) f v w = absurd v
