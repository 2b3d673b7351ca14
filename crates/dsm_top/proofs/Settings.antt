-- What settings give, and which words are settings.
use Rattle.std.proofs.Common.{◌≡◌, ◌≢◌, ℕ, suc, ◌==◌, IsTrue, Option, None, Some, List, [], ◌∷◌, ◌++◌, codes, All, filter_map, refl, sym, ap, ◌∙◌, arith, append-nil}
use Rattle.std.specs.Prelude.{Any}
use Rattle.std.specs.List.{before_first, cons_option}
use Rattle.std.specs.Option.{is_some, option_to_list, option_or}
use Rattle.std.specs.Str.{bytes_eq}
use Rattle.std.proofs.lemmas.List.Elements.{filter_map-append, All-cons, All-nil}
use Rattle.std.proofs.lemmas.Slice.Eq.{bytes_eq-Decides}
use Rattle.dsm_top.specs.declared.planning.Given.{Given}
use Rattle.dsm_top.specs.declared.plans.Setting.{Setting}
use Rattle.dsm_top.specs.declared.plans.Setting.TheVariants.{Kind as OfKind, Seed, Turns, Looks, Steps, Trace, Threads}
use Rattle.dsm_top.specs.Plans.{name_of, word_of, kind_of, seed_of, turns_of, looks_of, steps_of, trace_of, threads_of, IsGivenBy}

-- the name stands in the word before its first `=`
name-word : (s : Setting) → name_of s ≡ before_first (λ b. b == 61) (word_of s)
name-word (OfKind kind) = refl
name-word (Seed n) = refl
name-word (Turns n) = refl
name-word (Looks n) = refl
name-word (Steps n) = refl
name-word Trace = refl
name-word Threads = refl

pub name-from_word : (a b : Setting) → word_of a ≡ word_of b → name_of a ≡ name_of b
name-from_word a b same = name-word a ∙ ap (before_first (λ b. b == 61)) same ∙ sym (name-word b)

-- a setting gives what its name says, and nothing else
abbrev pub Names : {A : Type 0} → (Setting → Option A) → List ℕ → Type 0
Names of name = (s : Setting) → is_some (of s) ≡ bytes_eq (name_of s) name

pub kind-named : Names kind_of (codes "kind")
kind-named (OfKind kind) = refl
kind-named _ = refl

pub seed-named : Names seed_of (codes "seed")
seed-named (Seed n) = refl
seed-named _ = refl

pub turns-named : Names turns_of (codes "turns")
turns-named (Turns n) = refl
turns-named _ = refl

pub looks-named : Names looks_of (codes "looks")
looks-named (Looks n) = refl
looks-named _ = refl

pub steps-named : Names steps_of (codes "steps")
steps-named (Steps n) = refl
steps-named _ = refl

pub trace-named : Names trace_of (codes "trace")
trace-named Trace = refl
trace-named _ = refl

pub threads-named : Names threads_of (codes "threads")
threads-named Threads = refl
threads-named _ = refl

module _ {A : Type 0} (of : Setting → Option A) (name : List ℕ) (names : Names of name) where
  named : (s : Setting) (x : A) → of s ≡ Some x → name_of s ≡ name
  named s x is = (bytes_eq-Decides (name_of s) name).0 (sym (names s) ∙ ap is_some is)

  unnamed : (s : Setting) → of s ≡ None → name_of s ≢ name
  unnamed s is same = let yes = (bytes_eq-Decides (name_of s) name).1 same in let no = sym (names s) ∙ ap is_some is in cc

  -- some setting has the name where something is given
  some-given : (settings : List Setting) (x : A) → filter_map of settings ≡ x ∷ [] → Any (λ s. name_of s ≡ name) settings
  some-given [] x given = absurd (cc)
  some-given (s ∷ settings) x given = go (some-given settings x) (of s) refl
    where
      go : (filter_map of settings ≡ x ∷ [] → Any (λ other. name_of other ≡ name) settings) → (o : Option A) → of s ≡ o → Any (λ other. name_of other ≡ name) (s ∷ settings)
      go others (Some y) is = (0, s, omega arith, refl, named s y is)
      go others None is =
          let (k, other, inside, there, same) = others (rw is at given) in
          (suc k, other, omega arith, there, same)

  -- none has it where nothing is
  none-given : (settings : List Setting) → filter_map of settings ≡ [] → All (λ s. name_of s ≢ name) settings
  none-given [] given = All-nil (λ s. name_of s ≢ name)
  none-given (s ∷ settings) given = go (none-given settings) (of s) refl
    where
      go : (filter_map of settings ≡ [] → All (λ other. name_of other ≢ name) settings) → (o : Option A) → of s ≡ o → All (λ other. name_of other ≢ name) (s ∷ settings)
      go others (Some y) is = absurd (let h = rw is at given in cc)
      go others None is = All-cons (λ other. name_of other ≢ name) s settings (unnamed s is) (others (rw is at given))

  pub given-Any : (settings : List Setting) (o : Option A) → filter_map of settings ≡ option_to_list o → (IsTrue (is_some o) → Any (λ s. name_of s ≡ name) settings) × (Any (λ s. name_of s ≡ name) settings → IsTrue (is_some o))
  given-Any settings None given = (λ no. absurd (cc), λ (k, other, inside, there, same). absurd (none-given settings given k other inside (ap name_of there ∙ same)))
  given-Any settings (Some x) given = (λ yes. some-given settings x given, λ any. refl)

  -- what is given with one more setting, which is the first of its name
  pub given-more : (settings : List Setting) (o : Option A) → filter_map of settings ≡ option_to_list o → (s : Setting) → All (λ other. name_of other ≢ name_of s) settings → filter_map of (settings ++ s ∷ []) ≡ option_to_list (option_or (of s) o)
  given-more settings o given s new = filter_map-append of settings (s ∷ []) ∙ go (of s) refl o given
    where
      go : (one : Option A) → of s ≡ one → (before : Option A) → filter_map of settings ≡ option_to_list before → filter_map of settings ++ cons_option one [] ≡ option_to_list (option_or one before)
      go None is before given_before = append-nil (filter_map of settings) ∙ given_before
      go (Some x) is None given_before = ap (λ xs. xs ++ x ∷ []) given_before
      go (Some x) is (Some y) given_before =
          let (k, other, inside, there, same) = some-given settings y given_before in
          absurd (new k other inside (ap name_of there ∙ same ∙ sym (named s x is)))

-- what is given with one more setting
abbrev with_one : Given → Setting → Given
with_one given s = record {
  kind = option_or (kind_of s) given.kind;
  seed = option_or (seed_of s) given.seed;
  turns = option_or (turns_of s) given.turns;
  looks = option_or (looks_of s) given.looks;
  steps = option_or (steps_of s) given.steps;
  trace = option_or (trace_of s) given.trace;
  threads = option_or (threads_of s) given.threads;
}

pub with-IsGivenBy : (given : Given) (s : Setting) (settings : List Setting) → IsGivenBy given settings → All (λ other. name_of other ≢ name_of s) settings → IsGivenBy (with_one given s) (settings ++ s ∷ [])
with-IsGivenBy given s settings all new = record {
  kind = given-more kind_of (codes "kind") kind-named settings given.kind all.kind s new;
  seed = given-more seed_of (codes "seed") seed-named settings given.seed all.seed s new;
  turns = given-more turns_of (codes "turns") turns-named settings given.turns all.turns s new;
  looks = given-more looks_of (codes "looks") looks-named settings given.looks all.looks s new;
  steps = given-more steps_of (codes "steps") steps-named settings given.steps all.steps s new;
  trace = given-more trace_of (codes "trace") trace-named settings given.trace all.trace s new;
  threads = given-more threads_of (codes "threads") threads-named settings given.threads all.threads s new;
}
