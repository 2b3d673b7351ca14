-- Release work: the next dirty page, phases that have not ended, moments.
use Rattle.std.proofs.Common.{◌≡◌, ℕ, zero, suc, ◌+◌, ◌-◌, ◌<◌, ◌≤◌, ◌==◌, Bool, true, false, List, if◌then◌else◌, refl, ap, ◌∙◌, arith, eqb-true}
use Rattle.std.proofs.lemmas.Bool.{eqb-false}
use Rattle.std.specs.Prelude.{replicate}
use Rattle.dsm_words.specs.declared.item.Item.{Item}
use Rattle.dsm_words.specs.declared.item.Item.TheVariants.{Nle}
use Rattle.dsm_words.specs.Pages.{take_from}
use Rattle.dsm_words.specs.Parts.{each}
use Rattle.dsm_words.specs.Place.{Lay, groups}
use Rattle.dsm_words.specs.Script.{Script, is_open}
use Rattle.dsm_exclusive.specs.Telling.{take_nle_script}
use Rattle.dsm_outgoing.specs.Sending.{flush_word, flush_script}
use Rattle.dsm_protocol.specs.Own.{Own, Who, is_dirty}
use Rattle.dsm_protocol.specs.Jobs.{Job, Moment, Mark, Happen}
use Rattle.dsm_protocol.specs.Steps.{release_page, release_from}
use Rattle.dsm_protocol.specs.Processors.{Processor, settled}

-- a moment changes nothing
pub settled_moment : (b : Bool) (o : Own) (d : Moment) (j : Job) → settled o (if b then Mark (Happen d) j else j) ≡ settled o j
settled_moment true o d j = refl
settled_moment false o d j = refl

-- a phase begins with an operation, since there is a page, and a page has a word
take_open : (l : Lay) (word : ℕ → Item) (k c : ℕ) (set : List ℕ) → 0 < c → is_open (take_from l word k c set) ≡ true
take_open l word k zero set h = absurd (omega arith)
take_open l word k (suc c) set h = refl

pub take_nle_open : (l : Lay) (p : ℕ) → 0 < l.pages → is_open (take_nle_script l p) ≡ true
take_nle_open l p some = take_open l (λ k. Nle p k) 0 (groups l) (replicate 4 0) (omega arith)

words_open : (n g h i k : ℕ) (s : Script (Unit {0})) → 0 < k → is_open (each (λ i s. flush_word n g h i s) i k s) ≡ true
words_open n g h i zero s some = absurd (omega arith)
words_open n g h i (suc k) s some = refl

pub flush_open : (l : Lay) (n g h : ℕ) → 0 < l.words → is_open (flush_script l n g h) ≡ true
flush_open l n g h some = words_open n g h 0 l.words _ some

-- The next dirty page.
module _ (u : Who) (o : Own) (t0 to : ℕ) (rest : Job) where
  abbrev at_dirty : ℕ → Processor
  at_dirty g = settled o (release_page u t0 g (release_from u t0 (g + 1) (to - (g + 1)) rest))

  pick : (c from g : ℕ) → suc c + from ≡ to → from ≤ g → is_dirty o g ≡ true → ((b : ℕ) → from ≤ b → b < g → is_dirty o b ≡ false) → (from + 1 ≤ g → settled o (release_from u t0 (from + 1) c rest) ≡ at_dirty g) → settled o (release_from u t0 from (suc c) rest) ≡ at_dirty g
  pick c from g e le is gap later = go (from == g) refl
    where
      go : (t : Bool) → (from == g) ≡ t → settled o (release_from u t0 from (suc c) rest) ≡ at_dirty g
      go true q =
          let same : from ≡ g = eqb-true from g q in
          let one : is_dirty o from ≡ true = ap (λ x. is_dirty o x) same ∙ is in
          let more : c ≡ to - (from + 1) = omega arith in
          ap (λ b. settled o (if b then release_page u t0 from (release_from u t0 (from + 1) c rest) else release_from u t0 (from + 1) c rest)) one
          ∙ (ap (λ x. settled o (release_page u t0 from (release_from u t0 (from + 1) x rest))) more ∙ ap at_dirty same)
      go false q =
          let less : from < g = omega (arith, eqb-false from g q) in
          let none : is_dirty o from ≡ false = gap from (omega arith) less in
          ap (λ b. settled o (if b then release_page u t0 from (release_from u t0 (from + 1) c rest) else release_from u t0 (from + 1) c rest)) none ∙ later (omega arith)

  pub next_dirty : (c from g : ℕ) → c + from ≡ to → from ≤ g → g < to → is_dirty o g ≡ true → ((b : ℕ) → from ≤ b → b < g → is_dirty o b ≡ false) → settled o (release_from u t0 from c rest) ≡ at_dirty g
  next_dirty zero from g e le lt is gap = absurd (omega arith)
  next_dirty (suc c) from g e le lt is gap = pick c from g e le is gap (λ more. next_dirty c (from + 1) g (omega arith) more lt is (λ x p q. gap x (omega arith) q))

  pub none_dirty : (c from : ℕ) → c + from ≡ to → ((b : ℕ) → from ≤ b → b < to → is_dirty o b ≡ false) → settled o (release_from u t0 from c rest) ≡ settled o rest
  none_dirty zero from e gap = refl
  none_dirty (suc c) from e gap =
      let none : is_dirty o from ≡ false = gap from (omega arith) (omega arith) in
      ap (λ b. settled o (if b then release_page u t0 from (release_from u t0 (from + 1) c rest) else release_from u t0 (from + 1) c rest)) none ∙ none_dirty c (from + 1) (omega arith) (λ x p q. gap x (omega arith) q)
