-- The labels of a text, line by line.
use Rattle.std.proofs.Common.{◌≡◌, ℕ, suc, ◌+◌, ◌≤◌, Bool, true, false, cond, List, [], ◌∷◌, ◌++◌, length, drop, length-append, Option, None, Some, append-nil, append_assoc, refl, sym, ap, ◌∙◌, arith}
use Rattle.std.specs.List.{filter, slice_get}
use Rattle.std.specs.Option.{is_some, option_map, option_map_or, option_or}
use Rattle.std.specs.Str.{bytes_eq}
use Rattle.std.specs.Prelude.{if◌then◌else◌}
use Rattle.std.specs.Borrow.{Bor}
use Rattle.dsm_lex.specs.Lexical.{lines_of}
use Rattle.dsm_grammar.specs.Grammar.{has_instruction, meaning_of, defines, place_of}
use Rattle.dsm_grammar.specs.Lines.{label_of, statement_of}
use Rattle.dsm_grammar.specs.Settings.{default_settings}
use Rattle.dsm_grammar.specs.Statements.{named, instructions}
use Rattle.dsm_grammar.proofs.Counting.{count}
use Rattle.dsm_asm.specs.declared.forms.Form.{Form}
use Rattle.dsm_asm.specs.declared.labels.Label.{Label}
use Rattle.dsm_asm.specs.Forms.{statement_in}
use Rattle.dsm_asm.specs.Labelled.{line_of, Labelled}

or-none : {X : Type 0} (o : Option X) → o ≡ option_or o None
or-none None = refl
or-none (Some x) = refl

-- What is defined where nothing was is what was there, or else the new one.
pub first_stays : {X : Type 0} (same : Bool) (old : Option X) (x : X) → (same ≡ true → old ≡ None) → cond same (Some x) old ≡ option_or old (if same then Some x else None)
first_stays true None x absent = refl
first_stays true (Some y) x absent = absurd (cc (absent refl))
first_stays false old x absent = or-none old

pub none-from_absent : {X : Type 0} (o : Option X) → is_some o ≡ false → o ≡ None
none-from_absent None e = refl
none-from_absent (Some x) e = absurd (cc e)

-- Where a label stands behind one line more: where it stood, or on that line. `step` counts a line.
snoc-case : (first last : Bool) (step : ℕ → ℕ) (old new : Option ℕ) (n : ℕ) → new ≡ option_or old (if last then Some n else None) → cond first (Some 0) (option_map step new) ≡ option_or (cond first (Some 0) (option_map step old)) (if last then Some (step n) else None)
snoc-case true last step old new n e = refl
snoc-case false true step None new n e = ap (option_map step) e
snoc-case false false step None new n e = ap (option_map step) e
snoc-case false last step (Some k) new n e = ap (option_map step) e

abbrev count-step : List ℕ → ℕ → ℕ
count-step line place = if has_instruction line then place + 1 else place

count-more : (line : List ℕ) (lines : List (List ℕ)) → count-step line (count lines) ≡ count (line ∷ lines)
count-more line lines = go (has_instruction line)
  where
    go : (has : Bool) → cond has (count lines + 1) (count lines) ≡ length (cond has (line ∷ filter has_instruction lines) (filter has_instruction lines))
    go true = omega arith
    go false = refl

place_of-snoc : (lines : List (List ℕ)) (line name : List ℕ) → place_of (lines ++ line ∷ []) name ≡ option_or (place_of lines name) (if defines name line then Some (count lines) else None)
place_of-snoc [] line name = go (defines name line)
  where
    go : (last : Bool) → cond {A = Option ℕ} last (Some 0) None ≡ option_or None (cond {A = Option ℕ} last (Some 0) None)
    go true = refl
    go false = refl
place_of-snoc (l ∷ lines) line name =
    snoc-case (defines name l) (defines name line) (count-step l) (place_of lines name) (place_of (lines ++ line ∷ []) name) (count lines) (place_of-snoc lines line name)
    ∙ ap (λ n. option_or (place_of (l ∷ lines) name) (if defines name line then Some n else None)) (count-more l lines)

line_of-snoc : (lines : List (List ℕ)) (line name : List ℕ) → line_of (lines ++ line ∷ []) name ≡ option_or (line_of lines name) (if defines name line then Some (length lines) else None)
line_of-snoc [] line name = go (defines name line)
  where
    go : (last : Bool) → cond {A = Option ℕ} last (Some 0) None ≡ option_or None (cond {A = Option ℕ} last (Some 0) None)
    go true = refl
    go false = refl
line_of-snoc (l ∷ lines) line name = snoc-case (defines name l) (defines name line) suc (line_of lines name) (line_of (lines ++ line ∷ []) name) (length lines) (line_of-snoc lines line name)

map-or : {X Y : Type 0} (f : X → Y) (old : Option X) (last : Bool) (x : X) → option_map f (option_or old (if last then Some x else None)) ≡ option_or (option_map f old) (if last then Some (f x) else None)
map-or f None true x = refl
map-or f None false x = refl
map-or f (Some y) last x = refl

Labelled-more : (lines : List (List ℕ)) (line : List ℕ) (old new : List ℕ → Option Label) → Labelled lines old → ((name : List ℕ) → new name ≡ option_or (old name) (if defines name line then Some (record { line = length lines; place = count lines }) else None)) → Labelled (lines ++ line ∷ []) new
Labelled-more lines line old new labelled is = record {
  place = λ name. ap (option_map (λ (label : Label). label.place)) (is name) ∙ map-or (λ label. label.place) (old name) (defines name line) (record { line = length lines; place = count lines })
      ∙ ap (λ o. option_or o (if defines name line then Some (count lines) else None)) (labelled.place name) ∙ sym (place_of-snoc lines line name);
  line = λ name. ap (option_map (λ (label : Label). label.line)) (is name) ∙ map-or (λ label. label.line) (old name) (defines name line) (record { line = length lines; place = count lines })
      ∙ ap (λ o. option_or o (if defines name line then Some (length lines) else None)) (labelled.line name) ∙ sym (line_of-snoc lines line name);
}

-- The labels of the first lines are held, and the rest is left.
pub record HasLabelled (text rest : List ℕ) (line place : ℕ) (held : List ℕ → Option Label) : Type 0 where
  pub before : List (List ℕ)
  pub cut : lines_of text ≡ before ++ lines_of rest
  pub number : length before ≡ line
  pub instructions : count before ≡ place
  pub labelled : Labelled before held

pub HasLabelled-nothing : (text : List ℕ) (held : List ℕ → Option Label) → ((name : List ℕ) → held name ≡ None) → HasLabelled text text 0 0 held
HasLabelled-nothing text held none = record {
  before = [];
  cut = refl;
  number = refl;
  instructions = refl;
  labelled = record { place = λ name. ap (option_map (λ (label : Label). label.place)) (none name); line = λ name. ap (option_map (λ (label : Label). label.line)) (none name) };
}

-- the label that is noted is the one that the line defines
defines-noted : (name : Option (Bor (List ℕ))) (label : Option (List ℕ)) (other : List ℕ) → option_map (λ (n : Bor (List ℕ)). n.now) name ≡ label → option_map_or (λ (n : Bor (List ℕ)). bytes_eq n.now other) name false ≡ option_map_or (λ n. bytes_eq n other) label false
defines-noted None label other e = ap (λ l. option_map_or (λ n. bytes_eq n other) l false) e
defines-noted (Some n) label other e = ap (λ l. option_map_or (λ n. bytes_eq n other) l false) e

count-snoc : (lines : List (List ℕ)) (line : List ℕ) → count (lines ++ line ∷ []) ≡ count lines + cond (has_instruction line) 1 0
count-snoc [] line = go (has_instruction line)
  where
    go : (has : Bool) → length (cond has (line ∷ []) []) ≡ 0 + cond has 1 0
    go true = refl
    go false = refl
count-snoc (l ∷ lines) line = go (has_instruction l) (count-snoc lines line)
  where
    go : (has : Bool) → count (lines ++ line ∷ []) ≡ count lines + cond (has_instruction line) 1 0 → length (cond has (l ∷ filter has_instruction (lines ++ line ∷ [])) (filter has_instruction (lines ++ line ∷ []))) ≡ length (cond has (l ∷ filter has_instruction lines) (filter has_instruction lines)) + cond (has_instruction line) 1 0
    go true same = omega arith
    go false same = same

pub HasLabelled-line : (text rest behind here : List ℕ) (line place : ℕ) (old new : List ℕ → Option Label) (name : Option (Bor (List ℕ))) (n : ℕ)
    → HasLabelled text rest line place old → lines_of rest ≡ here ∷ lines_of behind → option_map (λ (n : Bor (List ℕ)). n.now) name ≡ label_of here → n ≡ cond (has_instruction here) 1 0
    → ((other : List ℕ) → new other ≡ option_or (old other) (if option_map_or (λ (n : Bor (List ℕ)). bytes_eq n.now other) name false then Some (record { line = line; place = place }) else None))
    → HasLabelled text behind (line + 1) (place + n) new
HasLabelled-line text rest behind here line place old new name n read cut label instructs is =
    let number = read.number in
    let counted = read.instructions in
    record {
      before = read.before ++ (here ∷ []);
      cut = read.cut ∙ ap (λ l. read.before ++ l) cut ∙ sym (append_assoc read.before (here ∷ []) (lines_of behind));
      number = omega (arith, length-append read.before (here ∷ []));
      instructions = count-snoc read.before here ∙ ap (λ m. m + cond (has_instruction here) 1 0) counted ∙ ap (λ m. place + m) (sym instructs);
      labelled = Labelled-more read.before here old new read.labelled (λ other.
          is other
          ∙ ap (λ b. option_or (old other) (if b then Some (record { line = line; place = place }) else None)) (defines-noted name (label_of here) other label)
          ∙ ap (λ l. option_or (old other) (if defines other here then Some (record { line = l; place = place }) else None)) (sym number)
          ∙ ap (λ p. option_or (old other) (if defines other here then Some (record { line = length read.before; place = p }) else None)) (sym counted));
    }

pub HasLabelled-all : (text : List ℕ) (line place : ℕ) (held : List ℕ → Option Label) → HasLabelled text [] line place held → Labelled (lines_of text) held
HasLabelled-all text line place held read = rw (read.cut ∙ append-nil read.before) read.labelled

-- a list with a first element is that and the others
pub first-is : {X : Type 0} (xs : List X) (x : X) → Some x ≡ slice_get xs 0 → xs ≡ x ∷ drop 1 xs
first-is [] x e = absurd (cc e)
first-is (y ∷ xs) x e = let same : x ≡ y = cc e in rw same refl

-- a line has an instruction exactly where its first word is the name of one
pub has_instruction-named : (line name : List ℕ) (words : List (List ℕ)) (form : Option Form) → statement_of line ≡ name ∷ words → named name (instructions default_settings.sizes) ≡ option_map (statement_in default_settings.sizes) form → is_some form ≡ has_instruction line
has_instruction-named line name words form is named_is = rw is (rw named_is (go form))
  where
    go : (f : Option Form) → is_some f ≡ is_some (option_map (λ instruction. meaning_of (λ label. None) instruction words) (option_map (statement_in default_settings.sizes) f))
    go None = refl
    go (Some f) = refl

one-most : (b : Bool) → cond b 1 0 ≤ 1
one-most true = omega arith
one-most false = omega arith

-- a line has one at most
pub instructions-most : (line : List ℕ) (n : ℕ) → n ≡ cond (has_instruction line) 1 0 → n ≤ 1
instructions-most line n is = omega (arith, one-most (has_instruction line))
