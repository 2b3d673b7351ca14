-- What some lines keep, and what keeps it as a line follows.
use Rattle.std.proofs.Common.{◌≡◌, ℕ, ◌+◌, ◌*◌, ◌<◌, ◌≤◌, Bool, true, false, cond, List, [], ◌∷◌, ◌++◌, length, codes, Option, None, Some, IfSome, refl, sym, ap, ◌∙◌, subst, append-nil, length-append, arith}
use Rattle.std.specs.Prelude.{◌||◌}
use Rattle.std.specs.List.{All, filter, list_any, cons_option}
use Rattle.std.specs.Option.{is_some}
use Rattle.std.specs.Str.{bytes_eq}
use Rattle.std.proofs.lemmas.List.Elements.{All-nil, All-push, filter-append, filter_map-append}
use Rattle.std.proofs.lemmas.List.Folds.{list_any-append}
use Rattle.std.proofs.lemmas.List.Sums.{fold_push}
use Rattle.dsm_isa.specs.declared.instr.Instr.{Instr}
use Rattle.dsm_isa.specs.ProgramText.{Sizes}
use Rattle.dsm_isa.specs.Jumps.{target_of}
use Rattle.dsm_isa.specs.Limits.{IsWithinLimits}
use Rattle.dsm_isa.specs.Rules.{ObjectInside}
use Rattle.dsm_grammar.specs.Lines.{statement_of}
use Rattle.dsm_grammar.specs.Settings.{Settings, default_settings}
use Rattle.dsm_grammar.specs.Statements.{Statement, named, directives, instructions}
use Rattle.dsm_grammar.specs.Grammar.{set_by, settings_of, instruction_in, code_of, has_instruction}
use Rattle.dsm_grammar.specs.Faults.{is_of_size, is_init}
use Rattle.dsm_grammar.proofs.Tables.{EachRow, found}
use Rattle.dsm_grammar.proofs.Places.{TakeAll}
use Rattle.dsm_grammar.proofs.Starting.{Ascend, Ascend-starts_as}
use Rattle.dsm_grammar.proofs.Counting.{count}

-- sizes within their limits
abbrev pub WithinLimits : Sizes → Type 0
WithinLimits s = IsWithinLimits s.pages s.words s.locks s.barriers s.flags

-- the objects of an instruction are there, and it jumps to `most` at most
abbrev pub Inside : ℕ → Sizes → Instr → Type 0
Inside most sizes i = ObjectInside sizes i × IfSome (target_of i) (λ to. to ≤ most)

-- an instruction whose places take its operands is inside
Inside-row : (most : ℕ) (sizes : Sizes) → EachRow (λ name row. (v : ℕ → ℕ) → TakeAll most row.places v → Inside most sizes (row.meaning v)) (instructions sizes)
Inside-row most sizes = assumption

pub Inside-named : (most : ℕ) (sizes : Sizes) (name : List ℕ) (i : Statement Instr) → named name (instructions sizes) ≡ Some i → (v : ℕ → ℕ) → TakeAll most i.places v → Inside most sizes (i.meaning v)
Inside-named most sizes name i e = found (λ name row. (v : ℕ → ℕ) → TakeAll most row.places v → Inside most sizes (row.meaning v)) name (instructions sizes) i (Inside-row most sizes) e

-- what settings keep
pub record Sound (s : Settings) : Type 0 where
  pub limits : WithinLimits s.sizes
  pub init : Ascend 0 (s.sizes.pages * s.sizes.words) s.init

-- a directive of this name may change settings so: where it changes the size of the memory, no word had a value
abbrev pub Sets : Settings → List ℕ → Settings → Type 0
Sets s name t = Sound s → (is_of_size name ≡ true → s.init ≡ []) → Sound t × (bytes_eq name (codes ".init") ≡ false → t.init ≡ s.init)

-- no initial words are in order, whatever the size of the memory
Ascend-none : (size : ℕ) (init : List (ℕ × ℕ)) → init ≡ [] → Ascend 0 size init
Ascend-none size init none = subst (Ascend 0 size) (sym none) tt

-- each directive does so where its places take its operands
Sets-row : (most : ℕ) (s : Settings) → EachRow (λ name row. (v : ℕ → ℕ) → TakeAll most row.places v → Sets s name (row.meaning v)) (directives s)
Sets-row most s = (
  (λ v takes sound none. (record { limits = omega arith; init = Ascend-none (v 0 * s.sizes.words) s.init (none refl) }, λ e. refl)),
  (
    (λ v takes sound none. (record { limits = omega arith; init = Ascend-none (s.sizes.pages * v 0) s.init (none refl) }, λ e. refl)),
    (
      (λ v takes sound none. (record { limits = omega arith; init = sound.init }, λ e. refl)),
      (
        (λ v takes sound none. (record { limits = omega arith; init = sound.init }, λ e. refl)),
        (
          (λ v takes sound none. (record { limits = omega arith; init = sound.init }, λ e. refl)),
          (
            (λ v takes sound none. (record { limits = sound.limits; init = Ascend-starts_as 0 (s.sizes.pages * s.sizes.words) (v 0) (v 1) s.init takes.0.0 takes.0.1 sound.init }, λ e. absurd (cc e))),
            tt,
          ),
        ),
      ),
    ),
  ),
)

pub Sets-named : (most : ℕ) (s : Settings) (name : List ℕ) (d : Statement Settings) → named name (directives s) ≡ Some d → (v : ℕ → ℕ) → TakeAll most d.places v → Sets s name (d.meaning v)
Sets-named most s name d e = found (λ name row. (v : ℕ → ℕ) → TakeAll most row.places v → Sets s name (row.meaning v)) name (directives s) d (Sets-row most s) e

-- lines with these settings, this code, so many instructions and an initial word or none
pub record Kept (most : ℕ) (s : Settings) (code : List Instr) (n : ℕ) (has_init : Bool) : Type 0 where
  pub sound : Sound s
  pub unset : has_init ≡ false → s.init ≡ []
  pub inside : All (Inside most s.sizes) code
  pub few : n ≤ 4096

-- an initial word stands on one of the lines
abbrev pub has_init : List (List ℕ) → Bool
has_init lines = list_any (λ line. is_init (statement_of line)) lines

-- the same of lines, where labels stand for these places
abbrev pub KeptBy : (List ℕ → Option ℕ) → ℕ → List (List ℕ) → Type 0
KeptBy labels most lines = Kept most (settings_of lines) (code_of (settings_of lines).sizes labels lines) (count lines) (has_init lines)

-- behind one statement more
abbrev pub KeptWith : (List ℕ → Option ℕ) → ℕ → List (List ℕ) → List (List ℕ) → Type 0
KeptWith labels most lines words =
    let s = set_by (settings_of lines) words in
    Kept most s (code_of s.sizes labels lines ++ cons_option (instruction_in s.sizes labels words) [])
    (count lines + cond (is_some (instruction_in default_settings.sizes (λ label. None) words)) 1 0) (has_init lines || is_init words)

pub KeptBy-none : (labels : List ℕ → Option ℕ) (most : ℕ) → KeptBy labels most []
KeptBy-none labels most = record {
  sound = record { limits = omega arith; init = tt };
  unset = λ e. refl;
  inside = All-nil (Inside most default_settings.sizes);
  few = omega arith;
}

length-cond : {X : Type 0} (has : Bool) (xs : List X) (x : X) → length (xs ++ cond has (x ∷ []) []) ≡ length xs + cond has 1 0
length-cond true xs x = length-append xs (x ∷ [])
length-cond false xs x = length-append xs []

count-push : (lines : List (List ℕ)) (line : List ℕ) → count (lines ++ line ∷ []) ≡ count lines + cond (has_instruction line) 1 0
count-push lines line = ap length (filter-append has_instruction lines (line ∷ [])) ∙ length-cond (has_instruction line) (filter has_instruction lines) line

or-false : (b : Bool) → (b || false) ≡ b
or-false true = refl
or-false false = refl

has_init-push : (lines : List (List ℕ)) (line : List ℕ) → has_init (lines ++ line ∷ []) ≡ (has_init lines || is_init (statement_of line))
has_init-push lines line = list_any-append (λ l. is_init (statement_of l)) lines (line ∷ []) ∙ ap (λ b. has_init lines || b) (or-false (is_init (statement_of line)))

code_of-push : (sizes : Sizes) (labels : List ℕ → Option ℕ) (lines : List (List ℕ)) (line : List ℕ) → code_of sizes labels (lines ++ line ∷ []) ≡ code_of sizes labels lines ++ cons_option (instruction_in sizes labels (statement_of line)) []
code_of-push sizes labels lines line = filter_map-append (λ l. instruction_in sizes labels (statement_of l)) lines (line ∷ [])

pub Kept-same : (most : ℕ) (s t : Settings) (code more : List Instr) (n m : ℕ) (a b : Bool) → s ≡ t → code ≡ more → n ≡ m → a ≡ b → Kept most s code n a → Kept most t more m b
Kept-same most s t code more n m a b settings codes numbers inits kept =
    subst (λ x. Kept most x more m b) settings (subst (λ x. Kept most s x m b) codes (subst (λ x. Kept most s code x b) numbers (subst (Kept most s code n) inits kept)))

-- one line more
pub KeptBy-push : (labels : List ℕ → Option ℕ) (most : ℕ) (lines : List (List ℕ)) (line : List ℕ) → KeptWith labels most lines (statement_of line) → KeptBy labels most (lines ++ line ∷ [])
KeptBy-push labels most lines line kept =
    let s = set_by (settings_of lines) (statement_of line) in
    let settings : settings_of (lines ++ line ∷ []) ≡ s = fold_push (λ t l. set_by t (statement_of l)) default_settings lines line in
    let code : code_of (settings_of (lines ++ line ∷ [])).sizes labels (lines ++ line ∷ []) ≡ code_of s.sizes labels lines ++ cons_option (instruction_in s.sizes labels (statement_of line)) [] =
    ap (λ t. code_of t.sizes labels (lines ++ line ∷ [])) settings ∙ code_of-push s.sizes labels lines line in
    Kept-same most s (settings_of (lines ++ line ∷ [])) _ _ _ _ _ _ (sym settings) (sym code) (sym (count-push lines line)) (sym (has_init-push lines line)) kept

-- a line that says nothing
pub Kept-blank : (most : ℕ) (s : Settings) (code : List Instr) (n : ℕ) (b : Bool) → Kept most s code n b → Kept most s (code ++ []) (n + 0) (b || false)
Kept-blank most s code n b kept = Kept-same most s s code (code ++ []) n (n + 0) b (b || false) refl (sym (append-nil code)) (omega arith) (sym (or-false b)) kept

-- a line of an instruction
pub Kept-instruction : (most : ℕ) (s : Settings) (code : List Instr) (i : Instr) (n : ℕ) (a b : Bool) → Kept most s code n a → Inside most s.sizes i → n < 4096 → Kept most s (code ++ i ∷ []) (n + 1) (a || b)
Kept-instruction most s code i n a b kept inside room = record {
  sound = kept.sound;
  unset = λ e. kept.unset (grind (arith));
  inside = All-push (Inside most s.sizes) code i kept.inside inside;
  few = omega arith;
}

or-neither : (a b : Bool) → (a || b) ≡ false → (a ≡ false) × (b ≡ false)
or-neither true b e = absurd (cc e)
or-neither false b e = (refl, e)

-- a line of a directive, before which there was no instruction
pub Kept-directive : (most : ℕ) (s t : Settings) (name : List ℕ) (code : List Instr) (n : ℕ) (a : Bool) → Sound s → (a ≡ false → s.init ≡ []) → (is_of_size name ≡ true → a ≡ false) → Sets s name t → length code ≡ n → n ≡ 0 → Kept most t (code ++ []) (n + 0) (a || bytes_eq name (codes ".init"))
Kept-directive most s t name code n a sound unset early sets same none =
    let set = sets sound (λ size. unset (early size)) in
    record {
      sound = set.0;
      unset = λ e. let neither = or-neither a (bytes_eq name (codes ".init")) e in set.1 neither.1 ∙ unset neither.0;
      inside = λ k d within. absurd (omega (arith, length-append code []));
      few = omega arith;
    }
