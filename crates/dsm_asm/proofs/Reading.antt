-- What a line says, from the bytes and the words that are read.
use Rattle.std.proofs.Common.{inl, inr, ◌≡◌, ◌≢◌, ℕ, ◌-◌, ◌<◌, ◌&&◌, if◌then◌else◌, List, [], ◌∷◌, ◌++◌, true, None, Some, length, get_or, take, drop, ap, ◌∙◌, arith, drop-cons, length-append}
use Rattle.std.specs.Str.{bytes_eq}
use Rattle.std.proofs.Math.Seq.{take-append_seam}
use Rattle.std.proofs.lemmas.Bool.{cases_Bool, eq-eqb}
use Rattle.std.proofs.lemmas.Slice.Eq.{bytes_eq-Decides}
use Rattle.dsm_lex.specs.Lexical.{is_name}
use Rattle.dsm_grammar.specs.Lines.{is_plain, label_in}

-- a semicolon begins a comment, which may hold anything
pub is_plain-comment : (line : List ℕ) (at : ℕ) → at < length line → get_or line at 0 ≡ 59 → is_plain (drop at line) ≡ true
is_plain-comment line at inside e = rw (drop-cons line at 0 inside, eq-eqb (get_or line at 0) 59 e)

-- what stands before a colon at the end
name_before_colon : (name : List ℕ) → take (length (name ++ (58 ∷ [])) - 1) (name ++ (58 ∷ [])) ≡ name
name_before_colon name =
    let long : length (name ++ (58 ∷ [])) - 1 ≡ length name = omega (arith, length-append name (58 ∷ [])) in
    ap (λ n. take n (name ++ (58 ∷ []))) long ∙ take-append_seam name (58 ∷ [])

-- the label in a name with a colon, and in a word that does not end in a colon
pub label_in-name : (word name : List ℕ) → word ≡ name ++ (58 ∷ []) → is_name name ≡ true → label_in word ≡ Some name
label_in-name word name e is =
    let before : take (length word - 1) word ≡ name = ap (λ w. take (length w - 1) w) e ∙ name_before_colon name in
    let colon : bytes_eq word (name ++ (58 ∷ [])) ≡ true = (bytes_eq-Decides word (name ++ (58 ∷ []))).1 e in
    ap (λ front. if bytes_eq word (front ++ (58 ∷ [])) && is_name front then Some front else None) before
    ∙ ap (λ ends. if ends && is_name name then Some name else None) colon
    ∙ ap (λ named. if named then Some name else None) is

pub label_in-other : (word : List ℕ) → ((name : List ℕ) → word ≢ name ++ (58 ∷ [])) → label_in word ≡ None
label_in-other word other =
    let front = take (length word - 1) word in
    elim (cases_Bool (bytes_eq word (front ++ (58 ∷ [])))) [
      | inl w ↦ absurd (other front ((bytes_eq-Decides word (front ++ (58 ∷ []))).0 w))
      | inr w ↦ ap (λ ends. if ends && is_name front then Some front else None) w
    ]
