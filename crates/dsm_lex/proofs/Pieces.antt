-- What no line and no word has.
use Rattle.std.proofs.Common.{inl, inr, ◌≡◌, ◌≢◌, ℕ, ◌<◌, List, [], ◌∷◌, false, length, subst, sym, arith}
use Rattle.std.specs.List.{All, filter}
use Rattle.std.proofs.lemmas.Bool.{cases_Bool}
use Rattle.std.proofs.lemmas.Bool.Decides.{eqb_tells}
use Rattle.std.proofs.lemmas.List.Elements.{All-nil, All-cons, All-tail, All-filter}
use Rattle.dsm_lex.specs.Lexical.{onto, lines_of, is_blank, pieces_of, is_some_piece}
use Rattle.dsm_lex.specs.Laws.{LinesHaveNoFeed, WordsHaveNoBlank, WordsHaveBytes}
use Rattle.dsm_lex.proofs.Cutting.{lines_of-feed, lines_of-other, pieces_of-blank, pieces_of-other}

-- A byte that has a property goes onto pieces whose bytes have it.
onto-all : (P : ℕ → Type 0) (b : ℕ) (pieces : List (List ℕ)) → P b → All (λ piece. All P piece) pieces → All (λ piece. All P piece) (onto b pieces)
onto-all P b [] here all = All-cons (λ piece. All P piece) (b ∷ []) [] (All-cons P b [] here (All-nil P)) (All-nil (λ piece. All P piece))
onto-all P b (piece ∷ pieces) here all =
    All-cons (λ piece. All P piece) (b ∷ piece) pieces (All-cons P b piece here (all 0 [] (omega arith))) (All-tail (λ piece. All P piece) piece pieces all)

-- a line has no line feed
abbrev HasNoFeed : List ℕ → Type 0
HasNoFeed line = All (λ b. b ≢ 10) line

pub no_feed : LinesHaveNoFeed
no_feed [] = All-nil HasNoFeed
no_feed (b ∷ bytes) = elim (eqb_tells b 10) [
  | inl w ↦ subst (λ lines. All HasNoFeed lines) (sym (lines_of-feed b bytes w.1)) (All-cons HasNoFeed [] (lines_of bytes) (All-nil (λ c. c ≢ 10)) (no_feed bytes))
  | inr w ↦ subst (λ lines. All HasNoFeed lines) (sym (lines_of-other b bytes w.1)) (onto-all (λ c. c ≢ 10) b (lines_of bytes) w.1 (no_feed bytes))
]

-- a piece has no blank
abbrev HasNoBlank : List ℕ → Type 0
HasNoBlank piece = All (λ b. is_blank b ≡ false) piece

pieces_have_no_blank : (bytes : List ℕ) → All HasNoBlank (pieces_of bytes)
pieces_have_no_blank [] = All-cons HasNoBlank [] [] (All-nil (λ b. is_blank b ≡ false)) (All-nil HasNoBlank)
pieces_have_no_blank (b ∷ bytes) = elim (cases_Bool (is_blank b)) [
  | inl w ↦ subst (λ pieces. All HasNoBlank pieces) (sym (pieces_of-blank b bytes w)) (All-cons HasNoBlank [] (pieces_of bytes) (All-nil (λ c. is_blank c ≡ false)) (pieces_have_no_blank bytes))
  | inr w ↦ subst (λ pieces. All HasNoBlank pieces) (sym (pieces_of-other b bytes w)) (onto-all (λ c. is_blank c ≡ false) b (pieces_of bytes) w (pieces_have_no_blank bytes))
]

pub no_blank : WordsHaveNoBlank
no_blank bytes = All-filter is_some_piece HasNoBlank (pieces_of bytes) (pieces_have_no_blank bytes)

pieces_with_bytes : (pieces : List (List ℕ)) → All (λ word. 0 < length word) (filter is_some_piece pieces)
pieces_with_bytes [] = All-nil (λ word. 0 < length word)
pieces_with_bytes ([] ∷ pieces) = pieces_with_bytes pieces
pieces_with_bytes ((b ∷ piece) ∷ pieces) = All-cons (λ word. 0 < length word) (b ∷ piece) (filter is_some_piece pieces) (omega arith) (pieces_with_bytes pieces)

pub some_bytes : WordsHaveBytes
some_bytes bytes = pieces_with_bytes (pieces_of bytes)
