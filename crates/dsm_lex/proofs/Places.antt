-- The spans of a line's words.
use Rattle.std.proofs.Common.{inl, inr, ◌≡◌, ◌≢◌, ℕ, ◌+◌, ◌-◌, ◌<◌, ◌≤◌, List, [], ◌∷◌, length, get_or, set, take, drop, sym, ap, ◌∙◌, arith, length-set, length-drop, get_or-set_same, get_or-set_other}
use Rattle.std.proofs.Math.Nat.{add-zero}
use Rattle.std.proofs.lemmas.Bool.Decides.{eqb_tells}
use Rattle.std.proofs.lemmas.List.{take-take, drop-drop, get_or-drop}
use Rattle.std.proofs.lemmas.Slice.{between_is}
use Rattle.dsm_lex.specs.declared.spans.Span.{Span}
use Rattle.dsm_lex.specs.Lexical.{spanned, content_of, LiesWithin, EachPlace}

-- What a span has of a text it has of the front of the text in which it lies.
pub take-front : (text : List ℕ) (n start end : ℕ) → end ≤ n → take (end - start) (drop start (take n text)) ≡ take (end - start) (drop start text)
take-front text n start end within = between_is (take n text) start end ∙ ap (drop start) (take-take end n text within) ∙ sym (between_is text start end)

-- the content of a line, in the front of the text
pub content-front : (text : List ℕ) (start end : ℕ) → content_of (drop start (take end text)) ≡ content_of (take (end - start) (drop start text))
content-front text start end = ap content_of (sym (between_is text start end))

-- Of the words some are left, and the others have their spans.
pub record Splits (text : List ℕ) (line : Span) (words left : List (List ℕ)) (count : ℕ) (at : List Span) : Type 0 where
  pub rest : drop count words ≡ left
  pub most : count ≤ length words
  pub known : EachPlace at (λ k word. k < count → spanned text word ≡ get_or words k [])
  pub unused : EachPlace at (λ k word. count ≤ k → word ≡ record { start = line.end; end = line.end })
  pub within : EachPlace at (λ k word. LiesWithin word line)

drop-more : (n : ℕ) (words : List (List ℕ)) (word : List ℕ) (left : List (List ℕ)) → drop n words ≡ word ∷ left → drop (n + 1) words ≡ left
drop-more n words word left e = sym (drop-drop 1 n words) ∙ ap (drop 1) e

first_left : (n : ℕ) (words : List (List ℕ)) (word : List ℕ) (left : List (List ℕ)) → drop n words ≡ word ∷ left → get_or words n [] ≡ word
first_left n words word left e = ap (λ k. get_or words k []) (sym (add-zero n)) ∙ sym (get_or-drop n words 0 []) ∙ ap (λ ws. get_or ws 0 []) e

-- What holds of each place but one, and of that one.
set_places : (at : List Span) (n : ℕ) (span : Span) (P : ℕ → Span → Type 0) → P n span → ((k : ℕ) (d : Span) → k < length at → k ≢ n → P k (get_or at k d)) → EachPlace (set at n span) P
set_places at n span P here others k d inside =
    let inside' : k < length at = omega (arith, length-set at n span) in
    elim (eqb_tells k n) [
      | inl w ↦ (let within : n < length at = omega (arith, w.1) in rw w.1 (rw get_or-set_same here))
      | inr w ↦ (let other : k ≢ n = w.1 in rw get_or-set_other (others k d inside' other))
    ]

-- the next word gets its span
pub Splits-more : (text : List ℕ) (line : Span) (words : List (List ℕ)) (word : List ℕ) (left : List (List ℕ)) (count : ℕ) (at : List Span) (span : Span) → Splits text line words (word ∷ left) count at → spanned text span ≡ word → LiesWithin span line → Splits text line words left (count + 1) (set at count span)
Splits-more text line words word left count at span s is lies = record {
  rest = drop-more count words word left s.rest;
  most = omega (arith, length-drop count words, ap length s.rest);
  known = set_places at count span (λ k w. k < count + 1 → spanned text w ≡ get_or words k []) (λ below. is ∙ sym (first_left count words word left s.rest)) (λ k d inside other below. s.known k d inside (omega arith));
  unused = set_places at count span (λ k w. count + 1 ≤ k → w ≡ record { start = line.end; end = line.end }) (λ above. absurd (omega arith)) (λ k d inside other above. s.unused k d inside (omega arith));
  within = set_places at count span (λ k w. LiesWithin w line) lies (λ k d inside other. s.within k d inside);
}

-- no word is left
pub Splits-all : (text : List ℕ) (line : Span) (words : List (List ℕ)) (count : ℕ) (at : List Span) → Splits text line words [] count at → count ≡ length words
Splits-all text line words count at s = omega (arith, length-drop count words, ap length s.rest, s.most)
