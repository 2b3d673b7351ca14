-- What is read of a line that ends with a number.
use Rattle.std.proofs.Common.{◌≡◌, ℕ, ◌<◌, ◌≤◌, ◌^◌, ◌==◌, not, if◌then◌else◌, true, List, [], ◌∷◌, ◌++◌, length, codes, decimal, None, append-nil, length-append, refl, sym, ap, ap₂, ◌∙◌, subst, arith}
use Rattle.std.specs.List.{list_all}
use Rattle.std.proofs.lemmas.Bool.{le-leb, and_parts, and_from}
use Rattle.std.proofs.lemmas.Fmt.{length-decimal-le}
use Rattle.dsm_isa.specs.Operands.{Number}
use Rattle.dsm_lex.specs.Lexical.{content_of, words_of}
use Rattle.dsm_grammar.specs.Lines.{is_short, first_label, behind_label, label_of, statement_of}
use Rattle.dsm_list.specs.Lines.{joined}
use Rattle.dsm_list.proofs.Operands.{is_word-operand}
use Rattle.dsm_list.proofs.Words.{is_line_byte, is_word, is_plain-joined, joined-line_bytes, words_of-joined}
use Rattle.dsm_gen.proofs.Cuts.{has_no_feed}
use Rattle.dsm_gen.proofs.Readings.{Reading, read, Fits}

-- this is read of the line, which fits and has no line feed
pub record Says (line : List ℕ) (r : Reading) : Type 0 where
  pub fits : Fits line
  pub reads : read line ≡ r
  pub no_feed : has_no_feed line ≡ true

no_feed-byte : (b : ℕ) → is_line_byte b ≡ true → not (b == 10) ≡ true
no_feed-byte b is = grind (arith)

no_feed-bytes : (bytes : List ℕ) → list_all is_line_byte bytes ≡ true → has_no_feed bytes ≡ true
no_feed-bytes [] are = refl
no_feed-bytes (b ∷ bytes) are = and_from _ _ (no_feed-byte b (and_parts _ _ are).0) (no_feed-bytes bytes (and_parts _ _ are).1)

-- so it is with words, which are short together
Says-joined : (words : List (List ℕ)) → list_all is_word words ≡ true → length (joined words) ≤ 200 → Says (joined words) (first_label words, behind_label words)
Says-joined words are few =
    let plain = is_plain-joined words are in
    let short : is_short (joined words) ≡ true = le-leb (length (joined words)) 200 few in
    let said = words_of-joined words are in
    let label : label_of (joined words) ≡ first_label words =
    ap (λ b. if b then first_label (words_of (content_of (joined words))) else None) (and_from _ _ plain short) ∙ ap first_label said in
    let statement : statement_of (joined words) ≡ behind_label words = ap behind_label said in
    record {
      fits = record { plain = plain; short = short };
      reads = ap₂ (λ l s. (l, s)) label statement;
      no_feed = no_feed-bytes (joined words) (joined-line_bytes words are);
    }

-- a number is a word, and short
is_word-number : (n : ℕ) → n < 2 ^ 64 → is_word (decimal n) ≡ true
is_word-number n small = is_word-operand (Number n) small

length-number : (n : ℕ) → n < 2 ^ 64 → length (decimal n) ≤ 20
length-number n small = length-decimal-le 20 n (omega arith) (omega arith) small

-- a line of words of which the last is a number, behind `front`
numbered : (front : List ℕ) (words : List (List ℕ)) (n : ℕ) → n < 2 ^ 64 → length front ≤ 20 → front ++ (decimal n ++ []) ≡ joined words → list_all is_word words ≡ true → Says (front ++ decimal n) (first_label words, behind_label words)
numbered front words n small few same are =
    let spelt : front ++ decimal n ≡ joined words = ap (λ w. front ++ w) (sym (append-nil (decimal n))) ∙ same in
    let digits = length-number n small in
    let short : length (front ++ decimal n) ≤ 200 = omega (arith, length-append front (decimal n)) in
    subst (λ line. Says line (first_label words, behind_label words)) (sym spelt) (Says-joined words are (subst (λ line. length line ≤ 200) spelt short))

-- the lines of the template with numbers
pub li-Says : (n : ℕ) → n < 2 ^ 64 → Says (codes "li r11 " ++ decimal n) (None, codes "li" ∷ codes "r11" ∷ decimal n ∷ [])
li-Says n small =
    numbered (codes "li r11 ") (codes "li" ∷ codes "r11" ∷ decimal n ∷ []) n small (omega arith) refl (and_from _ _ (is_word-number n small) refl)

pub round-Says : (n : ℕ) → n < 2 ^ 64 → Says (codes "round: li r11 " ++ decimal n) (first_label (codes "round:" ∷ []), codes "li" ∷ codes "r11" ∷ decimal n ∷ [])
round-Says n small =
    numbered (codes "round: li r11 ") (codes "round:" ∷ codes "li" ∷ codes "r11" ∷ decimal n ∷ []) n small (omega arith) refl (and_from _ _ (is_word-number n small) refl)

pub addi-Says : (n : ℕ) → n < 2 ^ 64 → Says (codes "addi r6 r4 " ++ decimal n) (None, codes "addi" ∷ codes "r6" ∷ codes "r4" ∷ decimal n ∷ [])
addi-Says n small =
    numbered (codes "addi r6 r4 ") (codes "addi" ∷ codes "r6" ∷ codes "r4" ∷ decimal n ∷ []) n small (omega arith) refl (and_from _ _ (is_word-number n small) refl)
