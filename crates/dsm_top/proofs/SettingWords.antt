-- Which words are settings.
use Rattle.std.proofs.Common.{◌≡◌, ◌≢◌, ℕ, ◌+◌, ◌<◌, String, string_bytes, List, [], ◌∷◌, ◌++◌, length, get_or, map, take, All, AllPairs, refl, sym, ap, ◌∙◌, arith, length-append, min, subst}
use Rattle.std.specs.Prelude.{Any}
use Rattle.std.specs.declared.alloc.Global.{Global}
use Rattle.std.proofs.Math.Seq.{get_or-append_seam, take-append_seam}
use Rattle.std.proofs.lemmas.List.{get_or-map, get_or-take, get_or_append_left, get_or_default, take_more, length-map, map-append, take-map, length-take}
use Rattle.std.proofs.lemmas.List.Elements.{All-push, All-take}
use Rattle.std.proofs.lemmas.List.Quantifiers.{all_pairs_push}
use Rattle.dsm_top.specs.declared.plans.Setting.{Setting}
use Rattle.dsm_top.specs.declared.plans.Command.{Command}
use Rattle.dsm_top.specs.Plans.{name_of, word_of, IsInRange, IsOf, AreSettings, AreSome, texts}
use Rattle.dsm_top.proofs.Settings.{name-from_word}

-- the last of some settings, and its word
pub record EndIn (words : List (List ℕ)) (word : List ℕ) (settings : List Setting) : Type 0 where
  pub front : List Setting
  pub last : Setting
  pub whole : settings ≡ front ++ last ∷ []
  pub words_are : words ≡ map word_of front
  pub word_is : word ≡ word_of last

pub end-setting : (words : List (List ℕ)) (word : List ℕ) (settings : List Setting) → words ++ word ∷ [] ≡ map word_of settings → EndIn words word settings
end-setting [] word [] spelt = absurd (cc)
end-setting [] word (s ∷ []) spelt = record { front = []; last = s; whole = refl; words_are = refl; word_is = cc }
end-setting [] word (s ∷ t ∷ settings) spelt = absurd (cc)
end-setting (v ∷ words) word [] spelt = absurd (cc)
end-setting (v ∷ words) word (s ∷ settings) spelt =
    let first : v ≡ word_of s = cc in
    let h = end-setting words word settings (cc) in
    record {
      front = s ∷ h.front;
      last = h.last;
      whole = let others = h.whole in cc;
      words_are = let others = h.words_are in cc;
      word_is = h.word_is;
    }

-- no setting of this name stands there
pub All-from_none : (settings : List Setting) (s : Setting) → (Any (λ other. name_of other ≡ name_of s) settings → ⊥) → All (λ other. name_of other ≢ name_of s) settings
All-from_none settings s new k d inside same = new (k, get_or settings k d, inside, get_or_default settings k _ d inside, same)

-- one more setting
pub AreSettings-more : (command : Command) (words : List (List ℕ)) (settings : List Setting) → AreSettings command words settings → (s : Setting) → IsInRange s → IsOf command s → (word : List ℕ) → word ≡ word_of s
    → (Any (λ other. name_of other ≡ name_of s) settings → ⊥) → AreSettings command (words ++ word ∷ []) (settings ++ s ∷ [])
AreSettings-more command words settings are s range takes word is new = record {
  spelt = ap (λ ws. ws ++ word ∷ []) are.spelt ∙ ap (λ w. map word_of settings ++ w ∷ []) is ∙ sym (map-append word_of settings (s ∷ []));
  in_range = All-push IsInRange settings s are.in_range range;
  taken = All-push (IsOf command) settings s are.taken takes;
  differ = all_pairs_push (λ a b. name_of a ≢ name_of b) settings s are.differ (All-from_none settings s new);
}

-- what stands at the end of a list
All-last : {X : Type 0} (P : X → Type 0) (xs : List X) (x : X) → All P (xs ++ x ∷ []) → P x
All-last P xs x all = subst P (get_or-append_seam xs x [] x) (all (length xs) x (omega (arith, length-append xs (x ∷ []))))

AllPairs-last : {X : Type 0} (R : X → X → Type 0) (xs : List X) (x : X) → AllPairs R (xs ++ x ∷ []) → All (λ y. R y x) xs
AllPairs-last R xs x all k d inside =
    subst (λ y. R y x) (get_or_append_left xs (x ∷ []) d k inside)
    (subst (R (get_or (xs ++ x ∷ []) k d)) (get_or-append_seam xs x [] d) (all k (length xs) d inside (omega (arith, length-append xs (x ∷ [])))))

-- a word that is no setting ends no settings
pub AreSome-none : (command : Command) (words : List (List ℕ)) (word : List ℕ) → ((s : Setting) → IsInRange s → IsOf command s → word ≡ word_of s → ⊥) → AreSome command (words ++ word ∷ []) → ⊥
AreSome-none command words word none (settings, are) =
    let end = end-setting words word settings are.spelt in
    let range : IsInRange end.last = All-last IsInRange end.front end.last (subst (All IsInRange) end.whole are.in_range) in
    let takes : IsOf command end.last = All-last (IsOf command) end.front end.last (subst (All (IsOf command)) end.whole are.taken) in
    none end.last range takes end.word_is

-- nor does one whose name stands before
pub AreSome-again : (command : Command) (words : List (List ℕ)) (settings : List Setting) → AreSettings command words settings → (s : Setting) (word : List ℕ) → word ≡ word_of s
    → Any (λ other. name_of other ≡ name_of s) settings → AreSome command (words ++ word ∷ []) → ⊥
AreSome-again command words settings are s word is (k, other, inside, there, same) (others, are_others) =
    let end = end-setting words word others are_others.spelt in
    let differ = AllPairs-last (λ a b. name_of a ≢ name_of b) end.front end.last (subst (AllPairs (λ a b. name_of a ≢ name_of b)) end.whole are_others.differ) in
    let one : map word_of end.front ≡ map word_of settings = sym end.words_are ∙ are.spelt in
    let long : length end.front ≡ length settings = sym (length-map end.front word_of) ∙ ap length one ∙ length-map settings word_of in
    let inside_too : k < length end.front = omega (arith, long) in
    let word_there : word_of (get_or end.front k other) ≡ word_of other =
    sym (get_or-map word_of end.front k other [] inside_too) ∙ ap (λ ws. get_or ws k []) one ∙ get_or-map word_of settings k other [] inside ∙ ap word_of there in
    differ k other inside_too (name-from_word _ _ word_there ∙ same ∙ name-from_word _ _ (sym is ∙ end.word_is))

-- the words before are settings too
pub AreSettings-before : (command : Command) (words more : List (List ℕ)) (settings : List Setting) → AreSettings command (words ++ more) settings → AreSettings command words (take (length words) settings)
AreSettings-before command words more settings are = record {
  spelt = sym (take-append_seam words more) ∙ ap (take (length words)) are.spelt ∙ take-map word_of (length words) settings;
  in_range = All-take IsInRange (length words) settings are.in_range;
  taken = All-take (IsOf command) (length words) settings are.taken;
  differ = λ i j d lower upper.
      let short : length (take (length words) settings) ≡ min (length words) (length settings) = length-take (length words) settings in
      rw (get_or-take (length words) settings i d (omega (arith, short)), get_or-take (length words) settings j d (omega (arith, short)))
      (are.differ i j d lower (omega (arith, short)));
}

-- the bytes of the first words, and of one more
pub texts-more : (words : List (String Global)) (i : ℕ) (word : String Global) (bytes : List ℕ) → i < length words → word ≡ get_or words i word → bytes ≡ string_bytes word → take (i + 1) (texts words) ≡ take i (texts words) ++ bytes ∷ []
texts-more words i word bytes inside there is =
    take_more (texts words) i bytes (omega (arith, inside, length-map words string_bytes))
    ∙ ap (λ w. take i (texts words) ++ w ∷ []) (get_or-map string_bytes words i word bytes inside ∙ ap string_bytes (sym there) ∙ sym is)
