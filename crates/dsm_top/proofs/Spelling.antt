-- How words are spelt, and what they are cut into.
use Rattle.std.proofs.Common.{◌≡◌, ◌≢◌, ℕ, ◌<◌, ◌^◌, Option, None, Some, MatchOption, Bor, List, ◌∷◌, ◌++◌, length, get_or, decimal, codes, Result, Ok, Err, ◌*◌, ◌↔◌, sym, ap, ◌∙◌, refl, arith, append_assoc, lit<}
use Rattle.std.specs.Prelude.{IfOk, IfSome, IfNone}
use Rattle.std.specs.Result.{result_ok}
use Rattle.std.proofs.lemmas.Fmt.{decimal_injective, decimal_is_IsNumeral}
use Rattle.std.proofs.lemmas.List.Prefix.{front_rest}
use Rattle.std.proofs.lemmas.Str.Parse.{digit_at}
use Rattle.std.proofs.lemmas.Str.Pattern.{IsSplitOnceResult, split_after, split_parts}
use Rattle.dsm_words.specs.declared.topology.Topology.{Topology}
use Rattle.dsm_words.specs.declared.topology.TopoFault.{TopoFault}
use Rattle.dsm_words.specs.declared.topology.TopoFault.TheVariants.{Nodes, Procs, Product}
use Rattle.dsm_words.specs.Counts.{IsFrom1To, IsNotFrom1To}
use Rattle.dsm_lex.specs.Lexical.{number_of}
use Rattle.dsm_lex.specs.Laws.{NumbersAsPrinted}
use Rattle.dsm_top.specs.Plans.{topology_word}

-- what stands behind one front
pub same_behind : (word front a b : List ℕ) → word ≡ front ++ a → word ≡ front ++ b → a ≡ b
same_behind word front a b one other = sym (front_rest word front a one) ∙ front_rest word front b other

-- a word that spells no number is that of none
pub spells_none : NumbersAsPrinted → (word : List ℕ) → number_of word ≡ None → (n : ℕ) → n < 2 ^ 64 → word ≡ decimal n → ⊥
spells_none law word none n small is = let some = (law word n).1 (small, is) in cc

pub spells_one : NumbersAsPrinted → (word : List ℕ) (n : ℕ) → number_of word ≡ Some n → word ≡ decimal n
spells_one law word n some = ((law word n).0 some).1

-- the number behind one front, and where none stands there
pub number_some : NumbersAsPrinted → (word front rest : List ℕ) → word ≡ front ++ rest → (r : Option ℕ) → r ≡ number_of rest → IfSome r (λ n. word ≡ front ++ decimal n)
number_some law word front rest cut None is = tt
number_some law word front rest cut (Some n) is = cut ∙ ap (λ w. front ++ w) (spells_one law rest n (sym is))

pub number_none : NumbersAsPrinted → (word front rest : List ℕ) → word ≡ front ++ rest → (r : Option ℕ) → r ≡ number_of rest → IfNone r ((n : ℕ) → n < 2 ^ 64 → word ≡ front ++ decimal n → ⊥)
number_none law word front rest cut None is = λ n small same. spells_none law rest (sym is) n small (same_behind word front rest (decimal n) cut same)
number_none law word front rest cut (Some n) is = tt

-- one number stands behind one front
pub one_behind : (word front : List ℕ) (m n : ℕ) → m < 2 ^ 64 → n < 2 ^ 64 → word ≡ front ++ decimal m → word ≡ front ++ decimal n → m ≡ n
one_behind word front m n small less one other = decimal_injective m n small less (same_behind word front (decimal m) (decimal n) one other)

-- no number has an x
pub no_x : (n : ℕ) → n < 2 ^ 64 → (i : ℕ) → i < length (decimal n) → get_or (decimal n) i 0 ≢ 120
no_x n small i inside is = let range = digit_at (decimal n) i ((decimal_is_IsNumeral n small).0.1) inside in omega (arith, range, is)

-- a topology's word is cut at the x
pub topology-halves : (word : List ℕ) (r : Option (Bor (List ℕ) × Bor (List ℕ))) → IsSplitOnceResult 120 word r → (t : Topology) → word ≡ topology_word t → MatchOption r ⊥ (λ x. (x.0.now ≡ decimal t.nodes) × (x.1.now ≡ decimal t.procs))
topology-halves word r split t is =
    split_after 120 word (decimal t.nodes) (decimal t.procs) r split (lit< tt) (is ∙ append_assoc (decimal t.nodes) (codes "x") (decimal t.procs)) (no_x t.nodes (omega (arith, t.most_nodes)))

-- the word of the topology that was made of its two halves
pub topology-made : (word : List ℕ) (nodes procs : Bor (List ℕ)) (n c : ℕ) (r : Result Topology TopoFault) → IsSplitOnceResult 120 word (Some (nodes, procs)) → nodes.now ≡ decimal n → procs.now ≡ decimal c
    → IfOk r (λ t. (t.nodes ≡ n) × (t.procs ≡ c)) → IfSome (result_ok r) (λ t. word ≡ topology_word t)
topology-made word nodes procs n c (Err e) split first second made = tt
topology-made word nodes procs n c (Ok t) split first second made =
    let cut = (split_parts 120 word (Some (nodes, procs)) split (lit< tt)).0 in
    cut ∙ ap (λ w. w ++ (120 ∷ procs.now)) (first ∙ ap decimal (sym made.0)) ∙ ap (λ w. decimal t.nodes ++ (120 ∷ w)) (second ∙ ap decimal (sym made.1))
    ∙ sym (append_assoc (decimal t.nodes) (codes "x") (decimal t.procs))

-- numbers that make no topology are out of range
module _ (n c : ℕ) (r : Result Topology TopoFault) (nodes : (r ≡ Err Nodes) ↔ IsNotFrom1To 8 n) (procs : (r ≡ Err Procs) ↔ (IsFrom1To 8 n × IsNotFrom1To 8 c))
    (product : (r ≡ Err Product) ↔ (IsFrom1To 8 n × IsFrom1To 8 c × (32 < n * c))) where
  fault-none : (e : TopoFault) → r ≡ Err e → (t : Topology) → n ≡ t.nodes → c ≡ t.procs → ⊥
  fault-none Nodes is t first second = let out = nodes.0 is in omega (arith, out, first, t.some_nodes, t.most_nodes)
  fault-none Procs is t first second = let out = (procs.0 is).1 in omega (arith, out, second, t.some_procs, t.most_procs)
  fault-none Product is t first second = let out : 32 < t.nodes * t.procs = rw (sym first, sym second) ((product.0 is).2) in omega (arith, out, t.most_all)

  pub topology-refused : (word : List ℕ) → ((t : Topology) → word ≡ topology_word t → (n ≡ t.nodes) × (c ≡ t.procs)) → IfNone (result_ok r) ((t : Topology) → word ≡ topology_word t → ⊥)
  topology-refused word same = go r refl
    where
      go : (made : Result Topology TopoFault) → r ≡ made → IfNone (result_ok made) ((t : Topology) → word ≡ topology_word t → ⊥)
      go (Ok t) is = tt
      go (Err e) is = λ t word_is. let (first, second) = same t word_is in fault-none e is t first second
