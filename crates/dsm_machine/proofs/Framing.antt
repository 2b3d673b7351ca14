-- Where the frames of a node stand.
use Rattle.std.proofs.Common.{◌≡◌, ℕ, ◌+◌, ◌*◌, ◌/◌, ◌%◌, ◌<◌, sym, ap, ◌∙◌, subst, arith}
use Rattle.std.proofs.Math.Nat.{div-add-mod, mul_assoc, mul_comm, add-mul}
use Rattle.std.proofs.lemmas.Nat.{mul-add-lt}
use Rattle.dsm_words.specs.Place.{Lay, total}

-- word w of a node's frames, counted through its pages
pub frame_at : (n g k w : ℕ) → (n * g + w / k) * k + w % k ≡ n * (g * k) + w
frame_at n g k w =
    let pages : (n * g + w / k) * k ≡ n * (g * k) + w / k * k = add-mul (n * g) (w / k) k ∙ ap (λ x. x + w / k * k) (mul_assoc n g k) in
    let rest : w / k * k + w % k ≡ w = ap (λ x. x + w % k) (mul_comm (w / k) k) ∙ div-add-mod w k in
    let shift : n * (g * k) + w / k * k + w % k ≡ n * (g * k) + (w / k * k + w % k) = omega arith in
    ap (λ x. x + w % k) pages ∙ (shift ∙ ap (λ x. n * (g * k) + x) rest)

-- and it is one of the cluster's words
pub frame_below : (l : Lay) (n w : ℕ) → n < l.nodes → w < l.pages * l.words → 1 + (n * (l.pages * l.words) + w) < total l
frame_below l n w n_in w_in =
    let all : l.pages * l.words * l.nodes ≡ l.nodes * l.pages * l.words = mul_comm (l.pages * l.words) l.nodes ∙ sym (mul_assoc l.nodes l.pages l.words) in
    let below : n * (l.pages * l.words) + w < l.nodes * l.pages * l.words = subst (λ x. n * (l.pages * l.words) + w < x) all (mul-add-lt n (l.pages * l.words) w l.nodes n_in w_in) in
    omega (arith, below)
