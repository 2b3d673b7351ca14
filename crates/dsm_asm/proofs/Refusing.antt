-- What holds of refusals and of what is taken.
use Rattle.std.proofs.Common.{◌≡◌, Result, Ok, Err, IfErr, IfOk, OnOk, subst, sym}
use Rattle.std.specs.Result.{IsErrAnd}

pub IfErr-handed_on : {T E : Type 0} (r : Result T E) (kind : E) (P : E → Type 0) → IsErrAnd r (λ e. e ≡ kind) → P kind → IfErr r P
IfErr-handed_on (Ok x) kind P is holds = absurd is
IfErr-handed_on (Err e) kind P is holds = subst P (sym is) holds

pub IfErr-map : {T E : Type 0} (r : Result T E) (P Q : E → Type 0) → ((e : E) → P e → Q e) → IfErr r P → IfErr r Q
IfErr-map (Ok x) P Q f h = tt
IfErr-map (Err e) P Q f h = f e h

-- five facts of what is taken, and what follows of them
pub OnOk-all : {T E : Type 0} (r : Result T E) (A B C D F G : Type 0) → (A → B → C → D → F → G) → OnOk r A → OnOk r B → OnOk r C → OnOk r D → OnOk r F → OnOk r G
OnOk-all (Ok x) A B C D F G f a b c d e = f a b c d e
OnOk-all (Err e) A B C D F G f a b c d g = tt

pub IfOk-map : {T E : Type 0} (r : Result T E) (P Q : T → Type 0) → ((x : T) → P x → Q x) → IfOk r P → IfOk r Q
IfOk-map (Ok x) P Q f h = f x h
IfOk-map (Err e) P Q f h = tt
