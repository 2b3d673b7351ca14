-- The laws of one word, over every list of events.
use Rattle.std.proofs.Common.{◌≡◌, ◌≢◌, ℕ, ◌≤◌, ◌⊎◌, true, Option, None, Some, List, [], ◌∷◌, refl, sym, ap, ◌∙◌, subst, inl, inr, arith}
use Rattle.dsm_copies.specs.Modes.{is_exclusive}
use Rattle.dsm_copies.specs.Copies.{State, Event, Load, Store, store_at, after_event, after, start, is_at, stored_by, latest}
use Rattle.dsm_copies.specs.Premises.{RunsUnder, Every}
use Rattle.dsm_copies.specs.Laws.{NoneExclusive, LoadsHaveTheLatest, HomeHasTheLatest}
use Rattle.dsm_copies.proofs.Needs.{May, needs}
use Rattle.dsm_copies.proofs.Holds.{Holds, reads, at_own}
use Rattle.dsm_copies.proofs.Events.{keeps}

pub begins : (place : ℕ → Option ℕ) (init : ℕ) (frames twins : ℕ → ℕ) → Holds place (start init frames twins)
begins place init frames twins = record {
  sound = record { most = omega arith; settled = λ a. refl; broken = λ a. absurd (cc a) };
  each = λ k. record { base = record { own_has = λ e. absurd (cc e); fresh_has = λ e. absurd (cc e); since_has = λ e. absurd (cc e); released_is = λ e. absurd (cc e); early_is = λ e. absurd (cc e) }; stands = λ e. absurd (cc e) };
  maker = λ p e. absurd (cc e);
  told_is = λ q e. omega arith;
  knows_is = λ q e. inr (inl refl);
  homes = λ e. record { covers = omega arith; signalled = λ a. inl (omega arith); passed = λ a. absurd (cc a); no_send = λ a b. absurd (omega (arith, b)) };
  first = λ e. record { all_told = omega arith; fetches = λ k a. absurd (cc a); prompt = λ k. tt };
}

pub holds : (place : ℕ → Option ℕ) (init : ℕ) (frames twins : ℕ → ℕ) (es : List Event) → RunsUnder place Every (start init frames twins) es → Holds place (after place (start init frames twins) es)
holds place init frames twins [] r = begins place init frames twins
holds place init frames twins (e ∷ older) r =
    let s = after place (start init frames twins) older in
    keeps place s (holds place init frames twins older r.1) e (needs place s e r.0)

last_store : (s : State) (p : ℕ) (w : Option ℕ) (v : ℕ) → (store_at s p w v).last ≡ v
last_store s p None v = refl
last_store s p (Some n) v = refl

last_after_event : (place : ℕ → Option ℕ) (s : State) (e : Event) → (after_event place s e).last ≡ stored_by e s.last
last_after_event place s (Store p v) = last_store s p (place p) v
last_after_event place s _ = refl

pub last_after : (place : ℕ → Option ℕ) (s : State) (es : List Event) → (after place s es).last ≡ latest s.last es
last_after place s [] = refl
last_after place s (e ∷ older) = last_after_event place (after place s older) e ∙ ap (stored_by e) (last_after place s older)

pub flat : LoadsHaveTheLatest
flat place init frames twins p v es r =
    let s = after place (start init frames twins) es in
    let may : May place s (Load p v) = needs place s (Load p v) r.0 in
    may.1 ∙ reads place s (holds place init frames twins es r.1) p (place p) refl may.0 ∙ last_after place (start init frames twins) es

final_of : (place : ℕ → Option ℕ) (s : State) → Holds place s → s.released ≡ true → NoneExclusive s → s.master ≡ s.last
final_of place s h r none = h.sound.settled (go s.at refl)
  where
    go : (c : Option ℕ) → s.at ≡ c → 2 ≤ s.progress
    go None e = (h.homes e).covers
    go (Some k) e = pick ((h.each k).base.released_is (subst (λ c. is_at c k ≡ true) (sym e) (at_own k)) r)
      where
        pick : (4 ≤ s.progress) ⊎ ((is_exclusive (s.nodes k).mode ≡ true) × (s.progress ≢ 1)) → 2 ≤ s.progress
        pick (inl a) = omega (arith, a)
        pick (inr a) = absurd (let b = none.1 k in cc (a.0, b))

pub final_value : HomeHasTheLatest
final_value place init frames twins es r released none =
    final_of place (after place (start init frames twins) es) (holds place init frames twins es r) released none ∙ last_after place (start init frames twins) es
