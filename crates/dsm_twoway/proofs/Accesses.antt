-- What an access to a mapped page may count on: its node has fetched, and has got every send that its processor knows of, and every break.
use Rattle.std.proofs.Common.{◌≡◌, ◌≢◌, ◌⊎◌, inl, inr, ℕ, zero, suc, ◌+◌, ◌*◌, ◌<◌, ◌≤◌, true, refl, sym, ap, ◌∙◌, subst, arith}
use Rattle.std.proofs.lemmas.Bool.{cases_eq, eq-eqb, ne_eqb}
use Rattle.std.proofs.lemmas.Bool.{cases_lt}
use Rattle.dsm_words.specs.declared.item.Item.TheVariants.{Map}
use Rattle.dsm_words.specs.Words.{word}
use Rattle.dsm_protocol.specs.Own.{Own, node_of}
use Rattle.dsm_protocol.specs.Stages.{Work, Gone}
use Rattle.dsm_fresh.specs.Pages as S
use Rattle.dsm_fresh.specs.Stages as F
use Rattle.dsm_fresh.proofs.Keeps.{fresh, usable}
use Rattle.dsm_freshness.specs.Views.{acquire_view}
use Rattle.dsm_freshness.specs.Tied.{may_load}
use Rattle.dsm_twoway.specs.Tied.{IsAway, spot}
use Rattle.dsm_twoway.proofs.Scene.{Scene, Here}

module _ (s : Scene) where
  abbrev n : ℕ
  n = node_of s.u

  pub spot_home : (m : ℕ) → m ≡ s.h → spot s.h s.u m ≡ 0
  spot_home m e = rw (eq-eqb m s.h e) refl

  pub spot_away : (m : ℕ) → m ≢ s.h → spot s.h s.u m ≡ suc m
  spot_away m ne = rw (ne_eqb m s.h ne) refl

  -- a number is a sender's, or no sender's
  pub spots : (k : ℕ) → ((m : ℕ) × (m < s.u.lay.nodes) × (k ≡ spot s.h s.u m)) ⊎ ((m : ℕ) → m < s.u.lay.nodes → k ≢ spot s.h s.u m)
  spots zero = inl (s.h, s.h_in, sym (spot_home s.h refl))
  spots (suc j) = go (cases_eq j s.h) (cases_lt j s.u.lay.nodes)
    where
      none : (j ≡ s.h) ⊎ (s.u.lay.nodes ≤ j) → (m : ℕ) → m < s.u.lay.nodes → suc j ≢ spot s.h s.u m
      none out m l e = each (cases_eq m s.h)
        where
          each : (m ≡ s.h) ⊎ (m ≢ s.h) → ⊥
          each (inl d) = let z = e ∙ spot_home m d in absurd (omega (arith, z))
          each (inr ne) = let z = e ∙ spot_away m ne in this out z
            where
              this : (j ≡ s.h) ⊎ (s.u.lay.nodes ≤ j) → suc j ≡ suc m → ⊥
              this (inl d) z = absurd (ne (omega (arith, d, z)))
              this (inr g) z = absurd (omega (arith, g, z, l))

      go : (j ≡ s.h) ⊎ (j ≢ s.h) → (j < s.u.lay.nodes) ⊎ (s.u.lay.nodes ≤ j) → ((m : ℕ) × (m < s.u.lay.nodes) × (suc j ≡ spot s.h s.u m)) ⊎ ((m : ℕ) → m < s.u.lay.nodes → suc j ≢ spot s.h s.u m)
      go (inl d) w = inr (none (inl d))
      go (inr ne) (inl l) = inl (j, l, sym (spot_away j ne))
      go (inr ne) (inr g) = inr (none (inr g))

  module _ (away : IsAway s.h s.u (node_of s.u)) (mapped : may_load (word s.u.lay s.ws (Map s.u.p s.g)) ≡ true) where
    maps : (m : ℕ) (l : m < s.u.lay.nodes) (ne : m ≢ node_of s.u) → ((s.fresh m (node_of s.u)).processors s.u.p).mapped ≡ true
    maps m l ne = sym ((s.copies m (node_of s.u) l ne away).match.mapped s.u.p s.at.p_in refl) ∙ mapped

    useful : (m : ℕ) (l : m < s.u.lay.nodes) (ne : m ≢ node_of s.u) → ((s.fresh m (node_of s.u)).page.update ≢ 0) × ((s.fresh m (node_of s.u)).page.broken ≤ (s.fresh m (node_of s.u)).page.got)
    useful m l ne =
        let c = s.copies m (node_of s.u) l ne away in
        let f : ℕ = node_of s.u * s.u.lay.procs in
        let r = usable f (f + s.u.lay.procs) c.events s.u.p c.runs (subst (λ (z : S.State). (z.processors s.u.p).mapped ≡ true) (sym c.is) (maps m l ne)) in
        subst (λ (z : S.State). (z.page.update ≢ 0) × (z.page.broken ≤ z.page.got)) c.is (r.1, r.2)

    -- the node has fetched
    pub fetched_here : (s.x.nodes (node_of s.u)).fetched ≡ true
    fetched_here =
        let ne : s.h ≢ node_of s.u = λ e. away.1 (sym e) in
        let c = s.copies s.h (node_of s.u) s.h_in ne away in
        (s.match.words.each (node_of s.u) away).fetched_is (λ e. (useful s.h s.h_in ne).0 (sym c.match.update ∙ e))

    -- it has got every break
    pub breaks_got : (k : ℕ) → k ≢ suc (node_of s.u) → s.c.broken k ≤ s.c.got (node_of s.u) k
    breaks_got k ne = go (spots k)
      where
        go : ((m : ℕ) × (m < s.u.lay.nodes) × (k ≡ spot s.h s.u m)) ⊎ ((m : ℕ) → m < s.u.lay.nodes → k ≢ spot s.h s.u m) → s.c.broken k ≤ s.c.got (node_of s.u) k
        go (inr none) = let z = (s.match.counted.silent k none).1 in omega (arith, z)
        go (inl (m, l, is)) =
            let off : m ≢ node_of s.u = λ e. ne (is ∙ spot_away m (λ d. away.1 (sym e ∙ d)) ∙ ap suc e) in
            let b = ap s.c.broken is ∙ s.match.counted.broken_is m (node_of s.u) l off away in
            let g = ap (s.c.got (node_of s.u)) is ∙ s.match.counted.got_is m (node_of s.u) l off away in
            let r = (useful m l off).1 in
            omega (arith, b, g, r)

    -- and every send of which the processor knows, where it is in no acquire
    pub sends_got : {w : Work} {o : Own} → Here s w o → w ≢ Gone → ((m : ℕ) → acquire_view m (node_of s.u) s.g w ≡ F.Rest) → (k : ℕ) → k ≢ suc (node_of s.u) → s.c.known s.u.p k ≤ s.c.got (node_of s.u) k
    sends_got {w} {o} here lives rests k ne = go (spots k)
      where
        go : ((m : ℕ) × (m < s.u.lay.nodes) × (k ≡ spot s.h s.u m)) ⊎ ((m : ℕ) → m < s.u.lay.nodes → k ≢ spot s.h s.u m) → s.c.known s.u.p k ≤ s.c.got (node_of s.u) k
        go (inr none) = let z = (s.match.counted.silent k none).2 s.u.p in omega (arith, z)
        go (inl (m, l, is)) =
            let off : m ≢ node_of s.u = λ e. ne (is ∙ spot_away m (λ d. away.1 (sym e ∙ d)) ∙ ap suc e) in
            let b = ap (s.c.known s.u.p) is ∙ s.match.counted.known_is m (node_of s.u) s.u.p l off away s.at.p_in refl in
            let g = ap (s.c.got (node_of s.u)) is ∙ s.match.counted.got_is m (node_of s.u) l off away in
            let c = s.copies m (node_of s.u) l off away in
            let f : ℕ = node_of s.u * s.u.lay.procs in
            let rest : ((s.fresh m (node_of s.u)).processors s.u.p).stage ≡ F.Rest = (here.copies m (node_of s.u) l off away).stage refl lives ∙ rests m in
            let r = fresh f (f + s.u.lay.procs) c.events s.u.p c.runs (subst (λ (z : S.State). (z.processors s.u.p).stage ≡ F.Rest) (sym c.is) rest) (subst (λ (z : S.State). (z.processors s.u.p).mapped ≡ true) (sym c.is) (maps m l off)) in
            let r' : ((s.fresh m (node_of s.u)).processors s.u.p).known ≤ (s.fresh m (node_of s.u)).page.got = subst (λ (z : S.State). (z.processors s.u.p).known ≤ z.page.got) c.is r in
            omega (arith, b, g, r')
