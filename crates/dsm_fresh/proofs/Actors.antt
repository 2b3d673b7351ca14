-- Each event that changes a processor.
use Rattle.std.proofs.Common.{◌≡◌, ℕ, ◌≤◌, Bool, true, false, suc, refl, inl, arith}
use Rattle.std.proofs.lemmas.Bool.{eq-eqb}
use Rattle.dsm_fresh.specs.Stages.{Work, Idle, Ready, Open, Copied, Entered, Fetched, Empty, Flags, Stage, Rest, Before, Drained, Given, Taken, is_worker}
use Rattle.dsm_fresh.specs.Pages.{Page, Processor, Drain_some, page_after}
use Rattle.dsm_fresh.proofs.Facts.{AtWork, Sound, Fits}

module _ (first top : ℕ) (g : Page) (q : ℕ) (x : Processor) where
  pub map_fits : Sound (record g { work = Fetched q }) → Fits first top (record g { work = Fetched q }) q x → Fits first top (record g { work = Fetched q }) q (record x { mapped = true })
  map_fits s f = grind arith

  pub pass_fits : is_worker q g.work ≡ false → Sound g → Fits first top g q (record x { stage = Rest }) → Fits first top g q (record x { known = g.told; stage = Before })
  pass_fits a s f = grind arith

  pub drain_none_fits : g.bit ≡ false → Sound (record g { hand = Empty }) → Fits first top (record g { hand = Empty }) q (record x { stage = Before }) → Fits first top (record g { hand = Empty; dealt = g.posted }) q (record x { stage = Drained })
  drain_none_fits a s f = grind arith

  pub drain_some_fits : g.bit ≡ true → Sound (record g { hand = Empty }) → Fits first top (record g { hand = Empty }) q (record x { stage = Before }) → Fits first top (page_after first (record g { hand = Empty }) (Drain_some q)) q (record x { stage = Drained })
  drain_some_fits a s f = grind arith

  pub flag_mine : Sound (record g { hand = Flags q }) → Fits first top (record g { hand = Flags q }) q x → Fits first top (record g { hand = Flags (suc q) }) q (record x { own = true })
  flag_mine s f = grind arith

  other_flag_at : (w : Work) → Sound (record g { work = w }) → Fits first top (record g { work = w }) q x → Fits first top (record g { work = w }) q (record x { own = true })
  other_flag_at Idle s f = grind arith
  other_flag_at (Ready p t) s f = grind arith
  other_flag_at (Open p b t e) s f = grind arith
  other_flag_at (Copied p b t e) s f = grind arith
  other_flag_at (Entered p) s f = grind arith
  other_flag_at (Fetched p) s f = grind arith

  pub other_flag_fits : Sound g → Fits first top g q x → Fits first top g q (record x { own = true })
  other_flag_fits s f = other_flag_at g.work s f

  flag_other_at : (w : Work) → (j : ℕ) → (j ≡ q → x.own ≡ true) → Sound (record g { hand = Flags j; work = w }) → Fits first top (record g { hand = Flags j; work = w }) q x → Fits first top (record g { hand = Flags (suc j); work = w }) q x
  flag_other_at Idle j a s f = grind arith
  flag_other_at (Ready p t) j a s f = grind arith
  flag_other_at (Open p b t e) j a s f = grind arith
  flag_other_at (Copied p b t e) j a s f = grind arith
  flag_other_at (Entered p) j a s f = grind arith
  flag_other_at (Fetched p) j a s f = grind arith

  pub flag_other : (j : ℕ) → (j ≡ q → x.own ≡ true) → Sound (record g { hand = Flags j }) → Fits first top (record g { hand = Flags j }) q x → Fits first top (record g { hand = Flags (suc j) }) q x
  flag_other j a s f = flag_other_at g.work j a s f

  not_worker : (b : Bool) (z : Stage) → (b ≡ true → z ≡ Rest) → (z ≡ Rest → ⊥) → b ≡ false
  not_worker true z f n = absurd (n (f refl))
  not_worker false z f n = refl

  idle_work : (y : Processor) (w : Work) → is_worker q w ≡ false → AtWork g q y w
  idle_work y (Open p a t e) h = λ i. absurd (let z = eq-eqb p q i in cc (z, h))
  idle_work y (Copied p a t e) h = λ i. absurd (let z = eq-eqb p q i in cc (z, h))
  idle_work y (Fetched p) h = λ i. absurd (let z = eq-eqb p q i in cc (z, h))
  idle_work y w h = tt

  pub give_fits : Sound (record g { hand = Empty }) → Fits first top (record g { hand = Empty }) q (record x { stage = Drained }) → Fits first top (record g { hand = Empty }) q (record x { stage = Given })
  give_fits s f = grind arith

  pub take_fits : Sound g → Fits first top g q (record x { stage = Given }) → Fits first top g q (record x { own = false; stage = Taken x.own })
  take_fits s f =
      let n = not_worker (is_worker q g.work) Given f.at_rest (λ e. absurd (cc e)) in
      record { unlisted = f.unlisted; unfetched = f.unfetched; known_in = f.known_in; at_rest = λ e. absurd (cc (n, e)); of_node = f.of_node; reached = let r = f.reached in grind arith; at_work = idle_work (record x { own = false; stage = Taken x.own }) g.work n; at_stage = let r = f.at_stage in grind arith }

  pub skip_fits : (b : Bool) → x.mapped ≡ false → Sound g → Fits first top g q (record x { stage = Taken b }) → Fits first top g q (record x { stage = Taken false })
  skip_fits b a s f =
      let n = not_worker (is_worker q g.work) (Taken b) f.at_rest (λ e. absurd (cc e)) in
      record { unlisted = f.unlisted; unfetched = f.unfetched; known_in = f.known_in; at_rest = λ e. absurd (cc (n, e)); of_node = f.of_node; reached = λ e. absurd (cc (a, e)); at_work = idle_work (record x { stage = Taken false }) g.work n; at_stage = (f.at_stage.0, λ e. absurd (cc (a, e))) }

  pub unmap_fits : (b : Bool) → Sound g → Fits first top g q (record x { stage = Taken b }) → Fits first top g q (record x { mapped = false; stage = Taken false })
  unmap_fits b s f =
      let n = not_worker (is_worker q g.work) (Taken b) f.at_rest (λ e. absurd (cc e)) in
      record { unlisted = λ e. refl; unfetched = λ e. refl; known_in = f.known_in; at_rest = λ e. absurd (cc (n, e)); of_node = let r = f.of_node in grind arith; reached = λ e. absurd (cc e); at_work = idle_work (record x { mapped = false; stage = Taken false }) g.work n; at_stage = (f.at_stage.0, λ e. absurd (cc e)) }

  pub keep_fits : (b : Bool) → g.notice ≤ g.update → Sound (record g { work = Idle }) → Fits first top (record g { work = Idle }) q (record x { stage = Taken b }) → Fits first top (record g { work = Idle }) q (record x { stage = Taken false })
  keep_fits b a s f = grind arith

  pub settle_fits : Sound g → Fits first top g q (record x { stage = Taken false }) → Fits first top g q (record x { stage = Rest })
  settle_fits s f = grind arith

  pub keep_sole_fits : (b : Bool) → g.dir ≡ 2 → Sound g → Fits first top g q (record x { stage = Taken b }) → Fits first top g q (record x { stage = Taken false })
  keep_sole_fits b a s f =
      let n = not_worker (is_worker q g.work) (Taken b) f.at_rest (λ e. absurd (cc e)) in
      record { unlisted = f.unlisted; unfetched = f.unfetched; known_in = f.known_in; at_rest = λ e. absurd (cc (n, e)); of_node = f.of_node; reached = λ m l. absurd (let z = s.bounds.sole_has a in let y = s.bounds.dealt_in in let w = s.bounds.posted_in in omega (arith, l, z.0, y, w)); at_work = idle_work (record x { stage = Taken false }) g.work n; at_stage = (f.at_stage.0, λ m. inl (let z = s.bounds.sole_has a in let y = f.known_in in let w = s.bounds.told_in in omega (arith, z.0, y, w))) }
