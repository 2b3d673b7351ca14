-- Who may use a page, in the words of a state, from the state of its directory that they show.
use Rattle.std.proofs.Common.{◌≡◌, ℕ, ◌<◌, ◌≤◌, ◌⊎◌, inl, inr, Bool, true, false, List, Option, refl, sym, ap, ◌∙◌, subst}
use Rattle.dsm_words.specs.declared.item.Item.TheVariants.{Twined, Dir}
use Rattle.dsm_words.specs.Words.{word}
use Rattle.dsm_protocol.proofs.Placed.{placed}
use Rattle.dsm_runs.specs.Setups.{Setup, IsSetup, lay_in, who_at}
use Rattle.dsm_runs.specs.Clusters.{Cluster, Event, start, after_all_loose}
use Rattle.dsm_owners.specs.Directory as D
use Rattle.dsm_owners.proofs.Every.{Facts, every}
use Rattle.dsm_ties.specs.Always.{AlwaysLoosely}
use Rattle.dsm_ties.specs.Holders.{OneHolder, UnregisteredUnmapped, WritersTwinned, HomeBare, HomelessUntouched}
use Rattle.dsm_ties.specs.Tied.{Match, Tied, bit, node_in}

-- a mapping that is this number allows what that does
may_not : (x y : ℕ) → x ≡ y → (y ≡ 0) ⊎ (y ≡ 3) → (x ≡ 0) ⊎ (x ≡ 3)
may_not x y e (inl h) = inl (e ∙ h)
may_not x y e (inr h) = inr (e ∙ h)

unset : (b : Bool) → (b ≡ true → ⊥) → b ≡ false
unset true h = absurd (h refl)
unset false h = refl

clash : false ≡ true → ⊥
clash e = absurd (cc e)

module _ (tied : AlwaysLoosely Tied) (s : Setup) (events : List (Event × Option ℕ)) (is : IsSetup s) where
  abbrev now : Cluster
  now = after_all_loose s (start s) events

  -- the words of page g are those of this state, of which the directory's law holds
  record Law (g : ℕ) : Type 0 where
    state : D.State
    match : Match (who_at s 0) g now.words state
    facts : Facts s.nodes (node_in s) state

  law : (g : ℕ) → g < s.program.shape.pages → Law g
  law g g_in =
      let t = tied s events is g g_in in
      record { state = D.after (node_in s) D.start t.0; match = t.2.words; facts = every s.nodes (node_in s) t.0 t.1 }

  pub one_holder : OneHolder s now
  one_holder g m n g_in m_in n_in ne d =
      let l = law g g_in in
      let b = l.facts.sole m n n_in ne (sym (l.match.dir m m_in) ∙ d) in (
        subst (λ z. z ≤ 1) (sym (l.match.dir n n_in)) b.not_sole,
        l.match.twined n n_in ∙ ap bit b.no_twin,
        λ q q_in at. may_not _ _ (l.match.map q q_in) (b.unused q at),
      )

  pub unregistered : UnregisteredUnmapped s now
  unregistered g n g_in n_in d =
      let l = law g g_in in
      let h = l.facts.unregistered n (sym (l.match.dir n n_in) ∙ d) in
      (l.match.twined n n_in ∙ ap bit h.0, λ q q_in at. l.match.map q q_in ∙ h.2 q at)

  pub writers : WritersTwinned s now
  writers g q g_in q_in away two =
      let l = law g g_in in
      go l (l.facts.writer q (λ e. away (l.match.home ∙ e)) (sym (l.match.map q q_in) ∙ two))
    where
      n_in : node_in s q < s.nodes
      n_in = (placed (who_at s q) q_in).node_in

      go : (l : Law g) → ((l.state.nodes (node_in s q)).dir ≡ 2) ⊎ ((l.state.nodes (node_in s q)).twined ≡ true) → (word (lay_in s) now.words (Dir (node_in s q) g) ≡ 2) ⊎ (word (lay_in s) now.words (Twined (node_in s q) g) ≡ 1)
      go l (inl e) = inl (l.match.dir _ n_in ∙ e)
      go l (inr e) = inr (l.match.twined _ n_in ∙ ap bit e)

  pub home_bare : HomeBare s now
  home_bare g n g_in n_in h =
      let l = law g g_in in
      let bare = l.facts.home_bare n (sym l.match.home ∙ h) in (
        l.match.twined n n_in ∙ ap bit bare.0,
        λ m m_in. unset _ (λ is. clash (sym bare.1 ∙ l.match.posted n m n_in m_in is)),
        λ q q_in at. unset _ (λ is. clash (sym bare.1 ∙ ap (λ z. (l.state.nodes z).noted) (sym at) ∙ l.match.listed q q_in is)),
      )

  pub untouched : HomelessUntouched s now
  untouched g n g_in n_in none =
      let l = law g g_in in
      let d = l.match.dir n n_in ∙ l.facts.homeless (sym l.match.home ∙ none) n in
      let h = unregistered g n g_in n_in d in
      (d, h.0, h.1)
