-- Along every trail the copies of a word are tied, by what the rows give and by what is so of the processors that do not move.
use Rattle.std.proofs.Common.{◌≡◌, ◌≢◌, ◌⊎◌, inl, inr, ℕ, suc, ◌*◌, ◌<◌, List, [], ◌∷◌, ◌++◌, sym, ap, ◌∙◌, subst, arith}
use Rattle.std.proofs.lemmas.Bool.{cases_eq}
use Rattle.dsm_words.specs.declared.item.Item.TheVariants.{Turn, Home}
use Rattle.dsm_words.specs.Words.{word}
use Rattle.dsm_runs.specs.Setups.{Setup, IsSetup, lay_in, who_at}
use Rattle.dsm_owners.specs.Directory as O
use Rattle.dsm_owners.specs.Premises.{Runs as Keeps_all}
use Rattle.dsm_owners.proofs.Every as E
use Rattle.dsm_ties.specs.Tied.{node_in}
use Rattle.dsm_ties.proofs.Along as Dir
use Rattle.dsm_ties.proofs.Along.{dir_tied}
use Rattle.dsm_ties.proofs.Trails.{Position, Piece, behind, Fine, IsFair, IsQuiet, Trail, Starts, Goes, piece_dir, dir_of, dir_at, IsExact}
use Rattle.dsm_freshness.proofs.Trailing.{left, at_put, works_left, fresh_tied, FreshTied}
use Rattle.dsm_releases.specs.Tied.{IsHome}
use Rattle.dsm_releases.proofs.Joining.{each_acts}
use Rattle.dsm_releases.proofs.Trailing.{debts_tied, DebtsTied}
use Rattle.dsm_twoway.specs.Tied.{IsAway, Knows}
use Rattle.dsm_twoway.proofs.Scene.{Holder}
use Rattle.dsm_twoway.proofs.Following.{EachActs}
use Rattle.dsm_twoway.proofs.Moving.{pages_at, copies_at, count_at, fresh_in, WordTied}
use Rattle.dsm_twoway.proofs.PageTrails.{piece_node, may_step}
use Rattle.dsm_twoway.proofs.Near.{near}
use Rattle.dsm_twoway.proofs.FitTrails.{fits_along}
use Rattle.dsm_twoway.proofs.Holding.{holder}
use Rattle.dsm_twoway.proofs.DeedTrails.{deeds_alike}
use Rattle.dsm_twoway.proofs.Outset.{first_tied}
use Rattle.dsm_twoway.proofs.Staying.{knows_stays}
use Rattle.dsm_twoway.proofs.Stepping.{acts, moves_behind, others_behind, match_behind, knows_behind}

-- events of the directory that keep their premises behind others
runs_behind : (top : ℕ) (node : ℕ → ℕ) (b : O.State) (es fs : List O.Event) → Keeps_all top node b (es ++ fs) → Keeps_all top node (O.after node b es) fs
runs_behind top node b [] fs r = r
runs_behind top node b (e ∷ es) fs r = runs_behind top node (O.after_event node b e) es fs r.1

module _ (s : Setup) (is : IsSetup s) (h g i : ℕ) (h_in : h < s.nodes) (g_in : g < s.program.shape.pages) (i_in : i < s.program.shape.words) (each : EachActs) where
  abbrev HomeAt : Position → Type 0
  HomeAt z = IsHome h g (who_at s 0) z.words

  -- a page whose home is the node behind a step had it, or none, before it
  home_before : (z : Position) (t : Trail s z) (p : ℕ) (p_in : p < s.nodes * s.procs) (fine : Fine s z) (piece : Piece s z p) (fair : IsFair s z p piece) (quiet : IsQuiet s z p) → HomeAt (behind s z p piece) → HomeAt z
  home_before z t p p_in fine piece fair quiet later = go (cases_eq (word (lay_in s) z.words (Home g)) 0)
    where
      go : (word (lay_in s) z.words (Home g) ≡ 0) ⊎ (word (lay_in s) z.words (Home g) ≢ 0) → HomeAt z
      go (inl e) = inl e
      go (inr ne) =
          let old = dir_tied s g g_in t in
          let new = dir_tied s g g_in (Goes t p p_in fine piece fair quiet) in
          let runs = runs_behind s.nodes (node_in s) O.start (dir_of s g t) (piece_dir s g piece) new.runs in
          let stays = E.stays s.nodes (node_in s) (dir_at s g t) (piece_dir s g piece) runs (λ e. ne (old.match.home ∙ e)) in
          let same : word (lay_in s) (behind s z p piece).words (Home g) ≡ word (lay_in s) z.words (Home g) = new.match.home ∙ (ap (λ b. b.home) (Dir.after_append s.nodes (node_in s) O.start (dir_of s g t) (piece_dir s g piece)) ∙ (stays ∙ sym old.match.home)) in
          subst (λ y. (y ≡ 0) ⊎ (y ≡ suc h)) same later

  -- what a node owes, and the copies as senders see them
  owed : {z : Position} (t : Trail s z) → HomeAt z → (n : ℕ) → n < s.nodes → DebtsTied s h n g i t
  owed t is_home n n_in = debts_tied s h n g i h_in n_in g_in i_in is.sizes.1 (λ z t. dir_tied s g g_in t) each_acts t is_home

  seen : {z : Position} (t : Trail s z) → HomeAt z → (m n : ℕ) → m < s.nodes → m ≢ n → n < s.nodes → n ≢ h → FreshTied s m n g t
  seen {z = z} t is_home m n m_in ne n_in away = fresh_tied s m n g ne m_in n_in g_in is.sizes.1 (λ e. absurd (omega (arith, is.sizes.2, e))) is.procs.0 (λ z t. dir_tied s g g_in t) t (apart is_home)
    where
      apart : HomeAt z → word (lay_in s) z.words (Home g) ≢ suc n
      apart (inl e) d = absurd (cc (sym e ∙ d))
      apart (inr e) d = away (let y : suc h ≡ suc n = sym e ∙ d in let x : h ≡ n = cc y in sym x)

  -- along every trail of exact answers that leads to a position where the page's home is node h, or it has none yet
  pub word_tied : {z : Position} (t : Trail s z) → IsExact s t → HomeAt z → WordTied s h g i t
  word_tied Starts exact is_home = first_tied s h g i h_in g_in i_in
  word_tied (Goes {z = z} t p p_in fine piece fair quiet) exact is_home =
      let before = home_before z t p p_in fine piece fair quiet is_home in
      let after = Goes t p p_in fine piece fair quiet in
      let old = word_tied t exact.0 before in
      let dir = dir_tied s g g_in t in
      let holds : (n : ℕ) → IsAway h (who_at s p) n → word (lay_in s) z.words (Turn n g) ≢ 0 → Holder h g i (who_at s p) z.words (dir_at s g t) (pages_at s h g i t) (copies_at s h g i t) n = λ n away ne. holder s is h g i g_in t old dir fine p n away (owed t before n away.0) ne in
      let acted = acts s h g i h_in g_in i_in is.sizes.1 z t old dir (owed t before) (seen t before) fine before p p_in holds each (fits_along s t p) piece fair exact.1 in
      let k = piece_node s h g i piece in
      record {
        moves = moves_behind s h g i h_in g_in i_in is.sizes.1 z t old dir (owed t before) (seen t before) fine before p p_in holds piece fair quiet acted (may_step s h g i t p piece (owed after is_home k (near s h g i t p p_in piece)).runs);
        others = others_behind s h g i h_in g_in i_in is.sizes.1 z t old dir (owed t before) (seen t before) fine before p p_in holds piece fair quiet acted;
        match = match_behind s h g i h_in g_in i_in is.sizes.1 z t old dir (owed t before) (seen t before) fine before p p_in holds piece fair quiet acted;
        knows = λ q q_in. subst (λ w. Knows h g i (who_at s q) (behind s z p piece).words (fresh_in s h g i after) (pages_at s h g i after) (copies_at s h g i after) (count_at s h g i after) w) (works_left s z p piece q)
            (at_put (λ w. Knows h g i (who_at s q) (behind s z p piece).words (fresh_in s h g i after) (pages_at s h g i after) (copies_at s h g i after) (count_at s h g i after) w) z.works p q (left s piece)
            (λ e. subst (λ y. Knows h g i (who_at s y) (behind s z p piece).words (fresh_in s h g i after) (pages_at s h g i after) (copies_at s h g i after) (count_at s h g i after) (left s piece)) (sym e)
            (knows_behind s h g i h_in g_in i_in is.sizes.1 z t old dir (owed t before) (seen t before) fine before p p_in holds piece fair quiet acted))
            (λ ne. knows_stays s h g i g_in t old (owed t before) p p_in fine piece fair quiet q q_in ne));
        deeds = deeds_alike s h g i i_in after;
      }
