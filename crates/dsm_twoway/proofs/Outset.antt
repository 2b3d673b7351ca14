-- Before any step the words are those of the first copies, and nothing was sent.
use Rattle.std.proofs.Common.{◌≡◌, ◌⊎◌, inl, inr, ℕ, ◌<◌, ◌==◌, true, refl, sym, ap, ◌∙◌}
use Rattle.dsm_words.specs.declared.item.Item.TheVariants.{Frame, Twin, Twined, Dir, Update}
use Rattle.dsm_words.specs.Words.{word}
use Rattle.dsm_runs.specs.Setups.{Setup, lay_in, who_at}
use Rattle.dsm_runs.specs.Clusters.{start as begin}
use Rattle.dsm_runs.proofs.Starting.{starts_by_items}
use Rattle.dsm_copies.specs.Modes.{may_store}
use Rattle.dsm_ties.proofs.Trails.{Starts}
use Rattle.dsm_twoway.specs.Tied.{Copy}
use Rattle.dsm_twoway.proofs.Moving.{first_copies, WordTied}

module _ (s : Setup) (h g i : ℕ) (h_in : h < s.nodes) (g_in : g < s.program.shape.pages) (i_in : i < s.program.shape.words) where
  first_copy : (n : ℕ) → n < s.nodes → Copy h g i (who_at s 0) (begin s).words n ((first_copies s h g i).nodes n)
  first_copy n n_in =
      record {
        frame_is = starts_by_items s (Frame n g i) (n_in, g_in, i_in);
        twin_is = starts_by_items s (Twin n g i) (n_in, g_in, i_in);
        fetched_is = λ ne. absurd (ne (starts_by_items s (Update n g) (n_in, g_in)));
        rest_is = λ e. rw (starts_by_items s (Dir n g) (n_in, g_in)) (rw (starts_by_items s (Twined n g) (n_in, g_in)) refl);
        rights = λ o. none o;
      }
    where
      none : (word (lay_in s) (begin s).words (Twined n g) ≡ 1) ⊎ (word (lay_in s) (begin s).words (Dir n g) ≡ 2) → may_store ((first_copies s h g i).nodes n).mode ≡ true
      none (inl e) = let z = starts_by_items s (Twined n g) (n_in, g_in) in absurd (cc (sym z ∙ e))
      none (inr e) = let z = starts_by_items s (Dir n g) (n_in, g_in) in absurd (cc (sym z ∙ e))

  pub first_tied : WordTied s h g i Starts
  first_tied =
      record {
        moves = tt;
        others = tt;
        match = record {
          words = record {
            master_is = starts_by_items s (Frame h g i) (h_in, g_in, i_in);
            home_is = ap (λ z. z == 2) (starts_by_items s (Dir h g) (h_in, g_in));
            each = λ n away. first_copy n away.0;
            none = λ n o. refl;
          };
          counted = record {
            sent_is = λ m n m_in ne away. refl;
            told_is = λ m n m_in ne away. refl;
            broken_is = λ m n m_in ne away. refl;
            got_is = λ m n m_in ne away. refl;
            known_is = λ m n q m_in ne away q_in at. refl;
            snap_is = λ m n q e t enters m_in ne away w. absurd (cc w);
            silent = λ k f. (refl, refl, λ q. refl);
          };
        };
        knows = λ p p_in. record { mode = λ n away tu. tt; copied = λ away. tt; beginning = λ away. tt };
        deeds = λ p p_in others. refl;
      }
