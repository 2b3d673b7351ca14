-- An enter made alone.
use Rattle.std.proofs.Common.{◌≡◌, ◌≢◌, ℕ, ◌<◌, true, false, List, length, refl, ◌∙◌, subst, ◌⊎◌, inl, inr, ◌==◌}
use Rattle.std.proofs.lemmas.Bool.Decides.{eqb_tells}
use Rattle.dsm_words.specs.declared.item.Item.TheVariants.{Frame, Clock, Update, Dir}
use Rattle.dsm_words.specs.Changes.{AlwaysLeaves}
use Rattle.dsm_words.specs.Parts.{and_then}
use Rattle.dsm_words.specs.Place.{Lay, total}
use Rattle.dsm_words.specs.Script.{End, Put, Add, is_open}
use Rattle.dsm_words.specs.Words.{word, done, reply}
use Rattle.dsm_words.proofs.Alone.{leaves_end, leaves_do, leaves_and_then, IsPlain, plain_end, plain_do, plain_if, plain_and_then, leaves_unnamed, can_be_made}
use Rattle.dsm_words.proofs.WordLaws.{word_other, length-done}
use Rattle.dsm_incoming.specs.Getting.{overwrite_script}
use Rattle.dsm_incoming.specs.Laws.{IsOverwritten}
use Rattle.dsm_incoming.proofs.Overwriting.{overwrite_gets, overwrite_plain}
use Rattle.dsm_exclusive.specs.declared.enter.At.{At}
use Rattle.dsm_exclusive.specs.declared.enter.At.TheVariants.{Draw, Copy, Stamp, Last, Over}
use Rattle.dsm_incoming.specs.declared.overwrite.Overwrite.{Overwrite}
use Rattle.dsm_exclusive.specs.Entering.{enter_script, enter_copy, enter_tail, enter_end, enter_at, copy_at, copied_at}
use Rattle.dsm_exclusive.specs.Laws.{IsEntered, EnterGets, EnterCanBeMade, EnterLeavesTheUnnamed, CopyComesFirst}

module _ (l : Lay) (n g h : ℕ) (n_in : n < l.nodes) (g_in : g < l.pages) (h_in : h < l.nodes) where
  module _ (ws : List ℕ) (long : length ws ≡ total l) where
    abbrev Holds : List ℕ → Type 0
    Holds new = IsEntered l n g h ws new

    abbrev drawn : List ℕ
    drawn = done l ws (Add (Clock n) 1)

    abbrev Between : List ℕ → Type 0
    Between mid = IsOverwritten l n g h drawn mid

    at_home : n ≡ h → AlwaysLeaves l ws (enter_end n g) Holds
    at_home e =
        let new = done l ws (Put (Dir n g) 2) in
        leaves_do l ws (Put (Dir n g) 2) (λ _. End tt) Holds (leaves_end l new tt Holds (record {
          frame = λ i i_in. subst (λ x. word l new (Frame n g i) ≡ word l ws (Frame x g i)) e (word_other l ws (Put (Dir n g) 2) (Frame n g i) (n_in, g_in) (n_in, g_in, i_in) (λ q. absurd (cc q)));
          others = λ it w _ _ _ ne. word_other l ws (Put (Dir n g) 2) it (n_in, g_in) w ne;
        }))

    tail : (mid : List ℕ) (t : ℕ) → Between mid → AlwaysLeaves l mid (enter_tail n g t) Holds
    tail mid t b =
        let stamp = Put (Update n g) t in
        let stamped = done l mid stamp in
        let last = Put (Dir n g) 2 in
        let new = done l stamped last in
        leaves_do l mid stamp (λ _. enter_end n g) Holds (leaves_do l stamped last (λ _. End tt) Holds (leaves_end l new tt Holds (record {
          frame = λ i i_in. word_other l stamped last (Frame n g i) (n_in, g_in) (n_in, g_in, i_in) (λ q. absurd (cc q)) ∙ (word_other l mid stamp (Frame n g i) (n_in, g_in) (n_in, g_in, i_in) (λ q. absurd (cc q)) ∙ (b.frame i i_in ∙ word_other l ws (Add (Clock n) 1) (Frame h g i) n_in (h_in, g_in, i_in) (λ q. absurd (cc q))));
          others = λ it w ne ne' ne'' ne'''. word_other l stamped last it (n_in, g_in) w ne''' ∙ (word_other l mid stamp it (n_in, g_in) w ne'' ∙ (b.others it w ne ∙ word_other l ws (Add (Clock n) 1) it n_in w ne'));
        })))

    copied : AlwaysLeaves l ws (enter_copy n (overwrite_script l n g h)) Between
    copied = leaves_do l ws (Add (Clock n) 1) (λ t. and_then (overwrite_script l n g h) (λ _. End t)) Between (leaves_and_then l drawn (overwrite_script l n g h) (λ _. End (reply l ws (Add (Clock n) 1))) Between Between (overwrite_gets l n g h drawn n_in g_in h_in (length-done l ws (Add (Clock n) 1) ∙ long)) (λ mid x b. leaves_end l mid _ Between b))

    gets : ((n == h) ≡ true) × (n ≡ h) ⊎ ((n == h) ≡ false) × (n ≢ h) → AlwaysLeaves l ws (enter_script l n g h) Holds
    gets (inl e) = rw e.0 (at_home e.1)
    gets (inr e) = rw e.0 (leaves_and_then l ws (enter_copy n (overwrite_script l n g h)) (λ t. enter_tail n g t) Between Holds copied tail)

  plain : IsPlain l (enter_script l n g h)
  plain = plain_if l (n == h) (enter_end n g) (and_then (enter_copy n (overwrite_script l n g h)) (λ t. enter_tail n g t)) last (plain_and_then l (enter_copy n (overwrite_script l n g h)) (λ t. enter_tail n g t) copy (λ t. plain_do l (Put (Update n g) t) (λ _. enter_end n g) (n_in, g_in) (λ _. last)))
    where
      last : IsPlain l (enter_end n g)
      last = plain_do l (Put (Dir n g) 2) (λ _. End tt) (n_in, g_in) (λ _. plain_end l tt)

      copy : IsPlain l (enter_copy n (overwrite_script l n g h))
      copy = plain_do l (Add (Clock n) 1) (λ t. and_then (overwrite_script l n g h) (λ _. End t)) n_in (λ t. plain_and_then l (overwrite_script l n g h) (λ _. End t) (overwrite_plain l n g h n_in g_in h_in) (λ _. plain_end l t))

pub enter_gets : EnterGets
enter_gets l n g h ws n_in g_in h_in long = gets l n g h n_in g_in h_in ws long (eqb_tells n h)

pub enter_leaves : EnterLeavesTheUnnamed
enter_leaves l n g h n_in g_in h_in = leaves_unnamed l (enter_script l n g h) (plain l n g h n_in g_in h_in)

first_at : (n g : ℕ) (copy : Overwrite) (at : At) → (is_open (copy_at n copy at) ≡ true) ⊎ (copied_at at ≡ true) → enter_at n g copy at ≡ and_then (copy_at n copy at) (λ t. enter_tail n g t)
first_at n g copy Draw h = refl
first_at n g copy (Copy t) h = refl
first_at n g copy (Stamp t) h = refl
first_at n g copy Last (inl h) = absurd (cc h)
first_at n g copy Last (inr h) = absurd (cc h)
first_at n g copy Over (inl h) = absurd (cc h)
first_at n g copy Over (inr h) = absurd (cc h)

pub copy_first : CopyComesFirst
copy_first e h = first_at e.n e.g e.copy e.at h

pub enter_made : EnterCanBeMade
enter_made l n g h n_in g_in h_in = can_be_made l (enter_script l n g h) (plain l n g h n_in g_in h_in)
