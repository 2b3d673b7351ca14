-- Notes of a fetch: it begins, and it is over.
use Rattle.std.proofs.Common.{◌≡◌, ◌≢◌, ◌⊎◌, inl, inr, ℕ, suc, ◌*◌, ◌<◌, ◌==◌, Bool, true, false, List, [], ◌∷◌, ◌++◌, Option, Some, refl, sym, ap, ◌∙◌, subst, arith, if◌then◌else◌}
use Rattle.std.specs.Prelude.{map, ◌&&◌, not, max, nat_lt}
use Rattle.std.proofs.lemmas.Bool.{cases_eq, eq-eqb, ne_eqb}
use Rattle.dsm_words.specs.declared.item.Item.TheVariants.{Twined, Dir}
use Rattle.dsm_words.specs.Words.{word}
use Rattle.dsm_protocol.specs.Own.{Own, node_of}
use Rattle.dsm_protocol.specs.Stages.{Whole, First, Got, Stage, Filling, Filled, Copying, Copied, Round, On, stage_turn}
use Rattle.dsm_protocol.specs.Rows.{begins_copy, begins_fill, fetched, filled}
use Rattle.dsm_copies.specs.Modes.{Mode, Bare, Twinned, Merge_load, Merge_end, Overwrite_load, Overwrite_end, Enter_load, Enter_end, may_store, op_mode, op_fetched, op_master, op_frame, op_twin}
use Rattle.dsm_copies.specs.Copies as W
use Rattle.dsm_copies.specs.Counts.{count, op_sent, op_told, op_last_break, op_got}
use Rattle.dsm_owners.specs.Stages as O
use Rattle.dsm_fresh.specs.Pages as S
use Rattle.dsm_fresh.specs.Stages as F
use Rattle.dsm_freshness.specs.Events as FE
use Rattle.dsm_debts.specs.Page as P
use Rattle.dsm_debts.specs.Joining.{Move, At, Other, mode_track, Quiet, enters, has_flushed}
use Rattle.dsm_releases.specs.Events as R
use Rattle.dsm_twoway.specs.Views.{plain, mode_view, block}
use Rattle.dsm_twoway.specs.Events as E
use Rattle.dsm_twoway.specs.Events.{place_of}
use Rattle.dsm_twoway.specs.Tied.{IsAway, spot, rest_of, is_beginning, is_copied, HasCopied, Counted}
use Rattle.dsm_twoway.proofs.Modes.{store_plain, enters_plain, sent_plain, told_plain, broken_plain, got_plain}
use Rattle.dsm_twoway.proofs.Scene.{Scene, place, pages_left, fresh_left, NoteActs, Acted, Here}
use Rattle.dsm_twoway.proofs.Frame.{by_events, by_none, other_knows}
use Rattle.dsm_twoway.proofs.Ops.{put_same, put_other, put_what}
use Rattle.dsm_twoway.proofs.Blocks.{op_asks, place_away}
use Rattle.dsm_twoway.proofs.Standing.{away_by, node_at_turn, held_here, opened_here, dir_word, bare_rest, twin_rest}
use Rattle.dsm_twoway.proofs.Others.{op_left, op_behind, own_knows, other_op}
use Rattle.dsm_twoway.proofs.Beginning.{works_here}

-- it is the end of a fetch
abbrev is_end : Mode → Bool
is_end (Merge_end late) = true
is_end (Overwrite_end late) = true
is_end (Enter_end late) = true
is_end x = false

-- behind it its node has fetched,
end_fetched : (b : Bool) (x : Mode) → is_end (plain x) ≡ true → op_fetched b x ≡ true
end_fetched b (Merge_end late) e = refl
end_fetched b (Overwrite_end late) e = refl
end_fetched b (Enter_end late) e = refl
end_fetched b x e = absurd (cc e)

-- and has got what was sent when it began; it is no send
end_sent : (a : ℕ) (x : Mode) → is_end x ≡ true → op_sent a x ≡ a
end_sent a (Merge_end late) e = refl
end_sent a (Overwrite_end late) e = refl
end_sent a (Enter_end late) e = refl
end_sent a x e = absurd (cc e)

end_told : (a b : ℕ) (x : Mode) → is_end x ≡ true → op_told a b x ≡ b
end_told a b (Merge_end late) e = refl
end_told a b (Overwrite_end late) e = refl
end_told a b (Enter_end late) e = refl
end_told a b x e = absurd (cc e)

end_broken : (a b : ℕ) (x : Mode) → is_end x ≡ true → op_last_break a b x ≡ b
end_broken a b (Merge_end late) e = refl
end_broken a b (Overwrite_end late) e = refl
end_broken a b (Enter_end late) e = refl
end_broken a b x e = absurd (cc e)

end_got : (a b : ℕ) (x : Mode) → is_end x ≡ true → op_got a b x ≡ max b a
end_got a b (Merge_end late) e = refl
end_got a b (Overwrite_end late) e = refl
end_got a b (Enter_end late) e = refl
end_got a b x e = absurd (cc e)

-- an opened fetch has the number with which it was opened, or was open
opened_is : (b : Bool) (n : ℕ) (w : F.Work) (q e t : ℕ) (a : Bool) → F.opened b n w ≡ F.Open q a t e → (n ≡ e) ⊎ (w ≡ F.Open q a t e)
opened_is b n (F.Ready p u) q e t a d = inl (ap F.snap_of d)
opened_is b n w q e t a d = inr d

copied_shut : (w : F.Work) (q e t : ℕ) (a : Bool) → F.copied w ≡ F.Open q a t e → ⊥
copied_shut (F.Open p b u c) q e t a d = absurd (cc d)
copied_shut w q e t a d = absurd (cc d)

-- the state behind an event under a condition
happened : (first : ℕ) (f : S.State) (c : Bool) (ev : S.Event) → c ≡ true → S.after first f (FE.only c ev) ≡ S.happens first f ev
happened first f c ev e = rw e refl

not_happened : (first : ℕ) (f : S.State) (c : Bool) (ev : S.Event) → c ≡ false → S.after first f (FE.only c ev) ≡ f
not_happened first f c ev e = rw e refl

both : (a b : Bool) → a ≡ true → b ≡ true → (a && b) ≡ true
both a b p q = rw p q

neither : (a b : Bool) → (a ≡ false) ⊎ (b ≡ false) → (a && b) ≡ false
neither false b w = refl
neither true b (inl w) = absurd (cc w)
neither true b (inr w) = w

module _ (s : Scene) (k : ℕ) where
  -- an event of its own node's copy, as all senders see it
  abbrev own_event : S.Event → (m n : ℕ) → List S.Event
  own_event ev m n = FE.only (k == s.g && node_of s.u == n) ev

  mine : k ≡ s.g → (m n : ℕ) (ev : S.Event) → n ≡ node_of s.u → fresh_left s (own_event ev) m n ≡ S.happens (n * s.u.lay.procs) (s.fresh m n) ev
  mine d m n ev e = happened (n * s.u.lay.procs) (s.fresh m n) (k == s.g && node_of s.u == n) ev (both (k == s.g) (node_of s.u == n) (eq-eqb k s.g d) (eq-eqb (node_of s.u) n (sym e)))

  others : (m n : ℕ) (ev : S.Event) → (k ≢ s.g) ⊎ (n ≢ node_of s.u) → fresh_left s (own_event ev) m n ≡ s.fresh m n
  others m n ev w = not_happened (n * s.u.lay.procs) (s.fresh m n) (k == s.g && node_of s.u == n) ev (neither (k == s.g) (node_of s.u == n) (off w))
    where
      off : (k ≢ s.g) ⊎ (n ≢ node_of s.u) → ((k == s.g) ≡ false) ⊎ ((node_of s.u == n) ≡ false)
      off (inl ne) = inl (ne_eqb k s.g ne)
      off (inr ne) = inr (ne_eqb (node_of s.u) n (λ e. ne (sym e)))

  -- the numbers on another page
  off_counted : (ev : S.Event) → k ≢ s.g → Counted s.h s.u (fresh_left s (own_event ev)) s.c
  off_counted ev ne =
      let c = s.match.counted in
      record {
        sent_is = λ m n l w i. c.sent_is m n l w i ∙ sym (ap (λ (f : S.State). f.page.sent) (others m n ev (inl ne)));
        told_is = λ m n l w i. c.told_is m n l w i ∙ sym (ap (λ (f : S.State). f.page.told) (others m n ev (inl ne)));
        broken_is = λ m n l w i. c.broken_is m n l w i ∙ sym (ap (λ (f : S.State). f.page.broken) (others m n ev (inl ne)));
        got_is = λ m n l w i. c.got_is m n l w i ∙ sym (ap (λ (f : S.State). f.page.got) (others m n ev (inl ne)));
        known_is = λ m n q l w i q_in at. c.known_is m n q l w i q_in at ∙ sym (ap (λ (f : S.State). (f.processors q).known) (others m n ev (inl ne)));
        snap_is = λ m n q e t a l w i d. c.snap_is m n q e t a l w i (sym (ap (λ (f : S.State). f.page.work) (others m n ev (inl ne))) ∙ d);
        silent = c.silent;
      }

  -- the numbers where its fetch begins
  first_counted : (b : Bool) → k ≡ s.g → (IsAway s.h s.u (node_of s.u) → (m : ℕ) → m < s.u.lay.nodes → m ≢ node_of s.u → s.c.snap (node_of s.u) (spot s.h s.u m) ≡ (s.fresh m (node_of s.u)).page.sent) → Counted s.h s.u (fresh_left s (own_event (S.First s.u.p b))) s.c
  first_counted b d begins =
      let c = s.match.counted in
      record {
        sent_is = λ m n l w i. c.sent_is m n l w i ∙ sym (kept (λ f. f.page.sent) (λ first f. refl) m n);
        told_is = λ m n l w i. c.told_is m n l w i ∙ sym (kept (λ f. f.page.told) (λ first f. refl) m n);
        broken_is = λ m n l w i. c.broken_is m n l w i ∙ sym (kept (λ f. f.page.broken) (λ first f. refl) m n);
        got_is = λ m n l w i. c.got_is m n l w i ∙ sym (kept (λ f. f.page.got) (λ first f. refl) m n);
        known_is = λ m n q l w i q_in at. c.known_is m n q l w i q_in at ∙ sym (kept (λ f. (f.processors q).known) (λ first f. ap (λ (x : S.Processor). x.known) (put_what f.processors 0 (f.processors 0) refl q)) m n);
        snap_is = λ m n q e t a l w i z. snaps m n q e t a l w i z (cases_eq n (node_of s.u));
        silent = c.silent;
      }
    where
      kept : (sel : S.State → ℕ) → ((first : ℕ) (f : S.State) → sel (S.happens first f (S.First s.u.p b)) ≡ sel f) → (m n : ℕ) → sel (fresh_left s (own_event (S.First s.u.p b)) m n) ≡ sel (s.fresh m n)
      kept sel same m n = each (cases_eq n (node_of s.u))
        where
          each : (n ≡ node_of s.u) ⊎ (n ≢ node_of s.u) → sel (fresh_left s (own_event (S.First s.u.p b)) m n) ≡ sel (s.fresh m n)
          each (inl e) = ap sel (mine d m n (S.First s.u.p b) e) ∙ same (n * s.u.lay.procs) (s.fresh m n)
          each (inr ne) = ap sel (others m n (S.First s.u.p b) (inr ne))

      snaps : (m n q e t : ℕ) (a : Bool) → m < s.u.lay.nodes → m ≢ n → IsAway s.h s.u n → (fresh_left s (own_event (S.First s.u.p b)) m n).page.work ≡ F.Open q a t e → (n ≡ node_of s.u) ⊎ (n ≢ node_of s.u) → s.c.snap n (spot s.h s.u m) ≡ e
      snaps m n q e t a l w i z (inr ne) = s.match.counted.snap_is m n q e t a l w i (sym (ap (λ (f : S.State). f.page.work) (others m n (S.First s.u.p b) (inr ne))) ∙ z)
      snaps m n q e t a l w i z (inl is) = pick (opened_is b (s.fresh m n).page.sent (s.fresh m n).page.work q e t a (sym (ap (λ (f : S.State). f.page.work) (mine d m n (S.First s.u.p b) is)) ∙ z))
        where
          now : s.c.snap n (spot s.h s.u m) ≡ (s.fresh m n).page.sent
          now = subst (λ j. s.c.snap j (spot s.h s.u m) ≡ (s.fresh m j).page.sent) (sym is) (begins (subst (IsAway s.h s.u) is i) m l (λ x. w (x ∙ sym is)))

          pick : ((s.fresh m n).page.sent ≡ e) ⊎ ((s.fresh m n).page.work ≡ F.Open q a t e) → s.c.snap n (spot s.h s.u m) ≡ e
          pick (inl x) = now ∙ x
          pick (inr x) = s.match.counted.snap_is m n q e t a l w i x

  -- the numbers where it ends
  last_counted : (v : Mode) → k ≡ s.g → plain (s.x.nodes (node_of s.u)).mode ≡ v → is_end v ≡ true → ((m : ℕ) → m < s.u.lay.nodes → m ≢ node_of s.u → IsAway s.h s.u (node_of s.u) → (a : Bool) × (t : ℕ) × (e : ℕ) × ((s.fresh m (node_of s.u)).page.work ≡ F.Open s.u.p a t e))
      → Counted s.h s.u (fresh_left s (own_event (S.Last s.u.p))) (count s.x (W.Op (node_of s.u)) s.c)
  last_counted v d is end opens =
      let c = s.match.counted in
      record {
        sent_is = λ m n l w i. sent (spot s.h s.u m) ∙ c.sent_is m n l w i ∙ sym (kept (λ f. f.page.sent) (λ first f. refl) m n);
        told_is = λ m n l w i. told' (spot s.h s.u m) ∙ c.told_is m n l w i ∙ sym (kept (λ f. f.page.told) (λ first f. refl) m n);
        broken_is = λ m n l w i. broken (spot s.h s.u m) ∙ c.broken_is m n l w i ∙ sym (kept (λ f. f.page.broken) (λ first f. refl) m n);
        got_is = λ m n l w i. got m n l w i (cases_eq n (node_of s.u));
        known_is = λ m n q l w i q_in at. c.known_is m n q l w i q_in at ∙ sym (kept (λ f. (f.processors q).known) (λ first f. ap (λ (x : S.Processor). x.known) (put_what f.processors 0 (f.processors 0) refl q)) m n);
        snap_is = λ m n q e t a l w i z. snaps m n q e t a l w i z (cases_eq n (node_of s.u));
        silent = λ j none. let z = c.silent j none in (told' j ∙ z.0, broken j ∙ z.1, λ q. z.2 q);
      }
    where
      sent : (j : ℕ) → (count s.x (W.Op (node_of s.u)) s.c).sent j ≡ s.c.sent j
      sent = put_what s.c.sent (suc (node_of s.u)) (op_sent (s.c.sent (suc (node_of s.u))) (s.x.nodes (node_of s.u)).mode) (sent_plain (s.c.sent (suc (node_of s.u))) (s.x.nodes (node_of s.u)).mode ∙ ap (op_sent (s.c.sent (suc (node_of s.u)))) is ∙ end_sent (s.c.sent (suc (node_of s.u))) v end)

      told' : (j : ℕ) → (count s.x (W.Op (node_of s.u)) s.c).told j ≡ s.c.told j
      told' = put_what s.c.told (suc (node_of s.u)) (op_told (s.c.sent (suc (node_of s.u))) (s.c.told (suc (node_of s.u))) (s.x.nodes (node_of s.u)).mode) (told_plain (s.c.sent (suc (node_of s.u))) (s.c.told (suc (node_of s.u))) (s.x.nodes (node_of s.u)).mode ∙ ap (op_told (s.c.sent (suc (node_of s.u))) (s.c.told (suc (node_of s.u)))) is ∙ end_told (s.c.sent (suc (node_of s.u))) (s.c.told (suc (node_of s.u))) v end)

      broken : (j : ℕ) → (count s.x (W.Op (node_of s.u)) s.c).broken j ≡ s.c.broken j
      broken = put_what s.c.broken (suc (node_of s.u)) (op_last_break (s.c.sent (suc (node_of s.u))) (s.c.broken (suc (node_of s.u))) (s.x.nodes (node_of s.u)).mode) (broken_plain (s.c.sent (suc (node_of s.u))) (s.c.broken (suc (node_of s.u))) (s.x.nodes (node_of s.u)).mode ∙ ap (op_last_break (s.c.sent (suc (node_of s.u))) (s.c.broken (suc (node_of s.u)))) is ∙ end_broken (s.c.sent (suc (node_of s.u))) (s.c.broken (suc (node_of s.u))) v end)

      kept : (sel : S.State → ℕ) → ((first : ℕ) (f : S.State) → sel (S.happens first f (S.Last s.u.p)) ≡ sel f) → (m n : ℕ) → sel (fresh_left s (own_event (S.Last s.u.p)) m n) ≡ sel (s.fresh m n)
      kept sel same m n = each (cases_eq n (node_of s.u))
        where
          each : (n ≡ node_of s.u) ⊎ (n ≢ node_of s.u) → sel (fresh_left s (own_event (S.Last s.u.p)) m n) ≡ sel (s.fresh m n)
          each (inl e) = ap sel (mine d m n (S.Last s.u.p) e) ∙ same (n * s.u.lay.procs) (s.fresh m n)
          each (inr ne) = ap sel (others m n (S.Last s.u.p) (inr ne))

      snaps : (m n q e t : ℕ) (a : Bool) → m < s.u.lay.nodes → m ≢ n → IsAway s.h s.u n → (fresh_left s (own_event (S.Last s.u.p)) m n).page.work ≡ F.Open q a t e → (n ≡ node_of s.u) ⊎ (n ≢ node_of s.u) → s.c.snap n (spot s.h s.u m) ≡ e
      snaps m n q e t a l w i z (inr ne) = s.match.counted.snap_is m n q e t a l w i (sym (ap (λ (f : S.State). f.page.work) (others m n (S.Last s.u.p) (inr ne))) ∙ z)
      snaps m n q e t a l w i z (inl at) = absurd (copied_shut (s.fresh m n).page.work q e t a (sym (ap (λ (f : S.State). f.page.work) (mine d m n (S.Last s.u.p) at)) ∙ z))

      own_got : (m : ℕ) → m < s.u.lay.nodes → m ≢ node_of s.u → IsAway s.h s.u (node_of s.u) → (count s.x (W.Op (node_of s.u)) s.c).got (node_of s.u) (spot s.h s.u m) ≡ max (s.fresh m (node_of s.u)).page.got (F.snap_of (s.fresh m (node_of s.u)).page.work)
      own_got m l w i =
          let j : ℕ = spot s.h s.u m in
          let n : ℕ = node_of s.u in
          let x : Mode = (s.x.nodes n).mode in
          let p = opens m l w i in
          let snap : s.c.snap n j ≡ F.snap_of (s.fresh m n).page.work = s.match.counted.snap_is m n s.u.p p.2 p.1 p.0 l w i p.3 ∙ sym (ap F.snap_of p.3) in
          ap (λ (f : ℕ → ℕ). f j) (put_same s.c.got n (λ q. op_got (s.c.snap n q) (s.c.got n q) x)) ∙ got_plain (s.c.snap n j) (s.c.got n j) x ∙ ap (op_got (s.c.snap n j) (s.c.got n j)) is ∙ end_got (s.c.snap n j) (s.c.got n j) v end
          ∙ (λ z. max (s.match.counted.got_is m n l w i z) (snap z))

      got : (m n : ℕ) → m < s.u.lay.nodes → m ≢ n → IsAway s.h s.u n → (n ≡ node_of s.u) ⊎ (n ≢ node_of s.u) → (count s.x (W.Op (node_of s.u)) s.c).got n (spot s.h s.u m) ≡ (fresh_left s (own_event (S.Last s.u.p)) m n).page.got
      got m n l w i (inl at) = (λ z. (count s.x (W.Op (node_of s.u)) s.c).got (at z) (spot s.h s.u m)) ∙ own_got m l (λ x. w (x ∙ sym at)) (subst (IsAway s.h s.u) at i) ∙ (λ z. max (s.fresh m (sym at z)).page.got (F.snap_of (s.fresh m (sym at z)).page.work)) ∙ sym (ap (λ (f : S.State). f.page.got) (mine d m n (S.Last s.u.p) at))
      got m n l w i (inr ne) = ap (λ (f : ℕ → ℕ). f (spot s.h s.u m)) (put_other s.c.got (node_of s.u) (λ q. op_got (s.c.snap (node_of s.u) q) (s.c.got (node_of s.u) q) (s.x.nodes (node_of s.u)).mode) n ne) ∙ s.match.counted.got_is m n l w i ∙ sym (ap (λ (f : S.State). f.page.got) (others m n (S.Last s.u.p) (inr ne)))

-- past its last word a block ends
pub block_over : (i e : ℕ) (b c d : Mode) → i < e → block i e b c d ≡ d
block_over i e b c d l = go (nat_lt e i) refl
  where
    go : (w : Bool) → nat_lt e i ≡ w → (if w then b else (if e == i then c else d)) ≡ d
    go true w = absurd (grind arith)
    go false w = rw (ne_eqb e i (λ z. absurd (omega (arith, z, l)))) refl

module _ (s : Scene) (o : Own) where
  -- a fetch is noted as begun
  begin_note : {r : Round} {k : ℕ} {z t : Stage} (b : Bool) → Here s (On r k z) o → stage_turn s.u k t ≡ stage_turn s.u k z → ((rest : Mode) (w w' : Bool) → mode_view s.i rest w' t ≡ mode_view s.i rest w z) → is_beginning z ≡ true → is_beginning t ≡ false
      → (k ≡ s.g → IsAway s.h s.u (node_of s.u) → is_copied t ≡ true → HasCopied t (s.x.nodes (node_of s.u)).fetched (word s.u.lay s.ws (Twined (node_of s.u) s.g))) → Acted s (On r k t) s.ws (own_event s k (S.First s.u.p b)) []
  begin_note {r} {k} {z} {t} b f tu same begins later copied = go (cases_eq k s.g)
    where
      es : (m n : ℕ) → List S.Event
      es = own_event s k (S.First s.u.p b)

      go : (k ≡ s.g) ⊎ (k ≢ s.g) → Acted s (On r k t) s.ws (own_event s k (S.First s.u.p b)) []
      go (inr ne) = by_none s {es = es} [] tt (record { words = s.match.words; counted = off_counted s k (S.First s.u.p b) ne }) (other_knows s s.ws (fresh_left s es) s.pages s.x s.c r k t ne)
      go (inl d) = by_none s {es = es} [] tt (record { words = s.match.words; counted = first_counted s k b d (λ away. f.knows.beginning away d begins) })
          (record {
            mode = λ j at tu' _. f.knows.mode j at (sym tu ∙ tu') d ∙ sym (same (rest_of s.h s.g s.i s.u s.ws j) (has_flushed (s.pages (Some j)).page.work) (has_flushed (s.pages (Some j)).page.work));
            copied = λ away d z. copied d away z;
            beginning = λ away d z. absurd (cc (sym later ∙ z));
          })

  pub note_begins_copy : {r : Round} {k h t v : ℕ} {write twin : Bool} → NoteActs s o (begins_copy {r = r} {g = k} {h = h} {t = t} {v = v} {write = write} {twin = twin})
  note_begins_copy {r} {k} {h} {t} {v} {write} {twin} f = begin_note {z = Copying write h t twin 0 (First v)} {t = Copying write h t twin 0 (Got v)} false f refl (λ rest w w'. same twin rest w w') refl refl (λ d away _. f.knows.copied away d refl)
    where
      same : (twin : Bool) (rest : Mode) (w w' : Bool) → mode_view s.i rest w' (Copying write h t twin 0 (Got v)) ≡ mode_view s.i rest w (Copying write h t twin 0 (First v))
      same true rest w w' = refl
      same false rest w w' = refl

  pub note_begins_fill : {r : Round} {k h t v : ℕ} → NoteActs s o (begins_fill {r = r} {g = k} {h = h} {t = t} {v = v})
  note_begins_fill {r} {k} {h} {t} {v} f = begin_note {z = Filling h t 0 (First v)} {t = Filling h t 0 (Got v)} true f refl (λ rest w w'. refl) refl refl (λ d away z. absurd (cc z))

  -- and as over: a copy,
  fetch_over : {r : Round} {k h t : ℕ} {write twin : Bool} (v : Mode) → Here s (On r k (Copying write h t twin s.u.lay.words Whole)) o → ((rest : Mode) (w : Bool) → mode_view s.i rest w (Copying write h t twin s.u.lay.words Whole) ≡ v) → is_end v ≡ true → mode_track v ≡ Quiet → enters v ≡ false
      → op_master s.x.master v ≡ s.x.master → op_frame (s.x.nodes (node_of s.u)).frame v ≡ (s.x.nodes (node_of s.u)).frame → op_twin (s.x.nodes (node_of s.u)).twin v ≡ (s.x.nodes (node_of s.u)).twin
      → (k ≡ s.g → IsAway s.h s.u (node_of s.u) → plain (s.x.nodes (node_of s.u)).mode ≡ v → plain (op_mode s.x.master 0 (s.x.nodes (node_of s.u)).frame (s.x.nodes (node_of s.u)).twin v) ≡ rest_of s.h s.g s.i s.u s.ws (node_of s.u))
      → Acted s (On r k (Copied write h t)) s.ws (own_event s k (S.Last s.u.p)) (map Other (E.only (k == s.g && not (node_of s.u == s.h)) (W.Op (node_of s.u))) ++ [])
  fetch_over {r} {k} {h} {t} {write} {twin} v f view end track enter m fr tw rests = go (cases_eq k s.g)
    where
      es : (m n : ℕ) → List S.Event
      es = own_event s k (S.Last s.u.p)

      goal : (c : Bool) → (k == s.g && not (node_of s.u == s.h)) ≡ c → Acted s (On r k (Copied write h t)) s.ws (own_event s k (S.Last s.u.p)) (map Other (E.only c (W.Op (node_of s.u))) ++ []) → Acted s (On r k (Copied write h t)) s.ws (own_event s k (S.Last s.u.p)) (map Other (E.only (k == s.g && not (node_of s.u == s.h)) (W.Op (node_of s.u))) ++ [])
      goal c e x = rw e x

      here : (a b : Bool) → a ≡ true → b ≡ false → (a && not b) ≡ true
      here a b p q = rw p (rw q refl)

      not_here : (a b : Bool) → a ≡ false → (a && not b) ≡ false
      not_here a b p = rw p refl

      away : k ≡ s.g → IsAway s.h s.u (node_of s.u)
      away d = let at = node_at_turn s f d (O.Opened write) refl refl in (s.at.node_in, away_by s (λ z. let w = at.0 in absurd (omega (arith, z, w))) at.1)

      is : k ≡ s.g → plain (s.x.nodes (node_of s.u)).mode ≡ v
      is d = opened_here s f d (away d).1 refl ∙ view (rest_of s.h s.g s.i s.u s.ws (node_of s.u)) (has_flushed (s.pages (Some (node_of s.u))).page.work)

      opens : k ≡ s.g → (m : ℕ) → m < s.u.lay.nodes → m ≢ node_of s.u → IsAway s.h s.u (node_of s.u) → (a : Bool) × (t : ℕ) × (e : ℕ) × ((s.fresh m (node_of s.u)).page.work ≡ F.Open s.u.p a t e)
      opens d m l ne i = let w = works_here s f d refl i m l ne in
          (false, t, w.0, w.1 ∙ ap (λ c. if c then F.Ready s.u.p t else F.Open s.u.p false t w.0) (ne_eqb s.u.lay.words 0 (λ z. let i = s.i_in in absurd (omega (arith, z, i)))))

      go : (k ≡ s.g) ⊎ (k ≢ s.g) → Acted s (On r k (Copied write h t)) s.ws (own_event s k (S.Last s.u.p)) (map Other (E.only (k == s.g && not (node_of s.u == s.h)) (W.Op (node_of s.u))) ++ [])
      go (inr ne) = goal false (not_here (k == s.g) (node_of s.u == s.h) (ne_eqb k s.g ne)) (by_none s {es = es} [] tt (record { words = s.match.words; counted = off_counted s k (S.Last s.u.p) ne }) (other_knows s s.ws (fresh_left s es) s.pages s.x s.c r k (Copied write h t) ne))
      go (inl d) = goal true (here (k == s.g) (node_of s.u == s.h) (eq-eqb k s.g d) (ne_eqb (node_of s.u) s.h (away d).1))
          (other_op s {t = Copied write h t} {ws' = s.ws} es v (is d) track enter
          (op_left s s.x (node_of s.u) v (is d) s.ws (λ it i p. refl) (away d) (held_here s f d (O.Opened write) refl refl) (λ j ne. refl) refl refl refl refl refl (λ w. w) m fr tw)
          (last_counted s k v d (is d) end (opens d)) refl (λ w. rests d (away d) (is d)) (λ at _. end_fetched (s.x.nodes (node_of s.u)).fetched (s.x.nodes (node_of s.u)).mode (ap is_end (is d) ∙ end)) refl)

  pub note_fetched : {r : Round} {k h t : ℕ} {write twin : Bool} → NoteActs s o (fetched {r = r} {g = k} {h = h} {t = t} {write = write} {twin = twin})
  note_fetched {r} {k} {h} {t} {write} {twin = true} f =
      fetch_over {h = h} {t = t} {write = write} {twin = true} (Merge_end false) f
      (λ rest w. ap (λ c. if c then Twinned else block s.i s.u.lay.words (Merge_load false) (Merge_load false) (Merge_end false)) (ne_eqb s.u.lay.words 0 (λ z. let i = s.i_in in absurd (omega (arith, z, i)))) ∙ block_over s.i s.u.lay.words (Merge_load false) (Merge_load false) (Merge_end false) s.i_in)
      refl refl refl refl refl refl
      (λ d away is. let at = node_at_turn s f d (O.Opened write) refl refl in
      sym (twin_rest (word s.u.lay s.ws (Dir (node_of s.u) s.g)) (word s.u.lay s.ws (Twined (node_of s.u) s.g)) (λ e. absurd (cc (sym e ∙ dir_word s 1 at.0))) (f.knows.copied away d refl refl)))
  note_fetched {r} {k} {h} {t} {write} {twin = false} f =
      fetch_over {h = h} {t = t} {write = write} {twin = false} (Overwrite_end false) f
      (λ rest w. ap (λ c. if c then Bare else block s.i s.u.lay.words (Overwrite_load false) (Overwrite_load false) (Overwrite_end false)) (ne_eqb s.u.lay.words 0 (λ z. let i = s.i_in in absurd (omega (arith, z, i)))) ∙ block_over s.i s.u.lay.words (Overwrite_load false) (Overwrite_load false) (Overwrite_end false) s.i_in)
      refl refl refl refl refl refl
      (λ d away is. let at = node_at_turn s f d (O.Opened write) refl refl in
      sym (bare_rest (word s.u.lay s.ws (Dir (node_of s.u) s.g)) (word s.u.lay s.ws (Twined (node_of s.u) s.g)) (λ e. absurd (cc (sym e ∙ dir_word s 1 at.0)))
      (λ e. absurd (cc (sym (store_plain (s.x.nodes (node_of s.u)).mode ∙ ap may_store is) ∙ (s.match.words.each (node_of s.u) away).rights (inl e))))))

  -- and that of entering exclusive use
  pub note_filled : {r : Round} {k h t : ℕ} → NoteActs s o (filled {r = r} {g = k} {h = h} {t = t})
  note_filled {r} {k} {h} {t} f = go (cases_eq k s.g)
    where
      es : (m n : ℕ) → List S.Event
      es = own_event s k (S.Last s.u.p)

      goal : (c : Bool) (l : Option ℕ) → (k == s.g && node_of s.u == node_of s.u) ≡ c → place_of s.h (node_of s.u) ≡ l → Acted s (On r k (Filled t)) s.ws (own_event s k (S.Last s.u.p)) (map (At l 0) (R.only c P.Enter)) → Acted s (On r k (Filled t)) s.ws (own_event s k (S.Last s.u.p)) (map (At (place_of s.h (node_of s.u)) 0) (R.only (k == s.g && node_of s.u == node_of s.u) P.Enter))
      goal c l e e' x = rw e (rw e' x)

      away : k ≡ s.g → IsAway s.h s.u (node_of s.u)
      away d = let at = node_at_turn s f d O.Copying refl refl in (s.at.node_in, away_by s (λ z. let w = at.0 in absurd (omega (arith, z, w))) at.3)

      is : k ≡ s.g → plain (s.x.nodes (node_of s.u)).mode ≡ Enter_end false
      is d = opened_here s f d (away d).1 refl ∙ ap (λ c. if c then Bare else block s.i s.u.lay.words (Enter_load false) (Enter_load false) (Enter_end false)) (ne_eqb s.u.lay.words 0 (λ z. let i = s.i_in in absurd (omega (arith, z, i)))) ∙ block_over s.i s.u.lay.words (Enter_load false) (Enter_load false) (Enter_end false) s.i_in

      opens : k ≡ s.g → (m : ℕ) → m < s.u.lay.nodes → m ≢ node_of s.u → IsAway s.h s.u (node_of s.u) → (a : Bool) × (t : ℕ) × (e : ℕ) × ((s.fresh m (node_of s.u)).page.work ≡ F.Open s.u.p a t e)
      opens d m l ne i = let w = works_here s f d refl i m l ne in
          (true, t, w.0, w.1 ∙ ap (λ c. if c then F.Ready s.u.p t else F.Open s.u.p true t w.0) (ne_eqb s.u.lay.words 0 (λ z. let i = s.i_in in absurd (omega (arith, z, i)))))

      go : (k ≡ s.g) ⊎ (k ≢ s.g) → Acted s (On r k (Filled t)) s.ws (own_event s k (S.Last s.u.p)) (map (At (place_of s.h (node_of s.u)) 0) (R.only (k == s.g && node_of s.u == node_of s.u) P.Enter))
      go (inr ne) = goal false (place_of s.h (node_of s.u)) (neither (k == s.g) (node_of s.u == node_of s.u) (inl (ne_eqb k s.g ne))) refl (by_none s {es = es} [] tt (record { words = s.match.words; counted = off_counted s k (S.Last s.u.p) ne }) (other_knows s s.ws (fresh_left s es) s.pages s.x s.c r k (Filled t) ne))
      go (inl d) = goal true (Some (node_of s.u)) (both (k == s.g) (node_of s.u == node_of s.u) (eq-eqb k s.g d) (eq-eqb (node_of s.u) (node_of s.u) refl)) (place_away s.h (node_of s.u) (away d).1)
          (let n : ℕ = node_of s.u in
          let ms : List Move = At (Some n) 0 P.Enter ∷ [] in
          by_events s {es = es} ms (W.Op n ∷ []) refl (enters_plain (s.x.nodes n).mode ∙ ap enters (is d), tt) ((λ p q. op_asks (place s) s.x s.c s.d n p), tt)
          (record {
            words = op_left s s.x n (Enter_end false) (is d) s.ws (λ it i p. refl) (away d) (held_here s f d O.Copying refl refl) (λ j ne. refl) refl refl refl refl refl (λ w. w) refl refl refl;
            counted = last_counted s k (Enter_end false) d (is d) refl (opens d);
          })
          (own_knows s s.ws (fresh_left s es) (pages_left s ms) (W.after_event (place s) s.x (W.Op n)) (count s.x (W.Op n) s.c) r k (Filled t) refl (λ b. op_behind s s.x n (Enter_end false) (is d))
          (λ at _. ap (λ (w : W.Node). w.fetched) (put_same s.x.nodes n (W.op_node s.x.master s.x.progress (s.x.nodes n))) ∙ end_fetched (s.x.nodes n).fetched (s.x.nodes n).mode (ap is_end (is d))) (λ at z. absurd (cc z))))
