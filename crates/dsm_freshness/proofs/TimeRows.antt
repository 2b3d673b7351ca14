-- Rows of a notice that is drained: its time is drawn and stored, and the processors of the node are flagged.
use Rattle.std.proofs.Common.{◌≡◌, ◌≢◌, ℕ, suc, ◌+◌, ◌*◌, ◌%◌, ◌^◌, ◌<◌, ◌≤◌, ◌==◌, Bool, true, false, [], ◌∷◌, refl, sym, ap, ◌∙◌, subst, arith, if◌then◌else◌}
use Rattle.std.specs.Prelude.{◌&&◌, bit_or}
use Rattle.std.specs.Int.{bit_at}
use Rattle.std.proofs.lemmas.Bool.{eq-eqb, eqb-true}
use Rattle.dsm_words.specs.declared.item.Item.TheVariants.{Notice, Clock, Own as OwnWord}
use Rattle.dsm_words.specs.Pages.{group_of}
use Rattle.dsm_words.specs.Script.{Act, Put, Add, Or}
use Rattle.dsm_words.specs.Words.{word, done}
use Rattle.dsm_protocol.specs.Own.{Own, node_of}
use Rattle.dsm_protocol.specs.Stages.{Hearing, Noticing, Flagging, Off}
use Rattle.dsm_protocol.specs.Rows.{draws_notice, notices, flags, flagged}
use Rattle.dsm_ties.specs.Tied.{has_bit}
use Rattle.dsm_ties.proofs.AcquireRows.{in_node}
use Rattle.dsm_fresh.specs.Pages.{Time, Notify, Flag, Flagged as All_flagged, Other_time, Other_notice, Other_flag, Tick, happens}
use Rattle.dsm_fresh.specs.Stages as S
use Rattle.dsm_freshness.specs.Views.{hand_of}
use Rattle.dsm_freshness.proofs.Words.{Scene, node, match_one, match_still, says_same, says, untouched, stage_kept, put_same, first, top}
use Rattle.dsm_freshness.proofs.AcquireRows.{past_it, at_it}
use Rattle.dsm_freshness.proofs.NoticeRows.{if_true, if_false, all_three, three, page_at, bit_is, or_same, or_other, put_at, rest_hand, rest_none, rest_past, rest_found, rest_next, not_free}
use Rattle.dsm_freshness.proofs.Frame as F

module _ (c : Scene) (o : Own) where
  abbrev IsFrom : ℕ → ℕ → Bool
  IsFrom j k = j == c.m && k == group_of c.g

  abbrev IsBit : ℕ → ℕ → Bool
  IsBit k b = k == group_of c.g && b == c.g % 64

  abbrev clock_act : Act
  clock_act = Add (Clock (node_of c.u)) 1

  abbrev notice_act : ℕ → ℕ → ℕ → Act
  notice_act k b t = Put (Notice (node_of c.u) (64 * k + b)) t

  abbrev flag_act : ℕ → ℕ → ℕ → Act
  flag_act k b q = Or (OwnWord q k) (2 ^ b)

  -- what is in hand: behind the drawing, for the page and its sender, for another sender, and for another page
  timed_view : (x j k bits b t : ℕ) → (64 * k + b == c.g) ≡ true → IsFrom j k ≡ true → hand_of c.m c.n c.g x (Off (Noticing j k bits b t)) ≡ S.Timed x t
  timed_view x j k bits b t e d = if_true (64 * k + b == c.g) (if IsFrom j k then S.Timed x t else S.Other t) (rest_hand c o x j k bits b) e ∙ if_true (IsFrom j k) (S.Timed x t) (S.Other t) d

  other_view : (x j k bits b t : ℕ) → (64 * k + b == c.g) ≡ true → IsFrom j k ≡ false → hand_of c.m c.n c.g x (Off (Noticing j k bits b t)) ≡ S.Other t
  other_view x j k bits b t e d = if_true (64 * k + b == c.g) (if IsFrom j k then S.Timed x t else S.Other t) (rest_hand c o x j k bits b) e ∙ if_false (IsFrom j k) (S.Timed x t) (S.Other t) d

  noticing_off : (x j k bits b t : ℕ) → (64 * k + b == c.g) ≡ false → hand_of c.m c.n c.g x (Off (Noticing j k bits b t)) ≡ rest_hand c o x j k bits b
  noticing_off x j k bits b t e = if_false (64 * k + b == c.g) (if IsFrom j k then S.Timed x t else S.Other t) (rest_hand c o x j k bits b) e

  -- behind the storing
  flags_view : (x j k bits b q : ℕ) → IsBit k b ≡ true → j ≡ c.m → hand_of c.m c.n c.g x (Off (Flagging j k bits b q)) ≡ S.Flags q
  flags_view x j k bits b q e d = if_true (IsBit k b) (if j == c.m then S.Flags q else S.Empty) (rest_hand c o x j k bits b) e ∙ if_true (j == c.m) (S.Flags q) S.Empty (eq-eqb j c.m d)

  flagging_other : (x j k bits b q : ℕ) → IsBit k b ≡ true → (j == c.m) ≡ false → hand_of c.m c.n c.g x (Off (Flagging j k bits b q)) ≡ S.Empty
  flagging_other x j k bits b q e d = if_true (IsBit k b) (if j == c.m then S.Flags q else S.Empty) (rest_hand c o x j k bits b) e ∙ if_false (j == c.m) (S.Flags q) S.Empty d

  flagging_off : (x j k bits b q : ℕ) → IsBit k b ≡ false → hand_of c.m c.n c.g x (Off (Flagging j k bits b q)) ≡ rest_hand c o x j k bits b
  flagging_off x j k bits b q e = if_false (IsBit k b) (if j == c.m then S.Flags q else S.Empty) (rest_hand c o x j k bits b) e

  -- a bit of the page's group is of its page
  bit_off : (k b : ℕ) → (64 * k + b == c.g) ≡ false → IsBit k b ≡ false
  bit_off k b off = F.not_both (λ d e. absurd (cc (sym (eq-eqb (64 * k + b) c.g (page_at k b c.g (eqb-true k (group_of c.g) d) (eqb-true b (c.g % 64) e))) ∙ off)))

  bit_on : (j k b : ℕ) → (64 * k + b == c.g) ≡ true → IsFrom j k ≡ true → IsBit k b ≡ true
  bit_on j k b e d = let z = F.both d in F.and_true z.1 (eq-eqb b (c.g % 64) (bit_is k b c.g (eqb-true (64 * k + b) c.g e) (eqb-true k (group_of c.g) z.1)))

  not_from : (j k b : ℕ) → IsBit k b ≡ true → IsFrom j k ≡ false → (j == c.m) ≡ false
  not_from j k b e d = F.not_true (λ z. absurd (cc (sym (F.and_true z (F.both e).0) ∙ d)))

  -- its bit is the page's
  bit_place : (k b : ℕ) → IsBit k b ≡ true → b ≡ c.g % 64
  bit_place k b i = eqb-true b (c.g % 64) (F.both {a = k == group_of c.g} {b = b == c.g % 64} i).1

  flag_set : (k b q : ℕ) → IsBit k b ≡ true → has_bit c.g (bit_or (word c.u.lay c.ws (OwnWord q k)) (2 ^ b)) ≡ true
  flag_set k b q i = subst (λ z. has_bit c.g (bit_or (word c.u.lay c.ws (OwnWord q k)) (2 ^ z)) ≡ true) (sym (bit_place k b i)) (or_same (word c.u.lay c.ws (OwnWord q k)) (c.g % 64))

  pub row_draws_notice : {j k bits b x : ℕ} (s : (bit_at bits b == 1) ≡ true) (j_in : j < c.u.lay.nodes) (page : 64 * k + b < c.u.lay.pages) → F.RowActs c o (draws_notice {j = j} {k = k} {bits = bits} {b = b} {x = x} s j_in page)
  row_draws_notice {j} {k} {bits} {b} {x} s j_in page f = F.only_if c (node_of c.u == c.n) (λ d. on (eqb-true (node_of c.u) c.n d)) (λ off. record {
    runs = tt;
    match = untouched c clock_act f.within (λ i. absurd (cc (sym (eq-eqb (node_of c.u) c.n i) ∙ off)));
    knows = F.off_same c {r = Hearing j k bits b} {t = Noticing j k bits b x} f.here.knows refl (λ e. absurd (cc (sym (eq-eqb (node_of c.u) c.n e) ∙ off))) (λ _ e. absurd (cc (sym (eq-eqb (node_of c.u) c.n e) ∙ off)));
  })
    where
      on : node_of c.u ≡ c.n → F.Acted c (Off (Noticing j k bits b x)) (done c.u.lay c.ws clock_act) ((if 64 * k + b == c.g then (if IsFrom j k then Time else Other_time) else Tick) ∷ [])
      on e = go (64 * k + b == c.g) refl
        where
          h : (y : ℕ) × (c.f.page.hand ≡ rest_hand c o y j k bits b)
          h = F.off_hand c f.here e refl

          time : x ≡ c.f.page.clock
          time = f.told ∙ says c (Clock (node_of c.u)) f.within e

          from : (d : Bool) → IsFrom j k ≡ d → (64 * k + b == c.g) ≡ true → F.Acted c (Off (Noticing j k bits b x)) (done c.u.lay c.ws clock_act) ((if d then Time else Other_time) ∷ [])
          from true d i = let z = F.both d in let is : b ≡ c.g % 64 = bit_is k b c.g (eqb-true (64 * k + b) c.g i) (eqb-true k (group_of c.g) z.1) in
              let found : c.f.page.hand ≡ S.Found h.0 = h.1 ∙ rest_found c o h.0 j k bits b (at_it b (c.g % 64) is) (eqb-true j c.m z.0) (eqb-true k (group_of c.g) z.1) (subst (λ y. (bit_at bits y == 1) ≡ true) is s) in
              record {
                runs = ((h.0, found), tt);
                match = match_one c Time c.match.worker (λ y. absurd (not_free c o f refl e y)) clock_act f.within e refl tt (F.clock_next c (node_of c.u) f.within e f);
                knows = F.off_knows c {r = Noticing j k bits b x} (happens (first c) c.f Time) (λ _. stage_kept (first c) c.f Time refl c.u.p ∙ F.off_stage c f.here e) (λ _ _. (h.0, ap (S.timed c.f.page.clock) found ∙ ap (S.Timed h.0) (sym time) ∙ sym (timed_view h.0 j k bits b x i d)));
              }
          from false d i = record {
            runs = (h.1 ∙ rest_none c o h.0 j k bits b d, tt);
            match = match_one c Other_time c.match.worker (λ y. absurd (not_free c o f refl e y)) clock_act f.within e refl tt (F.clock_next c (node_of c.u) f.within e f);
            knows = F.off_knows c {r = Noticing j k bits b x} (happens (first c) c.f Other_time) (λ _. stage_kept (first c) c.f Other_time refl c.u.p ∙ F.off_stage c f.here e) (λ _ _. (0, ap S.Other (sym time) ∙ sym (other_view 0 j k bits b x i d)));
          }

          go : (d : Bool) → (64 * k + b == c.g) ≡ d → F.Acted c (Off (Noticing j k bits b x)) (done c.u.lay c.ws clock_act) ((if d then (if IsFrom j k then Time else Other_time) else Tick) ∷ [])
          go true i = from (IsFrom j k) refl i
          go false i = F.ticks c f e (F.off_same c {r = Hearing j k bits b} {t = Noticing j k bits b x} f.here.knows refl (λ _. refl) (λ y _. sym (noticing_off y j k bits b x i)))

  pub row_notices : {j k bits b t x : ℕ} → F.RowActs c o (notices {j = j} {k = k} {bits = bits} {b = b} {t = t} {x = x})
  row_notices {j} {k} {bits} {b} {t} {x} f = F.only_if c (node_of c.u == c.n && 64 * k + b == c.g) (λ d. let z = F.both d in on (eqb-true (node_of c.u) c.n z.0) (IsFrom j k) refl z.1) off
    where
      off : (node_of c.u == c.n && 64 * k + b == c.g) ≡ false → F.Acted c (Off (Flagging j k bits b (node_of c.u * c.u.lay.procs))) (done c.u.lay c.ws (notice_act k b t)) []
      off d = record {
        runs = tt;
        match = untouched c (notice_act k b t) f.within (λ i. absurd (cc (sym (F.and_true (eq-eqb (node_of c.u) c.n i.0) (eq-eqb (64 * k + b) c.g i.1)) ∙ d)));
        knows = F.off_same c {r = Noticing j k bits b t} {t = Flagging j k bits b (node_of c.u * c.u.lay.procs)} f.here.knows refl (λ _. refl) (λ y e. noticing_off y j k bits b t (no e) ∙ sym (flagging_off y j k bits b (node_of c.u * c.u.lay.procs) (bit_off k b (no e))));
      }
        where
          no : node_of c.u ≡ c.n → (64 * k + b == c.g) ≡ false
          no e = F.not_true (λ z. absurd (cc (sym (F.and_true (eq-eqb (node_of c.u) c.n e) z) ∙ d)))

      on : node_of c.u ≡ c.n → (d : Bool) → IsFrom j k ≡ d → (64 * k + b == c.g) ≡ true → F.Acted c (Off (Flagging j k bits b (node_of c.u * c.u.lay.procs))) (done c.u.lay c.ws (notice_act k b t)) ((if d then Notify else Other_notice) ∷ [])
      on e true d i = let h = F.off_hand c f.here e refl in let z = F.both d in let timed : c.f.page.hand ≡ S.Timed h.0 t = h.1 ∙ timed_view h.0 j k bits b t i d in
          record {
            runs = ((h.0, t, timed), tt);
            match = match_one c Notify c.match.worker (λ y. absurd (not_free c o f refl e y)) (notice_act k b t) f.within (e, eqb-true (64 * k + b) c.g i) refl tt (sym (ap S.hand_time timed));
            knows = F.off_knows c {r = Flagging j k bits b (node_of c.u * c.u.lay.procs)} (happens (first c) c.f Notify) (λ _. stage_kept (first c) c.f Notify refl c.u.p ∙ F.off_stage c f.here e) (λ _ _. (0, ap (λ y. S.Flags (y * c.u.lay.procs)) (sym e) ∙ sym (flags_view 0 j k bits b (node_of c.u * c.u.lay.procs) (bit_on j k b i d) (eqb-true j c.m z.0))));
          }
      on e false d i = let h = F.off_hand c f.here e refl in let has : c.f.page.hand ≡ S.Other t = h.1 ∙ other_view h.0 j k bits b t i d in
          record {
            runs = ((t, has), tt);
            match = match_one c Other_notice c.match.worker (λ y. absurd (not_free c o f refl e y)) (notice_act k b t) f.within (e, eqb-true (64 * k + b) c.g i) refl tt (sym (ap S.hand_time has));
            knows = F.off_knows c {r = Flagging j k bits b (node_of c.u * c.u.lay.procs)} (happens (first c) c.f Other_notice) (λ _. stage_kept (first c) c.f Other_notice refl c.u.p ∙ F.off_stage c f.here e) (λ _ _. (0, sym (none (IsBit k b) refl)));
          }
        where
          none : (y : Bool) → IsBit k b ≡ y → hand_of c.m c.n c.g 0 (Off (Flagging j k bits b (node_of c.u * c.u.lay.procs))) ≡ S.Empty
          none true y = flagging_other 0 j k bits b (node_of c.u * c.u.lay.procs) y (not_from j k b y d)
          none false y = flagging_off 0 j k bits b (node_of c.u * c.u.lay.procs) y ∙ rest_none c o 0 j k bits b d

  pub row_flags : {j k bits b q x : ℕ} (s : (bit_at bits b == 1) ≡ true) (lo : node_of c.u * c.u.lay.procs ≤ q) (hi : q < node_of c.u * c.u.lay.procs + c.u.lay.procs) → F.RowActs c o (flags {j = j} {k = k} {bits = bits} {b = b} {q = q} {x = x} s lo hi)
  row_flags {j} {k} {bits} {b} {q} {x} s lo hi f = F.only_if c (node_of c.u == c.n && IsBit k b) (λ d. let z = F.both d in on (eqb-true (node_of c.u) c.n z.0) (j == c.m) refl z.1) off
    where
      own : node c q ≡ node_of c.u
      own = in_node c.u.lay.procs (node_of c.u) q lo hi

      off : (node_of c.u == c.n && IsBit k b) ≡ false → F.Acted c (Off (Flagging j k bits b (q + 1))) (done c.u.lay c.ws (flag_act k b q)) []
      off d = record {
        runs = tt;
        match = says_same c (flag_act k b q) f.within (λ i. or_other (word c.u.lay c.ws (OwnWord q k)) b (c.g % 64) (apart i) ∙ says c (OwnWord q k) f.within i);
        knows = F.off_same c {r = Flagging j k bits b q} {t = Flagging j k bits b (q + 1)} f.here.knows refl (λ _. refl) (λ y e. flagging_off y j k bits b q (no e) ∙ sym (flagging_off y j k bits b (q + 1) (no e)));
      }
        where
          no : node_of c.u ≡ c.n → IsBit k b ≡ false
          no e = F.not_true (λ z. absurd (cc (sym (F.and_true (eq-eqb (node_of c.u) c.n e) z) ∙ d)))

          apart : (node c q ≡ c.n) × (k ≡ group_of c.g) → c.g % 64 ≢ b
          apart i z = absurd (cc (sym (F.and_true (eq-eqb k (group_of c.g) i.1) (eq-eqb b (c.g % 64) (sym z))) ∙ no (sym own ∙ i.0)))

      on : node_of c.u ≡ c.n → (d : Bool) → (j == c.m) ≡ d → IsBit k b ≡ true → F.Acted c (Off (Flagging j k bits b (q + 1))) (done c.u.lay c.ws (flag_act k b q)) ((if d then Flag else Other_flag q) ∷ [])
      on e true d i = let h = F.off_hand c f.here e refl in let has : c.f.page.hand ≡ S.Flags q = h.1 ∙ flags_view h.0 j k bits b q i (eqb-true j c.m d) in let up : q + 1 ≡ suc q = omega arith in
          record {
            runs = ((q, has), tt);
            match = match_one c Flag c.match.worker (λ y. absurd (not_free c o f refl e y)) (flag_act k b q) f.within (own ∙ e, eqb-true k (group_of c.g) (F.both i).0) refl (sym (ap S.flag_at has)) (flag_set k b q i ∙ sym (ap (λ z. z.own) (put_at c.f.processors (S.flag_at c.f.page.hand) _ q (sym (ap S.flag_at has)))));
            knows = F.off_knows c {r = Flagging j k bits b (q + 1)} (happens (first c) c.f Flag) (λ _. stage_kept (first c) c.f Flag refl c.u.p ∙ F.off_stage c f.here e) (λ _ _. (0, ap (λ z. S.Flags (suc (S.flag_at z))) has ∙ ap S.Flags (sym up) ∙ sym (flags_view 0 j k bits b (q + 1) i (eqb-true j c.m d))));
          }
      on e false d i = let h = F.off_hand c f.here e refl in
          record {
            runs = (tt, tt);
            match = match_one c (Other_flag q) c.match.worker c.match.drainer (flag_act k b q) f.within (own ∙ e, eqb-true k (group_of c.g) (F.both i).0) refl refl (flag_set k b q i ∙ sym (ap (λ z. z.own) (put_same c.f.processors q _)));
            knows = F.off_knows c {r = Flagging j k bits b (q + 1)} (happens (first c) c.f (Other_flag q)) (λ _. stage_kept (first c) c.f (Other_flag q) refl c.u.p ∙ F.off_stage c f.here e) (λ _ _. (h.0, h.1 ∙ flagging_other h.0 j k bits b q i d ∙ sym (flagging_other h.0 j k bits b (q + 1) i d)));
          }

  -- all processors are flagged
  pub slip_flagged : {j k bits b : ℕ} → F.SlipActs c o (flagged {j = j} {k = k} {bits = bits} {b = b})
  slip_flagged {j} {k} {bits} {b} own f = F.only_if c (node_of c.u == c.n && IsBit k b && j == c.m) (λ d. let z = three (node_of c.u == c.n) (IsBit k b) (j == c.m) d in on (eqb-true (node_of c.u) c.n z.0) z.1 (eqb-true j c.m z.2)) off
    where
      -- its bit is passed
      past : IsBit k b ≡ true → (x : ℕ) → rest_hand c o x j k bits (b + 1) ≡ S.Empty
      past i x = rest_past c o x j k bits (b + 1) (past_it b (c.g % 64) (bit_place k b i))

      off : (node_of c.u == c.n && IsBit k b && j == c.m) ≡ false → F.Acted c (Off (Hearing j k bits (b + 1))) c.ws []
      off d = record { runs = tt; match = c.match; knows = F.off_same c {r = Flagging j k bits b (node_of c.u * c.u.lay.procs + c.u.lay.procs)} {t = Hearing j k bits (b + 1)} f.knows refl (λ _. refl) (λ y e. same y e (IsBit k b) refl) }
        where
          same : (y : ℕ) → node_of c.u ≡ c.n → (z : Bool) → IsBit k b ≡ z → hand_of c.m c.n c.g y (Off (Flagging j k bits b (node_of c.u * c.u.lay.procs + c.u.lay.procs))) ≡ rest_hand c o y j k bits (b + 1)
          same y e true i = flagging_other y j k bits b (node_of c.u * c.u.lay.procs + c.u.lay.procs) i (F.not_true (λ z. absurd (cc (sym (all_three (eq-eqb (node_of c.u) c.n e) i z) ∙ d)))) ∙ sym (past i y)
          same y e false i = flagging_off y j k bits b (node_of c.u * c.u.lay.procs + c.u.lay.procs) i ∙ rest_next c o y j k bits b i

      on : node_of c.u ≡ c.n → IsBit k b ≡ true → j ≡ c.m → F.Acted c (Off (Hearing j k bits (b + 1))) c.ws (All_flagged ∷ [])
      on e i d = let h = F.off_hand c f e refl in let has : c.f.page.hand ≡ S.Flags (node_of c.u * c.u.lay.procs + c.u.lay.procs) = h.1 ∙ flags_view h.0 j k bits b (node_of c.u * c.u.lay.procs + c.u.lay.procs) i d in
          record {
            runs = ((node_of c.u * c.u.lay.procs + c.u.lay.procs, has, last e), tt);
            match = match_still c All_flagged c.match.worker (λ _. refl) refl;
            knows = F.off_knows c {r = Hearing j k bits (b + 1)} (happens (first c) c.f All_flagged) (λ _. stage_kept (first c) c.f All_flagged refl c.u.p ∙ F.off_stage c f e) (λ _ _. (0, sym (past i 0)));
          }
        where
          last : node_of c.u ≡ c.n → top c ≤ node_of c.u * c.u.lay.procs + c.u.lay.procs
          last e = subst (λ z. z * c.u.lay.procs + c.u.lay.procs ≤ node_of c.u * c.u.lay.procs + c.u.lay.procs) e (omega arith)
