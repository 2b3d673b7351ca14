-- A trail goes on by decisions, an operation and notes of one processor, while the others stand where they stood.
use Rattle.std.proofs.Common.{◌≡◌, ◌≢◌, ◌⊎◌, inl, inr, ℕ, ◌+◌, ◌*◌, ◌<◌, false, List, [], ◌∷◌, ◌++◌, length, Option, None, Some, refl, sym, ap, ◌∙◌, subst, append_assoc}
use Rattle.std.specs.Prelude.{slice_index, ◌^◌, ◌↔◌}
use Rattle.std.proofs.lemmas.Bool.{cases_eq, eq-eqb, ne_eqb}
use Rattle.std.proofs.lemmas.List.{append-nil}
use Rattle.dsm_entry.specs.declared.entry.Entry.{Entry}
use Rattle.dsm_words.specs.declared.item.Item.TheVariants.{Map, Clock, Stop}
use Rattle.dsm_words.specs.Place.{IsWithin, total}
use Rattle.dsm_words.specs.Script.{Act, Change}
use Rattle.dsm_words.specs.Words.{word, done, reply}
use Rattle.dsm_clock.specs.declared.turns.TurnId.{TurnId}
use Rattle.dsm_clock.specs.Turns.{turn_item}
use Rattle.dsm_flat.proofs.History.{Log}
use Rattle.dsm_protocol.specs.Own.{Own, Who}
use Rattle.dsm_protocol.specs.Jobs.{Moment, Note, Append, Happen, own_after}
use Rattle.dsm_protocol.specs.Stages.{Work, Gone, turn_at}
use Rattle.dsm_protocol.specs.Rows.{Slip, Noted}
use Rattle.dsm_protocol.specs.Standing.{Path, Stay, Decides, Notes, Does}
use Rattle.dsm_protocol.proofs.Turning.{IsSettled, slip_settled, note_settled}
use Rattle.dsm_protocol.proofs.Moving.{path_settled}
use Rattle.dsm_runs.specs.Setups.{Setup, lay_in, who_at}
use Rattle.dsm_runs.specs.Clusters.{answer}
use Rattle.dsm_runs.proofs.Logs.{onto}
use Rattle.dsm_runs.proofs.Mappings.{IsSparing}
use Rattle.dsm_owners.specs.Acts.{put}
use Rattle.dsm_ties.specs.Views.{is_cleaned}
use Rattle.dsm_ties.proofs.Following.{slip_maps}
use Rattle.dsm_ties.proofs.KeptTurns.{slip_turn, note_turn, path_turn}
use Rattle.dsm_ties.proofs.Pacing.{note_moments, path_moments}
use Rattle.dsm_ties.proofs.Trails as T
use Rattle.dsm_ties.proofs.Trails.{Position, Piece, Fine, IsFair, IsQuiet, IsExact, Trail, Goes, is_noting, moments_of, log_in, piece_moments, piece_log}

-- what is put at a number is there, and the rest stays
pub put_same : {A : Type 0} (f : ℕ → A) (p : ℕ) (x : A) → put f p x p ≡ x
put_same f p x = rw (eq-eqb p p refl) refl

pub put_other : {A : Type 0} (f : ℕ → A) (p : ℕ) (x : A) (q : ℕ) → q ≢ p → put f p x q ≡ f q
put_other f p x q ne = rw (ne_eqb q p ne) refl

-- the entry of a note, where it appends one
abbrev note_entries : Note → List Entry
note_entries (Append e) = e ∷ []
note_entries i = []

-- it comes behind the trace
note_trace : (o : Own) (i : Note) → (own_after o i).trace ≡ o.trace ++ note_entries i
note_trace o (Append e) = refl
note_trace o i = sym (append-nil o.trace)

-- entries behind others come onto the log behind them
onto_append : (p : ℕ) (es fs : List Entry) (log : Log) → onto p (es ++ fs) log ≡ onto p fs (onto p es log)
onto_append p [] fs log = refl
onto_append p (e ∷ es) fs log = onto_append p es fs (record { p = p; e = e } ∷ log)

module _ (s : Setup) where
  -- these words, with who stands where and what each holds
  abbrev pub position : List ℕ → (ℕ → Work) → (ℕ → Own) → Position
  position ws works owns = record { words = ws; works = works; owns = owns }

  -- the words have the turn of a processor that stands at w, and a mapping that it stored is to be known
  pub record Stood (ws : List ℕ) (q : ℕ) (w : Work) : Type 0 where
    pub turns : (t : TurnId) → IsWithin (lay_in s) (turn_item t) → (word (lay_in s) ws (turn_item t) ≡ q + 1) ↔ (turn_at (who_at s q) w ≡ Some t)
    pub settled : IsSettled (who_at s q) w

  -- all words are there, and no clock is 0 or comes round
  pub record Ground (ws : List ℕ) : Type 0 where
    pub long : length ws ≡ total (lay_in s)
    pub clocks : (k : ℕ) → k < s.nodes → (word (lay_in s) ws (Clock k) ≢ 0) × (word (lay_in s) ws (Clock k) < 2 ^ 37)

  -- the words of q's mappings are those that it holds
  abbrev pub MapsAre : List ℕ → ℕ → Own → Type 0
  MapsAre ws q o = (g : ℕ) → g < s.program.shape.pages → word (lay_in s) ws (Map q g) ≡ slice_index o.maps g

  -- a piece that notes has the moment of its note, and its entry
  note_piece : (z : Position) (p : ℕ) {v : Work} (i : Note) (noted : Noted (who_at s p) None (z.works p) i v) → piece_moments s {z = z} (T.Notes {v = v} i noted) ≡ note_moments i
  note_piece z p (Happen d) noted = refl
  note_piece z p i noted = refl

  note_log : (z : Position) (p : ℕ) {v : Work} (i : Note) (noted : Noted (who_at s p) None (z.works p) i v) (log : Log) → piece_log s {z = z} p (T.Notes {v = v} i noted) log ≡ onto p (note_entries i) log
  note_log z p (Append e) noted log = refl
  note_log z p i noted log = refl

  -- a place with the same turn
  stood_at : {ws : List ℕ} {q : ℕ} {w v : Work} → Stood ws q w → turn_at (who_at s q) v ≡ turn_at (who_at s q) w → IsSettled (who_at s q) v → Stood ws q v
  stood_at {q = q} h same settled = record { turns = λ t i. (λ e. same ∙ (h.turns t i).0 e, λ e. (h.turns t i).1 (sym same ∙ e)); settled = settled }

  -- where decisions and notes lead
  pub path_stood : {ws : List ℕ} {q : ℕ} {w v : Work} {o o' : Own} → Path (who_at s q) w o v o' → Stood ws q w → Stood ws q v
  path_stood {q = q} path h = stood_at h (path_turn (who_at s q) path h.settled) (path_settled (who_at s q) path h.settled)

  -- what one processor does from a position on, where the others stand and hold this, and it has this trace
  module _ (p : ℕ) (p_in : p < s.nodes * s.procs) (works0 : ℕ → Work) (owns0 : ℕ → Own) (trace0 : List Entry) (log0 : Log) (sure : Type 0) where
    abbrev u : Who
    u = who_at s p

    -- the words have the turns of the others, and none of them is amid its notes
    abbrev pub Others : List ℕ → Type 0
    Others ws = (q : ℕ) → q < s.nodes * s.procs → q ≢ p → Stood ws q (works0 q) × (is_noting (who_at s q) (works0 q) ≡ false)

    -- a trail has led on to a position where it stands at w and holds o
    pub record Along (ws : List ℕ) (w : Work) (o : Own) (ms : List Moment) : Type 0 where
      pub works : ℕ → Work
      pub owns : ℕ → Own
      pub trail : Trail s (position ws works owns)
      pub here : works p ≡ w
      pub holds : owns p ≡ o
      pub others_at : (q : ℕ) → q ≢ p → works q ≡ works0 q
      pub others_hold : (q : ℕ) → q ≢ p → owns q ≡ owns0 q
      pub moments : moments_of s trail ≡ ms
      pub es : List Entry
      pub trace : o.trace ≡ trace0 ++ es
      pub log : log_in s trail ≡ onto p es log0
      pub exact : sure → IsExact s trail

    module _ {ws : List ℕ} (ground : Ground ws) (others : Others ws) where
      -- they have the turns of all, and so the position is as it is to be
      each_stood : {w : Work} {o : Own} {ms : List Moment} → Stood ws p w → (k : Along ws w o ms) → (q : ℕ) → q < s.nodes * s.procs → Stood ws q (k.works q)
      each_stood h k q q_in = go (cases_eq q p)
        where
          go : (q ≡ p) ⊎ (q ≢ p) → Stood ws q (k.works q)
          go (inl e) = subst (λ y. Stood ws y (k.works y)) (sym e) (subst (λ y. Stood ws p y) (sym k.here) h)
          go (inr ne) = subst (λ y. Stood ws q y) (sym (k.others_at q ne)) (others q q_in ne).0

      fine_of : {w : Work} {o : Own} {ms : List Moment} → Stood ws p w → (k : Along ws w o ms) → Fine s (position ws k.works k.owns)
      fine_of h k = record { long = ground.long; clocks = ground.clocks; turns = λ q t q_in i. (each_stood h k q q_in).turns t i; settled = λ q q_in. (each_stood h k q q_in).settled }

      -- and none of the others is amid its notes
      quiet_of : {w : Work} {o : Own} {ms : List Moment} (k : Along ws w o ms) → IsQuiet s (position ws k.works k.owns) p
      quiet_of k q ne q_in = subst (λ y. is_noting (who_at s q) y ≡ false) (sym (k.others_at q ne)) (others q q_in ne).1

      -- it decides
      decide : {w v : Work} {o : Own} {ms : List Moment} → Stood ws p w → MapsAre ws p o → Slip u o.maps o.dirty w v → Along ws w o ms → Along ws v o ms
      decide {w} {v} {o} h maps slip k =
          record {
            works = put k.works p v;
            owns = k.owns;
            trail = Goes k.trail p p_in (fine_of h k) (T.Decides (subst (λ y. Slip u y.maps y.dirty (k.works p) v) (sym k.holds) (subst (λ y. Slip u o.maps o.dirty y v) (sym k.here) slip))) (λ g g_in. maps g g_in ∙ ap (λ y. slice_index y.maps g) (sym k.holds)) (quiet_of k);
            here = put_same k.works p v;
            holds = k.holds;
            others_at = λ q ne. put_other k.works p v q ne ∙ k.others_at q ne;
            others_hold = k.others_hold;
            moments = append-nil _ ∙ k.moments;
            es = k.es;
            trace = k.trace;
            log = k.log;
            exact = λ h. (k.exact h, tt);
          }

      -- it notes something
      note : {w v : Work} {o : Own} {ms : List Moment} (i : Note) → Stood ws p w → Noted u None w i v → Along ws w o ms → Along ws v (own_after o i) (ms ++ note_moments i)
      note {w} {v} {o} {ms} i h noted k =
          let noted' : Noted u None (k.works p) i v = subst (λ y. Noted u None y i v) (sym k.here) noted in
          record {
            works = put k.works p v;
            owns = put k.owns p (own_after (k.owns p) i);
            trail = Goes k.trail p p_in (fine_of h k) (T.Notes i noted') tt (quiet_of k);
            here = put_same k.works p v;
            holds = put_same k.owns p (own_after (k.owns p) i) ∙ ap (λ y. own_after y i) k.holds;
            others_at = λ q ne. put_other k.works p v q ne ∙ k.others_at q ne;
            others_hold = λ q ne. put_other k.owns p (own_after (k.owns p) i) q ne ∙ k.others_hold q ne;
            moments = ap (λ y. moments_of s k.trail ++ y) (note_piece (position ws k.works k.owns) p i noted') ∙ ap (λ y. y ++ note_moments i) k.moments;
            es = k.es ++ note_entries i;
            trace = note_trace o i ∙ ap (λ y. y ++ note_entries i) k.trace ∙ append_assoc trace0 k.es (note_entries i);
            log = note_log (position ws k.works k.owns) p i noted' (log_in s k.trail) ∙ ap (onto p (note_entries i)) k.log ∙ sym (onto_append p k.es (note_entries i) log0);
            exact = λ h. (k.exact h, tt);
          }

      -- it makes an operation and gets its answer
      pub act : {w v : Work} {o : Own} {ms : List Moment} {a : Act} (any : Option ℕ) → (sure → any ≡ None) → Stood ws p w → MapsAre ws p o → IsSparing u a → Does u o w a (answer any a (reply (lay_in s) ws a)) v → Along ws w o ms → Along (done (lay_in s) ws a) v o ms
      act {w} {v} {o} {a = a} any is_sure h maps spares does k =
          record {
            works = put k.works p v;
            owns = k.owns;
            trail = Goes k.trail p p_in (fine_of h k) (T.Acts any (subst (λ y. Does u y (k.works p) a (answer any a (reply (lay_in s) ws a)) v) (sym k.holds) (subst (λ y. Does u o y a (answer any a (reply (lay_in s) ws a)) v) (sym k.here) does))) (λ g g_in. maps g g_in ∙ ap (λ y. slice_index y.maps g) (sym k.holds), spares) (quiet_of k);
            here = put_same k.works p v;
            holds = k.holds;
            others_at = λ q ne. put_other k.works p v q ne ∙ k.others_at q ne;
            others_hold = k.others_hold;
            moments = append-nil _ ∙ k.moments;
            es = k.es;
            trace = k.trace;
            log = k.log;
            exact = λ h. (k.exact h, is_sure h);
          }

      -- it wants memory, and ends
      pub starve : {w : Work} {o : Own} {ms : List Moment} → Stood ws p w → turn_at u w ≡ None → ((g : ℕ) → is_cleaned w g ≡ false) → w ≢ Gone → is_noting u w ≡ false → Along ws w o ms → Along (done (lay_in s) ws (Change Stop 0 (p + 1))) Gone o ms
      starve {w} {o} h none clean lives rests k =
          record {
            works = put k.works p Gone;
            owns = put k.owns p o;
            trail = Goes k.trail p p_in (fine_of h k) (T.Starves o (ap (turn_at u) k.here ∙ none)) (λ g. ap (λ y. is_cleaned y g) k.here ∙ clean g, λ e. lives (sym k.here ∙ e), ap (λ y. y.dirty) (sym k.holds), ap (is_noting u) k.here ∙ rests) (quiet_of k);
            here = put_same k.works p Gone;
            holds = put_same k.owns p o;
            others_at = λ q ne. put_other k.works p Gone q ne ∙ k.others_at q ne;
            others_hold = λ q ne. put_other k.owns p o q ne ∙ k.others_hold q ne;
            moments = append-nil _ ∙ k.moments;
            es = k.es;
            trace = k.trace;
            log = k.log;
            exact = λ h. (k.exact h, tt);
          }

      -- decisions and notes, one behind the other
      pub walk : {w v : Work} {o o' : Own} {ms : List Moment} → (path : Path u w o v o') → Stood ws p w → MapsAre ws p o' → Along ws w o ms → Along ws v o' (ms ++ path_moments path)
      walk {w} {v} {o} {o'} {ms} Stay h maps k = subst (λ y. Along ws w o y) (sym (append-nil ms)) k
      walk {w} {v} {o} {o'} {ms} (Decides slip path) h maps k =
          let same = slip_maps u slip path in
          walk path (stood_at h (slip_turn u slip) (slip_settled u slip)) maps (decide h (λ g g_in. maps g g_in ∙ ap (λ y. slice_index y g) same) slip k)
      walk {w} {v} {o} {o'} {ms} (Notes i noted path) h maps k =
          let next = walk path (stood_at h (note_turn u noted h.settled) (note_settled u noted h.settled)) maps (note i h noted k) in
          subst (λ y. Along ws v o' y) (append_assoc ms (note_moments i) (path_moments path)) next
