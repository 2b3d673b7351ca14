-- A phase within a job.
use Rattle.std.proofs.Common.{◌≡◌, ℕ, Bool, true, false, List, None, refl, sym, ap, ◌∙◌, if◌then◌else◌, ◌==◌}
use Rattle.dsm_isa.specs.declared.instr.Instr.{Instr}
use Rattle.dsm_words.specs.declared.turn.Turn.{Turn}
use Rattle.dsm_words.specs.declared.turn.Turn.TheVariants.{More}
use Rattle.dsm_words.specs.Script.{Script, End, Do, Until, is_open, first, step, turn_of}
use Rattle.dsm_notice.specs.declared.post.Post.{Post}
use Rattle.dsm_notice.specs.declared.post.PostPoint.{PostPoint}
use Rattle.dsm_notice.specs.declared.post.PostPoint.TheVariants.{Dir as AtDir, Global as AtGlobal, Over as PostOver}
use Rattle.dsm_notice.specs.Posting.{is_or}
use Rattle.dsm_notice.specs.Rests.{post_at, post_rest}
use Rattle.dsm_incoming.specs.declared.merge.Merge.{Merge as MergePhase}
use Rattle.dsm_incoming.specs.declared.merge.Point.{Point as MergePoint}
use Rattle.dsm_incoming.specs.declared.merge.Point.TheVariants.{LoadMaster, LoadTwin, StoreFrame, StoreTwin, Over as Merged}
use Rattle.dsm_incoming.specs.declared.overwrite.Overwrite.{Overwrite as OverwritePhase}
use Rattle.dsm_incoming.specs.declared.overwrite.Point.{Point as OverwritePoint}
use Rattle.dsm_incoming.specs.declared.overwrite.Point.TheVariants.{Load, Store, Over as Overwritten}
use Rattle.dsm_incoming.specs.Getting.{merge_at, merge_rest, overwrite_at, overwrite_rest}
use Rattle.dsm_protocol.specs.Own.{Own, Who, Notices, counted}
use Rattle.dsm_protocol.specs.Jobs.{Job, Make, Again, Mark, Ask, Begin, Ended, Note, Moment, Happen, Began, call, call_noting, call_counting, first_act, job_after, end_of}
use Rattle.dsm_protocol.specs.Processors.{settled, going_on}
use Rattle.dsm_machine.specs.declared.outcome.Outcome.{Outcome}
use Rattle.dsm_machine.specs.declared.outcome.Outcome.TheVariants.{Nothing}
use Rattle.dsm_machine.specs.declared.any_phase.AnyPhase.{AnyPhase}
use Rattle.dsm_machine.specs.declared.any_phase.AnyPhase.TheVariants.{Draw, Stamp, Take, Give, SetMap, Sharers, MyDir, Holder, Register, Claim, Withdraw, FindHome, Leave}
use Rattle.dsm_machine.specs.declared.any_phase.AnyPhase.TheVariants.{HasTwin, MakeTwin, DropTwin, Post as PostPhase, Drain, TakeOwn, Stale, LastFlush, Flush, OpenMerge, Merge}
use Rattle.dsm_machine.specs.declared.any_phase.AnyPhase.TheVariants.{OpenOverwrite, Overwrite, Enter, Break, TakeNle, Lock, Look, Unlock, Arrive, SetFlag}
use Rattle.dsm_machine.specs.Phases.{phase_job, phase_open, noted, told, turned}

module _ {R : Type 0} where
  -- the operation of a phase comes first
  pub first_call : (s : Script R) (f : R → Job) → is_open s ≡ true → first_act (call s f) ≡ first s
  first_call (End r) f o = absurd (cc o)
  first_call (Do a k) f o = refl
  first_call (Until a w s) f o = refl

  pub first_noting : (n : Note) (s : Script R) (f : R → Job) → is_open s ≡ true → first_act (call_noting n s f) ≡ first s
  first_noting n (End r) f o = absurd (cc o)
  first_noting n (Do a k) f o = refl
  first_noting n (Until a w s) f o = refl

  pub first_counting : (s : Script R) (f : R → Job) → is_open s ≡ true → first_act (call_counting s f) ≡ first s
  first_counting (End r) f o = absurd (cc o)
  first_counting (Do a k) f o = refl
  first_counting (Until a w s) f o = refl

  after_call : (s : Script R) (f : R → Job) (x : ℕ) → is_open s ≡ true → job_after (call s f) x ≡ call (step s x) f
  after_call (End r) f x o = absurd (cc o)
  after_call (Do a k) f x o = refl
  after_call (Until a w s) f x o = go (x == w)
    where
      go : (b : Bool) → (if b then call s f else Again a w (call s f)) ≡ call (if b then s else Until a w s) f
      go true = refl
      go false = refl

  turned_call : (t : Script R) (w : R → Outcome) (f : Outcome → Job) → call t (λ r. f (w r)) ≡ turned (told w (turn_of t)) f (call t (λ r. f (w r)))
  turned_call (End r) w f = refl
  turned_call (Do a k) w f = refl
  turned_call (Until a v s) w f = refl

  turned_counting : (t : Script R) (w : R → Outcome) (f : Outcome → Job)
      → call_counting t (λ r. f (w r)) ≡ turned (told w (turn_of t)) f (call_counting t (λ r. f (w r)))
  turned_counting (End r) w f = refl
  turned_counting (Do a k) w f = refl
  turned_counting (Until a v s) w f = refl

  -- where the rest of a phase is t, the turn is out
  turned_out : (t : Script R) (w : R → Outcome) (f : Outcome → Job) (turn : Turn R) (out : Turn Outcome) → turn ≡ turn_of t → out ≡ told w turn
      → call t (λ r. f (w r)) ≡ turned out f (call t (λ r. f (w r)))
  turned_out t w f turn out m n =
      turned_call t w f ∙ ap (λ z. turned z f (call t (λ r. f (w r)))) (sym (n ∙ ap (told w) m))

  -- an answer within a phase
  pub call_turned : (s t : Script R) (w : R → Outcome) (o : Own) (f : Outcome → Job) (x : ℕ) (turn : Turn R) (out : Turn Outcome)
      → is_open s ≡ true → t ≡ step s x → turn ≡ turn_of t → out ≡ told w turn
      → settled o (job_after (call s (λ r. f (w r))) x) ≡ settled o (turned out f (call t (λ r. f (w r))))
  call_turned s t w o f x turn out live e m n =
      ap (settled o) (after_call s (λ r. f (w r)) x live ∙ (ap (λ y. call y (λ r. f (w r))) (sym e) ∙ turned_out t w f turn out m n))

  -- a phase that goes on has not ended
  pub more_open : (t : Script R) (w : R → Outcome) (turn : Turn R) (out : Turn Outcome)
      → turn ≡ turn_of t → out ≡ told w turn → out ≡ More
      → is_open t ≡ true
  more_open (End r) w turn out m n e = absurd (cc (sym e ∙ (n ∙ ap (told w) m)))
  more_open (Do a k) w turn out m n e = refl
  more_open (Until a v s) w turn out m n e = refl

-- where a notice is posted, it is counted
abbrev held_behind : Script ℕ → Own → Own
held_behind s o = if is_or (first s) then counted o Notices else o

after_posting : (p : Post) (at : PostPoint) (o : Own) (f : ℕ → Job) (x : ℕ) → is_open (post_at p at) ≡ true
    → settled o (job_after (call_counting (post_at p at) f) x) ≡ settled (held_behind (post_at p at) o) (call_counting (step (post_at p at) x) f)
after_posting p AtDir o f x live = refl
after_posting p AtGlobal o f x live = refl
after_posting p PostOver o f x live = absurd (cc live)

pub posted : (p : Post) (t : Script ℕ) (w : ℕ → Outcome) (o : Own) (f : Outcome → Job) (x : ℕ) (turn : Turn ℕ) (out : Turn Outcome)
    → is_open (post_rest p) ≡ true → t ≡ step (post_rest p) x → turn ≡ turn_of t → out ≡ told w turn
    → settled o (job_after (call_counting (post_rest p) (λ r. f (w r))) x) ≡ settled (held_behind (post_rest p) o) (turned out f (call_counting t (λ r. f (w r))))
posted p t w o f x turn out live e m n =
    let k : ℕ → Job = λ r. f (w r) in
    after_posting p p.at o k x live
    ∙ ap (settled (held_behind (post_rest p) o)) (ap (λ y. call_counting y k) (sym e) ∙ (turned_counting t w f ∙ ap (λ z. turned z f (call_counting t k)) (sym (n ∙ ap (told w) m))))

-- the note of a first operation changes nothing that is held
after_merging : (at : MergePoint) (n g h i k : ℕ) (d : Moment) (o : Own) (f : Unit {0} → Job) (x : ℕ) → is_open (merge_at n g h i k at) ≡ true
    → settled o (job_after (call_noting (Happen d) (merge_at n g h i k at) f) x) ≡ settled o (call (step (merge_at n g h i k at) x) f)
after_merging LoadMaster n g h i k d o f x live = refl
after_merging (LoadTwin v) n g h i k d o f x live = refl
after_merging (StoreFrame v) n g h i k d o f x live = refl
after_merging (StoreTwin v) n g h i k d o f x live = refl
after_merging Merged n g h i k d o f x live = absurd (cc live)

pub merge_opened : (p : AnyPhase) (n g : ℕ) (m q : MergePhase) (o : Own) (f : Outcome → Job) (x : ℕ) (turn : Turn (Unit {0})) (out : Turn Outcome)
    → p ≡ OpenMerge n g m → phase_open p ≡ true → merge_rest q ≡ step (merge_rest m) x → turn ≡ turn_of (merge_rest q) → out ≡ told (λ _. Nothing) turn
    → settled o (job_after (phase_job p f) x) ≡ settled (noted p o) (turned out f (phase_job (Merge q) f))
merge_opened p n g m q o f x turn out is live e d b =
    let k : Unit {0} → Job = λ _. f Nothing in
    let live' : is_open (merge_rest m) ≡ true = sym (ap phase_open is) ∙ live in
    ap (λ y. settled o (job_after (phase_job y f) x)) is ∙ (after_merging m.at _ _ _ _ _ (Began n g) o k x live'
    ∙ (ap (settled o) (ap (λ y. call y k) (sym e) ∙ turned_out (merge_rest q) (λ _. Nothing) f turn out d b)
    ∙ ap (λ y. settled (noted y o) (turned out f (phase_job (Merge q) f))) (sym is)))

after_overwriting : (at : OverwritePoint) (n g h i v k : ℕ) (d : Moment) (o : Own) (f : Unit {0} → Job) (x : ℕ) → is_open (overwrite_at n g h i v k at) ≡ true
    → settled o (job_after (call_noting (Happen d) (overwrite_at n g h i v k at) f) x) ≡ settled o (call (step (overwrite_at n g h i v k at) x) f)
after_overwriting Load n g h i v k d o f x live = refl
after_overwriting Store n g h i v k d o f x live = refl
after_overwriting Overwritten n g h i v k d o f x live = absurd (cc live)

pub overwrite_opened : (p : AnyPhase) (n g : ℕ) (m q : OverwritePhase) (o : Own) (f : Outcome → Job) (x : ℕ) (turn : Turn (Unit {0})) (out : Turn Outcome)
    → p ≡ OpenOverwrite n g m → phase_open p ≡ true
    → overwrite_rest q ≡ step (overwrite_rest m) x → turn ≡ turn_of (overwrite_rest q) → out ≡ told (λ _. Nothing) turn
    → settled o (job_after (phase_job p f) x) ≡ settled (noted p o) (turned out f (phase_job (Overwrite q) f))
overwrite_opened p n g m q o f x turn out is live e d b =
    let k : Unit {0} → Job = λ _. f Nothing in
    let live' : is_open (overwrite_rest m) ≡ true = sym (ap phase_open is) ∙ live in
    ap (λ y. settled o (job_after (phase_job y f) x)) is ∙ (after_overwriting m.at _ _ _ _ _ _ (Began n g) o k x live'
    ∙ (ap (settled o) (ap (λ y. call y k) (sym e) ∙ turned_out (overwrite_rest q) (λ _. Nothing) f turn out d b)
    ∙ ap (λ y. settled (noted y o) (turned out f (phase_job (Overwrite q) f))) (sym is)))

-- a job that is before an operation
abbrev acts : Job → Bool
acts (Make a k) = true
acts (Again a w j) = true
acts _ = false

module _ {R : Type 0} where
  acts_call : (s : Script R) (f : R → Job) → is_open s ≡ true → acts (call s f) ≡ true
  acts_call (End r) f live = absurd (cc live)
  acts_call (Do a k) f live = refl
  acts_call (Until a w s) f live = refl

  acts_noting : (n : Note) (s : Script R) (f : R → Job) → is_open s ≡ true → acts (call_noting n s f) ≡ true
  acts_noting n (End r) f live = absurd (cc live)
  acts_noting n (Do a k) f live = refl
  acts_noting n (Until a w s) f live = refl

  acts_counting : (s : Script R) (f : R → Job) → is_open s ≡ true → acts (call_counting s f) ≡ true
  acts_counting (End r) f live = absurd (cc live)
  acts_counting (Do a k) f live = refl
  acts_counting (Until a w s) f live = refl

acts_phase : (p : AnyPhase) (f : Outcome → Job) → phase_open p ≡ true → acts (phase_job p f) ≡ true
acts_phase (Draw x) f live = acts_call _ _ live
acts_phase (Stamp x) f live = acts_call _ _ live
acts_phase (Take x) f live = acts_call _ _ live
acts_phase (Give x) f live = acts_call _ _ live
acts_phase (SetMap x) f live = acts_call _ _ live
acts_phase (Sharers x) f live = acts_call _ _ live
acts_phase (MyDir x) f live = acts_call _ _ live
acts_phase (Holder x) f live = acts_call _ _ live
acts_phase (Register x) f live = acts_call _ _ live
acts_phase (Claim x) f live = acts_call _ _ live
acts_phase (Withdraw x) f live = acts_call _ _ live
acts_phase (FindHome x) f live = acts_call _ _ live
acts_phase (Leave x) f live = acts_call _ _ live
acts_phase (HasTwin x) f live = acts_call _ _ live
acts_phase (MakeTwin x) f live = acts_call _ _ live
acts_phase (DropTwin x) f live = acts_call _ _ live
acts_phase (PostPhase x) f live = acts_counting _ _ live
acts_phase (Drain x) f live = acts_call _ _ live
acts_phase (TakeOwn x) f live = acts_call _ _ live
acts_phase (Stale x) f live = acts_call _ _ live
acts_phase (LastFlush x) f live = acts_call _ _ live
acts_phase (Flush x) f live = acts_call _ _ live
acts_phase (OpenMerge n g x) f live = acts_noting _ _ _ live
acts_phase (Merge x) f live = acts_call _ _ live
acts_phase (OpenOverwrite n g x) f live = acts_noting _ _ _ live
acts_phase (Overwrite x) f live = acts_call _ _ live
acts_phase (Enter x) f live = acts_call _ _ live
acts_phase (Break x) f live = acts_call _ _ live
acts_phase (TakeNle x) f live = acts_call _ _ live
acts_phase (Lock x) f live = acts_call _ _ live
acts_phase (Look x) f live = acts_call _ _ live
acts_phase (Unlock x) f live = acts_call _ _ live
acts_phase (Arrive x) f live = acts_call _ _ live
acts_phase (SetFlag x) f live = acts_call _ _ live

settled_acts : (o : Own) (j : Job) → acts j ≡ true → settled o j ≡ record { own = o; todo = j }
settled_acts o (Make a k) h = refl
settled_acts o (Again a w j) h = refl
settled_acts o (Mark n j) h = absurd (cc h)
settled_acts o (Ask f) h = absurd (cc h)
settled_acts o (Begin d) h = absurd (cc h)
settled_acts o (Ended e) h = absurd (cc h)

going_acts : (u : Who) (code : List Instr) (o : Own) (j : Job) → acts j ≡ true → going_on u code (record { own = o; todo = j }) ≡ record { own = o; todo = j }
going_acts u code o (Make a k) h = refl
going_acts u code o (Again a w j) h = refl
going_acts u code o (Mark n j) h = absurd (cc h)
going_acts u code o (Ask f) h = absurd (cc h)
going_acts u code o (Begin d) h = absurd (cc h)
going_acts u code o (Ended e) h = absurd (cc h)

runs_acts : (j : Job) → acts j ≡ true → end_of j ≡ None
runs_acts (Make a k) h = refl
runs_acts (Again a w j) h = refl
runs_acts (Mark n j) h = refl
runs_acts (Ask f) h = refl
runs_acts (Begin d) h = refl
runs_acts (Ended e) h = absurd (cc h)

module _ (p : AnyPhase) (f : Outcome → Job) (live : phase_open p ≡ true) where
  -- a phase that has not ended is before an operation, so nothing else is done before that
  pub settled_phase : (o : Own) → settled o (phase_job p f) ≡ record { own = o; todo = phase_job p f }
  settled_phase o = settled_acts o (phase_job p f) (acts_phase p f live)

  -- no instruction begins,
  pub going_phase : (u : Who) (code : List Instr) (o : Own) → going_on u code (record { own = o; todo = phase_job p f }) ≡ record { own = o; todo = phase_job p f }
  going_phase u code o = going_acts u code o (phase_job p f) (acts_phase p f live)

  -- and no end has come
  pub runs_phase : end_of (phase_job p f) ≡ None
  runs_phase = runs_acts (phase_job p f) (acts_phase p f live)

-- for the code's proofs
pub ruleset first_acts = (first_call, first_noting, first_counting)

pub ruleset answers = (call_turned, posted, merge_opened, overwrite_opened, more_open)
