-- What the top call read, and what it wrote.
use Rattle.std.specs.Prelude.{◌≡◌, ℕ, ◌≤◌, ◌⊎◌, List, length, codes, Option, None, Some}
use Rattle.std.specs.Io.KnownBytes.{Consumes, IsAtEnd}
use Rattle.dsm_isa.specs.ProgramText.{ProgramText}
use Rattle.dsm_grammar.specs.declared.fault.AsmKind.{AsmKind}
use Rattle.dsm_grammar.specs.Faults.{first_fault_of}
use Rattle.dsm_grammar.specs.Grammar.{program_of}
use Rattle.dsm_list.specs.Canonical.{canonical, shape_line}
use Rattle.dsm_gen.specs.Generated.{generated}
use Rattle.dsm_report.specs.Report.{IsReport}
use Rattle.dsm_report.specs.Summary.{summary}
use Rattle.dsm_runs.specs.Outcomes.{Ran}
use Rattle.dsm_io.specs.Faults.{Rose}
use Rattle.dsm_io.specs.Whole.{ConsumesSome}
use Rattle.dsm_top.specs.declared.plans.Plan.{Plan}
use Rattle.dsm_top.specs.declared.plans.Plan.TheVariants.{Check, List as Listing, Sim, Run, Gen}
use Rattle.dsm_top.specs.declared.reading.Unread.{Unread}
use Rattle.dsm_top.specs.declared.reading.Unread.TheVariants.{Fault, TooLong, Refused, NoMemory}
use Rattle.dsm_top.specs.Plans.{PlanOf}
use Rattle.dsm_top.specs.Run.{Runs, RunsInThreads, RunsBy}
use Rattle.dsm_top.specs.Streams.{Reading, Writing, WritesAll, WritesPrefix}
use Rattle.dsm_top.specs.Refusals.{refused_line, kind_name}

-- the text was read to the end of the source, and is no longer than 65,536 bytes
pub record ReadsText (r : Reading) (text : List ℕ) : Type 0 where
  pub read : Consumes r.left_before r.left_after text
  pub end : IsAtEnd r.left_after
  pub within : length text ≤ 65536

-- the text that was read has no fault, and stands for this program
pub record ReadsProgram (r : Reading) (p : ProgramText) : Type 0 where
  pub text : List ℕ
  pub reads : ReadsText r text
  pub accepted : first_fault_of text ≡ None
  pub stands : p ≡ program_of text

-- the text that was read has this first fault
pub record ReadsFault (r : Reading) (n : ℕ) (kind : AsmKind) : Type 0 where
  pub text : List ℕ
  pub reads : ReadsText r text
  pub refused : first_fault_of text ≡ Some (n, kind)

-- the text that was read is too long: 65,537 bytes were taken
abbrev pub ReadsTooMuch : Reading → Type 0
ReadsTooMuch r = ConsumesSome r.left_before r.left_after 65537

-- Why no program was read: a read failed, the text is too long, or it has this first fault. Want of memory comes only
-- where no read failed.
abbrev pub IsUnread : Reading → Unread → Type 0
IsUnread r Fault = Rose r.faults_before r.faults_after
IsUnread r TooLong = ReadsTooMuch r
IsUnread r (Refused f) = ReadsFault r f.line f.kind
IsUnread r NoMemory = r.faults_after ≡ r.faults_before

-- the text that was read is refused with this line: it is too long, or it has this first fault
abbrev pub RefusesText : Reading → List ℕ → Type 0
RefusesText r line =
    (ReadsTooMuch r × (line ≡ refused_line 0 (codes "TooLong")))
    ⊎ ((n : ℕ) × (kind : AsmKind) × ReadsFault r n kind × (line ≡ refused_line n (kind_name kind)))

-- the line was written, or a prefix of it where a call of the sink failed
abbrev pub WritesLine : Writing → List ℕ → Type 0
WritesLine w line = WritesAll w line ⊎ WritesPrefix w line

-- the text is refused with a line, which was written
abbrev pub RefusesAndWrites : Reading → Writing → Type 0
RefusesAndWrites r w = (line : List ℕ) × RefusesText r line × WritesLine w line

-- The program of a plan: that of the seed, or that which the text stands for that was read.
abbrev pub Takes : Plan → Reading → ProgramText → Type 0
Takes (Gen seed t limits steps threads) r p = p ≡ generated seed
Takes _ r p = ReadsProgram r p

-- The whole answer of a plan for a program, and what its run left where it is run.
abbrev pub Answers : Plan → ProgramText → Option Ran → List ℕ → Type 0
Answers Check p ran bytes = (ran ≡ None) × (bytes ≡ shape_line p)
Answers Listing p ran bytes = (ran ≡ None) × (bytes ≡ canonical p)
Answers (Sim t limits kind steps trace) p (Some ran) bytes = Runs t limits kind steps p ran × IsReport t p.shape ran trace bytes
Answers (Run t limits trace) p (Some ran) bytes = RunsInThreads t limits p ran × IsReport t p.shape ran trace bytes
Answers (Gen seed t limits steps threads) p (Some ran) bytes = RunsBy (Gen seed t limits steps threads) p ran × (bytes ≡ summary seed t p ran)
Answers (Sim t limits kind steps trace) p None bytes = ⊥
Answers (Run t limits trace) p None bytes = ⊥
Answers (Gen seed t limits steps threads) p None bytes = ⊥

-- the words ask for a plan, and this is the answer for its program
pub record Accepts (words : List (List ℕ)) (r : Reading) (ran : Option Ran) (bytes : List ℕ) : Type 0 where
  pub plan : Plan
  pub asked : PlanOf words plan
  pub program : ProgramText
  pub taken : Takes plan r program
  pub answers : Answers plan program ran bytes

-- the plan is to run a program
abbrev pub IsToRun : Plan → Type 0
IsToRun Check = ⊥
IsToRun Listing = ⊥
IsToRun (Sim t limits kind steps trace) = Unit {0}
IsToRun (Run t limits trace) = Unit {0}
IsToRun (Gen seed t limits steps threads) = Unit {0}

-- it is to run the program of a seed
abbrev pub IsToGenerate : Plan → Type 0
IsToGenerate (Gen seed t limits steps threads) = Unit {0}
IsToGenerate _ = ⊥

-- the words ask to run a program
abbrev pub AskToRun : List (List ℕ) → Type 0
AskToRun words = (plan : Plan) × PlanOf words plan × IsToRun plan

-- the words ask to run the program of a seed
abbrev pub AskToGenerate : List (List ℕ) → Type 0
AskToGenerate words = (plan : Plan) × PlanOf words plan × IsToGenerate plan

-- they ask to run a program, and this is what its run left
pub record HasRun (words : List (List ℕ)) (r : Reading) (ran : Ran) : Type 0 where
  pub plan : Plan
  pub asked : PlanOf words plan
  pub program : ProgramText
  pub taken : Takes plan r program
  pub runs : RunsBy plan program ran
