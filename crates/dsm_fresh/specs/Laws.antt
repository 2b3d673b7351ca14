-- The law of one page at one node. In each statement the node's processors are those from `first` on and below `top`.
use Rattle.std.specs.Prelude.{◌≡◌, ◌≢◌, ℕ, ◌<◌, ◌≤◌, Bool, true, List, ◌∷◌, ◌++◌}
use Rattle.dsm_fresh.specs.Stages.{Rest}
use Rattle.dsm_fresh.specs.Pages.{State, Event, First, Last, Pass, after, start}
use Rattle.dsm_fresh.specs.Premises.{Runs}

-- processor q maps the page; and is at rest
abbrev pub Maps : State → ℕ → Type 0
Maps s q = (s.processors q).mapped ≡ true

abbrev pub IsAtRest : State → ℕ → Type 0
IsAtRest s q = (s.processors q).stage ≡ Rest

-- A processor at rest that maps the page knows of no send that its node has not got: a fetch has finished that began behind that send's end.
abbrev pub Fresh : Type 0
Fresh =
    (first top : ℕ) (es : List Event) (q : ℕ)
    → let s = after first start es in
    Runs first top start es → IsAtRest s q → Maps s q → (s.processors q).known ≤ s.page.got

-- where a processor maps the page, its node is registered, has a copy, and has got the sender's last break
abbrev pub Usable : Type 0
Usable =
    (first top : ℕ) (es : List Event) (q : ℕ)
    → let s = after first start es in
    Runs first top start es → Maps s q → (s.page.dir ≢ 0) × (s.page.update ≢ 0) × (s.page.broken ≤ s.page.got)

-- an exclusive node has got every send
abbrev pub Alone : Type 0
Alone =
    (first top : ℕ) (es : List Event)
    → let s = after first start es in
    Runs first top start es → s.page.dir ≡ 2 → s.page.got ≡ s.page.sent

-- in the list a fetch begins behind the end of the k-th send, and is finished
abbrev pub Finished : (first k : ℕ) → List Event → Type 0
Finished first k es =
    (xs : List Event) × (i : ℕ) × (enters : Bool) × (ys : List Event) × (zs : List Event)
    × (es ≡ xs ++ (First i enters ∷ (ys ++ (Last i ∷ zs)))) × (k ≤ (after first start xs).page.sent)

-- `Fresh` in places of the list: the k-th send was told before a pass of q, and now q is at rest and maps the page
abbrev pub Since : Type 0
Since =
    (first top : ℕ) (xs ys : List Event) (q k : ℕ)
    → let es = xs ++ (Pass q ∷ ys) in
    let s = after first start es in
    Runs first top start es → IsAtRest s q → Maps s q → 0 < k → k ≤ (after first start xs).page.told → Finished first k es

-- so it is of breaks: the k-th send is not behind the last break, and q maps the page, at rest or not
abbrev pub SinceBreak : Type 0
SinceBreak =
    (first top : ℕ) (es : List Event) (q k : ℕ)
    → let s = after first start es in
    Runs first top start es → Maps s q → 0 < k → k ≤ s.page.broken → Finished first k es

-- and where q maps the page, some fetch has finished
abbrev pub SinceStart : Type 0
SinceStart = (first top : ℕ) (es : List Event) (q : ℕ) → Runs first top start es → Maps (after first start es) q → Finished first 0 es
