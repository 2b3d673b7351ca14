-- Which words show what a node owes for a word, what each says of the state, and which each event changes.
use Rattle.std.proofs.Common.{◌≡◌, ◌≢◌, ◌⊎◌, inl, inr, ℕ, ◌*◌, ◌+◌, ◌/◌, ◌<◌, ◌≤◌, ◌==◌, Bool, true, false, List, length, refl, sym, ap, ◌∙◌, subst, arith, if◌then◌else◌}
use Rattle.std.proofs.lemmas.Bool.{cases_eq, ne_eqb}
use Rattle.dsm_words.specs.declared.item.Item.{Item}
use Rattle.dsm_words.specs.declared.item.Item.TheVariants.{Twined, Map, Dir, Flush, Clock, Turn, Nle}
use Rattle.dsm_words.specs.Place.{IsWithin, total, processors}
use Rattle.dsm_words.specs.Pages.{group_of}
use Rattle.dsm_words.specs.Script.{Act, Get, item_of}
use Rattle.dsm_words.specs.Words.{word, done, left_in}
use Rattle.dsm_words.proofs.WordLaws.{word_same, word_other}
use Rattle.dsm_words.proofs.PlaceLaws.{place_injective}
use Rattle.dsm_words.specs.Place as P
use Rattle.dsm_protocol.specs.Own.{Who}
use Rattle.dsm_protocol.proofs.Placed.{IsPlaced, group_in}
use Rattle.dsm_owners.specs.Directory as O
use Rattle.dsm_owners.proofs.Keeps.{Holds}
use Rattle.dsm_ties.specs.Tied.{Match as Owned, has_bit, bit}
use Rattle.dsm_debts.specs.Page.{Idle, Event, Tick, Store, Open, Take, Signal, Keep, Early, Map_exclusive, Map_write, Unmap, Make, Enter, Draw, Stamp, Stamp_bare, Lower, Drop, Finish, Mark, Raise, End, End_home, Page, Processor, State, worker, index, page_after, processor_after, after_event}
use Rattle.dsm_debts.proofs.Keeps.{Holds as Lawful}
use Rattle.dsm_releases.specs.Tied.{Match, IsHome}

-- What is so where a row comes: home node h, node n, page g, word i, processor u; the words, the state of the directory, and that of what is owed.
pub record Scene : Type 0 where
  pub h : ℕ
  pub n : ℕ
  pub g : ℕ
  pub i : ℕ
  pub u : Who
  pub ws : List ℕ
  pub b : O.State
  pub f : State
  pub h_in : h < u.lay.nodes
  pub n_in : n < u.lay.nodes
  pub g_in : g < u.lay.pages
  pub i_in : i < u.lay.words
  pub few : u.lay.pages ≤ 256
  pub at : IsPlaced u
  pub long : length ws ≡ total u.lay
  pub owned : Owned u g ws b
  pub holds : Holds u.lay.nodes (λ q. q / u.lay.procs) b
  pub lawful : Lawful (n == h) (n * u.lay.procs) (n * u.lay.procs + u.lay.procs) f
  pub is_home : IsHome h g u ws
  pub match : Match h n g i u ws f

-- which word an event changes, by its block: none, Twined, Map, Dir, Flush, Clock or Nle
abbrev pub touched : Event → ℕ
touched Tick = 9
touched (Open q) = 9
touched (Draw q) = 9
touched Make = 3
touched Drop = 3
touched Raise = 3
touched (Map_exclusive q) = 4
touched (Map_write q) = 4
touched (Unmap q) = 4
touched Lower = 4
touched Enter = 5
touched End = 5
touched End_home = 5
touched Stamp = 7
touched Stamp_bare = 7
touched (Take q) = 14
touched Mark = 14
touched e = 0

-- the processor whose word it changes
abbrev pub changed : Page → Event → ℕ
changed g (Map_exclusive q) = q
changed g (Map_write q) = q
changed g (Unmap q) = q
changed g (Take q) = q
changed g Lower = worker g.work
changed g Mark = index g.work
changed g e = 0

-- an event that leaves where each processor stands in its release
abbrev pub keeps_stage : Event → Bool
keeps_stage (Open q) = false
keeps_stage (Take q) = false
keeps_stage (Signal q) = false
keeps_stage e = true

-- and one that leaves each dirty set
abbrev pub keeps_dirty : Event → Bool
keeps_dirty (Take q) = false
keeps_dirty (Keep q) = false
keeps_dirty (Early q) = false
keeps_dirty (Map_write q) = false
keeps_dirty Finish = false
keeps_dirty e = true

-- what is the same of both is so of the one that is chosen
pub picked : {A B : Type 0} (P : A → B) (d : Bool) (y x : A) → P y ≡ P x → P (if d then y else x) ≡ P x
picked P true y x e = e
picked P false y x e = refl

module _ (home : Bool) (first : ℕ) (p : Page) where
  pub flush_kept : (e : Event) → touched e ≢ 7 → (page_after home first p e).flush ≡ p.flush
  flush_kept Stamp t = absurd (t refl)
  flush_kept Stamp_bare t = absurd (t refl)
  flush_kept e t = refl

  pub clock_kept : (e : Event) → touched e ≢ 9 → (page_after home first p e).clock ≡ p.clock
  clock_kept Tick t = absurd (t refl)
  clock_kept (Open q) t = absurd (t refl)
  clock_kept (Draw q) t = absurd (t refl)
  clock_kept e t = refl

  pub twin_kept : (e : Event) → touched e ≢ 3 → (page_after home first p e).twin ≡ p.twin
  twin_kept Make t = absurd (t refl)
  twin_kept Drop t = absurd (t refl)
  twin_kept Raise t = absurd (t refl)
  twin_kept e t = refl

  pub sole_kept : (e : Event) → touched e ≢ 5 → (page_after home first p e).sole ≡ p.sole
  sole_kept Enter t = absurd (t refl)
  sole_kept End t = absurd (t refl)
  sole_kept End_home t = absurd (t refl)
  sole_kept e t = refl

  module _ (q : ℕ) (x : Processor) where
    writes_at : (e : Event) → touched e ≢ 4 → (processor_after home first p q x e).writes ≡ x.writes
    writes_at (Store k) t = picked (λ z. z.writes) (q == k) _ x refl
    writes_at (Open k) t = picked (λ z. z.writes) (q == k) _ x refl
    writes_at (Take k) t = picked (λ z. z.writes) (q == k) _ x refl
    writes_at (Signal k) t = picked (λ z. z.writes) (q == k) _ x refl
    writes_at (Keep k) t = picked (λ z. z.writes) (q == k) _ x refl
    writes_at (Early k) t = picked (λ z. z.writes) (q == k) _ x refl
    writes_at Finish t = picked (λ z. z.writes) (q == worker p.work) _ x refl
    writes_at Mark t = picked (λ z. z.writes) (q == index p.work) _ x refl
    writes_at (Map_exclusive k) t = absurd (t refl)
    writes_at (Map_write k) t = absurd (t refl)
    writes_at (Unmap k) t = absurd (t refl)
    writes_at Lower t = absurd (t refl)
    writes_at e t = refl

    bit_at : (e : Event) → touched e ≢ 14 → (processor_after home first p q x e).bit ≡ x.bit
    bit_at (Store k) t = picked (λ z. z.bit) (q == k) _ x refl
    bit_at (Open k) t = picked (λ z. z.bit) (q == k) _ x refl
    bit_at (Signal k) t = picked (λ z. z.bit) (q == k) _ x refl
    bit_at (Keep k) t = picked (λ z. z.bit) (q == k) _ x refl
    bit_at (Early k) t = picked (λ z. z.bit) (q == k) _ x refl
    bit_at (Map_exclusive k) t = picked (λ z. z.bit) (q == k) _ x refl
    bit_at (Map_write k) t = picked (λ z. z.bit) (q == k) _ x refl
    bit_at (Unmap k) t = picked (λ z. z.bit) (q == k) _ x refl
    bit_at Lower t = picked (λ z. z.bit) (q == worker p.work) _ x refl
    bit_at Finish t = picked (λ z. z.bit) (q == worker p.work) _ x refl
    bit_at (Take k) t = absurd (t refl)
    bit_at Mark t = absurd (t refl)
    bit_at e t = refl

    stage_at : (e : Event) → keeps_stage e ≡ true → (processor_after home first p q x e).stage ≡ x.stage
    stage_at (Open k) t = absurd (cc t)
    stage_at (Take k) t = absurd (cc t)
    stage_at (Signal k) t = absurd (cc t)
    stage_at (Store k) t = picked (λ z. z.stage) (q == k) _ x refl
    stage_at (Keep k) t = picked (λ z. z.stage) (q == k) _ x refl
    stage_at (Early k) t = picked (λ z. z.stage) (q == k) _ x refl
    stage_at (Map_exclusive k) t = picked (λ z. z.stage) (q == k) _ x refl
    stage_at (Map_write k) t = picked (λ z. z.stage) (q == k) _ x refl
    stage_at (Unmap k) t = picked (λ z. z.stage) (q == k) _ x refl
    stage_at Lower t = picked (λ z. z.stage) (q == worker p.work) _ x refl
    stage_at Finish t = picked (λ z. z.stage) (q == worker p.work) _ x refl
    stage_at Mark t = picked (λ z. z.stage) (q == index p.work) _ x refl
    stage_at e t = refl

    dirty_at : (e : Event) → keeps_dirty e ≡ true → (processor_after home first p q x e).dirty ≡ x.dirty
    dirty_at (Take k) t = absurd (cc t)
    dirty_at (Keep k) t = absurd (cc t)
    dirty_at (Early k) t = absurd (cc t)
    dirty_at (Map_write k) t = absurd (cc t)
    dirty_at Finish t = absurd (cc t)
    dirty_at (Store k) t = picked (λ z. z.dirty) (q == k) _ x refl
    dirty_at (Open k) t = picked (λ z. z.dirty) (q == k) _ x refl
    dirty_at (Signal k) t = picked (λ z. z.dirty) (q == k) _ x refl
    dirty_at (Map_exclusive k) t = picked (λ z. z.dirty) (q == k) _ x refl
    dirty_at (Unmap k) t = picked (λ z. z.dirty) (q == k) _ x refl
    dirty_at Lower t = picked (λ z. z.dirty) (q == worker p.work) _ x refl
    dirty_at Mark t = picked (λ z. z.dirty) (q == index p.work) _ x refl
    dirty_at e t = refl

    writes_other : (e : Event) → q ≢ changed p e → (processor_after home first p q x e).writes ≡ x.writes
    writes_other (Map_exclusive k) ne = rw (ne_eqb q k ne) refl
    writes_other (Map_write k) ne = rw (ne_eqb q k ne) refl
    writes_other (Unmap k) ne = rw (ne_eqb q k ne) refl
    writes_other Lower ne = rw (ne_eqb q (worker p.work) ne) refl
    writes_other e ne = writes_at e (λ t. absurd (omega (arith, t)))

    bit_other : (e : Event) → q ≢ changed p e → (processor_after home first p q x e).bit ≡ x.bit
    bit_other (Take k) ne = rw (ne_eqb q k ne) refl
    bit_other Mark ne = rw (ne_eqb q (index p.work) ne) refl
    bit_other e ne = bit_at e (λ t. absurd (omega (arith, t)))

-- of each processor
module _ (home : Bool) (first : ℕ) (f : State) (e : Event) where
  pub writes_kept : touched e ≢ 4 → (q : ℕ) → ((after_event home first f e).processors q).writes ≡ (f.processors q).writes
  writes_kept t q = writes_at home first f.page q (f.processors q) e t

  pub bit_kept : touched e ≢ 14 → (q : ℕ) → ((after_event home first f e).processors q).bit ≡ (f.processors q).bit
  bit_kept t q = bit_at home first f.page q (f.processors q) e t

  pub stage_kept : keeps_stage e ≡ true → (q : ℕ) → ((after_event home first f e).processors q).stage ≡ (f.processors q).stage
  stage_kept t q = stage_at home first f.page q (f.processors q) e t

  pub dirty_kept : keeps_dirty e ≡ true → (q : ℕ) → ((after_event home first f e).processors q).dirty ≡ (f.processors q).dirty
  dirty_kept t q = dirty_at home first f.page q (f.processors q) e t

  -- no other processor's word changes
  pub other_writes : (q : ℕ) → q ≢ changed f.page e → ((after_event home first f e).processors q).writes ≡ (f.processors q).writes
  other_writes q ne = writes_other home first f.page q (f.processors q) e ne

  pub other_bit : (q : ℕ) → q ≢ changed f.page e → ((after_event home first f e).processors q).bit ≡ (f.processors q).bit
  other_bit q ne = bit_other home first f.page q (f.processors q) e ne

module _ (c : Scene) where
  abbrev pub node : ℕ → ℕ
  node q = q / c.u.lay.procs

  abbrev pub home : Bool
  home = c.n == c.h

  -- the node's processors
  abbrev pub first : ℕ
  first = c.n * c.u.lay.procs

  abbrev pub top : ℕ
  top = c.n * c.u.lay.procs + c.u.lay.procs

  -- the words that show what is owed
  abbrev pub IsPart : Item → Type 0
  IsPart (Twined k h) = (k ≡ c.n) × (h ≡ c.g)
  IsPart (Map q h) = (node q ≡ c.n) × (h ≡ c.g)
  IsPart (Dir k h) = (k ≡ c.n) × (h ≡ c.g)
  IsPart (Flush k h) = (k ≡ c.n) × (h ≡ c.g)
  IsPart (Clock k) = k ≡ c.n
  IsPart (Turn k h) = (k ≡ c.n) × (h ≡ c.g)
  IsPart (Nle q l) = (node q ≡ c.n) × (l ≡ group_of c.g)
  IsPart it = ⊥

  -- where nobody holds the turn of the copy, whose word is x, nobody works on it
  abbrev pub Free : State → ℕ → Type 0
  Free f x = x ≡ 0 → f.page.work ≡ Idle

  abbrev pub Alone : State → ℕ → Type 0
  Alone f x = (x ≡ 2 → f.page.sole ≡ true) × (f.page.sole ≡ true → (x ≡ 2) ⊎ (x ≡ 3))

  -- what word x of an item says of a state
  abbrev pub Says : State → Item → ℕ → Type 0
  Says f (Twined k h) x = x ≡ bit f.page.twin
  Says f (Map q h) x = (x == 2) ≡ (f.processors q).writes
  Says f (Dir k h) x = Alone f x
  Says f (Flush k h) x = x ≡ f.page.flush
  Says f (Clock k) x = x ≡ f.page.clock
  Says f (Turn k h) x = Free f x
  Says f (Nle q l) x = has_bit c.g x ≡ (f.processors q).bit
  Says f it x = Unit {0}

  pub match_from : (ws : List ℕ) (f : State) → ((it : Item) → IsWithin c.u.lay it → IsPart it → Says f it (word c.u.lay ws it)) → Match c.h c.n c.g c.i c.u ws f
  match_from ws f s =
      record {
        flush = s (Flush c.n c.g) (c.n_in, c.g_in) (refl, refl);
        clock = s (Clock c.n) c.n_in refl;
        twin = s (Twined c.n c.g) (c.n_in, c.g_in) (refl, refl);
        alone = (s (Dir c.n c.g) (c.n_in, c.g_in) (refl, refl)).0;
        sole = (s (Dir c.n c.g) (c.n_in, c.g_in) (refl, refl)).1;
        writes = λ q i e. s (Map q c.g) (i, c.g_in) (e, refl);
        bits = λ q i e. s (Nle q (group_of c.g)) (i, group_in c.u.lay c.g c.g_in) (e, refl);
        idle = s (Turn c.n c.g) (c.n_in, c.g_in) (refl, refl);
      }

  pub says : (it : Item) → IsWithin c.u.lay it → IsPart it → Says c.f it (word c.u.lay c.ws it)
  says (Twined k h) i e = ap (word c.u.lay c.ws) (λ z. Twined (e.0 z) (e.1 z)) ∙ c.match.twin
  says (Map q h) i e = ap (λ z. word c.u.lay c.ws z == 2) (λ z. Map q (e.1 z)) ∙ c.match.writes q i.0 e.0
  says (Dir k h) i e = let same = ap (word c.u.lay c.ws) (λ z. Dir (e.0 z) (e.1 z)) in (λ d. c.match.alone (sym same ∙ d), λ d. subst (λ z. (z ≡ 2) ⊎ (z ≡ 3)) (sym same) (c.match.sole d))
  says (Flush k h) i e = ap (word c.u.lay c.ws) (λ z. Flush (e.0 z) (e.1 z)) ∙ c.match.flush
  says (Clock k) i e = ap (word c.u.lay c.ws) (λ z. Clock (e z)) ∙ c.match.clock
  says (Turn k h) i e = λ d. c.match.idle (sym (ap (word c.u.lay c.ws) (λ z. Turn (e.0 z) (e.1 z))) ∙ d)
  says (Nle q l) i e = ap (λ z. has_bit c.g (word c.u.lay c.ws z)) (λ z. Nle q (e.1 z)) ∙ c.match.bits q i.0 e.0
  says it i e = absurd e

  -- what the act's word says is said of the state behind it, and what the others say stays
  pub match_after : (a : Act) (f : State) → IsWithin c.u.lay (item_of a) → ((it : Item) → IsWithin c.u.lay it → IsPart it → it ≢ item_of a → Says f it (word c.u.lay c.ws it)) → (IsPart (item_of a) → Says f (item_of a) (left_in a (word c.u.lay c.ws (item_of a)))) → Match c.h c.n c.g c.i c.u (done c.u.lay c.ws a) f
  match_after a f within kept new = match_from (done c.u.lay c.ws a) f (λ it i e. go it i e (cases_eq (P.place c.u.lay it) (P.place c.u.lay (item_of a))))
    where
      go : (it : Item) → IsWithin c.u.lay it → IsPart it → (P.place c.u.lay it ≡ P.place c.u.lay (item_of a)) ⊎ (P.place c.u.lay it ≢ P.place c.u.lay (item_of a)) → Says f it (word c.u.lay (done c.u.lay c.ws a) it)
      go it i e (inl d) = let same : it ≡ item_of a = place_injective c.u.lay it (item_of a) i within d in
          subst (λ z. Says f z (word c.u.lay (done c.u.lay c.ws a) z)) (sym same) (subst (λ z. Says f (item_of a) z) (sym (word_same c.u.lay c.ws a c.long within)) (new (subst IsPart same e)))
      go it i e (inr ne) = let apart : it ≢ item_of a = λ d. ne (ap (P.place c.u.lay) d) in subst (λ z. Says f it z) (sym (word_other c.u.lay c.ws a it within i apart)) (kept it i e apart)

  -- no event, and none of the words
  pub untouched : (a : Act) → IsWithin c.u.lay (item_of a) → (IsPart (item_of a) → ⊥) → Match c.h c.n c.g c.i c.u (done c.u.lay c.ws a) c.f
  untouched a within off = match_after a c.f within (λ it i e ne. says it i e) (λ e. absurd (off e))

  -- or a word that says the same of the state
  pub says_same : (a : Act) → IsWithin c.u.lay (item_of a) → (IsPart (item_of a) → Says c.f (item_of a) (left_in a (word c.u.lay c.ws (item_of a)))) → Match c.h c.n c.g c.i c.u (done c.u.lay c.ws a) c.f
  says_same a within new = match_after a c.f within (λ it i e ne. says it i e) new

  pub loaded : (it : Item) → IsWithin c.u.lay it → Match c.h c.n c.g c.i c.u (done c.u.lay c.ws (Get it)) c.f
  loaded it within = says_same (Get it) within (λ e. says it within e)

  -- the processor of an item is the one whose word an event changes
  abbrev pub Owner : Item → ℕ → Type 0
  Owner (Nle q i) p = q ≡ p
  Owner (Map q h) p = q ≡ p
  Owner it p = Unit {0}

  -- no part is of block 0
  none : (it : Item) → IsPart it → P.block it ≡ 0 → ⊥
  none (Twined k h) i e = absurd (omega (arith, e))
  none (Map q h) i e = absurd (omega (arith, e))
  none (Dir k h) i e = absurd (omega (arith, e))
  none (Flush k h) i e = absurd (omega (arith, e))
  none (Clock k) i e = absurd (omega (arith, e))
  none (Turn k h) i e = absurd (omega (arith, e))
  none (Nle q l) i e = absurd (omega (arith, e))
  none it i e = absurd i

  module _ (e : Event) where
    abbrev pub next : State
    next = after_event home first c.f e

    -- where the turn's word is 0, nobody works on the copy behind the event
    module _ (w : Free next (word c.u.lay c.ws (Turn c.n c.g))) where
      -- a word of a kind that the event leaves
      says_left : (it : Item) → IsPart it → P.block it ≢ touched e → (x : ℕ) → x ≡ word c.u.lay c.ws it → Says c.f it x → Says next it x
      says_left (Twined k h) i t x is s = s ∙ ap bit (sym (twin_kept home first c.f.page e (λ z. t (sym z))))
      says_left (Map q h) i t x is s = s ∙ sym (writes_kept home first c.f e (λ z. t (sym z)) q)
      says_left (Dir k h) i t x is s = let same = sole_kept home first c.f.page e (λ z. t (sym z)) in (λ d. same ∙ s.0 d, λ d. s.1 (sym same ∙ d))
      says_left (Flush k h) i t x is s = s ∙ sym (flush_kept home first c.f.page e (λ z. t (sym z)))
      says_left (Clock k) i t x is s = s ∙ sym (clock_kept home first c.f.page e (λ z. t (sym z)))
      says_left (Turn k h) i t x is s = λ d. w (ap (word c.u.lay c.ws) (λ z. Turn (sym i.0 z) (sym i.1 z)) ∙ sym is ∙ d)
      says_left (Nle q l) i t x is s = s ∙ sym (bit_kept home first c.f e (λ z. t (sym z)) q)
      says_left it i t x is s = absurd i

      -- another word of the kind that it changes
      says_other : (it jt : Item) → IsPart it → IsPart jt → it ≢ jt → P.block it ≡ P.block jt → Owner jt (changed c.f.page e) → (x : ℕ) → x ≡ word c.u.lay c.ws it → Says c.f it x → Says next it x
      says_other (Twined k h) (Twined k' h') i j ne t o x is s = absurd (ne (λ z. Twined ((i.0 ∙ sym j.0) z) ((i.1 ∙ sym j.1) z)))
      says_other (Map q h) (Map q' h') i j ne t o x is s = s ∙ sym (other_writes home first c.f e q (λ d. ne (λ z. Map ((d ∙ sym o) z) ((i.1 ∙ sym j.1) z))))
      says_other (Dir k h) (Dir k' h') i j ne t o x is s = absurd (ne (λ z. Dir ((i.0 ∙ sym j.0) z) ((i.1 ∙ sym j.1) z)))
      says_other (Flush k h) (Flush k' h') i j ne t o x is s = absurd (ne (λ z. Flush ((i.0 ∙ sym j.0) z) ((i.1 ∙ sym j.1) z)))
      says_other (Clock k) (Clock k') i j ne t o x is s = absurd (ne (λ z. Clock ((i ∙ sym j) z)))
      says_other (Turn k h) jt i j ne t o x is s = λ d. w (ap (word c.u.lay c.ws) (λ z. Turn (sym i.0 z) (sym i.1 z)) ∙ sym is ∙ d)
      says_other (Nle q l) (Nle q' l') i j ne t o x is s = s ∙ sym (other_bit home first c.f e q (λ d. ne (λ z. Nle ((d ∙ sym o) z) ((i.1 ∙ sym j.1) z))))
      says_other it jt i j ne t o x is s = absurd (omega (arith, t))

      -- the event changes the word of the act alone
      pub match_one : (a : Act) → IsWithin c.u.lay (item_of a) → IsPart (item_of a) → P.block (item_of a) ≡ touched e → Owner (item_of a) (changed c.f.page e) → Says next (item_of a) (left_in a (word c.u.lay c.ws (item_of a))) → Match c.h c.n c.g c.i c.u (done c.u.lay c.ws a) next
      match_one a within j t o new = match_after a next within (λ it i p ne. go it i p ne (cases_eq (P.block it) (touched e))) (λ _. new)
        where
          go : (it : Item) → IsWithin c.u.lay it → IsPart it → it ≢ item_of a → (P.block it ≡ touched e) ⊎ (P.block it ≢ touched e) → Says next it (word c.u.lay c.ws it)
          go it i p ne (inl d) = says_other it (item_of a) p j ne (d ∙ sym t) o (word c.u.lay c.ws it) refl (says it i p)
          go it i p ne (inr z) = says_left it p z (word c.u.lay c.ws it) refl (says it i p)

      -- the event changes no word, and what the act leaves is said
      pub match_none : (a : Act) → IsWithin c.u.lay (item_of a) → touched e ≡ 0 → (IsPart (item_of a) → Says next (item_of a) (left_in a (word c.u.lay c.ws (item_of a)))) → Match c.h c.n c.g c.i c.u (done c.u.lay c.ws a) next
      match_none a within t new = match_after a next within (λ it i p ne. says_left it p (λ z. none it p (z ∙ t)) (word c.u.lay c.ws it) refl (says it i p)) new

      -- and so it is with a load, or a word that is none of these
      pub match_get : (it : Item) → IsWithin c.u.lay it → touched e ≡ 0 → Match c.h c.n c.g c.i c.u (done c.u.lay c.ws (Get it)) next
      match_get it within t = match_none (Get it) within t (λ p. says_left it p (λ z. none it p (z ∙ t)) (word c.u.lay c.ws it) refl (says it within p))

      pub match_aside : (a : Act) → IsWithin c.u.lay (item_of a) → touched e ≡ 0 → (IsPart (item_of a) → ⊥) → Match c.h c.n c.g c.i c.u (done c.u.lay c.ws a) next
      match_aside a within t off = match_none a within t (λ p. absurd (off p))

      -- with no act: words of the kind that the event changes say so already
      pub match_said : ((it : Item) → IsPart it → P.block it ≡ touched e → Says next it (word c.u.lay c.ws it)) → Match c.h c.n c.g c.i c.u c.ws next
      match_said said = match_from c.ws next (λ it i p. go it i p (cases_eq (P.block it) (touched e)))
        where
          go : (it : Item) → IsWithin c.u.lay it → IsPart it → (P.block it ≡ touched e) ⊎ (P.block it ≢ touched e) → Says next it (word c.u.lay c.ws it)
          go it i p (inl d) = said it p d
          go it i p (inr z) = says_left it p z (word c.u.lay c.ws it) refl (says it i p)

      pub match_still : touched e ≡ 0 → Match c.h c.n c.g c.i c.u c.ws next
      match_still t = match_said (λ it p d. absurd (none it p (d ∙ t)))
