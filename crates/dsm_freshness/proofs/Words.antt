-- Which words are a page's copy's, what each says of the state, and which each event changes.
use Rattle.std.proofs.Common.{◌≡◌, ◌≢◌, ◌⊎◌, inl, inr, ℕ, suc, ◌*◌, ◌+◌, ◌/◌, ◌<◌, ◌≤◌, Bool, true, false, List, length, refl, sym, ap, ◌∙◌, subst, arith}
use Rattle.std.proofs.lemmas.Bool.{cases_eq, eq-eqb, ne_eqb}
use Rattle.dsm_words.specs.declared.item.Item.{Item}
use Rattle.dsm_words.specs.declared.item.Item.TheVariants.{Map, Dir, Update, Notice, Clock, Turn, NoticeTurn, Own as OwnWord, Global}
use Rattle.dsm_words.specs.Place.{IsWithin, total, processors}
use Rattle.dsm_words.specs.Pages.{group_of}
use Rattle.dsm_words.specs.Script.{Act, Get, item_of}
use Rattle.dsm_words.specs.Words.{word, done, left_in}
use Rattle.dsm_words.proofs.WordLaws.{word_same, word_other}
use Rattle.dsm_words.proofs.PlaceLaws.{place_injective}
use Rattle.dsm_protocol.specs.Own.{Who}
use Rattle.dsm_protocol.proofs.Placed.{IsPlaced, group_in}
use Rattle.dsm_words.specs.Place as P
use Rattle.dsm_owners.specs.Stages as O
use Rattle.dsm_owners.specs.Directory as D
use Rattle.dsm_owners.proofs.Keeps.{Holds}
use Rattle.dsm_ties.specs.Tied.{Match as Owned, has_bit}
use Rattle.dsm_fresh.specs.Stages.{Work, Empty, is_worker, is_open, is_entering}
use Rattle.dsm_fresh.specs.Pages.{Event, Reset, Register, Claim, Share, Leave, Draw, Stamp, Enter, Map as Maps, Post_bit, Drain_some, Time, Notify, Flag, Other_time, Other_notice, Other_flag, Take, Unmap, Tick, Pass, Drain_none, Give, Skip, Keep, Keep_sole, Settle, Page, Processor, State, put, page_after, processor_of, processor_after, happens}
use Rattle.dsm_freshness.specs.Tied.{Match, may_load}

-- a fetch of the page is under way, by the directory's stage
abbrev pub is_fetching : O.Stage → Bool
is_fetching (O.Opened write) = true
is_fetching O.Copying = true
is_fetching z = false

-- the directory's stage of who works on a copy
pub record Fetches (z : O.Stage) (w : Work) : Type 0 where
  pub entering : is_entering w ≡ true → O.is_entering z ≡ true
  pub fetching : is_open w ≡ true → is_fetching z ≡ true

-- another processor that works on the copy stands where the directory's state says
abbrev pub OthersWork : ℕ → D.State → State → Type 0
OthersWork p b f = (q : ℕ) → q ≢ p → is_worker q f.page.work ≡ true → Fetches (b.processors q).stage f.page.work

-- What is so where a row comes: sender m, node n, page g, processor u; the words, the state of the directory, and that of the copy.
pub record Scene : Type 0 where
  pub m : ℕ
  pub n : ℕ
  pub g : ℕ
  pub u : Who
  pub ws : List ℕ
  pub b : D.State
  pub f : State
  pub apart : m ≢ n
  pub m_in : m < u.lay.nodes
  pub n_in : n < u.lay.nodes
  pub g_in : g < u.lay.pages
  pub few : u.lay.pages ≤ 256
  pub full : u.lay.words ≢ 0
  pub at : IsPlaced u
  pub long : length ws ≡ total u.lay
  pub owned : Owned u g ws b
  pub holds : Holds u.lay.nodes (λ q. q / u.lay.procs) b
  pub away : b.home ≢ suc n
  pub match : Match m n g u ws f
  pub others : OthersWork u.p b f

-- which word an event changes, by its block: none, Map, Dir, Update, Notice, Clock, Global or Own
abbrev pub touched : Event → ℕ
touched Reset = 6
touched Register = 5
touched Claim = 5
touched Share = 5
touched Leave = 5
touched (Draw q) = 9
touched (Stamp q) = 6
touched (Enter q) = 5
touched (Maps q) = 4
touched Post_bit = 12
touched (Drain_some q) = 12
touched Time = 9
touched Notify = 8
touched Flag = 13
touched Other_time = 9
touched Other_notice = 8
touched (Other_flag q) = 13
touched (Take q) = 13
touched (Unmap q) = 4
touched Tick = 9
touched e = 0

-- an event that leaves where each processor stands in its acquire
abbrev pub is_still : Event → Bool
is_still (Pass q) = false
is_still (Drain_none q) = false
is_still (Drain_some q) = false
is_still (Give q) = false
is_still (Take q) = false
is_still (Skip q) = false
is_still (Unmap q) = false
is_still (Keep q) = false
is_still (Keep_sole q) = false
is_still (Settle q) = false
is_still e = true

module _ (first : ℕ) (p : Page) where
  pub dir_kept : (e : Event) → touched e ≢ 5 → (page_after first p e).dir ≡ p.dir
  dir_kept Register t = absurd (t refl)
  dir_kept Claim t = absurd (t refl)
  dir_kept Share t = absurd (t refl)
  dir_kept Leave t = absurd (t refl)
  dir_kept (Enter q) t = absurd (t refl)
  dir_kept e t = refl

  pub update_kept : (e : Event) → touched e ≢ 6 → (page_after first p e).update ≡ p.update
  update_kept Reset t = absurd (t refl)
  update_kept (Stamp q) t = absurd (t refl)
  update_kept e t = refl

  pub notice_kept : (e : Event) → touched e ≢ 8 → (page_after first p e).notice ≡ p.notice
  notice_kept Notify t = absurd (t refl)
  notice_kept Other_notice t = absurd (t refl)
  notice_kept e t = refl

  pub clock_kept : (e : Event) → touched e ≢ 9 → (page_after first p e).clock ≡ p.clock
  clock_kept (Draw q) t = absurd (t refl)
  clock_kept Time t = absurd (t refl)
  clock_kept Other_time t = absurd (t refl)
  clock_kept Tick t = absurd (t refl)
  clock_kept e t = refl

  pub bit_kept : (e : Event) → touched e ≢ 12 → (page_after first p e).bit ≡ p.bit
  bit_kept Post_bit t = absurd (t refl)
  bit_kept (Drain_some q) t = absurd (t refl)
  bit_kept e t = refl

pub put_same : {A : Type 0} (f : ℕ → A) (n : ℕ) (x : A) → put f n x n ≡ x
put_same f n x = rw (eq-eqb n n refl) refl

pub put_other : {A : Type 0} (f : ℕ → A) (n : ℕ) (x : A) (k : ℕ) → k ≢ n → put f n x k ≡ f k
put_other f n x k ne = rw (ne_eqb k n ne) refl

pub put_kept : {A B : Type 0} (P : A → B) (f : ℕ → A) (n : ℕ) (x : A) → P x ≡ P (f n) → (k : ℕ) → P (put f n x k) ≡ P (f k)
put_kept P f n x e k = go (cases_eq k n)
  where
    go : (k ≡ n) ⊎ (k ≢ n) → P (put f n x k) ≡ P (f k)
    go (inl d) = rw (eq-eqb k n d) (e ∙ ap (λ z. P (f z)) (sym d))
    go (inr ne) = rw (ne_eqb k n ne) refl

module _ (told : ℕ) (x : Processor) where
  own_at : (first : ℕ) (e : Event) → touched e ≢ 13 → (processor_after first told x e).own ≡ x.own
  own_at first Flag t = absurd (t refl)
  own_at first (Other_flag q) t = absurd (t refl)
  own_at first (Take q) t = absurd (t refl)
  own_at first e t = refl

  mapped_at : (first : ℕ) (e : Event) → touched e ≢ 4 → (processor_after first told x e).mapped ≡ x.mapped
  mapped_at first (Maps q) t = absurd (t refl)
  mapped_at first (Unmap q) t = absurd (t refl)
  mapped_at first e t = refl

  still_at : (first : ℕ) (e : Event) → is_still e ≡ true → (processor_after first told x e).stage ≡ x.stage
  still_at first (Pass q) t = absurd (cc t)
  still_at first (Drain_none q) t = absurd (cc t)
  still_at first (Drain_some q) t = absurd (cc t)
  still_at first (Give q) t = absurd (cc t)
  still_at first (Take q) t = absurd (cc t)
  still_at first (Skip q) t = absurd (cc t)
  still_at first (Unmap q) t = absurd (cc t)
  still_at first (Keep q) t = absurd (cc t)
  still_at first (Keep_sole q) t = absurd (cc t)
  still_at first (Settle q) t = absurd (cc t)
  still_at first e t = refl

-- of each processor
module _ (first : ℕ) (f : State) (e : Event) where
  abbrev q : ℕ
  q = processor_of first f.page.hand e

  pub own_kept : touched e ≢ 13 → (k : ℕ) → ((happens first f e).processors k).own ≡ (f.processors k).own
  own_kept t k = put_kept (λ z. z.own) f.processors q (processor_after first f.page.told (f.processors q) e) (own_at f.page.told (f.processors q) first e t) k

  pub mapped_kept : touched e ≢ 4 → (k : ℕ) → ((happens first f e).processors k).mapped ≡ (f.processors k).mapped
  mapped_kept t k = put_kept (λ z. z.mapped) f.processors q (processor_after first f.page.told (f.processors q) e) (mapped_at f.page.told (f.processors q) first e t) k

  pub stage_kept : is_still e ≡ true → (k : ℕ) → ((happens first f e).processors k).stage ≡ (f.processors k).stage
  stage_kept t k = put_kept (λ z. z.stage) f.processors q (processor_after first f.page.told (f.processors q) e) (still_at f.page.told (f.processors q) first e t) k

  -- no other processor changes
  pub others_kept : (k : ℕ) → k ≢ q → (happens first f e).processors k ≡ f.processors k
  others_kept k ne = put_other f.processors q (processor_after first f.page.told (f.processors q) e) k ne

module _ (c : Scene) where
  abbrev pub node : ℕ → ℕ
  node q = q / c.u.lay.procs

  -- the node's processors
  abbrev pub first : ℕ
  first = c.n * c.u.lay.procs

  abbrev pub top : ℕ
  top = c.n * c.u.lay.procs + c.u.lay.procs

  -- the words of the copy
  abbrev pub IsPart : Item → Type 0
  IsPart (Dir k h) = (k ≡ c.n) × (h ≡ c.g)
  IsPart (Update k h) = (k ≡ c.n) × (h ≡ c.g)
  IsPart (Notice k h) = (k ≡ c.n) × (h ≡ c.g)
  IsPart (Clock k) = k ≡ c.n
  IsPart (Global k j i) = (k ≡ c.n) × (j ≡ c.m) × (i ≡ group_of c.g)
  IsPart (OwnWord q i) = (node q ≡ c.n) × (i ≡ group_of c.g)
  IsPart (Map q h) = (node q ≡ c.n) × (h ≡ c.g)
  IsPart (Turn k h) = (k ≡ c.n) × (h ≡ c.g)
  IsPart (NoticeTurn k) = k ≡ c.n
  IsPart it = ⊥

  -- who works on the copy holds its turn, where its word is x
  abbrev pub Worker : State → ℕ → Type 0
  Worker f x = (q : ℕ) → is_worker q f.page.work ≡ true → (x ≡ suc q) × (node q ≡ c.n)

  abbrev pub Drainer : State → ℕ → Type 0
  Drainer f x = x ≡ 0 → f.page.hand ≡ Empty

  -- what word x of an item says of a state
  abbrev pub Says : State → Item → ℕ → Type 0
  Says f (Dir k h) x = x ≡ f.page.dir
  Says f (Update k h) x = x ≡ f.page.update
  Says f (Notice k h) x = x ≡ f.page.notice
  Says f (Clock k) x = x ≡ f.page.clock
  Says f (Global k j i) x = has_bit c.g x ≡ f.page.bit
  Says f (OwnWord q i) x = has_bit c.g x ≡ (f.processors q).own
  Says f (Map q h) x = may_load x ≡ (f.processors q).mapped
  Says f (Turn k h) x = Worker f x
  Says f (NoticeTurn k) x = Drainer f x
  Says f it x = Unit {0}

  pub match_from : (ws : List ℕ) (f : State) → ((it : Item) → IsWithin c.u.lay it → IsPart it → Says f it (word c.u.lay ws it)) → Match c.m c.n c.g c.u ws f
  match_from ws f h =
      record {
        dir = h (Dir c.n c.g) (c.n_in, c.g_in) (refl, refl);
        update = h (Update c.n c.g) (c.n_in, c.g_in) (refl, refl);
        notice = h (Notice c.n c.g) (c.n_in, c.g_in) (refl, refl);
        clock = h (Clock c.n) c.n_in refl;
        bit = h (Global c.n c.m (group_of c.g)) (c.n_in, c.m_in, group_in c.u.lay c.g c.g_in) (refl, refl, refl);
        own = λ q i e. h (OwnWord q (group_of c.g)) (i, group_in c.u.lay c.g c.g_in) (e, refl);
        mapped = λ q i e. h (Map q c.g) (i, c.g_in) (e, refl);
        worker = h (Turn c.n c.g) (c.n_in, c.g_in) (refl, refl);
        drainer = h (NoticeTurn c.n) c.n_in refl;
      }

  pub says : (it : Item) → IsWithin c.u.lay it → IsPart it → Says c.f it (word c.u.lay c.ws it)
  says (Dir k h) i e = ap (word c.u.lay c.ws) (λ z. Dir (e.0 z) (e.1 z)) ∙ c.match.dir
  says (Update k h) i e = ap (word c.u.lay c.ws) (λ z. Update (e.0 z) (e.1 z)) ∙ c.match.update
  says (Notice k h) i e = ap (word c.u.lay c.ws) (λ z. Notice (e.0 z) (e.1 z)) ∙ c.match.notice
  says (Clock k) i e = ap (word c.u.lay c.ws) (λ z. Clock (e z)) ∙ c.match.clock
  says (Global k j l) i e = ap (λ z. has_bit c.g (word c.u.lay c.ws z)) (λ z. Global (e.0 z) (e.1 z) (e.2 z)) ∙ c.match.bit
  says (OwnWord q l) i e = ap (λ z. has_bit c.g (word c.u.lay c.ws z)) (λ z. OwnWord q (e.1 z)) ∙ c.match.own q i.0 e.0
  says (Map q h) i e = ap (λ z. may_load (word c.u.lay c.ws z)) (λ z. Map q (e.1 z)) ∙ c.match.mapped q i.0 e.0
  says (Turn k h) i e = λ q w. let z = c.match.worker q w in (ap (word c.u.lay c.ws) (λ z. Turn (e.0 z) (e.1 z)) ∙ z.0, z.1)
  says (NoticeTurn k) i e = λ w. c.match.drainer (ap (word c.u.lay c.ws) (λ z. NoticeTurn (sym e z)) ∙ w)
  says it i e = absurd e

  -- what the act's word says is said of the state behind it, and what the others say stays
  pub match_after : (a : Act) (f : State) → IsWithin c.u.lay (item_of a) → ((it : Item) → IsWithin c.u.lay it → IsPart it → it ≢ item_of a → Says f it (word c.u.lay c.ws it)) → (IsPart (item_of a) → Says f (item_of a) (left_in a (word c.u.lay c.ws (item_of a)))) → Match c.m c.n c.g c.u (done c.u.lay c.ws a) f
  match_after a f within kept new = match_from (done c.u.lay c.ws a) f (λ it i e. go it i e (cases_eq (P.place c.u.lay it) (P.place c.u.lay (item_of a))))
    where
      go : (it : Item) → IsWithin c.u.lay it → IsPart it → (P.place c.u.lay it ≡ P.place c.u.lay (item_of a)) ⊎ (P.place c.u.lay it ≢ P.place c.u.lay (item_of a)) → Says f it (word c.u.lay (done c.u.lay c.ws a) it)
      go it i e (inl d) = let same : it ≡ item_of a = place_injective c.u.lay it (item_of a) i within d in
          subst (λ z. Says f z (word c.u.lay (done c.u.lay c.ws a) z)) (sym same) (subst (λ z. Says f (item_of a) z) (sym (word_same c.u.lay c.ws a c.long within)) (new (subst IsPart same e)))
      go it i e (inr ne) = let apart : it ≢ item_of a = λ d. ne (ap (P.place c.u.lay) d) in subst (λ z. Says f it z) (sym (word_other c.u.lay c.ws a it within i apart)) (kept it i e apart)

  -- no event, and none of the words
  pub untouched : (a : Act) → IsWithin c.u.lay (item_of a) → (IsPart (item_of a) → ⊥) → Match c.m c.n c.g c.u (done c.u.lay c.ws a) c.f
  untouched a within off = match_after a c.f within (λ it i e ne. says it i e) (λ e. absurd (off e))

  -- or a word that says the same of the state
  pub says_same : (a : Act) → IsWithin c.u.lay (item_of a) → (IsPart (item_of a) → Says c.f (item_of a) (left_in a (word c.u.lay c.ws (item_of a)))) → Match c.m c.n c.g c.u (done c.u.lay c.ws a) c.f
  says_same a within new = match_after a c.f within (λ it i e ne. says it i e) new

  pub loaded : (it : Item) → IsWithin c.u.lay it → Match c.m c.n c.g c.u (done c.u.lay c.ws (Get it)) c.f
  loaded it within = says_same (Get it) within (λ e. says it within e)

  -- the processor of an item is the one that an event changes
  abbrev pub Owner : Item → ℕ → Type 0
  Owner (OwnWord q i) p = q ≡ p
  Owner (Map q h) p = q ≡ p
  Owner it p = Unit {0}

  -- no part is of block 0
  none : (it : Item) → IsPart it → P.block it ≡ 0 → ⊥
  none (Dir k h) i e = absurd (omega (arith, e))
  none (Update k h) i e = absurd (omega (arith, e))
  none (Notice k h) i e = absurd (omega (arith, e))
  none (Clock k) i e = absurd (omega (arith, e))
  none (Global k j l) i e = absurd (omega (arith, e))
  none (OwnWord q l) i e = absurd (omega (arith, e))
  none (Map q h) i e = absurd (omega (arith, e))
  none (Turn k h) i e = absurd (omega (arith, e))
  none (NoticeTurn k) i e = absurd (omega (arith, e))
  none it i e = absurd i

  module _ (e : Event) where
    abbrev pub next : State
    next = happens first c.f e

    module _ (w : Worker next (word c.u.lay c.ws (Turn c.n c.g))) (d : Drainer next (word c.u.lay c.ws (NoticeTurn c.n))) where
      turn_says : (k h : ℕ) → IsPart (Turn k h) → Worker next (word c.u.lay c.ws (Turn k h))
      turn_says k h i = λ q j. let z = w q j in (ap (word c.u.lay c.ws) (λ y. Turn (i.0 y) (i.1 y)) ∙ z.0, z.1)

      notices_say : (k : ℕ) → IsPart (NoticeTurn k) → Drainer next (word c.u.lay c.ws (NoticeTurn k))
      notices_say k i = λ z. d (ap (word c.u.lay c.ws) (λ y. NoticeTurn (sym i y)) ∙ z)

      -- a word of a kind that the event leaves
      says_left : (it : Item) → IsPart it → P.block it ≢ touched e → (x : ℕ) → x ≡ word c.u.lay c.ws it → Says c.f it x → Says next it x
      says_left (Dir k h) i t x is s = s ∙ sym (dir_kept first c.f.page e (λ z. t (sym z)))
      says_left (Update k h) i t x is s = s ∙ sym (update_kept first c.f.page e (λ z. t (sym z)))
      says_left (Notice k h) i t x is s = s ∙ sym (notice_kept first c.f.page e (λ z. t (sym z)))
      says_left (Clock k) i t x is s = s ∙ sym (clock_kept first c.f.page e (λ z. t (sym z)))
      says_left (Global k j l) i t x is s = s ∙ sym (bit_kept first c.f.page e (λ z. t (sym z)))
      says_left (OwnWord q l) i t x is s = s ∙ sym (own_kept first c.f e (λ z. t (sym z)) q)
      says_left (Map q h) i t x is s = s ∙ sym (mapped_kept first c.f e (λ z. t (sym z)) q)
      says_left (Turn k h) i t x is s = subst (Worker next) (sym is) (turn_says k h i)
      says_left (NoticeTurn k) i t x is s = subst (Drainer next) (sym is) (notices_say k i)
      says_left it i t x is s = absurd i

      -- another word of the kind that it changes
      says_other : (it jt : Item) → IsPart it → IsPart jt → it ≢ jt → P.block it ≡ P.block jt → Owner jt (processor_of first c.f.page.hand e) → (x : ℕ) → x ≡ word c.u.lay c.ws it → Says c.f it x → Says next it x
      says_other (Dir k h) (Dir k' h') i j ne t o x is s = absurd (ne (λ z. Dir ((i.0 ∙ sym j.0) z) ((i.1 ∙ sym j.1) z)))
      says_other (Update k h) (Update k' h') i j ne t o x is s = absurd (ne (λ z. Update ((i.0 ∙ sym j.0) z) ((i.1 ∙ sym j.1) z)))
      says_other (Notice k h) (Notice k' h') i j ne t o x is s = absurd (ne (λ z. Notice ((i.0 ∙ sym j.0) z) ((i.1 ∙ sym j.1) z)))
      says_other (Clock k) (Clock k') i j ne t o x is s = absurd (ne (λ z. Clock ((i ∙ sym j) z)))
      says_other (Global k h l) (Global k' h' l') i j ne t o x is s = absurd (ne (λ z. Global ((i.0 ∙ sym j.0) z) ((i.1 ∙ sym j.1) z) ((i.2 ∙ sym j.2) z)))
      says_other (OwnWord q l) (OwnWord q' l') i j ne t o x is s = s ∙ sym (ap (λ z. z.own) (others_kept first c.f e q (λ d. ne (λ z. OwnWord ((d ∙ sym o) z) ((i.1 ∙ sym j.1) z)))))
      says_other (Map q h) (Map q' h') i j ne t o x is s = s ∙ sym (ap (λ z. z.mapped) (others_kept first c.f e q (λ d. ne (λ z. Map ((d ∙ sym o) z) ((i.1 ∙ sym j.1) z)))))
      says_other (Turn k h) jt i j ne t o x is s = subst (Worker next) (sym is) (turn_says k h i)
      says_other (NoticeTurn k) jt i j ne t o x is s = subst (Drainer next) (sym is) (notices_say k i)
      says_other it jt i j ne t o x is s = absurd (omega (arith, t))

      -- the event changes the word of the act alone
      pub match_one : (a : Act) → IsWithin c.u.lay (item_of a) → IsPart (item_of a) → P.block (item_of a) ≡ touched e → Owner (item_of a) (processor_of first c.f.page.hand e) → Says next (item_of a) (left_in a (word c.u.lay c.ws (item_of a))) → Match c.m c.n c.g c.u (done c.u.lay c.ws a) next
      match_one a within j t o new = match_after a next within (λ it i p ne. go it i p ne (cases_eq (P.block it) (touched e))) (λ _. new)
        where
          go : (it : Item) → IsWithin c.u.lay it → IsPart it → it ≢ item_of a → (P.block it ≡ touched e) ⊎ (P.block it ≢ touched e) → Says next it (word c.u.lay c.ws it)
          go it i p ne (inl d) = says_other it (item_of a) p j ne (d ∙ sym t) o (word c.u.lay c.ws it) refl (says it i p)
          go it i p ne (inr z) = says_left it p z (word c.u.lay c.ws it) refl (says it i p)

      -- the event changes no word, and the act none, or a turn
      pub match_none : (a : Act) → IsWithin c.u.lay (item_of a) → touched e ≡ 0 → (IsPart (item_of a) → Says next (item_of a) (left_in a (word c.u.lay c.ws (item_of a)))) → Match c.m c.n c.g c.u (done c.u.lay c.ws a) next
      match_none a within t new = match_after a next within (λ it i p ne. says_left it p (λ z. none it p (z ∙ t)) (word c.u.lay c.ws it) refl (says it i p)) new

      -- with no act
      pub match_still : touched e ≡ 0 → Match c.m c.n c.g c.u c.ws next
      match_still t = match_from c.ws next (λ it i p. says_left it p (λ z. none it p (z ∙ t)) (word c.u.lay c.ws it) refl (says it i p))
