-- Rows on no page.
use Rattle.std.proofs.Common.{◌≡◌, ◌≢◌, ◌⊎◌, inl, inr, ℕ, zero, suc, ◌+◌, ◌*◌, ◌/◌, ◌%◌, ◌^◌, ◌<◌, ◌≤◌, ◌==◌, Bool, true, false, List, [], length, refl, sym, ap, ◌∙◌, subst, arith, if◌then◌else◌}
use Rattle.std.specs.Prelude.{IfSome, not, replicate, slice_index, slice_set, bit_or}
use Rattle.std.specs.Int.{bit_at}
use Rattle.std.proofs.lemmas.Bool.{cases_eq, cases_lt, eq-eqb, eqb-true}
use Rattle.std.proofs.lemmas.List.{get_or-set_same, get_or-set_other, get_or_past, length-set}
use Rattle.std.proofs.lemmas.Nat.{shr_split, pow_pos}
use Rattle.std.proofs.lemmas.Nat.Bits.{bit_at_cat_low, bit_at_above, bit_at-zero, bit_at_or, bit_at-pow_other}
use Rattle.dsm_words.specs.declared.item.Item.{Item}
use Rattle.dsm_words.specs.declared.item.Item.TheVariants.{Stop, Twined, Map, Dir, Update, Turn, Nle, Home, Own as OwnWord, Global}
use Rattle.dsm_words.specs.Place.{IsWithin, total, place}
use Rattle.dsm_words.specs.Pages.{group_of, has_page, pages_in}
use Rattle.dsm_words.specs.Script.{Act, Get, Swap, item_of}
use Rattle.dsm_words.specs.Words.{word, done, left_in}
use Rattle.dsm_words.proofs.WordLaws.{word_same, word_other}
use Rattle.dsm_words.proofs.PlaceLaws.{place_injective}
use Rattle.dsm_protocol.specs.Own.{Own, Who, node_of}
use Rattle.dsm_protocol.specs.Stages.{Round, Collecting, Holder, Closes, Work, Off}
use Rattle.dsm_protocol.specs.Standing.{IsObject, IsAside}
use Rattle.dsm_protocol.specs.Rows.{Step, loads, stores, draws_release, drains, draws_notice, notices, flags, gives_notices, takes, seeks_holder, Allowed}
use Rattle.dsm_protocol.proofs.Placed.{IsPlaced, group_in}
use Rattle.dsm_owners.specs.Directory.{State, Event}
use Rattle.dsm_ties.specs.Views.{told_in, joins_in, heard_in, is_cleaned}
use Rattle.dsm_ties.specs.Tied.{has_bit, Match}
use Rattle.dsm_ties.proofs.Frame as F
use Rattle.dsm_ties.proofs.AcquireRows.{in_node}

-- a bit that is left was there
kept_bit : (x w i : ℕ) → (bit_at (x % 2 ^ w) i == 1) ≡ true → (bit_at x i == 1) ≡ true
kept_bit x w i e = go (cases_lt i w)
  where
    go : (i < w) ⊎ (w ≤ i) → (bit_at x i == 1) ≡ true
    go (inl low) = ap (λ z. z == 1) (sym (ap (λ y. bit_at y i) (shr_split x w)) ∙ bit_at_cat_low (x / 2 ^ w) w (x % 2 ^ w) i low) ∙ e
    go (inr high) = let z = bit_at_above (x % 2 ^ w) w i (omega (arith, pow_pos w)) high in let one = eqb-true (bit_at (x % 2 ^ w) i) 1 e in absurd (omega (arith, z, one))

-- one more bit
or_bit : (w c i : ℕ) → (bit_at (bit_or w (2 ^ c)) i == 1) ≡ true → ((bit_at w i == 1) ≡ true) ⊎ (i ≡ c)
or_bit w c i e = go (cases_eq i c)
  where
    go : (i ≡ c) ⊎ (i ≢ c) → ((bit_at w i == 1) ≡ true) ⊎ (i ≡ c)
    go (inl d) = inr d
    go (inr ne) = let both = bit_at_or w (2 ^ c) i in let off = bit_at-pow_other c i ne in let one = eqb-true (bit_at (bit_or w (2 ^ c)) i) 1 e in inl (eq-eqb (bit_at w i) 1 (omega (arith, both, off, one)))

pub no_bit : (i : ℕ) → (bit_at 0 i == 1) ≡ true → ⊥
no_bit i e = let one = eqb-true (bit_at 0 i) 1 e in let z = bit_at-zero i in absurd (omega (arith, one, z))

zeros : (k : ℕ) → slice_index (replicate 4 0) k ≡ 0
zeros zero = refl
zeros (suc zero) = refl
zeros (suc (suc zero)) = refl
zeros (suc (suc (suc zero))) = refl
zeros (suc (suc (suc (suc k)))) = refl

-- no page is in the empty set
none_in : (g : ℕ) → has_page (replicate 4 0) g ≡ true → ⊥
none_in g e = no_bit (g % 64) (sym (ap (λ z. bit_at z (g % 64) == 1) (zeros (g / 64))) ∙ e)

-- a page of a set with the bits of one more word is one of that word's, or was in the set
pub in_set : (g k x w : ℕ) (set : List ℕ) → has_page (slice_set set k (x % 2 ^ w)) g ≡ true → ((k ≡ group_of g) × (has_bit g x ≡ true)) ⊎ (has_page set g ≡ true)
in_set g k x w set e = go (cases_eq (g / 64) k)
  where
    past : length set ≤ k → slice_index (slice_set set k (x % 2 ^ w)) k ≡ 0
    past le = get_or_past (slice_set set k (x % 2 ^ w)) k 0 (omega (arith, le, length-set set k (x % 2 ^ w)))

    go : (g / 64 ≡ k) ⊎ (g / 64 ≢ k) → ((k ≡ group_of g) × (has_bit g x ≡ true)) ⊎ (has_page set g ≡ true)
    go (inr ne) = inr (sym (ap (λ z. bit_at z (g % 64) == 1) (get_or-set_other set k (g / 64) (x % 2 ^ w) 0 ne)) ∙ e)
    go (inl d) = each (cases_lt k (length set))
      where
        here : (bit_at (slice_index (slice_set set k (x % 2 ^ w)) k) (g % 64) == 1) ≡ true
        here = sym (ap (λ z. bit_at (slice_index (slice_set set k (x % 2 ^ w)) z) (g % 64) == 1) d) ∙ e

        each : (k < length set) ⊎ (length set ≤ k) → ((k ≡ group_of g) × (has_bit g x ≡ true)) ⊎ (has_page set g ≡ true)
        each (inl lt) = inl (sym d, kept_bit x w (g % 64) (sym (ap (λ z. bit_at z (g % 64) == 1) (get_or-set_same set k (x % 2 ^ w) 0 lt)) ∙ here))
        each (inr le) = absurd (no_bit (g % 64) (sym (ap (λ z. bit_at z (g % 64) == 1) (past le)) ∙ here))

-- the page's own items
abbrev pub IsPage : ℕ → Item → Type 0
IsPage g (Home h) = h ≡ g
IsPage g (Dir n h) = h ≡ g
IsPage g (Twined n h) = h ≡ g
IsPage g (Update n h) = h ≡ g
IsPage g (Turn n h) = h ≡ g
IsPage g (Map q h) = h ≡ g
IsPage g it = ⊥

-- words of objects, and the stop word, are no page's
object_off : (g : ℕ) (it : Item) → IsObject it → F.IsOf g it → ⊥
object_off g (Home h) e of = e
object_off g (Dir n h) e of = e
object_off g (Twined n h) e of = e
object_off g (Update n h) e of = e
object_off g (Turn n h) e of = e
object_off g (Map q h) e of = e
object_off g (Nle q k) e of = e
object_off g (Global n j k) e of = e
object_off g (OwnWord q k) e of = e
object_off g it e of = of

aside_off : (g : ℕ) (a : Act) → IsAside a → F.IsOf g (item_of a) → ⊥
aside_off g (Get Stop) e of = of
aside_off g a e of = object_off g (item_of a) e of

module _ (u : Who) (at : IsPlaced u) (g : ℕ) (g_in : g < u.lay.pages) (ws : List ℕ) (long : length ws ≡ total u.lay) (b : State) (m : Match u g ws b) where
  -- what the bit of the page in a word of its group says
  abbrev Says : Item → Type 0
  Says (Nle q k) = (b.processors q).nle ≡ true
  Says (Global j l k) = (b.nodes j).noted ≡ true
  Says (OwnWord q k) = (b.nodes (q / u.lay.procs)).noted ≡ true
  Says it = Unit {0}

  -- where a word of the group is changed, they show the same state if its bit says what is so
  pub regrouped : (a : Act) → IsWithin u.lay (item_of a) → (IsPage g (item_of a) → ⊥) → (F.IsOf g (item_of a) → has_bit g (left_in a (word u.lay ws (item_of a))) ≡ true → Says (item_of a)) → Match u g (done u.lay ws a) b
  regrouped a within off here =
      record {
        home = other (Home g) g_in refl ∙ m.home;
        low = m.low;
        dir = λ j i. other (Dir j g) (i, g_in) refl ∙ m.dir j i;
        twined = λ j i. other (Twined j g) (i, g_in) refl ∙ m.twined j i;
        update = λ j i. ap (λ z. not (z == 0)) (other (Update j g) (i, g_in) refl) ∙ m.update j i;
        turn = λ j i. other (Turn j g) (i, g_in) refl ∙ m.turn j i;
        map = λ q i. other (Map q g) (i, g_in) refl ∙ m.map q i;
        nle = λ q i d. bits (Nle q (group_of g)) (i, group_in u.lay g g_in) refl (m.nle q i) d;
        posted = λ j l i c d. bits (Global j l (group_of g)) (i, c, group_in u.lay g g_in) refl (m.posted j l i c) d;
        listed = λ q i d. bits (OwnWord q (group_of g)) (i, group_in u.lay g g_in) refl (m.listed q i) d;
      }
    where
      other : (it : Item) → IsWithin u.lay it → IsPage g it → word u.lay (done u.lay ws a) it ≡ word u.lay ws it
      other it i of = word_other u.lay ws a it within i (λ e. off (subst (IsPage g) e of))

      bits : (it : Item) → IsWithin u.lay it → F.IsOf g it → (has_bit g (word u.lay ws it) ≡ true → Says it) → has_bit g (word u.lay (done u.lay ws a) it) ≡ true → Says it
      bits it i of old d = go (cases_eq (place u.lay it) (place u.lay (item_of a)))
        where
          go : (place u.lay it ≡ place u.lay (item_of a)) ⊎ (place u.lay it ≢ place u.lay (item_of a)) → Says it
          go (inl e) = let same : it ≡ item_of a = place_injective u.lay it (item_of a) i within e in subst Says (sym same) (here (subst (F.IsOf g) same of) (ap (has_bit g) (sym (ap (word u.lay (done u.lay ws a)) same ∙ word_same u.lay ws a long within)) ∙ d))
          go (inr ne) = old (ap (has_bit g) (sym (word_other u.lay ws a it within i (λ e. ne (ap (place u.lay) e)))) ∙ d)

  abbrev Now : Work → Own → Type 0
  Now = F.Now u at g g_in ws long b m

  -- on no page only the sets in its hand change
  module _ {r t : Round} {o : Own} where
    pub off_knows : Now (Off r) o → is_cleaned (Off r) g ≡ false → IfSome (joins_in (Off t)) (λ set. has_page set g ≡ true → (b.processors u.p).dirty ≡ true) → IfSome (told_in (Off t)) (λ set. has_page set g ≡ true → (b.nodes (node_of u)).noted ≡ true)
        → IfSome (heard_in (Off t)) (λ z. z.0 ≡ group_of g → has_bit g z.1 ≡ true → (b.nodes (node_of u)).noted ≡ true) → Now (Off t) o
    off_knows k clean j l h = record { at = k.at; round = tt; met = tt; dirty = λ c d. k.dirty clean d; soils = tt; joins = j; told = l; heard = h; homes = tt; times = tt }

    pub off_acts : {ws' : List ℕ} → Match u g ws' b → Now (Off r) o → is_cleaned (Off r) g ≡ false → IfSome (joins_in (Off t)) (λ set. has_page set g ≡ true → (b.processors u.p).dirty ≡ true) → IfSome (told_in (Off t)) (λ set. has_page set g ≡ true → (b.nodes (node_of u)).noted ≡ true)
        → IfSome (heard_in (Off t)) (λ z. z.0 ≡ group_of g → has_bit g z.1 ≡ true → (b.nodes (node_of u)).noted ≡ true) → F.Acted u at g g_in ws long b m o (Off t) ws' []
    off_acts w k clean j l h = record { runs = tt; match = w; knows = off_knows k clean j l h }

  module _ (o : Own) where
    abbrev Row : {w v : Work} {a : Act} {z : ℕ} → Step u o.maps o.dirty w a z v → Type 0
    Row step = F.RowActs u at g g_in ws long b m o step

    abbrev Acted : Work → List ℕ → List Event → Type 0
    Acted = F.Acted u at g g_in ws long b m o

    abbrev Meets : Act → ℕ → Type 0
    Meets = F.Meets u at g g_in ws long b m o

    -- an access
    pub row_loads : {faulted : Bool} {a x : ℕ} (e : Allowed u o.maps o.dirty false a) → Row (loads {faulted = faulted} {a = a} {x = x} e)
    row_loads e f k = off_acts (F.untouched u at g g_in ws long b m _ f.within (λ e. e)) k refl tt tt tt

    pub row_stores : {faulted : Bool} {a v x : ℕ} (e : Allowed u o.maps o.dirty true a) → Row (stores {faulted = faulted} {a = a} {v = v} {x = x} e)
    row_stores e f k = off_acts (F.untouched u at g g_in ws long b m _ f.within (λ e. e)) k refl tt tt tt

    -- a release begins
    pub row_draws_release : {x : ℕ} → Row (draws_release {x = x})
    row_draws_release f k = off_acts (F.untouched u at g g_in ws long b m _ f.within (λ e. e)) k refl (λ d. absurd (none_in g d)) tt tt

    pub row_collects_off : {t0 k x : ℕ} {set : List ℕ} → k ≢ group_of g → Meets (Swap (Nle u.p k) 0) x → Now (Off (Collecting t0 k set)) o → Acted (Off (Collecting t0 (k + 1) (slice_set set k (x % 2 ^ pages_in u.lay k)))) (done u.lay ws (Swap (Nle u.p k) 0)) []
    row_collects_off {t0} {k} {x} {set} ne f know = off_acts (F.untouched u at g g_in ws long b m _ f.within ne) know refl (λ d. go (in_set g k x (pages_in u.lay k) set d)) tt tt
      where
        go : ((k ≡ group_of g) × (has_bit g x ≡ true)) ⊎ (has_page set g ≡ true) → (b.processors u.p).dirty ≡ true
        go (inl z) = absurd (ne z.0)
        go (inr old) = know.joins old

    -- notices are drained
    pub row_drains : {j k x : ℕ} → Row (drains {j = j} {k = k} {x = x})
    row_drains {j} {k} {x} f know = off_acts (regrouped _ f.within (λ e. e) (λ of d. absurd (no_bit (g % 64) d))) know refl tt tt (λ e d. m.posted (node_of u) j at.node_in f.within.1 (subst (λ z. has_bit g (word u.lay ws (Global (node_of u) j z)) ≡ true) e (ap (has_bit g) (sym f.told) ∙ d)))

    pub row_draws_notice : {j k bits c x : ℕ} (e : (bit_at bits c == 1) ≡ true) (j_in : j < u.lay.nodes) (page_in : 64 * k + c < u.lay.pages) → Row (draws_notice {j = j} {k = k} {bits = bits} {b = c} {x = x} e j_in page_in)
    row_draws_notice e j_in page_in f k = off_acts (F.untouched u at g g_in ws long b m _ f.within (λ e. e)) k refl tt tt k.heard

    pub row_notices : {j k bits c t x : ℕ} → Row (notices {j = j} {k = k} {bits = bits} {b = c} {t = t} {x = x})
    row_notices f k = off_acts (F.untouched u at g g_in ws long b m _ f.within (λ e. e)) k refl tt tt k.heard

    pub row_flags : {j k bits c q x : ℕ} (e : (bit_at bits c == 1) ≡ true) (lo : node_of u * u.lay.procs ≤ q) (hi : q < node_of u * u.lay.procs + u.lay.procs) → Row (flags {j = j} {k = k} {bits = bits} {b = c} {q = q} {x = x} e lo hi)
    row_flags {j} {k} {bits} {c} {q} e lo hi f know = off_acts (regrouped _ f.within (λ e. e) (λ of d. go of (or_bit (word u.lay ws (OwnWord q k)) c (g % 64) d))) know refl tt tt know.heard
      where
        go : k ≡ group_of g → (has_bit g (word u.lay ws (OwnWord q k)) ≡ true) ⊎ (g % 64 ≡ c) → (b.nodes (q / u.lay.procs)).noted ≡ true
        go of (inl old) = m.listed q f.within.0 (subst (λ z. has_bit g (word u.lay ws (OwnWord q z)) ≡ true) of old)
        go of (inr same) = ap (λ z. (b.nodes z).noted) (in_node u.lay.procs (node_of u) q lo hi) ∙ know.heard of (ap (λ z. bit_at bits z == 1) same ∙ e)

    pub row_gives_notices : {x : ℕ} → Row (gives_notices {x = x})
    row_gives_notices f k = off_acts (F.untouched u at g g_in ws long b m _ f.within (λ e. e)) k refl tt (λ d. absurd (none_in g d)) tt

    pub row_takes : {k x : ℕ} {set : List ℕ} → Row (takes {k = k} {x = x} {set = set})
    row_takes {k} {x} {set} f know = off_acts (regrouped _ f.within (λ e. e) (λ of d. absurd (no_bit (g % 64) d))) know refl tt (λ d. go (in_set g k x (pages_in u.lay k) set d)) tt
      where
        go : ((k ≡ group_of g) × (has_bit g x ≡ true)) ⊎ (has_page set g ≡ true) → (b.nodes (node_of u)).noted ≡ true
        go (inl z) = m.listed u.p at.p_in (subst (λ i. has_bit g (word u.lay ws (OwnWord u.p i)) ≡ true) z.0 (ap (has_bit g) (sym f.told) ∙ z.1))
        go (inr old) = know.told old

    -- the closing work
    pub row_seeks_holder : {h j x : ℕ} → Row (seeks_holder {g = h} {j = j} {x = x})
    row_seeks_holder {h} {j} {x} f k = F.load u at g g_in ws long b m _ (go (x == 2))
      where
        go : (c : Bool) → Acted (Off (if c then Holder h j else Closes h (j + 1))) ws []
        go true = off_acts m k refl tt tt tt
        go false = off_acts m k refl tt tt tt
