-- What holds of every state, and that each event keeps it.
use Rattle.std.proofs.Common.{◌≡◌, ◌≢◌, ℕ, suc, ◌<◌, ◌≤◌, ◌⊎◌, true, refl, sym, ap, ◌∙◌, subst, inl, inr, arith}
use Rattle.std.proofs.lemmas.Bool.{cases_eq, eq-eqb, ne_eqb}
use Rattle.dsm_owners.specs.Stages.{Why, Breaking}
use Rattle.dsm_owners.specs.Acts.{Act, Share_none, Share_one, Share_busy, Look_none, Look_some, Drop_zero, Drop_one, Drop_two, Empty_zero, Empty_some, put, moves, place}
use Rattle.dsm_owners.specs.Directory.{Node, Processor, State, Event, Do, Touch, Mark, node_after, processor_after, after_event}
use Rattle.dsm_owners.specs.Premises.{heard, May}
use Rattle.dsm_owners.proofs.Facts.{before, Looked, Good, Mine, Fits, Duo, Tells, Maps, Hears}
use Rattle.dsm_owners.proofs.Acts.{words, minds, actors, others, elsewhere, pair_from, pair_to, peer_own, peer_self, map_away, map_kept}
use Rattle.dsm_owners.proofs.AtStages.{zero, home_fits, look_free, home_good, home_mine, home_duo, mark_mine, mark_fits, breaks_here}

pub each_put : {A : Type 0} (P : ℕ → A → Type 0) (f : ℕ → A) (n : ℕ) (x : A) → P n x → ((k : ℕ) → k ≢ n → P k (f k)) → (k : ℕ) → P k (put f n x k)
each_put P f n x a b k = go (cases_eq k n)
  where
    go : (k ≡ n) ⊎ (k ≢ n) → P k (put f n x k)
    go (inl e) = rw (eq-eqb k n e) (subst (λ z. P z x) (sym e) a)
    go (inr ne) = rw (ne_eqb k n ne) (b k ne)

module _ (top : ℕ) (node : ℕ → ℕ) where
  pub record Holds (s : State) : Type 0 where
    pub home_node : s.home ≤ top
    pub good : (m : ℕ) → Good top s.home m (s.nodes m)
    pub mine : (r : ℕ) → Mine s.home (node r) (s.processors r)
    pub fits : (m r : ℕ) → Fits top s.home (node r) m r (s.nodes m) (s.processors r)
    pub duo : (m n : ℕ) → n ≢ m → Duo s.home m n (s.nodes m) (s.nodes n)
    pub peer : (q r : ℕ) → node r ≡ node q → Looked (s.processors q).stage r (s.processors r).map

  tells : (s : State) (e : Act) (m : ℕ) → Tells e m (s.nodes m) (heard s e)
  tells s (Share_none w j f b) m = λ i. ap (λ z. (s.nodes z).dir) i
  tells s (Share_one w j f b) m = λ i. ap (λ z. (s.nodes z).dir) i
  tells s (Share_busy w j f b) m = λ i. ap (λ z. (s.nodes z).dir) i
  tells s (Look_none j) m = λ i. ap (λ z. (s.nodes z).dir) i
  tells s (Look_some j) m = λ i. ap (λ z. (s.nodes z).dir) i
  tells s e m = tt

  maps : (s : State) (e : Act) (r : ℕ) → Maps e r (s.processors r).map (heard s e)
  maps s (Drop_zero j a) r = λ i. ap (λ z. (s.processors z).map) i
  maps s (Drop_one j a) r = λ i. ap (λ z. (s.processors z).map) i
  maps s (Drop_two j a) r = λ i. ap (λ z. (s.processors z).map) i
  maps s (Empty_zero j) r = λ i. ap (λ z. (s.processors z).map) i
  maps s (Empty_some j) r = λ i. ap (λ z. (s.processors z).map) i
  maps s e r = tt

  hears : (s : State) (p : ℕ) (e : Act) → Holds s → May top node s (Do p e) → (m r : ℕ) → Hears s.home m e (node r) (s.processors r)
  hears s p (Look_none j) h a m r = λ i. zero top s.home (s.nodes (node r)) (s.processors r) (s.processors r).stage (node r) r m (h.fits (node r) r) (h.mine r) (h.good (node r)) (ap (λ z. (s.nodes z).dir) i ∙ a.2.2)
  hears s p e h a m r = tt

  module _ (s : State) (p : ℕ) (e : Act) (h : Holds s) (a : May top node s (Do p e)) where
    abbrev n : ℕ
    n = node p

    abbrev k : ℕ
    k = place n e

    abbrev x : Node
    x = s.nodes k

    abbrev y : Processor
    y = s.processors p

    abbrev w : Processor
    w = before e y

    abbrev x' : Node
    x' = node_after p e x

    abbrev y' : Processor
    y' = processor_after e y

    as_from : (P : Processor → Type 0) → P y → P w
    as_from P b = subst (λ z. P (record y { stage = z })) a.0 b

    my_fits : (m : ℕ) → Fits top s.home n m p (s.nodes m) w
    my_fits m = as_from (λ z. Fits top s.home n m p (s.nodes m) z) (h.fits m p)

    my_mine : Mine s.home n w
    my_mine = as_from (λ z. Mine s.home n z) (h.mine p)

    my_look : (r : ℕ) → node r ≡ n → Looked (moves e).0 r (s.processors r).map
    my_look r i = subst (λ z. Looked z r (s.processors r).map) a.0 (h.peer p r i)

    good_next : (m : ℕ) → Good top s.home m (put s.nodes k x' m)
    good_next = each_put (λ m z. Good top s.home m z) s.nodes k x' (words top node s.home x y p e n (heard s e) a.2 a.1 my_mine (my_fits k) (h.good k)) (λ m ne. h.good m)

    mine_next : (r : ℕ) → Mine s.home (node r) (put s.processors p y' r)
    mine_next = each_put (λ r z. Mine s.home (node r) z) s.processors p y' (minds top node s.home x y p e n (heard s e) a.2 my_mine (my_fits k) (h.good k)) (λ r ne. h.mine r)

    fits_here : (r : ℕ) → Fits top s.home (node r) k r x' (put s.processors p y' r)
    fits_here = each_put (λ r z. Fits top s.home (node r) k r x' z) s.processors p y' (actors top node s.home x y p e n (heard s e) a.2 my_mine (h.good k) (λ i t. my_look p refl) refl (my_fits k)) (λ r ne. others top node s.home x y p e n (heard s e) r (node r) (s.processors r) a.2 ne (my_fits k) (h.good k) (λ i j t. my_look r j) refl (hears s p e h a k r) (h.fits k r))

    fits_there : (m : ℕ) → m ≢ k → (r : ℕ) → Fits top s.home (node r) m r (s.nodes m) (put s.processors p y' r)
    fits_there m ne = each_put (λ r z. Fits top s.home (node r) m r (s.nodes m) z) s.processors p y' (elsewhere top node s.home x y p e n (heard s e) m (s.nodes m) a.2 ne my_mine (my_fits k) (h.good k) (h.good m) (h.duo m k (λ i. ne (sym i))) (tells s e m) (my_fits m)) (λ r d. h.fits m r)

    fits_next : (m r : ℕ) → Fits top s.home (node r) m r (put s.nodes k x' m) (put s.processors p y' r)
    fits_next m r = each_put (λ m z. Fits top s.home (node r) m r z (put s.processors p y' r)) s.nodes k x' (fits_here r) (λ m ne. fits_there m ne r) m

    duo_here : (m : ℕ) → m ≢ k → Duo s.home k m x' (put s.nodes k x' m)
    duo_here m ne = each_put (λ m z. m ≢ k → Duo s.home k m x' z) s.nodes k x' (λ d. absurd (d refl)) (λ m d c. pair_from top node s.home x y p e n (heard s e) m (s.nodes m) a.2 c (my_fits k) (h.good m) (tells s e m) (h.duo k m c)) m ne

    duo_there : (m : ℕ) → m ≢ k → (j : ℕ) → j ≢ m → Duo s.home m j (s.nodes m) (put s.nodes k x' j)
    duo_there m ne j d = each_put (λ j z. j ≢ m → Duo s.home m j (s.nodes m) z) s.nodes k x' (λ c. pair_to top node s.home x y p e n (heard s e) m (s.nodes m) a.2 ne (my_fits k) (my_fits m) (h.duo m k c)) (λ j b c. h.duo m j c) j d

    duo_next : (m j : ℕ) → j ≢ m → Duo s.home m j (put s.nodes k x' m) (put s.nodes k x' j)
    duo_next m j d = each_put (λ m z. (j : ℕ) → j ≢ m → Duo s.home m j z (put s.nodes k x' j)) s.nodes k x' duo_here duo_there m j d

    peer_mine : (r : ℕ) → node r ≡ n → Looked y'.stage r (put s.processors p y' r).map
    peer_mine r i = each_put (λ r z. node r ≡ n → Looked y'.stage r z.map) s.processors p y' (λ j. peer_self top node s.home x y p e n (heard s e) a.2 (my_fits k) j (maps s e p) (my_look p j)) (λ r d j. peer_own top node s.home x y p e n (heard s e) r (s.processors r).map a.2 (my_fits k) j (maps s e r) (my_look r j)) r i

    kept_map : (q : ℕ) → q ≢ p → n ≡ node q → (s.nodes (node q)).turn ≡ suc q → y'.map ≡ y.map
    kept_map q ne i t = go (cases_eq k n)
      where
        go : (k ≡ n) ⊎ (k ≢ n) → y'.map ≡ y.map
        go (inl d) = map_kept top node s.home x y p e n (heard s e) q a.2 (my_fits k) d ne (subst (λ z. (s.nodes z).turn ≡ suc q) (sym i ∙ sym d) t)
        go (inr d) = map_away top node s.home x y p e n d

    peer_other : (q : ℕ) → q ≢ p → (r : ℕ) → node r ≡ node q → Looked (s.processors q).stage r (put s.processors p y' r).map
    peer_other q ne r i = each_put (λ r z. node r ≡ node q → Looked (s.processors q).stage r z.map) s.processors p y' (λ j. look_free top s.home x y (s.processors q).stage (node q) p y'.map (λ t. rw (kept_map q ne j ((h.fits (node q) q).turn_is t)) (h.peer q p j))) (λ r d j. h.peer q r j) r i

    peer_next : (q r : ℕ) → node r ≡ node q → Looked (put s.processors p y' q).stage r (put s.processors p y' r).map
    peer_next q r i = each_put (λ q z. (r : ℕ) → node r ≡ node q → Looked z.stage r (put s.processors p y' r).map) s.processors p y' peer_mine (λ q ne r j. peer_other q ne r j) q r i

    pub keeps_act : Holds (after_event node s (Do p e))
    keeps_act = record { home_node = h.home_node; good = good_next; mine = mine_next; fits = fits_next; duo = duo_next; peer = peer_next }

  touched : (s : State) (p : ℕ) → Holds s → node p < top → s.home ≡ 0 → Holds (record s { home = suc (node p) })
  touched s p h i a = record { home_node = i; good = λ m. home_good top s.home (s.nodes m) (s.processors p) m (node p) a (h.good m); mine = λ r. home_mine top s.home (s.nodes r) (s.processors r) (node r) (node p) a (h.mine r); fits = λ m r. home_fits top s.home (s.nodes m) (s.processors r) (s.processors r).stage (node r) m r (node p) a (h.mine r) (h.good m) (h.fits m r); duo = λ m n ne. home_duo top s.home (s.nodes m) (s.processors p) m n (node p) (s.nodes n) a (h.good n) (h.duo m n ne); peer = h.peer }

  marked : (s : State) (p q : ℕ) (c : Why) (j : ℕ) → Holds s → (s.processors p).stage ≡ Breaking c j → node q ≡ j → Holds (after_event node s (Mark p q c j))
  marked s p q c j h a b = record { home_node = h.home_node; good = h.good; mine = mine_all; fits = λ m. fits_all m; duo = h.duo; peer = peer_all }
    where
      z : Processor
      z = record (s.processors q) { nle = true }

      at_break : ((s.nodes j).dir ≡ 2) × (s.home ≢ 0)
      at_break = breaks_here top s.home (s.nodes j) (s.processors p) c j (node p) p a (subst (λ u. Fits top s.home (node p) j p (s.nodes j) (record (s.processors p) { stage = u })) a (h.fits j p)) (h.good j)

      here : (s.nodes (node q)).dir ≡ 2
      here = subst (λ u. (s.nodes u).dir ≡ 2) (sym b) at_break.0

      free : (m : ℕ) → node q ≢ m → node q < (s.nodes m).sure → ⊥
      free m ne i = let d = (h.duo m (node q) ne).no_claim i in absurd (omega (arith, d, here))

      mine_all : (r : ℕ) → Mine s.home (node r) (put s.processors q z r)
      mine_all = each_put (λ r u. Mine s.home (node r) u) s.processors q z (mark_mine top s.home (s.nodes j) (s.processors q) (node q) at_break.1 (h.mine q)) (λ r ne. h.mine r)

      own : (m : ℕ) → node q ≡ m → (s.nodes m).dir ≢ 0
      own m i d = let e : (s.nodes m).dir ≡ 2 = subst (λ u. (s.nodes u).dir ≡ 2) i here in absurd (omega (arith, d, e))

      fits_all : (m r : ℕ) → Fits top s.home (node r) m r (s.nodes m) (put s.processors q z r)
      fits_all m = each_put (λ r u. Fits top s.home (node r) m r (s.nodes m) u) s.processors q z (mark_fits top s.home (s.nodes m) (s.processors q) (node q) m q (own m) (free m) (h.fits m q)) (λ r ne. h.fits m r)

      peer_at : (t r : ℕ) → node r ≡ node t → Looked (s.processors t).stage r (put s.processors q z r).map
      peer_at t r i = each_put (λ r u. node r ≡ node t → Looked (s.processors t).stage r u.map) s.processors q z (λ i. h.peer t q i) (λ r ne i. h.peer t r i) r i

      peer_all : (t r : ℕ) → node r ≡ node t → Looked (put s.processors q z t).stage r (put s.processors q z r).map
      peer_all t r i = each_put (λ t u. (r : ℕ) → node r ≡ node t → Looked u.stage r (put s.processors q z r).map) s.processors q z (λ r i. peer_at q r i) (λ t ne r i. peer_at t r i) t r i

  pub keeps : (s : State) (e : Event) → Holds s → May top node s e → Holds (after_event node s e)
  keeps s (Do p e) h a = keeps_act s p e h a
  keeps s (Touch p write) h a = touched s p h a.1 a.2
  keeps s (Mark p q why j) h a = marked s p q why j h a.0 a.2
