-- Every copy that counts holds the initial value or a stored one.
use Rattle.std.proofs.Common.{◌≡◌, ℕ, ◌⊎◌, Bool, true, Option, None, Some, List, [], ◌∷◌, refl, sym, subst, inl, inr, arith}
use Rattle.dsm_copies.specs.Modes.{Mode, Bare, Twinned, Flush_load, Flush_compare, Flush_refresh, Flush_send, Flush_end, Flush_tell, Flush_over, Merge_load, Merge_compare, Merge_write, Merge_refresh, Merge_end, Overwrite_load, Overwrite_write, Overwrite_end, Make_load, Make_write, Make_end, Enter_load, Enter_write, Enter_end, Exclusive, Break_load, Break_refresh, Break_send, Break_end, op_mode, op_frame, op_twin, op_master, op_fetched, outdated, touched}
use Rattle.dsm_copies.specs.Copies.{Node, State, Event, Load, Store, Signal, Pass, Begin, Op, Drop, Home_sent, Home_told, Enter, Home_enter, Home_break, Kind, Flush, Merge, Overwrite, Make, Break, op_node, out_node, touch_node, begun, store_at, after_event, after, start, read}
use Rattle.dsm_copies.specs.Premises.{RunsUnder, Loose}
use Rattle.dsm_copies.specs.Laws.{Stores, Stored, LoadsHaveASource}
use Rattle.dsm_copies.proofs.Needs.{IsFetched, MayLoose, loose_needs}
use Rattle.dsm_copies.proofs.Holds.{each_put}

module _ (S : ℕ → Type 0) where
  -- a frame with a twin has a stored value, or that of the twin
  abbrev Comes_by_twin : (f t : ℕ) → Bool → Type 0
  Comes_by_twin f t fetched = (S f ⊎ (f ≡ t)) × (fetched ≡ true → S f)

  -- what is known of the values at a node, by what is open: those that can come home or be loaded are stored ones
  abbrev Comes : (f t : ℕ) → Bool → Mode → Type 0
  Comes f t fetched Bare = (fetched ≡ true → S f)
  Comes f t fetched Twinned = Comes_by_twin f t fetched
  Comes f t fetched Flush_load = Comes_by_twin f t fetched
  Comes f t fetched (Flush_compare v seen) = Comes_by_twin f t fetched × ((S f × S v) ⊎ (v ≡ t))
  Comes f t fetched (Flush_refresh v seen) = S f × S v
  Comes f t fetched (Flush_send v seen) = S f × S v
  Comes f t fetched Flush_end = Comes_by_twin f t fetched
  Comes f t fetched Flush_tell = Comes_by_twin f t fetched
  Comes f t fetched Flush_over = Comes_by_twin f t fetched
  Comes f t fetched (Merge_load late) = Comes_by_twin f t fetched
  Comes f t fetched (Merge_compare h settled late) = Comes_by_twin f t fetched × S h
  Comes f t fetched (Merge_write h settled late) = S h × (fetched ≡ true → S f)
  Comes f t fetched (Merge_refresh h settled late) = S f × S h
  Comes f t fetched (Merge_end late) = S f
  Comes f t fetched (Overwrite_load late) = (fetched ≡ true → S f)
  Comes f t fetched (Overwrite_write h settled late) = (fetched ≡ true → S f) × S h
  Comes f t fetched (Overwrite_end late) = S f
  Comes f t fetched Make_load = (fetched ≡ true → S f)
  Comes f t fetched (Make_write v) = (S f ⊎ (f ≡ v)) × (fetched ≡ true → S f)
  Comes f t fetched Make_end = Comes_by_twin f t fetched
  Comes f t fetched (Enter_load late) = (fetched ≡ true → S f)
  Comes f t fetched (Enter_write h settled late) = (fetched ≡ true → S f) × S h
  Comes f t fetched (Enter_end late) = S f
  Comes f t fetched Exclusive = S f
  Comes f t fetched Break_load = S f
  Comes f t fetched (Break_refresh v seen) = S f × S v
  Comes f t fetched (Break_send v seen) = S f × S v
  Comes f t fetched Break_end = S f

  frame_comes : (f t : ℕ) (fetched : Bool) → fetched ≡ true → (x : Mode) → Comes f t fetched x → S f
  frame_comes f t fetched e Bare s = s e
  frame_comes f t fetched e x s = grind arith

  op_comes : (m prog f t : ℕ) (fetched : Bool) → S m → (x : Mode) → Comes f t fetched x → Comes (op_frame f x) (op_twin t x) (op_fetched fetched x) (op_mode m prog f t x) × S (op_master m x)
  op_comes m prog f t fetched a Bare s = grind arith
  op_comes m prog f t fetched a x s = grind arith

  out_comes : (f t : ℕ) (fetched : Bool) (x : Mode) → Comes f t fetched x → Comes f t fetched (outdated x)
  out_comes f t fetched Bare s = s
  out_comes f t fetched x s = s

  touch_comes : (f t u : ℕ) (fetched : Bool) → S u → (x : Mode) → Comes f t fetched x → Comes u t fetched (touched x)
  touch_comes f t u fetched a Bare s = grind arith
  touch_comes f t u fetched a x s = grind arith

  abbrev NodeComes : Node → Type 0
  NodeComes x = Comes x.frame x.twin x.fetched x.mode

  begin_comes : (place : ℕ → Option ℕ) (s : State) (n : ℕ) (kind : Kind) → MayLoose place s (Begin n kind) → NodeComes (s.nodes n) → NodeComes (record (s.nodes n) { mode = begun s.progress kind })
  begin_comes place s n Flush e c = subst (λ y. Comes (s.nodes n).frame (s.nodes n).twin (s.nodes n).fetched y) e c
  begin_comes place s n Merge e c = subst (λ y. Comes (s.nodes n).frame (s.nodes n).twin (s.nodes n).fetched y) e c
  begin_comes place s n Overwrite e c = λ fetched. frame_comes _ _ _ fetched (s.nodes n).mode c
  begin_comes place s n Make e c = λ fetched. frame_comes _ _ _ fetched (s.nodes n).mode c
  begin_comes place s n Break e c = subst (λ y. Comes (s.nodes n).frame (s.nodes n).twin (s.nodes n).fetched y) e c

  record Origin (s : State) : Type 0 where
    master : S s.master
    each : (k : ℕ) → NodeComes (s.nodes k)

  store_origin : (s : State) (p v : ℕ) (w : Option ℕ) → Origin s → S v → Origin (store_at s p w v)
  store_origin s p v None o a = record { master = a; each = λ k. out_comes _ _ _ (s.nodes k).mode (o.each k) }
  store_origin s p v (Some n) o a = record { master = o.master; each = each_put (λ k y. NodeComes y) (λ k. out_node (s.nodes k)) n (touch_node v (s.nodes n)) (touch_comes _ _ _ _ a (s.nodes n).mode (o.each n)) (λ k ne. out_comes _ _ _ (s.nodes k).mode (o.each k)) }

  module _ (place : ℕ → Option ℕ) where
    origin_keeps : (s : State) (e : Event) → ((v : ℕ) → Stores e v → S v) → MayLoose place s e → Origin s → Origin (after_event place s e)
    origin_keeps s (Load p v) st may o = o
    origin_keeps s (Store p v) st may o = store_origin s p v (place p) o (st v refl)
    origin_keeps s (Signal p) st may o = record { master = o.master; each = o.each }
    origin_keeps s (Pass q) st may o = record { master = o.master; each = o.each }
    origin_keeps s (Begin n kind) st may o = record { master = o.master; each = each_put (λ k y. NodeComes y) s.nodes n _ (begin_comes place s n kind may (o.each n)) (λ k ne. o.each k) }
    origin_keeps s (Op n) st may o = let z = op_comes s.master s.progress _ _ _ o.master (s.nodes n).mode (o.each n) in record { master = z.1; each = each_put (λ k y. NodeComes y) s.nodes n (op_node s.master s.progress (s.nodes n)) z.0 (λ k ne. o.each k) }
    origin_keeps s (Drop n) st may o = record { master = o.master; each = each_put (λ k y. NodeComes y) s.nodes n _ (λ e. frame_comes _ _ _ e (s.nodes n).mode (o.each n)) (λ k ne. o.each k) }
    origin_keeps s Home_sent st may o = record { master = o.master; each = o.each }
    origin_keeps s Home_told st may o = record { master = o.master; each = o.each }
    origin_keeps s (Enter n) st may o = record { master = o.master; each = each_put (λ k y. NodeComes y) s.nodes n _ (λ e. frame_comes _ _ _ e (s.nodes n).mode (o.each n)) (λ k ne. o.each k) }
    origin_keeps s Home_enter st may o = record { master = o.master; each = o.each }
    origin_keeps s Home_break st may o = record { master = o.master; each = o.each }

    origin_after : (s : State) (es : List Event) → ((v : ℕ) → Stored es v → S v) → RunsUnder place Loose s es → Origin s → Origin (after place s es)
    origin_after s [] st r o = o
    origin_after s (e ∷ older) st r o = origin_keeps (after place s older) e (λ v a. st v (inl a)) (loose_needs place (after place s older) e r.0) (origin_after s older (λ v a. st v (inr a)) r.1 o)

    origin_read : (s : State) (w : Option ℕ) → Origin s → IsFetched s w → S (read s w)
    origin_read s None o f = o.master
    origin_read s (Some n) o f = frame_comes _ _ _ f (s.nodes n).mode (o.each n)

pub sourced : LoadsHaveASource
sourced place init frames twins p v es r =
    let S : ℕ → Type 0 = λ u. (u ≡ init) ⊎ Stored es u in
    let s = after place (start init frames twins) es in
    let o = origin_after S place (start init frames twins) es (λ u a. inr a) r.1 (record { master = inl refl; each = λ k e. absurd (cc e) }) in
    let may : MayLoose place s (Load p v) = loose_needs place s (Load p v) r.0 in
    subst S (sym may.1) (origin_read S place s (place p) o may.0)
