-- What is left of these lists at each point of the code.
use Rattle.std.specs.Prelude.{ℕ, suc, ◌+◌, ◌-◌, ◌*◌, ◌^◌, ◌==◌, ◌||◌, Bool, List, if◌then◌else◌, nat_lt}
use Rattle.dsm_words.specs.declared.item.Item.TheVariants.{Global, Notice, Own}
use Rattle.dsm_words.specs.Place.{Lay, lay_of, groups}
use Rattle.dsm_words.specs.Pages.{group_of, bit_of, pages_in, take_from}
use Rattle.dsm_words.specs.Script.{Script, End, Do, Get, Put, Or}
use Rattle.dsm_notice.specs.declared.post.Post.{Post}
use Rattle.dsm_notice.specs.declared.post.PostPoint.{PostPoint}
use Rattle.dsm_notice.specs.declared.post.PostPoint.TheVariants.{Dir as AtDir, Global as AtGlobal, Over}
use Rattle.dsm_notice.specs.declared.drain.Drain.{Drain}
use Rattle.dsm_notice.specs.declared.drain.DrainPoint.{DrainPoint}
use Rattle.dsm_notice.specs.declared.drain.DrainPoint.TheVariants.{Swap as AtSwap, Clock as AtClock, Notice as AtNotice, Own as AtOwn, Over as DrainOver}
use Rattle.dsm_notice.specs.declared.own.TakeOwn.{TakeOwn}
use Rattle.dsm_notice.specs.declared.stale.Stale.{Stale}
use Rattle.dsm_notice.specs.declared.stale.StalePoint.{StalePoint}
use Rattle.dsm_notice.specs.declared.stale.StalePoint.TheVariants.{Update as AtUpdate, Notice as AtHeard, Over as StaleOver}
use Rattle.dsm_notice.specs.Notices.{post_from, flag_from, hear, hear_from, drain_groups, drain_from, stale_script}

-- behind its node, where so many were told
abbrev pub post_left : Post → ℕ → Script ℕ
post_left d told = post_from d.n d.g d.h (d.m + 1) (d.lay.t.nodes - (d.m + 1)) told

abbrev pub post_at : Post → PostPoint → Script ℕ
post_at d AtDir = post_from d.n d.g d.h d.m (suc (d.lay.t.nodes - (d.m + 1))) d.told
post_at d AtGlobal = Do (Or (Global d.m d.n (group_of d.g)) (bit_of d.g)) (λ _. post_left d (d.told + 1))
post_at d Over = End d.told

abbrev pub post_rest : Post → Script ℕ
post_rest d = post_at d d.at

abbrev pub post_lay : Post → Lay
post_lay d = lay_of d.lay

-- behind its word
abbrev pub words_left : Drain → Script (Unit {0})
words_left d = drain_groups (lay_of d.lay) d.n d.m (d.k + 1) (groups (lay_of d.lay) - (d.k + 1)) (drain_from (lay_of d.lay) d.n (d.m + 1) (d.lay.t.nodes - (d.m + 1)))

-- from page b of its word on
abbrev pub pages_left : Drain → ℕ → ℕ → Script (Unit {0})
pages_left d bits b = hear_from (lay_of d.lay) d.n d.k bits b (pages_in (lay_of d.lay) d.k - b) (words_left d)

abbrev pub drain_at : Drain → DrainPoint → Script (Unit {0})
drain_at d AtSwap = drain_groups (lay_of d.lay) d.n d.m d.k (suc (groups (lay_of d.lay) - (d.k + 1))) (drain_from (lay_of d.lay) d.n (d.m + 1) (d.lay.t.nodes - (d.m + 1)))
drain_at d (AtClock bits b) = hear (lay_of d.lay) d.n d.k b (pages_left d bits (b + 1))
drain_at d (AtNotice bits b t) = Do (Put (Notice d.n (64 * d.k + b)) t) (λ _. flag_from d.k (2 ^ b) (d.n * d.lay.t.procs) d.lay.t.procs (pages_left d bits (b + 1)))
drain_at d (AtOwn bits b q left) = flag_from d.k (2 ^ b) q (suc left) (pages_left d bits (b + 1))
drain_at d DrainOver = End tt

abbrev pub drain_rest : Drain → Script (Unit {0})
drain_rest d = drain_at d d.at

abbrev pub drain_lay : Drain → Lay
drain_lay d = lay_of d.lay

abbrev pub own_rest : TakeOwn → Script (List ℕ)
own_rest t = if t.over then End t.set else take_from (lay_of t.lay) (λ k. Own t.p k) t.k (suc (groups (lay_of t.lay) - (t.k + 1))) t.set

-- behind its word, with this set
abbrev pub own_left : TakeOwn → List ℕ → Script (List ℕ)
own_left t set = take_from (lay_of t.lay) (λ k. Own t.p k) (t.k + 1) (groups (lay_of t.lay) - (t.k + 1)) set

abbrev pub own_lay : TakeOwn → Lay
own_lay t = lay_of t.lay

abbrev pub stale_at : Stale → StalePoint → Script Bool
stale_at s AtUpdate = stale_script s.n s.g
stale_at s (AtHeard update) = Do (Get (Notice s.n s.g)) (λ y. End (update == 0 || nat_lt update y))
stale_at s (StaleOver stale) = End stale

abbrev pub stale_rest : Stale → Script Bool
stale_rest s = stale_at s s.at

abbrev pub stale_lay : Stale → Lay
stale_lay s = lay_of s.lay
