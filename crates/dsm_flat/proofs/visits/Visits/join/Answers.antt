use Rattle.std.proofs.Common.{◌≡◌, refl, sym, ◌∙◌, subst, length}
use Rattle.std.specs.Prelude.{◌⊎◌, ◌↔◌}
use Rattle.std.proofs.lemmas.Option.{slice_get_read, same_Some}
use Rattle.dsm_flat.specs.Clocks.{Counted, FromSignals}
use Rattle.dsm_entry.specs.declared.entry.Place.{Place}
use Rattle.dsm_flat.specs.Order.{Holds}
use Rattle.dsm_flat.proofs.Adding.{set_here}
use Rattle.dsm_flat.proofs.Following.{free_at, joins_pass}
use Rattle.dsm_flat.proofs.visits.Visits.join.Goals as goal

pub pass-requires : goal.pass-requires
pass-requires c = let r = c.requires.gates in (r.0, r.1, r.2, r.3, subst (λ e. Holds r.0 r.2 e) c.in-Pass.is r.4)

pub returns-in_ok-pass-clause-gates : goal.returns-in_ok-pass-clause-gates
returns-in_ok-pass-clause-gates c = λ ts done a f. c.in_ok-pass.ensures.gates ts done a (free_at ts done c.args.e c.in-Pass.o c.in-Pass.c c.in-Pass.is f)

pub returns-in_ok-pass-clause-joins : goal.returns-in_ok-pass-clause-joins
returns-in_ok-pass-clause-joins c = λ ts done y own past a f h own_at past_at.
    let list = c.args.self.now.clocks.items in
    let p = c.args.p in
    let at = slice_get_read list (length list) p c.index_mut.result.now refl c.requires.p c.index_mut.ensures.value in
    let was : c.index_mut.result.now ≡ own = same_Some c.index_mut.result.now own (sym at ∙ own_at) in
    let is : c.pass.new.clock ≡ past = same_Some c.pass.new.clock past (sym (set_here list p c.pass.new.clock c.requires.p) ∙ past_at) in
    let k : (x : Place) → Counted c.pass.new.clock x ↔ (Counted c.index_mut.result.now x ⊎ FromSignals ts c.in-Pass.o c.in-Pass.c x) = c.in_ok-pass.ensures.clock ts done y a (free_at ts done c.args.e c.in-Pass.o c.in-Pass.c c.in-Pass.is f) (subst (λ e. Holds ts y e) c.in-Pass.is h) in
    joins_pass ts c.args.e c.in-Pass.o c.in-Pass.c own past c.in-Pass.is
    (subst (λ c'. (x : Place) → Counted c' x ↔ (Counted own x ⊎ FromSignals ts c.in-Pass.o c.in-Pass.c x)) is (subst (λ o'. (x : Place) → Counted c.pass.new.clock x ↔ (Counted o' x ⊎ FromSignals ts c.in-Pass.o c.in-Pass.c x)) was k))
