use Rattle.std.proofs.Common.{refl, inr}
use Rattle.dsm_flat.proofs.Deciding.{latest_store, latest_races, latest_overtakes}
use Rattle.dsm_flat.proofs.latest.Latest.store.Goals as goal
use Rattle.dsm_flat.proofs.latest.Latest.store.Goals.{else-is_behind-via-then-is_behind+else-covers, else-is_behind-via-else-is_behind}

pub returns-then-covers : goal.returns-then-covers
returns-then-covers c = λ ts w done now v f l.
    latest_store ts w done c.args.x c.args.clock.now now v c.args.self.now l _ f (c.if-is_behind.ensures.0 refl) (c.if-covers.ensures.0 refl) refl refl c.clear.ensures

pub returns-else-is_behind : goal.returns-else-is_behind
returns-else-is_behind c = λ ts w done now v f l.
    elim c.else-is_behind.branch [
      | else-is_behind-via-then-is_behind+else-covers b ↦ latest_overtakes ts w done c.args.x c.args.clock.now now v c.args.self.now l _ f (λ h. absurd (let e = b.if-covers.ensures.1 h in cc e)) refl
      | else-is_behind-via-else-is_behind b ↦ latest_races ts w done c.args.x c.args.clock.now now v c.args.self.now l _ (f.0, inr f.1) (λ h. absurd (let e = b.if-is_behind.ensures.1 h in cc e)) refl
    ]
