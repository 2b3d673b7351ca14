use Rattle.std.proofs.Common.{refl, inl}
use Rattle.std.proofs.lemmas.Result.{on_ok_weaker}
use Rattle.dsm_flat.proofs.Deciding.{latest_load, latest_races}
use Rattle.dsm_flat.proofs.latest.Latest.load.Goals as goal

pub returns-then-is_behind : goal.returns-then-is_behind
returns-then-is_behind c =
    on_ok_weaker c.put.result (λ put ts w done now v f l.
    latest_load ts w done c.args.x c.args.clock.now now v c.args.self.now l _ f (c.if-is_behind.ensures.0 refl) refl refl put) c.put.ensures

pub returns : goal.returns
returns c = λ ts w done now v f l.
    latest_races ts w done c.args.x c.args.clock.now now v c.args.self.now l _ (f.0, inl f.1) (λ h. absurd (let e = c.if-is_behind.ensures.1 h in cc e)) refl
