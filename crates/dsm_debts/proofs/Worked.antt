-- The examples meet every premise, computed by the checker.
use Rattle.std.proofs.Common.{true, false, refl, inl, inr, arith}
use Rattle.dsm_debts.specs.Examples.{Meets, shared, alone, home, MovesMeet}

pub shared_meets : Meets false shared
shared_meets = ((4, refl, refl), ((2, false, 3, refl, refl), ((2, 3, refl, grind arith), ((2, true, 2, refl, refl), ((2, true, 1, refl, refl), ((2, true, 0, refl, refl), ((2, true, 0, refl), ((2, true, refl), (refl, (refl, (refl, (refl, (refl, ((2, 5, refl, refl), ((4, refl, refl, refl), ((4, refl), (refl, ((2, refl, refl), ((2, refl, refl, grind arith, refl), (refl, ((1, refl, refl), ((0, true, 1, refl, refl), ((0, true, 0, refl, refl), ((0, true, 0, refl), ((0, true, refl), (refl, (refl, (refl, (refl, ((refl, refl), (refl, ((0, 3, refl, refl), ((1, refl, refl, refl), ((2, refl), (refl, ((1, refl), (refl, ((refl, refl), ((refl, refl), (((grind arith, grind arith), refl, inr refl), (((grind arith, grind arith), refl, inr refl), (((grind arith, grind arith), refl, inr refl), ((refl, refl, refl), tt)))))))))))))))))))))))))))))))))))))))))))

pub alone_meets : Meets false alone
alone_meets = (tt, ((5, refl, refl), ((5, refl, refl, grind arith, refl), (refl, ((4, refl, refl), ((1, true, 0, refl, refl), ((1, true, 0, refl), ((1, true, refl), (refl, (refl, (refl, (refl, (refl, ((1, 6, refl, refl), ((4, refl, refl, refl), ((5, refl), (refl, ((4, refl), (refl, ((refl, refl), (refl, (refl, (refl, (refl, ((refl, refl), (refl, ((3, refl, grind arith, refl), ((2, refl, refl), ((1, refl), ((0, refl), ((refl, refl), ((3, refl, refl), ((refl, refl), ((3, refl), (refl, ((refl, refl), (((grind arith, grind arith), refl, refl), (((grind arith, grind arith), refl, refl), ((refl, refl), ((1, refl, refl), ((1, false, 3, refl, refl), ((1, 3, refl, grind arith), ((1, true, 2, refl, refl), ((1, true, 1, refl, refl), ((1, true, 0, refl, refl), ((1, true, 0, refl), ((1, true, refl), (refl, (refl, (refl, (refl, (refl, ((1, 2, refl, refl), ((1, refl, refl, refl), ((1, refl), (refl, (((grind arith, grind arith), refl, inr refl), (refl, ((refl, refl), (((grind arith, grind arith), refl, inr refl), ((refl, refl, refl), tt)))))))))))))))))))))))))))))))))))))))))))))))))))))))))))))

pub home_meets : Meets true home
home_meets = ((4, refl, refl), ((1, false, 0, refl, refl), ((1, false, 0, refl), ((1, false, refl), ((1, 5, refl, inl refl), ((4, refl, refl, refl), ((4, refl), (refl, ((3, refl, grind arith, refl), ((2, refl, refl), ((1, refl), ((0, refl, refl), ((refl, refl), ((3, refl, refl), ((3, refl), (refl, ((refl, refl), (((grind arith, grind arith), refl, refl), ((refl, refl), ((1, refl, refl), ((0, false, 0, refl, refl), ((0, false, 0, refl), ((0, false, refl), ((0, 2, refl, inl refl), ((1, refl, refl, refl), ((1, refl), (refl, ((refl, refl), (((grind arith, grind arith), refl, inl refl), tt)))))))))))))))))))))))))))))

pub moves_meet : MovesMeet
moves_meet = (tt, ((refl, refl), ((refl, refl), ((refl, refl), ((tt, refl), ((refl, tt), ((refl, tt), ((refl, tt), ((refl, tt), ((refl, tt), (((2, refl, grind arith, refl), tt), (((1, refl), tt), (((refl, refl), tt), (tt, (((3, refl, refl), refl), (((3, refl), tt), ((refl, tt), (((refl, refl), refl), ((((grind arith, grind arith), refl, refl), tt), (((refl, refl), refl), ((refl, refl), ((refl, refl), (refl, (tt, (tt, (tt, ((refl, refl), ((refl, refl), ((refl, refl), ((tt, refl), (tt, (((1, refl, refl), refl), (((1, false, 2, refl, refl), tt), (((1, 2, refl, grind arith), tt), (((1, true, 1, refl, refl), tt), (((1, true, 1, refl), tt), (((1, true, refl), tt), ((refl, tt), ((refl, tt), ((refl, tt), ((refl, λ e. absurd (cc e)), ((refl, tt), (((1, 2, refl, refl), tt), (((1, refl, refl, refl), tt), (((1, refl), tt), ((refl, tt), (((refl, refl), refl), ((((grind arith, grind arith), refl, inr refl), tt), (((refl, refl, refl), tt), ((refl, refl), ((refl, refl), ((refl, refl), ((tt, refl), ((refl, refl), ((refl, refl), ((refl, refl), ((tt, refl), tt)))))))))))))))))))))))))))))))))))))))))))))))))))))))))
