-- The first worker of whose frontier a part can be cut off, from some place on.
use Rattle.std.proofs.Common.{◌≡◌, ◌+◌, ◌<◌, ℕ, zero, suc, List, [], ◌∷◌, true, false, cond, length, drop, ap, arith, Some}
use Rattle.std.specs.List.{slice_get, position_from}
use Rattle.fz_machine.specs.Cores.{Worker}
use Rattle.fz_machine.specs.Lawfulness.{can_be_cut}
use Rattle.fz_machine.specs.Schedule.{can}

pub cut_here : (ws : List Worker) (i n : ℕ) → i < length ws → can_be_cut (slice_get ws i) ≡ true → position_from can n (drop i ws) ≡ Some n
cut_here [] i n within is = absurd (omega (arith, within))
cut_here (w ∷ ws) zero n within is = ap (λ b. cond b (Some n) (position_from can (n + 1) ws)) is
cut_here (w ∷ ws) (suc i) n within is = cut_here ws i n (omega (arith, within)) is

pub cut_later : (ws : List Worker) (i n : ℕ) → i < length ws → can_be_cut (slice_get ws i) ≡ false → position_from can n (drop i ws) ≡ position_from can (n + 1) (drop (suc i) ws)
cut_later [] i n within is = absurd (omega (arith, within))
cut_later (w ∷ ws) zero n within is = ap (λ b. cond b (Some n) (position_from can (n + 1) ws)) is
cut_later (w ∷ ws) (suc i) n within is = cut_later ws i n (omega (arith, within)) is
