use Rattle.std.proofs.Common.{◌≡◌, take, true}
use Rattle.std.specs.Prelude.{◌==◌}
use Rattle.std.specs.List.{list_all}
use Rattle.fz_check.proofs.call.are_all.Given as goal

-- all so far are equal
abbrev pub invariant-loop-other : goal.invariant-loop-other
invariant-loop-other l = list_all (λ m. m == l.length) (take l.other-index l.lengths) ≡ true
