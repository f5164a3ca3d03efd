use Rattle.std.proofs.Common.{◌≡◌, ◌∷◌, [], pos, rules}
use Rattle.fz_sets.specs.Sets.{AreOneSet}
use Rattle.fz_plain.specs.Plain.{IsTwice}
use Rattle.fz_plain.proofs.Results.{times_plain}
use Rattle.fz_plain.proofs.equations.plain_times.Goals as goal

pub returns-in_ok-set : goal.returns-in_ok-set
returns-in_ok-set c =
    let first : IsTwice c.args.x c.args.y = search rules in
    let second : IsTwice c.args.x c.args.z = search rules in
    let same : c.in_ok-set.set.value ≡ c.in_ok-from_ranges.field-0 = search rules in
    let one : AreOneSet c.in_ok-from_ranges.field-0 ((pos 0, pos 1) ∷ []) = search rules in
    times_plain c.args.x c.args.y c.args.z c.in_ok-set.set.value first second (rw same one)
