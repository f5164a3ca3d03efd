use Rattle.std.proofs.Common.{ℤ, rules}
use Rattle.std.specs.Prelude.{◌↔◌, IsTrue, ◌≤ℤ◌}
use Rattle.std.specs.List.{All}
use Rattle.fz_spec.specs.Constraints.{term_value}
use Rattle.fz_truth.proofs.ListLaws.{all_mapped, iff_through}
use Rattle.fz_truth.proofs.terms.none_is_below.Goals as goal

pub returns : goal.returns
returns c =
    let each : IsTrue c.all.result ↔ All (λ t. let x = term_value c.args.values.now t in c.args.least ≤ℤ x) c.args.terms.now = search rules in
    iff_through each (all_mapped (λ (x : ℤ). c.args.least ≤ℤ x) (term_value c.args.values.now) c.args.terms.now)
