use Rattle.std.proofs.Common.{◌≡◌, ℤ, rules}
use Rattle.std.specs.Prelude.{◌↔◌, IsTrue}
use Rattle.std.specs.List.{All}
use Rattle.fz_spec.specs.Constraints.{term_value}
use Rattle.fz_truth.proofs.ListLaws.{all_mapped, iff_through}
use Rattle.fz_truth.proofs.terms.all_are.Goals as goal

pub returns : goal.returns
returns c =
    let each : IsTrue c.all.result ↔ All (λ t. let x = term_value c.args.values.now t in x ≡ c.args.number) c.args.terms.now = search rules in
    iff_through each (all_mapped (λ (x : ℤ). x ≡ c.args.number) (term_value c.args.values.now) c.args.terms.now)
