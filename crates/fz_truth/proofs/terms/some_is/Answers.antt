use Rattle.std.proofs.Common.{◌≡◌, ℤ, rules}
use Rattle.std.specs.Prelude.{◌↔◌, IsTrue}
use Rattle.std.specs.List.{Any}
use Rattle.fz_spec.specs.Constraints.{term_value}
use Rattle.fz_truth.proofs.ListLaws.{some_mapped, iff_through}
use Rattle.fz_truth.proofs.terms.some_is.Goals as goal

pub returns : goal.returns
returns c =
    let some : IsTrue c.any.result ↔ Any (λ t. term_value c.args.values.now t ≡ c.args.number) c.args.terms.now = search rules in
    iff_through some (some_mapped (λ (x : ℤ). x ≡ c.args.number) (term_value c.args.values.now) c.args.terms.now)
