use Rattle.std.proofs.Common.{rules, sym, subst, ◌∷◌, []}
use Rattle.std.specs.Prelude.{◌↔◌, IsTrue}
use Rattle.fz_spec.specs.declared.shape.Operation.{Operation}
use Rattle.fz_spec.specs.declared.shape.Operation.TheVariants as operations
use Rattle.fz_spec.specs.Truth.{IsResult}
use Rattle.fz_truth.proofs.numbers.is_result_of_two.Goals as goal

pub returns-in-Remainder : goal.returns-in-Remainder
returns-in-Remainder c =
    let is : IsTrue c.is_remainder.result ↔ IsResult operations.Remainder (c.args.a ∷ c.args.b ∷ []) c.args.c = search rules in
    subst (λ (operation : Operation). IsTrue c.is_remainder.result ↔ IsResult operation (c.args.a ∷ c.args.b ∷ []) c.args.c) (sym c.in-Remainder.is) is
