use Rattle.std.proofs.Common.{rules, pos, ◌∷◌, []}
use Rattle.std.specs.Prelude.{◌↔◌, IsTrue}
use Rattle.fz_spec.specs.declared.term.Term.TheVariants.{Num}
use Rattle.fz_spec.specs.Truth.{IsResult}
use Rattle.fz_truth.proofs.Exchanges.{two_values}
use Rattle.fz_truth.proofs.numbers.is_number_of.Goals as goal

pub returns-in-len2 : goal.returns-in-len2
returns-in-len2 c =
    let is : IsTrue c.is_result_of_two.result ↔ IsResult c.args.operation (c.value_of-in-len2.result ∷ c.value_of-in-len2-2.result ∷ []) c.args.number = search rules in
    rw (two_values c.args.values.now c.args.terms.now (Num (pos 0)) (Num (pos 0)) c.in-len2.len_at_least c.in-len2.len_below) (rw (c.value_of-in-len2.ensures, c.value_of-in-len2-2.ensures) at is)
