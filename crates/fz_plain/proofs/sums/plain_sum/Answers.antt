use Rattle.std.proofs.Common.{◌≡◌, IsTrue, rules, to_z, of_z, w32}
use Rattle.fz_strength.specs.Sums.{left_factors, left_terms, right_number}
use Rattle.fz_plain.specs.Plain.{IsGathered}
use Rattle.fz_plain.proofs.Plainness.{gathered_either, sum_never}
use Rattle.fz_plain.proofs.sums.plain_sum.Goals as goal

pub returns-in-Some : goal.returns-in-Some
returns-in-Some c =
    let ks = left_factors c.args.factors.now c.args.last in
    let ts = left_terms c.args.terms.now c.args.last in
    let is : IsGathered ks ts c.in-Some.sum.factors.items c.in-Some.sum.terms.items = search rules in
    let read : to_z w32 (of_z w32 c.number_of.result) ≡ c.number_of.result = search rules in
    gathered_either c.args.relation ks c.in-Some.sum.factors.items ts c.in-Some.sum.terms.items (right_number c.args.last) c.gathered.result is (rw (read, c.number_of.ensures) at c.gathered.ensures)

pub returns-in-None : goal.returns-in-None
returns-in-None c =
    let yes : IsTrue c.is_never_term.result = search rules in
    rw c.never.ensures (sum_never c.args.relation (left_factors c.args.factors.now c.args.last) (left_terms c.args.terms.now c.args.last) (right_number c.args.last) (c.is_never_term.ensures.0 yes))
