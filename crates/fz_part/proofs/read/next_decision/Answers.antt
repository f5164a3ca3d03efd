use Rattle.std.proofs.Common.{rules}
use Rattle.std.specs.Prelude.{◌≡◌, ◌++◌}
use Rattle.std.proofs.Math.Facts.{to_z-of_z}
use mir.Val.{SFits}
use mir.Syntax.{w32}
use Rattle.std.specs.Fmt.{signed_decimal}
use Rattle.fz_part.proofs.Reading.{tail_text, first_of, second_of, rest_of, decision_is}
use Rattle.fz_part.proofs.read.next_decision.Goals as goal

pub returns-in_default-clause-next : goal.returns-in_default-clause-next
returns-in_default-clause-next c = λ d ds written is.
    c.in_default.ensures.sign d.comparison (signed_decimal d.value ++ tail_text ds) (first_of d ds c.args.text.now c.split_number.result.0.now c.split_number.result.1.now written is c.split_number.ensures.number).1

pub returns-in_default-natural-clause-next : goal.returns-in_default-natural-clause-next
returns-in_default-natural-clause-next c = λ d ds written is.
    c.in_default-natural.not-Some d.variable (c.natural.ensures d.variable written.variable (first_of d ds c.args.text.now c.split_number.result.0.now c.split_number.result.1.now written is c.split_number.ensures.number).0)

pub returns-in_default-integer-clause-next : goal.returns-in_default-integer-clause-next
returns-in_default-integer-clause-next c = λ d ds written is.
    let first = first_of d ds c.args.text.now c.split_number.result.0.now c.split_number.result.1.now written is c.split_number.ensures.number in
    let sign : (c.in-Some.comparison ≡ d.comparison) × (c.in-Some.rest.now ≡ signed_decimal d.value ++ tail_text ds) = c.in-Some.ensures.sign d.comparison (signed_decimal d.value ++ tail_text ds) first.1 in
    c.in_default-integer.not-Some d.value (c.integer.ensures d.value written.value (second_of d ds c.in-Some.rest.now c.split_number-2.result.0.now c.split_number-2.result.1.now written sign.1 c.split_number-2.ensures.number).0)

pub returns-clause-next : goal.returns-clause-next
returns-clause-next c = λ d ds written is.
    let first = first_of d ds c.args.text.now c.split_number.result.0.now c.split_number.result.1.now written is c.split_number.ensures.number in
    let sign : (c.in-Some.comparison ≡ d.comparison) × (c.in-Some.rest.now ≡ signed_decimal d.value ++ tail_text ds) = c.in-Some.ensures.sign d.comparison (signed_decimal d.value ++ tail_text ds) first.1 in
    let second = second_of d ds c.in-Some.rest.now c.split_number-2.result.0.now c.split_number-2.result.1.now written sign.1 c.split_number-2.ensures.number in
    let fits : SFits w32 c.in-Some-integer.value = search rules in (
      rw (to_z-of_z fits) (decision_is d c.in-Some-natural.variable c.in-Some.comparison c.in-Some-integer.value c.natural.result c.integer.result c.in-Some-natural.is c.in-Some-integer.is (c.natural.ensures d.variable written.variable first.0) (c.integer.ensures d.value written.value second.0) sign.0),
      rest_of ds c.split_number-2.result.1.now c.after_one.result.now second.1 c.after_one.ensures.empty c.after_one.ensures.after,
    )
