use Rattle.std.proofs.Common.{ℤ, List, Ok, map, false, ap, sym, ◌∙◌}
use Rattle.fz_language.specs.Entries.{with_value, number_of}
use Rattle.fz_spec.specs.declared.asked.Element.{Element}
use Rattle.fz_syntax.proofs.Integers.{unasked, asked, values_are}
use Rattle.fz_resolve.proofs.resolve.numbers_of_integers.Goals as goal

pub returns-in-Some : goal.returns-in-Some
returns-in-Some c = λ env.
    let e : Element = record { kind = c.args.kind; may_vary = false } in
    ap (with_value (map number_of)) (unasked env e c.args.integers.now c.in-Some.at (record { truth = c.in-Some.ensures.truth; integer = c.in-Some.ensures.integer }))

pub returns-in_ok-integer_values-in-None : goal.returns-in_ok-integer_values-in-None
returns-in_ok-integer_values-in-None c = λ env.
    let e : Element = record { kind = c.args.kind; may_vary = false } in
    ap (λ (vs : List ℤ). Ok vs) (c.in_ok-integer_values-in-None.ensures ∙ sym (values_are c.args.integers.now))
    ∙ ap (with_value (map number_of)) (asked env e c.args.integers.now (record { truth = c.in-None.ensures.truth; integer = c.in-None.ensures.integer }))
