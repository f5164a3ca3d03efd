use Rattle.std.proofs.Common.{◌≡◌, ◌∙◌, inl, inr, sym, ap, arith, Some, None}
use Rattle.std.proofs.Math.Facts.{to_z-of_z}
use Rattle.std.proofs.lemmas.Option.{slice_get-get_or, slice_get_cases}
use Rattle.std.specs.Prelude.{slice_get}
use Rattle.fz_spec.specs.Instance.{Variable}
use Rattle.fz_engine.proofs.Shapes.{none_from, variable_from}
use Rattle.fz_engine.proofs.stronger.is_term_from.Goals as goal

pub returns-in-Some : goal.returns-in-Some
returns-in-Some c =
    let vs = c.args.variables.now in
    let found = c.in-Some.ensures.lookup in
    let at : slice_get vs c.in-Var.place ≡ Some c.in-Some.variable.now = slice_get-get_or vs c.in-Var.place c.in-Some.variable.now found.3.0 ∙ ap (λ (u : Variable). Some u) (sym found.1) in
    variable_from vs c.in-Var.place c.in-Some.variable.now c.args.term c.args.first c.args.end c.is_set_from.result c.in-Var.is at
    (rw (to_z-of_z c.ranges.first, to_z-of_z c.ranges.end, c.set.ensures.set) at c.is_set_from.ensures)

pub returns-in-None : goal.returns-in-None
returns-in-None c =
    let vs = c.args.variables.now in
    let past = c.in-None.ensures.lookup.3 in
    let at : slice_get vs c.in-Var.place ≡ None = elim (slice_get_cases vs c.in-Var.place).1 [
      | inl at ↦ let below = at.1 in absurd (omega (arith, below, past))
      | inr gone ↦ gone.1
    ] in
    none_from vs c.in-Var.place c.args.term c.args.first c.args.end c.in-Var.is at
