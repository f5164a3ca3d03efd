use Rattle.std.proofs.Common.{◌≡◌, ◌∙◌, ap, ap₂, sym, length, arith, List}
use Rattle.std.proofs.lemmas.Int.{ints}
use mir.Syntax.{w32}
use mir.Val.{to_z, of_z}
use Rattle.fz_sets.specs.Sets.{set_size}
use Rattle.fz_tree.specs.declared.decision.Decision.{Decision}
use Rattle.fz_region.specs.Each.{each_of, value_at}
use Rattle.fz_region.specs.Alternatives.{decisions_of}
use Rattle.fz_region.proofs.Each.{each_length, decision_code}
use Rattle.fz_region.proofs.choice.Choice.decision.Goals as goal

pub value_at-requires : goal.value_at-requires
value_at-requires c =
    let v = c.in-Each.variable in
    let d = c.in-Each.values.value in
    let seen : each_of v d ≡ c.args.self.now = sym (ap decisions_of c.in-Each.is) ∙ c.self.view_is in
    let sizes = ap (λ (ds : List Decision). length ds) seen in
    omega (arith, c.requires, c.from.ensures, sizes, each_length v d, ap set_size c.deref.ensures)

pub returns-in-Each : goal.returns-in-Each
returns-in-Each c =
    let v = c.in-Each.variable in
    let d = c.in-Each.values.value in
    let seen : each_of v d ≡ c.args.self.now = sym (ap decisions_of c.in-Each.is) ∙ c.self.view_is in
    let i = c.value_at.type_inv in
    let number : to_z w32 (of_z w32 c.value_at.result) ≡ c.value_at.result = omega (arith, ints, i) in
    decision_code v c.args.alternative d c.args.self.now (to_z w32 (of_z w32 c.value_at.result)) seen c.requires
    (number ∙ c.value_at.ensures ∙ ap₂ value_at c.deref.ensures c.from.ensures)
