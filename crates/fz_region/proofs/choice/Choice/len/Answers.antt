use Rattle.std.proofs.Common.{◌≡◌, ◌∙◌, ap, sym, length, List}
use Rattle.fz_sets.specs.Sets.{set_size}
use Rattle.fz_tree.specs.declared.decision.Decision.{Decision}
use Rattle.fz_region.specs.Each.{each_of}
use Rattle.fz_region.specs.Alternatives.{decisions_of}
use Rattle.fz_region.proofs.Each.{each_length}
use Rattle.fz_region.proofs.choice.Choice.len.Goals as goal

pub returns-in-Each-clause-len : goal.returns-in-Each-clause-len
returns-in-Each-clause-len c =
    let v = c.in-Each.field-0 in
    let d = c.in-Each.values.value in
    let seen : each_of v d ≡ c.args.self.now = sym (ap decisions_of c.in-Each.is) ∙ c.self.view_is in
    c.size.ensures.size ∙ ap set_size c.deref.ensures ∙ sym (each_length v d) ∙ ap (λ (ds : List Decision). length ds) seen
