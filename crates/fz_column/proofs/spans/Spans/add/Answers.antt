use Rattle.std.proofs.Common.{◌≡◌, inl, inr, refl, sym, subst, rules, to_z, of_z, w32}
use Rattle.fz_sets.specs.Sets.{IsInSet}
use Rattle.fz_column.proofs.Growing.{end_in}
use Rattle.fz_column.proofs.spans.Spans.add.Goals as goal

pub returns-then-end_at : goal.returns-then-end_at
returns-then-end_at c = λ n.
    let spans = c.args.self.now in
    let kept : to_z w32 (of_z w32 c.args.number) ≡ c.args.number = search rules in
    let is_in = end_in spans c.args.number c.if-end_at.ensures.filled (rw kept at c.if-end_at.ensures.end.0 refl) in
    ((λ is. inl is), (λ h. elim h [ inl is ↦ is | inr e ↦ subst (IsInSet spans) (sym e) is_in ]))
