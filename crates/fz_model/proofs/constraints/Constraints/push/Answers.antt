use Rattle.std.proofs.Common.{arith, ◌∙◌, ap, length, List}
use Rattle.std.proofs.lemmas.List.{length_push}
use Rattle.fz_spec.specs.Constraints.{Constraint}
use Rattle.fz_model.proofs.Numbered.{counted_behind}
use Rattle.fz_model.proofs.constraints.Constraints.push.Goals as goal

pub invariant_of-self-2 : goal.invariant_of-self-2
invariant_of-self-2 c = record {
  ends = c.self.invariant.ends;
  few =
      let cs = c.self.inside.written.items in
      let count = counted_behind c.self.inside.grouped c.self.inside.groups.items cs c.self.invariant.ends in
      let size = ap (λ (l : List Constraint). length l) c.self.view_is in
      let more = ap (λ (l : List Constraint). length l) c.in_ok-push.ensures.items ∙ length_push cs c.args.constraint in
      let len = c.len.ensures in
      let full = c.if-len.false in
      let few = c.self.invariant.few in
      omega (arith, count, size, more, len, full, few);
}
