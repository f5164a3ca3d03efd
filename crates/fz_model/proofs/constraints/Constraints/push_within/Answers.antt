use Rattle.std.proofs.Common.{arith, rules, ◌≡◌, ◌+◌, ◌<◌, ◌^◌, ap, length, List}
use Rattle.fz_spec.specs.Constraints.{Constraint}
use Rattle.fz_spec.specs.declared.term.Term.{Term}
use Rattle.fz_model.specs.Groups.{Group}
use Rattle.fz_model.proofs.Numbered.{counted_behind, ends_more, in_group}
use Rattle.fz_model.proofs.constraints.Constraints.push_within.Goals as goal

pub invariant_of-self-2 : goal.invariant_of-self-2
invariant_of-self-2 c =
    let g : Group = record { written = c.replace-written.result.items; terms = c.args.terms; set = c.args.set.value; end = c.in-Some.end } in
    let count = counted_behind c.self.inside.grouped c.self.inside.groups.items c.self.inside.written.items c.self.invariant.ends in
    let size = ap (λ (l : List Constraint). length l) c.self.view_is in
    let taken : length c.replace-written.result.items ≡ length c.self.inside.written.items = search rules in
    let empty : length c.replace-written.new.dest.items ≡ 0 = search rules in
    let len = c.len.ensures in
    let terms = ap (λ (l : List Term). length l) c.as_slice.ensures in
    let end : c.in-Some.end ≡ c.len.result + length c.as_slice.result.now = search rules in
    let fits : c.in-Some.end < 2 ^ 64 = search rules in
    record {
      ends = rw c.in_ok-push.ensures.items (ends_more 0 c.self.inside.grouped c.self.inside.groups.items g c.self.invariant.ends (let all = in_group g in omega (arith, count, size, taken, len, terms, end, all)));
      few = omega (arith, empty, fits);
    }
