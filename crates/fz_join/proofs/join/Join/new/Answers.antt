use Rattle.std.proofs.Common.{◌≡◌, ◌∙◌, [], sym, ap}
use Rattle.fz_join.specs.Machine.{begun, read_text}
use Rattle.fz_join.proofs.join.Join.new.Goals as goal

pub returns-in_default-clause-same : goal.returns-in_default-clause-same
returns-in_default-clause-same c = λ are. (rw (c.in_default.is, c.deref.ensures.value) at c.in_ok-tally.ensures.same) are.different

pub invariant_of-result : goal.invariant_of-result
invariant_of-result c = λ used.
    let ran = rw (c.in-Some.is, c.deref.ensures.value) at c.in_ok-tally.ensures.none_ran in
    (ap (read_text c.args.model c.args.all (begun c.args.parts.items)) c.new-3.ensures ∙ sym (c.new-2.ensures.reading c.args.parts.items ran), c.new-2.ensures.knows c.args.model c.in_ok-is_checked.ensures)

pub returns-clause-join : goal.returns-clause-join
returns-clause-join c =
    let read : c.new-3.result.bytes ≡ [] = c.new-3.ensures in
    let printed : c.new-2.result.printed.bytes ≡ [] = c.new-2.ensures.printed in
    cc

pub returns-clause-parts : goal.returns-clause-parts
returns-clause-parts c = record { of_model = c.requires.of_model; different = rw (c.in-Some.is, c.deref.ensures.value) at c.in_ok-tally.ensures.different }
