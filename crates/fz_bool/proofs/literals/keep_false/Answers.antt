use Rattle.std.proofs.Common.{get_or, inl, inr}
use Rattle.fz_bool.proofs.Looks.{blank, at_place}
use Rattle.fz_bool.proofs.Falsing.{next_false, all_made_false}
use Rattle.fz_bool.proofs.literals.keep_false.Goals as goal

pub loop-literal-preserved : goal.loop-literal-preserved
loop-literal-preserved c =
    let ls = c.args.literals.now in
    let i = c.loop-literal.literal-index in
    next_false c.in_ok-make_false.field-0 c.args.store.now c.loop-literal.store c.make_false.new.store ls i (get_or ls i blank) c.requires (at_place ls i c.loop-literal-test.true) c.loop-literal.invariant
    c.make_false.ensures.store c.make_false.ensures.shrinks c.in_ok-make_false.ensures.change
    (λ e. elim c.in-Same.is [ inl same ↦ cc | inr changed ↦ cc ])

pub returns-clause-answer : goal.returns-clause-answer
returns-clause-answer c = all_made_false c.args.store.now c.loop-literal.store c.args.literals.now c.loop-literal.literal-index c.requires c.loop-literal-test.false c.loop-literal.invariant
