use Rattle.std.proofs.Common.{refl}
use Rattle.fz_spec.specs.Constraints.{term_values}
use Rattle.fz_regular.proofs.Keeping.{fixed_answer, value_word}
use Rattle.fz_regular.proofs.keep.keep_rest.Goals as goal

pub returns-then-are_fixed-clause-answer : goal.returns-then-are_fixed-clause-answer
returns-then-are_fixed-clause-answer c =
    fixed_answer c.args.automaton.now c.args.terms.now c.args.store.now.doms c.requires.terms c.doms.ensures.store.domains (c.if-are_fixed.ensures.0 refl) (rw c.in-Some.is at c.in_ok-supports.ensures.some)

pub returns-in_default-clause-answer : goal.returns-in_default-clause-answer
returns-in_default-clause-answer c = λ a within holds.
    let xs = c.args.terms.now in
    let none = rw c.in_default.is at c.in_ok-supports.ensures.none in
    none refl (term_values a xs) (value_word c.args.automaton.now xs c.args.store.now.doms a c.requires.terms holds within)
