use Rattle.std.proofs.Common.{refl}
use Rattle.fz_table.proofs.Keeping.{fixed_answer}
use Rattle.fz_table.proofs.keep.keep_found.Goals as goal

pub returns-then-are_fixed-clause-answer : goal.returns-then-are_fixed-clause-answer
returns-then-are_fixed-clause-answer c =
    fixed_answer c.args.terms.now c.args.table.now c.args.store.now.doms c.find_left.new.left c.requires.terms (c.if-are_fixed.ensures.0 refl)
    (c.if-is_empty.ensures.some refl) c.find_left.ensures.left
