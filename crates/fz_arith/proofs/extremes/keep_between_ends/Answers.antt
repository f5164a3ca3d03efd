use Rattle.fz_arith.proofs.Beaten.{ends_last}
use Rattle.fz_arith.proofs.extremes.keep_between_ends.Goals as goal

pub returns-then-not-has_ends-clause-told : goal.returns-then-not-has_ends-clause-told
returns-then-not-has_ends-clause-told c =
    ends_last c.args.operation c.args.operands.now c.args.value c.args.kept.now.front c.args.kept.now.back c.args.store.now.doms c.keep_equation.new.store.doms
    c.keep_equation.ensures.shrinks.narrower c.requires.told

pub returns-clause-told : goal.returns-clause-told
returns-clause-told c =
    ends_last c.args.operation c.args.operands.now c.args.value c.front_from-front.result c.back_from-back.result c.args.store.now.doms c.keep_part.new.store.doms
    c.keep_part.ensures.shrinks.narrower (record { before = c.front_from-front.ensures; behind = c.back_from-back.ensures })
