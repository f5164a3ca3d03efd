use Rattle.fz_rel.proofs.ReifiedSets.{inside_answer}
use Rattle.fz_rel.proofs.reified_member.keep_inside.Goals as goal

pub returns-clause-answer : goal.returns-clause-answer
returns-clause-answer c =
    inside_answer c.in_ok-answer.answer c.args.x c.args.set.now c.args.r c.args.store.now.doms c.keep_member.new.store.doms c.requires.x c.requires.r c.requires.one
    c.doms.ensures.store.domains c.in_ok-answer.ensures.shrinks.narrower c.in_ok-answer.ensures.answer
