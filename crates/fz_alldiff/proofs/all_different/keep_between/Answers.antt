use Rattle.fz_alldiff.proofs.Between.{ends_still}
use Rattle.fz_alldiff.proofs.Resting.{terms_still}
use Rattle.fz_alldiff.proofs.all_different.keep_between.Goals as goal

pub returns-in_err-answer-clause-told : goal.returns-in_err-answer-clause-told
returns-in_err-answer-clause-told c =
    ends_still c.args.terms.now c.args.store.now.doms c.keep_part.new.store.doms c.args.kept.now.front c.args.kept.now.back c.keep_part.ensures.shrinks.narrower c.requires.told

pub move_ends-requires-clause-terms : goal.move_ends-requires-clause-terms
move_ends-requires-clause-terms c = terms_still c.args.terms.now c.args.store.now.doms c.keep_part.new.store.doms c.keep_part.ensures.shrinks.narrower c.requires.terms

pub move_ends-requires-clause-told : goal.move_ends-requires-clause-told
move_ends-requires-clause-told c =
    ends_still c.args.terms.now c.args.store.now.doms c.keep_part.new.store.doms c.args.kept.now.front c.args.kept.now.back c.keep_part.ensures.shrinks.narrower c.requires.told

pub returns-in_default : goal.returns-in_default
returns-in_default c = record {
  told = ends_still c.args.terms.now c.args.store.now.doms c.keep_part.new.store.doms c.args.kept.now.front c.args.kept.now.back c.keep_part.ensures.shrinks.narrower c.requires.told;
  narrows = c.in_ok-answer.ensures;
}

pub returns-then-not-is_long-clause-told : goal.returns-then-not-is_long-clause-told
returns-then-not-is_long-clause-told c =
    ends_still c.args.terms.now c.args.store.now.doms c.keep_different.new.store.doms c.args.kept.now.front c.args.kept.now.back c.keep_different.ensures.shrinks.narrower c.requires.told

pub returns-then-not-is_long-clause-narrows : goal.returns-then-not-is_long-clause-narrows
returns-then-not-is_long-clause-narrows c = c.keep_different.ensures
