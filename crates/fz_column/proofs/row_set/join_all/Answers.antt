use Rattle.std.proofs.Common.{refl, get_or, arith}
use Rattle.fz_column.proofs.Packing.{joined_none, joined_word, joined_all}
use Rattle.fz_column.proofs.row_set.join_all.Goals as goal

pub loop-word-init : goal.loop-word-init
loop-word-init c = joined_none c.args.rows.now c.args.words.now

pub loop-word-preserved : goal.loop-word-preserved
loop-word-preserved c =
    let words = c.args.words.now in
    let k = c.loop-word.word in
    joined_word c.args.rows.now words c.loop-word.rows c.join.new.rows k (get_or words k 0) refl c.join.ensures.members c.join.ensures.size c.loop-word.invariant

pub returns-clause-members : goal.returns-clause-members
returns-clause-members c =
    let past = c.loop-word-test.false in
    joined_all c.args.rows.now c.args.words.now c.loop-word.rows c.loop-word.word (omega (arith, past)) c.loop-word.invariant

pub returns-clause-size : goal.returns-clause-size
returns-clause-size c = c.loop-word.invariant.size
