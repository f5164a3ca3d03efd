use Rattle.std.proofs.Common.{refl, sym, get_or, arith}
use Rattle.fz_column.proofs.Packing.{word_has, missed_word, missed_all}
use Rattle.fz_column.proofs.row_set.meeting.Goals as goal

pub returns-then-meets : goal.returns-then-meets
returns-then-meets c =
    let words = c.args.words.now in
    let w = c.if-meets.ensures.0 refl in
    (w.0, w.1, word_has words c.args.near c.in-Some.bits.now w.0 (c.in-Some.ensures.lookup.3.1 0) w.2, sym w.2.0)

pub returns-then-meets-2 : goal.returns-then-meets-2
returns-then-meets-2 c =
    let words = c.args.words.now in
    let k = c.loop-word.word in
    let w = c.if-meets-2.ensures.0 refl in
    (w.0, w.1, word_has words k (get_or words k 0) w.0 refl w.2, sym w.2.0)

pub loop-word-preserved : goal.loop-word-preserved
loop-word-preserved c =
    let words = c.args.words.now in
    let k = c.loop-word.word in
    missed_word c.args.rows.now words k (get_or words k 0) refl (λ h. cc (c.if-meets-2.ensures.1 h)) c.loop-word.invariant

pub returns : goal.returns
returns c =
    let past = c.loop-word-test.false in
    λ i has one. missed_all c.args.rows.now c.args.words.now c.loop-word.word (omega (arith, past)) c.loop-word.invariant (i, has, one)
