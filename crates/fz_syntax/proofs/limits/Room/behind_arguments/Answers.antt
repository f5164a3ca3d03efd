use Rattle.std.proofs.Common.{take, map}
use Rattle.std.specs.Prelude.{flat_map}
use Rattle.fz_language.specs.Rules.{expression_additions}
use Rattle.fz_language.specs.Rules.{all_counted}
use Rattle.fz_syntax.specs.Trees.{expression_of}
use Rattle.fz_syntax.proofs.RoomLaws.{part_more, part_stops, part_done}
use Rattle.fz_syntax.proofs.limits.Room.behind_arguments.Goals as goal

pub loop-argument-preserved : goal.loop-argument-preserved
loop-argument-preserved c = λ n h.
    part_more expression_additions expression_of c.args.arguments.now c.loop-argument.argument-index c.argument-item.result n c.loop-argument.room c.in-Ok.next c.loop-argument-test.true c.argument-item.is (c.loop-argument.invariant n h)
    (c.in-Ok.ensures (all_counted n (flat_map expression_additions (map expression_of (take c.loop-argument.argument-index c.args.arguments.now)))) (c.loop-argument.invariant n h).0)

pub returns-in-Err : goal.returns-in-Err
returns-in-Err c = λ n h.
    part_stops expression_additions expression_of c.args.arguments.now c.loop-argument.argument-index c.argument-item.result n c.loop-argument.room _ c.loop-argument-test.true c.argument-item.is (c.loop-argument.invariant n h)
    (c.in-Err.ensures (all_counted n (flat_map expression_additions (map expression_of (take c.loop-argument.argument-index c.args.arguments.now)))) (c.loop-argument.invariant n h).0)

pub returns : goal.returns
returns c = λ n h. part_done expression_additions expression_of c.args.arguments.now c.loop-argument.argument-index n c.loop-argument.room c.loop-argument-test.false (c.loop-argument.invariant n h)
