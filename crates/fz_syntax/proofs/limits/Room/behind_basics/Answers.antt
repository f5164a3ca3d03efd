use Rattle.std.proofs.Common.{take, map}
use Rattle.std.specs.Prelude.{flat_map}
use Rattle.fz_language.specs.Rules.{element_additions}
use Rattle.fz_language.specs.Rules.{all_counted}
use Rattle.fz_syntax.specs.Trees.{basic_of}
use Rattle.fz_syntax.proofs.RoomLaws.{part_more, part_stops, part_done}
use Rattle.fz_syntax.proofs.limits.Room.behind_basics.Goals as goal

pub loop-basic-preserved : goal.loop-basic-preserved
loop-basic-preserved c = λ n h.
    part_more element_additions basic_of c.args.basics.now c.loop-basic.basic-index c.basic-item.result n c.loop-basic.room c.in-Ok.next c.loop-basic-test.true c.basic-item.is (c.loop-basic.invariant n h)
    (c.in-Ok.ensures (all_counted n (flat_map element_additions (map basic_of (take c.loop-basic.basic-index c.args.basics.now)))) (c.loop-basic.invariant n h).0)

pub returns-in-Err : goal.returns-in-Err
returns-in-Err c = λ n h.
    part_stops element_additions basic_of c.args.basics.now c.loop-basic.basic-index c.basic-item.result n c.loop-basic.room _ c.loop-basic-test.true c.basic-item.is (c.loop-basic.invariant n h)
    (c.in-Err.ensures (all_counted n (flat_map element_additions (map basic_of (take c.loop-basic.basic-index c.args.basics.now)))) (c.loop-basic.invariant n h).0)

pub returns : goal.returns
returns c = λ n h. part_done element_additions basic_of c.args.basics.now c.loop-basic.basic-index n c.loop-basic.room c.loop-basic-test.false (c.loop-basic.invariant n h)
