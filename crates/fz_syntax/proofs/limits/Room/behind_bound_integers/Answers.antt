use Rattle.std.proofs.Common.{take, map}
use Rattle.std.specs.Prelude.{flat_map, true}
use Rattle.fz_language.specs.Rules.{array_element_additions}
use Rattle.fz_language.specs.Rules.{all_counted}
use Rattle.fz_syntax.specs.Trees.{integer_basic_of}
use Rattle.fz_syntax.proofs.RoomLaws.{more_at, stops_at, part_done}
use Rattle.fz_syntax.proofs.limits.Room.behind_bound_integers.Goals as goal

pub loop-integer-preserved : goal.loop-integer-preserved
loop-integer-preserved c = λ n h.
    more_at (array_element_additions true) integer_basic_of c.args.integers.now c.loop-integer.integer-index _ n c.loop-integer.room c.in-Ok.next c.loop-integer-test.true (c.loop-integer.invariant n h)
    (c.in-Ok.ensures (all_counted n (flat_map (array_element_additions true) (map integer_basic_of (take c.loop-integer.integer-index c.args.integers.now)))) (c.loop-integer.invariant n h).0)

pub returns-in-Err : goal.returns-in-Err
returns-in-Err c = λ n h.
    stops_at (array_element_additions true) integer_basic_of c.args.integers.now c.loop-integer.integer-index _ n c.loop-integer.room _ c.loop-integer-test.true (c.loop-integer.invariant n h)
    (c.in-Err.ensures (all_counted n (flat_map (array_element_additions true) (map integer_basic_of (take c.loop-integer.integer-index c.args.integers.now)))) (c.loop-integer.invariant n h).0)

pub returns : goal.returns
returns c = λ n h. part_done (array_element_additions true) integer_basic_of c.args.integers.now c.loop-integer.integer-index n c.loop-integer.room c.loop-integer-test.false (c.loop-integer.invariant n h)
