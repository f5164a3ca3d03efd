use Rattle.std.proofs.Common.{take, map, [], ◌∷◌}
use Rattle.std.specs.Prelude.{flat_map}
use Rattle.fz_language.specs.Trees.{number_at}
use Rattle.fz_language.specs.Rules.{AnElement}
use Rattle.fz_language.specs.Rules.{all_counted}
use Rattle.fz_syntax.specs.Trees.{number_of}
use Rattle.fz_syntax.proofs.RoomLaws.{more_at, stops_at, part_done}
use Rattle.fz_syntax.proofs.limits.Room.behind_numbers.Goals as goal

pub loop-member-preserved : goal.loop-member-preserved
loop-member-preserved c = λ n h.
    more_at (λ m. AnElement (number_at m) ∷ []) number_of c.args.members.now c.loop-member.member-index _ n c.loop-member.room c.in-Ok.next c.loop-member-test.true (c.loop-member.invariant n h)
    (c.in-Ok.ensures (all_counted n (flat_map (λ m. AnElement (number_at m) ∷ []) (map number_of (take c.loop-member.member-index c.args.members.now)))) (c.loop-member.invariant n h).0)

pub returns-in-Err : goal.returns-in-Err
returns-in-Err c = λ n h.
    stops_at (λ m. AnElement (number_at m) ∷ []) number_of c.args.members.now c.loop-member.member-index _ n c.loop-member.room _ c.loop-member-test.true (c.loop-member.invariant n h)
    (c.in-Err.ensures (all_counted n (flat_map (λ m. AnElement (number_at m) ∷ []) (map number_of (take c.loop-member.member-index c.args.members.now)))) (c.loop-member.invariant n h).0)

pub returns : goal.returns
returns c = λ n h. part_done (λ m. AnElement (number_at m) ∷ []) number_of c.args.members.now c.loop-member.member-index n c.loop-member.room c.loop-member-test.false (c.loop-member.invariant n h)
