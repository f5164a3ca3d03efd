use Rattle.std.proofs.Common.{pos, inl, inr}
use Rattle.std.proofs.lemmas.Int.{by_lt_z}
use Rattle.fz_ranges.proofs.ranges.narrowed.Goals as goal

pub returns : goal.returns
returns c = λ u w v is made. by_lt_z u (pos 0)
    (λ below. c.all_joined.ensures u w v (inr (c.all_joined-negative.ensures u w v (by_lt_z w (pos 0)
    (λ less. inr (c.on_sides-twice.ensures u w v is below less made))
    (λ from. inl (c.on_sides-falling.ensures u w v is below from made))))))
    (λ above. c.all_joined.ensures u w v (inl (c.all_joined-natural.ensures u w v (by_lt_z w (pos 0)
    (λ less. inr (c.on_sides-turned.ensures u w v is above less made))
    (λ from. inl (c.on_sides-rising.ensures u w v is above from made))))))

pub returns-then-are_natural : goal.returns-then-are_natural
returns-then-are_natural c = λ u w v is made.
    let from = c.are_natural.ensures c.if-are_natural.true u w v is in
    c.on_sides.ensures u w v is from.0 from.1 made
