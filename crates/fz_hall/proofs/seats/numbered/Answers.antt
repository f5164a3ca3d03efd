use Rattle.std.proofs.Common.{◌∙◌, List, map, get_or, ap, sym, ◌++◌, ◌∷◌, []}
use Rattle.std.proofs.lemmas.List.{map_push, take_more}
use Rattle.fz_hall.specs.declared.interval.Interval.{Interval}
use Rattle.fz_hall.specs.Seats.{left, nothing}
use Rattle.fz_hall.proofs.seats.numbered.Goals as goal

pub loop-left-preserved : goal.loop-left-preserved
loop-left-preserved c =
    ap (map left) c.in_ok-push.ensures.items ∙ map_push left c.loop-left.seats.items _
    ∙ ap (λ (l : List Interval). l ++ get_or c.args.lefts.now c.loop-left.left-index nothing ∷ []) c.loop-left.invariant
    ∙ sym (take_more c.args.lefts.now c.loop-left.left-index nothing c.loop-left-test.true)
