use Rattle.std.proofs.lemmas.Result.{IfOk-weaker}
use Rattle.fz_trail.proofs.Places.{brought_code, due_code, last_above}
use Rattle.fz_trail.proofs.trail.Trail.near.Goals as goal

pub returns-clause-copies : goal.returns-clause-copies
returns-clause-copies g c =
    brought_code c.args.self.now.adaptive c.args.edges.now c.args.self.now.copies.items c.nearest.new.self.copies.items c.brought_down.new.self.copies.items c.in_ok-kept.kept.depth c.nearest.ensures.copies c.in_ok-kept.ensures.nearest
    (rw (← c.nearest.ensures.distances.1) c.brought_down.ensures.copies)

pub returns-clause-due : goal.returns-clause-due
returns-clause-due g c =
    due_code c.args.self.now.adaptive c.args.edges.now c.args.self.now.copies.items c.nearest.new.self.copies.items c.brought_down.new.self.copies.items c.in_ok-kept.kept.depth c.brought_down.result c.nearest.ensures.copies c.in_ok-kept.ensures.nearest
    (rw (← c.nearest.ensures.distances.1) c.brought_down.ensures.due)

pub returns-clause-kept : goal.returns-clause-kept
returns-clause-kept g c = λ m known t.
    c.brought_down.ensures.kept m known (c.in_ok-kept.ensures.space m known t)
    (last_above g.S.SearchSpace.spaced m known c.args.edges.now c.args.self.now c.nearest.new.self.copies.items c.in_ok-kept.kept.depth c.nearest.ensures.copies c.in_ok-kept.ensures.nearest t)
    (c.nearest.ensures.kept m known t)

pub returns-clause-space : goal.returns-clause-space
returns-clause-space g c = IfOk-weaker c.brought_down.result _ _ (λ k h. λ m known t. h m known (c.in_ok-kept.ensures.space m known t)) c.brought_down.ensures.space
