use Rattle.std.proofs.Common.{ℕ, ◌∙◌, arith, inr, subst, sym}
use Rattle.fz_trail.specs.Places.{IsNear, spacing}
use Rattle.fz_trail.proofs.Places.{still_near, made_near, due_above, due_before, due_room, trail_more}
use Rattle.fz_trail.proofs.trail.Trail.keep.Goals as goal

pub returns-then-not-is_due-clause-near : goal.returns-then-not-is_due-clause-near
returns-then-not-is_due-clause-near g c = λ m known es size t. still_near g.S.SearchSpace.spaced m known es c.make_room.new.self c.args.depth size (c.is_due.ensures.near c.if-not-is_due.true) (c.make_room.ensures.trail m known es t)

pub returns-clause-copies : goal.returns-clause-copies
returns-clause-copies g c = inr (record { left = c.make_room.new.self.copies.items; room = c.make_room.ensures.copies; more = c.in_ok-put.ensures.copies })

pub returns-then-not-is_due-clause-due : goal.returns-then-not-is_due-clause-due
returns-then-not-is_due-clause-due g c = λ due.
    let yes = c.is_due.ensures.due.1 (due_room c.args.self.now.back c.make_room.new.self.back c.args.self.now.distance c.make_room.new.self.distance c.args.depth c.args.self.now.copies.items c.make_room.new.self.copies.items c.make_room.ensures.back c.make_room.ensures.distances.0 c.make_room.ensures.copies due) in
    absurd (cc (yes, c.if-not-is_due.true))

pub returns-clause-undue : goal.returns-clause-undue
returns-clause-undue g c = λ undue.
    absurd (undue (due_before c.args.self.now.back c.make_room.new.self.back c.args.self.now.distance c.make_room.new.self.distance c.args.depth c.args.self.now.copies.items c.make_room.new.self.copies.items c.make_room.ensures.back c.make_room.ensures.distances.0 c.make_room.ensures.copies (c.is_due.ensures.due.0 c.if-not-is_due.false)))

pub returns-clause-near : goal.returns-clause-near
returns-clause-near g c = λ m known es size t. subst (λ (d : ℕ). IsNear (spacing d c.args.depth) c.put.new.self.copies.items c.args.depth) (sym (c.put.ensures.distances.0 ∙ c.make_room.ensures.distances.0))
    (made_near g.S.SearchSpace.spaced (spacing c.args.self.now.distance c.args.depth) c.args.depth c.make_room.new.self.copies.items c.put.new.self.copies.items c.args.space.now (omega (arith, t.distances.0)) c.in_ok-put.ensures.copies)

pub returns-clause-trail : goal.returns-clause-trail
returns-clause-trail g c = λ m known es size is t.
    let u = c.make_room.ensures.trail m known es t in
    trail_more g.S.SearchSpace.spaced m known es c.make_room.new.self c.put.new.self c.args.depth c.args.space.now c.put.ensures.rest c.put.ensures.longest c.put.ensures.distances c.in_ok-put.ensures.copies size is
    (due_above c.make_room.new.self.back c.make_room.new.self.distance c.args.depth c.make_room.new.self.copies.items (c.is_due.ensures.due.0 c.if-not-is_due.false)) (c.make_room.ensures.room t.few) u
