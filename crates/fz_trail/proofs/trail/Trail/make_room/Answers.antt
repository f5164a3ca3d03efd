use Rattle.std.proofs.Common.{◌≤◌, inl, inr, List, length, refl, subst, arith}
use Rattle.fz_trail.specs.Places.{IsLeastMissed, IsThinned}
use Rattle.fz_trail.specs.declared.kept.Kept.{Kept}
use Rattle.fz_trail.specs.declared.kept.TheConstants.{COPIES_MOST}
use Rattle.fz_trail.proofs.Places.{room_few, trail_room}
use Rattle.fz_trail.proofs.trail.Trail.make_room.Goals as goal

pub returns-then-len-lt-COPIES_MOST-clause-copies : goal.returns-then-len-lt-COPIES_MOST-clause-copies
returns-then-len-lt-COPIES_MOST-clause-copies g c = inl (omega (arith, c.if-len-lt-COPIES_MOST.true, c.len.ensures), refl)

pub returns-clause-copies : goal.returns-clause-copies
returns-clause-copies g c =
    let missed = subst (λ (ks : List (Kept _)). IsLeastMissed ks c.least_missed-place.result) c.deref.ensures.value c.least_missed-place.ensures in
    inr (omega (arith, c.if-len-lt-COPIES_MOST.false, c.len.ensures), record { place = c.least_missed-place.result; missed = missed; parts = c.remove-kept.ensures.items })

pub returns-clause-room : goal.returns-clause-room
returns-clause-room g c = λ few. room_few c.args.self.now.copies.items c.remove-kept.new.self.items (returns-clause-copies g c) few

pub returns-clause-trail : goal.returns-clause-trail
returns-clause-trail g c = λ m known es t.
    let many : COPIES_MOST ≤ length c.args.self.now.copies.items = omega (arith, c.if-len-lt-COPIES_MOST.false, c.len.ensures) in
    let missed = subst (λ (ks : List (Kept _)). IsLeastMissed ks c.least_missed-place.result) c.deref.ensures.value c.least_missed-place.ensures in
    let thinned : IsThinned c.args.self.now.copies.items c.remove-kept.new.self.items = record { place = c.least_missed-place.result; missed = missed; parts = c.remove-kept.ensures.items } in
    trail_room g.S.SearchSpace.spaced m known es c.args.self.now _ (refl, refl, refl) refl (refl, refl) many thinned t
