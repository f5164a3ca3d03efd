use Rattle.std.proofs.Common.{List, IfSome, ◌≤◌, subst}
use Rattle.fz_trail.specs.Places.{last_of}
use Rattle.fz_trail.specs.Trails.{AreKept}
use Rattle.fz_trail.specs.declared.kept.Kept.{Kept}
use Rattle.fz_trail.proofs.Trails.{kept_front, none_below}
use Rattle.fz_trail.proofs.Places.{dropped_code}
use Rattle.fz_trail.proofs.trail.drop_below.Goals as goal

pub copies-preserved-in-Some : goal.copies-preserved-in-Some
copies-preserved-in-Some g c =
    dropped_code c.args.depth c.args.copies.now.items c.copies.copies.items c.pop.new.self.items c.deref.result.now c.pop.result c.deref.ensures.value c.copies.invariant c.pop.ensures.items (c.is_below.ensures.below c.copies-test.true)

pub copies-preserved-in-Some-2 : goal.copies-preserved-in-Some-2
copies-preserved-in-Some-2 g c =
    dropped_code c.args.depth c.args.copies.now.items c.copies.copies.items c.pop.new.self.items c.deref.result.now c.pop.result c.deref.ensures.value c.copies.invariant c.pop.ensures.items (c.is_below.ensures.below c.copies-test.true)

pub returns-clause-above : goal.returns-clause-above
returns-clause-above g c = λ m known es kept.
    let left = c.copies.invariant in
    let last = subst (λ (ks : List (Kept _)). IfSome (last_of ks) (λ (k : Kept _). k.depth ≤ c.args.depth)) c.deref.ensures.value (c.is_below.ensures.above c.copies-test.false) in
    none_below g.S.SearchSpace.spaced m known es c.args.depth 0 c.copies.copies.items
    (kept_front g.S.SearchSpace.spaced m known es 0 c.copies.copies.items left.gone (subst (λ (ks : List (Kept _)). AreKept g.S.SearchSpace.spaced m known es 0 ks) left.parts kept)) last
