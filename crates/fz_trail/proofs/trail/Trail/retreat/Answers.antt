use Rattle.std.proofs.Common.{◌-◌, List, length, take, arith, subst, sym, Option, IfSome}
use Rattle.fz_trail.specs.Nodes.{IsAt}
use Rattle.fz_trail.specs.Places.{AreLeftDownTo}
use Rattle.fz_trail.specs.Trails.{AreKept, reach}
use Rattle.fz_trail.specs.declared.kept.Kept.{Kept}
use Rattle.fz_trail.proofs.Decisions.{retreat_code, no_longer}
use Rattle.fz_trail.proofs.Trails.{kept_front, kept_beside}
use Rattle.fz_trail.proofs.Places.{near_left, few_left}
use Rattle.fz_trail.proofs.trail.Trail.retreat.Goals as goal

pub returns-clause-trail : goal.returns-clause-trail
returns-clause-trail g c = λ m known es is t.
    let spaced = g.S.SearchSpace.spaced in
    let fs = c.args.edges.now in
    let depth = c.count_above-depth.result in
    let old = c.args.self.now.copies.items in
    let new = c.drop_below.new.copies.items in
    let left : AreLeftDownTo depth old new = c.drop_below.ensures.left in
    let front = kept_front spaced m known es 0 new left.gone (subst (λ (ks : List (Kept _)). AreKept spaced m known es 0 ks) left.parts t.copies) in
    record {
      distances = t.distances;
      root = t.root;
      copies = kept_beside spaced m known es fs depth 0 new (retreat_code es fs depth c.count_above-depth.ensures is) (omega (arith, c.count_above-depth.ensures)) (c.drop_below.ensures.above m known es t.copies) front;
      few = few_left depth old new left t.few;
      longest = omega (arith, no_longer es fs is, t.longest);
      near = near_left (reach c.args.self.now) c.args.self.now.sparse es fs depth old new is c.count_above-depth.ensures left t.near;
      current = subst (λ (o : Option _). IfSome o (λ s. IsAt m known (take (length fs - 1) fs) (spaced s))) (sym c.drop_current.ensures) tt;
    }
