use Rattle.std.proofs.Common.{◌-◌, List, length, take, arith, subst, sym, Option, IfSome}
use Rattle.fz_trail.specs.Nodes.{IsAt}
use Rattle.fz_trail.specs.Places.{AreLeftDownTo}
use Rattle.fz_trail.specs.Trails.{AreKept}
use Rattle.fz_trail.specs.declared.kept.Kept.{Kept}
use Rattle.fz_trail.proofs.Trails.{kept_front, kept_decided}
use Rattle.fz_trail.proofs.Places.{few_left, rest_within}
use Rattle.fz_trail.proofs.trail.Trail.come_back.Goals as goal

pub returns-clause-trail : goal.returns-clause-trail
returns-clause-trail g c = λ m known es fs size alike t.
    let spaced = g.S.SearchSpace.spaced in
    let depth = c.args.edges in
    let old = c.args.self.now.copies.items in
    let new = c.drop_below.new.copies.items in
    let left : AreLeftDownTo depth old new = c.drop_below.ensures.left in
    let front = kept_front spaced m known fs 0 new left.gone (subst (λ (ks : List (Kept _)). AreKept spaced m known fs 0 ks) left.parts t.copies) in
    record {
      distances = t.distances;
      root = t.root;
      copies = kept_decided spaced m known es fs depth 0 new size alike (c.drop_below.ensures.above m known fs t.copies) front;
      few = few_left depth old new left t.few;
      longest = omega (arith, size, c.max-self.ensures);
      near = λ n rest below. absurd (let within = rest_within es n rest in omega (arith, within, below, size));
      current = subst (λ (o : Option _). IfSome o (λ s. IsAt m known (take (length es - 1) es) (spaced s))) (sym c.drop_current.ensures) tt;
    }
