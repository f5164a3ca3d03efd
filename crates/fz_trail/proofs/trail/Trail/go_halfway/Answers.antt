use Rattle.std.proofs.Common.{inr, length, arith}
use Rattle.fz_trail.proofs.Places.{half_within, one_between, trail_between}
use Rattle.fz_trail.proofs.trail.Trail.go_halfway.Goals as goal

pub returns-clause-copies : goal.returns-clause-copies
returns-clause-copies g c =
    inr (one_between g.S.SearchSpace.spaced c.args.self.now.adaptive c.args.kept.depth (length c.args.edges.now) c.half_way-depth.result c.in_ok-space.space c.args.self.now.copies.items c.put.new.self.copies.items c.requires.long
    c.half_way-depth.ensures c.in_ok-put.ensures.copies)

pub returns-clause-due : goal.returns-clause-due
returns-clause-due g c =
    one_between g.S.SearchSpace.spaced c.args.self.now.adaptive c.args.kept.depth (length c.args.edges.now) c.half_way-depth.result c.in_ok-space.space c.args.self.now.copies.items c.put.new.self.copies.items c.requires.long
    c.half_way-depth.ensures c.in_ok-put.ensures.copies

pub returns-clause-space : goal.returns-clause-space
returns-clause-space g c = λ m known kept. record {
  above = omega (arith, c.half_way-depth.ensures, (half_within c.args.kept.depth (length c.args.edges.now) c.requires.long.1).1);
  is_at = c.in_ok-space.ensures.space m known kept;
}

pub returns-clause-kept : goal.returns-clause-kept
returns-clause-kept g c = λ m known kept above t.
    trail_between g.S.SearchSpace.spaced m known c.args.edges.now c.args.self.now c.put.new.self c.args.kept.depth c.half_way-depth.result c.in_ok-space.space c.put.ensures.rest c.put.ensures.longest c.put.ensures.distances
    c.in_ok-put.ensures.copies c.requires.long c.half_way-depth.ensures (c.in_ok-space.ensures.space m known kept) above t
