use Rattle.std.proofs.Common.{◌∙◌, ◌+◌, length, sym, subst, ap, arith}
use Rattle.std.proofs.lemmas.Iterator.Adapters.{YieldsList-from_vec}
use Rattle.std.proofs.lemmas.Iterator.Consumers.{YieldsList-turn, YieldsList-end}
use Rattle.fz_team.specs.Members.{IsMember}
use Rattle.fz_team.proofs.Words.{joins_one, word_begun}
use Rattle.fz_team.proofs.assets.gathered.Goals as goal

pub members-init : goal.members-init
members-init g c =
    let team = c.requires.team in
    (team.1.bound, omega arith, word_begun g.T.Subject.model c.new-bests.result.items c.args.seat.least c.new-bests.ensures.items team.1.fresh)

pub join-requires-clause-other : goal.join-requires-clause-other
join-requires-clause-other g c =
    let team = c.requires.team in
    let gives = c.into_iter-member-iterator.ensures.into_iter_gives in
    let road = YieldsList-from_vec {s = c.into_iter-member-iterator.result} c.args.members.items gives.0 (gives.1 ∙ c.args.members.ok.0) in
    let turn = YieldsList-turn road c.members.yielded c.members.member-iterator c.members.yielded_by c.next.result c.next.new.self c.in-Some.member c.in-Some.is c.next.ensures.steps in
    (subst (λ x. IsMember g.T.Subject.model c.args.bound.now team.0 x) (sym turn.1) (team.1.members (length c.members.yielded) c.in-Some.member turn.0)).bound

pub members-preserved-in_ok-keep : goal.members-preserved-in_ok-keep
members-preserved-in_ok-keep g c =
    let team = c.requires.team in
    let gives = c.into_iter-member-iterator.ensures.into_iter_gives in
    let road = YieldsList-from_vec {s = c.into_iter-member-iterator.result} c.args.members.items gives.0 (gives.1 ∙ c.args.members.ok.0) in
    let turn = YieldsList-turn road c.members.yielded c.members.member-iterator c.members.yielded_by c.next.result c.next.new.self c.in-Some.member c.in-Some.is c.next.ensures.steps in
    let of = subst (λ x. IsMember g.T.Subject.model c.args.bound.now team.0 x) (sym turn.1) (team.1.members (length c.members.yielded) c.in-Some.member turn.0) in
    joins_one g.T.Subject.model c.args.bound.now team.0 c.args.seat.parts c.members.seat c.join.new.seat c.in-Some.member c.members.bests.items c.keep.new.bests.items c.members.yielded of c.join.ensures c.in_ok-keep.ensures c.members.invariant.0 c.members.invariant.1 c.members.invariant.2

pub members-preserved-in_ok-keep-2 : goal.members-preserved-in_ok-keep-2
members-preserved-in_ok-keep-2 g c =
    let team = c.requires.team in
    let gives = c.into_iter-member-iterator.ensures.into_iter_gives in
    let road = YieldsList-from_vec {s = c.into_iter-member-iterator.result} c.args.members.items gives.0 (gives.1 ∙ c.args.members.ok.0) in
    let turn = YieldsList-turn road c.members.yielded c.members.member-iterator c.members.yielded_by c.next.result c.next.new.self c.in-Some.member c.in-Some.is c.next.ensures.steps in
    let of = subst (λ x. IsMember g.T.Subject.model c.args.bound.now team.0 x) (sym turn.1) (team.1.members (length c.members.yielded) c.in-Some.member turn.0) in
    joins_one g.T.Subject.model c.args.bound.now team.0 c.args.seat.parts c.members.seat c.join.new.seat c.in-Some.member c.members.bests.items c.keep.new.bests.items c.members.yielded of c.join.ensures c.in_ok-keep.ensures c.members.invariant.0 c.members.invariant.1 c.members.invariant.2

pub members-preserved-in_ok-keep-3 : goal.members-preserved-in_ok-keep-3
members-preserved-in_ok-keep-3 g c =
    let team = c.requires.team in
    let gives = c.into_iter-member-iterator.ensures.into_iter_gives in
    let road = YieldsList-from_vec {s = c.into_iter-member-iterator.result} c.args.members.items gives.0 (gives.1 ∙ c.args.members.ok.0) in
    let turn = YieldsList-turn road c.members.yielded c.members.member-iterator c.members.yielded_by c.next.result c.next.new.self c.in-Some.member c.in-Some.is c.next.ensures.steps in
    let of = subst (λ x. IsMember g.T.Subject.model c.args.bound.now team.0 x) (sym turn.1) (team.1.members (length c.members.yielded) c.in-Some.member turn.0) in
    joins_one g.T.Subject.model c.args.bound.now team.0 c.args.seat.parts c.members.seat c.join.new.seat c.in-Some.member c.members.bests.items c.keep.new.bests.items c.members.yielded of c.join.ensures c.in_ok-keep.ensures c.members.invariant.0 c.members.invariant.1 c.members.invariant.2

pub members-preserved : goal.members-preserved
members-preserved g c =
    let team = c.requires.team in
    let gives = c.into_iter-member-iterator.ensures.into_iter_gives in
    let road = YieldsList-from_vec {s = c.into_iter-member-iterator.result} c.args.members.items gives.0 (gives.1 ∙ c.args.members.ok.0) in
    let turn = YieldsList-turn road c.members.yielded c.members.member-iterator c.members.yielded_by c.next.result c.next.new.self c.in-Some.member c.in-Some.is c.next.ensures.steps in
    let of = subst (λ x. IsMember g.T.Subject.model c.args.bound.now team.0 x) (sym turn.1) (team.1.members (length c.members.yielded) c.in-Some.member turn.0) in
    joins_one g.T.Subject.model c.args.bound.now team.0 c.args.seat.parts c.members.seat c.join.new.seat c.in-Some.member c.members.bests.items c.keep.new.bests.items c.members.yielded of c.join.ensures c.in_ok-keep.ensures c.members.invariant.0 c.members.invariant.1 c.members.invariant.2

pub returns-clause-seat : goal.returns-clause-seat
returns-clause-seat g c =
    let team = c.requires.team in
    let gives = c.into_iter-member-iterator.ensures.into_iter_gives in
    let road = YieldsList-from_vec {s = c.into_iter-member-iterator.result} c.args.members.items gives.0 (gives.1 ∙ c.args.members.ok.0) in
    let end = YieldsList-end road c.members.yielded c.members.member-iterator c.members.yielded_by c.next.result c.next.new.self c.in-None.is c.next.ensures.steps in
    (c.members.invariant.0, c.members.invariant.1 ∙ ap (λ n. c.args.seat.parts + n) end.1 ∙ team.1.parts)
