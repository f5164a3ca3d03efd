use Rattle.std.proofs.Common.{List, arith, rules, w32}
use Rattle.std.specs.Prelude.{ℤ}
use Rattle.std.proofs.lemmas.Int.{ints}
use Rattle.std.proofs.lemmas.Result.{IfOk-weaker}
use mir.Val.{SFits}
use Rattle.fz_bits.specs.Windows.{IsBit}
use Rattle.fz_strength.specs.Domains.{Within, number_at}
use Rattle.fz_prop.proofs.Twice.{shrinks_twice}
use Rattle.fz_shift.specs.Planes.{PlaneTruth}
use Rattle.fz_shift.proofs.Kept.{ArePairs, all_kept, of_points}
use Rattle.fz_shift.proofs.Leaving.{near_pairs}
use Rattle.fz_shift.proofs.Turning.{turned_small}
use Rattle.fz_shift.proofs.keeping.keep_near.Goals.{After-related-thirds}
use Rattle.fz_shift.proofs.keeping.keep_near.Goals as goal

-- the pairs of what was left, and what is kept of them
pairs : (c : After-related-thirds)
    → ArePairs c.args.plane c.args.store.now.doms (λ u. IsBit c.args.across.base c.args.across.bits u) (λ w. IsBit c.args.first.base c.args.first.bits w)
    (λ u. IsBit c.args.across.base c.related-found.result.firsts.bits u) (λ w. IsBit c.args.first.base c.related-found.result.seconds.bits w)
    (λ v. IsBit c.args.second.base c.related-thirds.result.seconds.bits v)
pairs c =
    let found = c.related-found.result in
    let thirds = c.related-thirds.result in
    near_pairs c.args.plane c.args.store.now.doms (λ u. IsBit c.args.across.base c.args.across.bits u) (λ w. IsBit c.args.first.base c.args.first.bits w)
    (λ u. IsBit c.args.across.base found.firsts.bits u) (λ w. IsBit c.args.first.base found.seconds.bits w)
    (λ v. IsBit c.args.second.base c.args.second.bits v) (λ u. IsBit c.args.across.base thirds.firsts.bits u) (λ v. IsBit c.args.second.base thirds.seconds.bits v)
    c.requires.across c.requires.first c.requires.second c.related-found.ensures.matching
    (rw (c.turned.ensures, c.related-found.ensures.first_base, c.related-found.ensures.second_base) at c.related-thirds.ensures.matching)

-- an assignment on the plane is kept
kept : (c : After-related-thirds) (a : List ℤ) → PlaneTruth c.args.plane a → Within c.args.store.now.doms a
    → IsBit c.args.across.base c.related-found.result.firsts.bits (number_at a c.args.plane.across) × IsBit c.args.first.base c.related-found.result.seconds.bits (number_at a c.args.plane.first)
    × IsBit c.args.second.base c.related-thirds.result.seconds.bits (number_at a c.args.plane.second)
kept c a truth within =
    let found = c.related-found.result in
    all_kept c.args.plane c.args.store.now.doms (λ u. IsBit c.args.across.base c.args.across.bits u) (λ w. IsBit c.args.first.base c.args.first.bits w)
    (λ u. IsBit c.args.across.base found.firsts.bits u) (λ w. IsBit c.args.first.base found.seconds.bits w) (λ v. IsBit c.args.second.base c.related-thirds.result.seconds.bits v)
    a c.requires.inside (pairs c) truth within

pub returns-in_err-keep_some-clause-correct : goal.returns-in_err-keep_some-clause-correct
returns-in_err-keep_some-clause-correct c = λ a truth within.
    (rw c.related-thirds.ensures.second_base at c.in_err-keep_some.ensures.stays) a within (kept (goal.at.returns-in_err-keep_some-clause-correct c).After-related-thirds a truth within).2

pub returns-then-not-branch-clause-correct : goal.returns-then-not-branch-clause-correct
returns-then-not-branch-clause-correct c = λ a truth within.
    (rw c.related-thirds.ensures.second_base at c.in_ok-keep_some.ensures.stays) a within (kept (goal.at.returns-then-not-branch-clause-correct c).After-related-thirds a truth within).2

pub returns-then-not-branch-clause-some : goal.returns-then-not-branch-clause-some
returns-then-not-branch-clause-some c = λ a truth within.
    rw c.if-not-branch.true at ((rw c.related-thirds.ensures.second_base at c.in_ok-keep_some.ensures.some) a within (kept (goal.at.returns-then-not-branch-clause-some c).After-related-thirds a truth within).2)

pub returns-clause-shrinks : goal.returns-clause-shrinks
returns-clause-shrinks c = shrinks_twice c.args.store.now c.keep_some.new.store c.keep_two.new.store c.in_ok-keep_some.ensures.shrinks c.keep_two.ensures.shrinks

pub returns-clause-correct : goal.returns-clause-correct
returns-clause-correct c = λ a truth within.
    let k = kept (goal.at.returns-clause-correct c).After-related-thirds a truth within in
    (rw (c.related-found.ensures.first_base, c.related-found.ensures.second_base) at c.keep_two.ensures.stays) a
    ((rw c.related-thirds.ensures.second_base at c.in_ok-keep_some.ensures.stays) a within k.2) k.0 k.1

pub returns-clause-points : goal.returns-clause-points
returns-clause-points c =
    let p = c.args.plane in
    let found = c.related-found.result in
    IfOk-weaker c.keep_two.result _ _ (λ b two yes.
    of_points p c.args.store.now.doms c.keep_some.new.store.doms c.keep_two.new.store.doms (λ u. IsBit c.args.across.base c.args.across.bits u) (λ w. IsBit c.args.first.base c.args.first.bits w)
    (λ u. IsBit c.args.across.base found.firsts.bits u) (λ w. IsBit c.args.first.base found.seconds.bits w) (λ v. IsBit c.args.second.base c.related-thirds.result.seconds.bits v)
    c.requires.apart (pairs (goal.at.returns-clause-points c).After-related-thirds) ((rw c.related-thirds.ensures.second_base at c.in_ok-keep_some.ensures.kept) (search rules)) (two yes))
    (rw (c.related-found.ensures.first_base, c.related-found.ensures.second_base) at c.keep_two.ensures.two)

pub returns-clause-some : goal.returns-clause-some
returns-clause-some c =
    IfOk-weaker c.keep_two.result _ _ (λ b some a truth within.
    let k = kept (goal.at.returns-clause-some c).After-related-thirds a truth within in
    some a ((rw c.related-thirds.ensures.second_base at c.in_ok-keep_some.ensures.stays) a within k.2) k.0 k.1)
    (rw (c.related-found.ensures.first_base, c.related-found.ensures.second_base) at c.keep_two.ensures.some)

pub keep_two-requires-clause-inside : goal.keep_two-requires-clause-inside
keep_two-requires-clause-inside c = rw c.keep_some.ensures.shrinks.narrower.size c.requires.inside

pub keep_two-requires-clause-across_room : goal.keep_two-requires-clause-across_room
keep_two-requires-clause-across_room c = rw c.related-found.ensures.first_base c.requires.across_room

pub keep_two-requires-clause-first_room : goal.keep_two-requires-clause-first_room
keep_two-requires-clause-first_room c = rw c.related-found.ensures.second_base c.requires.first_room

pub keep_some-requires-clause-room : goal.keep_some-requires-clause-room
keep_some-requires-clause-room c = rw c.related-thirds.ensures.second_base c.requires.second_room

pub related-found-requires-clause-room : goal.related-found-requires-clause-room
related-found-requires-clause-room c = let high = c.requires.across_room.1 in omega (arith, ints, high)

pub related-thirds-requires-clause-room : goal.related-thirds-requires-clause-room
related-thirds-requires-clause-room c = let same = c.related-found.ensures.first_base in let high = c.requires.across_room.1 in omega (arith, ints, same, high)

pub related-thirds-requires-clause-takes : goal.related-thirds-requires-clause-takes
related-thirds-requires-clause-takes c =
    let fits : SFits w32 c.args.plane.number = search rules in
    rw c.turned.ensures (turned_small c.args.plane c.requires.small (omega (arith, ints, fits)))
