use Rattle.std.proofs.Common.{List, arith, rules}
use Rattle.std.specs.Prelude.{ℤ}
use Rattle.std.proofs.lemmas.Int.{ints}
use Rattle.std.proofs.lemmas.Result.{IfOk-weaker}
use Rattle.fz_bits.specs.Windows.{IsBit}
use Rattle.fz_strength.specs.Domains.{Within, number_at}
use Rattle.fz_prop.proofs.Twice.{shrinks_twice}
use Rattle.fz_shift.specs.Planes.{PlaneTruth}
use Rattle.fz_shift.specs.Points.{IsMade}
use Rattle.fz_shift.proofs.Kept.{ArePairs, all_kept, of_points}
use Rattle.fz_shift.proofs.Leaving.{far_pairs}
use Rattle.fz_shift.proofs.far.keep_far.Goals.{After-related-found}
use Rattle.fz_shift.proofs.far.keep_far.Goals as goal

-- the numbers of the second variable that are made of those that are kept of the other two
abbrev made : After-related-found → ℤ → Type 0
made c = IsMade c.args.plane (λ u. IsBit c.args.across.base c.related-found.result.firsts.bits u) (λ w. IsBit c.args.first.base c.related-found.result.seconds.bits w)

-- the pairs of what was left, and what is kept of them
pairs : (c : After-related-found)
    → ArePairs c.args.plane c.args.store.now.doms (λ u. IsBit c.args.across.base c.args.across.bits u) (λ w. IsBit c.args.first.base c.args.first.bits w)
    (λ u. IsBit c.args.across.base c.related-found.result.firsts.bits u) (λ w. IsBit c.args.first.base c.related-found.result.seconds.bits w) (made c)
pairs c =
    let found = c.related-found.result in
    far_pairs c.args.plane c.args.store.now.doms (λ u. IsBit c.args.across.base c.args.across.bits u) (λ w. IsBit c.args.first.base c.args.first.bits w)
    (λ u. IsBit c.args.across.base found.firsts.bits u) (λ w. IsBit c.args.first.base found.seconds.bits w) c.requires.across c.requires.first
    (rw c.dom-second.ensures.dom at c.related-found.ensures.matching)

-- an assignment on the plane is kept
kept : (c : After-related-found) (a : List ℤ) → PlaneTruth c.args.plane a → Within c.args.store.now.doms a
    → IsBit c.args.across.base c.related-found.result.firsts.bits (number_at a c.args.plane.across) × IsBit c.args.first.base c.related-found.result.seconds.bits (number_at a c.args.plane.first)
    × made c (number_at a c.args.plane.second)
kept c a truth within =
    let found = c.related-found.result in
    all_kept c.args.plane c.args.store.now.doms (λ u. IsBit c.args.across.base c.args.across.bits u) (λ w. IsBit c.args.first.base c.args.first.bits w)
    (λ u. IsBit c.args.across.base found.firsts.bits u) (λ w. IsBit c.args.first.base found.seconds.bits w) (made c) a c.requires.inside (pairs c) truth within

pub returns-in_err-keep_seconds-clause-correct : goal.returns-in_err-keep_seconds-clause-correct
returns-in_err-keep_seconds-clause-correct c = λ a truth within.
    let k = kept (goal.at.returns-in_err-keep_seconds-clause-correct c).After-related-found a truth within in
    (rw (c.related-found.ensures.first_base, c.related-found.ensures.second_base) at c.in_err-keep_seconds.ensures.stays) a within k.2

pub returns-then-not-branch-clause-correct : goal.returns-then-not-branch-clause-correct
returns-then-not-branch-clause-correct c = λ a truth within.
    let k = kept (goal.at.returns-then-not-branch-clause-correct c).After-related-found a truth within in
    (rw (c.related-found.ensures.first_base, c.related-found.ensures.second_base) at c.in_ok-keep_seconds.ensures.stays) a within k.2

pub returns-then-not-branch-clause-some : goal.returns-then-not-branch-clause-some
returns-then-not-branch-clause-some c = λ a truth within.
    let k = kept (goal.at.returns-then-not-branch-clause-some c).After-related-found a truth within in
    rw c.if-not-branch.true at ((rw (c.related-found.ensures.first_base, c.related-found.ensures.second_base) at c.in_ok-keep_seconds.ensures.some) a within k.2)

pub returns-clause-shrinks : goal.returns-clause-shrinks
returns-clause-shrinks c = shrinks_twice c.args.store.now c.keep_seconds.new.store c.keep_two.new.store c.in_ok-keep_seconds.ensures.shrinks c.keep_two.ensures.shrinks

pub returns-clause-correct : goal.returns-clause-correct
returns-clause-correct c = λ a truth within.
    let k = kept (goal.at.returns-clause-correct c).After-related-found a truth within in
    (rw (c.related-found.ensures.first_base, c.related-found.ensures.second_base) at c.keep_two.ensures.stays) a
    ((rw (c.related-found.ensures.first_base, c.related-found.ensures.second_base) at c.in_ok-keep_seconds.ensures.stays) a within k.2) k.0 k.1

pub returns-clause-points : goal.returns-clause-points
returns-clause-points c =
    let found = c.related-found.result in
    let after = (goal.at.returns-clause-points c).After-related-found in
    IfOk-weaker c.keep_two.result _ _ (λ b two yes.
    of_points c.args.plane c.args.store.now.doms c.keep_seconds.new.store.doms c.keep_two.new.store.doms (λ u. IsBit c.args.across.base c.args.across.bits u) (λ w. IsBit c.args.first.base c.args.first.bits w)
    (λ u. IsBit c.args.across.base found.firsts.bits u) (λ w. IsBit c.args.first.base found.seconds.bits w) (made after)
    c.requires.apart (pairs after) ((rw (c.related-found.ensures.first_base, c.related-found.ensures.second_base) at c.in_ok-keep_seconds.ensures.kept) (search rules)) (two yes))
    (rw (c.related-found.ensures.first_base, c.related-found.ensures.second_base) at c.keep_two.ensures.two)

pub returns-clause-some : goal.returns-clause-some
returns-clause-some c =
    IfOk-weaker c.keep_two.result _ _ (λ b some a truth within.
    let k = kept (goal.at.returns-clause-some c).After-related-found a truth within in
    some a ((rw (c.related-found.ensures.first_base, c.related-found.ensures.second_base) at c.in_ok-keep_seconds.ensures.stays) a within k.2) k.0 k.1)
    (rw (c.related-found.ensures.first_base, c.related-found.ensures.second_base) at c.keep_two.ensures.some)

pub keep_two-requires-clause-inside : goal.keep_two-requires-clause-inside
keep_two-requires-clause-inside c = rw c.keep_seconds.ensures.shrinks.narrower.size c.requires.inside

pub keep_two-requires-clause-across_room : goal.keep_two-requires-clause-across_room
keep_two-requires-clause-across_room c = rw c.related-found.ensures.first_base c.requires.across_room

pub keep_two-requires-clause-first_room : goal.keep_two-requires-clause-first_room
keep_two-requires-clause-first_room c = rw c.related-found.ensures.second_base c.requires.first_room

pub keep_seconds-requires-clause-across_room : goal.keep_seconds-requires-clause-across_room
keep_seconds-requires-clause-across_room c = rw c.related-found.ensures.first_base c.requires.across_room

pub related-found-requires-clause-room : goal.related-found-requires-clause-room
related-found-requires-clause-room c = let high = c.requires.across_room.1 in omega (arith, ints, high)
