use Rattle.std.proofs.Common.{List, arith, refl, pos, rules}
use Rattle.std.specs.Prelude.{ℤ, ◌↔◌}
use Rattle.std.proofs.lemmas.Option.{slice_get-get_or}
use Rattle.std.proofs.lemmas.Result.{IfOk-weaker}
use Rattle.std.proofs.Math.Facts.{to_z-of_z}
use mir.Val.{SFits}
use mir.Syntax.{w32}
use Rattle.fz_sets.specs.Sets.{IsInSet, AreOneSet}
use Rattle.fz_spec.specs.declared.term.Term.TheVariants.{Num}
use Rattle.fz_strength.specs.Domains.{term_set}
use Rattle.fz_inverse.specs.Pointing.{CanPointBack, IsLeftAt}
use Rattle.fz_inverse.proofs.Lefts.{found_none, found_passed, found_more, found_all, left_here}
use Rattle.fz_inverse.proofs.numbers.numbers_left.Goals as goal

pub loop-index-init : goal.loop-index-init
loop-index-init c = rw c.new-ranges.ensures.items (found_none c.args.others.now c.args.store.now.doms c.args.term c.args.place)

pub loop-index-preserved-then-not-has_place : goal.loop-index-preserved-then-not-has_place
loop-index-preserved-then-not-has_place c =
    let others = c.args.others.now in
    let ds = c.args.store.now.doms in
    let n = c.loop-index.index in
    let at = slice_get-get_or others n (Num (pos 0)) c.loop-index-test.true in
    found_passed others ds c.args.term c.args.place n c.loop-index.ranges.items (λ is back. cc (c.if-not-has_place.ensures.1 (left_here others ds c.args.place n _ at back))) c.loop-index.invariant

pub loop-index-preserved : goal.loop-index-preserved
loop-index-preserved c =
    let others = c.args.others.now in
    let ds = c.args.store.now.doms in
    let n = c.loop-index.index in
    let at = slice_get-get_or others n (Num (pos 0)) c.loop-index-test.true in
    let fits : SFits w32 c.in-Some.number = search rules in
    let back : IsLeftAt others ds c.args.place n = record { term = _; stands = at; left = c.if-not-has_place.ensures.0 refl } in
    rw (c.in_ok-push.ensures.items, to_z-of_z fits) (found_more others ds c.args.term c.args.place n c.in-Some.number c.loop-index.ranges.items c.in-Some.ensures back c.loop-index.invariant)

pub returns : goal.returns
returns c =
    let others = c.args.others.now in
    let ds = c.args.store.now.doms in
    let term = c.args.term in
    let place = c.args.place in
    let rs = c.loop-index.ranges.items in
    let end = c.loop-index-test.false in
    IfOk-weaker c.from_ranges.result (λ (d : List (ℤ × ℤ)). AreOneSet d rs) (λ (d : List (ℤ × ℤ)). (x : ℤ) → IsInSet (term_set ds term) x → IsInSet d x ↔ CanPointBack others ds place x)
    (λ d same. found_all others ds term place c.loop-index.index rs d (omega (arith, end)) same c.loop-index.invariant) (rw c.deref.ensures.value at c.from_ranges.ensures.one_set)
