use Rattle.std.proofs.Common.{◌≡◌, ◌∙◌, ◌≤◌, rules, pos, false, get_or, sym, arith}
use Rattle.std.specs.Prelude.{◌+ℤ◌, ◌<ℤ◌}
use Rattle.fz_hall.proofs.Pairs.{all_ordered}
use Rattle.fz_hall.proofs.Reaching.{seen_none, seen_on, seen_single, spread_by_excess}
use Rattle.fz_hall.proofs.close.crossed_at.Goals as goal

pub returns-then-begins-eq0 : goal.returns-then-begins-eq0
returns-then-begins-eq0 c = λ none.
    let n = c.args.tally.now.span.low +ℤ pos c.args.place in
    let zero : get_or c.args.tally.now.begins c.args.place 0 ≡ 0 = search rules in
    seen_none c.args.terms.now c.args.store.now.doms n (sym (c.requires.tally.begins.each c.args.place c.requires.place) ∙ zero)

pub returns-then-tally-place-le1 : goal.returns-then-tally-place-le1
returns-then-tally-place-le1 c = λ none.
    let xs = c.args.terms.now in
    let ds = c.args.store.now.doms in
    let place = c.args.place in
    let n = c.args.tally.now.span.low +ℤ pos place in
    let closed : get_or c.args.tally.now.opens place false ≡ false = search rules in
    let one : get_or c.args.tally.now.begins place 0 ≡ 1 = search rules in
    let few : get_or c.args.tally.now.ends place 0 ≤ 1 = search rules in
    let begins = c.requires.tally.begins.each place c.requires.place in
    let ends = c.requires.tally.ends.each place c.requires.place in
    seen_single xs ds n (all_ordered ds xs c.requires.terms c.doms.ensures.store.domains) (c.requires.tally.opens.each place c.requires.place closed) (omega (arith, begins, one)) (omega (arith, ends, few))

pub returns-then-excess-lt0 : goal.returns-then-excess-lt0
returns-then-excess-lt0 c = λ none.
    let xs = c.args.terms.now in
    let ds = c.args.store.now.doms in
    let n = c.args.tally.now.span.low +ℤ pos c.args.place in
    let fewer : c.args.excess <ℤ pos 0 = search rules in
    seen_on xs ds n (spread_by_excess xs ds c.args.tally.now.span.low n c.args.tally.now.span.high c.args.excess c.requires.within (all_ordered ds xs c.requires.terms c.doms.ensures.store.domains) c.requires.tally.span c.requires.excess fewer)

pub returns : goal.returns
returns c = λ none. seen_on c.args.terms.now c.args.store.now.doms (c.args.tally.now.span.low +ℤ pos c.args.place) (c.crossed_from.ensures none)
