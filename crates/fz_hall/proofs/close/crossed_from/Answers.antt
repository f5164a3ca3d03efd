use Rattle.std.proofs.Common.{◌≡◌, ◌∙◌, ◌+◌, rules, pos, count_by, w32, arith}
use Rattle.std.specs.Prelude.{◌+ℤ◌}
use Rattle.std.proofs.Math.Facts.{to_z-of_z}
use mir.Val.{SFits}
use Rattle.fz_dom.specs.Shape.{least, greatest}
use Rattle.fz_spec.specs.declared.term.Term.{Term}
use Rattle.fz_strength.specs.Domains.{term_set}
use Rattle.fz_strength.specs.Differences.{IsSpread}
use Rattle.fz_hall.specs.Counts.{begins_at, ends_at}
use Rattle.fz_hall.proofs.Reaching.{count_reached, reached_next, reached_none, spread_next, spread_reached}
use Rattle.fz_hall.proofs.close.crossed_from.Goals as goal

pub loop-last-init : goal.loop-last-init
loop-last-init c = record {
  begins = reached_none (λ (t : Term). least (term_set c.args.store.now.doms t)) c.args.terms.now c.args.tally.now.span.low c.args.place;
  ends = reached_none (λ (t : Term). greatest (term_set c.args.store.now.doms t)) c.args.terms.now c.args.tally.now.span.low c.args.place;
  spread = λ u from to. absurd (omega (arith, from, to));
}

pub is_crossed-requires-clause-begins : goal.is_crossed-requires-clause-begins
is_crossed-requires-clause-begins c =
    let xs = c.args.terms.now in
    let ds = c.args.store.now.doms in
    let low = c.args.tally.now.span.low in
    let last = c.loop-last.last in
    let most = c.width_of-last-end.ensures.most in
    let test = c.loop-last-test.true in
    let here : c.from-begins.result ≡ count_by (begins_at ds (low +ℤ pos last)) xs = c.from-begins.ensures ∙ c.requires.tally.begins.each last (omega (arith, most, test)) in
    let low_fits : SFits w32 c.number_at-low.result = search rules in
    let high_fits : SFits w32 c.number_at.result = search rules in
    rw (to_z-of_z low_fits, to_z-of_z high_fits, c.number_at-low.ensures, c.number_at.ensures)
    (count_reached (λ (t : Term). least (term_set ds t)) xs low c.args.place last c.loop-last.begins c.from-begins.result (search rules) c.loop-last.invariant.begins here)

pub is_crossed-requires-clause-ends : goal.is_crossed-requires-clause-ends
is_crossed-requires-clause-ends c =
    let xs = c.args.terms.now in
    let ds = c.args.store.now.doms in
    let low = c.args.tally.now.span.low in
    let last = c.loop-last.last in
    let most = c.width_of-last-end.ensures.most in
    let test = c.loop-last-test.true in
    let here : c.from-ends.result ≡ count_by (ends_at ds (low +ℤ pos last)) xs = c.from-ends.ensures ∙ c.requires.tally.ends.each last (omega (arith, most, test)) in
    let low_fits : SFits w32 c.number_at-low.result = search rules in
    let high_fits : SFits w32 c.number_at.result = search rules in
    rw (to_z-of_z low_fits, to_z-of_z high_fits, c.number_at-low.ensures, c.number_at.ensures)
    (count_reached (λ (t : Term). greatest (term_set ds t)) xs low c.args.place last c.loop-last.ends c.from-ends.result (search rules) c.loop-last.invariant.ends here)

pub loop-last-preserved : goal.loop-last-preserved
loop-last-preserved c =
    let xs = c.args.terms.now in
    let ds = c.args.store.now.doms in
    let low = c.args.tally.now.span.low in
    let place = c.args.place in
    let last = c.loop-last.last in
    let most = c.width_of-last-end.ensures.most in
    let test = c.loop-last-test.true in
    let begins_here : c.from-begins.result ≡ count_by (begins_at ds (low +ℤ pos last)) xs = c.from-begins.ensures ∙ c.requires.tally.begins.each last (omega (arith, most, test)) in
    let ends_here : c.from-ends.result ≡ count_by (ends_at ds (low +ℤ pos last)) xs = c.from-ends.ensures ∙ c.requires.tally.ends.each last (omega (arith, most, test)) in
    let low_fits : SFits w32 c.number_at-low.result = search rules in
    let high_fits : SFits w32 c.number_at.result = search rules in
    let here : IsSpread xs ds (low +ℤ pos place) (low +ℤ pos last) = rw (to_z-of_z low_fits, to_z-of_z high_fits, c.number_at-low.ensures, c.number_at.ensures) at (c.is_crossed.ensures c.if-is_crossed.false) in
    record {
      begins = reached_next (λ (t : Term). least (term_set ds t)) xs low place last (c.loop-last.begins + c.from-begins.result) (count_reached (λ (t : Term). least (term_set ds t)) xs low place last c.loop-last.begins c.from-begins.result (search rules) c.loop-last.invariant.begins begins_here);
      ends = reached_next (λ (t : Term). greatest (term_set ds t)) xs low place last (c.loop-last.ends + c.from-ends.result) (count_reached (λ (t : Term). greatest (term_set ds t)) xs low place last c.loop-last.ends c.from-ends.result (search rules) c.loop-last.invariant.ends ends_here);
      spread = spread_next xs ds low place last c.loop-last.invariant.spread here;
    }

pub returns : goal.returns
returns c = λ none.
    let test = c.loop-last-test.false in
    spread_reached c.args.terms.now c.args.store.now.doms c.args.tally.now.span.low c.args.tally.now.span.high c.args.place c.width_of-last-end.result c.width_of-last-end.ensures c.requires.within c.requires.tally.span
    (λ u from to. c.loop-last.invariant.spread u from (omega (arith, test, to)))
