use Rattle.std.proofs.Common.{◌≡◌, rules, true, false, sym, arith}
use Rattle.std.specs.Prelude.{ℤ, pos, ◌+ℤ◌, ◌-ℤ◌, ◌≤ℤ◌, ◌<ℤ◌}
use Rattle.std.proofs.Math.Facts.{to_z-of_z}
use mir.Syntax.{w32}
use mir.Val.{SFits}
use Rattle.std.proofs.lemmas.Int.{ints}
use Rattle.std.proofs.lemmas.Result.{IfOk-weaker}
use Rattle.fz_dom.specs.Shape.{least, greatest}
use Rattle.fz_strength.specs.Domains.{term_set}
use Rattle.fz_strength.specs.Differences.{IsClear, is_between, is_confined}
use Rattle.fz_prop.specs.Outcomes.{IsOutcome}
use Rattle.fz_prop.specs.Stores.{IsTermChange}
use Rattle.fz_hall.specs.Intervals.{IsKeptOut}
use Rattle.fz_hall.specs.Lefts.{IfSame}
use Rattle.fz_hall.proofs.Crowding.{between_is}
use Rattle.fz_hall.proofs.Outside.{stands_behind, stands_before, out_correct, out_outcome, goes_on, begins_before, never_same, least_in, greatest_in}
use Rattle.fz_hall.proofs.narrow.keep_out.Goals as goal

pub returns-then-has-clause-correct : goal.returns-then-has-clause-correct
returns-then-has-clause-correct c =
    let r = c.args.store.now in
    let t = c.args.term in
    let low = c.args.interval.low in
    let high = c.args.interval.high in
    let outside : is_confined r.doms low high t ≡ false = rw (c.ends_of-ends.ensures.low, c.ends_of-ends.ensures.high) at (sym (rw c.if-contains.false at c.contains.ensures)) in
    let low_fits : SFits w32 c.ends_of-ends.result.low = search rules in
    let inside : is_between low high (least (term_set r.doms t)) ≡ true = rw (to_z-of_z low_fits, c.ends_of-ends.ensures.low) at (sym (rw c.if-has.true at c.has.ensures)) in
    let since : low ≤ℤ least (term_set r.doms t) = (between_is low high (least (term_set r.doms t)) inside).0 in
    let until : least (term_set r.doms t) ≤ℤ high = (between_is low high (least (term_set r.doms t)) inside).1 in
    let behind : high <ℤ greatest (term_set r.doms t) = goes_on low high (least (term_set r.doms t)) (greatest (term_set r.doms t)) outside since in
    let end_fits : SFits w32 high = search rules in
    let next_fits : SFits w32 c.next.result = search rules in
    let next = rw (to_z-of_z end_fits) at c.next.ensures in
    let change = rw (to_z-of_z next_fits, next) at c.keep_from.ensures.change in
    out_correct c.keep_from.result t (λ (x : ℤ). (high +ℤ pos 1) ≤ℤ x) low high r c.keep_from.new.store (λ a within out. stands_behind r.doms a low high t c.requires c.doms.ensures.store.domains since behind within out) c.keep_from.ensures.err change c.keep_from.ensures.shrinks

pub returns-then-has-clause-outcome : goal.returns-then-has-clause-outcome
returns-then-has-clause-outcome c =
    let r = c.args.store.now in
    let t = c.args.term in
    let low = c.args.interval.low in
    let high = c.args.interval.high in
    let outside : is_confined r.doms low high t ≡ false = rw (c.ends_of-ends.ensures.low, c.ends_of-ends.ensures.high) at (sym (rw c.if-contains.false at c.contains.ensures)) in
    let low_fits : SFits w32 c.ends_of-ends.result.low = search rules in
    let inside : is_between low high (least (term_set r.doms t)) ≡ true = rw (to_z-of_z low_fits, c.ends_of-ends.ensures.low) at (sym (rw c.if-has.true at c.has.ensures)) in
    let since : low ≤ℤ least (term_set r.doms t) = (between_is low high (least (term_set r.doms t)) inside).0 in
    let until : least (term_set r.doms t) ≤ℤ high = (between_is low high (least (term_set r.doms t)) inside).1 in
    let behind : high <ℤ greatest (term_set r.doms t) = goes_on low high (least (term_set r.doms t)) (greatest (term_set r.doms t)) outside since in
    let end_fits : SFits w32 high = search rules in
    let next_fits : SFits w32 c.next.result = search rules in
    let next = rw (to_z-of_z end_fits) at c.next.ensures in
    let change = rw (to_z-of_z next_fits, next) at c.keep_from.ensures.change in
    IfOk-weaker c.keep_from.result (λ change. IsTermChange change t (λ (x : ℤ). (high +ℤ pos 1) ≤ℤ x) r c.keep_from.new.store) (λ change. IsOutcome change (IsKeptOut r.doms t low high) r c.keep_from.new.store)
    (λ change h. out_outcome change t (λ (x : ℤ). (high +ℤ pos 1) ≤ℤ x) low high r c.keep_from.new.store c.requires (λ a within out. stands_behind r.doms a low high t c.requires c.doms.ensures.store.domains since behind within out) h) change

pub returns-then-has-clause-clear : goal.returns-then-has-clause-clear
returns-then-has-clause-clear c =
    let r = c.args.store.now in
    let t = c.args.term in
    let low = c.args.interval.low in
    let high = c.args.interval.high in
    let outside : is_confined r.doms low high t ≡ false = rw (c.ends_of-ends.ensures.low, c.ends_of-ends.ensures.high) at (sym (rw c.if-contains.false at c.contains.ensures)) in
    let low_fits : SFits w32 c.ends_of-ends.result.low = search rules in
    let inside : is_between low high (least (term_set r.doms t)) ≡ true = rw (to_z-of_z low_fits, c.ends_of-ends.ensures.low) at (sym (rw c.if-has.true at c.has.ensures)) in
    let since : low ≤ℤ least (term_set r.doms t) = (between_is low high (least (term_set r.doms t)) inside).0 in
    let until : least (term_set r.doms t) ≤ℤ high = (between_is low high (least (term_set r.doms t)) inside).1 in
    let behind : high <ℤ greatest (term_set r.doms t) = goes_on low high (least (term_set r.doms t)) (greatest (term_set r.doms t)) outside since in
    let end_fits : SFits w32 high = search rules in
    let next_fits : SFits w32 c.next.result = search rules in
    let next = rw (to_z-of_z end_fits) at c.next.ensures in
    let change = rw (to_z-of_z next_fits, next) at c.keep_from.ensures.change in
    IfOk-weaker c.keep_from.result (λ change. IsTermChange change t (λ (x : ℤ). (high +ℤ pos 1) ≤ℤ x) r c.keep_from.new.store) (λ change. IfSame change (IsClear c.keep_from.new.store.doms low high t))
    (λ change h. never_same change t (λ (x : ℤ). (high +ℤ pos 1) ≤ℤ x) (IsClear c.keep_from.new.store.doms low high t) r c.keep_from.new.store h (least (term_set r.doms t)) (least_in r.doms t c.requires c.doms.ensures.store.domains) (λ more. omega (arith, ints, more, until))) change

pub returns-then-has-2-clause-correct : goal.returns-then-has-2-clause-correct
returns-then-has-2-clause-correct c =
    let r = c.args.store.now in
    let t = c.args.term in
    let low = c.args.interval.low in
    let high = c.args.interval.high in
    let outside : is_confined r.doms low high t ≡ false = rw (c.ends_of-ends.ensures.low, c.ends_of-ends.ensures.high) at (sym (rw c.if-contains.false at c.contains.ensures)) in
    let high_fits : SFits w32 c.ends_of-ends.result.high = search rules in
    let inside : is_between low high (greatest (term_set r.doms t)) ≡ true = rw (to_z-of_z high_fits, c.ends_of-ends.ensures.high) at (sym (rw c.if-has-2.true at c.has-2.ensures)) in
    let since : low ≤ℤ greatest (term_set r.doms t) = (between_is low high (greatest (term_set r.doms t)) inside).0 in
    let until : greatest (term_set r.doms t) ≤ℤ high = (between_is low high (greatest (term_set r.doms t)) inside).1 in
    let before : least (term_set r.doms t) <ℤ low = begins_before low high (least (term_set r.doms t)) (greatest (term_set r.doms t)) outside until in
    let end_fits : SFits w32 low = search rules in
    let previous_fits : SFits w32 c.previous.result = search rules in
    let previous = rw (to_z-of_z end_fits) at c.previous.ensures in
    let change = rw (to_z-of_z previous_fits, previous) at c.keep_to.ensures.change in
    out_correct c.keep_to.result t (λ (x : ℤ). x ≤ℤ (low -ℤ pos 1)) low high r c.keep_to.new.store (λ a within out. stands_before r.doms a low high t c.requires c.doms.ensures.store.domains until before within out) c.keep_to.ensures.err change c.keep_to.ensures.shrinks

pub returns-then-has-2-clause-outcome : goal.returns-then-has-2-clause-outcome
returns-then-has-2-clause-outcome c =
    let r = c.args.store.now in
    let t = c.args.term in
    let low = c.args.interval.low in
    let high = c.args.interval.high in
    let outside : is_confined r.doms low high t ≡ false = rw (c.ends_of-ends.ensures.low, c.ends_of-ends.ensures.high) at (sym (rw c.if-contains.false at c.contains.ensures)) in
    let high_fits : SFits w32 c.ends_of-ends.result.high = search rules in
    let inside : is_between low high (greatest (term_set r.doms t)) ≡ true = rw (to_z-of_z high_fits, c.ends_of-ends.ensures.high) at (sym (rw c.if-has-2.true at c.has-2.ensures)) in
    let since : low ≤ℤ greatest (term_set r.doms t) = (between_is low high (greatest (term_set r.doms t)) inside).0 in
    let until : greatest (term_set r.doms t) ≤ℤ high = (between_is low high (greatest (term_set r.doms t)) inside).1 in
    let before : least (term_set r.doms t) <ℤ low = begins_before low high (least (term_set r.doms t)) (greatest (term_set r.doms t)) outside until in
    let end_fits : SFits w32 low = search rules in
    let previous_fits : SFits w32 c.previous.result = search rules in
    let previous = rw (to_z-of_z end_fits) at c.previous.ensures in
    let change = rw (to_z-of_z previous_fits, previous) at c.keep_to.ensures.change in
    IfOk-weaker c.keep_to.result (λ change. IsTermChange change t (λ (x : ℤ). x ≤ℤ (low -ℤ pos 1)) r c.keep_to.new.store) (λ change. IsOutcome change (IsKeptOut r.doms t low high) r c.keep_to.new.store)
    (λ change h. out_outcome change t (λ (x : ℤ). x ≤ℤ (low -ℤ pos 1)) low high r c.keep_to.new.store c.requires (λ a within out. stands_before r.doms a low high t c.requires c.doms.ensures.store.domains until before within out) h) change

pub returns-then-has-2-clause-clear : goal.returns-then-has-2-clause-clear
returns-then-has-2-clause-clear c =
    let r = c.args.store.now in
    let t = c.args.term in
    let low = c.args.interval.low in
    let high = c.args.interval.high in
    let outside : is_confined r.doms low high t ≡ false = rw (c.ends_of-ends.ensures.low, c.ends_of-ends.ensures.high) at (sym (rw c.if-contains.false at c.contains.ensures)) in
    let high_fits : SFits w32 c.ends_of-ends.result.high = search rules in
    let inside : is_between low high (greatest (term_set r.doms t)) ≡ true = rw (to_z-of_z high_fits, c.ends_of-ends.ensures.high) at (sym (rw c.if-has-2.true at c.has-2.ensures)) in
    let since : low ≤ℤ greatest (term_set r.doms t) = (between_is low high (greatest (term_set r.doms t)) inside).0 in
    let until : greatest (term_set r.doms t) ≤ℤ high = (between_is low high (greatest (term_set r.doms t)) inside).1 in
    let before : least (term_set r.doms t) <ℤ low = begins_before low high (least (term_set r.doms t)) (greatest (term_set r.doms t)) outside until in
    let end_fits : SFits w32 low = search rules in
    let previous_fits : SFits w32 c.previous.result = search rules in
    let previous = rw (to_z-of_z end_fits) at c.previous.ensures in
    let change = rw (to_z-of_z previous_fits, previous) at c.keep_to.ensures.change in
    IfOk-weaker c.keep_to.result (λ change. IsTermChange change t (λ (x : ℤ). x ≤ℤ (low -ℤ pos 1)) r c.keep_to.new.store) (λ change. IfSame change (IsClear c.keep_to.new.store.doms low high t))
    (λ change h. never_same change t (λ (x : ℤ). x ≤ℤ (low -ℤ pos 1)) (IsClear c.keep_to.new.store.doms low high t) r c.keep_to.new.store h (greatest (term_set r.doms t)) (greatest_in r.doms t c.requires c.doms.ensures.store.domains) (λ less. omega (arith, ints, less, since))) change

pub returns-then-contains-clause-clear : goal.returns-then-contains-clause-clear
returns-then-contains-clause-clear c = λ outside.
    let yes : is_confined c.args.store.now.doms c.args.interval.low c.args.interval.high c.args.term ≡ true = rw (c.ends_of-ends.ensures.low, c.ends_of-ends.ensures.high) at (sym (rw c.if-contains.true at c.contains.ensures)) in
    absurd (cc (yes, outside))

pub returns-clause-clear : goal.returns-clause-clear
returns-clause-clear c = λ outside.
    let low_fits : SFits w32 c.ends_of-ends.result.low = search rules in
    let high_fits : SFits w32 c.ends_of-ends.result.high = search rules in
    (rw (to_z-of_z low_fits, c.ends_of-ends.ensures.low) at (sym (rw c.if-has.false at c.has.ensures)), rw (to_z-of_z high_fits, c.ends_of-ends.ensures.high) at (sym (rw c.if-has-2.false at c.has-2.ensures)))
