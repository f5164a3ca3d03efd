use Rattle.std.proofs.Common.{rules, ◌-◌, length, get_or, arith}
use Rattle.std.specs.Prelude.{pos}
use Rattle.std.proofs.Math.Facts.{to_z-of_z}
use mir.Val.{SFits}
use mir.Syntax.{w64}
use Rattle.fz_spec.specs.declared.term.Term.TheVariants.{Num}
use Rattle.fz_bool.proofs.Odd.{at_place}
use Rattle.fz_bool.proofs.Ends.{all_ends, last_between}
use Rattle.fz_bool.proofs.parity.seen_at.Goals as goal

pub overflow_sub-between : goal.overflow_sub-between
overflow_sub-between c = let inside = c.requires.told.inside in omega (arith, inside)

pub overflow_sub-between-2 : goal.overflow_sub-between-2
overflow_sub-between-2 c = let inside = c.requires.told.inside in omega (arith, inside)

pub bounds-terms-front : goal.bounds-terms-front
bounds-terms-front c = omega (arith, c.if-between-eq0.false)

pub returns-then-between-eq0 : goal.returns-then-between-eq0
returns-then-between-eq0 c =
    let fits : SFits w64 c.args.ends.number = search rules in
    all_ends c.args.terms.now c.args.ends.front c.args.ends.back c.args.ends.number c.is_one-odd.result c.args.store.now.doms c.if-between-eq0.true (rw (to_z-of_z fits) at c.is_one-odd.ensures) c.requires.told

pub returns-then-between-eq1 : goal.returns-then-between-eq1
returns-then-between-eq1 c =
    let fits : SFits w64 c.args.ends.number = search rules in
    let ts = c.args.terms.now in
    let front = c.args.ends.front in
    let t = get_or ts front (Num (pos 0)) in
    let at = at_place ts front (omega (arith, c.if-between-eq0.false)) in
    last_between ts front c.args.ends.back c.args.ends.number c.is_one-odd.result t c.args.store.now.doms c.if-between-eq1.true (rw (to_z-of_z fits) at c.is_one-odd.ensures)
    at (c.requires.first c.if-not-first.false t at) c.requires.told

pub returns : goal.returns
returns c =
    let ts = c.args.terms.now in
    let front = c.args.ends.front in
    let last = length ts - 1 - c.args.ends.back in
    let one = get_or ts front (Num (pos 0)) in
    let other = get_or ts last (Num (pos 0)) in
    let at_first = at_place ts front (omega (arith, c.if-between-eq0.false)) in
    let at_second = at_place ts last (omega (arith, c.if-between-eq0.false)) in
    record {
      first = front;
      second = last;
      apart = λ e. omega (arith, e, c.if-between-eq0.false, c.if-between-eq1.false);
      one = one;
      other = other;
      at_first = at_first;
      at_second = at_second;
      one_open = c.requires.first c.if-not-first.false one at_first;
      other_open = c.requires.last c.if-not-last.false other at_second;
    }
