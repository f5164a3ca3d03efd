use Rattle.std.proofs.Common.{◌-◌, length, get_or, arith}
use Rattle.fz_strength.specs.Clauses.{IsTrueIn}
use Rattle.fz_bool.proofs.Looks.{blank, at_place, some_at, ends_none, ends_one}
use Rattle.fz_bool.proofs.literals.left_at.Goals.{then-front-count-via-then-front-count, then-front-count-via-else-front-count+then-back-count}
use Rattle.fz_bool.proofs.literals.left_at.Goals as goal

pub returns-then-front-count : goal.returns-then-front-count
returns-then-front-count c =
    let ds = c.args.store.now.doms in
    let ls = c.args.literals.now in
    elim c.then-front-count.branch [
      | then-front-count-via-then-front-count w ↦ ends_none ds ls c.args.front c.args.back (omega (arith, w.if-front-count.true)) c.requires.told
      | then-front-count-via-else-front-count+then-back-count w ↦
          ends_none ds ls c.args.front c.args.back (omega (arith, w.if-front-count.false, w.if-back-count.true)) c.requires.told
    ]

pub returns-in-True-default : goal.returns-in-True-default
returns-in-True-default c =
    let ls = c.args.literals.now in
    some_at (IsTrueIn c.args.store.now.doms) ls c.args.front (get_or ls c.args.front blank) (at_place ls c.args.front c.if-front-count.false) c.in-True-default.ensures

pub returns-in_default-True : goal.returns-in_default-True
returns-in_default-True c =
    let ls = c.args.literals.now in
    let last = length ls - 1 - c.args.back in
    some_at (IsTrueIn c.args.store.now.doms) ls last (get_or ls last blank) (at_place ls last (omega (arith, c.if-front-count.false, c.if-back-count.false))) c.in_default-True.ensures'

pub returns-in_default-True-2 : goal.returns-in_default-True-2
returns-in_default-True-2 c =
    let ls = c.args.literals.now in
    let last = length ls - 1 - c.args.back in
    some_at (IsTrueIn c.args.store.now.doms) ls last (get_or ls last blank) (at_place ls last (omega (arith, c.if-front-count.false, c.if-back-count.false))) c.in_default-True.ensures'

pub returns-then-front-last : goal.returns-then-front-last
returns-then-front-last c =
    let ls = c.args.literals.now in
    ends_one c.args.store.now.doms ls c.args.front c.args.back (get_or ls c.args.front blank)
    (omega (arith, c.if-front-last.true, c.if-front-count.false, c.if-back-count.false))
    (at_place ls c.args.front c.if-front-count.false) c.in-Open-Open.ensures c.requires.told

pub returns-else-front-last : goal.returns-else-front-last
returns-else-front-last c =
    let ls = c.args.literals.now in
    let last = length ls - 1 - c.args.back in
    record {
      first = c.args.front;
      second = last;
      apart = c.if-front-last.false;
      one = get_or ls c.args.front blank;
      other = get_or ls last blank;
      at_first = at_place ls c.args.front c.if-front-count.false;
      at_second = at_place ls last (omega (arith, c.if-front-count.false, c.if-back-count.false));
      one_open = c.in-Open-Open.ensures;
      other_open = c.in-Open-Open.ensures';
    }
