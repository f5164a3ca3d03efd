use Rattle.std.proofs.Common.{◌∙◌, refl}
use Rattle.fz_collect.proofs.gathering.take_turns.Goals as goal

pub turns-init : goal.turns-init
turns-init g c = record {
  next = tt;
  finite = tt;
  works = c.requires.works;
  more = c.requires.more;
  model = c.requires.subject.0;
  mode = c.requires.subject.1;
  grew = g.met.C.Collect.stays c.args.collector.now c.args.lent.now c.requires.works;
}

pub returns-then-not-turn : goal.returns-then-not-turn
returns-then-not-turn g c =
    g.met.C.Collect.goes_on c.args.collector.now c.args.lent.now c.turns.collector c.turns.lent c.turn.new.collector c.turn.new.lent c.turns.invariant.grew c.turns.invariant.works c.turn.ensures.grew

pub turns-preserved : goal.turns-preserved
turns-preserved g c = record {
  next = tt;
  finite = tt;
  works = c.if-not-turn.ensures.works refl;
  more = c.if-not-turn.ensures.more refl;
  model = (g.met.C.Collect.keeps c.turns.collector c.turns.lent c.turn.new.collector c.turn.new.lent c.turn.ensures.grew).0 ∙ c.turns.invariant.model;
  mode = (g.met.C.Collect.keeps c.turns.collector c.turns.lent c.turn.new.collector c.turn.new.lent c.turn.ensures.grew).1 ∙ c.turns.invariant.mode;
  grew = g.met.C.Collect.goes_on c.args.collector.now c.args.lent.now c.turns.collector c.turns.lent c.turn.new.collector c.turn.new.lent c.turns.invariant.grew c.turns.invariant.works c.turn.ensures.grew;
}
