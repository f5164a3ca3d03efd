use Rattle.std.proofs.Common.{sym, subst}
use Rattle.fz_bool.specs.Parity.{IsOpenAt}
use Rattle.fz_bool.proofs.parity.seen_between.Goals as goal

pub seen_at-requires-clause-first : goal.seen_at-requires-clause-first
seen_at-requires-clause-first c = λ stops. subst (IsOpenAt c.args.store.now.doms c.args.terms.now) (sym c.pass_back-last.ensures.front) (c.pass_front-first.ensures.stop stops)

pub seen_at-requires-clause-last : goal.seen_at-requires-clause-last
seen_at-requires-clause-last c = c.pass_back-last.ensures.stop
