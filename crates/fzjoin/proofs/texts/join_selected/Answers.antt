use Rattle.std.proofs.Common.{sym, subst, List, ℕ, Option}
use Rattle.fz_join.specs.Joins.{AreNamed}
use Rattle.fz_join.specs.Joining.{Joining}
use Rattle.fzjoin.specs.Steps.{IsPassed}
use Rattle.fzjoin.proofs.Outcomes.{broken, finished}
use Rattle.fzjoin.proofs.texts.join_selected.Goals as goal

pub finish-requires-clause-named : goal.finish-requires-clause-named
finish-requires-clause-named g c = subst (λ (j : Joining). AreNamed j.model) (sym c.in-Ok.ensures.passed.is) c.requires.named

pub returns-in-Ok : goal.returns-in-Ok
returns-in-Ok g c = λ all f ready texts.
    let passed = subst (λ (file : Option (List ℕ)). IsPassed c.args.join c.pass_on.new.join file (g.S.Sink.taken c.args.sink.now) (g.S.Sink.taken c.pass_on.new.sink)) (sym texts) c.in-Ok.ensures.passed in
    finished _ all f _ _ _ _ _ _ _ _ _ _ _ ready passed c.in-Ok.ensures.cause.0 c.in-Ok.ensures.cause.1 c.finish.ensures

pub returns-in-Err : goal.returns-in-Err
returns-in-Err g c = λ all f ready texts. broken c.in-Err.status all f _ _ _ _ _ _ _ c.in-Err.ensures.broken c.in-Err.ensures.cause
