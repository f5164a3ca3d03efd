use Rattle.std.proofs.Common.{refl, ◌∙◌}
use Rattle.std.proofs.lemmas.Result.{err_from_is_err_and}
use Rattle.fzjoin.proofs.Outcomes.{more_still}
use Rattle.fzjoin.proofs.Passing.{passed, passing_at_first, passing_on}
use Rattle.fzjoin.proofs.texts.pass_on.Goals as goal

pub pieces-init : goal.pieces-init
pieces-init g c = record {
  empty = c.new-text.ensures.items;
  source = refl;
  sink = refl;
  passing = passing_at_first c.args.join.now (g.R.Source.left c.args.source.now) (g.S.Sink.taken c.args.sink.now) c.requires.unread c.requires.unprinted;
}

pub returns-in-Ok-eq0-clause-passed : goal.returns-in-Ok-eq0-clause-passed
returns-in-Ok-eq0-clause-passed g c =
    passed _ _ _ _ _ _ _ _ c.pieces.invariant.passing (rw c.in-Ok-eq0.field-0-test at c.in-Ok-eq0.ensures.moves)

pub returns-in-Ok-eq0-clause-cause : goal.returns-in-Ok-eq0-clause-cause
returns-in-Ok-eq0-clause-cause g c = (c.in-Ok-eq0.ensures.cause ∙ c.pieces.invariant.source, c.pieces.invariant.sink)

pub returns-in_err-feed-in-Ok-clause-broken : goal.returns-in_err-feed-in-Ok-clause-broken
returns-in_err-feed-in-Ok-clause-broken g c =
    let p = err_from_is_err_and c.from_residual.result c.from_residual.ensures.1 in
    rw p.1 (more_still _ _ _ (c.pieces.join.printed, c.pieces.invariant.passing.taken) c.in_err-feed-in-Ok.ensures.broken)

pub pieces-preserved : goal.pieces-preserved
pieces-preserved g c = record {
  empty = c.in_ok-feed-in-Ok.ensures.empty;
  source = c.in-Ok.ensures.cause ∙ c.pieces.invariant.source;
  sink = (c.in_ok-feed-in-Ok.ensures.cause 0).1 ∙ c.pieces.invariant.sink;
  passing = passing_on _ _ _ _ _ _ _ _ _ _ _ c.pieces.invariant.passing c.in-Ok.ensures.moves c.in_ok-feed-in-Ok.ensures.fed;
}
