use Rattle.std.proofs.Common.{None, sym, ap}
use Rattle.fz_join.proofs.Names.{names_of}
use Rattle.fzjoin.specs.Answers.{input}
use Rattle.fzjoin.proofs.Outcomes.{since, told}
use Rattle.fzjoin.proofs.run.join_files.Goals as goal

pub join_texts-requires-clause-named : goal.join_texts-requires-clause-named
join_texts-requires-clause-named g c = let read = (c.in-Ok.ensures.prepared None).read in names_of read.model.text _ read.model.accepted

pub join_texts-requires-clause-unread : goal.join_texts-requires-clause-unread
join_texts-requires-clause-unread g c = (c.in-Ok.ensures.prepared None).none_read

pub join_texts-requires-clause-unprinted : goal.join_texts-requires-clause-unprinted
join_texts-requires-clause-unprinted g c = (c.in-Ok.ensures.prepared None).none_printed

pub returns-in-Ok : goal.returns-in-Ok
returns-in-Ok g c =
    since _ c.args.all _ _ _ _ _ _ _ _ _ c.in-Ok.ensures.cause
    (c.join_texts.ensures c.args.all _ (c.in-Ok.ensures.prepared (g.R.Source.texts c.args.source.now input)) (ap (λ t. t input) (sym c.prepare.ensures.texts)))

pub returns-in-Err : goal.returns-in-Err
returns-in-Err g c =
    told c.in-Err.status _ c.args.all _ _ _ _ _ _ _ _ (c.in-Err.ensures.prepared (g.R.Source.texts c.args.source.now input)) c.in-Err.ensures.cause c.tell.ensures
