use Rattle.fzjoin.proofs.Outcomes.{read_of_all}
use Rattle.fzjoin.proofs.prepare.read_selected.Goals as goal

pub returns-in-Ok-Bytes-clause-read : goal.returns-in-Ok-Bytes-clause-read
returns-in-Ok-Bytes-clause-read g c =
    read_of_all c.args.limit (g.R.Source.left c.args.source.now) (g.R.Source.left c.read_all.new.source) c.in-Ok-Bytes.text.items (rw c.in-Ok-Bytes.field-0-is at c.in-Ok-Bytes.ensures.whole)
