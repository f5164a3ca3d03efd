use Rattle.std.proofs.Common.{List, ℕ, subst}
use Rattle.fzn.specs.Steps.{IsReadOf, PrintsOf}
use Rattle.fzn.proofs.Outcomes.{reads_all, runs, runs_source_fault, runs_short}
use Rattle.fzn.proofs.run.run_file.Goals as goal

pub returns-in-Ok-clause-printed : goal.returns-in-Ok-clause-printed
returns-in-Ok-clause-printed g c =
    let before = g.S.Sink.taken c.args.sink.now in
    let after = g.S.Sink.taken c.run_text.new.sink in
    runs c.run_text.result c.args.options.now _ before after c.in-Ok.text.items
    (subst (λ (name : List ℕ). IsReadOf (g.R.Source.texts c.args.source.now name) c.in-Ok.text.items) c.file_of.ensures c.in-Ok.ensures.read)
    c.run_text.ensures.printed

pub returns-in-Err-Fault-clause-printed : goal.returns-in-Err-Fault-clause-printed
returns-in-Err-Fault-clause-printed g c = runs_source_fault _ _ _

pub returns-in-Err-Memory-clause-printed : goal.returns-in-Err-Memory-clause-printed
returns-in-Err-Memory-clause-printed g c = runs_short _ _ _

pub returns-in-Ok-clause-whole : goal.returns-in-Ok-clause-whole
returns-in-Ok-clause-whole g c =
    let before = g.S.Sink.taken c.args.sink.now in
    let after = g.S.Sink.taken c.run_text.new.sink in
    reads_all c.run_text.result c.in-Ok.text.items c.args.options.now before after _ c.run_text.ensures.printed c.in-Ok.ensures.whole
