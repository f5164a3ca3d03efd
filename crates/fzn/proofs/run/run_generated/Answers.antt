use Rattle.fzn.proofs.Outcomes.{unrefused, made}
use Rattle.fzn.proofs.run.run_generated.Goals as goal

pub returns-in-Ok-clause-unrefused : goal.returns-in-Ok-clause-unrefused
returns-in-Ok-clause-unrefused g c =
    unrefused c.run_text.result c.args.items _ c.args.options.now _ _ _ _ c.requires.least c.requires.most c.requires.part c.in-Ok.ensures c.run_text.ensures.printed c.run_text.ensures.cause

pub returns-in-Ok-clause-made : goal.returns-in-Ok-clause-made
returns-in-Ok-clause-made g c = λ same.
    made c.run_text.result _ _
    (unrefused c.run_text.result c.args.items _ c.args.options.now _ _ _ _ c.requires.least c.requires.most c.requires.part c.in-Ok.ensures c.run_text.ensures.printed c.run_text.ensures.cause)
    c.run_text.ensures.cause same
