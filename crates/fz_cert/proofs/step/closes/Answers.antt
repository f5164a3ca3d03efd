use Rattle.fz_cert.proofs.step.closes.Goals as goal

pub returns-in-Failing-clause-closes : goal.returns-in-Failing-clause-closes
returns-in-Failing-clause-closes c = rw (c.in-Failing.is) c.fails.ensures.fails
