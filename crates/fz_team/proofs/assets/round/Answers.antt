use Rattle.fz_team.proofs.assets.round.Goals as goal

pub returns-in-Ok-clause-all : goal.returns-in-Ok-clause-all
returns-in-Ok-clause-all g c = c.in-Ok.ensures.all
