use Rattle.fz_path.proofs.near.told.Goals as goal

pub tell-requires : goal.tell-requires
tell-requires g c = c.requires.kept.is_at.model

pub returns-clause-near : goal.returns-clause-near
returns-clause-near g c = record { known = c.in_ok-known.ensures; above = c.requires.kept.above; is_at = c.in_ok-tell.ensures.at _ c.requires.kept.is_at }
