use Rattle.fz_space.specs.Alive.{FrontFixed}
use Rattle.fz_space.proofs.rest.first_open.Given as goal

-- the domains so far have one number each
abbrev pub invariant-loop-place : goal.invariant-loop-place
invariant-loop-place l = FrontFixed l.place l.doms
