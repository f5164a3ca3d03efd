use Rattle.fz_team.proofs.assets.end_of.Given as goal

abbrev pub invariant-books : goal.invariant-books
invariant-books g l = Unit {0}
