-- What is cut off a path of the subject.
use Rattle.fz_path.specs.Paths.{Walked}
use Rattle.fz_path.specs.Cuts.{IsCutOf}
use Rattle.fz_team.specs.declared.own.OwnCut.{OwnCut}

abbrev pub IsOwnCutOf : {S T : Type 0} → OwnCut S T → Walked → Type 0
IsOwnCutOf {S} {T} cut p = IsCutOf {S = S} (record { task = cut.task; account = cut.account }) p
