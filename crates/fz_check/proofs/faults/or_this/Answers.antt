use Rattle.std.proofs.Common.{◌∙◌, sym, ap, option_map}
use Rattle.fz_resolve.specs.Meant.{fault_of}
use Rattle.fz_check.proofs.FaultLaws.{first_front, behind_none}
use Rattle.fz_check.proofs.faults.or_this.Goals as goal

pub returns-in-Some : goal.returns-in-Some
returns-in-Some c = λ xs ys e k. first_front xs ys (fault_of c.in-Some.fault) (sym e ∙ ap (option_map fault_of) c.in-Some.is)

pub returns-in-None : goal.returns-in-None
returns-in-None c = λ xs ys e k. behind_none xs ys (sym e ∙ ap (option_map fault_of) c.in-None.is) ∙ k
