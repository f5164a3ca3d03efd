use Rattle.fz_language.specs.declared.fault.RuleFault.TheVariants.{OverLimit}
use Rattle.fz_language.specs.Rules.{over, additions}
use Rattle.fz_syntax.specs.Trees.{item_of}
use Rattle.fz_check.proofs.FaultLaws.{first_at}
use Rattle.fz_check.proofs.faults.room_left.Goals as goal

pub returns-in-Ok : goal.returns-in-Ok
returns-in-Ok c = λ n r. let h = c.in-Ok.ensures n r in (h.1, h.0)

pub returns-in-Err : goal.returns-in-Err
returns-in-Err c = λ n r. first_at OverLimit (over n (additions (item_of c.args.item.now))) c.in-Err.at (c.in-Err.ensures n r)
