use Rattle.std.proofs.Common.{sym, subst}
use Rattle.fz_language.specs.declared.fault.RuleFault.TheVariants.{OverLimit}
use Rattle.fz_language.specs.Trees as lang
use Rattle.fz_language.specs.Trees.{Item}
use Rattle.fz_language.specs.Rules.{faults_of, call_faults, at_places, over, additions}
use Rattle.fz_syntax.specs.Trees as trees
use Rattle.fz_resolve.specs.Meant.{environment_of, fault_of}
use Rattle.fz_check.specs.Calls.{IsCall}
use Rattle.fz_check.specs.Checked.{IsFirstFault}
use Rattle.fz_check.proofs.FaultLaws.{first_front}
use Rattle.fz_check.proofs.draft.Draft.constraint.Goals as goal

pub returns-in_ok-push_constraint-in-Ok : goal.returns-in_ok-push_constraint-in-Ok
returns-in_ok-push_constraint-in-Ok c =
    let env = environment_of c.args.self.now.names in
    let item = trees.constraint_item_of c.args.constraint.now in
    let h = subst (λ made. IsCall env item made) c.in-Ok.is c.in_ok-made.ensures in
    λ n k. c.in_ok-push_constraint-in-Ok.ensures n item k c.requires.item h.0 h.1

pub returns-in-Err : goal.returns-in-Err
returns-in-Err c =
    let env = environment_of c.args.self.now.names in
    let item = trees.constraint_item_of c.args.constraint.now in
    let h = subst (λ made. IsCall env item made) c.in-Err.is c.in_ok-made.ensures in
    λ n k. subst (λ (x : Item). IsFirstFault (faults_of env n x) c.in-Err.fault) (sym c.requires.item)
    (first_front (call_faults env item) (at_places OverLimit (over n (additions (lang.Constraint item)))) (fault_of c.in-Err.fault) h)
