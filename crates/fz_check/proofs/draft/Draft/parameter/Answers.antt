use Rattle.std.proofs.Common.{refl}
use Rattle.fz_language.specs.Trees as lang
use Rattle.fz_language.specs.Rules.{item_faults}
use Rattle.fz_syntax.specs.Trees as trees
use Rattle.fz_resolve.specs.Meant.{environment_of}
use Rattle.fz_check.proofs.DraftLaws.{grown_item}
use Rattle.fz_check.proofs.draft.Draft.parameter.Goals as goal

pub returns-in_ok-declare_parameter-in-Ok : goal.returns-in_ok-declare_parameter-in-Ok
returns-in_ok-declare_parameter-in-Ok c =
    let env = environment_of c.args.self.now.names in
    let p = trees.parameter_item_of c.args.parameter.now in
    let a = c.in_ok-declare_parameter-in-Ok.ensures p refl c.in_ok-entry.ensures in
    λ n k. grown_item c.args.self.now _ n (trees.item_of c.args.item.now) (lang.Parameter p) c.requires.item k (c.in-Ok.ensures (item_faults env (lang.Parameter p)) n c.parameter_fault-fault.ensures k.room)
    (record { scope = a.scope; variables = a.variables; constraints = a.constraints; outputs = a.outputs })
