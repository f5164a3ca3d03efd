use Rattle.fz_language.specs.Trees as lang
use Rattle.fz_language.specs.Rules.{item_faults, over, additions}
use Rattle.fz_language.specs.Trees.{Item}
use Rattle.std.proofs.Common.{◌≡◌, [], subst}
use Rattle.fz_syntax.specs.Trees as trees
use Rattle.fz_resolve.specs.Meant.{environment_of}
use Rattle.fz_check.proofs.DraftLaws.{grown_item, variable_is}
use Rattle.fz_check.proofs.draft.Draft.variable.Goals as goal

pub declare_variable-requires-clause-variable : goal.declare_variable-requires-clause-variable
declare_variable-requires-clause-variable c =
    let env = environment_of c.args.self.now.names in
    let v = trees.variable_item_of c.args.variable.now in
    let n = c.requires.counted.0 in
    let h = c.in-Ok.ensures (item_faults env (lang.Variable v)) n c.variable_fault-fault.ensures c.requires.counted.1.room in
    variable_is env n v c.requires.fits h.0 (subst (λ (x : Item). over n (additions x) ≡ []) c.requires.item h.1)

pub returns-in_ok-declare_variable-in-Ok : goal.returns-in_ok-declare_variable-in-Ok
returns-in_ok-declare_variable-in-Ok c =
    let env = environment_of c.args.self.now.names in
    let v = trees.variable_item_of c.args.variable.now in
    let a = c.in_ok-declare_variable-in-Ok.ensures in
    λ n k. grown_item c.args.self.now _ n (trees.item_of c.args.item.now) (lang.Variable v) c.requires.item k (c.in-Ok.ensures (item_faults env (lang.Variable v)) n c.variable_fault-fault.ensures k.room)
    (record { scope = a.scope; variables = a.variables; constraints = a.constraints; outputs = a.outputs })
