use Rattle.std.proofs.Common.{◌≡◌, ◌∙◌, [], Some, None, subst, ap}
use Rattle.std.specs.Prelude.{ℕ, List, slice_get}
use Rattle.fz_language.specs.Trees as lang
use Rattle.fz_language.specs.Models as models
use Rattle.fz_language.specs.Rules.{item_faults, wrong_element}
use Rattle.fz_syntax.specs.Trees as trees
use Rattle.fz_resolve.specs.Meant.{environment_of, meant}
use Rattle.fz_check.specs.Entered.{IsArrayEntry}
use Rattle.fz_check.proofs.Keeps.{array_keeps}
use Rattle.fz_check.proofs.DraftLaws.{grown_item, unplaced}
use Rattle.fz_check.proofs.draft.Draft.array.Goals as goal

pub unreachable-requires : goal.unreachable-requires
unreachable-requires c =
    let env = environment_of c.args.self.now.names in
    let a = trees.array_item_of c.args.array.now in
    let keep : item_faults env (lang.Array a) ≡ [] = (c.in-Ok.ensures (item_faults env (lang.Array a)) c.requires.counted.0 c.array_fault-fault.ensures c.requires.counted.1.room).0 in
    let wrong : Some c.in_default.field-0 ≡ slice_get (wrong_element env a.variable a.value_type a.list) 0 = subst (λ made. IsArrayEntry env a made) c.in_default.is c.in_ok-entry.ensures in
    let bad : Some c.in_default.field-0 ≡ None = wrong ∙ ap (λ (l : List ℕ). slice_get l 0) (array_keeps env a keep).typed in
    cc

pub returns-in_ok-declare_array-in-Ok : goal.returns-in_ok-declare_array-in-Ok
returns-in_ok-declare_array-in-Ok c =
    let env = environment_of c.args.self.now.names in
    let a = trees.array_item_of c.args.array.now in
    let is : meant c.in-Ok-entry.entry ≡ models.array_entry env a a.variable a.value_type = (subst (λ made. IsArrayEntry env a made) c.in-Ok-entry.is c.in_ok-entry.ensures).1 in
    λ n k.
    let h = c.in-Ok.ensures (item_faults env (lang.Array a)) n c.array_fault-fault.ensures k.room in
    let d = c.in_ok-declare_array-in-Ok.ensures is (unplaced env a h.0) in
    grown_item c.args.self.now _ n (trees.item_of c.args.item.now) (lang.Array a) c.requires.item k h
    (record { scope = d.scope; variables = d.variables; constraints = d.constraints; outputs = d.outputs })
