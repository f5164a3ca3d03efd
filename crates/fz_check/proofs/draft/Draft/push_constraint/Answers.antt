use Rattle.std.proofs.Common.{◌∙◌, ◌++◌, sym, ap, refl, append-nil}
use Rattle.std.specs.Prelude.{slice_get, List}
use Rattle.fz_language.specs.Trees as lang
use Rattle.fz_language.specs.Rules.{Fault, call_faults}
use Rattle.fz_syntax.specs.Trees as trees
use Rattle.fz_resolve.specs.Meant.{environment_of}
use Rattle.fz_check.proofs.DraftLaws.{grown_item}
use Rattle.fz_check.proofs.draft.Draft.push_constraint.Goals as goal

pub returns-in_ok-push-in-Ok : goal.returns-in_ok-push-in-Ok
returns-in_ok-push-in-Ok c =
    let env = environment_of c.args.self.now.names in
    let old = c.args.self.now in
    λ n item k is keep made.
    grown_item old _ n (trees.item_of c.args.item.now) (lang.Constraint item) is k (c.in-Ok.ensures (call_faults env item) n (ap (λ (l : List Fault). slice_get l 0) (sym keep)) k.room)
    (record {
      scope = refl;
      variables = sym (append-nil old.variables.items);
      constraints = c.in_ok-push-in-Ok.ensures ∙ ap (λ x. old.constraints ++ x) (sym made);
      outputs = sym (append-nil old.outputs.items);
    })
