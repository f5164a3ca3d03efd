use Rattle.std.proofs.Common.{◌∙◌, sym, ap, length, append-nil}
use Rattle.fz_language.specs.Entries.{Environment, with_entry}
use Rattle.fz_syntax.specs.Trees as trees
use Rattle.fz_resolve.specs.Meant.{environment_of}
use Rattle.fz_check.specs.Parts.{scope}
use Rattle.fz_check.proofs.draft.Draft.declare_array.Goals as goal

pub returns : goal.returns
returns c =
    let env = environment_of c.args.self.now.names in
    let a = trees.array_item_of c.args.item.now in
    λ is placed. record {
      scope = ap (λ (x : Environment). scope x (length c.args.self.now.variables.items)) (c.in_ok-declare.ensures ∙ ap (λ x. with_entry a.name.bytes x env) is);
      variables = sym (append-nil c.args.self.now.variables.items);
      constraints = c.in_ok-push_bounds.ensures env is;
      outputs = c.in_ok-push_array.ensures env is placed;
    }
