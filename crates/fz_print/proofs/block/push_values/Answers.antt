use Rattle.std.proofs.Common.{◌<◌, length, rules}
use Rattle.fz_spec.specs.declared.term.Term.{Term}
use Rattle.fz_spec.specs.Constraints.{term_value}
use Rattle.fz_spec.specs.Run.{value_text}
use Rattle.fz_print.proofs.Commas.{comma_pieces}
use Rattle.fz_print.proofs.block.push_values.Goals as goal

pub returns : goal.returns
returns c =
    let some : 0 < length c.args.terms.now = search rules in
    comma_pieces (λ (t : Term). value_text c.args.kind (term_value c.args.values.now t)) c.args.terms.now _ c.args.text.now.items _ _ some c.in_ok-push_term.ensures c.in_ok-push_further.ensures
