use Rattle.std.proofs.Common.{◌≡◌, rules, ◌∙◌}
use Rattle.std.specs.Prelude.{count_by}
use Rattle.std.specs.Ordering.{int_eq}
use Rattle.std.proofs.Math.Facts.{to_z-of_z}
use Rattle.fz_spec.specs.declared.term.Term.{Term}
use Rattle.fz_spec.specs.Constraints.{term_value}
use Rattle.fz_truth.proofs.CountLaws.{count_mapped}
use Rattle.fz_truth.proofs.counts.count_of.Goals as goal

pub returns : goal.returns
returns c =
    let counted : c.count.result ≡ count_by (λ (t : Term). int_eq (term_value c.args.values.now t) c.args.value) c.args.terms.now = search (rules, to_z-of_z) in
    counted ∙ count_mapped (term_value c.args.values.now) c.args.value c.args.terms.now
