-- The line of what has none of its own: it lasts, and is the truth where one number is left of each term.
use Rattle.std.proofs.Common.{List}
use Rattle.fz_spec.specs.declared.shape.Shape.{Shape}
use Rattle.fz_spec.specs.Constraints.{Argument, terms_among}
use Rattle.fz_strength.specs.declared.event.Event.TheVariants.{Fixed}
use Rattle.fz_strength.specs.Meanings.{IsLawful}
use Rattle.fz_strength.specs.Others.{otherwise}
use Rattle.fz_strength.proofs.Terms.{terms_quiet, all_fixed_before, all_fixed_alone, terms_alone, within_alone, within_before, waits_below}

pub otherwise_lawful : (shape : Shape) (arguments : List Argument) → IsLawful (otherwise shape arguments)
otherwise_lawful shape arguments = record {
  kept = λ ds es domains narrower quiet h. (λ fixed a within. h (all_fixed_before (terms_among arguments) ds es (terms_quiet Fixed (terms_among arguments) ds es quiet) fixed) a (within_before ds es a narrower within));
  alone = λ ds a below alone h. h (all_fixed_alone (terms_among arguments) ds a (terms_alone Fixed (terms_among arguments) ds a below alone)) a (within_alone ds a alone);
  below = λ n all. waits_below Fixed (terms_among arguments) n all;
}
