-- The line of a parity: it lasts, and is the truth where one number is left of each term.
use Rattle.std.proofs.Common.{List}
use Rattle.fz_sets.proofs.Lists.{all_at}
use Rattle.fz_spec.specs.declared.term.Term.{Term}
use Rattle.fz_strength.specs.declared.event.Event.TheVariants.{Fixed}
use Rattle.fz_strength.specs.Domains.{term_set}
use Rattle.fz_strength.specs.Events.{IsQuiet, IsFixedIn}
use Rattle.fz_strength.specs.Meanings.{IsLawful}
use Rattle.fz_strength.specs.Parities.{parity}
use Rattle.fz_strength.proofs.Terms.{terms_quiet, fixed_before, all_fixed_alone, terms_alone, within_alone, within_before, waits_below}

pub parity_lawful : (ts : List Term) → IsLawful (parity ts)
parity_lawful ts = record {
  kept = λ ds es domains narrower quiet h. (λ i others a within.
      let calm : Term → Type 0 = λ (t : Term). IsQuiet Fixed (term_set ds t) (term_set es t) in
      h i (λ j t at ne. fixed_before t ds es (all_at calm ts j t (terms_quiet Fixed ts ds es quiet) at) (others j t at ne)) a (within_before ds es a narrower within));
  alone = λ ds a below alone h. (let fixed = all_fixed_alone ts ds a (terms_alone Fixed ts ds a below alone) in h 0 (λ j t at ne. all_at (IsFixedIn ds) ts j t fixed at) a (within_alone ds a alone));
  below = λ n all. waits_below Fixed ts n all;
}
