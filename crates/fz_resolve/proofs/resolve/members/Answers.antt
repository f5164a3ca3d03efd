use Rattle.std.proofs.Common.{ℤ, List, ap, sym, ◌∙◌, map, subst}
use Rattle.std.specs.Prelude.{option_map, Some}
use Rattle.fz_sets.specs.Sets.{AreWithinLimits}
use Rattle.fz_language.specs.Numerals.{all_of, value_of}
use Rattle.fz_syntax.specs.Trees.{number_of}
use Rattle.fz_resolve.proofs.Members.{points_within, set_is}
use Rattle.fz_resolve.proofs.resolve.members.Goals as goal

pub from_ranges-requires : goal.from_ranges-requires
from_ranges-requires c =
    subst (λ (rs : List (ℤ × ℤ)). AreWithinLimits rs) (sym c.deref.ensures.value)
    (points_within (map number_of c.args.numbers.now) c.in-Some.ranges.items (ap (option_map (λ ranges. ranges.items)) (sym c.in-Some.is) ∙ c.in_ok-ranges.ensures) c.requires)

pub returns-in_ok-from_ranges-in-Some : goal.returns-in_ok-from_ranges-in-Some
returns-in_ok-from_ranges-in-Some c =
    set_is (all_of (map value_of (map number_of c.args.numbers.now))) c.deref.result.now c.in_ok-from_ranges-in-Some.field-0
    (ap (λ rs. Some rs) c.deref.ensures.value ∙ ap (option_map (λ ranges. ranges.items)) (sym c.in-Some.is) ∙ c.in_ok-ranges.ensures) c.in_ok-from_ranges-in-Some.ensures.unique
