-- The domain of the members of a set is what the definitions say.
use Rattle.std.proofs.Common.{◌≡◌, ℤ, List, [], ◌∷◌, map, refl, sym, ap, subst}
use Rattle.std.specs.Prelude.{Option, Some, None, option_map}
use Rattle.std.specs.List.{AllByRecursion}
use Rattle.fz_sets.specs.Sets.{AreRanges, AreOneSet, AreWithinLimits, IsWithinLimits}
use Rattle.fz_language.specs.Trees.{Number, Whole, Float}
use Rattle.fz_language.specs.Numerals.{all_of, value_of, ranges_of}
use Rattle.fz_language.specs.Within.{NumberFits}
use Rattle.fz_language.specs.SetLaws.{points_of}
use Rattle.fz_resolve.proofs.AllOf.{part}
use Rattle.fz_language.proofs.SetProofs.{ranges_rise, ranges_hold}
use Rattle.fz_sets.proofs.Lists.{some_is}

limits_of : (ns : List Number) (xs : List ℤ) → all_of (map value_of ns) ≡ Some xs → AllByRecursion NumberFits ns → AreWithinLimits (points_of xs)
limits_of [] xs e f = subst (λ (ys : List ℤ). AreWithinLimits (points_of ys)) (some_is [] xs e) tt
limits_of (Whole i ∷ ns) xs e f =
    let p = part (Some i.value) (map value_of ns) xs e in
    let is : i.value ≡ p.first = some_is i.value p.first p.first_is in
    subst (λ (ys : List ℤ). AreWithinLimits (points_of ys)) (sym p.whole)
    (subst (λ (x : ℤ). IsWithinLimits x) is f.0, subst (λ (x : ℤ). IsWithinLimits x) is f.0, limits_of ns p.others p.others_are f.1)
limits_of (Float at ∷ ns) xs e f = cc

-- the ranges of numbers within the limits lie within them
pub points_within : (ns : List Number) (rs : List (ℤ × ℤ)) → Some rs ≡ option_map points_of (all_of (map value_of ns)) → AllByRecursion NumberFits ns → AreWithinLimits rs
points_within ns rs e f = go (all_of (map value_of ns)) refl e
  where
    go : (o : Option (List ℤ)) → all_of (map value_of ns) ≡ o → Some rs ≡ option_map points_of o → AreWithinLimits rs
    go (Some xs) is k = subst (λ (ss : List (ℤ × ℤ)). AreWithinLimits ss) (sym (some_is rs (points_of xs) k)) (limits_of ns xs is f)
    go None is k = cc

-- a set that is the one list of rising ranges of the numbers is their rising ranges
pub set_is : (o : Option (List ℤ)) (rs d : List (ℤ × ℤ)) → Some rs ≡ option_map points_of o → ((s : List (ℤ × ℤ)) → AreRanges s → AreOneSet s rs → d ≡ s) → Some d ≡ option_map ranges_of o
set_is (Some xs) rs d e unique =
    ap (λ s. Some s) (unique (ranges_of xs) (ranges_rise xs) (subst (λ (ss : List (ℤ × ℤ)). AreOneSet (ranges_of xs) ss) (sym (some_is rs (points_of xs) e)) (ranges_hold xs)))
set_is None rs d e unique = cc
