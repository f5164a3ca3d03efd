use Rattle.std.proofs.Common.{◌≡◌, ℤ, take, map, Some}
use Rattle.std.specs.Prelude.{option_map}
use Rattle.fz_language.specs.Trees.{Number}
use Rattle.fz_language.specs.Numerals.{all_of, value_of}
use Rattle.fz_syntax.specs.Trees.{number_of}
use Rattle.fz_resolve.proofs.resolve.points.Given as goal

-- those so far
abbrev pub invariant-loop-number : goal.invariant-loop-number
invariant-loop-number l = all_of (map (λ (n : Number). option_map (λ (x : ℤ). (x, x)) (value_of n)) (map number_of (take l.number-index l.numbers))) ≡ Some l.ranges.items
