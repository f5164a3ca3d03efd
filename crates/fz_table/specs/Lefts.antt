-- What is left of two terms near to the numbers of pairs, as windows.
use Rattle.std.specs.Prelude.{◌≡◌, ℤ, pos, ◌+ℤ◌, List}
use Rattle.fz_sets.specs.Sets.{IsInSet}
use Rattle.fz_bits.specs.Words.{AreOnes}
use Rattle.fz_spec.specs.declared.term.Term.{Term}
use Rattle.fz_strength.specs.Domains.{term_set}
use Rattle.fz_table.specs.declared.keep_pairs.Left.{Left}
use Rattle.fz_table.specs.declared.pairs.Pairs.{Pairs}

pub record AreLeftOf (left : Left) (pairs : Pairs) (ds : List (List (ℤ × ℤ))) (x y : Term) : Type 0 where
  pub first_base : left.first.base ≡ pairs.first
  pub second_base : left.second.base ≡ pairs.base
  pub firsts : AreOnes left.first.bits (λ i. IsInSet (term_set ds x) (pairs.first +ℤ pos i))
  pub seconds : AreOnes left.second.bits (λ i. IsInSet (term_set ds y) (pairs.base +ℤ pos i))
