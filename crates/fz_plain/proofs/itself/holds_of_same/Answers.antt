use Rattle.std.proofs.Common.{pos, subst, refl, arith, inl, inr}
use Rattle.std.proofs.lemmas.Int.{ints}
use Rattle.fz_spec.specs.declared.shape.Relation.{Relation}
use Rattle.fz_spec.specs.Truth.{Relates}
use Rattle.fz_plain.proofs.itself.holds_of_same.Goals as goal

pub returns-in-NotEqual : goal.returns-in-NotEqual
returns-in-NotEqual c = λ a all. elim c.in-NotEqual.is [
  | inl is ↦ subst (λ (r : Relation). Relates r (pos 0) (pos 0)) is (all (pos 0)) refl
  | inr is ↦ (let below = subst (λ (r : Relation). Relates r (pos 0) (pos 0)) is (all (pos 0)) in omega (arith, ints, below))
]
