-- The line of a reified relation and of a reified set.
use Rattle.std.specs.Prelude.{◌↔◌, ℤ, pos, ◌-ℤ◌, List, [], ◌∷◌, cond, int_lt}
use Rattle.fz_sets.specs.Sets.{IsInSet, IsWithinLimits}
use Rattle.fz_spec.specs.declared.term.Term.{Term}
use Rattle.fz_spec.specs.declared.shape.Relation.{Relation}
use Rattle.fz_strength.specs.Domains.{term_set}
use Rattle.fz_strength.specs.Memberships.{LiesIn, LiesOutside}
use Rattle.fz_strength.specs.Relations.{IsShown, IsRefuted}
use Rattle.fz_prop.specs.Truths.{Sides, LineWith}
use Rattle.fz_rel.specs.Truths.{LineOf, AgainstOf}
use Rattle.fz_rel.specs.Members.{MemberLine}

abbrev pub sides_of : Relation → Term → Term → Sides
sides_of relation x y = record {
  shown = λ ds. IsShown relation (term_set ds x) (term_set ds y);
  refuted = λ ds. IsRefuted relation (term_set ds x) (term_set ds y);
  line = LineOf relation x y;
  against = AgainstOf relation x y;
}

abbrev pub ReifiedLine : Relation → Term → Term → Term → List (List (ℤ × ℤ)) → Type 0
ReifiedLine relation x y r ds = LineWith (sides_of relation x y) r ds

abbrev pub member_sides : Term → List (ℤ × ℤ) → Sides
member_sides x set = record {
  shown = λ ds. LiesIn (term_set ds x) set;
  refuted = λ ds. LiesOutside (term_set ds x) set;
  line = MemberLine x set;
  against = λ ds. LiesOutside (term_set ds x) set;
}

abbrev pub ReifiedMemberLine : Term → List (ℤ × ℤ) → Term → List (List (ℤ × ℤ)) → Type 0
ReifiedMemberLine x set r ds = LineWith (member_sides x set) r ds

-- others are the numbers within the limits that aren't in the set
abbrev pub AreOthers : List (ℤ × ℤ) → List (ℤ × ℤ) → Type 0
AreOthers set others = (x : ℤ) → IsInSet others x ↔ (IsWithinLimits x × (IsInSet set x → ⊥))

-- the numbers from one to the last before another
abbrev pub gap : ℤ → ℤ → List (ℤ × ℤ)
gap from end = cond (int_lt from end) ((from, end -ℤ pos 1) ∷ []) []
