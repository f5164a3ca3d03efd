-- A term in a set.
use Rattle.std.proofs.Common.{List}
use Rattle.std.specs.Prelude.{ℤ}
use Rattle.fz_sets.specs.Sets.{IsInSet}
use Rattle.fz_spec.specs.declared.term.Term.{Term}
use Rattle.fz_prop.specs.Truths.{IsAbout}
use Rattle.fz_rel.specs.Members.{IsMember, MemberLine}

-- it is about the numbers in the set
pub member_about : (x : Term) (set : List (ℤ × ℤ)) (ds : List (List (ℤ × ℤ))) → IsAbout x (λ u. IsInSet set u) (IsMember x set) (MemberLine x set) ds
member_about x set ds = record {
  needs = λ a within holds. holds;
  enough = λ a within holds. holds;
  line = λ es domains narrower all. all;
}
