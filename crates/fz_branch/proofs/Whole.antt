-- Plans in which each variable of a model stands.
use Rattle.std.proofs.Common.{◌≡◌, ◌∙◌, ℕ, ◌+◌, ◌<◌, List, [], ◌∷◌, ◌++◌, length, sym, subst, refl, arith}
use Rattle.std.specs.List.{Contains, range_with_len}
use Rattle.std.proofs.lemmas.List.{length-append}
use Rattle.std.proofs.Math.Seq.{get_or-append_seam}
use Rattle.std.proofs.lemmas.List.FromFn.{get_or-range_with_len, length-range_with_len}
use Rattle.fz_spec.specs.Instance.{Instance, SearchPart}
use Rattle.fz_branch.specs.Plans.{IsPlanOf, declared_part, plan_of}

numbered : (n v : ℕ) → v < n → Contains (range_with_len 0 n) v
numbered n v below = (v, rw (length-range_with_len 0 n) below, get_or-range_with_len 0 n v v below ∙ (let sum : 0 + v ≡ v = omega arith in sum))

-- a last part of all variables is enough
pub last_whole : (m : Instance) (ps : List SearchPart) (p : SearchPart) → p.variables ≡ range_with_len 0 (length m.variables) → IsPlanOf m (ps ++ p ∷ [])
last_whole m ps p all = λ v below. (
  length ps,
  p,
  omega (arith, length-append ps (p ∷ [])),
  get_or-append_seam ps p [] p,
  subst (λ (vs : List ℕ). Contains vs v) (sym all) (numbered (length m.variables) v below),
)

pub own_whole : (m : Instance) → IsPlanOf m (plan_of m)
own_whole m = last_whole m m.search (declared_part m) refl
