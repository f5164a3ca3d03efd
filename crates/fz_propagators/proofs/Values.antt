-- Where one number is left of each term, all assignments within the domains agree on the terms.
use Rattle.std.proofs.Common.{◌≡◌, ◌<◌, ℕ, List, [], ◌∷◌, refl, sym, ◌∙◌, subst, length}
use Rattle.std.specs.Prelude.{ℤ}
use Rattle.std.specs.List.{AllByRecursion}
use Rattle.fz_sets.specs.Sets.{IsInSet}
use Rattle.fz_spec.specs.declared.term.Term.{Term}
use Rattle.fz_spec.specs.declared.term.Term.TheVariants.{Num, Var}
use Rattle.fz_spec.proofs.Agreeing.{Agree}
use Rattle.fz_strength.specs.Domains.{dom_at, Within, number_at, IsTermOf}
use Rattle.fz_strength.specs.Events.{AllFixed}
use Rattle.fz_strength.proofs.Terms.{is_single}

only_number : (ds : List (List (ℤ × ℤ))) (a : List ℤ) (v : ℕ) (x : ℤ) → v < length ds → dom_at ds v ≡ (x, x) ∷ [] → Within ds a → number_at a v ≡ x
only_number ds a v x inside only within = is_single (number_at a v) x (subst (λ (d : List (ℤ × ℤ)). IsInSet d (number_at a v)) only (within.members v inside))

pub fixed_agree : (ds : List (List (ℤ × ℤ))) (ts : List Term) (a b : List ℤ) → AllByRecursion (IsTermOf (length ds)) ts → AllFixed ds ts → Within ds a → Within ds b → Agree a b ts
fixed_agree ds [] a b below fixed in_a in_b = tt
fixed_agree ds (Num n ∷ ts) a b below fixed in_a in_b = (refl, fixed_agree ds ts a b below.1 fixed.1 in_a in_b)
fixed_agree ds (Var v ∷ ts) a b below fixed in_a in_b =
    let x = fixed.0.0 in (
      only_number ds a v x below.0 fixed.0.1 in_a ∙ sym (only_number ds b v x below.0 fixed.0.1 in_b),
      fixed_agree ds ts a b below.1 fixed.1 in_a in_b,
    )
