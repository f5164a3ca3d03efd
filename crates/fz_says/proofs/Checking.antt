-- Where one number is left of each variable, an answer tells whether what is said is true.
use Rattle.std.proofs.Common.{◌≡◌, ◌∙◌, ℕ, ◌<◌, List, [], sym, ap, subst, arith, length}
use Rattle.std.specs.Prelude.{ℤ}
use Rattle.std.specs.List.{AllByRecursion}
use Rattle.std.proofs.lemmas.List.{ext_get_or}
use Rattle.fz_spec.specs.declared.term.Term.TheVariants.{Var}
use Rattle.fz_strength.specs.Domains.{AreDomains, Alone, IsNarrower, number_at, room, IsTermOf}
use Rattle.fz_strength.specs.Sayings.{said_terms}
use Rattle.fz_strength.proofs.Sayings.{true_alone, below}
use Rattle.fz_strength.proofs.Terms.{within_alone}
use Rattle.fz_prop.specs.declared.answer.Answer.TheVariants.{Fix, NoFix, Subsumed, Failed}
use Rattle.fz_prop.proofs.Filled.{still_only}
use Rattle.fz_says.specs.Checks.{Checks}

still_alone : (ds es : List (List (ℤ × ℤ))) (a : List ℤ) → Alone ds a → AreDomains es → IsNarrower ds es → Alone es a
still_alone ds es a alone domains narrower = record {
  size = alone.size ∙ sym narrower.size;
  alone = λ v h.
      let size = narrower.size in
      let within : v < length ds = omega (arith, h, size) in
      still_only ds es (Var v) (number_at a v) within (alone.alone v within) domains narrower;
}

-- nothing left
same_room : (ds es : List (List (ℤ × ℤ))) (a : List ℤ) → Alone ds a → Alone es a → IsNarrower ds es → room es ≡ room ds
same_room ds es a before after narrower =
    ap room (ext_get_or [] es ds narrower.size (λ v h. (let size = narrower.size in after.alone v h ∙ sym (before.alone v (omega (arith, h, size))))))

pub checks : Checks
checks s Fix ds es a terms alone domains narrower h =
    let here = subst (λ (n : ℕ). AllByRecursion (IsTermOf n) (said_terms s)) (sym narrower.size) terms in
    true_alone s es a (below (length es) s here) (still_alone ds es a alone domains narrower) h
checks s Subsumed ds es a terms alone domains narrower h = h.0 a (within_alone es a (still_alone ds es a alone domains narrower))
checks s NoFix ds es a terms alone domains narrower h = let same = same_room ds es a alone (still_alone ds es a alone domains narrower) narrower in omega (arith, h, same)
checks s Failed ds es a terms alone domains narrower h = h a (within_alone ds a alone)
