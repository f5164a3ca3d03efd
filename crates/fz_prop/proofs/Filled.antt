-- What is left of a term has ranges and a number.
use Rattle.std.proofs.Common.{◌≡◌, ℕ, List, [], ◌∷◌, sym, subst, ◌∙◌, arith, length}
use Rattle.std.specs.Prelude.{ℤ}
use Rattle.std.proofs.lemmas.Int.{ints}
use Rattle.fz_sets.specs.Sets.{IsInSet}
use Rattle.fz_dom.specs.Shape.{least}
use Rattle.fz_dom.proofs.Ranges.{same_ranges, least_member}
use Rattle.fz_spec.specs.declared.term.Term.{Term}
use Rattle.fz_spec.specs.declared.term.Term.TheVariants.{Num, Var}
use Rattle.fz_strength.specs.Domains.{term_set, AreDomains, IsNarrower, IsTermOf}
use Rattle.fz_strength.specs.Events.{IsOnly}
use Rattle.fz_strength.proofs.Terms.{in_single, is_single}
pub use Rattle.fz_prop.specs.Truths.{HasRanges}
use Rattle.fz_prop.proofs.TermChanges.{narrower_term, only_in}

pub term_ranges : (ds : List (List (ℤ × ℤ))) (t : Term) → IsTermOf (length ds) t → AreDomains ds → HasRanges (term_set ds t)
term_ranges ds (Num n) is domains = record { ranges = omega (arith, ints); some = omega arith }
term_ranges ds (Var v) is domains = record { ranges = (domains v is).0.0; some = (domains v is).1 }

pub narrower_ranges : (ds es : List (List (ℤ × ℤ))) (t : Term) → IsTermOf (length ds) t → AreDomains es → IsNarrower ds es → HasRanges (term_set es t)
narrower_ranges ds es t is domains narrower = term_ranges es t (subst (λ (n : ℕ). IsTermOf n t) (sym narrower.size) is) domains

-- a set with ranges all of whose numbers are this one
pub one_left : (d : List (ℤ × ℤ)) (v : ℤ) → HasRanges d → ((u : ℤ) → IsInSet d u → u ≡ v) → IsOnly d v
one_left d v has all =
    let low = least_member d has.some has.ranges in
    same_ranges d ((v, v) ∷ []) has.ranges (omega (arith, ints)) (λ u. (
      λ i. in_single u v (all u i),
      λ i. subst (λ (w : ℤ). IsInSet d w) (all (least d) low.0 ∙ sym (is_single u v i)) low.0,
    ))

-- a term that is fixed stays so
pub still_only : (ds es : List (List (ℤ × ℤ))) (t : Term) (v : ℤ) → IsTermOf (length ds) t → IsOnly (term_set ds t) v → AreDomains es → IsNarrower ds es → IsOnly (term_set es t) v
still_only ds es t v is only domains narrower =
    one_left (term_set es t) v (narrower_ranges ds es t is domains narrower) (λ u i. only_in (term_set ds t) v u only (narrower_term ds es t narrower u i))
