-- The variables among terms, one by one.
use Rattle.std.proofs.Common.{◌≡◌, ℕ, ◌+◌, ◌<◌, List, [], ◌∷◌, ◌++◌, take, length, get_or, refl, ap, ◌∙◌}
use Rattle.std.proofs.lemmas.List.{take_more}
use Rattle.fz_spec.specs.declared.term.Term.{Term}
use Rattle.fz_spec.specs.declared.term.Term.TheVariants.{Num, Var}
use Rattle.fz_language.specs.Search.{variables_of_terms}

terms_both : (xs ys : List Term) → variables_of_terms (xs ++ ys) ≡ variables_of_terms xs ++ variables_of_terms ys
terms_both [] ys = refl
terms_both (Num n ∷ xs) ys = terms_both xs ys
terms_both (Var v ∷ xs) ys = ap (λ l. v ∷ l) (terms_both xs ys)

pub terms_more : (xs : List Term) (i : ℕ) (d : Term) → i < length xs → variables_of_terms (take (i + 1) xs) ≡ variables_of_terms (take i xs) ++ variables_of_terms (get_or xs i d ∷ [])
terms_more xs i d l = ap variables_of_terms (take_more xs i d l) ∙ terms_both (take i xs) (get_or xs i d ∷ [])
