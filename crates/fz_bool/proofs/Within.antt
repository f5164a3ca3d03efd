-- Literals, and what makes them true or false, within domains.
use Rattle.std.proofs.Common.{◌≡◌, ◌≢◌, List, [], ◌∷◌, ◌∙◌, refl, sym, subst, arith, length, inl, inr}
use Rattle.std.specs.Prelude.{ℤ, pos, true, false, ◌↔◌, if◌then◌else◌}
use Rattle.std.specs.List.{AllByRecursion}
use Rattle.std.proofs.lemmas.Int.{ints, by_lt_z}
use Rattle.fz_sets.specs.Sets.{IsInSet, IsInRange}
use Rattle.fz_spec.specs.Truth.{SomeByRecursion}
use Rattle.fz_spec.specs.Constraints.{term_value}
use Rattle.fz_strength.specs.declared.literal.Literal.{Literal}
use Rattle.fz_strength.specs.Domains.{term_set, AreDomains, Within, IsNarrower, IsTermOf}
use Rattle.fz_strength.specs.Events.{IsOnly}
use Rattle.fz_strength.specs.Clauses.{true_number, false_number, MakesTrue, MakesFalse, IsTrueIn, IsFalseIn, IsUntrueIn}
use Rattle.fz_strength.proofs.Clauses.{only_still, all_with, some_with, apart}
use Rattle.fz_prop.specs.declared.answer.Answer.{Answer}
use Rattle.fz_prop.specs.declared.answer.Answer.TheVariants.{Fix, NoFix, Subsumed, Failed}
use Rattle.fz_prop.specs.Answers.{IsAnswerOf, IsCorrectOf}
use Rattle.fz_prop.proofs.TermChanges.{term_within, only_in}
use Rattle.fz_strength.proofs.Terms.{within_before, in_single}
use Rattle.fz_prop.proofs.Twice.{narrower_twice}
use Rattle.fz_bool.specs.Looks.{IsLiteralOf, AreLiteralsOf}

-- ---- two truths that are the same of the assignments within the domains

pub record IsSameWithin (T U : List ℤ → Type 0) (R Q : List (List (ℤ × ℤ)) → Type 0) (ds : List (List (ℤ × ℤ))) : Type 0 where
  pub truth : (a : List ℤ) → Within ds a → T a ↔ U a
  pub line : (es : List (List (ℤ × ℤ))) → AreDomains es → IsNarrower ds es → R es → Q es

pub same_answer : (answer : Answer) (T U : List ℤ → Type 0) (R Q : List (List (ℤ × ℤ)) → Type 0) (ds es : List (List (ℤ × ℤ)))
    → IsSameWithin T U R Q ds → AreDomains es → IsNarrower ds es → IsAnswerOf answer T R ds es → IsAnswerOf answer U Q ds es
same_answer Fix T U R Q ds es same domains narrower h = same.line es domains narrower h
same_answer NoFix T U R Q ds es same domains narrower h = h
same_answer Subsumed T U R Q ds es same domains narrower h = (
  (λ a within. (same.truth a (within_before ds es a narrower within)).0 (h.0 a within)),
  (λ fs filled less. same.line fs filled (narrower_twice ds es fs narrower less) (h.1 fs filled less)),
)
same_answer Failed T U R Q ds es same domains narrower h = λ a within holds. h a within ((same.truth a within).1 holds)

pub same_correct : (T U : List ℤ → Type 0) (R Q : List (List (ℤ × ℤ)) → Type 0) (ds es : List (List (ℤ × ℤ))) → IsSameWithin T U R Q ds → IsCorrectOf T ds es → IsCorrectOf U ds es
same_correct T U R Q ds es same h = λ a holds within. h a ((same.truth a within).1 holds) within

-- ---- the two numbers of a literal

pub other_number : (l : Literal) (x : ℤ) → IsInRange (pos 0, pos 1) x → x ≢ true_number l → x ≡ false_number l
other_number l x both not = elim l.negated as (λ b. x ≢ (if b then pos 0 else pos 1) → x ≡ (if b then pos 1 else pos 0)) [
  | true ↦ λ ne. by_lt_z (pos 0) x (λ above. let high = both.1 in omega (arith, ints, above, high)) (λ under. let low = both.0 in absurd (ne (omega (arith, ints, low, under))))
  | false ↦ λ ne. by_lt_z x (pos 1) (λ below. let low = both.0 in omega (arith, ints, below, low)) (λ over. let high = both.1 in absurd (ne (omega (arith, ints, high, over))))
] not

pub false_of_untrue : (ds : List (List (ℤ × ℤ))) (l : Literal) → IsLiteralOf ds l → IsUntrueIn ds l → IsFalseIn ds l
false_of_untrue ds l of untrue =
    let inside : IsInSet (term_set ds l.term) untrue.0 = subst (λ (d : List (ℤ × ℤ)). IsInSet d untrue.0) (sym untrue.1) (in_single untrue.0 untrue.0 refl) in
    subst (IsOnly (term_set ds l.term)) (other_number l untrue.0 (of.1 untrue.0 inside) untrue.2) untrue.1

pub untrue_of_false : (ds : List (List (ℤ × ℤ))) (l : Literal) → IsFalseIn ds l → IsUntrueIn ds l
untrue_of_false ds l fails = (false_number l, fails, (λ e. apart l (false_number l) e refl))

-- ---- of one literal

pub makes_true : (ds : List (List (ℤ × ℤ))) (l : Literal) (a : List ℤ) → IsTermOf (length ds) l.term → Within ds a → IsTrueIn ds l → MakesTrue a l
makes_true ds l a is within holds = only_in (term_set ds l.term) (true_number l) (term_value a l.term) holds (term_within ds a l.term is within)

pub makes_false : (ds : List (List (ℤ × ℤ))) (l : Literal) (a : List ℤ) → IsTermOf (length ds) l.term → Within ds a → IsFalseIn ds l → MakesFalse a l
makes_false ds l a is within fails = only_in (term_set ds l.term) (false_number l) (term_value a l.term) fails (term_within ds a l.term is within)

pub not_made_true : (ds : List (List (ℤ × ℤ))) (l : Literal) (a : List ℤ) → IsTermOf (length ds) l.term → Within ds a → IsUntrueIn ds l → MakesTrue a l → ⊥
not_made_true ds l a is within untrue holds = untrue.2 (sym (only_in (term_set ds l.term) untrue.0 (term_value a l.term) untrue.1 (term_within ds a l.term is within)) ∙ holds)

pub made_false : (ds : List (List (ℤ × ℤ))) (l : Literal) (a : List ℤ) → IsLiteralOf ds l → Within ds a → (MakesTrue a l → ⊥) → MakesFalse a l
made_false ds l a of within not = other_number l (term_value a l.term) (of.1 (term_value a l.term) (term_within ds a l.term of.0 within)) not

-- ---- of lists

pub none_true : (P : Literal → Type 0) (Q : Literal → Type 0) (ls : List Literal) → ((l : Literal) → P l → Q l → ⊥) → AllByRecursion P ls → SomeByRecursion Q ls → ⊥
none_true P Q [] step all some = some
none_true P Q (l ∷ ls) step all (inl here) = step l all.0 here
none_true P Q (l ∷ ls) step all (inr there) = none_true P Q ls step all.1 there

pub all_or_some : (Q : Literal → Type 0) (ls : List Literal) → (SomeByRecursion Q ls → ⊥) → AllByRecursion (λ (l : Literal). Q l → ⊥) ls
all_or_some Q [] not = tt
all_or_some Q (l ∷ ls) not = ((λ here. not (inl here)), all_or_some Q ls (λ there. not (inr there)))

pub all_false_of_untrue : (ds : List (List (ℤ × ℤ))) (ls : List Literal) → AreLiteralsOf ds ls → AllByRecursion (IsUntrueIn ds) ls → AllByRecursion (IsFalseIn ds) ls
all_false_of_untrue ds ls of all = all_with (IsLiteralOf ds) (IsUntrueIn ds) (IsFalseIn ds) ls (false_of_untrue ds) of all

pub all_false_still : (ds es : List (List (ℤ × ℤ))) (ls : List Literal) → AreDomains es → IsNarrower ds es → AllByRecursion (IsFalseIn ds) ls → AllByRecursion (IsFalseIn es) ls
all_false_still ds es [] domains narrower all = tt
all_false_still ds es (l ∷ ls) domains narrower all = (only_still l.term (false_number l) ds es domains narrower all.0, all_false_still ds es ls domains narrower all.1)

pub some_true_still : (ds es : List (List (ℤ × ℤ))) (ls : List Literal) → AreDomains es → IsNarrower ds es → SomeByRecursion (IsTrueIn ds) ls → SomeByRecursion (IsTrueIn es) ls
some_true_still ds es [] domains narrower some = some
some_true_still ds es (l ∷ ls) domains narrower (inl here) = inl (only_still l.term (true_number l) ds es domains narrower here)
some_true_still ds es (l ∷ ls) domains narrower (inr there) = inr (some_true_still ds es ls domains narrower there)

pub makes_some_true : (ds : List (List (ℤ × ℤ))) (ls : List Literal) (a : List ℤ) → AreLiteralsOf ds ls → Within ds a → SomeByRecursion (IsTrueIn ds) ls → SomeByRecursion (MakesTrue a) ls
makes_some_true ds ls a of within some = some_with (IsLiteralOf ds) (IsTrueIn ds) (MakesTrue a) ls (λ l is holds. makes_true ds l a is.0 within holds) of some
