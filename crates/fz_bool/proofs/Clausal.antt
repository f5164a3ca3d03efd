-- The lines of clauses, and what a run answers.
use Rattle.std.proofs.Common.{◌≡◌, ◌≢◌, ℕ, suc, List, [], ◌∷◌, ◌∙◌, refl, sym, ap, subst, inl, inr}
use Rattle.std.specs.Prelude.{ℤ, Some, slice_get}
use Rattle.std.specs.List.{AllByRecursion}
use Rattle.std.proofs.lemmas.Bool.{cases_eq}
use Rattle.fz_sets.proofs.Lists.{some_is, all_at}
use Rattle.fz_spec.specs.Truth.{SomeByRecursion}
use Rattle.fz_spec.specs.Constraints.{term_value}
use Rattle.fz_strength.specs.declared.literal.Literal.{Literal}
use Rattle.fz_strength.specs.Domains.{term_set, Within}
use Rattle.fz_strength.specs.Events.{IsFixedIn}
use Rattle.fz_strength.specs.Clauses.{true_number, false_number, MakesTrue, MakesFalse, IsTrueIn, IsFalseIn, IsUntrueIn, AreOthersUntrue}
use Rattle.fz_strength.proofs.Clauses.{only_still, all_with, apart}
use Rattle.fz_prop.specs.declared.answer.Answer.TheVariants.{Subsumed, Failed}
use Rattle.fz_prop.specs.Answers.{IsAnswerOf}
use Rattle.fz_prop.proofs.Filled.{narrower_ranges, one_left}
use Rattle.fz_prop.specs.Truths.{IsAbout}
use Rattle.fz_bool.specs.Looks.{IsOpen, IsLiteralOf, AreLiteralsOf, IsLastOf, HasTwoOpen, IsTruthAmong}
use Rattle.fz_bool.specs.declared.literals.State.TheVariants.{Open}
use Rattle.fz_bool.specs.Clausal.{TruthOf, LineOf, AreMadeFalse, AreFalseIn, AreFixedLiterals}
use Rattle.fz_bool.proofs.Looks.{some_at, untrue_not_true, open_not_true}
use Rattle.fz_bool.proofs.Within.{IsSameWithin, makes_true, not_made_true, made_false, none_true, all_or_some, false_of_untrue, untrue_of_false, all_false_of_untrue, all_false_still, some_true_still, makes_some_true}

-- ---- lines

-- where one is, and has the property
some_place : (P : Literal → Type 0) (ls : List Literal) → SomeByRecursion P ls → (i : ℕ) × (l : Literal) × (slice_get ls i ≡ Some l) × P l
some_place P [] some = absurd some
some_place P (l ∷ ls) (inl here) = (0, l, refl, here)
some_place P (l ∷ ls) (inr there) = let found = some_place P ls there in (suc found.0, found.1, found.2, found.3)

-- of the others none, so it is the one at the place
only_there : (P Q : Literal → Type 0) (ls : List Literal) (i : ℕ) (l : Literal) → slice_get ls i ≡ Some l → ((k : Literal) → Q k → P k → ⊥)
    → ((j : ℕ) (k : Literal) → slice_get ls j ≡ Some k → j ≢ i → Q k) → SomeByRecursion P ls → P l
only_there P Q ls i l at clash others some =
    let found = some_place P ls some in
    elim (cases_eq found.0 i) [
      | inl e ↦ subst P (some_is found.1 l (sym found.2 ∙ ap (slice_get ls) e ∙ at)) found.3
      | inr ne ↦ absurd (clash found.1 (others found.0 found.1 found.2 ne) found.3)
    ]

true_line : (ls : List Literal) (r : Literal) (ds : List (List (ℤ × ℤ))) → IsTrueIn ds r → SomeByRecursion (IsTrueIn ds) ls → LineOf ls r ds
true_line ls r ds holds some = record {
  last_true = λ h i l at others. only_there (IsTrueIn ds) (IsUntrueIn ds) ls i l at (λ k untrue true. untrue_not_true ds k untrue true) others some;
  all_false = λ untrue. absurd (untrue_not_true ds r untrue holds);
  true_if_some = λ s. holds;
  false_if_none = λ none. absurd (none_true (IsUntrueIn ds) (IsTrueIn ds) ls (λ k untrue true. untrue_not_true ds k untrue true) none some);
}

false_line : (ls : List Literal) (r : Literal) (ds : List (List (ℤ × ℤ))) → IsFalseIn ds r → AreFalseIn ls ds → LineOf ls r ds
false_line ls r ds fails all = record {
  last_true = λ holds i l at others. absurd (untrue_not_true ds r (untrue_of_false ds r fails) holds);
  all_false = λ untrue. all;
  true_if_some = λ some. absurd (none_true (IsFalseIn ds) (IsTrueIn ds) ls (λ k false true. untrue_not_true ds k (untrue_of_false ds k false) true) all some);
  false_if_none = λ none. fails;
}

fixed_of_untrue : (ds : List (List (ℤ × ℤ))) (l : Literal) → IsUntrueIn ds l → IsFixedIn ds l.term
fixed_of_untrue ds l untrue = (untrue.0, untrue.1)

all_fixed_of_untrue : (ds : List (List (ℤ × ℤ))) (ls : List Literal) → AllByRecursion (IsUntrueIn ds) ls → AreFixedLiterals ds ls
all_fixed_of_untrue ds [] all = tt
all_fixed_of_untrue ds (l ∷ ls) all = (fixed_of_untrue ds l all.0, all_fixed_of_untrue ds ls all.1)

-- the literal at one of the two places is among the others
two_clash : (ds : List (List (ℤ × ℤ))) (ls : List Literal) (i : ℕ) → HasTwoOpen ds ls → AreOthersUntrue ds ls i → ⊥
two_clash ds ls i two others = elim (cases_eq two.first i) [
  | inl e ↦ two.other_open (fixed_of_untrue ds two.other (others two.second two.other two.at_second (λ s. two.apart (e ∙ sym s))))
  | inr ne ↦ two.one_open (fixed_of_untrue ds two.one (others two.first two.one two.at_first ne))
]

pub two_line : (ls : List Literal) (r : Literal) (ds : List (List (ℤ × ℤ))) → IsTrueIn ds r → HasTwoOpen ds ls → LineOf ls r ds
two_line ls r ds holds two = record {
  last_true = λ h i l at others. absurd (two_clash ds ls i two others);
  all_false = λ untrue. absurd (untrue_not_true ds r untrue holds);
  true_if_some = λ s. holds;
  false_if_none = λ none. absurd (two.one_open (fixed_of_untrue ds two.one (all_at (IsUntrueIn ds) ls two.first two.one none two.at_first)));
}

pub open_line : (ls : List Literal) (r : Literal) (ds : List (List (ℤ × ℤ))) → IsOpen ds r → IsTruthAmong Open ds ls → LineOf ls r ds
open_line ls r ds unfixed among = record {
  last_true = λ holds i l at others. absurd (open_not_true ds r unfixed holds);
  all_false = λ untrue. absurd (unfixed (fixed_of_untrue ds r untrue));
  true_if_some = λ some. absurd (among.0 some);
  false_if_none = λ none. absurd (among.1 (all_fixed_of_untrue ds ls none));
}

-- ---- the result is true

pub held_answer : (ls : List Literal) (r : Literal) (ds : List (List (ℤ × ℤ))) → AreLiteralsOf ds ls → IsLiteralOf ds r → IsTrueIn ds r → SomeByRecursion (IsTrueIn ds) ls
    → IsAnswerOf Subsumed (TruthOf ls r) (LineOf ls r) ds ds
held_answer ls r ds are is holds some = (
  (λ a within. ((λ h. makes_some_true ds ls a are within some), (λ h. makes_true ds r a is.0 within holds))),
  (λ es domains narrower. true_line ls r es (only_still r.term (true_number r) ds es domains narrower holds) (some_true_still ds es ls domains narrower some)),
)

none_made_true : (ds : List (List (ℤ × ℤ))) (ls : List Literal) (a : List ℤ) → AreLiteralsOf ds ls → Within ds a → AllByRecursion (IsUntrueIn ds) ls → SomeByRecursion (MakesTrue a) ls → ⊥
none_made_true ds ls a are within none some =
    let not : Literal → Type 0 = λ (l : Literal). MakesTrue a l → ⊥ in
    none_true not (MakesTrue a) ls (λ l no yes. no yes) (all_with (IsLiteralOf ds) (IsUntrueIn ds) not ls (λ l is untrue. not_made_true ds l a is.0 within untrue) are none) some

pub nothing_answer : (ls : List Literal) (r : Literal) (ds : List (List (ℤ × ℤ))) → AreLiteralsOf ds ls → IsLiteralOf ds r → IsTrueIn ds r → AllByRecursion (IsUntrueIn ds) ls
    → IsAnswerOf Failed (TruthOf ls r) (LineOf ls r) ds ds
nothing_answer ls r ds are is holds none = λ a within truth. none_made_true ds ls a are within none (truth.0 (makes_true ds r a is.0 within holds))

pub last_about : (ls : List Literal) (r : Literal) (l : Literal) (ds : List (List (ℤ × ℤ))) → AreLiteralsOf ds ls → IsLiteralOf ds r → IsTrueIn ds r → IsLastOf ds ls l
    → IsAbout l.term (λ u. u ≡ true_number l) (TruthOf ls r) (LineOf ls r) ds
last_about ls r l ds are is holds last = record {
  needs = λ a within truth.
      only_there (MakesTrue a) (λ (k : Literal). MakesTrue a k → ⊥) ls last.place l last.at (λ k no yes. no yes)
      (λ j k at ne. not_made_true ds k a (all_at (IsLiteralOf ds) ls j k are at).0 within (last.others j k at ne)) (truth.0 (makes_true ds r a is.0 within holds));
  enough = λ a within e. ((λ h. some_at (MakesTrue a) ls last.place l last.at e), (λ h. makes_true ds r a is.0 within holds));
  line = λ es domains narrower all.
      true_line ls r es (only_still r.term (true_number r) ds es domains narrower holds)
      (some_at (IsTrueIn es) ls last.place l last.at
      (one_left (term_set es l.term) (true_number l) (narrower_ranges ds es l.term (all_at (IsLiteralOf ds) ls last.place l are last.at).0 domains narrower) all));
}

-- ---- the result is false

pub none_same : (ls : List Literal) (r : Literal) (ds : List (List (ℤ × ℤ))) → AreLiteralsOf ds ls → IsLiteralOf ds r → IsUntrueIn ds r
    → IsSameWithin (AreMadeFalse ls) (TruthOf ls r) (AreFalseIn ls) (LineOf ls r) ds
none_same ls r ds are is untrue =
    let fails = false_of_untrue ds r is untrue in
    record {
      truth = λ a within. (
        (λ all. (
          (λ h. absurd (not_made_true ds r a is.0 within untrue h)),
          (λ some. absurd (none_true (MakesFalse a) (MakesTrue a) ls (λ l false true. apart l (term_value a l.term) true false) all some)),
        )),
        (λ truth.
            all_with (IsLiteralOf ds) (λ (l : Literal). MakesTrue a l → ⊥) (MakesFalse a) ls (λ l of no. made_false ds l a of within no) are
            (all_or_some (MakesTrue a) ls (λ some. not_made_true ds r a is.0 within untrue (truth.1 some)))),
      );
      line = λ es domains narrower all. false_line ls r es (only_still r.term (false_number r) ds es domains narrower fails) all;
    }

-- ---- the result is open, and the literals decide

pub true_about : (ls : List Literal) (r : Literal) (ds : List (List (ℤ × ℤ))) → AreLiteralsOf ds ls → IsLiteralOf ds r → SomeByRecursion (IsTrueIn ds) ls
    → IsAbout r.term (λ u. u ≡ true_number r) (TruthOf ls r) (LineOf ls r) ds
true_about ls r ds are is some = record {
  needs = λ a within truth. truth.1 (makes_some_true ds ls a are within some);
  enough = λ a within e. ((λ h. makes_some_true ds ls a are within some), (λ h. e));
  line = λ es domains narrower all.
      true_line ls r es (one_left (term_set es r.term) (true_number r) (narrower_ranges ds es r.term is.0 domains narrower) all) (some_true_still ds es ls domains narrower some);
}

pub false_about : (ls : List Literal) (r : Literal) (ds : List (List (ℤ × ℤ))) → AreLiteralsOf ds ls → IsLiteralOf ds r → AllByRecursion (IsUntrueIn ds) ls
    → IsAbout r.term (λ u. u ≡ false_number r) (TruthOf ls r) (LineOf ls r) ds
false_about ls r ds are is none = record {
  needs = λ a within truth. made_false ds r a is within (λ h. none_made_true ds ls a are within none (truth.0 h));
  enough = λ a within e. ((λ h. absurd (apart r (term_value a r.term) h e)), (λ some. absurd (none_made_true ds ls a are within none some)));
  line = λ es domains narrower all.
      false_line ls r es (one_left (term_set es r.term) (false_number r) (narrower_ranges ds es r.term is.0 domains narrower) all)
      (all_false_still ds es ls domains narrower (all_false_of_untrue ds ls are none));
}
