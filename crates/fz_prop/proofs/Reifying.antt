-- A constraint and a Boolean that says whether it is true.
use Rattle.std.proofs.Common.{◌≡◌, ℕ, List, refl, sym, ap, subst, length, arith}
use Rattle.std.specs.Prelude.{ℤ, pos}
use Rattle.std.proofs.lemmas.Int.{ints, by_lt_z}
use Rattle.fz_sets.specs.Sets.{IsInRange}
use Rattle.fz_dom.specs.Shape.{least}
use Rattle.fz_spec.specs.declared.term.Term.{Term}
use Rattle.fz_spec.specs.Constraints.{term_value}
use Rattle.fz_strength.specs.Domains.{term_set, AreDomains, Within, IsNarrower, IsTermOf}
use Rattle.fz_strength.specs.Events.{IsOnly, IsFixedIn}
use Rattle.fz_strength.specs.Lines.{IsReifiedLine}
use Rattle.fz_strength.specs.Promises.{IsTruth}
use Rattle.fz_strength.proofs.Terms.{in_single}
use Rattle.fz_prop.specs.declared.answer.Answer.{Answer}
use Rattle.fz_prop.specs.declared.answer.Answer.TheVariants.{Fix, NoFix, Subsumed, Failed}
use Rattle.fz_prop.specs.Answers.{IsAnswerOf, IsCorrectOf}
pub use Rattle.fz_prop.specs.Truths.{Sides, AreSides, TruthWith, LineWith}
use Rattle.fz_prop.proofs.Filled.{narrower_ranges, one_left, still_only}
use Rattle.fz_prop.specs.Truths.{IsAbout}
use Rattle.fz_prop.proofs.TermChanges.{term_within, only_in}
use Rattle.fz_prop.proofs.Twice.{narrower_twice}

-- ---- the line

one_and_zero : (x : ℤ) → x ≡ pos 1 → x ≡ pos 0 → ⊥
one_and_zero x one zero = omega (arith, ints, one, zero)

clash : (d : List (ℤ × ℤ)) → IsOnly d (pos 1) → IsOnly d (pos 0) → ⊥
clash d one zero = one_and_zero (least d) (ap least one) (ap least zero)

one_line : (shown refuted line against : Type 0) (d : List (ℤ × ℤ)) → IsOnly d (pos 1) → (line → refuted → ⊥) → line → IsReifiedLine shown refuted line against d
one_line shown refuted line against d one apart h = record {
  one_if_shown = λ s. one;
  zero_if_refuted = λ f. absurd (apart h f);
  line_if_one = λ o. h;
  against_if_zero = λ zero. absurd (clash d one zero);
}

zero_line : (shown refuted line against : Type 0) (d : List (ℤ × ℤ)) → IsOnly d (pos 0) → (against → shown → ⊥) → against → IsReifiedLine shown refuted line against d
zero_line shown refuted line against d zero apart h = record {
  one_if_shown = λ s. absurd (apart h s);
  zero_if_refuted = λ f. zero;
  line_if_one = λ one. absurd (clash d one zero);
  against_if_zero = λ o. h;
}

pub open_line : (s : Sides) (r : Term) (ds : List (List (ℤ × ℤ))) → (s.shown ds → ⊥) → (s.refuted ds → ⊥) → (IsFixedIn ds r → ⊥) → LineWith s r ds
open_line s r ds not_shown not_refuted unfixed = record {
  one_if_shown = λ h. absurd (not_shown h);
  zero_if_refuted = λ h. absurd (not_refuted h);
  line_if_one = λ one. absurd (unfixed (pos 1, one));
  against_if_zero = λ zero. absurd (unfixed (pos 0, zero));
}

-- ---- r is 1, or 0: a run of the constraint, or of its opposite

value_in : (ds : List (List (ℤ × ℤ))) (r : Term) (v : ℤ) (a : List ℤ) → IsTermOf (length ds) r → IsOnly (term_set ds r) v → Within ds a → term_value a r ≡ v
value_in ds r v a is only within = only_in (term_set ds r) v (term_value a r) only (term_within ds a r is within)

value_still : (ds es : List (List (ℤ × ℤ))) (r : Term) (v : ℤ) (a : List ℤ) → IsTermOf (length ds) r → IsOnly (term_set ds r) v → AreDomains es → IsNarrower ds es → Within es a → term_value a r ≡ v
value_still ds es r v a is only domains narrower within =
    value_in es r v a (subst (λ (n : ℕ). IsTermOf n r) (sym narrower.size) is) (still_only ds es r v is only domains narrower) within

pub one_correct : (P : List ℤ → Type 0) (r : Term) (ds es : List (List (ℤ × ℤ))) → IsTermOf (length ds) r → IsOnly (term_set ds r) (pos 1) → IsCorrectOf P ds es → IsCorrectOf (TruthWith P r) ds es
one_correct P r ds es is only h = λ a holds within. h a (holds.0 (value_in ds r (pos 1) a is only within)) within

pub zero_correct : (P : List ℤ → Type 0) (r : Term) (ds es : List (List (ℤ × ℤ))) → IsTermOf (length ds) r → IsOnly (term_set ds r) (pos 0) → IsCorrectOf (λ a. P a → ⊥) ds es
    → IsCorrectOf (TruthWith P r) ds es
zero_correct P r ds es is only h = λ a holds within. h a (λ p. one_and_zero (term_value a r) (holds.1 p) (value_in ds r (pos 0) a is only within)) within

pub one_answer : (answer : Answer) (P : List ℤ → Type 0) (s : Sides) (r : Term) (ds es : List (List (ℤ × ℤ))) → IsTermOf (length ds) r → IsOnly (term_set ds r) (pos 1)
    → AreSides s ds → AreDomains es → IsNarrower ds es → IsAnswerOf answer P s.line ds es → IsAnswerOf answer (TruthWith P r) (LineWith s r) ds es
one_answer Fix P s r ds es is only sides domains narrower h =
    one_line (s.shown es) (s.refuted es) (s.line es) (s.against es) (term_set es r) (still_only ds es r (pos 1) is only domains narrower) (sides.one es domains narrower) h
one_answer NoFix P s r ds es is only sides domains narrower h = h
one_answer Subsumed P s r ds es is only sides domains narrower h = (
  (λ a within. ((λ one. h.0 a within), (λ p. value_still ds es r (pos 1) a is only domains narrower within))),
  (λ fs filled shrunk.
      let n = narrower_twice ds es fs narrower shrunk in
      one_line (s.shown fs) (s.refuted fs) (s.line fs) (s.against fs) (term_set fs r) (still_only ds fs r (pos 1) is only filled n) (sides.one fs filled n) (h.1 fs filled shrunk)),
)
one_answer Failed P s r ds es is only sides domains narrower h = λ a within holds. h a within (holds.0 (value_in ds r (pos 1) a is only within))

pub zero_answer : (answer : Answer) (P : List ℤ → Type 0) (s : Sides) (r : Term) (ds es : List (List (ℤ × ℤ))) → IsTermOf (length ds) r → IsOnly (term_set ds r) (pos 0)
    → AreSides s ds → AreDomains es → IsNarrower ds es → IsAnswerOf answer (λ a. P a → ⊥) s.against ds es → IsAnswerOf answer (TruthWith P r) (LineWith s r) ds es
zero_answer Fix P s r ds es is only sides domains narrower h =
    zero_line (s.shown es) (s.refuted es) (s.line es) (s.against es) (term_set es r) (still_only ds es r (pos 0) is only domains narrower) (sides.zero es domains narrower) h
zero_answer NoFix P s r ds es is only sides domains narrower h = h
zero_answer Subsumed P s r ds es is only sides domains narrower h = (
  (λ a within. ((λ one. absurd (one_and_zero (term_value a r) one (value_still ds es r (pos 0) a is only domains narrower within))), (λ p. absurd (h.0 a within p)))),
  (λ fs filled shrunk.
      let n = narrower_twice ds es fs narrower shrunk in
      zero_line (s.shown fs) (s.refuted fs) (s.line fs) (s.against fs) (term_set fs r) (still_only ds fs r (pos 0) is only filled n) (sides.zero fs filled n) (h.1 fs filled shrunk)),
)
zero_answer Failed P s r ds es is only sides domains narrower h = λ a within holds.
    h a within (λ p. one_and_zero (term_value a r) (holds.1 p) (value_in ds r (pos 0) a is only within))

-- ---- what is left decides: then it is about this number of r

pub shown_about : (P : List ℤ → Type 0) (s : Sides) (r : Term) (ds : List (List (ℤ × ℤ))) → IsTermOf (length ds) r → AreSides s ds
    → ((a : List ℤ) → Within ds a → P a) → ((es : List (List (ℤ × ℤ))) → AreDomains es → IsNarrower ds es → s.line es)
    → IsAbout r (λ u. u ≡ pos 1) (TruthWith P r) (LineWith s r) ds
shown_about P s r ds is sides all lines = record {
  needs = λ a within holds. holds.1 (all a within);
  enough = λ a within one. ((λ o. all a within), (λ p. one));
  line = λ es domains narrower ones.
      one_line (s.shown es) (s.refuted es) (s.line es) (s.against es) (term_set es r) (one_left (term_set es r) (pos 1) (narrower_ranges ds es r is domains narrower) ones)
      (sides.one es domains narrower) (lines es domains narrower);
}

pub zero_of : (x : ℤ) → IsInRange (pos 0, pos 1) x → (x ≡ pos 1 → ⊥) → x ≡ pos 0
zero_of x truth not =
    let low = truth.0 in
    let high = truth.1 in
    by_lt_z x (pos 1) (λ below. omega (arith, ints, low, below)) (λ above. absurd (not (omega (arith, ints, high, above))))

pub zero_left : (ds : List (List (ℤ × ℤ))) (r : Term) (v : ℤ) → IsTruth ds r → IsOnly (term_set ds r) v → (v ≡ pos 1 → ⊥) → IsOnly (term_set ds r) (pos 0)
zero_left ds r v truth only not = subst (IsOnly (term_set ds r)) (zero_of v (truth v (rw only (in_single v v refl))) not) only

pub refuted_about : (P : List ℤ → Type 0) (s : Sides) (r : Term) (ds : List (List (ℤ × ℤ))) → IsTermOf (length ds) r → IsTruth ds r → AreSides s ds
    → ((a : List ℤ) → Within ds a → P a → ⊥) → ((es : List (List (ℤ × ℤ))) → AreDomains es → IsNarrower ds es → s.against es)
    → IsAbout r (λ u. u ≡ pos 0) (TruthWith P r) (LineWith s r) ds
refuted_about P s r ds is truth sides none lines = record {
  needs = λ a within holds. zero_of (term_value a r) (truth (term_value a r) (term_within ds a r is within)) (λ one. none a within (holds.0 one));
  enough = λ a within zero. ((λ one. absurd (one_and_zero (term_value a r) one zero)), (λ p. absurd (none a within p)));
  line = λ es domains narrower zeros.
      zero_line (s.shown es) (s.refuted es) (s.line es) (s.against es) (term_set es r) (one_left (term_set es r) (pos 0) (narrower_ranges ds es r is domains narrower) zeros)
      (sides.zero es domains narrower) (lines es domains narrower);
}
