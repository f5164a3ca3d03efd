-- What a text that begins with a line, or a head, gives back.
use Rattle.std.proofs.Common.{◌≡◌, ℕ, ◌<◌, ◌^◌, true, false, List, ◌∷◌, ◌++◌, refl, sym, ap, subst, ◌∙◌, arith, drop, get_or, append_assoc, codes}
use Rattle.std.specs.Prelude.{ℤ, FitsSigned, decimal, Option, Some, None, IfSome, IfNone, is_some}
use Rattle.std.specs.Fmt.{signed_decimal}
use Rattle.std.specs.List.{AllByRecursion}
use Rattle.std.proofs.lemmas.Bool.{false≢true}
use Rattle.std.specs.Int.{w32}
use Rattle.std.proofs.Common.{to_z, of_z}
use Rattle.std.proofs.Math.Facts.{to_z-of_z}
use Rattle.fz_sets.specs.Sets.{IsWithinLimits}
use Rattle.fz_sets.proofs.Lists.{some_is}
use Rattle.fz_refutes.specs.Boxes.{IsWord}
use Rattle.fz_refutes.specs.Trees.{Line, IsEmpty, Fails, IsBehind, Splits}
use Rattle.fz_refutes.specs.Texts.{comment, line_text}
use Rattle.fz_cert.specs.declared.step.Step.{Step}
use Rattle.fz_cert.specs.declared.step.Step.TheVariants as steps
use Rattle.fz_cert.specs.Guesses.{EndsWord, IsInWord, HasWords, IsGuessed}
use Rattle.fz_cert.proofs.Wording.{decimal_word, signed_word, word_fits}
use Rattle.fz_refutes.proofs.Within.{word_limits}

-- ---- what stands after a piece

abbrev pub IsNoFront : List ℕ → List ℕ → Type 0
IsNoFront text piece = (rest : List ℕ) → text ≡ piece ++ rest → ⊥

pub front_of : {X : Type 0} (found : Option X) (P : X → Type 0) → is_some found ≡ true → IfSome found P → (x : X) × P x
front_of None P is there = absurd (false≢true is)
front_of (Some x) P is there = (x, there)

pub none_of : {X : Type 0} (found : Option X) (P : Type 0) → is_some found ≡ false → IfNone found P → P
none_of None P is none = none
none_of (Some x) P is none = absurd (false≢true (sym is))

-- ---- the fourth byte tells the kind of a line

abbrev pub kind_of : Line → ℕ
kind_of IsEmpty = 101
kind_of (Fails c) = 102
kind_of IsBehind = 103
kind_of (Splits v n) = 115

kind_at : (line : Line) (rest text : List ℕ) → text ≡ comment (line_text line) ++ rest → get_or text 3 0 ≡ kind_of line
kind_at IsEmpty rest text is = ap (λ (t : List ℕ). get_or t 3 0) is
kind_at (Fails c) rest text is = ap (λ (t : List ℕ). get_or t 3 0) is
kind_at IsBehind rest text is = ap (λ (t : List ℕ). get_or t 3 0) is
kind_at (Splits v n) rest text is = ap (λ (t : List ℕ). get_or t 3 0) is

no_kind : (a b k : ℕ) → k ≡ a → k ≡ b → (a ≡ b → ⊥) → ⊥
no_kind a b k is also differ = differ (sym is ∙ also)

pub empty_guessed : (line : Line) (rest later text : List ℕ) → text ≡ codes "%c e" ++ later → text ≡ comment (line_text line) ++ rest → IsGuessed (Some steps.Empty) line
empty_guessed IsEmpty rest later text at is = refl
empty_guessed (Fails c) rest later text at is = absurd (no_kind 101 102 (get_or text 3 0) (ap (λ (t : List ℕ). get_or t 3 0) at) (kind_at (Fails c) rest text is) (λ e. omega (arith, e)))
empty_guessed IsBehind rest later text at is = absurd (no_kind 101 103 (get_or text 3 0) (ap (λ (t : List ℕ). get_or t 3 0) at) (kind_at IsBehind rest text is) (λ e. omega (arith, e)))
empty_guessed (Splits v n) rest later text at is = absurd (no_kind 101 115 (get_or text 3 0) (ap (λ (t : List ℕ). get_or t 3 0) at) (kind_at (Splits v n) rest text is) (λ e. omega (arith, e)))

pub worse_guessed : (line : Line) (rest later text : List ℕ) → text ≡ codes "%c g" ++ later → text ≡ comment (line_text line) ++ rest → IsGuessed (Some steps.Worse) line
worse_guessed IsEmpty rest later text at is = absurd (no_kind 103 101 (get_or text 3 0) (ap (λ (t : List ℕ). get_or t 3 0) at) (kind_at IsEmpty rest text is) (λ e. omega (arith, e)))
worse_guessed (Fails c) rest later text at is = absurd (no_kind 103 102 (get_or text 3 0) (ap (λ (t : List ℕ). get_or t 3 0) at) (kind_at (Fails c) rest text is) (λ e. omega (arith, e)))
worse_guessed IsBehind rest later text at is = refl
worse_guessed (Splits v n) rest later text at is = absurd (no_kind 103 115 (get_or text 3 0) (ap (λ (t : List ℕ). get_or t 3 0) at) (kind_at (Splits v n) rest text is) (λ e. omega (arith, e)))

-- what reads the number of a constraint, and those of a split
abbrev pub ReadsFailing : Option Step → List ℕ → Type 0
ReadsFailing guess text = (c : ℕ) (rest : List ℕ) → c < 2 ^ 32 → EndsWord rest → text ≡ decimal c ++ rest → guess ≡ Some (steps.Failing c)

abbrev pub ReadsSplit : Option Step → List ℕ → Type 0
ReadsSplit guess text = (v : ℕ) (n : ℤ) (rest : List ℕ) → v < 2 ^ 32 → IsWord n → EndsWord rest → text ≡ decimal v ++ (32 ∷ (signed_decimal n ++ rest)) → guess ≡ Some (steps.Split v n)

pub failing_guessed : (line : Line) (rest later text : List ℕ) (guess : Option Step) → HasWords line → text ≡ codes "%c f " ++ later → text ≡ comment (line_text line) ++ rest → ReadsFailing guess later → IsGuessed guess line
failing_guessed IsEmpty rest later text guess words at is reads = absurd (no_kind 102 101 (get_or text 3 0) (ap (λ (t : List ℕ). get_or t 3 0) at) (kind_at IsEmpty rest text is) (λ e. omega (arith, e)))
failing_guessed (Fails c) rest later text guess words at is reads =
    let there : later ≡ (decimal c ++ codes "\n") ++ rest = ap (drop 5) (sym at ∙ is) in
    subst (λ (g : Option Step). IsGuessed g (Fails c)) (sym (reads c (10 ∷ rest) words (omega arith) (there ∙ append_assoc (decimal c) (codes "\n") rest))) refl
failing_guessed IsBehind rest later text guess words at is reads = absurd (no_kind 102 103 (get_or text 3 0) (ap (λ (t : List ℕ). get_or t 3 0) at) (kind_at IsBehind rest text is) (λ e. omega (arith, e)))
failing_guessed (Splits v n) rest later text guess words at is reads = absurd (no_kind 102 115 (get_or text 3 0) (ap (λ (t : List ℕ). get_or t 3 0) at) (kind_at (Splits v n) rest text is) (λ e. omega (arith, e)))

pub split_guessed : (line : Line) (rest later text : List ℕ) (guess : Option Step) → HasWords line → text ≡ codes "%c s " ++ later → text ≡ comment (line_text line) ++ rest → ReadsSplit guess later → IsGuessed guess line
split_guessed IsEmpty rest later text guess words at is reads = absurd (no_kind 115 101 (get_or text 3 0) (ap (λ (t : List ℕ). get_or t 3 0) at) (kind_at IsEmpty rest text is) (λ e. omega (arith, e)))
split_guessed (Fails c) rest later text guess words at is reads = absurd (no_kind 115 102 (get_or text 3 0) (ap (λ (t : List ℕ). get_or t 3 0) at) (kind_at (Fails c) rest text is) (λ e. omega (arith, e)))
split_guessed IsBehind rest later text guess words at is reads = absurd (no_kind 115 103 (get_or text 3 0) (ap (λ (t : List ℕ). get_or t 3 0) at) (kind_at IsBehind rest text is) (λ e. omega (arith, e)))
split_guessed (Splits v n) rest later text guess words at is reads =
    let there : later ≡ ((decimal v ++ (32 ∷ signed_decimal n)) ++ codes "\n") ++ rest = ap (drop 5) (sym at ∙ is) in
    let first : ((decimal v ++ (32 ∷ signed_decimal n)) ++ codes "\n") ++ rest ≡ (decimal v ++ (32 ∷ signed_decimal n)) ++ (10 ∷ rest) = append_assoc (decimal v ++ (32 ∷ signed_decimal n)) (codes "\n") rest in
    let second : (decimal v ++ (32 ∷ signed_decimal n)) ++ (10 ∷ rest) ≡ decimal v ++ (32 ∷ (signed_decimal n ++ (10 ∷ rest))) = append_assoc (decimal v) (32 ∷ signed_decimal n) (10 ∷ rest) in
    subst (λ (g : Option Step). IsGuessed g (Splits v n)) (sym (reads v n (10 ∷ rest) words.0 words.1 (omega arith) (there ∙ first ∙ second))) refl

-- one of the four there is
pub some_kind : (line : Line) (rest text : List ℕ) → text ≡ comment (line_text line) ++ rest → IsNoFront text (codes "%c e") → IsNoFront text (codes "%c g") → IsNoFront text (codes "%c f ") → IsNoFront text (codes "%c s ") → ⊥
some_kind IsEmpty rest text is e g f s = e (10 ∷ rest) is
some_kind (Fails c) rest text is e g f s = f ((decimal c ++ codes "\n") ++ rest) is
some_kind IsBehind rest text is e g f s = g (10 ∷ rest) is
some_kind (Splits v n) rest text is e g f s = s (((decimal v ++ (32 ∷ signed_decimal n)) ++ codes "\n") ++ rest) is

-- ---- the numbers of a line

pub failing_of : (n found : ℕ) (read : Option ℕ) → read ≡ Some found → read ≡ Some n → ◌≡◌ {A = Option Step} (Some (steps.Failing found)) (Some (steps.Failing n))
failing_of n found read is same = ap (λ (k : ℕ). Some (steps.Failing k)) (some_is found n (sym is ∙ same))

pub split_of : (v : ℕ) (n : ℤ) (found : ℕ) (number : ℤ) (first : Option ℕ) (second : Option ℤ) → IsWord n → first ≡ Some found → second ≡ Some number → first ≡ Some v → second ≡ Some n
    → ◌≡◌ {A = Option Step} (Some (steps.Split found (to_z w32 (of_z w32 number)))) (Some (steps.Split v n))
split_of v n found number first second word is also same_first same_second =
    let here : number ≡ n = some_is number n (sym also ∙ same_second) in
    let fits : FitsSigned w32 number = subst (FitsSigned w32) (sym here) (word_fits n word) in
    ap (λ (x : ℤ). Some (steps.Split found x)) (to_z-of_z fits ∙ here) ∙ ap (λ (k : ℕ). Some (steps.Split k n)) (some_is found v (sym is ∙ same_first))

abbrev pub SplitsWord : List ℕ → List ℕ → List ℕ → Type 0
SplitsWord text word later = (front rest : List ℕ) → AllByRecursion IsInWord front → EndsWord rest → text ≡ front ++ rest → (word ≡ front) × (later ≡ rest)

pub first_number : (text word later : List ℕ) (v : ℕ) (n : ℤ) (rest : List ℕ) (read : Option ℕ) → v < 2 ^ 32 → text ≡ decimal v ++ (32 ∷ (signed_decimal n ++ rest)) → SplitsWord text word later
    → ((k : ℕ) → k < 2 ^ 32 → word ≡ decimal k → read ≡ Some k) → (read ≡ Some v) × (later ≡ 32 ∷ (signed_decimal n ++ rest))
first_number text word later v n rest read small is splits reads =
    let both = splits (decimal v) (32 ∷ (signed_decimal n ++ rest)) (decimal_word v small) (omega arith) is in
    (reads v small both.0, both.1)

pub second_number : (text blank_behind word later : List ℕ) (n : ℤ) (rest : List ℕ) (read : Option ℤ) → IsWord n → EndsWord rest → text ≡ 32 ∷ (signed_decimal n ++ rest) → text ≡ 32 ∷ blank_behind → SplitsWord blank_behind word later
    → ((k : ℤ) → IsWord k → word ≡ signed_decimal k → read ≡ Some k) → read ≡ Some n
second_number text blank_behind word later n rest read small ends is at splits reads =
    let there : blank_behind ≡ signed_decimal n ++ rest = ap (drop 1) (sym at ∙ is) in
    reads n small (splits (signed_decimal n) rest (signed_word n small) ends there).0

-- a value and what stands after it
pub value_of : (text blank_behind word later : List ℕ) (n : ℤ) (rest : List ℕ) (read : Option ℤ) → IsWithinLimits n → EndsWord rest → text ≡ 32 ∷ (signed_decimal n ++ rest) → text ≡ 32 ∷ blank_behind → SplitsWord blank_behind word later
    → ((k : ℤ) → IsWord k → word ≡ signed_decimal k → read ≡ Some k) → (read ≡ Some n) × (later ≡ rest)
value_of text blank_behind word later n rest read limits ends is at splits reads =
    let there : blank_behind ≡ signed_decimal n ++ rest = ap (drop 1) (sym at ∙ is) in
    let small = word_limits n limits in
    let both = splits (signed_decimal n) rest (signed_word n small) ends there in
    (reads n small both.0, both.1)

pub limited_value : (n number limited : ℤ) (read : Option ℤ) → IsWithinLimits n → read ≡ Some number → read ≡ Some n → (IsWithinLimits (to_z w32 (of_z w32 number)) → limited ≡ to_z w32 (of_z w32 number)) → to_z w32 (of_z w32 limited) ≡ n
limited_value n number limited read limits is same stays =
    let here : number ≡ n = some_is number n (sym is ∙ same) in
    let back : to_z w32 (of_z w32 n) ≡ n = to_z-of_z (word_fits n (word_limits n limits)) in
    let passed : to_z w32 (of_z w32 number) ≡ n = ap (λ (x : ℤ). to_z w32 (of_z w32 x)) here ∙ back in
    let result : limited ≡ n = stays (subst IsWithinLimits (sym passed) limits) ∙ passed in
    ap (λ (x : ℤ). to_z w32 (of_z w32 x)) result ∙ back
