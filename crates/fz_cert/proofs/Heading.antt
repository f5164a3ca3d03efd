-- Where a certificate begins in an output, and the values of its head.
use Rattle.std.proofs.Common.{◌≡◌, ℕ, zero, suc, ◌<◌, ◌^◌, List, [], ◌∷◌, ◌++◌, refl, sym, ap, subst, ◌∙◌, arith, length, take, drop, get_or, append_assoc, codes}
use Rattle.std.specs.Prelude.{ℤ, decimal, Option, Some, None, flat_map, slice_get}
use Rattle.std.specs.Fmt.{signed_decimal}
use Rattle.std.specs.List.{AllByRecursion}
use Rattle.std.specs.Int.{w32}
use Rattle.std.proofs.Common.{to_z, of_z}
use Rattle.std.proofs.Math.Facts.{to_z-of_z}
use Rattle.fz_sets.specs.Sets.{IsWithinLimits}
use Rattle.fz_sets.proofs.Lists.{all_both}
use Rattle.fz_spec.specs.Constraints.{Constraint}
use Rattle.fz_spec.specs.Instance.{Instance, Variable, AreDeclared}
use Rattle.fz_model.specs.Kept.{IsModel, IsVariable, AreNumbers}
use Rattle.fz_refutes.specs.Boxes.{declared_box, low_half, high_half}
use Rattle.fz_refutes.specs.Refuted.{RefutesIfThere}
use Rattle.fz_refutes.proofs.Insides.{declared_length}
use Rattle.fz_refutes.specs.Trees.{Tree, Empty, Failing, Worse, Split, IsRefutedBy, Line, IsEmpty, Fails, IsBehind, Splits, lines_of, AreRefutedBy}
use Rattle.fz_refutes.specs.Texts.{comment, line_text, head_text, lines_text, front_text, IsHead, ProvesHead}
use Rattle.fz_cert.specs.Guesses.{AreBeforeZ, EndsWord, HasWords}
use Rattle.fz_cert.proofs.Wording.{IsOfNumber, all_weaker, decimal_bytes, signed_bytes, word_fits}
use Rattle.fz_refutes.proofs.Within.{set_limits, word_limits}

-- ---- values, a blank before each

abbrev pub values_text : List ℤ → List ℕ
values_text values = flat_map (λ (x : ℤ). 32 ∷ signed_decimal x) values

pub record IsSoFar (count : ℕ) (text left : List ℕ) (found : List ℤ) (i : ℕ) : Type 0 where
  pub numbers : AreNumbers found
  pub read : (values : List ℤ) (rest : List ℕ) → length values ≡ count → AreNumbers values → text ≡ values_text values ++ 10 ∷ rest
      → (found ≡ take i values) × (left ≡ values_text (drop i values) ++ 10 ∷ rest)

pub none_so_far : (count : ℕ) (text : List ℕ) (found : List ℤ) → found ≡ [] → IsSoFar count text text found 0
none_so_far count text found none = record { numbers = subst AreNumbers (sym none) tt; read = λ values rest counts are at. (none, at) }

abbrev pub ReadsValue : List ℕ → List ℕ → ℤ → Type 0
ReadsValue left later value = (n : ℤ) (rest : List ℕ) → IsWithinLimits n → EndsWord rest → left ≡ 32 ∷ (signed_decimal n ++ rest) → (value ≡ n) × (later ≡ rest)

value_ends : (values : List ℤ) (rest : List ℕ) → EndsWord (values_text values ++ 10 ∷ rest)
value_ends [] rest = omega arith
value_ends (x ∷ xs) rest = omega arith

pub record HasNext (values : List ℤ) (i : ℕ) : Type 0 where
  pub value : ℤ
  pub number : IsWithinLimits value
  pub first : drop i values ≡ value ∷ drop (suc i) values
  pub taken : take (suc i) values ≡ take i values ++ value ∷ []

next_there : (values : List ℤ) (i : ℕ) → i < length values → AreNumbers values → HasNext values i
next_there [] i within are = absurd (omega (arith, within))
next_there (x ∷ xs) zero within are = record { value = x; number = are.0; first = refl; taken = refl }
next_there (x ∷ xs) (suc i) within are =
    let next = next_there xs i (omega (arith, within)) are.1 in
    record { value = next.value; number = next.number; first = next.first; taken = ap (λ (t : List ℤ). x ∷ t) next.taken }

pub value_read : (count : ℕ) (text left later : List ℕ) (found more : List ℤ) (value : ℤ) (i : ℕ) → IsSoFar count text left found i → i < count → IsWithinLimits value → ReadsValue left later value → more ≡ found ++ to_z w32 (of_z w32 value) ∷ []
    → IsSoFar count text later more (suc i)
value_read count text left later found more value i so_far within number reads pushed =
    let is : more ≡ found ++ value ∷ [] = pushed ∙ ap (λ (x : ℤ). found ++ x ∷ []) (to_z-of_z (word_fits value (word_limits value number))) in
    record {
      numbers = subst AreNumbers (sym is) (all_both IsWithinLimits found (value ∷ []) so_far.numbers (number, tt));
      read = λ values rest counts are at.
          let now = so_far.read values rest counts are at in
          let next = next_there values i (subst (λ (k : ℕ). i < k) (sym counts) within) are in
          let behind = values_text (drop (suc i) values) ++ 10 ∷ rest in
          let line : left ≡ 32 ∷ (signed_decimal next.value ++ behind) = now.1 ∙ ap (λ (t : List ℤ). values_text t ++ 10 ∷ rest) next.first
          ∙ ap (λ (t : List ℕ). 32 ∷ t) (append_assoc (signed_decimal next.value) (values_text (drop (suc i) values)) (10 ∷ rest)) in
          let read = reads next.value behind next.number (value_ends (drop (suc i) values) rest) line in
          (is ∙ ap (λ (t : List ℤ). t ++ value ∷ []) now.0 ∙ ap (λ (x : ℤ). take i values ++ x ∷ []) read.0 ∙ sym next.taken, read.1);
    }

take_all : (xs : List ℤ) (n : ℕ) → length xs ≡ n → take n xs ≡ xs
take_all [] zero is = refl
take_all [] (suc n) is = absurd (omega (arith, is))
take_all (x ∷ xs) zero is = absurd (omega (arith, is))
take_all (x ∷ xs) (suc n) is = ap (λ (t : List ℤ). x ∷ t) (take_all xs n (omega (arith, is)))

pub values_read : (count : ℕ) (text left : List ℕ) (found : List ℤ) (i : ℕ) → IsSoFar count text left found i → i ≡ count → (values : List ℤ) (rest : List ℕ) → length values ≡ count → AreNumbers values
    → text ≡ values_text values ++ 10 ∷ rest → found ≡ values
values_read count text left found i so_far is values rest counts are at = (so_far.read values rest counts are at).0 ∙ take_all values i (counts ∙ sym is)

-- ---- a certificate has no z after its first line

low_number : (bytes : List ℕ) → AllByRecursion IsOfNumber bytes → AreBeforeZ bytes
low_number bytes are = all_weaker IsOfNumber (λ (byte : ℕ). byte < 122) bytes (λ byte is. let high = is.1 in omega (arith, high)) are

low_both : (xs ys : List ℕ) → AreBeforeZ xs → AreBeforeZ ys → AreBeforeZ (xs ++ ys)
low_both xs ys = all_both (λ (byte : ℕ). byte < 122) xs ys

low_comment : (text : List ℕ) → AreBeforeZ text → AreBeforeZ (comment text)
low_comment text low = (omega arith, (omega arith, (omega arith, low_both text (10 ∷ []) low (omega arith, tt))))

low_line : (line : Line) → HasWords line → AreBeforeZ (line_text line)
low_line IsEmpty words = (omega arith, tt)
low_line (Fails c) words = (omega arith, (omega arith, low_number (decimal c) (decimal_bytes c (omega (arith, words)))))
low_line IsBehind words = (omega arith, tt)
low_line (Splits v n) words = let small = words.0 in
    (omega arith, (omega arith, low_both (decimal v) (32 ∷ signed_decimal n) (low_number (decimal v) (decimal_bytes v (omega (arith, small)))) (omega arith, low_number (signed_decimal n) (signed_bytes n words.1))))

low_lines : (lines : List Line) → AllByRecursion HasWords lines → AreBeforeZ (lines_text lines)
low_lines [] words = tt
low_lines (line ∷ lines) words = low_both (comment (line_text line)) (lines_text lines) (low_comment (line_text line) (low_line line words.0)) (low_lines lines words.1)

low_values : (values : List ℤ) → AreNumbers values → AreBeforeZ (values_text values)
low_values [] are = tt
low_values (x ∷ xs) are = (omega arith, low_both (signed_decimal x) (values_text xs) (low_number (signed_decimal x) (signed_bytes x (word_limits x are.0))) (low_values xs are.1))

-- ---- the numbers of lines that refute

there : (constraints : List Constraint) (c : ℕ) (box : List (List (ℤ × ℤ))) → RefutesIfThere (slice_get constraints c) box → c < length constraints
there [] c box out = absurd out
there (x ∷ xs) zero box out = omega arith
there (x ∷ xs) (suc c) box out = let less = there xs c box out in omega (arith, less)

failing_words : (m : Instance) (c : ℕ) (box : List (List (ℤ × ℤ))) → IsModel m → RefutesIfThere (slice_get m.constraints c) box → c < 2 ^ 32
failing_words m c box is out = let few = is.few_constraints in let less = there m.constraints c box out in omega (arith, few, less)

tree_words : (m : Instance) (head : Option (List ℤ)) (box : List (List (ℤ × ℤ))) (tree : Tree) → IsModel m → IsRefutedBy m head box tree → AllByRecursion HasWords (lines_of tree)
tree_words m head box Empty is out = (tt, tt)
tree_words m head box (Failing c) is out = (failing_words m c box is out, tt)
tree_words m head box Worse is out = (tt, tt)
tree_words m head box (Split v n low high) is out =
    let few = is.few in let less = out.0.0 in
    ((omega (arith, few, less), out.0.1), all_both HasWords (lines_of low) (lines_of high) (tree_words m head (low_half v n box) low is out.1) (tree_words m head (high_half v n box) high is out.2))

pub first_words : (m : Instance) (head : Option (List ℤ)) (boxes : List (List (List (ℤ × ℤ)))) (line : Line) (lines : List Line) → IsModel m → AreRefutedBy m head boxes (line ∷ lines) → HasWords line
first_words m head [] line lines is out = absurd out
first_words m head (box ∷ boxes) IsEmpty lines is out = tt
first_words m head (box ∷ boxes) (Fails c) lines is out = failing_words m c box is out.0
first_words m head (box ∷ boxes) IsBehind lines is out = tt
first_words m head (box ∷ boxes) (Splits v n) lines is out = let few = is.few in let less = out.0.0 in (omega (arith, few, less), out.0.1)

-- ---- the values of a declared assignment

pub declared_numbers : (vs : List Variable) (a : List ℤ) → AllByRecursion IsVariable vs → AreDeclared vs a → AreNumbers a
declared_numbers [] [] fits are = tt
declared_numbers [] (x ∷ xs) fits are = absurd are
declared_numbers (v ∷ vs) [] fits are = absurd are
declared_numbers (v ∷ vs) (x ∷ xs) fits are = (set_limits v.kind v.set x fits.0 are.0, declared_numbers vs xs fits.1 are.1)

-- ---- the head of an output that proves

-- a certificate from after its z
abbrev pub behind_z : Option (List ℤ) → List Line → List ℕ
behind_z head lines = codes "cert 1\n" ++ (comment (head_text head) ++ (lines_text lines ++ comment (codes "end")))

abbrev pub before_z : Instance → Option (List ℤ) → List ℕ
before_z m head = front_text m head ++ codes "%c f"

pub at_z : (m : Instance) (head : Option (List ℤ)) (output : List ℕ) (proof : ProvesHead m head output) → output ≡ before_z m head ++ 122 ∷ behind_z head (lines_of proof.tree)
at_z m head output proof = proof.text ∙ sym (append_assoc (front_text m head) (codes "%c f") (122 ∷ behind_z head (lines_of proof.tree)))

low_head : (m : Instance) (head : Option (List ℤ)) → IsModel m → IsHead m head → AreBeforeZ (head_text head)
low_head m None is ok = (omega arith, (omega arith, (omega arith, (omega arith, tt))))
low_head m (Some a) is ok = (omega arith, (omega arith, (omega arith, (omega arith, low_values a (declared_numbers m.variables a is.sets ok.0.declared)))))

pub low_rest : (m : Instance) (head : Option (List ℤ)) (output : List ℕ) (proof : ProvesHead m head output) → IsModel m → AreBeforeZ (behind_z head (lines_of proof.tree))
low_rest m head output proof is =
    let lines = low_lines (lines_of proof.tree) (tree_words m head (declared_box m.variables) proof.tree is proof.refuted) in
    low_both (codes "cert 1\n") (comment (head_text head) ++ (lines_text (lines_of proof.tree) ++ comment (codes "end")))
    (omega arith, (omega arith, (omega arith, (omega arith, (omega arith, (omega arith, (omega arith, tt)))))))
    (low_both (comment (head_text head)) (lines_text (lines_of proof.tree) ++ comment (codes "end")) (low_comment (head_text head) (low_head m head is proof.is_head))
    (low_both (lines_text (lines_of proof.tree)) (comment (codes "end")) lines (low_comment (codes "end") (omega arith, (omega arith, (omega arith, tt))))))

-- the certificate from there on
pub certificate_is : (m : Instance) (head : Option (List ℤ)) (output certificate : List ℕ) (proof : ProvesHead m head output) → IsModel m
    → ((front rest : List ℕ) → AreBeforeZ rest → output ≡ front ++ 122 ∷ rest → certificate ≡ rest) → certificate ≡ behind_z head (lines_of proof.tree)
certificate_is m head output certificate proof is found = found (before_z m head) (behind_z head (lines_of proof.tree)) (low_rest m head output proof is) (at_z m head output proof)

pub none_guessed : (head : Option (List ℤ)) (lines : List Line) (certificate : List ℕ) → certificate ≡ behind_z head lines → ((rest : List ℕ) → certificate ≡ codes "cert 1\n%c best" ++ rest → ⊥) → None ≡ head
none_guessed None lines certificate is none = refl
none_guessed (Some a) lines certificate is none = absurd (none ((values_text a ++ codes "\n") ++ (lines_text lines ++ comment (codes "end"))) is)

pub best_guessed : (m : Instance) (head : Option (List ℤ)) (lines : List Line) (certificate best : List ℕ) (values : List ℤ) → IsModel m → IsHead m head → certificate ≡ behind_z head lines → certificate ≡ codes "cert 1\n%c best" ++ best
    → ((a : List ℤ) (rest : List ℕ) → length a ≡ length m.variables → AreNumbers a → best ≡ values_text a ++ 10 ∷ rest → values ≡ a) → Some values ≡ head
best_guessed m None lines certificate best values is ok at begins reads =
    let differ : 98 ≡ 110 = sym (ap (λ (t : List ℕ). get_or t 10 0) begins) ∙ ap (λ (t : List ℕ). get_or t 10 0) at in absurd (omega (arith, differ))
best_guessed m (Some a) lines certificate best values is ok at begins reads =
    let later = lines_text lines ++ comment (codes "end") in
    let there : best ≡ (values_text a ++ codes "\n") ++ later = ap (drop 14) (sym begins ∙ at) in
    ap Some (reads a later (declared_length m.variables a ok.0.declared) (declared_numbers m.variables a is.sets ok.0.declared) (there ∙ append_assoc (values_text a) (codes "\n") later))
