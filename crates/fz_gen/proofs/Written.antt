-- The bytes of the pieces are the text.
use Rattle.std.proofs.Common.{◌≡◌, ℕ, zero, suc, ◌+◌, ◌/◌, ◌≤◌, List, [], ◌∷◌, ◌++◌, codes, map, refl, sym, ap, ◌∙◌, append_assoc, arith}
use Rattle.std.specs.Prelude.{decimal, flat_map}
use Rattle.std.specs.List.{range_with_len}
use Rattle.std.proofs.lemmas.List.{append-nil, map-append}
use Rattle.std.proofs.lemmas.Grind.{flat_map-append}
use Rattle.fz_gen.specs.declared.text.Measure.TheVariants.{Weight, Value}
use Rattle.fz_gen.specs.declared.text.Part.TheVariants as part
use Rattle.fz_gen.specs.Knapsack.{measure_of, total, separated, list_text, weights_text, values_text, choices_text, goal_text, knapsack}
use Rattle.fz_gen.proofs.Spelling.{Piece, bytes}
use Rattle.fz_gen.proofs.Texts.{Entry, Known, bytes_in, number, nought, minus_one, name_of, goal_name, further, listed, choice, choices, goal, sum, solve, measures, names, weights, values, whole}

-- ---- lists

abbrev with_comma : List ℕ → List ℕ
with_comma text = codes "," ++ text

further_bytes : (es : List Entry) (ps : List Piece) → bytes (further es ps) ≡ flat_map with_comma (map bytes_in es) ++ (93 ∷ bytes ps)
further_bytes [] ps = refl
further_bytes (e ∷ es) ps =
    ap (λ (xs : List ℕ). 44 ∷ (bytes_in e ++ xs)) (further_bytes es ps)
    ∙ ap (λ (xs : List ℕ). 44 ∷ xs) (sym (append_assoc (bytes_in e) (flat_map with_comma (map bytes_in es)) (93 ∷ bytes ps)))

listed_bytes : (es : List Entry) (ps : List Piece) → bytes (listed es ps) ≡ 91 ∷ (separated (map bytes_in es) ++ (93 ∷ bytes ps))
listed_bytes [] ps = refl
listed_bytes (e ∷ es) ps =
    ap (λ (xs : List ℕ). 91 ∷ (bytes_in e ++ xs)) (further_bytes es ps)
    ∙ ap (λ (xs : List ℕ). 91 ∷ xs) (sym (append_assoc (bytes_in e) (flat_map with_comma (map bytes_in es)) (93 ∷ bytes ps)))

same_texts : (f : ℕ → Entry) (xs : List ℕ) → map bytes_in (map f xs) ≡ map (λ i. bytes_in (f i)) xs
same_texts f [] = refl
same_texts f (x ∷ xs) = ap (λ (ts : List (List ℕ)). bytes_in (f x) ∷ ts) (same_texts f xs)

-- one more text after some
one_more : (t : List ℕ) (ts : List (List ℕ)) (u : List ℕ) → separated ((t ∷ ts) ++ u ∷ []) ≡ separated (t ∷ ts) ++ (44 ∷ u)
one_more t ts u =
    ap (λ (xs : List ℕ). t ++ xs) (flat_map-append with_comma ts (u ∷ []) ∙ ap (λ (xs : List ℕ). flat_map with_comma ts ++ (44 ∷ xs)) (append-nil u))
    ∙ sym (append_assoc t (flat_map with_comma ts) (44 ∷ u))

list_with_one : (f : ℕ → Entry) (n : ℕ) (last : Entry) → 1 ≤ n → separated (map bytes_in (map f (range_with_len 1 n) ++ last ∷ [])) ≡ separated (map (λ i. bytes_in (f i)) (range_with_len 1 n)) ++ (44 ∷ bytes_in last)
list_with_one f zero last some = absurd (omega (arith, some))
list_with_one f (suc n) last some =
    ap separated (map-append bytes_in (map f (range_with_len 1 (suc n))) (last ∷ []) ∙ ap (λ (ts : List (List ℕ)). ts ++ bytes_in last ∷ []) (same_texts f (range_with_len 1 (suc n))))
    ∙ one_more (bytes_in (f 1)) (map (λ i. bytes_in (f i)) (range_with_len 2 n)) (bytes_in last)

-- ---- items

choice_bytes : (i : ℕ) (ps : List Piece) → bytes (choice i ps) ≡ (codes "var 0..1: x" ++ decimal i ++ codes ";\n") ++ bytes ps
choice_bytes i ps = ap (λ (xs : List ℕ). codes "var 0..1: x" ++ xs) (sym (append_assoc (decimal i) (codes ";\n") (bytes ps)))

choices_bytes : (i k : ℕ) (ps : List Piece) → bytes (choices i k ps) ≡ flat_map (λ j. codes "var 0..1: x" ++ decimal j ++ codes ";\n") (range_with_len i k) ++ bytes ps
choices_bytes i zero ps = refl
choices_bytes i (suc k) ps =
    choice_bytes i (choices (i + 1) k ps)
    ∙ ap (λ (xs : List ℕ). (codes "var 0..1: x" ++ decimal i ++ codes ";\n") ++ xs) (choices_bytes (i + 1) k ps)
    ∙ sym (append_assoc (codes "var 0..1: x" ++ decimal i ++ codes ";\n") (flat_map (λ j. codes "var 0..1: x" ++ decimal j ++ codes ";\n") (range_with_len (i + 1) k)) (bytes ps))

goal_bytes : (n : ℕ) (ps : List Piece) → bytes (goal (total Value n) ps) ≡ goal_text n ++ bytes ps
goal_bytes n ps = ap (λ (xs : List ℕ). codes "var 0.." ++ xs) (sym (append_assoc (decimal (total Value n)) (codes ": z :: output_var;\n") (bytes ps)))

sum_bytes : (name : List ℕ) (factors terms : List Entry) (bound : Entry) (ps : List Piece)
    → bytes (sum name factors terms bound ps) ≡ codes "constraint " ++ (name ++ (codes "([" ++ (separated (map bytes_in factors) ++ (codes "],[" ++ (separated (map bytes_in terms) ++ (codes "]," ++ (bytes_in bound ++ (codes ");\n" ++ bytes ps))))))))
sum_bytes name factors terms bound ps =
    ap (λ (xs : List ℕ). codes "constraint " ++ (name ++ (40 ∷ xs)))
    (listed_bytes factors _ ∙ ap (λ (xs : List ℕ). 91 ∷ (separated (map bytes_in factors) ++ (93 ∷ 44 ∷ xs))) (listed_bytes terms _))

regroup : (a b c d e f : List ℕ) → a ++ (b ++ (c ++ (d ++ (e ++ f)))) ≡ ((a ++ (b ++ c)) ++ (d ++ e)) ++ f
regroup a b c d e f = simp append_assoc

weights_bytes : (n : ℕ) (ps : List Piece) → bytes (weights n ps) ≡ weights_text n ++ bytes ps
weights_bytes n ps =
    let w = list_text (part.Number Weight) n in
    let x = list_text part.Name n in
    let d = decimal (total Weight n / 2) in
    sum_bytes (codes "int_lin_le") (measures Weight n) (names n) (number (total Weight n / 2)) ps
    ∙ ap (λ (xs : List ℕ). codes "constraint int_lin_le([" ++ (xs ++ (codes "],[" ++ (separated (map bytes_in (names n)) ++ (codes "]," ++ (d ++ (codes ");\n" ++ bytes ps))))))) (ap separated (same_texts (λ i. number (measure_of Weight i)) (range_with_len 1 n)))
    ∙ ap (λ (xs : List ℕ). codes "constraint int_lin_le([" ++ (w ++ (codes "],[" ++ (xs ++ (codes "]," ++ (d ++ (codes ");\n" ++ bytes ps))))))) (ap separated (same_texts (λ i. Known (name_of i)) (range_with_len 1 n)))
    ∙ ap (λ (xs : List ℕ). codes "constraint int_lin_le([" ++ xs) (shape w x d (bytes ps))
  where
    shape : (w x d rest : List ℕ) → w ++ (codes "],[" ++ (x ++ (codes "]," ++ (d ++ (codes ");\n" ++ rest))))) ≡ ((w ++ (codes "],[" ++ x)) ++ (codes "]," ++ (d ++ codes ");\n"))) ++ rest
    shape w x d rest = simp append_assoc

values_bytes : (n : ℕ) (ps : List Piece) → 1 ≤ n → bytes (values n ps) ≡ values_text n ++ bytes ps
values_bytes n ps some =
    let v = list_text (part.Number Value) n in
    let x = list_text part.Name n in
    sum_bytes (codes "int_lin_eq") (measures Value n ++ minus_one ∷ []) (names n ++ Known goal_name ∷ []) nought ps
    ∙ ap (λ (xs : List ℕ). codes "constraint int_lin_eq([" ++ (xs ++ (codes "],[" ++ (separated (map bytes_in (names n ++ Known goal_name ∷ [])) ++ (codes "],0);\n" ++ bytes ps))))) (list_with_one (λ i. number (measure_of Value i)) n minus_one some)
    ∙ ap (λ (xs : List ℕ). codes "constraint int_lin_eq([" ++ ((v ++ codes ",-1") ++ (codes "],[" ++ (xs ++ (codes "],0);\n" ++ bytes ps))))) (list_with_one (λ i. Known (name_of i)) n (Known goal_name) some)
    ∙ ap (λ (xs : List ℕ). codes "constraint int_lin_eq([" ++ xs) (shape v x (bytes ps))
  where
    shape : (v x rest : List ℕ) → (v ++ codes ",-1") ++ (codes "],[" ++ ((x ++ codes ",z") ++ (codes "],0);\n" ++ rest))) ≡ ((v ++ (codes ",-1],[" ++ x)) ++ codes ",z],0);\n") ++ rest
    shape v x rest = simp append_assoc

pub whole_bytes : (n : ℕ) → 1 ≤ n → bytes (whole n) ≡ knapsack n
whole_bytes n some =
    choices_bytes 1 n (goal (total Value n) (weights n (values n solve)))
    ∙ ap (λ (xs : List ℕ). choices_text n ++ xs)
    (goal_bytes n (weights n (values n solve))
    ∙ ap (λ (xs : List ℕ). goal_text n ++ xs) (weights_bytes n (values n solve) ∙ ap (λ (xs : List ℕ). weights_text n ++ xs) (values_bytes n solve some)))
    ∙ shape (choices_text n) (goal_text n) (weights_text n) (values_text n) (codes "solve maximize z;\n")
  where
    shape : (a b c d e : List ℕ) → a ++ (b ++ (c ++ (d ++ e))) ≡ a ++ b ++ c ++ d ++ e
    shape a b c d e = simp append_assoc
