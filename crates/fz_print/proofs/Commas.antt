-- Texts with ", " between them are the first one, and the others with ", " before each.
use Rattle.std.proofs.Common.{◌≡◌, ℕ, List, [], ◌∷◌, ◌++◌, map, codes, sym, ap, ◌∙◌, append_assoc, append-nil, refl, arith, ◌<◌, ◌-◌, length, get_or, take, drop, length-drop}
use Rattle.std.proofs.lemmas.List.{take_all}
use Rattle.std.specs.Prelude.{flat_map}
use Rattle.fz_spec.specs.Run.{comma_separated}

pub commas : {X : Type 0} (g : X → List ℕ) (x : X) (xs : List X) → comma_separated (map g (x ∷ xs)) ≡ g x ++ flat_map (λ t. codes ", " ++ g t) xs
commas g x [] = sym (append-nil (g x))
commas g x (y ∷ xs) =
    ap (λ u. g x ++ codes ", " ++ u) (commas g y xs) ∙ append_assoc (g x) (codes ", ") (g y ++ flat_map (λ t. codes ", " ++ g t) xs)
    ∙ ap (λ u. g x ++ u) (sym (append_assoc (codes ", ") (g y) (flat_map (λ t. codes ", " ++ g t) xs)))

first_and_rest : {X : Type 0} (xs : List X) (d : X) → 0 < length xs → xs ≡ get_or xs 0 d ∷ drop 1 xs
first_and_rest [] d h = absurd (omega (arith, h))
first_and_rest (x ∷ xs) d h = refl

whole : {X : Type 0} (xs : List X) → take (length xs - 1) (drop 1 xs) ≡ drop 1 xs
whole xs = take_all (length xs - 1) (drop 1 xs) (let l = length-drop 1 xs in omega (arith, l))

-- the same of the first of a list, and those after it as a slice
pub comma_pieces : {X : Type 0} (g : X → List ℕ) (xs : List X) (d : X) (old mid new : List ℕ) → 0 < length xs → mid ≡ old ++ g (get_or xs 0 d) → new ≡ mid ++ flat_map (λ t. codes ", " ++ g t) (take (length xs - 1) (drop 1 xs))
    → new ≡ old ++ comma_separated (map g xs)
comma_pieces {X} g xs d old mid new h e f =
    let F : List X → List ℕ = λ ts. flat_map (λ t. codes ", " ++ g t) ts in
    f ∙ ap (λ u. mid ++ F u) (whole xs) ∙ ap (λ u. u ++ F (drop 1 xs)) e ∙ append_assoc old (g (get_or xs 0 d)) (F (drop 1 xs))
    ∙ ap (λ u. old ++ u) (sym (commas g (get_or xs 0 d) (drop 1 xs))) ∙ ap (λ ts. old ++ comma_separated (map g ts)) (sym (first_and_rest xs d h))
