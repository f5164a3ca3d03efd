-- The satisfying assignments of all parts together are those of the model.
use Rattle.std.proofs.Common.{◌≡◌, ◌∙◌, List, [], ◌∷◌, refl, sym, subst, arith, Bool, true, false}
use Rattle.std.specs.Prelude.{ℤ, flat_map}
use Rattle.std.specs.List.{AllByRecursion, AllZip, count_by}
use Rattle.fz_sets.proofs.Lists.{all_both}
use Rattle.fz_spec.specs.Instance.{Instance, Satisfies, Lists, occurrences, is_same}
use Rattle.fz_tree.specs.declared.decision.Decision.{Decision}
use Rattle.fz_tree.proofs.Counts.{one_if, count_cons, count_append}
use Rattle.fz_tree.proofs.Same.{differ}
use Rattle.fz_part.specs.Parts.{IsPartOf, is_in_part, AreParts, with_part}
use Rattle.fz_part.proofs.Meeting.{with_part_in}

-- ---- how often an assignment is listed in a part

not_in : (m : Instance) (p : List Decision) (a x : List ℤ) → IsPartOf m p → is_in_part a p ≡ false → Satisfies (with_part m p) x → a ≡ x → ⊥
not_in m p a x of_model out satisfies same =
    let inside = ((with_part_in m p a of_model).0 (subst (Satisfies (with_part m p)) (sym same) satisfies)).1 in
    let bad : true ≡ false = sym inside ∙ out in cc

none_of : (m : Instance) (p : List Decision) (a : List ℤ) (l : List (List ℤ)) → IsPartOf m p → is_in_part a p ≡ false → AllByRecursion (Satisfies (with_part m p)) l → occurrences a l ≡ 0
none_of m p a [] of_model out sound = refl
none_of m p a (x ∷ l) of_model out sound = omega (arith, count_cons (is_same a) x l, differ a x (not_in m p a x of_model out sound.0), none_of m p a l of_model out sound.1)

once : (m : Instance) (p : List Decision) (a : List ℤ) (l : List (List ℤ)) (b : Bool) → is_in_part a p ≡ b → IsPartOf m p → Satisfies m a → Lists (with_part m p) l → occurrences a l ≡ one_if b
once m p a l true is of_model satisfies lists = lists.each_once a ((with_part_in m p a of_model).1 (satisfies, is))
once m p a l false is of_model satisfies lists = none_of m p a l of_model is lists.sound

-- ---- in all of them

abbrev AllList : Instance → List (List Decision) → List (List (List ℤ)) → Type 0
AllList m ps ls = AllZip (λ (p : List Decision) (l : List (List ℤ)). Lists (with_part m p) l) ps ls

abbrev joined : List (List (List ℤ)) → List (List ℤ)
joined ls = flat_map (λ (l : List (List ℤ)). l) ls

times_joined : (m : Instance) (ps : List (List Decision)) (ls : List (List (List ℤ))) (a : List ℤ) → AllByRecursion (IsPartOf m) ps → Satisfies m a → AllList m ps ls → occurrences a (joined ls) ≡ count_by (is_in_part a) ps
times_joined m [] [] a of_model satisfies lists = refl
times_joined m [] (l ∷ ls) a of_model satisfies lists = absurd lists
times_joined m (p ∷ ps) [] a of_model satisfies lists = absurd lists
times_joined m (p ∷ ps) (l ∷ ls) a of_model satisfies lists =
    omega (arith, count_append (is_same a) l (joined ls), count_cons (is_in_part a) p ps, once m p a l (is_in_part a p) refl of_model.0 satisfies lists.0, times_joined m ps ls a of_model.1 satisfies lists.1)

sound_in : (m : Instance) (p : List Decision) (l : List (List ℤ)) → IsPartOf m p → AllByRecursion (Satisfies (with_part m p)) l → AllByRecursion (Satisfies m) l
sound_in m p [] of_model sound = tt
sound_in m p (x ∷ l) of_model sound = (((with_part_in m p x of_model).0 sound.0).0, sound_in m p l of_model sound.1)

all_sound : (m : Instance) (ps : List (List Decision)) (ls : List (List (List ℤ))) → AllByRecursion (IsPartOf m) ps → AllList m ps ls → AllByRecursion (Satisfies m) (joined ls)
all_sound m [] [] of_model lists = tt
all_sound m [] (l ∷ ls) of_model lists = absurd lists
all_sound m (p ∷ ps) [] of_model lists = absurd lists
all_sound m (p ∷ ps) (l ∷ ls) of_model lists = all_both (Satisfies m) l (joined ls) (sound_in m p l of_model.0 lists.0.sound) (all_sound m ps ls of_model.1 lists.1)

pub parts_list : (m : Instance) (ps : List (List Decision)) (ls : List (List (List ℤ))) → AreParts m ps → AllByRecursion (IsPartOf m) ps → AllZip (λ (p : List Decision) (l : List (List ℤ)). Lists (with_part m p) l) ps ls
    → Lists m (flat_map (λ (l : List (List ℤ)). l) ls)
parts_list m ps ls parts of_model lists = record {
  sound = all_sound m ps ls of_model lists;
  each_once = λ a satisfies. times_joined m ps ls a of_model satisfies lists ∙ parts a satisfies;
}
