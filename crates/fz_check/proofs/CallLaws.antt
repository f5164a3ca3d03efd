-- The arguments of a constraint, one by one.
use Rattle.std.proofs.Common.{◌≡◌, ℕ, suc, true, false, cond, ◌+◌, ◌<◌, ◌≤◌, List, [], ◌∷◌, ◌++◌, map, take, drop, length, get_or, refl, sym, ap, ap₂, ◌∙◌, append_assoc, append-nil}
use Rattle.std.specs.Prelude.{Result, Ok, Err, Some, None, MatchResult, slice_get, flat_map}
use Rattle.std.proofs.lemmas.List.{drop_more, drop_all, take_more, map-append}
use Rattle.fz_spec.specs.declared.asked.Asked.{Asked}
use Rattle.fz_spec.specs.Constraints as meaning
use Rattle.fz_spec.specs.Constraints.{Argument, fit_lengths, list_lengths}
use Rattle.fz_language.specs.declared.fault.RuleFault.TheVariants.{UnknownName, WrongType, WrongLengths}
use Rattle.fz_language.specs.Trees.{Expression, ConstraintItem}
use Rattle.fz_language.specs.Entries.{Environment, resolve}
use Rattle.fz_language.specs.Annotations.{asks_whole}
use Rattle.fz_language.specs.Rules.{Fault, wrong_place, wrong_arguments, arguments_in, at_places, unknown_of, signature_faults}
use Rattle.fz_spec.specs.Signatures.{Row, signature_of}
use Rattle.fz_resolve.specs.declared.fault.Fault as found
use Rattle.fz_check.specs.Calls.{IsSigned, IsRowed, AreArguments, wrong_lengths}
use Rattle.fz_check.specs.Checked.{IsFirstFault}
use Rattle.fz_check.proofs.FaultLaws.{first_front, first_at, behind_none, no_first}

-- ---- lengths

lengths_both : (xs ys : List Argument) → list_lengths (xs ++ ys) ≡ list_lengths xs ++ list_lengths ys
lengths_both [] ys = refl
lengths_both (meaning.One t ∷ xs) ys = lengths_both xs ys
lengths_both (meaning.Numbers ns ∷ xs) ys = ap (λ l. length ns ∷ l) (lengths_both xs ys)
lengths_both (meaning.Terms ts ∷ xs) ys = ap (λ l. length ts ∷ l) (lengths_both xs ys)
lengths_both (meaning.Set s ∷ xs) ys = lengths_both xs ys

pub lengths_more : {X : Type 0} (f : X → Argument) (xs : List X) (i : ℕ) (x : X) → i < length xs → x ≡ get_or xs i x → list_lengths (map f (take (i + 1) xs)) ≡ list_lengths (map f (take i xs)) ++ list_lengths (f x ∷ [])
lengths_more {X} f xs i x l is =
    ap (λ ys. list_lengths (map f ys)) (take_more xs i x l) ∙ ap list_lengths (map-append f (take i xs) (get_or xs i x ∷ []))
    ∙ lengths_both (map f (take i xs)) (f (get_or xs i x) ∷ []) ∙ ap (λ (y : X). list_lengths (map f (take i xs)) ++ list_lengths (f y ∷ [])) (sym is)

-- ---- arguments

pub record SoFar {X : Type 0} (env : Environment) (f : X → Expression) (sig : List Asked) (xs : List X) (i : ℕ) (made : List Argument) : Type 0 where
  pub wrong : wrong_arguments env sig (map f xs) ≡ wrong_arguments env (drop i sig) (map f (drop i xs))
  pub are : arguments_in env sig (map f xs) ≡ made ++ arguments_in env (drop i sig) (map f (drop i xs))

abbrev one_more : Environment → List Asked → List Expression → Result Argument ℕ → List Argument
one_more env rest es r = elim r [ Ok argument ↦ argument ∷ arguments_in env rest es | Err at ↦ arguments_in env rest es ]

module _ {X : Type 0} (env : Environment) (f : X → Expression) (sig : List Asked) (xs : List X) (i : ℕ) (a : Asked) (x : X) (inside : i < length sig) (within : i < length xs) (is : x ≡ get_or xs i x) where
  rest_of : drop i xs ≡ x ∷ drop (i + 1) xs
  rest_of = drop_more xs i x within ∙ ap (λ (y : X). y ∷ drop (i + 1) xs) (sym is)

  wrong_here : wrong_arguments env (drop i sig) (map f (drop i xs)) ≡ wrong_place (resolve env (get_or sig i a) (f x)) ++ wrong_arguments env (drop (i + 1) sig) (map f (drop (i + 1) xs))
  wrong_here = ap₂ (λ (s : List Asked) (ys : List X). wrong_arguments env s (map f ys)) (drop_more sig i a inside) rest_of

  made_here : arguments_in env (drop i sig) (map f (drop i xs)) ≡ one_more env (drop (i + 1) sig) (map f (drop (i + 1) xs)) (resolve env (get_or sig i a) (f x))
  made_here = ap₂ (λ (s : List Asked) (ys : List X). arguments_in env s (map f ys)) (drop_more sig i a inside) rest_of

  pub one_argument : (made : List Argument) (argument : Argument) → Ok argument ≡ resolve env (get_or sig i a) (f x) → SoFar env f sig xs i made → SoFar env f sig xs (i + 1) (made ++ argument ∷ [])
  one_argument made argument e so = record {
    wrong = so.wrong ∙ wrong_here ∙ ap (λ r. wrong_place r ++ wrong_arguments env (drop (i + 1) sig) (map f (drop (i + 1) xs))) (sym e);
    are =
        so.are ∙ ap (λ u. made ++ u) (made_here ∙ ap (one_more env (drop (i + 1) sig) (map f (drop (i + 1) xs))) (sym e))
        ∙ sym (append_assoc made (argument ∷ []) (arguments_in env (drop (i + 1) sig) (map f (drop (i + 1) xs))));
  }

  pub wrong_argument : (made : List Argument) (at : ℕ) → Err at ≡ resolve env (get_or sig i a) (f x) → SoFar env f sig xs i made → slice_get (wrong_arguments env sig (map f xs)) 0 ≡ Some at
  wrong_argument made at e so =
      ap (λ u. slice_get u 0) (so.wrong ∙ wrong_here ∙ ap (λ r. wrong_place r ++ wrong_arguments env (drop (i + 1) sig) (map f (drop (i + 1) xs))) (sym e))

pub record Whole {X : Type 0} (env : Environment) (f : X → Expression) (sig : List Asked) (xs : List X) (made : List Argument) : Type 0 where
  pub right : wrong_arguments env sig (map f xs) ≡ []
  pub all : made ≡ arguments_in env sig (map f xs)

pub all_arguments : {X : Type 0} (env : Environment) (f : X → Expression) (sig : List Asked) (xs : List X) (i : ℕ) (made : List Argument) → length sig ≤ i → SoFar env f sig xs i made → Whole env f sig xs made
all_arguments env f sig xs i made end so =
    let none = drop_all i sig end in
    record {
      right = so.wrong ∙ ap (λ (s : List Asked). wrong_arguments env s (map f (drop i xs))) none;
      all = sym (so.are ∙ ap (λ (s : List Asked). made ++ arguments_in env s (map f (drop i xs))) none ∙ append-nil made);
    }

-- ---- faults in a row

pub regrouped : (u n w l : List Fault) → (u ++ n) ++ (w ++ l) ≡ u ++ ((n ++ w) ++ l)
regrouped u n w l = simp append_assoc

-- ---- a constraint of arguments of the right types

pub right_typed : (others : List Fault) (row : Row) (at : ℕ) (arguments : List Argument) → slice_get others 0 ≡ None → fit_lengths row.lengths arguments ≡ true → others ++ wrong_lengths row at arguments ≡ []
right_typed others row at arguments e h =
    ap (λ (u : List Fault). u ++ wrong_lengths row at arguments) (no_first others e) ∙ ap (λ b. at_places WrongLengths (cond b [] (at ∷ []))) h

pub wrong_typed : (others : List Fault) (row : Row) (at : ℕ) (arguments : List Argument) → slice_get others 0 ≡ None → fit_lengths row.lengths arguments ≡ false
    → slice_get (others ++ wrong_lengths row at arguments) 0 ≡ Some (record { rule = WrongLengths; at = at })
wrong_typed others row at arguments e h =
    behind_none others (wrong_lengths row at arguments) e ∙ ap (λ b. slice_get (at_places WrongLengths (cond b [] (at ∷ []))) 0) h

abbrev pub unknown_names : Environment → ConstraintItem → List Fault
unknown_names env c = at_places UnknownName (flat_map (unknown_of env) c.arguments)

-- the faults of a signature, where all arguments are of the right types
faults_are : (others : List Fault) (env : Environment) (c : ConstraintItem) (row : Row) (signature : List Asked) (arguments : List Argument) → wrong_arguments env signature c.arguments ≡ [] → arguments ≡ arguments_in env signature c.arguments
    → (others ++ unknown_names env c) ++ wrong_lengths row c.name.at arguments ≡ others ++ signature_faults env c row (Some signature)
faults_are others env c row signature arguments right are =
    ap₂ (λ (w : List ℕ) (xs : List Argument). (others ++ unknown_names env c) ++ (at_places WrongType w ++ wrong_lengths row c.name.at xs)) (sym right) are
    ∙ regrouped others (unknown_names env c) (at_places WrongType (wrong_arguments env signature c.arguments)) (wrong_lengths row c.name.at (arguments_in env signature c.arguments))

pub signed_typed : (others : List Fault) (env : Environment) (c : ConstraintItem) (row : Row) (signature : List Asked) (arguments : List Argument) (r : Result meaning.Constraint found.Fault)
    → AreArguments env signature c.arguments (Ok arguments)
    → MatchResult r (λ m. ((others ++ unknown_names env c) ++ wrong_lengths row c.name.at arguments ≡ []) × (m ≡ record { name = row.builtin; arguments = arguments; whole = asks_whole c.annotations }))
    (IsFirstFault ((others ++ unknown_names env c) ++ wrong_lengths row c.name.at arguments))
    → IsSigned others env c row signature r
signed_typed others env c row signature arguments (Ok m) a h =
    (sym (faults_are others env c row signature arguments a.0 a.1) ∙ h.0, h.1 ∙ ap (λ (xs : List Argument). record { name = row.builtin; arguments = xs; whole = asks_whole c.annotations }) a.1)
signed_typed others env c row signature arguments (Err f) a h = ap (λ (l : List Fault). slice_get l 0) (sym (faults_are others env c row signature arguments a.0 a.1)) ∙ h

pub signed_wrong : (others : List Fault) (env : Environment) (c : ConstraintItem) (row : Row) (signature : List Asked) (at : ℕ) (f : found.Fault) → AreArguments env signature c.arguments (Err at)
    → ((rest : List Fault) → IsFirstFault (at_places WrongType (wrong_arguments env signature c.arguments) ++ rest) (record { rule = WrongType; at = at }) → IsFirstFault ((others ++ unknown_names env c) ++ (at_places WrongType (wrong_arguments env signature c.arguments) ++ rest)) f)
    → IsFirstFault (others ++ signature_faults env c row (Some signature)) f
signed_wrong others env c row signature at f a h =
    let wrong = at_places WrongType (wrong_arguments env signature c.arguments) in
    let long = wrong_lengths row c.name.at (arguments_in env signature c.arguments) in
    ap (λ (l : List Fault). slice_get l 0) (sym (regrouped others (unknown_names env c) wrong long))
    ∙ h long (first_front wrong long (record { rule = WrongType; at = at }) (first_at WrongType (wrong_arguments env signature c.arguments) at a))

-- ---- a constraint of a row

pub rowed_signed : (others : List Fault) (env : Environment) (c : ConstraintItem) (row : Row) (signature : List Asked) (r : Result meaning.Constraint found.Fault) → signature_of row (length c.arguments) ≡ Some signature → IsSigned others env c row signature r → IsRowed others env c row r
rowed_signed others env c row signature (Ok m) e h = (ap (λ o. others ++ signature_faults env c row o) e ∙ h.0, (signature, e, h.1))
rowed_signed others env c row signature (Err f) e h = ap (λ o. slice_get (others ++ signature_faults env c row o) 0) e ∙ h

pub length_of_map : {X Y : Type 0} (f : X → Y) (xs : List X) → length (map f xs) ≡ length xs
length_of_map f [] = refl
length_of_map f (x ∷ xs) = ap (λ n. suc n) (length_of_map f xs)
