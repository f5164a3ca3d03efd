-- The variables of a constraint, one by one: which have no number, and which have one that is written.
use Rattle.std.proofs.Common.{◌≡◌, inl, inr, ℕ, zero, suc, ◌+◌, ◌<◌, ◌≤◌, List, [], ◌∷◌, ◌++◌, refl, sym, ap, subst, ◌∙◌, arith, length, set, take, get_or, map, add-one}
use Rattle.std.specs.Prelude.{ℤ, pos, flat_map}
use Rattle.std.specs.List.{AllByRecursion}
use Rattle.fz_sets.proofs.Lists.{all_more, beyond, same_at}
use Rattle.fz_refutes.specs.Boxes.{set_at}
use Rattle.fz_refutes.specs.Refuted.{IsEmptyAmong, variable_of, variables_of}
use Rattle.fz_spec.specs.Constraints.{Argument, term_value, terms_of}
use Rattle.fz_spec.specs.declared.term.Term.TheVariants.{Var}
use Rattle.fz_sets.specs.Sets.{single}
use Rattle.fz_dom.specs.Shape.{least}
use Rattle.fz_spec.specs.declared.term.Term.{Term}
use Rattle.std.proofs.lemmas.Bool.{cases_eq}
use Rattle.fz_refutes.specs.Smalls.{HasFixed}
use Rattle.fz_refutes.proofs.Agreeing.{value_put, value_kept}

-- each has its number, and there is room for one of each variable
pub record AreFixed (box : List (List (ℤ × ℤ))) (a : List ℤ) (vs : List ℕ) : Type 0 where
  pub room : length a ≡ length box
  pub fixed : AllByRecursion (HasFixed box a) vs

each_stays : (box : List (List (ℤ × ℤ))) (a b : List ℤ) (vs : List ℕ) → ((v : ℕ) → HasFixed box a v → HasFixed box b v) → AllByRecursion (HasFixed box a) vs → AllByRecursion (HasFixed box b) vs
each_stays box a b [] keeps all = tt
each_stays box a b (v ∷ vs) keeps all = (keeps v all.0, each_stays box a b vs keeps all.1)

pub fixed_more : (box : List (List (ℤ × ℤ))) (a b : List ℤ) (vs : List ℕ) (i v : ℕ) → i < length vs → v ≡ get_or vs i v → AreFixed box a (take i vs) → length b ≡ length box
    → HasFixed box b v → ((u : ℕ) → HasFixed box a u → HasFixed box b u) → AreFixed box b (take (i + 1) vs)
fixed_more box a b vs i v within is so_far room here keeps = record {
  room = room;
  fixed = rw add-one (all_more (HasFixed box b) vs i v within (each_stays box a b (take i vs) keeps so_far.fixed) (subst (HasFixed box b) is here));
}

-- ---- which have no number

pub none_more : (box : List (List (ℤ × ℤ))) (vs : List ℕ) (i v : ℕ) → i < length vs → v ≡ get_or vs i v → (set_at box v ≡ [] → ⊥) → (IsEmptyAmong box (take i vs) → ⊥) → IsEmptyAmong box (take (i + 1) vs) → ⊥
none_more box vs i v within is some none = rw add-one (later vs i v within is some none)
  where
    later : (us : List ℕ) (k u : ℕ) → k < length us → u ≡ get_or us k u → (set_at box u ≡ [] → ⊥) → (IsEmptyAmong box (take k us) → ⊥) → IsEmptyAmong box (take (suc k) us) → ⊥
    later [] k u below at full so_far e = absurd (omega (arith, below))
    later (w ∷ ws) zero u below at full so_far (inl e) = full (subst (λ (x : ℕ). set_at box x ≡ []) (sym at) e)
    later (w ∷ ws) zero u below at full so_far (inr e) = e
    later (w ∷ ws) (suc k) u below at full so_far (inl e) = so_far (inl e)
    later (w ∷ ws) (suc k) u below at full so_far (inr e) = later ws k u (omega (arith, below)) at full (λ f. so_far (inr f)) e

pub one_empty : (box : List (List (ℤ × ℤ))) (vs : List ℕ) (i v : ℕ) → i < length vs → v ≡ get_or vs i v → set_at box v ≡ [] → IsEmptyAmong box vs
one_empty box [] i v within is e = absurd (omega (arith, within))
one_empty box (w ∷ ws) zero v within is e = inl (subst (λ (x : ℕ). set_at box x ≡ []) is e)
one_empty box (w ∷ ws) (suc i) v within is e = inr (one_empty box ws i v (omega (arith, within)) is e)

-- ---- lists of lists

pub mapped : {X Y Z : Type 0} (f : Y → List Z) (g : X → Y) (xs : List X) → flat_map f (map g xs) ≡ flat_map (λ (x : X). f (g x)) xs
mapped f g [] = refl
mapped {X} {Y} {Z} f g (x ∷ xs) = ap (λ (zs : List Z). f (g x) ++ zs) (mapped f g xs)

pub all_variables : {X : Type 0} (g : X → Argument) (xs : List X) (arguments : List Argument) (terms : List Term) (variables : List ℕ) → map g xs ≡ arguments → terms ≡ flat_map (λ (x : X). terms_of (g x)) xs
    → variables ≡ flat_map variable_of terms → variables ≡ variables_of arguments
all_variables g xs arguments terms variables is terms_are variables_are =
    variables_are ∙ ap (λ (ts : List Term). flat_map variable_of ts) (terms_are ∙ sym (mapped terms_of g xs) ∙ ap (λ (us : List Argument). flat_map terms_of us) is)

-- ---- a variable that there isn't

no_value : (a : List ℤ) (v : ℕ) → length a ≤ v → term_value a (Var v) ≡ pos 0
no_value [] v out = refl
no_value (x ∷ xs) zero out = absurd (omega (arith, out))
no_value (x ∷ xs) (suc v) out = no_value xs v (omega (arith, out))

pub fixed_beyond : (box : List (List (ℤ × ℤ))) (a : List ℤ) (v : ℕ) → length a ≡ length box → length box ≤ v → HasFixed box a v
fixed_beyond box a v room out = λ x is. no_value a v (omega (arith, room, out)) ∙ ap least (sym (beyond box v (single (pos 0)) out) ∙ is)

-- ---- a number that is written

pub read_is : (sets box : List (List (ℤ × ℤ))) (v : ℕ) (d : List (ℤ × ℤ)) → sets ≡ box → v < length box → d ≡ get_or sets v d → d ≡ set_at box v
read_is sets box v d are within is = is ∙ ap (λ (ds : List (List (ℤ × ℤ))). get_or ds v d) are ∙ same_at box v d (single (pos 0)) within

pub fixed_put : (box : List (List (ℤ × ℤ))) (a : List ℤ) (v : ℕ) (n : ℤ) → v < length a → n ≡ least (set_at box v) → HasFixed box (set a v n) v
fixed_put box a v n within is = λ x only. value_put a v n within ∙ is ∙ ap least only

pub fixed_others : (box : List (List (ℤ × ℤ))) (a : List ℤ) (w : ℕ) (n : ℤ) → w < length a → n ≡ least (set_at box w) → (v : ℕ) → HasFixed box a v → HasFixed box (set a w n) v
fixed_others box a w n within is v fixed = elim (cases_eq w v) [
  | inl e ↦ subst (λ (u : ℕ). HasFixed box (set a w n) u) e (fixed_put box a w n within is)
  | inr ne ↦ λ x only. value_kept a w v n ne ∙ fixed x only
]
