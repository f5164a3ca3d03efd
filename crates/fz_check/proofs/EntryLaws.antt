-- What an array stands for, by what its elements are.
use Rattle.std.proofs.Common.{◌≡◌, ℕ, Bool, true, false, ◌<◌, zero, suc, List, [], ◌∷◌, map, length, get_or, refl, sym, ap, subst, arith}
use Rattle.std.specs.Prelude.{Some, Result, Ok, Err, MatchResult, slice_get, ℤ}
use Rattle.std.specs.List.{AllByRecursion}
use Rattle.fz_language.specs.Trees.{ArrayItem, Plain, ValueType, One, SetOf}
use Rattle.fz_language.specs.Entries.{Environment, with_value, term_in, set_of, each_of, number_of}
use Rattle.fz_language.specs.Entries as entries
use Rattle.fz_language.specs.Rules.{kind_of, wrong_place, wrong_element}
use Rattle.fz_language.specs.Models.{array_entry}
use Rattle.fz_spec.specs.declared.kind.Kind.{Kind}
use Rattle.fz_spec.specs.declared.term.Term.{Term}
use Rattle.fz_spec.specs.declared.asked.Element.{Element}
use Rattle.fz_check.specs.Entered.{IsArrayEntry}
use Rattle.fz_resolve.specs.declared.entry.Entry.{Entry}
use Rattle.fz_resolve.specs.Meant.{meant}

pub from_value : {X : Type 0} (f : List X → entries.Entry) (r : Result Entry ℕ) (o : Result (List X) ℕ) → with_value meant r ≡ with_value f o
    → MatchResult r (λ entry. (wrong_place o ≡ []) × (meant entry ≡ f (elim o [ Ok xs ↦ xs | Err at ↦ [] ]))) (λ at. Some at ≡ slice_get (wrong_place o) 0)
from_value f (Ok entry) (Ok xs) e = (refl, cc)
from_value f (Ok entry) (Err at) e = cc
from_value f (Err at) (Ok xs) e = cc
from_value f (Err at) (Err place) e = let is : at ≡ place = cc in ap Some is

-- what holds of all holds of the one that is read
pub at_item : {X Y : Type 0} (P : Y → Type 0) (f : X → Y) (xs : List X) (i : ℕ) (x : X) → AllByRecursion P (map f xs) → i < length xs → x ≡ get_or xs i x → P (f x)
at_item {X} P f xs i x h l is = subst (λ (y : X). P (f y)) (sym is) (go xs i x h l)
  where
    go : (ys : List X) (k : ℕ) (d : X) → AllByRecursion P (map f ys) → k < length ys → P (f (get_or ys k d))
    go [] k d h l = absurd (omega (arith, l))
    go (y ∷ ys) zero d h l = h.0
    go (y ∷ ys) (suc k) d h l = go ys k d h.1 (omega (arith, l))

-- ---- arrays

abbrev EnteredAs : Environment → ArrayItem → Bool → ValueType → Result Entry ℕ → Type 0
EnteredAs env a variable t made =
    MatchResult made (λ entry. (wrong_element env variable t a.list ≡ []) × (meant entry ≡ array_entry env a variable t)) (λ at. Some at ≡ slice_get (wrong_element env variable t a.list) 0)

abbrev element : Kind → Bool → Element
element kind may_vary = record { kind = kind; may_vary = may_vary }

pub terms_are : (env : Environment) (a : ArrayItem) (kind : Kind) (r : Result Entry ℕ) → kind ≡ kind_of a.value_type → a.variable ≡ true
    → with_value meant r ≡ with_value (λ (ts : List Term). entries.Terms kind ts) (each_of (term_in env (element kind true)) a.list.elements) → IsArrayEntry env a r
terms_are env a kind r k v e =
    let f = subst (λ (j : Kind). with_value meant r ≡ with_value (λ (ts : List Term). entries.Terms j ts) (each_of (term_in env (element j true)) a.list.elements)) k e in
    subst (λ (x : Bool). EnteredAs env a x a.value_type r) (sym v) (from_value (λ (ts : List Term). entries.Terms (kind_of a.value_type) ts) r (each_of (term_in env (element (kind_of a.value_type) true)) a.list.elements) f)

numbers_of_type : (env : Environment) (a : ArrayItem) (t : ValueType) (plain : Plain) (r : Result Entry ℕ) → t ≡ One plain
    → with_value meant r ≡ with_value (λ (ts : List Term). entries.Numbers (kind_of t) (map number_of ts)) (each_of (term_in env (element (kind_of t) false)) a.list.elements) → EnteredAs env a false t r
numbers_of_type env a t plain r is e =
    let e1 = subst (λ (u : ValueType). with_value meant r ≡ with_value (λ (ts : List Term). entries.Numbers (kind_of u) (map number_of ts)) (each_of (term_in env (element (kind_of u) false)) a.list.elements)) is e in
    subst (λ (u : ValueType). EnteredAs env a false u r) (sym is)
    (from_value (λ (ts : List Term). entries.Numbers (kind_of (One plain)) (map number_of ts)) r (each_of (term_in env (element (kind_of (One plain)) false)) a.list.elements) e1)

pub numbers_are : (env : Environment) (a : ArrayItem) (kind : Kind) (plain : Plain) (r : Result Entry ℕ) → kind ≡ kind_of a.value_type → a.variable ≡ false → a.value_type ≡ One plain
    → with_value meant r ≡ with_value (λ (ts : List Term). entries.Numbers kind (map number_of ts)) (each_of (term_in env (element kind false)) a.list.elements) → IsArrayEntry env a r
numbers_are env a kind plain r k v t e =
    let f = subst (λ (j : Kind). with_value meant r ≡ with_value (λ (ts : List Term). entries.Numbers j (map number_of ts)) (each_of (term_in env (element j false)) a.list.elements)) k e in
    subst (λ (x : Bool). EnteredAs env a x a.value_type r) (sym v) (numbers_of_type env a a.value_type plain r t f)

pub sets_are : (env : Environment) (a : ArrayItem) (at : ℕ) (plain : Plain) (r : Result Entry ℕ) → a.variable ≡ false → a.value_type ≡ SetOf at plain
    → with_value meant r ≡ with_value (λ (ss : List (List (ℤ × ℤ))). entries.Sets) (each_of (set_of env) a.list.elements) → IsArrayEntry env a r
sets_are env a at plain r v t e =
    subst (λ (x : Bool). EnteredAs env a x a.value_type r) (sym v)
    (subst (λ (u : ValueType). EnteredAs env a false u r) (sym t) (from_value (λ (ss : List (List (ℤ × ℤ))). entries.Sets) r (each_of (set_of env) a.list.elements) e))
