-- Terms of an environment whose entries fit.
use Rattle.std.proofs.Common.{◌≡◌, ℕ, suc, ◌≤◌, ℤ, Bool, true, false, cond, Option, Some, None, List, [], ◌∷◌, length, map, refl, sym, ap, ◌∙◌, subst, arith, rules}
use Rattle.std.specs.Prelude.{Ok}
use Rattle.std.specs.List.{AllByRecursion}
use Rattle.std.proofs.lemmas.Int.{ints}
use Rattle.fz_spec.specs.declared.limits.TheConstants.{ELEMENT_LIMIT}
use Rattle.fz_spec.specs.declared.kind.Kind.{Kind}
use Rattle.fz_spec.specs.declared.kind.Kind.TheVariants as kinds
use Rattle.fz_spec.specs.declared.term.Term.{Term}
use Rattle.fz_spec.specs.declared.term.Term.TheVariants.{Num, Var}
use Rattle.fz_spec.specs.declared.asked.Element.{Element}
use Rattle.fz_spec.specs.Constraints as meaning
use Rattle.fz_spec.specs.Instance.{Variable}
use Rattle.fz_language.specs.Trees.{Name, Basic, Truth, Numeral, Literal, Named, Whole, Float, basic_at}
use Rattle.fz_language.specs.Entries.{Environment, Entry, of_kind, named, entry_term, entry_list, truth_value, term_in, each_of, before, number_of, list_argument}
use Rattle.fz_language.specs.Entries as entries
use Rattle.fz_language.specs.Within.{BasicFits}
use Rattle.fz_model.specs.Kept.{IsNumberOf, IsTermOf, FitsElement, FitsList, kind_at}
use Rattle.fz_language.proofs.Each.{ok_is, part}
use Rattle.fz_check.specs.Fits.{EntryFits, Sound}
use Rattle.std.proofs.lemmas.List.{length-map}

record OfKind {X : Type 0} (wanted kind : Kind) (x y : X) : Type 0 where
  kind_is : wanted ≡ kind
  is : x ≡ y

of_kind_is : {X : Type 0} (wanted kind : Kind) (x y : X) → of_kind wanted kind x ≡ Some y → OfKind wanted kind x y
of_kind_is kinds.Bool kinds.Bool x y e = record { kind_is = refl; is = cc }
of_kind_is kinds.Int kinds.Int x y e = record { kind_is = refl; is = cc }
of_kind_is kinds.Bool kinds.Int x y e = cc
of_kind_is kinds.Int kinds.Bool x y e = cc

num_fits : (vs : List Variable) (e : Element) (k : Kind) (n : ℤ) (t : Term) → IsNumberOf k n → of_kind e.kind k (Num n) ≡ Some t → FitsElement vs e t
num_fits vs e k n t h o =
    let w = of_kind_is e.kind k (Num n) t o in
    subst (FitsElement vs e) w.is (subst (λ (j : Kind). IsNumberOf j n) (sym w.kind_is) h)

var_fits : (vs : List Variable) (e : Element) (k : Kind) (v : ℕ) (t : Term) (b : Bool) → e.may_vary ≡ b → kind_at vs v ≡ Some k → cond b (of_kind e.kind k (Var v)) None ≡ Some t → FitsElement vs e t
var_fits vs e k v t true m h o =
    let w = of_kind_is e.kind k (Var v) t o in
    subst (FitsElement vs e) w.is (m, h ∙ ap Some (sym w.kind_is))
var_fits vs e k v t false m h o = cc

entry_term_fits : (vs : List Variable) (e : Element) (entry : Entry) (t : Term) → EntryFits vs entry → entry_term e entry ≡ Some t → FitsElement vs e t
entry_term_fits vs e (entries.Value kind value) t h o = num_fits vs e kind value t h o
entry_term_fits vs e (entries.Variable kind number) t h o = var_fits vs e kind number t e.may_vary refl h o
entry_term_fits vs e (entries.Set set) t h o = cc
entry_term_fits vs e (entries.Numbers kind ns) t h o = cc
entry_term_fits vs e (entries.Terms kind ts) t h o = cc
entry_term_fits vs e entries.Sets t h o = cc

-- the entry of a name that is what is asked
pub record Found {X : Type 0} (o : Option Entry) (what : Entry → Option X) (x : X) : Type 0 where
  pub entry : Entry
  pub is : o ≡ Some entry
  pub gives : what entry ≡ Some x

found_in : {X : Type 0} (o : Option Entry) (what : Entry → Option X) (x : X) → elim o [ Some entry ↦ what entry | None ↦ None ] ≡ Some x → Found o what x
found_in (Some entry) what x e = record { entry = entry; is = refl; gives = e }
found_in None what x e = cc

pub found_named : {X : Type 0} (env : Environment) (what : Entry → Option X) (name : Name) (x : X) → named env what name ≡ Some x → Found (env name.bytes) what x
found_named env what name x e = found_in (env name.bytes) what x e

truth_fits : (b : Bool) → IsNumberOf kinds.Bool (truth_value b)
truth_fits true = search (rules, ints)
truth_fits false = search (rules, ints)

pub term_fits : (vs : List Variable) (env : Environment) (e : Element) (b : Basic) (t : Term) → Sound vs env → BasicFits b → term_in env e b ≡ Some t → FitsElement vs e t
term_fits vs env e (Truth value at) t s h o = num_fits vs e kinds.Bool (truth_value value) t (truth_fits value) o
term_fits vs env e (Numeral (Whole integer)) t s h o = num_fits vs e kinds.Int integer.value t h o
term_fits vs env e (Numeral (Float at)) t s h o = cc
term_fits vs env e (Literal set) t s h o = cc
term_fits vs env e (Named name) t s h o =
    let f = found_named env (entry_term e) name t o in
    entry_term_fits vs e f.entry t (s name.bytes f.entry f.is) f.gives

-- ---- lists of terms

pub record TermsFit (vs : List Variable) (e : Element) (bs : List Basic) (ts : List Term) : Type 0 where
  pub all : AllByRecursion (FitsElement vs e) ts
  pub count : length ts ≡ length bs

pub terms_fit : (vs : List Variable) (env : Environment) (e : Element) (bs : List Basic) (ts : List Term) → Sound vs env → AllByRecursion BasicFits bs → each_of (term_in env e) bs ≡ Ok ts → TermsFit vs e bs ts
terms_fit vs env e [] ts s h o =
    let is = ok_is [] ts o in
    subst (TermsFit vs e []) is (record { all = tt; count = refl })
terms_fit vs env e (b ∷ bs) ts s h o =
    let p = part (term_in env e b) (each_of (term_in env e) bs) (basic_at b) ts o in
    let rest = terms_fit vs env e bs p.others s h.1 p.others_are in
    subst (TermsFit vs e (b ∷ bs)) (sym p.whole) (record { all = (term_fits vs env e b p.first s h.0 p.first_is, rest.all); count = ap (λ n. suc n) rest.count })

-- ---- arguments that are lists

abbrev element : Kind → Bool → Element
element kind may_vary = record { kind = kind; may_vary = may_vary }

is_term : (vs : List Variable) (kind : Kind) (may_vary : Bool) (t : Term) → FitsElement vs (element kind may_vary) t → IsTermOf vs kind t
is_term vs kind may_vary (Num n) h = h
is_term vs kind may_vary (Var v) h = h.1

pub are_terms : (vs : List Variable) (kind : Kind) (may_vary : Bool) (ts : List Term) → AllByRecursion (FitsElement vs (element kind may_vary)) ts → AllByRecursion (IsTermOf vs kind) ts
are_terms vs kind may_vary [] h = tt
are_terms vs kind may_vary (t ∷ ts) h = (is_term vs kind may_vary t h.0, are_terms vs kind may_vary ts h.1)

pub is_number : (vs : List Variable) (kind : Kind) (t : Term) → FitsElement vs (element kind false) t → IsNumberOf kind (number_of t)
is_number vs kind (Num n) h = h
is_number vs kind (Var v) h = let e : false ≡ true = h.0 in cc

pub are_numbers : (vs : List Variable) (kind : Kind) (ts : List Term) → AllByRecursion (FitsElement vs (element kind false)) ts → AllByRecursion (IsNumberOf kind) (map number_of ts)
are_numbers vs kind [] h = tt
are_numbers vs kind (t ∷ ts) h = (is_number vs kind t h.0, are_numbers vs kind ts h.1)

pub list_fits : (vs : List Variable) (kind : Kind) (may_vary : Bool) (ts : List Term) → length ts ≤ ELEMENT_LIMIT → AllByRecursion (FitsElement vs (element kind may_vary)) ts
    → FitsList vs kind may_vary (list_argument (element kind may_vary) ts)
list_fits vs kind true ts few h = (few, are_terms vs kind true ts h)
list_fits vs kind false ts few h = (omega (arith, few, length-map ts number_of), are_numbers vs kind ts h)

nums_fit : (vs : List Variable) (kind : Kind) (ns : List ℤ) → AllByRecursion (IsNumberOf kind) ns → AllByRecursion (IsTermOf vs kind) (map Num ns)
nums_fit vs kind [] h = tt
nums_fit vs kind (n ∷ ns) h = (h.0, nums_fit vs kind ns h.1)

length_nums : (ns : List ℤ) → length (map Num ns) ≡ length ns
length_nums [] = refl
length_nums (n ∷ ns) = ap (λ m. suc m) (length_nums ns)

pub entry_list_fits : (vs : List Variable) (kind : Kind) (may_vary : Bool) (entry : Entry) (a : meaning.Argument) → EntryFits vs entry → entry_list (element kind may_vary) entry ≡ Some a → FitsList vs kind may_vary a
entry_list_fits vs kind true (entries.Numbers k ns) a h o =
    let w = of_kind_is kind k (meaning.Terms (map Num ns)) a o in
    subst (FitsList vs kind true) w.is (subst (λ (j : Kind). FitsList vs j true (meaning.Terms (map Num ns))) (sym w.kind_is) (omega (arith, h.0, length_nums ns), nums_fit vs k ns h.1))
entry_list_fits vs kind false (entries.Numbers k ns) a h o =
    let w = of_kind_is kind k (meaning.Numbers ns) a o in
    subst (FitsList vs kind false) w.is (subst (λ (j : Kind). FitsList vs j false (meaning.Numbers ns)) (sym w.kind_is) h)
entry_list_fits vs kind true (entries.Terms k ts) a h o =
    let w = of_kind_is kind k (meaning.Terms ts) a o in
    subst (FitsList vs kind true) w.is (subst (λ (j : Kind). FitsList vs j true (meaning.Terms ts)) (sym w.kind_is) h)
entry_list_fits vs kind false (entries.Terms k ts) a h o = cc
entry_list_fits vs kind may_vary (entries.Value k value) a h o = cc
entry_list_fits vs kind may_vary (entries.Variable k number) a h o = cc
entry_list_fits vs kind may_vary (entries.Set set) a h o = cc
entry_list_fits vs kind may_vary entries.Sets a h o = cc
