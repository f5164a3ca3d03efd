-- The program of a knapsack keeps all rules.
use Rattle.std.proofs.Common.{◌≡◌, ◌≢◌, ℕ, zero, suc, ◌+◌, ◌<◌, ◌≤◌, inl, inr, Bool, true, false, cond, Option, Some, None, Ok, List, [], ◌∷◌, ◌++◌, length, bytes_eq, refl, ap, ◌∙◌, subst, arith}
use Rattle.std.specs.Prelude.{decimal, flat_map}
use Rattle.std.specs.Bool.{Decides}
use Rattle.std.proofs.lemmas.Bool.{cases_lt}
use Rattle.std.proofs.lemmas.Slice.Eq.{bytes_eq-Decides}
use Rattle.std.proofs.lemmas.Fmt.{decimal_injective}
use Rattle.fz_grammar.proofs.Lists.{tails}
use Rattle.fz_spec.specs.declared.kind.Kind.TheVariants as kinds
use Rattle.fz_spec.specs.declared.term.Term.{Term}
use Rattle.fz_spec.specs.declared.term.Term.TheVariants.{Num, Var}
use Rattle.fz_spec.specs.declared.asked.Element.{Element}
use Rattle.fz_language.specs.Trees.{Basic, basic_at}
use Rattle.fz_language.specs.Numerals.{floats_in}
use Rattle.fz_language.specs.Entries.{Environment, nothing_declared, with_entry, term_in, each_of}
use Rattle.fz_language.specs.Entries as entries
use Rattle.fz_language.specs.Rules.{unknown_in}
use Rattle.fz_gen.proofs.Texts.{Entry, Written, Known, bytes_in, name_of, goal_name}
use Rattle.fz_gen.proofs.Trees.{basic, further_basics, basics}

-- ---- names

-- what the names of that many choices stand for
abbrev pub env : ℕ → Environment
env zero = nothing_declared
env (suc i) = with_entry (name_of (suc i)) (entries.Variable kinds.Int i) (env i)

by_no : {P : Type 0} (b : Bool) → Decides b P → (P → ⊥) → b ≡ false
by_no true d n = absurd (n (d.0 refl))
by_no false d n = refl

other_name : (i j : ℕ) → i ≤ 1000 → j ≤ 1000 → i ≢ j → bytes_eq (name_of i) (name_of j) ≡ false
other_name i j a b n = by_no (bytes_eq (name_of i) (name_of j)) (bytes_eq-Decides (name_of i) (name_of j)) (λ e. n (decimal_injective i j (omega arith) (omega arith) (tails 120 120 (decimal i) (decimal j) e)))

same_name : (name : List ℕ) → bytes_eq name name ≡ true
same_name name = (bytes_eq-Decides name name).1 refl

-- the entry of a name after another one
pub passes : (declared name : List ℕ) (entry : entries.Entry) (others : Environment) → bytes_eq declared name ≡ false → with_entry declared entry others name ≡ others name
passes declared name entry others e = ap (λ (b : Bool). cond b (Some entry) (others name)) e

stands : (declared name : List ℕ) (entry : entries.Entry) (others : Environment) → bytes_eq declared name ≡ true → with_entry declared entry others name ≡ Some entry
stands declared name entry others e = ap (λ (b : Bool). cond b (Some entry) (others name)) e

pub unknown : (j i : ℕ) → j < i → i ≤ 1000 → env j (name_of i) ≡ None
unknown zero i l b = refl
unknown (suc j) i l b = passes (name_of (suc j)) (name_of i) (entries.Variable kinds.Int j) (env j) (other_name (suc j) i (omega arith) b (omega arith)) ∙ unknown j i (omega arith) b

pub known : (j i : ℕ) → i < j → j ≤ 1000 → env j (name_of (suc i)) ≡ Some (entries.Variable kinds.Int i)
known zero i l b = absurd (omega (arith, l))
known (suc j) i l b = elim (cases_lt i j) [
  | inl m ↦ passes (name_of (suc j)) (name_of (suc i)) (entries.Variable kinds.Int j) (env j) (other_name (suc j) (suc i) (omega arith) (omega arith) (omega (arith, m))) ∙ known j i m (omega arith)
  | inr g ↦
      let e : j ≡ i = omega (arith, l, g) in
      subst (λ (k : ℕ). env (suc j) (name_of (suc k)) ≡ Some (entries.Variable kinds.Int k)) e (stands (name_of (suc j)) (name_of (suc j)) (entries.Variable kinds.Int j) (env j) (same_name (name_of (suc j))))
]

pub no_goal : (j : ℕ) → env j goal_name ≡ None
no_goal zero = refl
no_goal (suc j) = no_goal j

-- and after the goal's variable
abbrev pub whole_env : ℕ → Environment
whole_env n = with_entry goal_name (entries.Variable kinds.Int n) (env n)

-- ---- lists

-- these expressions are the entries, wherever they stand
abbrev pub Are : List Entry → List Basic → Type 0
Are [] [] = Unit {0}
Are (e ∷ es) (b ∷ bs) = ((at : ℕ) × (b ≡ basic at e)) × Are es bs
Are [] (b ∷ bs) = ⊥
Are (e ∷ es) [] = ⊥

further_are : (at : ℕ) (es : List Entry) → Are es (further_basics at es)
further_are at [] = tt
further_are at (e ∷ es) = ((at + 1, refl), further_are (at + 1 + length (bytes_in e)) es)

pub basics_are : (at : ℕ) (es : List Entry) → Are es (basics at es)
basics_are at [] = tt
basics_are at (e ∷ es) = ((at + 1, refl), further_are (at + 1 + length (bytes_in e)) es)

pub no_float : (at : ℕ) (e : Entry) → floats_in (basic at e) ≡ []
no_float at (Written value digits) = refl
no_float at (Known name) = refl

pub no_floats : (es : List Entry) (bs : List Basic) → Are es bs → flat_map floats_in bs ≡ []
no_floats [] [] a = refl
no_floats (e ∷ es) (b ∷ bs) a = λ i. (ap floats_in a.0.1 ∙ no_float a.0.0 e) i ++ no_floats es bs a.1 i
no_floats [] (b ∷ bs) a = absurd a
no_floats (e ∷ es) [] a = absurd a

-- a name is a variable's, and is taken where one serves
abbrev pub FitsIn : Bool → Environment → Entry → Type 0
FitsIn vary names (Written value digits) = Unit {0}
FitsIn vary names (Known name) = (vary ≡ true) × ((k : ℕ) × (names name ≡ Some (entries.Variable kinds.Int k)))

abbrev pub AllFit : Bool → Environment → List Entry → Type 0
AllFit vary names [] = Unit {0}
AllFit vary names (e ∷ es) = FitsIn vary names e × AllFit vary names es

pub known_one : (vary : Bool) (names : Environment) (at : ℕ) (e : Entry) → FitsIn vary names e → unknown_in names (basic at e) ≡ []
known_one vary names at (Written value digits) f = refl
known_one vary names at (Known name) f = ap (λ (o : Option entries.Entry). elim o [ Some x ↦ [] | None ↦ at ∷ [] ]) f.1.1

pub all_known : (vary : Bool) (names : Environment) (es : List Entry) (bs : List Basic) → Are es bs → AllFit vary names es → flat_map (unknown_in names) bs ≡ []
all_known vary names [] [] a f = refl
all_known vary names (e ∷ es) (b ∷ bs) a f = λ i. (ap (unknown_in names) a.0.1 ∙ known_one vary names a.0.0 e f.0) i ++ all_known vary names es bs a.1 f.1 i
all_known vary names [] (b ∷ bs) a f = absurd a
all_known vary names (e ∷ es) [] a f = absurd a

abbrev pub element : Bool → Element
element vary = record { kind = kinds.Int; may_vary = vary }

pub one_term : (vary : Bool) (names : Environment) (at : ℕ) (e : Entry) → FitsIn vary names e → (t : Term) × (term_in names (element vary) (basic at e) ≡ Some t)
one_term vary names at (Written value digits) f = (Num value, refl)
one_term vary names at (Known name) f = (
  Var f.1.0,
  ap (λ (o : Option entries.Entry). elim o [ Some x ↦ entries.entry_term (element vary) x | None ↦ None ]) f.1.1
      ∙ ap (λ (b : Bool). cond b (Some (Var f.1.0)) None) f.0,
)

pub record Resolved (vary : Bool) (names : Environment) (es : List Entry) (bs : List Basic) : Type 0 where
  pub terms : List Term
  pub are : each_of (term_in names (element vary)) bs ≡ Ok terms
  pub count : length terms ≡ length es

pub resolved : (vary : Bool) (names : Environment) (es : List Entry) (bs : List Basic) → Are es bs → AllFit vary names es → Resolved vary names es bs
resolved vary names [] [] a f = record { terms = []; are = refl; count = refl }
resolved vary names (e ∷ es) (b ∷ bs) a f =
    let t = one_term vary names a.0.0 e f.0 in
    let r = resolved vary names es bs a.1 f.1 in
    record {
      terms = t.0 ∷ r.terms;
      are = λ i. entries.before ((ap (term_in names (element vary)) a.0.1 ∙ t.1) i) (r.are i) (basic_at b);
      count = ap suc r.count;
    }
resolved vary names [] (b ∷ bs) a f = absurd a
resolved vary names (e ∷ es) [] a f = absurd a
