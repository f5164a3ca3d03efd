-- What names stand for, and what expressions are.
use Rattle.std.specs.Prelude.{ℕ, ℤ, pos, Bool, true, false, cond, Option, Some, None, option_map, List, [], ◌∷◌, map, bytes_eq}
use Rattle.std.specs.Prelude.{Result, Ok, Err}
use Rattle.fz_spec.specs.declared.kind.Kind.{Kind}
use Rattle.fz_spec.specs.declared.kind.Kind.TheVariants as kinds
use Rattle.fz_spec.specs.declared.term.Term.{Term}
use Rattle.fz_spec.specs.declared.term.Term.TheVariants.{Num, Var}
use Rattle.fz_spec.specs.declared.asked.Element.{Element}
use Rattle.fz_spec.specs.declared.asked.Asked.{Asked}
use Rattle.fz_spec.specs.declared.asked.Asked.TheVariants as asked
use Rattle.fz_spec.specs.Constraints.{Argument}
use Rattle.fz_spec.specs.Constraints as meaning
use Rattle.fz_language.specs.Numerals.{set_in}
use Rattle.fz_language.specs.Trees.{Name, Basic, Truth, Numeral, Literal, Named, Whole, Float, Expression, Scalar, Listed, basic_at}

-- a variable by its number, a value, a set, an array of numbers, of variables and numbers, or of sets
pub data Entry : Type 0 where
  Variable : (kind : Kind) (number : ℕ) → Entry
  Value : (kind : Kind) (value : ℤ) → Entry
  Set : (set : List (ℤ × ℤ)) → Entry
  Numbers : (kind : Kind) (numbers : List ℤ) → Entry
  Terms : (kind : Kind) (terms : List Term) → Entry
  Sets : Entry

-- what names stand for: the entry of each name that is declared
abbrev pub Environment : Type 0
Environment = List ℕ → Option Entry

abbrev pub nothing_declared : Environment
nothing_declared name = None

-- one name more
abbrev pub with_entry : List ℕ → Entry → Environment → Environment
with_entry declared entry env name = cond (bytes_eq declared name) (Some entry) (env name)

abbrev pub same_kind : Kind → Kind → Bool
same_kind kinds.Bool kinds.Bool = true
same_kind kinds.Int kinds.Int = true
same_kind kinds.Bool kinds.Int = false
same_kind kinds.Int kinds.Bool = false

-- the value, if the kind is the one that is asked
abbrev pub of_kind : {X : Type 0} → Kind → Kind → X → Option X
of_kind wanted kind x = cond (same_kind wanted kind) (Some x) None

-- the term that an entry is, if it is what is asked
abbrev pub entry_term : Element → Entry → Option Term
entry_term e (Value kind value) = of_kind e.kind kind (Num value)
entry_term e (Variable kind number) = cond e.may_vary (of_kind e.kind kind (Var number)) None
entry_term e (Set set) = None
entry_term e (Numbers kind numbers) = None
entry_term e (Terms kind terms) = None
entry_term e Sets = None

-- the list that an entry is, if it is what is asked
abbrev pub entry_list : Element → Entry → Option Argument
entry_list e (Numbers kind numbers) = of_kind e.kind kind (cond e.may_vary (meaning.Terms (map Num numbers)) (meaning.Numbers numbers))
entry_list e (Terms kind terms) = cond e.may_vary (of_kind e.kind kind (meaning.Terms terms)) None
entry_list e (Value kind value) = None
entry_list e (Variable kind number) = None
entry_list e (Set set) = None
entry_list e Sets = None

abbrev pub entry_set : Entry → Option (List (ℤ × ℤ))
entry_set (Set set) = Some set
entry_set (Value kind value) = None
entry_set (Variable kind number) = None
entry_set (Numbers kind numbers) = None
entry_set (Terms kind terms) = None
entry_set Sets = None

-- what the entry of a name is
abbrev pub named : {X : Type 0} → Environment → (Entry → Option X) → Name → Option X
named env what name = elim (env name.bytes) [ Some entry ↦ what entry | None ↦ None ]

abbrev pub truth_value : Bool → ℤ
truth_value true = pos 1
truth_value false = pos 0

-- the term that an expression is, if it is what is asked
abbrev pub term_in : Environment → Element → Basic → Option Term
term_in env e (Truth value at) = of_kind e.kind kinds.Bool (Num (truth_value value))
term_in env e (Numeral (Whole integer)) = of_kind e.kind kinds.Int (Num integer.value)
term_in env e (Numeral (Float at)) = None
term_in env e (Literal set) = None
term_in env e (Named name) = named env (entry_term e) name

abbrev pub set_of : Environment → Basic → Option (List (ℤ × ℤ))
set_of env (Literal set) = set_in set
set_of env (Named name) = named env entry_set name
set_of env (Truth value at) = None
set_of env (Numeral number) = None

-- what an expression is, or else the place where it is of a wrong type
abbrev pub or_place : {X : Type 0} → Option X → ℕ → Result X ℕ
or_place (Some x) at = Ok x
or_place None at = Err at

-- one more before others, or else the place where one is of a wrong type
abbrev pub before : {X : Type 0} → Option X → Result (List X) ℕ → ℕ → Result (List X) ℕ
before (Some x) (Ok xs) at = Ok (x ∷ xs)
before (Some x) (Err place) at = Err place
before None others at = Err at

-- what each of a list is, or else the place of the first that is of a wrong type
abbrev pub each_of : {X : Type 0} → (Basic → Option X) → List Basic → Result (List X) ℕ
each_of what [] = Ok []
each_of what (basic ∷ basics) = before (what basic) (each_of what basics) (basic_at basic)

abbrev pub number_of : Term → ℤ
number_of (Num n) = n
number_of (Var v) = pos 0

abbrev pub with_value : {X Y : Type 0} → (X → Y) → Result X ℕ → Result Y ℕ
with_value f (Ok x) = Ok (f x)
with_value f (Err at) = Err at

-- a list of numbers, or of terms where variables serve too
abbrev pub list_argument : Element → List Term → Argument
list_argument e terms = cond e.may_vary (meaning.Terms terms) (meaning.Numbers (map number_of terms))

-- Resolving: the argument that an expression is where this is asked, or else the place where it is of a wrong type, its first
-- token, or in a list literal for a list the first token of the first element of a wrong type.
abbrev pub resolve : Environment → Asked → Expression → Result Argument ℕ
resolve env (asked.One e) (Scalar basic) = or_place (option_map meaning.One (term_in env e basic)) (basic_at basic)
resolve env (asked.One e) (Listed list) = Err list.at
resolve env (asked.List e) (Scalar (Named name)) = or_place (named env (entry_list e) name) name.at
resolve env (asked.List e) (Scalar (Truth value at)) = Err at
resolve env (asked.List e) (Scalar (Numeral number)) = Err (basic_at (Numeral number))
resolve env (asked.List e) (Scalar (Literal set)) = Err (basic_at (Literal set))
resolve env (asked.List e) (Listed list) = with_value (list_argument e) (each_of (term_in env e) list.elements)
resolve env asked.Set (Scalar basic) = or_place (option_map meaning.Set (set_of env basic)) (basic_at basic)
resolve env asked.Set (Listed list) = Err list.at
