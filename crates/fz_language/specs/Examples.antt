-- Programs whose rules come in the order that is meant, and what an accepted one means.
use Rattle.std.specs.Prelude.{◌≡◌, ℕ, ℤ, pos, true, false, List, [], ◌∷◌, Some, None, codes, ◌<◌, length}
use Rattle.fz_spec.specs.declared.kind.Kind.TheVariants as kinds
use Rattle.fz_spec.specs.declared.builtin.Builtin.TheVariants.{IntEq, IntLinLe, SetIn}
use Rattle.fz_spec.specs.declared.term.Term.TheVariants.{Num, Var}
use Rattle.fz_spec.specs.declared.goal.Goal.TheVariants as goals
use Rattle.fz_spec.specs.Constraints as meaning
use Rattle.fz_spec.specs.declared.limits.TheConstants.{TEXT_LIMIT}
use Rattle.fz_spec.specs.declared.code.Code.TheVariants as code
use Rattle.fz_language.specs.declared.fault.RuleFault.{RuleFault}
use Rattle.fz_language.specs.declared.fault.RuleFault.TheVariants.{Unsupported, UnknownConstraint, WrongArity, UnknownName, WrongType, WrongLengths, DeclaredTwice, OverLimit}
use Rattle.fz_language.specs.Trees.{Name, Integer, Number, Whole, Float, SetLiteral, Range, Plain, AnyInt, Within, ValueType, One, Basic, Truth, Numeral, Named, Expression, Scalar, Listed, Annotation, Item, Variable, Array, Constraint, Satisfy, Program}
use Rattle.fz_language.specs.Trees as trees
use Rattle.fz_language.specs.Entries.{nothing_declared}
use Rattle.fz_language.specs.Places.{line_of, column_of, IsPlaceOf}
use Rattle.fz_language.specs.Rules.{Fault, faults_of}
use Rattle.fz_language.specs.Models.{model_of}
use Rattle.fz_language.specs.Reads.{program_faults, Reads, Refused}

abbrev pub name : List ℕ → ℕ → Name
name bytes at = record { bytes = bytes; at = at }

abbrev pub number : ℤ → ℕ → Number
number value at = Whole (record { value = value; at = at })

abbrev pub named : List ℕ → ℕ → Basic
named bytes at = Named (name bytes at)

abbrev pub numeral : ℤ → ℕ → Basic
numeral value at = Numeral (number value at)

abbrev pub list : ℕ → List Basic → Expression
list at elements = Listed (record { at = at; elements = elements })

abbrev pub call : Name → List Expression → Item
call n arguments = Constraint (record { name = n; arguments = arguments; annotations = [] })

-- `var 1..2: NAME;` with its set at a place
abbrev pub one_or_two : ℕ → Name → Item
one_or_two at n = Variable (record { value_type = One (Within (Range (number (pos 1) at) (number (pos 2) at))); name = n; annotations = []; value = None })

abbrev pub program : List Item → Program
program items = record { items = items; solve = record { annotations = []; method = Satisfy 0 } }

abbrev pub fault : RuleFault → ℕ → Fault
fault rule at = record { rule = rule; at = at }

-- `constraint int_ne(x);`: the number of arguments comes before the unknown name
abbrev pub ArityBeforeNames : Type 0
ArityBeforeNames = program_faults (program (call (name (codes "int_ne") 11) (Scalar (named (codes "x") 18) ∷ []) ∷ [])) ≡ fault WrongArity 11 ∷ fault UnknownName 18 ∷ []

-- `constraint int_ne(true,x);`: the unknown name comes before the Boolean, though it stands after it
abbrev pub NamesBeforeTypes : Type 0
NamesBeforeTypes = program_faults (program (call (name (codes "int_ne") 11) (Scalar (Truth true 18) ∷ Scalar (named (codes "x") 23) ∷ []) ∷ [])) ≡ fault UnknownName 23 ∷ fault WrongType 18 ∷ fault WrongType 23 ∷ []

-- `constraint int_lin_le([1,true],[3],4);`: the element of a wrong type, at its place
abbrev pub TypesOfElements : Type 0
TypesOfElements = program_faults (program (call (name (codes "int_lin_le") 11) (list 22 (numeral (pos 1) 23 ∷ Truth true 25 ∷ []) ∷ list 31 (numeral (pos 3) 32 ∷ []) ∷ Scalar (numeral (pos 4) 35) ∷ []) ∷ [])) ≡ fault WrongType 25 ∷ []

-- `constraint int_lin_le([1,2],[3],4);`: the lists differ in length
abbrev pub UnequalLists : Type 0
UnequalLists = program_faults (program (call (name (codes "int_lin_le") 11) (list 22 (numeral (pos 1) 23 ∷ numeral (pos 2) 25 ∷ []) ∷ list 28 (numeral (pos 3) 29 ∷ []) ∷ Scalar (numeral (pos 4) 32) ∷ []) ∷ [])) ≡ fault WrongLengths 11 ∷ []

-- `constraint foo(1.5);`: the float comes before the unknown constraint
abbrev pub FloatsBeforeConstraints : Type 0
FloatsBeforeConstraints = program_faults (program (call (name (codes "foo") 11) (Scalar (Numeral (Float 15)) ∷ []) ∷ [])) ≡ fault Unsupported 15 ∷ fault UnknownConstraint 11 ∷ []

-- `constraint set_union();` and `constraint int_le_imp();`: neither is supported
abbrev pub UnsupportedConstraint : Type 0
UnsupportedConstraint = program_faults (program (call (name (codes "set_union") 11) [] ∷ call (name (codes "int_le_imp") 40) [] ∷ [])) ≡ fault Unsupported 11 ∷ fault Unsupported 40 ∷ []

-- `array [2..3] of int: x = [1,2];` after `var 1..2: x;`: the index set comes before the name that is declared twice
abbrev pub LengthsBeforeTwice : Type 0
LengthsBeforeTwice =
    program_faults
    (program
    (one_or_two 4 (name (codes "x") 10)
    ∷ Array
    (record {
      low = record { value = pos 2; at = 20 };
      high = record { value = pos 3; at = 23 };
      variable = false;
      value_type = One (AnyInt 29);
      name = name (codes "x") 34;
      annotations = [];
      list = record { at = 38; elements = numeral (pos 1) 39 ∷ numeral (pos 2) 41 ∷ [] };
    })
    ∷ [])) ≡ fault WrongLengths 34 ∷ fault DeclaredTwice 34 ∷ []

-- `constraint int_lin_le([1,2],[3],true);`: the argument of a wrong type comes before the lists that differ in length
abbrev pub unequal : Basic → Item
unequal bound = call (name (codes "int_lin_le") 11) (list 22 (numeral (pos 1) 23 ∷ numeral (pos 2) 25 ∷ []) ∷ list 28 (numeral (pos 3) 29 ∷ []) ∷ Scalar bound ∷ [])

abbrev pub TypesBeforeLengths : Type 0
TypesBeforeLengths = program_faults (program (unequal (Truth true 32) ∷ [])) ≡ fault WrongType 32 ∷ fault WrongLengths 11 ∷ []

-- `constraint int_lin_le([1,2],[3],4);` after a million constraints: the lists come before the limit
abbrev pub LengthsBeforeLimits : Type 0
LengthsBeforeLimits = faults_of nothing_declared (record { variables = 0; constraints = 1000000; elements = 0 }) (unequal (numeral (pos 4) 32)) ≡ fault WrongLengths 11 ∷ fault OverLimit 11 ∷ []

-- `var 1..2: x;` after a million variables: the limit, at the name
abbrev pub MillionthAndOne : Type 0
MillionthAndOne = faults_of nothing_declared (record { variables = 1000000; constraints = 0; elements = 0 }) (one_or_two 4 (name (codes "x") 10)) ≡ fault OverLimit 10 ∷ []

-- a text that is too long is refused at its first byte over the limit
abbrev pub LongTextIsRefused : Type 0
LongTextIsRefused = (text : List ℕ) → TEXT_LIMIT < length text → Reads text (Refused code.OverLimit (line_of text TEXT_LIMIT) (column_of text TEXT_LIMIT))

-- `var 1..2: x; #` is refused at its last byte, which begins no token
abbrev pub unknown_byte : List ℕ
unknown_byte = codes "var 1..2: x; #"

abbrev pub UnknownByteIsRefused : Type 0
UnknownByteIsRefused = Reads unknown_byte (Refused code.UnknownByte 1 14)

-- the end of `solve satisfy` and a line feed is line 2, column 1
abbrev pub EndIsOnLineTwo : Type 0
EndIsOnLineTwo = IsPlaceOf (codes "solve satisfy\n") 14 2 1

-- `var 1..2: x; constraint int_lin_le([2],[x],3);` is accepted, and this is its model
abbrev pub linear : Program
linear = program (one_or_two 4 (name (codes "x") 10) ∷ call (name (codes "int_lin_le") 24) (list 35 (numeral (pos 2) 36 ∷ []) ∷ list 39 (named (codes "x") 40 ∷ []) ∷ Scalar (numeral (pos 3) 43) ∷ []) ∷ [])

pub record LinearIsRead : Type 0 where
  pub keeps : program_faults linear ≡ []
  pub model : model_of linear ≡ record {
    variables = record { kind = kinds.Int; set = (pos 1, pos 2) ∷ [] } ∷ [];
    constraints = record { name = IntLinLe; arguments = meaning.Numbers (pos 2 ∷ []) ∷ meaning.Terms (Var 0 ∷ []) ∷ meaning.One (Num (pos 3)) ∷ []; whole = false } ∷ [];
    goal = goals.Satisfy;
    outputs = [];
    search = [];
  }

-- `var 1..2: x; var 1..2: y = x; array [1..1] of var 4..5: a :: output_array([1..1]) = [y];`: the constraints that declarations add, in order, and
-- the array that is printed
abbrev pub bound : Program
bound =
    program
    (one_or_two 4 (name (codes "x") 10)
    ∷ Variable (record { value_type = One (Within (Range (number (pos 1) 17) (number (pos 2) 20))); name = name (codes "y") 23; annotations = []; value = Some (named (codes "x") 27) })
    ∷ Array
    (record {
      low = record { value = pos 1; at = 37 };
      high = record { value = pos 1; at = 40 };
      variable = true;
      value_type = One (Within (Range (number (pos 4) 50) (number (pos 5) 53)));
      name = name (codes "a") 56;
      annotations = record {
        name = name (codes "output_array") 61;
        arguments = Some (trees.More (trees.Brackets 74 (trees.More (trees.Simple (trees.Literal (Range (number (pos 1) 75) (number (pos 1) 78)))) trees.Nil)) trees.Nil);
      } ∷ [];
      list = record { at = 84; elements = named (codes "y") 85 ∷ [] };
    })
    ∷ [])

pub record BoundIsRead : Type 0 where
  pub keeps : program_faults bound ≡ []
  pub constraints : (model_of bound).constraints ≡ record { name = IntEq; arguments = meaning.One (Var 1) ∷ meaning.One (Var 0) ∷ []; whole = false }
      ∷ record { name = SetIn; arguments = meaning.One (Var 1) ∷ meaning.Set ((pos 4, pos 5) ∷ []) ∷ []; whole = false } ∷ []
  pub outputs : (model_of bound).outputs ≡ record { name = codes "a"; kind = kinds.Int; array = true; shape = (pos 1, pos 1) ∷ []; terms = Var 1 ∷ [] } ∷ []
