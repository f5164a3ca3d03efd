-- A program is no larger than its text, and its integers lie within the limits.
use Rattle.std.proofs.Common.{ℕ, ◌+◌, ◌≤◌, ◌<◌, List, [], ◌∷◌, length, slice_range, Option, Some, None, inl, inr, ap, arith}
use Rattle.std.specs.List.{AllByRecursion}
use Rattle.std.proofs.lemmas.Int.{ints}
use Rattle.fz_sets.specs.Sets.{IsWithinLimits}
use Rattle.fz_spec.specs.declared.limits.TheConstants.{TEXT_LIMIT}
use Rattle.fz_language.specs.Tokens.{Token, Lexeme, Identifier, Word, Number, Float, Text, Punct, IsSpelt, IsToken, IsBlank, IsGap, Ends, Skips, IsFine, Ending, End, LeadsTo}
use Rattle.fz_language.specs.Trees as trees
use Rattle.fz_language.specs.Grammar.{Part, Element, WholeProgram, Items, OneItem, PredicateItem, Parameter, OfArray, IndexSets, Index, Variability, VariableItem, OptionalValue, ParameterItem, ArrayItem, ValueType, Plain, SetLiteral, Braces, OneNumber, Constant, RangeEnd, Basic, ListLiteral, Expression, ConstraintItem, SolveItem, Method, Annotations, Annotation, Called, Argument, Listed, More, Parameters, Indexes, Members, Elements, Expressions, Arguments, flatzinc, rules, Tree, TreesOf, name_in, integer_in, number_or_range, name_or_call}
use Rattle.fz_language.specs.Within.{NameFits, ArgumentsFit, CalledFits, AnnotationFits, ArgumentFits, argument_size, arguments_size, called_size, annotations_size, program_size, NumberFits, SetFits, PlainFits, TypeFits, BasicFits, ListFits, ExpressionFits, ValueFits, VariableFits, ParameterFits, ArrayFits, ItemFits, MethodFits}
use Rattle.fz_language.specs.WithinLaws.{ProgramsFit}
use Rattle.fz_language.proofs.Bytes.{slice_length, head_of}
use Rattle.fz_language.proofs.LexemeProofs.{begins_visible}
use Rattle.fz_grammar.specs.Carried.{Each, Carries}
use Rattle.fz_grammar.specs.Weighed.{Weighs}
use Rattle.fz_grammar.proofs.Carrying.{carried_tree}
use Rattle.fz_grammar.proofs.Weighing.{weighed_tree}

abbrev IsNamed : Lexeme → Type 0
IsNamed (Identifier name) = length name ≤ TEXT_LIMIT
IsNamed (Word k) = Unit {0}
IsNamed (Number v) = Unit {0}
IsNamed Float = Unit {0}
IsNamed Text = Unit {0}
IsNamed (Punct s) = Unit {0}

abbrev Fine : Token → Type 0
Fine t = IsFine t.lexeme × IsNamed t.lexeme

abbrev EndFits : Option trees.Number → Type 0
EndFits None = Unit {0}
EndFits (Some number) = NumberFits number

abbrev ElementsFit : (e : Element) → TreesOf e → Type 0
ElementsFit Parameters xs = Unit {0}
ElementsFit Indexes xs = Unit {0}
ElementsFit Members xs = AllByRecursion NumberFits xs
ElementsFit Elements xs = AllByRecursion BasicFits xs
ElementsFit Expressions xs = AllByRecursion ExpressionFits xs
ElementsFit Arguments xs = ArgumentsFit xs

abbrev Fits : (n : Part) → Tree n → Type 0
Fits WholeProgram p = AllByRecursion ItemFits p.items × MethodFits p.solve.method
Fits Items xs = AllByRecursion ItemFits xs
Fits OneItem x = ItemFits x
Fits PredicateItem x = Unit {0}
Fits Parameter x = Unit {0}
Fits OfArray x = Unit {0}
Fits IndexSets x = Unit {0}
Fits Index x = Unit {0}
Fits Variability x = Unit {0}
Fits VariableItem x = VariableFits x
Fits OptionalValue x = ValueFits x
Fits ParameterItem x = ParameterFits x
Fits ArrayItem x = ArrayFits x
Fits ValueType x = TypeFits x
Fits Plain x = PlainFits x
Fits SetLiteral x = SetFits x
Fits Braces x = SetFits x
Fits OneNumber x = NumberFits x
Fits Constant x = BasicFits x
Fits RangeEnd x = EndFits x
Fits Basic x = BasicFits x
Fits ListLiteral x = ListFits x
Fits Expression x = ExpressionFits x
Fits ConstraintItem x = AllByRecursion ExpressionFits x.arguments
Fits SolveItem x = MethodFits x.method
Fits Method x = MethodFits x
Fits Annotations xs = AllByRecursion AnnotationFits xs
Fits Annotation x = AnnotationFits x
Fits Called x = CalledFits x
Fits Argument x = ArgumentFits x
Fits (Listed e) xs = ElementsFit e xs
Fits (More e) xs = ElementsFit e xs

integer_fits : (x : Lexeme) (at : ℕ) → IsFine x → IsWithinLimits (integer_in (record { lexeme = x; at = at })).value
integer_fits (Identifier name) at h = (omega (arith, ints), omega (arith, ints))
integer_fits (Word k) at h = (omega (arith, ints), omega (arith, ints))
integer_fits (Number v) at h = h
integer_fits Float at h = (omega (arith, ints), omega (arith, ints))
integer_fits Text at h = (omega (arith, ints), omega (arith, ints))
integer_fits (Punct s) at h = (omega (arith, ints), omega (arith, ints))

name_fits : (x : Lexeme) (at : ℕ) → IsNamed x → NameFits (name_in (record { lexeme = x; at = at }))
name_fits (Identifier name) at h = h
name_fits (Word k) at h = omega arith
name_fits (Number v) at h = omega arith
name_fits Float at h = omega arith
name_fits Text at h = omega arith
name_fits (Punct s) at h = omega arith

call_fits : (name : trees.Name) (called : Option trees.Arguments) → CalledFits called → ArgumentFits (name_or_call (record { name = name; arguments = called }))
call_fits name None h = tt
call_fits name (Some arguments) h = h

range_fits : (low : trees.Number) (high : Option trees.Number) → NumberFits low → EndFits high → BasicFits (number_or_range low high)
range_fits low None l h = l
range_fits low (Some high) l h = (l, h)

listed : (e : Element) → Carries flatzinc Fine Fits (Listed e) (rules (Listed e))
listed Parameters = (λ v h. tt, λ v h. tt)
listed Indexes = (λ v h. tt, λ v h. tt)
listed Members = (λ v h. tt, λ v h. (h.0, h.1.0))
listed Elements = (λ v h. tt, λ v h. (h.0, h.1.0))
listed Expressions = (λ v h. tt, λ v h. (h.0, h.1.0))
listed Arguments = (λ v h. tt, λ v h. (h.0, h.1.0))

more : (e : Element) → Carries flatzinc Fine Fits (More e) (rules (More e))
more Parameters = (λ v h. tt, λ v h. tt)
more Indexes = (λ v h. tt, λ v h. tt)
more Members = (λ v h. (h.1.0, h.1.1.0), λ v h. tt)
more Elements = (λ v h. (h.1.0, h.1.1.0), λ v h. tt)
more Expressions = (λ v h. (h.1.0, h.1.1.0), λ v h. tt)
more Arguments = (λ v h. (h.1.0, h.1.1.0), λ v h. tt)

fits : (n : Part) → Carries flatzinc Fine Fits n (rules n)
fits WholeProgram = λ v h. (h.0, h.1.0)
fits Items = (λ v h. (h.0, h.1.0), λ v h. tt)
fits OneItem = (λ v h. tt, (λ v h. h.0, (λ v h. h.0, (λ v h. h.0, λ v h. h.0))))
fits PredicateItem = λ v h. tt
fits Parameter = λ v h. tt
fits OfArray = (λ v h. tt, λ v h. tt)
fits IndexSets = λ v h. tt
fits Index = (λ v h. tt, λ v h. tt)
fits Variability = (λ v h. tt, λ v h. tt)
fits VariableItem = λ v h. (h.1.0, h.1.1.1.1.1.0, name_fits v.1.1.1.0.lexeme v.1.1.1.0.at h.1.1.1.0.1)
fits OptionalValue = (λ v h. h.1.0, λ v h. tt)
fits ParameterItem = λ v h. (h.0, h.1.1.1.1.1.0)
fits ArrayItem = λ v h. (
  integer_fits v.1.1.0.lexeme v.1.1.0.at h.1.1.0.0,
  integer_fits v.1.1.1.1.0.lexeme v.1.1.1.1.0.at h.1.1.1.1.0.0,
  h.1.1.1.1.1.1.1.1.0,
  h.1.1.1.1.1.1.1.1.1.1.1.1.1.0,
  name_fits v.1.1.1.1.1.1.1.1.1.1.0.lexeme v.1.1.1.1.1.1.1.1.1.1.0.at h.1.1.1.1.1.1.1.1.1.1.0.1,
  h.1.1.1.1.1.1.1.1.1.1.1.0,
)
fits ValueType = (λ v h. h.1.1.0, λ v h. h.0)
fits Plain = (λ v h. tt, (λ v h. tt, (λ v h. tt, λ v h. h.0)))
fits SetLiteral = (λ v h. h.0, λ v h. (h.0, h.1.1.0))
fits Braces = λ v h. h.1.0
fits OneNumber = (λ v h. tt, λ v h. integer_fits v.0.lexeme v.0.at h.0.0)
fits Constant = (λ v h. tt, (λ v h. tt, (λ v h. h.0, λ v h. range_fits v.0 v.1.0 h.0 h.1.0)))
fits RangeEnd = (λ v h. h.1.0, λ v h. tt)
fits Basic = (λ v h. tt, λ v h. h.0)
fits ListLiteral = λ v h. h.1.0
fits Expression = (λ v h. h.0, λ v h. h.0)
fits ConstraintItem = λ v h. h.1.1.1.0
fits SolveItem = λ v h. h.1.1.0
fits Method = (λ v h. h.1.0, (λ v h. h.1.0, λ v h. tt))
fits Annotations = (λ v h. (h.1.0, h.1.1.0), λ v h. tt)
fits Annotation = λ v h. h.1.0
fits Called = (λ v h. h.1.0, λ v h. tt)
fits Argument = (λ v h. tt, (λ v h. h.1.0, (λ v h. call_fits v.0.name v.0.arguments h.0, λ v h. h.0)))
fits (Listed e) = listed e
fits (More e) = more e

-- ---- sizes

abbrev elements_weight : (e : Element) → TreesOf e → ℕ
elements_weight Parameters xs = 0
elements_weight Indexes xs = 0
elements_weight Members xs = 0
elements_weight Elements xs = 0
elements_weight Expressions xs = 0
elements_weight Arguments xs = arguments_size xs

abbrev weight : (n : Part) → Tree n → ℕ
weight WholeProgram p = program_size p
weight Items xs = length xs
weight OneItem x = 1
weight PredicateItem x = 1
weight Parameter x = 0
weight OfArray x = 0
weight IndexSets x = 0
weight Index x = 0
weight Variability x = 0
weight VariableItem x = 1
weight OptionalValue x = 0
weight ParameterItem x = 1
weight ArrayItem x = 1
weight ValueType x = 0
weight Plain x = 0
weight SetLiteral x = 0
weight Braces x = 1
weight OneNumber x = 1
weight Constant x = 1
weight RangeEnd x = 0
weight Basic x = 0
weight ListLiteral x = 0
weight Expression x = 0
weight ConstraintItem x = 1
weight SolveItem x = annotations_size x.annotations
weight Method x = 0
weight Annotations xs = annotations_size xs
weight Annotation x = 1 + called_size x.arguments
weight Called x = called_size x
weight Argument x = argument_size x
weight (Listed e) xs = elements_weight e xs
weight (More e) xs = elements_weight e xs

call_size : (name : trees.Name) (called : Option trees.Arguments) → argument_size (name_or_call (record { name = name; arguments = called })) ≤ 1 + called_size called
call_size name None = omega arith
call_size name (Some arguments) = omega arith

listed_weighs : (e : Element) → Weighs flatzinc weight (Listed e) (rules (Listed e))
listed_weighs Parameters = (λ v. omega arith, λ v. omega arith)
listed_weighs Indexes = (λ v. omega arith, λ v. omega arith)
listed_weighs Members = (λ v. omega arith, λ v. omega arith)
listed_weighs Elements = (λ v. omega arith, λ v. omega arith)
listed_weighs Expressions = (λ v. omega arith, λ v. omega arith)
listed_weighs Arguments = (λ v. omega arith, λ v. omega arith)

more_weighs : (e : Element) → Weighs flatzinc weight (More e) (rules (More e))
more_weighs Parameters = (λ v. omega arith, λ v. omega arith)
more_weighs Indexes = (λ v. omega arith, λ v. omega arith)
more_weighs Members = (λ v. omega arith, λ v. omega arith)
more_weighs Elements = (λ v. omega arith, λ v. omega arith)
more_weighs Expressions = (λ v. omega arith, λ v. omega arith)
more_weighs Arguments = (λ v. omega arith, λ v. omega arith)

weighs : (n : Part) → Weighs flatzinc weight n (rules n)
weighs WholeProgram = λ v. omega arith
weighs Items = (λ v. omega arith, λ v. omega arith)
weighs OneItem = (λ v. omega arith, (λ v. omega arith, (λ v. omega arith, (λ v. omega arith, λ v. omega arith))))
weighs PredicateItem = λ v. omega arith
weighs Parameter = λ v. omega arith
weighs OfArray = (λ v. omega arith, λ v. omega arith)
weighs IndexSets = λ v. omega arith
weighs Index = (λ v. omega arith, λ v. omega arith)
weighs Variability = (λ v. omega arith, λ v. omega arith)
weighs VariableItem = λ v. omega arith
weighs OptionalValue = (λ v. omega arith, λ v. omega arith)
weighs ParameterItem = λ v. omega arith
weighs ArrayItem = λ v. omega arith
weighs ValueType = (λ v. omega arith, λ v. omega arith)
weighs Plain = (λ v. omega arith, (λ v. omega arith, (λ v. omega arith, λ v. omega arith)))
weighs SetLiteral = (λ v. omega arith, λ v. omega arith)
weighs Braces = λ v. omega arith
weighs OneNumber = (λ v. omega arith, λ v. omega arith)
weighs Constant = (λ v. omega arith, (λ v. omega arith, (λ v. omega arith, λ v. omega arith)))
weighs RangeEnd = (λ v. omega arith, λ v. omega arith)
weighs Basic = (λ v. omega arith, λ v. omega arith)
weighs ListLiteral = λ v. omega arith
weighs Expression = (λ v. omega arith, λ v. omega arith)
weighs ConstraintItem = λ v. omega arith
weighs SolveItem = λ v. omega arith
weighs Method = (λ v. omega arith, (λ v. omega arith, λ v. omega arith))
weighs Annotations = (λ v. omega arith, λ v. omega arith)
weighs Annotation = λ v. omega arith
weighs Called = (λ v. omega arith, λ v. omega arith)
weighs Argument = (λ v. omega arith, (λ v. omega arith, (λ v. omega (arith, call_size v.0.name v.0.arguments), λ v. omega arith)))
weighs (Listed e) = listed_weighs e
weighs (More e) = more_weighs e

-- ---- tokens

blank_moves : (text : List ℕ) (start stop : ℕ) → IsBlank text start stop → start ≤ stop
blank_moves text start stop (inl s) = omega (arith, s.2)
blank_moves text start stop (inr c) = omega (arith, c.some)

pub gap_moves : (text : List ℕ) (from at : ℕ) → IsGap text from at → from ≤ at
gap_moves text from at (Ends _ l) = omega arith
gap_moves text from at (Skips _ mid _ b g) = omega (arith, blank_moves text from mid b, gap_moves text mid at g)

token_moves : (text : List ℕ) (t : Token) (stop : ℕ) → IsToken text t stop → t.at < stop
token_moves text t stop h =
    let b = begins_visible t.lexeme (slice_range text t.at stop) h.spelt in
    (head_of text t.at stop b.0 b.1 h.within b.2).some

-- no more tokens than bytes
count_tokens : (text : List ℕ) (from : ℕ) (ts : List Token) → LeadsTo text from ts End → from + length ts ≤ length text
count_tokens text from [] e = omega (arith, gap_moves text from (length text) e)
count_tokens text from (t ∷ ts) e = omega (arith, gap_moves text from t.at e.1, token_moves text t e.0 e.2, count_tokens text e.0 ts e.4)

named : (x : Lexeme) (text : List ℕ) (at stop : ℕ) → length text ≤ TEXT_LIMIT → stop ≤ length text → IsSpelt x (slice_range text at stop) → IsNamed x
named (Identifier name) text at stop h w s = omega (arith, h, w, slice_length text at stop w, ap (λ (bs : List ℕ). length bs) s.1)
named (Word k) text at stop h w s = tt
named (Number v) text at stop h w s = tt
named Float text at stop h w s = tt
named Text text at stop h w s = tt
named (Punct p) text at stop h w s = tt

all_fine : (text : List ℕ) (from : ℕ) (ts : List Token) (e : Ending) → length text ≤ TEXT_LIMIT → LeadsTo text from ts e → Each Fine ts
all_fine text from [] e short h = tt
all_fine text from (t ∷ ts) e short h = ((h.3, named t.lexeme text t.at h.0 short h.2.within h.2.spelt), all_fine text h.0 ts e short h.4)

pub programs_fit : ProgramsFit
programs_fit text ts p short l s =
    let f = carried_tree flatzinc Fine Fits fits WholeProgram ts p s.spelt (all_fine text 0 ts End short l) in
    (f.0, f.1, omega (arith, short, count_tokens text 0 ts l, weighed_tree flatzinc weight weighs WholeProgram ts p s.spelt))
