-- Search annotations of the solve item: what guides the search (MiniZinc Handbook, "Search annotations"). One that isn't of this
-- form is ignored.
use Rattle.std.specs.Prelude.{ℕ, Bool, true, cond, Option, Some, None, option_map, List, [], ◌∷◌, ◌++◌, map, flat_map, find, bytes_eq, codes}
use Rattle.fz_spec.specs.declared.search.Pick.{Pick}
use Rattle.fz_spec.specs.declared.search.Pick.TheVariants.{InputOrder}
use Rattle.fz_spec.specs.declared.search.TheConstants.{PICKS, VALUES}
use Rattle.fz_spec.specs.declared.search.Value.{Value}
use Rattle.fz_spec.specs.declared.search.Value.TheVariants.{IndomainMin}
use Rattle.fz_spec.specs.declared.term.Term.{Term}
use Rattle.fz_spec.specs.declared.term.Term.TheVariants.{Num, Var}
use Rattle.fz_spec.specs.Instance.{SearchPart}
use Rattle.fz_language.specs.Trees.{Name, Truth, Numeral, Literal, Named, Argument, Arguments, Simple, Text, Call, Brackets, Nil, More, Annotation}
use Rattle.fz_language.specs.Entries.{Environment, Entry, Variable, Set, Numbers, Terms, Sets, named}
use Rattle.fz_language.specs.Entries as entries
use Rattle.fz_language.specs.Annotations.{list_of}
use Rattle.fz_language.specs.Numerals.{all_of}

-- what stands in a table beside a word; else the default
abbrev pub worded : {A : Type 0} → List (record { now : List ℕ } × A) → A → List ℕ → A
worded rows default word = elim (find (λ row. bytes_eq word row.0.now) rows) [ Some row ↦ row.1 | None ↦ default ]

abbrev pub pick_of : List ℕ → Pick
pick_of = worded PICKS InputOrder

abbrev pub value_of : List ℕ → Value
value_of = worded VALUES IndomainMin

-- the variables among terms
abbrev pub variables_of_terms : List Term → List ℕ
variables_of_terms [] = []
variables_of_terms (Num n ∷ terms) = variables_of_terms terms
variables_of_terms (Var v ∷ terms) = v ∷ variables_of_terms terms

-- the variable that an entry is, and the variables of an array of variables
abbrev pub entry_variable : Entry → Option (List ℕ)
entry_variable (Variable kind number) = Some (number ∷ [])
entry_variable (entries.Value kind value) = None
entry_variable (Set set) = None
entry_variable (Numbers kind numbers) = None
entry_variable (Terms kind terms) = None
entry_variable Sets = None

abbrev pub entry_variables : Entry → Option (List ℕ)
entry_variables (Terms kind terms) = Some (variables_of_terms terms)
entry_variables (Variable kind number) = None
entry_variables (entries.Value kind value) = None
entry_variables (Set set) = None
entry_variables (Numbers kind numbers) = None
entry_variables Sets = None

-- a variable by its name; a number, `true` or `false` is skipped; anything else is of no form
abbrev pub member : Environment → Argument → Option (List ℕ)
member env (Simple (Named name)) = named env entry_variable name
member env (Simple (Truth value at)) = Some []
member env (Simple (Numeral number)) = Some []
member env (Simple (Literal set)) = None
member env (Text at) = None
member env (Call name arguments) = None
member env (Brackets at arguments) = None

abbrev pub joined : {X : Type 0} → List (List X) → List X
joined lists = flat_map (λ l. l) lists

-- a list of variables, or the name of an array of variables
abbrev pub variables_in : Environment → Argument → Option (List ℕ)
variables_in env (Brackets at arguments) = option_map joined (all_of (map (member env) (list_of arguments)))
variables_in env (Simple (Named name)) = named env entry_variables name
variables_in env argument = None

abbrev pub part_of : Environment → Argument → Name → Name → List SearchPart
part_of env variables pick value = elim (variables_in env variables) [
  | Some numbers ↦ record { variables = numbers; pick = pick_of pick.bytes; value = value_of value.bytes } ∷ []
  | None ↦ []
]

-- `(variables, pick, value)`, with a fourth argument or without
abbrev pub part_in : Environment → List Argument → List SearchPart
part_in env (variables ∷ Simple (Named pick) ∷ Simple (Named value) ∷ []) = part_of env variables pick value
part_in env (variables ∷ Simple (Named pick) ∷ Simple (Named value) ∷ fourth ∷ []) = part_of env variables pick value
part_in env arguments = []

abbrev pub is_basic_search : List ℕ → Bool
is_basic_search word = cond (bytes_eq word (codes "int_search")) true (bytes_eq word (codes "bool_search"))

-- the parts of a search annotation among arguments, those of `seq_search([..])` one after another
abbrev mutual
  pub parts_in : Environment → Argument → List SearchPart
  parts_in env (Call name arguments) =
      cond (is_basic_search name.bytes) (part_in env (list_of arguments)) (cond (bytes_eq name.bytes (codes "seq_search")) (parts_of_list env arguments) [])
  parts_in env (Simple basic) = []
  parts_in env (Text at) = []
  parts_in env (Brackets at arguments) = []

  pub parts_of_list : Environment → Arguments → List SearchPart
  parts_of_list env (More (Brackets at arguments) Nil) = parts_of_all env arguments
  parts_of_list env arguments = []

  pub parts_of_all : Environment → Arguments → List SearchPart
  parts_of_all env Nil = []
  parts_of_all env (More argument others) = parts_in env argument ++ parts_of_all env others

-- an annotation as an argument of one
abbrev pub as_argument : Annotation → List Argument
as_argument a = elim a.arguments [ Some arguments ↦ Call a.name arguments ∷ [] | None ↦ [] ]

-- the annotations, the first of each name
abbrev pub firsts : List (List ℕ) → List Annotation → List Annotation
firsts seen [] = []
firsts seen (a ∷ rest) = elim (find (bytes_eq a.name.bytes) seen) [ Some name ↦ firsts seen rest | None ↦ a ∷ firsts (a.name.bytes ∷ seen) rest ]

abbrev pub search_of : Environment → List Annotation → List SearchPart
search_of env annotations = flat_map (parts_in env) (flat_map as_argument (firsts [] annotations))
