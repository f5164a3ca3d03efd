-- Annotations that say something: those of output and of search, and `domain`.
use Rattle.std.specs.Prelude.{Bool, true, false, ℕ, ℤ, Option, Some, None, List, [], ◌∷◌, map, find, bytes_eq, codes, slice_get, length, ◌&&◌, ◌==◌}
use Rattle.fz_language.specs.Trees.{Annotation, Argument, Arguments, Simple, Text, Call, Brackets, Nil, More, Literal, Range, Whole, basic_at}
use Rattle.fz_language.specs.Numerals.{all_of}

-- the first annotation of a name; a later one of the same name says nothing
abbrev pub annotation_of : List ℕ → List Annotation → Option Annotation
annotation_of name annotations = find (λ (a : Annotation). bytes_eq name a.name.bytes) annotations

abbrev pub list_of : Arguments → List Argument
list_of Nil = []
list_of (More argument others) = argument ∷ list_of others

-- the arguments, none where there are no parentheses
abbrev pub arguments_of : Annotation → List Argument
arguments_of a = elim a.arguments [ Some arguments ↦ list_of arguments | None ↦ [] ]

-- the first annotation of a name that has no arguments
abbrev pub plain_annotation_of : List ℕ → List Annotation → Option Annotation
plain_annotation_of name annotations = find (λ (a : Annotation). bytes_eq name a.name.bytes && (length (arguments_of a) == 0)) annotations

-- an index range, and its place
abbrev pub range_of : Argument → Option (ℤ × ℤ)
range_of (Simple (Literal (Range (Whole low) (Whole high)))) = Some (low.value, high.value)
range_of argument = None

abbrev pub place_of : Argument → ℕ
place_of (Simple basic) = basic_at basic
place_of (Text at) = at
place_of (Call name arguments) = name.at
place_of (Brackets at arguments) = at

-- the elements of the one list that is the argument
abbrev pub bracketed : List Argument → List Argument
bracketed (Brackets at arguments ∷ []) = list_of arguments
bracketed arguments = []

-- the index ranges of `output_array([low..high, ..])`, at least one
abbrev pub shape_in : Annotation → Option (List (ℤ × ℤ))
shape_in a = elim (bracketed (arguments_of a)) [
  | [] ↦ None
  | argument ∷ others ↦ all_of (map range_of (argument ∷ others))
]

-- ---- `output_var`, `output_array`

abbrev pub OUTPUT_VAR : List ℕ
OUTPUT_VAR = codes "output_var"

abbrev pub OUTPUT_ARRAY : List ℕ
OUTPUT_ARRAY = codes "output_array"

-- the annotation `output_var` without arguments
abbrev pub output_var_of : List Annotation → Option Annotation
output_var_of annotations = plain_annotation_of OUTPUT_VAR annotations

abbrev pub output_array_of : List Annotation → Option Annotation
output_array_of annotations = annotation_of OUTPUT_ARRAY annotations

-- the index ranges of the annotation `output_array`, if it has its form
abbrev pub shape_among : List Annotation → Option (List (ℤ × ℤ))
shape_among annotations = elim (output_array_of annotations) [ Some a ↦ shape_in a | None ↦ None ]

-- the place of a seventh index range
abbrev pub seventh : Annotation → List ℕ
seventh a = elim (slice_get (bracketed (arguments_of a)) 6) [ Some argument ↦ elim (range_of argument) [ Some r ↦ place_of argument ∷ [] | None ↦ [] ] | None ↦ [] ]

-- ---- `domain`

abbrev pub DOMAIN : List ℕ
DOMAIN = codes "domain"

-- whether whole domains are asked for: by the annotation `domain` without arguments
abbrev pub asks_whole : List Annotation → Bool
asks_whole annotations = elim (plain_annotation_of DOMAIN annotations) [ Some a ↦ true | None ↦ false ]
