-- The program of a knapsack, with the places of its tokens.
use Rattle.std.proofs.Common.{ℕ, zero, suc, pos, ◌+◌, ◌/◌, List, [], ◌∷◌, ◌++◌, length, codes, None}
use Rattle.std.specs.Prelude.{decimal}
use Rattle.fz_language.specs.Trees.{Whole, SetLiteral, Range, Within, One, Basic, Numeral, Named, Expression, Scalar, Listed, Item, Variable, Constraint, SolveItem, Maximize, Program}
use Rattle.fz_gen.specs.declared.text.Measure.TheVariants.{Weight, Value}
use Rattle.fz_gen.specs.Knapsack.{total}
use Rattle.fz_gen.proofs.Texts.{Entry, Written, Known, bytes_in, number, nought, minus_one, name_of, goal_name, measures, names}

abbrev pub basic : ℕ → Entry → Basic
basic at (Written value digits) = Numeral (Whole (record { value = value; at = at }))
basic at (Known name) = Named (record { bytes = name; at = at })

-- the elements of a list from the second on, and the place of the bracket after them
abbrev pub further_basics : ℕ → List Entry → List Basic
further_basics at [] = []
further_basics at (e ∷ es) = basic (at + 1) e ∷ further_basics (at + 1 + length (bytes_in e)) es

abbrev pub further_end : ℕ → List Entry → ℕ
further_end at [] = at
further_end at (e ∷ es) = further_end (at + 1 + length (bytes_in e)) es

-- all elements of a list at whose place its bracket stands
abbrev pub basics : ℕ → List Entry → List Basic
basics at [] = []
basics at (e ∷ es) = basic (at + 1) e ∷ further_basics (at + 1 + length (bytes_in e)) es

abbrev pub list_end : ℕ → List Entry → ℕ
list_end at [] = at + 1
list_end at (e ∷ es) = further_end (at + 1 + length (bytes_in e)) es

abbrev pub list : ℕ → List Entry → Expression
list at es = Listed (record { at = at; elements = basics at es })

-- the set from 0 to a number, by the places of the two
abbrev pub up_to : ℕ → ℕ → ℕ → SetLiteral
up_to most a b = Range (Whole (record { value = pos 0; at = a })) (Whole (record { value = pos most; at = b }))

-- `var 0..1: x1;` at a place, and the place after it
abbrev pub choice_at : ℕ → ℕ
choice_at at = at + 3 + 1 + 1 + 2 + 1 + 1 + 1

abbrev pub choice_item : ℕ → ℕ → Item
choice_item at i = Variable (record {
  value_type = One (Within (up_to 1 (at + 3 + 1) (at + 3 + 1 + 1 + 2)));
  name = record { bytes = name_of i; at = choice_at at };
  annotations = [];
  value = None;
})

abbrev pub choice_end : ℕ → ℕ → ℕ
choice_end at i = choice_at at + length (name_of i) + 1 + 1

-- that many of them, from a number on, before other items
abbrev pub choice_items : ℕ → ℕ → ℕ → List Item → List Item
choice_items at i zero more = more
choice_items at i (suc k) more = choice_item at i ∷ choice_items (choice_end at i) (i + 1) k more

abbrev pub choices_end : ℕ → ℕ → ℕ → ℕ
choices_end at i zero = at
choices_end at i (suc k) = choices_end (choice_end at i) (i + 1) k

-- `var 0..9: z :: output_var;` at a place
abbrev pub number_behind : ℕ → ℕ
number_behind at = at + 3 + 1 + 1 + 2

abbrev pub goal_at : ℕ → ℕ → ℕ
goal_at at most = number_behind at + length (decimal most) + 1 + 1

abbrev pub output_at : ℕ → ℕ → ℕ
output_at at most = goal_at at most + 1 + 1 + 2 + 1

abbrev pub goal_item : ℕ → ℕ → Item
goal_item at most = Variable (record {
  value_type = One (Within (up_to most (at + 3 + 1) (number_behind at)));
  name = record { bytes = goal_name; at = goal_at at most };
  annotations = record { name = record { bytes = codes "output_var"; at = output_at at most }; arguments = None } ∷ [];
  value = None;
})

abbrev pub goal_end : ℕ → ℕ → ℕ
goal_end at most = output_at at most + 10 + 1 + 1

-- `constraint NAME([..],[..],N);` at a place
abbrev pub factors_at : ℕ → List ℕ → ℕ
factors_at at name = at + 10 + 1 + length name + 1

abbrev pub terms_at : ℕ → List ℕ → List Entry → ℕ
terms_at at name factors = list_end (factors_at at name) factors + 1 + 1

abbrev pub bound_at : ℕ → List ℕ → List Entry → List Entry → ℕ
bound_at at name factors terms = list_end (terms_at at name factors) terms + 1 + 1

abbrev pub sum_item : ℕ → List ℕ → List Entry → List Entry → Entry → Item
sum_item at name factors terms bound = Constraint (record {
  name = record { bytes = name; at = at + 10 + 1 };
  arguments = list (factors_at at name) factors ∷ list (terms_at at name factors) terms ∷ Scalar (basic (bound_at at name factors terms) bound) ∷ [];
  annotations = [];
})

abbrev pub sum_end : ℕ → List ℕ → List Entry → List Entry → Entry → ℕ
sum_end at name factors terms bound = bound_at at name factors terms + length (bytes_in bound) + 1 + 1 + 1

-- `solve maximize z;` at a place
abbrev pub solve_item : ℕ → SolveItem
solve_item at = record {
  annotations = [];
  method = Maximize (at + 5 + 1) (Named (record { bytes = goal_name; at = at + 5 + 1 + 8 + 1 }));
}

-- ---- the whole

abbrev pub weights_item : ℕ → ℕ → Item
weights_item at n = sum_item at (codes "int_lin_le") (measures Weight n) (names n) (number (total Weight n / 2))

abbrev pub weights_end : ℕ → ℕ → ℕ
weights_end at n = sum_end at (codes "int_lin_le") (measures Weight n) (names n) (number (total Weight n / 2))

abbrev pub values_item : ℕ → ℕ → Item
values_item at n = sum_item at (codes "int_lin_eq") (measures Value n ++ minus_one ∷ []) (names n ++ Known goal_name ∷ []) nought

abbrev pub values_end : ℕ → ℕ → ℕ
values_end at n = sum_end at (codes "int_lin_eq") (measures Value n ++ minus_one ∷ []) (names n ++ Known goal_name ∷ []) nought

abbrev pub last_items : ℕ → ℕ → List Item
last_items at n = goal_item at (total Value n) ∷ weights_item (goal_end at (total Value n)) n ∷ values_item (weights_end (goal_end at (total Value n)) n) n ∷ []

abbrev pub last_end : ℕ → ℕ → ℕ
last_end at n = values_end (weights_end (goal_end at (total Value n)) n) n

abbrev pub program : ℕ → Program
program n = record { items = choice_items 0 1 n (last_items (choices_end 0 1 n) n); solve = solve_item (last_end (choices_end 0 1 n) n) }
