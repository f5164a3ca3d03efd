-- The tokens of a knapsack spell its program.
use Rattle.std.proofs.Common.{◌≡◌, ℕ, zero, suc, ◌+◌, ◌/◌, true, List, [], ◌∷◌, ◌++◌, length, codes, refl}
use Rattle.fz_language.specs.declared.sign.Sign.TheVariants.{Semicolon, Comma, RightParenthesis, RightBracket}
use Rattle.fz_language.specs.Tokens.{Token}
use Rattle.fz_language.specs.Kinds.{kind_of}
use Rattle.fz_language.specs.Kinds as kinds
use Rattle.fz_language.specs.Trees as trees
use Rattle.fz_language.specs.Grammar.{Part, WholeProgram, Items, OneItem, VariableItem, OptionalValue, ValueType, Plain, SetLiteral, OneNumber, Constant, RangeEnd, Basic, ListLiteral, Expression, ConstraintItem, SolveItem, Method, Annotations, Annotation, Called, Listed, More, Elements, Expressions, flatzinc, Tree, rules, level_limit, Spells}
use Rattle.fz_grammar.specs.Grammar.{Symbol, Leaf, Rule, Trees, Alternative}
use Rattle.fz_grammar.specs.Tables.{last}
use Rattle.fz_grammar.specs.Reading.{head, chosen, level, allowed, ReadsIn, DoneIn, TookIn, ChoseIn}
use Rattle.fz_grammar.proofs.Steps.{joined}
use Rattle.fz_language.proofs.SyntaxProofs.{program_accepted}
use Rattle.fz_gen.proofs.Spelling.{Piece, tokens}
use Rattle.fz_gen.proofs.Texts.{Entry, Written, Known, bytes_in, entry, sign, further, elements, listed, choice, choices, goal, sum, weights, values, solve, whole, measures, names, number, nought, minus_one, goal_name, line}
use Rattle.fz_gen.proofs.Trees.{basic, further_basics, further_end, basics, list_end, list, choice_item, choice_end, choice_items, choices_end, goal_item, goal_end, factors_at, terms_at, bound_at, sum_item, sum_end, solve_item, weights_item, weights_end, values_item, last_items, last_end, program}
use Rattle.fz_gen.specs.declared.text.Measure.TheVariants.{Weight, Value}
use Rattle.fz_gen.specs.Knapsack.{total}

-- ---- steps of a reading

-- these symbols are read from tokens up to others, and make this tree
record ReadTo (l : ℕ) (ss : List (Symbol Part)) (old new : List Token) : Type 0 where
  tree : Trees flatzinc ss
  is : ReadsIn flatzinc level_limit l ss old new tree

abbrev ends : {l : ℕ} {ts : List Token} → ReadTo l [] ts ts
ends {l} {ts} = record { tree = tt; is = DoneIn l ts }

abbrev takes : {l k : ℕ} {ss : List (Symbol Part)} {t : Token} {ts new : List Token} → kinds.number (kind_of t.lexeme) ≡ k → allowed flatzinc level_limit k l ≡ true → ReadTo (level flatzinc k l) ss ts new → ReadTo l (Leaf k ∷ ss) (t ∷ ts) new
takes {l} {k} {ss} {t} {ts} {new} e f r = record { tree = (t, r.tree); is = TookIn l k ss t ts new r.tree e f r.is }

abbrev opens : {l : ℕ} {ss : List (Symbol Part)} {old mid new : List Token} (n : Part) → ReadTo l (chosen (rules n) (head flatzinc old)).body old mid → ReadTo l ss mid new → ReadTo l (Rule n ∷ ss) old new
opens {l} {ss} {old} {mid} {new} n r s =
    let a = chosen (rules n) (head flatzinc old) in
    record { tree = (a.build r.tree, s.tree); is = ChoseIn l n a ss old mid new r.tree s.tree refl r.is s.is }

-- one symbol, and then others
abbrev before : {l : ℕ} {n : Part} {ss : List (Symbol Part)} {old mid new : List Token} → ReadTo l (Rule n ∷ []) old mid → ReadTo l ss mid new → ReadTo l (Rule n ∷ ss) old new
before {l} {n} {ss} {old} {mid} {new} r s = record { tree = (r.tree.0, s.tree); is = joined flatzinc level_limit l (Rule n ∷ []) ss old mid new r.tree s.tree r.is s.is }

-- ---- lists

entry_read : (l at : ℕ) (e : Entry) (es : List Entry) (ps : List Piece) → ReadsIn flatzinc level_limit l (Rule Basic ∷ []) (tokens at (entry e ∷ further es ps)) (tokens (at + length (bytes_in e)) (further es ps)) (basic at e, tt)
entry_read l at (Known name) es ps =
    let r : ReadTo l (Rule Basic ∷ []) (tokens at (entry (Known name) ∷ further es ps)) (tokens (at + length name) (further es ps)) = opens Basic (takes refl refl ends) ends in
    r.is
entry_read l at (Written value digits) [] ps =
    let r : ReadTo l (Rule Basic ∷ []) (tokens at (entry (Written value digits) ∷ further [] ps)) (tokens (at + length digits) (further [] ps)) =
    opens Basic (opens Constant (opens OneNumber (takes refl refl ends) (opens RangeEnd ends ends)) ends) ends in
    r.is
entry_read l at (Written value digits) (f ∷ es) ps =
    let r : ReadTo l (Rule Basic ∷ []) (tokens at (entry (Written value digits) ∷ further (f ∷ es) ps)) (tokens (at + length digits) (further (f ∷ es) ps)) =
    opens Basic (opens Constant (opens OneNumber (takes refl refl ends) (opens RangeEnd ends ends)) ends) ends in
    r.is

further_read : (l at : ℕ) (es : List Entry) (ps : List Piece) → ReadsIn flatzinc level_limit l (Rule (More Elements) ∷ []) (tokens at (further es ps)) (tokens (further_end at es) (sign RightBracket ∷ ps)) (further_basics at es, tt)
further_read l at [] ps =
    let r : ReadTo l (Rule (More Elements) ∷ []) (tokens at (further [] ps)) (tokens at (sign RightBracket ∷ ps)) = opens (More Elements) ends ends in
    r.is
further_read l at (e ∷ es) ps =
    let behind = at + 1 + length (bytes_in e) in
    let first : ReadTo l (Rule Basic ∷ []) (tokens (at + 1) (entry e ∷ further es ps)) (tokens behind (further es ps)) = record { tree = (basic (at + 1) e, tt); is = entry_read l (at + 1) e es ps } in
    let others : ReadTo l (Rule (More Elements) ∷ []) (tokens behind (further es ps)) (tokens (further_end behind es) (sign RightBracket ∷ ps)) = record { tree = (further_basics behind es, tt); is = further_read l behind es ps } in
    let r : ReadTo l (Rule (More Elements) ∷ []) (tokens at (further (e ∷ es) ps)) (tokens (further_end behind es) (sign RightBracket ∷ ps)) = opens (More Elements) (takes refl refl (before first others)) ends in
    r.is

-- the alternative of a list that isn't empty
abbrev SomeElements : Alternative Tree Token (Listed Elements)
SomeElements = last (rules (Listed Elements))

some_read : (l at : ℕ) (e : Entry) (es : List Entry) (ps : List Piece) → chosen (rules (Listed Elements)) (head flatzinc (tokens (at + 1) (entry e ∷ further es ps))) ≡ SomeElements
    → ReadsIn flatzinc level_limit l (Rule (Listed Elements) ∷ []) (tokens (at + 1) (entry e ∷ further es ps)) (tokens (further_end (at + 1 + length (bytes_in e)) es) (sign RightBracket ∷ ps)) (basics at (e ∷ es), tt)
some_read l at e es ps is =
    let behind = at + 1 + length (bytes_in e) in
    let end = tokens (further_end behind es) (sign RightBracket ∷ ps) in
    let first : ReadTo l (Rule Basic ∷ []) (tokens (at + 1) (entry e ∷ further es ps)) (tokens behind (further es ps)) = record { tree = (basic (at + 1) e, tt); is = entry_read l (at + 1) e es ps } in
    let others : ReadTo l (Rule (More Elements) ∷ []) (tokens behind (further es ps)) end = record { tree = (further_basics behind es, tt); is = further_read l behind es ps } in
    let r : ReadTo l (Rule Basic ∷ Rule (More Elements) ∷ []) (tokens (at + 1) (entry e ∷ further es ps)) end = before first others in
    ChoseIn l (Listed Elements) SomeElements [] (tokens (at + 1) (entry e ∷ further es ps)) end end r.tree tt is r.is (DoneIn l end)

listed_read : (l at : ℕ) (es : List Entry) (ps : List Piece) → ReadsIn flatzinc level_limit l (Rule (Listed Elements) ∷ []) (tokens (at + 1) (elements es ps)) (tokens (list_end at es) (sign RightBracket ∷ ps)) (basics at es, tt)
listed_read l at [] ps =
    let r : ReadTo l (Rule (Listed Elements) ∷ []) (tokens (at + 1) (sign RightBracket ∷ ps)) (tokens (at + 1) (sign RightBracket ∷ ps)) = opens (Listed Elements) ends ends in
    r.is
listed_read l at (Known name ∷ es) ps = some_read l at (Known name) es ps refl
listed_read l at (Written value digits ∷ es) ps = some_read l at (Written value digits) es ps refl

list_read : (at : ℕ) (es : List Entry) (ps : List Piece) → ReadsIn flatzinc level_limit 1 (Rule Expression ∷ []) (tokens at (listed es ps)) (tokens (list_end at es + 1) ps) (list at es, tt)
list_read at es ps =
    let inside : ReadTo 2 (Rule (Listed Elements) ∷ []) (tokens (at + 1) (elements es ps)) (tokens (list_end at es) (sign RightBracket ∷ ps)) = record { tree = (basics at es, tt); is = listed_read 2 at es ps } in
    let r : ReadTo 1 (Rule Expression ∷ []) (tokens at (listed es ps)) (tokens (list_end at es + 1) ps) =
    opens Expression (opens ListLiteral (takes refl refl (before inside (takes refl refl ends))) ends) ends in
    r.is

-- the bound of a sum, before the parenthesis that closes
bound_read : (at : ℕ) (e : Entry) (ps : List Piece) → ReadsIn flatzinc level_limit 1 (Rule Expression ∷ []) (tokens at (entry e ∷ sign RightParenthesis ∷ ps)) (tokens (at + length (bytes_in e)) (sign RightParenthesis ∷ ps)) (trees.Scalar (basic at e), tt)
bound_read at (Known name) ps =
    let r : ReadTo 1 (Rule Expression ∷ []) (tokens at (entry (Known name) ∷ sign RightParenthesis ∷ ps)) (tokens (at + length name) (sign RightParenthesis ∷ ps)) =
    opens Expression (opens Basic (takes refl refl ends) ends) ends in
    r.is
bound_read at (Written value digits) ps =
    let r : ReadTo 1 (Rule Expression ∷ []) (tokens at (entry (Written value digits) ∷ sign RightParenthesis ∷ ps)) (tokens (at + length digits) (sign RightParenthesis ∷ ps)) =
    opens Expression (opens Basic (opens Constant (opens OneNumber (takes refl refl ends) (opens RangeEnd ends ends)) ends) ends) ends in
    r.is

-- ---- items

-- an item before others
one_more : (item : trees.Item) (items : List trees.Item) (old mid new : List Token) → chosen (rules Items) (head flatzinc old) ≡ chosen (rules Items) 31 → ReadsIn flatzinc level_limit 0 (Rule OneItem ∷ []) old mid (item, tt)
    → ReadsIn flatzinc level_limit 0 (Rule Items ∷ []) mid new (items, tt) → ReadsIn flatzinc level_limit 0 (Rule Items ∷ []) old new (item ∷ items, tt)
one_more item items old mid new e h k =
    let first : ReadTo 0 (Rule OneItem ∷ []) old mid = record { tree = (item, tt); is = h } in
    let others : ReadTo 0 (Rule Items ∷ []) mid new = record { tree = (items, tt); is = k } in
    let r : ReadTo 0 (Rule OneItem ∷ Rule Items ∷ []) old new = before first others in
    ChoseIn 0 Items (chosen (rules Items) 31) [] old new new r.tree tt e r.is (DoneIn 0 new)

choice_read : (i at : ℕ) (ps : List Piece) → ReadsIn flatzinc level_limit 0 (Rule OneItem ∷ []) (tokens at (choice i ps)) (tokens (choice_end at i) ps) (choice_item at i, tt)
choice_read i at ps =
    let r : ReadTo 0 (Rule OneItem ∷ []) (tokens at (choice i ps)) (tokens (choice_end at i) ps) =
    opens OneItem
    (opens VariableItem
    (takes refl refl
    (opens ValueType (opens Plain (opens SetLiteral (opens OneNumber (takes refl refl ends) (takes refl refl (opens OneNumber (takes refl refl ends) ends))) ends) ends)
    (takes refl refl (takes refl refl (opens Annotations ends (opens OptionalValue ends (takes refl refl ends)))))))
    ends)
    ends in
    r.is

choices_read : (k i at : ℕ) (ps : List Piece) (more : List trees.Item) (new : List Token) → ReadsIn flatzinc level_limit 0 (Rule Items ∷ []) (tokens (choices_end at i k) ps) new (more, tt) → ReadsIn flatzinc level_limit 0 (Rule Items ∷ []) (tokens at (choices i k ps)) new (choice_items at i k more, tt)
choices_read zero i at ps more new h = h
choices_read (suc k) i at ps more new h =
    one_more (choice_item at i) (choice_items (choice_end at i) (i + 1) k more) (tokens at (choice i (choices (i + 1) k ps))) (tokens (choice_end at i) (choices (i + 1) k ps)) new refl
    (choice_read i at (choices (i + 1) k ps)) (choices_read k (i + 1) (choice_end at i) ps more new h)

goal_read : (most at : ℕ) (ps : List Piece) → ReadsIn flatzinc level_limit 0 (Rule OneItem ∷ []) (tokens at (goal most ps)) (tokens (goal_end at most) ps) (goal_item at most, tt)
goal_read most at ps =
    let r : ReadTo 0 (Rule OneItem ∷ []) (tokens at (goal most ps)) (tokens (goal_end at most) ps) =
    opens OneItem
    (opens VariableItem
    (takes refl refl
    (opens ValueType (opens Plain (opens SetLiteral (opens OneNumber (takes refl refl ends) (takes refl refl (opens OneNumber (takes refl refl ends) ends))) ends) ends)
    (takes refl refl
    (takes refl refl
    (opens Annotations (takes refl refl (opens Annotation (takes refl refl (opens Called ends ends)) (opens Annotations ends ends)))
    (opens OptionalValue ends (takes refl refl ends)))))))
    ends)
    ends in
    r.is

sum_read : (name : List ℕ) (factors terms : List Entry) (bound : Entry) (at : ℕ) (ps : List Piece) → ReadsIn flatzinc level_limit 0 (Rule OneItem ∷ []) (tokens at (sum name factors terms bound ps)) (tokens (sum_end at name factors terms bound) ps) (sum_item at name factors terms bound, tt)
sum_read name factors terms bound at ps =
    let a = factors_at at name in
    let b = terms_at at name factors in
    let c = bound_at at name factors terms in
    let behind = sign RightParenthesis ∷ sign Semicolon ∷ line ∷ ps in
    let two = sign Comma ∷ entry bound ∷ behind in
    let one = sign Comma ∷ listed terms two in
    let first : ReadTo 1 (Rule Expression ∷ []) (tokens a (listed factors one)) (tokens (list_end a factors + 1) one) = record { tree = (list a factors, tt); is = list_read a factors one } in
    let second : ReadTo 1 (Rule Expression ∷ []) (tokens b (listed terms two)) (tokens (list_end b terms + 1) two) = record { tree = (list b terms, tt); is = list_read b terms two } in
    let third : ReadTo 1 (Rule Expression ∷ []) (tokens c (entry bound ∷ behind)) (tokens (c + length (bytes_in bound)) behind) = record { tree = (trees.Scalar (basic c bound), tt); is = bound_read c bound (sign Semicolon ∷ line ∷ ps) } in
    let r : ReadTo 0 (Rule OneItem ∷ []) (tokens at (sum name factors terms bound ps)) (tokens (sum_end at name factors terms bound) ps) =
    opens OneItem
    (opens ConstraintItem
    (takes refl refl
    (takes refl refl
    (takes refl refl
    (opens (Listed Expressions)
    (before first (opens (More Expressions) (takes refl refl (before second (opens (More Expressions) (takes refl refl (before third (opens (More Expressions) ends ends))) ends))) ends))
    (takes refl refl (opens Annotations ends (takes refl refl ends)))))))
    ends)
    ends in
    r.is

solve_read : (at : ℕ) → ReadsIn flatzinc level_limit 0 (Rule SolveItem ∷ []) (tokens at solve) [] (solve_item at, tt)
solve_read at =
    let r : ReadTo 0 (Rule SolveItem ∷ []) (tokens at solve) [] =
    opens SolveItem (takes refl refl (opens Annotations ends (opens Method (takes refl refl (opens Basic (takes refl refl ends) ends)) (takes refl refl ends)))) ends in
    r.is

-- ---- the whole

none_more : (at : ℕ) → ReadsIn flatzinc level_limit 0 (Rule Items ∷ []) (tokens at solve) (tokens at solve) ([], tt)
none_more at =
    let r : ReadTo 0 (Rule Items ∷ []) (tokens at solve) (tokens at solve) = opens Items ends ends in
    r.is

last_read : (n at : ℕ) → ReadsIn flatzinc level_limit 0 (Rule Items ∷ []) (tokens at (goal (total Value n) (weights n (values n solve)))) (tokens (last_end at n) solve) (last_items at n, tt)
last_read n at =
    let b = goal_end at (total Value n) in
    let c = weights_end b n in
    let end = tokens (last_end at n) solve in
    one_more (goal_item at (total Value n)) (weights_item b n ∷ values_item c n ∷ []) (tokens at (goal (total Value n) (weights n (values n solve)))) (tokens b (weights n (values n solve))) end refl (goal_read (total Value n) at (weights n (values n solve)))
    (one_more (weights_item b n) (values_item c n ∷ []) (tokens b (weights n (values n solve))) (tokens c (values n solve)) end refl
    (sum_read (codes "int_lin_le") (measures Weight n) (names n) (number (total Weight n / 2)) b (values n solve))
    (one_more (values_item c n) [] (tokens c (values n solve)) end end refl
    (sum_read (codes "int_lin_eq") (measures Value n ++ minus_one ∷ []) (names n ++ Known goal_name ∷ []) nought c solve) (none_more (last_end at n))))

program_read : (n : ℕ) → ReadsIn flatzinc level_limit 0 (Rule WholeProgram ∷ []) (tokens 0 (whole n)) [] (program n, tt)
program_read n =
    let at = choices_end 0 1 n in
    let mid = tokens (last_end at n) solve in
    let items : ReadTo 0 (Rule Items ∷ []) (tokens 0 (whole n)) mid =
    record { tree = (choice_items 0 1 n (last_items at n), tt); is = choices_read n 1 0 (goal (total Value n) (weights n (values n solve))) (last_items at n) mid (last_read n at) } in
    let solved : ReadTo 0 (Rule SolveItem ∷ []) mid [] = record { tree = (solve_item (last_end at n), tt); is = solve_read (last_end at n) } in
    let r : ReadTo 0 (Rule Items ∷ Rule SolveItem ∷ []) (tokens 0 (whole n)) [] = before items solved in
    ChoseIn 0 WholeProgram (last (rules WholeProgram)) [] (tokens 0 (whole n)) [] [] r.tree tt refl r.is (DoneIn 0 [])

pub spells : (n : ℕ) → Spells (tokens 0 (whole n)) (program n)
spells n = program_accepted (tokens 0 (whole n)) (program n) (program_read n)
