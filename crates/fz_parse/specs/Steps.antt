-- What the steps of the reading say: which symbols were read, or where the reading of them stops.
use Rattle.std.specs.Prelude.{◌≡◌, ◌≢◌, ℕ, ℤ, ◌≤◌, List, [], ◌∷◌, Option, Some, None, Result, MatchResult, true}
use Rattle.fz_language.specs.declared.fault.SyntaxFault.TheVariants.{Unexpected, TooDeep}
use Rattle.fz_language.specs.declared.token_kind.TokenKind.{TokenKind}
use Rattle.fz_language.specs.declared.token_kind.TokenKind.TheVariants as kind
use Rattle.fz_language.specs.Tokens.{Token, Identifier, Word, Number, Float, Text, Punct}
use Rattle.fz_language.specs.Kinds.{number}
use Rattle.fz_language.specs.Trees as trees
use Rattle.fz_language.specs.Grammar.{Part, Tree, flatzinc, level_limit}
use Rattle.fz_grammar.specs.Grammar.{Symbol, Leaf, Rule, Trees}
use Rattle.fz_grammar.specs.Reading.{ReadsIn, StopsIn, IsOther, allowed}
use Rattle.fz_parse.specs.declared.stop.Stop.{Stop}
use Rattle.fz_parse.specs.declared.stop.Stop.TheVariants as stop

-- these symbols were read, and made these trees, while this many levels of brackets were open before
abbrev pub Read : ℕ → (ss : List (Symbol Part)) → Trees flatzinc ss → List Token → List Token → Type 0
Read l ss v old new = ReadsIn flatzinc level_limit l ss old new v

-- the bracket that is wanted stands there, and no more levels may open
abbrev pub IsOver : ℕ → ℕ → ℕ → Type 0
IsOver l k next = (l ≡ level_limit) × (next ≡ k) × (flatzinc.opens k ≡ true)

abbrev pub HaltsAt : Stop → ℕ → List (Symbol Part) → List Token → List Token → Type 0
HaltsAt stop.Memory l ss old new = Unit {0}
HaltsAt (stop.Fault Unexpected) l ss old new = StopsIn flatzinc level_limit IsOther l ss old new
HaltsAt (stop.Fault TooDeep) l ss old new = StopsIn flatzinc level_limit IsOver l ss old new

-- the reading of these symbols stops there, unless memory ran out
pub record Halts (l : ℕ) (ss : List (Symbol Part)) (old new : List Token) (why : Stop) : Type 0 where
  pub is : HaltsAt why l ss old new

-- a token that its kind and its place tell
abbrev pub IsMark : TokenKind → Type 0
IsMark kind.End = ⊥
IsMark kind.Identifier = ⊥
IsMark kind.Integer = ⊥
IsMark kind.Float = Unit {0}
IsMark kind.Text = Unit {0}
IsMark (kind.Sign s) = Unit {0}
IsMark (kind.Keyword k) = Unit {0}

abbrev pub mark : TokenKind → ℕ → Token
mark kind.End at = record { lexeme = Float; at = at }
mark kind.Identifier at = record { lexeme = Float; at = at }
mark kind.Integer at = record { lexeme = Float; at = at }
mark kind.Float at = record { lexeme = Float; at = at }
mark kind.Text at = record { lexeme = Text; at = at }
mark (kind.Sign s) at = record { lexeme = Punct s; at = at }
mark (kind.Keyword k) at = record { lexeme = Word k; at = at }

-- one token of this kind was read, wherever its bracket may open a level
abbrev pub TakesMark : TokenKind → ℕ → List Token → List Token → Type 0
TakesMark kind at old new =
    (l : ℕ) → allowed flatzinc level_limit (number kind) l ≡ true → Read l (Leaf (number kind) ∷ []) (mark kind at, tt) old new

abbrev pub TakesName : List ℕ → ℕ → List Token → List Token → Type 0
TakesName bytes at old new = (l : ℕ) → Read l (Leaf (number kind.Identifier) ∷ []) (record { lexeme = Identifier bytes; at = at }, tt) old new

abbrev pub TakesInteger : ℤ → ℕ → List Token → List Token → Type 0
TakesInteger value at old new = (l : ℕ) → Read l (Leaf (number kind.Integer) ∷ []) (record { lexeme = Number value; at = at }, tt) old new

-- another kind stands there
abbrev pub MissesKind : TokenKind → List Token → List Token → Stop → Type 0
MissesKind kind old new why = (l : ℕ) → Halts l (Leaf (number kind) ∷ []) old new why

-- a token of another kind stops the reading, and no lack of memory
abbrev pub IsUnexpected : Stop → Type 0
IsUnexpected why = why ≡ stop.Fault Unexpected

-- an element that is no integer
abbrev pub IsNoInteger : trees.Basic → Type 0
IsNoInteger basic = (i : trees.Integer) → basic ≢ trees.Numeral (trees.Whole i)

-- What a rule's function says: the rule was read, and made this tree, whatever levels are open; or its reading stops.
abbrev pub Parses : {A : Type 0} → (n : Part) → (A → Tree n) → List Token → List Token → Result A Stop → Type 0
Parses n tree_of old new result = MatchResult result
    (λ x. (l : ℕ) → Read l (Rule n ∷ []) (tree_of x, tt) old new)
    (λ why. (l : ℕ) → Halts l (Rule n ∷ []) old new why)

-- the same of a rule in which brackets open, a few levels below the limit
abbrev pub ParsesLow : {A : Type 0} → (n : Part) → (A → Tree n) → List Token → List Token → Result A Stop → Type 0
ParsesLow n tree_of old new result = MatchResult result
    (λ x. (l : ℕ) → l ≤ 8 → Read l (Rule n ∷ []) (tree_of x, tt) old new)
    (λ why. (l : ℕ) → l ≤ 8 → Halts l (Rule n ∷ []) old new why)

abbrev pub option_of : {A B : Type 0} → (A → B) → Option A → Option B
option_of f None = None
option_of f (Some x) = Some (f x)

-- the same of a rule while this many levels are open
abbrev pub ParsesAt : {A : Type 0} → ℕ → (n : Part) → (A → Tree n) → List Token → List Token → Result A Stop → Type 0
ParsesAt l n tree_of old new result = MatchResult result (λ x. Read l (Rule n ∷ []) (tree_of x, tt) old new) (Halts l (Rule n ∷ []) old new)
