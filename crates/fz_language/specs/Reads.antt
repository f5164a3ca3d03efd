-- How a text is read: accepted with its model, or refused with a code and a place, the first in the order of refusals (fzn's own
-- rule): the text's length; then the first fault of its tokens; then its syntax; then the first item that breaks a rule.
use Rattle.std.specs.Prelude.{◌≡◌, ℕ, ◌≤◌, ◌<◌, ◌⊎◌, List, [], ◌∷◌, ◌++◌, length}
use Rattle.fz_spec.specs.declared.limits.TheConstants.{TEXT_LIMIT}
use Rattle.fz_spec.specs.declared.code.Code.{Code}
use Rattle.fz_spec.specs.declared.code.Code.TheVariants as code
use Rattle.fz_spec.specs.Instance.{Instance}
use Rattle.fz_language.specs.declared.fault.TokenFault.{TokenFault}
use Rattle.fz_language.specs.declared.fault.TokenFault.TheVariants.{UnknownByte, LargeNumber}
use Rattle.fz_language.specs.declared.fault.SyntaxFault.{SyntaxFault}
use Rattle.fz_language.specs.declared.fault.SyntaxFault.TheVariants.{Unexpected, TooDeep}
use Rattle.fz_language.specs.declared.fault.RuleFault.{RuleFault}
use Rattle.fz_language.specs.declared.fault.RuleFault.TheVariants as rule
use Rattle.fz_language.specs.Places.{line_of, column_of}
use Rattle.fz_language.specs.Tokens.{Token, place_in, AreTokensOf, HasFault}
use Rattle.fz_language.specs.Grammar.{Spells, Breaks, IsTooDeep}
use Rattle.fz_language.specs.Trees.{Item, Program, SolveItem}
use Rattle.fz_language.specs.Rules.{Fault, Counts, none_yet, all_counted, additions, faults_of, solve_faults}
use Rattle.fz_language.specs.Models.{Scope, empty_scope, behind, model_of}

-- ---- codes

abbrev pub token_code : TokenFault → Code
token_code UnknownByte = code.UnknownByte
token_code LargeNumber = code.LargeNumber

abbrev pub syntax_code : SyntaxFault → Code
syntax_code Unexpected = code.UnexpectedToken
syntax_code TooDeep = code.OverLimit

abbrev pub rule_code : RuleFault → Code
rule_code rule.Unsupported = code.Unsupported
rule_code rule.UnknownConstraint = code.UnknownConstraint
rule_code rule.WrongArity = code.WrongArity
rule_code rule.UnknownName = code.UnknownName
rule_code rule.WrongType = code.WrongType
rule_code rule.WrongLengths = code.WrongLengths
rule_code rule.DeclaredTwice = code.DeclaredTwice
rule_code rule.OverLimit = code.OverLimit

-- ---- the rules that a program breaks

-- those of items after a scope and that many additions, and then those of the solve item
abbrev pub faults_from : Scope → Counts → List Item → SolveItem → List Fault
faults_from s n [] solve = solve_faults s.entries solve
faults_from s n (item ∷ items) solve = faults_of s.entries n item ++ faults_from (behind s item) (all_counted n (additions item)) items solve

abbrev pub program_faults : Program → List Fault
program_faults p = faults_from empty_scope none_yet p.items p.solve

-- ---- reading

abbrev pub IsShort : List ℕ → Type 0
IsShort text = length text ≤ TEXT_LIMIT

-- a text that is too long, at the first byte over the limit
pub record IsTooLong (text : List ℕ) (c : Code) (at : ℕ) : Type 0 where
  pub long : TEXT_LIMIT < length text
  pub code : c ≡ code.OverLimit
  pub place : at ≡ TEXT_LIMIT

-- a text whose tokens have a fault
pub record IsUnlexed (text : List ℕ) (c : Code) (at : ℕ) : Type 0 where
  pub short : IsShort text
  pub fault : TokenFault
  pub first : HasFault text fault at
  pub code : c ≡ token_code fault

-- a text whose tokens spell no program: the token with which none goes on, or a bracket over the limit
pub record IsUnspelt (text : List ℕ) (c : Code) (at : ℕ) : Type 0 where
  pub short : IsShort text
  pub tokens : List Token
  pub lexed : AreTokensOf text tokens
  pub tokens_behind : List Token
  pub fault : ((c ≡ syntax_code Unexpected) × Breaks tokens tokens_behind) ⊎ ((c ≡ syntax_code TooDeep) × IsTooDeep tokens tokens_behind)
  pub place : at ≡ place_in text tokens_behind

-- a text whose tokens spell a program
pub record IsProgramText (text : List ℕ) (p : Program) : Type 0 where
  pub short : IsShort text
  pub tokens : List Token
  pub lexed : AreTokensOf text tokens
  pub spelt : Spells tokens p

-- the first of these is the fault
abbrev pub IsFirst : List Fault → Code → ℕ → Type 0
IsFirst [] c at = ⊥
IsFirst (fault ∷ faults) c at = (c ≡ rule_code fault.rule) × (at ≡ fault.at)

-- a text whose tokens spell a program that breaks a rule
pub record IsWrong (text : List ℕ) (c : Code) (at : ℕ) : Type 0 where
  pub program : Program
  pub spelt : IsProgramText text program
  pub first : IsFirst (program_faults program) c at

-- refused with this code at this byte, by one of the four causes
abbrev pub IsRefusedAt : List ℕ → Code → ℕ → Type 0
IsRefusedAt text c at = IsTooLong text c at ⊎ (IsUnlexed text c at ⊎ (IsUnspelt text c at ⊎ IsWrong text c at))

pub record IsAccepted (text : List ℕ) (m : Instance) : Type 0 where
  pub program : Program
  pub spelt : IsProgramText text program
  pub keep : program_faults program ≡ []
  pub is : m ≡ model_of program

pub record IsRefused (text : List ℕ) (c : Code) (line column : ℕ) : Type 0 where
  pub at : ℕ
  pub refused : IsRefusedAt text c at
  pub line_is : line ≡ line_of text at
  pub column_is : column ≡ column_of text at

pub data Reading : Type 0 where
  Accepted : (model : Instance) → Reading
  Refused : (code : Code) (line column : ℕ) → Reading

abbrev pub Reads : List ℕ → Reading → Type 0
Reads text (Accepted m) = IsAccepted text m
Reads text (Refused c line column) = IsRefused text c line column
