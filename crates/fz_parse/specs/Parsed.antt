-- What a text that is none of a program says.
use Rattle.std.specs.Prelude.{◌≡◌, ℕ, List}
use Rattle.fz_language.specs.declared.fault.SyntaxFault.{SyntaxFault}
use Rattle.fz_language.specs.declared.fault.SyntaxFault.TheVariants.{Unexpected, TooDeep}
use Rattle.fz_language.specs.Tokens.{Token, AreTokensOf, HasFault, place_in}
use Rattle.fz_language.specs.Grammar.{Breaks, IsTooDeep}
use Rattle.fz_parse.specs.declared.stop.Stop.{Stop}
use Rattle.fz_parse.specs.declared.stop.Stop.TheVariants as stop
use Rattle.fz_parse.specs.declared.parser.ParseFault.{ParseFault}
use Rattle.fz_parse.specs.declared.parser.TextFault.{TextFault}
use Rattle.fz_parse.specs.declared.parser.TextFault.TheVariants as text_fault

-- what is at fault where these tokens of the text begin
abbrev pub IsAtFault : List Token → SyntaxFault → List Token → Type 0
IsAtFault ts Unexpected behind = Breaks ts behind
IsAtFault ts TooDeep behind = IsTooDeep ts behind

abbrev pub Blames : List Token → Stop → List Token → Type 0
Blames ts stop.Memory behind = Unit {0}
Blames ts (stop.Fault cause) behind = IsAtFault ts cause behind

-- the fault of a text's tokens, at the place of the first token after it, or of the text's end
pub record HasSyntaxFault (text : List ℕ) (fault : ParseFault) : Type 0 where
  pub tokens : List Token
  pub lexed : AreTokensOf text tokens
  pub behind : List Token
  pub faulty : IsAtFault tokens fault.cause behind
  pub placed : fault.at ≡ place_in text behind

-- the first fault of the text's tokens, or the fault of their syntax
abbrev pub IsTextFault : List ℕ → TextFault → Type 0
IsTextFault text (text_fault.Token fault) = HasFault text fault.cause fault.at
IsTextFault text (text_fault.Syntax fault) = HasSyntaxFault text fault
