-- Laws that the tokens keep: a text has one list of tokens, or one first fault.
use Rattle.std.specs.Prelude.{◌≡◌, ◌⊎◌, ℕ, List}
use Rattle.fz_language.specs.declared.fault.TokenFault.{TokenFault}
use Rattle.fz_language.specs.Tokens.{Token, AreTokensOf, HasFault}

-- a text has one list of tokens at most
abbrev pub TokensAreOne : Type 0
TokensAreOne = (text : List ℕ) (ts us : List Token) → AreTokensOf text ts → AreTokensOf text us → ts ≡ us

-- and one first fault at most
abbrev pub TokenFaultIsOne : Type 0
TokenFaultIsOne = (text : List ℕ) (f g : TokenFault) (a b : ℕ) → HasFault text f a → HasFault text g b → (f ≡ g) × (a ≡ b)

-- but not both
abbrev pub TokensOrFault : Type 0
TokensOrFault = (text : List ℕ) (ts : List Token) (f : TokenFault) (a : ℕ) → AreTokensOf text ts → HasFault text f a → ⊥

-- and one of the two
abbrev pub SomeTokens : Type 0
SomeTokens = (text : List ℕ) → ((ts : List Token) × AreTokensOf text ts) ⊎ ((fault : TokenFault) × (at : ℕ) × HasFault text fault at)
