-- What a sink took of some text.
use Rattle.std.specs.Prelude.{◌≡◌, ℕ, ◌<◌, List, Option, length}
use Rattle.fz_io.specs.Outside.{with_more}
use Rattle.fz_printer.specs.Texts.{TakesFront}
use Rattle.fz_maker.specs.Making.{IsAhead, Making}

-- a text with a property, whole
pub record TakesOne (P : List ℕ → Type 0) (before after : Option (List ℕ)) : Type 0 where
  pub text : List ℕ
  pub is : P text
  pub taken : after ≡ with_more before text

-- a prefix of a text with a property, which lacks one byte at least
pub record TakesFrontOfOne (P : List ℕ → Type 0) (before after : Option (List ℕ)) : Type 0 where
  pub text : List ℕ
  pub is : P text
  pub front : TakesFront text before after

-- bytes are ahead of a maker
pub record HasMore (k : Making) : Type 0 where
  pub text : List ℕ
  pub ahead : IsAhead k text
  pub some : 0 < length text
