-- What is made of an option, and what it is made of.
use Rattle.std.proofs.Common.{◌≡◌, Option, Some, None, option_map, refl}

pub record Mapped {X Y : Type 0} (f : X → Y) (o : Option X) (y : Y) : Type 0 where
  pub x : X
  pub o_is : o ≡ Some x
  pub is : f x ≡ y

pub mapped : {X Y : Type 0} (f : X → Y) (o : Option X) (y : Y) → option_map f o ≡ Some y → Mapped f o y
mapped f (Some x) y e = record { x = x; o_is = refl; is = cc }
mapped f None y e = cc
