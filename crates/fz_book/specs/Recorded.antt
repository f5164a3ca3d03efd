-- What is recorded, and how many of the first were let go of.
use Rattle.std.specs.Prelude.{◌≡◌, ℕ, ℤ, ◌-◌, ◌<◌, ◌≤◌, ◌^◌, List, ◌++◌, length}

-- with room for that many more without taking memory
pub record Recorded : Type 0 where
  pub items : List (List ℤ)
  pub gone : ℕ
  pub room : ℕ

-- those that are gone are counted, and the last isn't one of them
pub record IsKept (past kept : List (List ℤ)) (gone : ℕ) : Type 0 where
  pub counted : gone ≡ length past
  pub few : gone < 2 ^ 63
  pub last : gone ≤ length (past ++ kept) - 1
