-- How much room an account needs.
use Rattle.std.specs.Prelude.{ℕ, ◌+◌, length, Bool, true, false, Option, Some, None, List, [], ◌∷◌, ℤ}
use Rattle.fz_tree.specs.Account.{Account}

-- a witness counts as one more that is found
abbrev pub one_if_some : Option (List ℤ) → ℕ
one_if_some None = 0
one_if_some (Some w) = 1

abbrev pub found_needed : Account → ℕ
found_needed c = length c.found + one_if_some c.witness

abbrev pub given_needed : Account → ℕ
given_needed c = length c.given

-- the witness, where it is to be recorded
abbrev pub witness_if : Bool → Option (List ℤ) → List (List ℤ)
witness_if true (Some w) = w ∷ []
witness_if true None = []
witness_if false witness = []
