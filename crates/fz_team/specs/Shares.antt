-- How many are still wanted of each worker.
use Rattle.std.specs.Prelude.{ℕ, ◌+◌, ◌*◌, ◌≤◌}

-- the least number of which, found by each of that many workers, would be enough beside those that are recorded
pub record IsShare (enough recorded workers share : ℕ) : Type 0 where
  pub is_enough : enough ≤ recorded + workers * share
  pub least : (k : ℕ) → enough ≤ recorded + workers * k → share ≤ k
