-- The variable of the least rank, while a part is gone through.
use Rattle.std.proofs.Common.{◌≡◌, ℕ, ◌<◌, ◌≤◌, List, subst, arith, true, length}
use Rattle.std.specs.Prelude.{ℤ, ◌≤ℤ◌, ◌<ℤ◌}
use Rattle.fz_spec.specs.declared.search.Pick.{Pick}
use Rattle.fz_branch.specs.Values.{is_open}
use Rattle.fz_branch.specs.Picks.{domain_of, rank, IsPicked}

-- of those before `upto` the best is picked, and this is its rank
pub record IsBest (pick : Pick) (ds : List (List (ℤ × ℤ))) (vs : List ℕ) (upto best : ℕ) (least : ℤ) : Type 0 where
  pub before : best < upto
  pub within : best < length vs
  pub several : is_open (domain_of ds vs best) ≡ true
  pub rank_is : least ≡ rank pick (domain_of ds vs best)
  pub least_of : (k : ℕ) → k < upto → is_open (domain_of ds vs k) ≡ true → least ≤ℤ rank pick (domain_of ds vs k)
  pub first : (k : ℕ) → k < best → is_open (domain_of ds vs k) ≡ true → least <ℤ rank pick (domain_of ds vs k)

pub ends_best : (pick : Pick) (ds : List (List (ℤ × ℤ))) (vs : List ℕ) (upto best : ℕ) (least : ℤ) → IsBest pick ds vs upto best least → length vs ≤ upto → IsPicked pick ds vs best
ends_best pick ds vs upto best least b past = record {
  within = b.within;
  several = b.several;
  least = λ k h open_k. subst (λ (x : ℤ). x ≤ℤ rank pick (domain_of ds vs k)) b.rank_is (b.least_of k (omega (arith, h, past)) open_k);
  first = λ k h open_k. subst (λ (x : ℤ). x <ℤ rank pick (domain_of ds vs k)) b.rank_is (b.first k h open_k);
}
