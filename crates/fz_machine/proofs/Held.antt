-- What a worker holds is the frontier of a claimed part.
use Rattle.std.proofs.Common.{◌≡◌, ◌∙◌, ℕ, suc, zero, ◌+◌, ◌<◌, List, [], ◌∷◌, Bool, true, false, cond, get_or, ap, refl, arith, Some, sum_by}
use Rattle.std.specs.List.{slice_get}
use Rattle.std.proofs.lemmas.Option.{slice_get_within, get_or_from_slice_get}
use Rattle.std.proofs.lemmas.List.Sums.{sum_by-cons, get_or-le-sum_by}
use Rattle.fz_tree.specs.Frontier.{Frontier}
use Rattle.fz_tree.specs.Account.{Account}
use Rattle.fz_tree.specs.Book.{Part, IsAt}
use Rattle.fz_tree.proofs.Counts.{one_if}
use Rattle.fz_machine.specs.Cores.{Worker, AreHeld, path_adds, worker_adds, claimed_adds}
use Rattle.fz_machine.proofs.Frontiers.{same_frontier, decides_frontier}

-- a place whose member counts
pub record Counts {X : Type 0} (g : X → ℕ) (xs : List X) : Type 0 where
  pub place : ℕ
  pub member : X
  pub at : slice_get xs place ≡ Some member
  pub counts : 0 < g member

counts_in : {X : Type 0} (g : X → ℕ) (x : X) (xs : List X) (n : ℕ) → g x ≡ n → 0 < n + sum_by g xs → (0 < sum_by g xs → Counts g xs) → Counts g (x ∷ xs)
counts_in g x xs zero is some below =
    let c = below (omega (arith, some)) in
    record { place = suc c.place; member = c.member; at = c.at; counts = c.counts }
counts_in g x xs (suc n) is some below = record { place = zero; member = x; at = refl; counts = omega (arith, is) }

pub counting : {X : Type 0} (g : X → ℕ) (xs : List X) → 0 < sum_by g xs → Counts g xs
counting g [] some = absurd (omega (arith, some))
counting g (x ∷ xs) some = counts_in g x xs (g x) refl (omega (arith, some, sum_by-cons g x xs)) (counting g xs)

-- ---- claimed parts

abbrev pub same_as : Frontier → Frontier → ℕ
same_as f g = one_if (same_frontier g f)

counted : (claimed same : Bool) → 0 < cond claimed (one_if same) 0 → (claimed ≡ true) × (same ≡ true)
counted true true h = (refl, refl)
counted true false h = absurd (omega (arith, h))
counted false same h = absurd (omega (arith, h))

pub record IsClaimedIn (ps : List Part) (f : Frontier) : Type 0 where
  pub place : ℕ
  pub at : IsAt ps f place
  pub claimed : (d : Part) → (get_or ps place d).claimed ≡ true

claimed_in : (ps : List Part) (f : Frontier) → 0 < sum_by (claimed_adds (same_as f)) ps → IsClaimedIn ps f
claimed_in ps f some =
    let c = counting (claimed_adds (same_as f)) ps some in
    let both = counted c.member.claimed (same_frontier c.member.frontier f) c.counts in
    let same : c.member.frontier ≡ f = (decides_frontier c.member.frontier f).0 both.1 in
    record {
      place = c.place;
      at = record { within = slice_get_within ps c.place c.member c.at; is = λ d. ap (λ (p : Part). p.frontier) (get_or_from_slice_get ps c.place c.member d c.at) ∙ same };
      claimed = λ d. ap (λ (p : Part). p.claimed) (get_or_from_slice_get ps c.place c.member d c.at) ∙ both.0;
    }

pub held_is_claimed : (ps : List Part) (ws : List Worker) (i : ℕ) (w : Worker) (c : Account) → AreHeld ps ws → slice_get ws i ≡ Some w → w.path.held ≡ Some c → IsClaimedIn ps c.before
held_is_claimed ps ws i w c held at holds =
    let g : Frontier → ℕ = same_as c.before in
    let here : worker_adds g (get_or ws i w) ≡ worker_adds g w = ap (worker_adds g) (get_or_from_slice_get ws i w w at) in
    let one : path_adds g w.path.held ≡ 1 = ap (path_adds g) holds ∙ ap one_if ((decides_frontier c.before c.before).1 refl) in
    claimed_in ps c.before (omega (arith, held g, here, one, get_or-le-sum_by (worker_adds g) ws i w (slice_get_within ws i w at)))
