-- What the book names as open is what is held, up to order.
use Rattle.std.proofs.Common.{◌≡◌, ◌∙◌, ℕ, ◌+◌, ◌<◌, List, [], ◌∷◌, Bool, true, false, cond, map, ap, sym, subst, refl, arith, Option, Some, None, sum_by}
use Rattle.std.specs.List.{remove, flat_map}
use Rattle.std.specs.List.Sorted.{IsPermutation}
use Rattle.std.proofs.lemmas.Option.{slice_get_within, get_or_from_slice_get}
use Rattle.std.proofs.lemmas.List.Sums.{sum_by-cons, sum_by-append}
use Rattle.std.proofs.lemmas.List.Sorted.{IsPermutation-refl, IsPermutation-sym, IsPermutation-cons, IsPermutation-trans, IsPermutation-remove, sum_by_popped}
use Rattle.fz_tree.specs.Frontier.{Frontier}
use Rattle.fz_tree.specs.Account.{Account}
use Rattle.fz_tree.specs.Book.{Part}
use Rattle.fz_tree.proofs.Counts.{one_if}
use Rattle.fz_path.specs.Tasks.{Tasked}
use Rattle.fz_machine.specs.Cores.{Worker, Core, CoreLaw, path_adds, hand_adds, worker_adds, claimed_adds}
use Rattle.fz_machine.specs.Laws.{path_held, hand_held, worker_held, unclaimed_in, held}
use Rattle.fz_machine.proofs.Sums.{one_each}
use Rattle.fz_machine.proofs.Frontiers.{same_frontier, decides_frontier}
use Rattle.fz_machine.proofs.Held.{counting, same_as}

-- ---- from sums to an order

none_counted : (fs : List Frontier) → 0 ≡ sum_by one_each fs → fs ≡ []
none_counted [] none = refl
none_counted (f ∷ fs) none = absurd (omega (arith, none, sum_by-cons one_each f fs))

once : (b : Bool) → 0 < one_if b → b ≡ true
once true some = refl
once false some = absurd (omega (arith, some))

-- where such a frontier is taken out
removed : (f : Frontier) (fs : List Frontier) → 0 < sum_by (same_as f) fs → (i : ℕ) × IsPermutation fs (f ∷ remove fs i)
removed f fs some =
    let c = counting (same_as f) fs some in
    let same : c.member ≡ f = (decides_frontier c.member f).0 (once (same_frontier c.member f) c.counts) in (
      c.place,
      IsPermutation-remove fs c.place f (slice_get_within fs c.place c.member c.at)
          (sym (get_or_from_slice_get fs c.place c.member f c.at ∙ same)),
    )

pub by_sums : (fs gs : List Frontier) → ((g : Frontier → ℕ) → sum_by g fs ≡ sum_by g gs) → IsPermutation fs gs
by_sums [] gs sums = subst (IsPermutation []) (sym (none_counted gs (sums one_each))) (IsPermutation-refl [])
by_sums (f ∷ fs) gs sums =
    let one : same_as f f ≡ 1 = ap one_if ((decides_frontier f f).1 refl) in
    let r = removed f gs (omega (arith, one, sums (same_as f), sum_by-cons (same_as f) f fs)) in
    let rest = remove gs r.0 in
    let below : IsPermutation fs rest = by_sums fs rest (λ g. omega (arith, sums g, sum_by-cons g f fs, sum_by_popped g f gs rest r.1)) in
    IsPermutation-trans (f ∷ fs) (f ∷ rest) gs (IsPermutation-cons f fs rest below) (IsPermutation-sym gs (f ∷ rest) r.1)

-- ---- the two sums

path_sum : (g : Frontier → ℕ) (o : Option Account) → sum_by g (path_held o) ≡ path_adds g o
path_sum g None = refl
path_sum g (Some c) = omega arith

hand_sum : (g : Frontier → ℕ) (o : Option Tasked) → sum_by g (hand_held o) ≡ hand_adds g o
hand_sum g None = refl
hand_sum g (Some t) = omega arith

worker_sum : (g : Frontier → ℕ) (ws : List Worker) → sum_by g (flat_map worker_held ws) ≡ sum_by (worker_adds g) ws
worker_sum g [] = refl
worker_sum g (w ∷ ws) =
    omega (
      arith,
      sum_by-append g (worker_held w) (flat_map worker_held ws),
      sum_by-append g (path_held w.path.held) (hand_held w.hand),
      path_sum g w.path.held,
      hand_sum g w.hand,
      worker_sum g ws,
      sum_by-cons (worker_adds g) w ws,
    )

part_at : (g : Frontier → ℕ) (p : Part) (ps : List Part) (claimed : Bool) → g p.frontier + sum_by g (unclaimed_in ps) ≡ cond claimed (g p.frontier) 0 + sum_by g (cond claimed (unclaimed_in ps) (p.frontier ∷ unclaimed_in ps))
part_at g p ps true = refl
part_at g p ps false = omega (arith, sum_by-cons g p.frontier (unclaimed_in ps))

part_sum : (g : Frontier → ℕ) (ps : List Part) → sum_by g (map (λ (p : Part). p.frontier) ps) ≡ sum_by (claimed_adds g) ps + sum_by g (unclaimed_in ps)
part_sum g [] = refl
part_sum g (p ∷ ps) =
    omega (
      arith,
      sum_by-cons g p.frontier (map (λ (q : Part). q.frontier) ps),
      part_sum g ps,
      sum_by-cons (claimed_adds g) p ps,
      part_at g p ps p.claimed,
    )

pub open_is_held : (s : Core) → CoreLaw s → IsPermutation (map (λ (p : Part). p.frontier) s.book.parts) (held s)
open_is_held s law =
    by_sums (map (λ (p : Part). p.frontier) s.book.parts) (held s)
    (λ g. omega (
      arith,
      part_sum g s.book.parts,
      law.held g,
      worker_sum g s.workers,
      sum_by-append g (flat_map worker_held s.workers) (unclaimed_in s.book.parts),
    ))
