-- Where nothing is held and nothing is unclaimed, the book is closed.
use Rattle.std.proofs.Common.{◌≡◌, ◌∙◌, ℕ, ◌+◌, List, [], ◌∷◌, Bool, true, false, cond, ◌&&◌, length, ap, sym, refl, arith, sum_by}
use Rattle.std.specs.List.{AllByRecursion, list_all}
use Rattle.std.proofs.lemmas.List.Sums.{sum_by-cons}
use Rattle.fz_tree.specs.Frontier.{Frontier}
use Rattle.fz_tree.specs.Book.{Part, is_claimed}
use Rattle.fz_machine.specs.Cores.{Worker, Core, CoreLaw, path_adds, hand_adds, worker_adds, claimed_adds}
use Rattle.fz_machine.specs.Laws.{IsIdle, IsQuiet}
use Rattle.fz_machine.proofs.Sums.{one_each}

idle_adds : (g : Frontier → ℕ) (ws : List Worker) → AllByRecursion IsIdle ws → sum_by (worker_adds g) ws ≡ 0
idle_adds g [] idle = refl
idle_adds g (w ∷ ws) idle =
    omega (arith, sum_by-cons (worker_adds g) w ws, ap (path_adds g) idle.0.holds, ap (hand_adds g) idle.0.hand, idle_adds g ws idle.1)

count_at : (claimed rest : Bool) (n m : ℕ) → (claimed && rest) ≡ true → (rest ≡ true → n ≡ m) → cond claimed 1 0 + n ≡ m + 1
count_at true rest n m all below = omega (arith, below all)
count_at false rest n m all below = absurd (let bad : false ≡ true = all in cc)

claimed_count : (ps : List Part) → list_all is_claimed ps ≡ true → sum_by (claimed_adds one_each) ps ≡ length ps
claimed_count [] all = refl
claimed_count (p ∷ ps) all =
    omega (
      arith,
      sum_by-cons (claimed_adds one_each) p ps,
      count_at p.claimed (list_all is_claimed ps) (sum_by (claimed_adds one_each) ps) (length ps) all (λ below. claimed_count ps below),
    )

none_of : (ps : List Part) → length ps ≡ 0 → ps ≡ []
none_of [] size = refl
none_of (p ∷ ps) size = absurd (omega (arith, size))

pub closes : (s : Core) → CoreLaw s → IsQuiet s → s.book.parts ≡ []
closes s law quiet =
    none_of s.book.parts (sym (claimed_count s.book.parts quiet.claimed) ∙ law.held one_each ∙ idle_adds one_each s.workers quiet.workers)
