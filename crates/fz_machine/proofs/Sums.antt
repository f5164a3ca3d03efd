-- What an event does to the two sums of what is held.
use Rattle.std.proofs.Common.{◌≡◌, ◌∙◌, ℕ, ◌+◌, List, [], ◌∷◌, ◌++◌, Bool, true, false, cond, map, set, get_or, ap, sym, refl, arith, Some, sum_by}
use Rattle.std.specs.List.{slice_get, remove}
use Rattle.std.proofs.lemmas.Option.{slice_get_within, get_or_from_slice_get}
use Rattle.std.proofs.lemmas.List.Sums.{sum_by-set, sum_by-cons, sum_by-append, sum_by-remove}
use Rattle.fz_tree.specs.Frontier.{Frontier, has_rest}
use Rattle.fz_tree.specs.Account.{Account}
use Rattle.fz_tree.specs.Book.{Part, IsAt, claimed_part, left_of, parts_after}
use Rattle.fz_machine.specs.Cores.{claimed_adds}

-- each frontier counts one
abbrev pub one_each : Frontier → ℕ
one_each f = 1

-- another worker in the place of one
pub set_adds : {X : Type 0} (f : X → ℕ) (xs : List X) (i : ℕ) (x y : X) → slice_get xs i ≡ Some x → sum_by f (set xs i y) + f x ≡ sum_by f xs + f y
set_adds f xs i x y at = omega (arith, sum_by-set f xs i y x (slice_get_within xs i x at), ap f (get_or_from_slice_get xs i x x at))

-- a part gets claimed
pub claimed_more : (g : Frontier → ℕ) (ps : List Part) (f : Frontier) (i : ℕ) → IsAt ps f i → ((d : Part) → (get_or ps i d).claimed ≡ false)
    → sum_by (claimed_adds g) (set ps i (claimed_part f)) ≡ sum_by (claimed_adds g) ps + g f
claimed_more g ps f i at unclaimed =
    let d = claimed_part f in
    let none : claimed_adds g (get_or ps i d) ≡ 0 = ap (λ b. cond b (g (get_or ps i d).frontier) 0) (unclaimed d) in
    omega (arith, none, sum_by-set (claimed_adds g) ps i d d at.within)

given_adds : (g : Frontier → ℕ) (fs : List Frontier) → sum_by (claimed_adds g) (map claimed_part fs) ≡ sum_by g fs
given_adds g [] = refl
given_adds g (f ∷ fs) =
    sum_by-cons (claimed_adds g) (claimed_part f) (map claimed_part fs) ∙ ap (λ n. g f + n) (given_adds g fs) ∙ sym (sum_by-cons g f fs)

-- what is left of an account counts, where anything is
abbrev pub left_adds : (Frontier → ℕ) → Frontier → ℕ
left_adds g f = cond (has_rest f) (g f) 0

left_at : (g : Frontier → ℕ) (f : Frontier) (b : Bool) → sum_by (claimed_adds g) (cond b (claimed_part f ∷ []) []) ≡ cond b (g f) 0
left_at g f true = omega arith
left_at g f false = refl

-- an account of a claimed part is taken
pub claimed_after : (g : Frontier → ℕ) (ps : List Part) (i : ℕ) (c : Account) → IsAt ps c.before i → ((d : Part) → (get_or ps i d).claimed ≡ true)
    → sum_by (claimed_adds g) (parts_after ps i c) + g c.before ≡ sum_by (claimed_adds g) ps + sum_by g c.given + left_adds g c.after
claimed_after g ps i c at claimed =
    let d = claimed_part c.before in
    let one : claimed_adds g (get_or ps i d) ≡ g c.before = ap (λ b. cond b (g (get_or ps i d).frontier) 0) (claimed d) ∙ ap g (at.is d) in
    omega (
      arith,
      one,
      sum_by-append (claimed_adds g) (remove ps i) (map claimed_part c.given ++ left_of c.after),
      sum_by-append (claimed_adds g) (map claimed_part c.given) (left_of c.after),
      given_adds g c.given,
      left_at g c.after (has_rest c.after),
      sum_by-remove (claimed_adds g) ps i d at.within,
    )
