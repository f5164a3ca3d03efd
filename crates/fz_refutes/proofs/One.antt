-- A certificate proves, and there is one at most.
use Rattle.std.proofs.Common.{◌≡◌, ℕ, ◌<◌, inl, inr, ℤ, Bool, true, false, cond, List, ◌++◌, refl, sym, ap, subst, ◌∙◌, arith}
use Rattle.std.specs.Prelude.{Option, Some, None, slice_get, nat_lt}
use Rattle.std.proofs.lemmas.Bool.{cases_lt}
use Rattle.fz_sets.specs.Sets.{set_size}
use Rattle.fz_spec.specs.Instance.{Instance}
use Rattle.fz_refutes.specs.Boxes.{declared_box, set_at, low_half, high_half}
use Rattle.fz_refutes.specs.Refuted.{RefutesIfThere}
use Rattle.fz_refutes.specs.Trees.{Tree, Empty, Failing, Worse, Split, IsRefutedBy, IsTreeOf, IsOpen, IsFirstOpen, IsPicked, middle, goal_variable, lines_of}
use Rattle.fz_refutes.specs.Texts.{front_text, cert_text}
use Rattle.fz_refutes.specs.Laws.{CertProves, CertIsOne}

pub refutes : (m : Instance) (head : Option (List ℤ)) (box : List (List (ℤ × ℤ))) (tree : Tree) → IsTreeOf m head box tree → IsRefutedBy m head box tree
refutes m head box Empty is = is
refutes m head box (Failing c) is = is.failing.refuted
refutes m head box Worse is = is.worse
refutes m head box (Split v n low high) is = (is.0.within, refutes m head (low_half v n box) low is.1, refutes m head (high_half v n box) high is.2)

pub cert_proves : CertProves
cert_proves m head text is_head is = record {
  is_head = is_head;
  tree = is.tree;
  refuted = refutes m head (declared_box m.variables) is.tree is.is_tree;
  text = ap (λ (t : List ℕ). front_text m head ++ t) is.is_text;
}

-- the least number with a property is one
least_one : (P : ℕ → Type 0) (a b : ℕ) → P a → ((c : ℕ) → c < a → P c → ⊥) → P b → ((c : ℕ) → c < b → P c → ⊥) → a ≡ b
least_one P a b pa na pb nb = elim (cases_lt a b) [
  | inl lt ↦ absurd (nb a lt pa)
  | inr le ↦ elim (cases_lt b a) [ inl lt ↦ absurd (na b lt pb) | inr ge ↦ omega (arith, le, ge) ]
]

first_open_one : (box : List (List (ℤ × ℤ))) (u v : ℕ) → IsFirstOpen box u → IsFirstOpen box v → u ≡ v
first_open_one box u v p q = least_one (IsOpen box) u v p.open_now p.first q.open_now q.first

by_test : (test : Bool) (box : List (List (ℤ × ℤ))) (goal u v : ℕ) → cond test (u ≡ goal) (IsFirstOpen box u) → cond test (v ≡ goal) (IsFirstOpen box v) → u ≡ v
by_test true box goal u v p q = p ∙ sym q
by_test false box goal u v p q = first_open_one box u v p q

picked_one : (goal : Option ℕ) (box : List (List (ℤ × ℤ))) (u v : ℕ) → IsPicked goal box u → IsPicked goal box v → u ≡ v
picked_one None box u v p q = first_open_one box u v p q
picked_one (Some g) box u v p q = by_test (nat_lt 1 (set_size (set_at box g))) box g u v p q

one_tree : (m : Instance) (head : Option (List ℤ)) (box : List (List (ℤ × ℤ))) (s t : Tree) → IsTreeOf m head box s → IsTreeOf m head box t → s ≡ t
one_tree m head box Empty Empty p q = refl
one_tree m head box Empty (Failing c) p q = absurd (q.full p)
one_tree m head box Empty Worse p q = absurd (q.full p)
one_tree m head box Empty (Split v n low high) p q = absurd (q.0.full p)
one_tree m head box (Failing c) Empty p q = absurd (p.full q)
one_tree m head box (Failing c) (Failing d) p q =
    ap Failing (least_one (λ k. RefutesIfThere (slice_get m.constraints k) box) c d p.failing.refuted p.failing.first q.failing.refuted q.failing.first)
one_tree m head box (Failing c) Worse p q = absurd (q.none_fails c p.failing.refuted)
one_tree m head box (Failing c) (Split v n low high) p q = absurd (q.0.none_fails c p.failing.refuted)
one_tree m head box Worse Empty p q = absurd (p.full q)
one_tree m head box Worse (Failing c) p q = absurd (p.none_fails c q.failing.refuted)
one_tree m head box Worse Worse p q = refl
one_tree m head box Worse (Split v n low high) p q = absurd (q.0.hope p.worse)
one_tree m head box (Split v n low high) Empty p q = absurd (p.0.full q)
one_tree m head box (Split v n low high) (Failing c) p q = absurd (p.0.none_fails c q.failing.refuted)
one_tree m head box (Split v n low high) Worse p q = absurd (p.0.hope q.worse)
one_tree m head box (Split v n low high) (Split w k left right) p q =
    let same = picked_one (goal_variable m.goal) box v w p.0.picked q.0.picked in
    let number : n ≡ k = p.0.number ∙ ap (λ (u : ℕ). middle (set_at box u)) same ∙ sym q.0.number in
    let lows : low ≡ left = one_tree m head (low_half v n box) low left p.1 (subst (λ (u : ℕ). IsTreeOf m head (low_half u n box) left) (sym same) (subst (λ (z : ℤ). IsTreeOf m head (low_half w z box) left) (sym number) q.1)) in
    let highs : high ≡ right = one_tree m head (high_half v n box) high right p.2 (subst (λ (u : ℕ). IsTreeOf m head (high_half u n box) right) (sym same) (subst (λ (z : ℤ). IsTreeOf m head (high_half w z box) right) (sym number) q.2)) in
    cc

pub cert_is_one : CertIsOne
cert_is_one m head text other p q =
    p.is_text ∙ ap (λ (t : Tree). cert_text head (lines_of t)) (one_tree m head (declared_box m.variables) p.tree q.tree p.is_tree q.is_tree) ∙ sym q.is_text
