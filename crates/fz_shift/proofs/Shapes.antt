-- That three variables lie on a plane where a sum of theirs is a number.
use Rattle.std.proofs.Common.{◌≡◌, ◌∙◌, ℕ, List, [], ◌∷◌, arith, get_or, length, refl, sym}
use Rattle.std.specs.Prelude.{ℤ, IfSome, Option, Some, None, pos, negsuc}
use Rattle.std.specs.List.{AllByRecursion}
use Rattle.std.proofs.lemmas.Int.{ints}
use Rattle.fz_spec.specs.declared.term.Term.{Term}
use Rattle.fz_spec.specs.declared.term.Term.TheVariants.{Var}
use Rattle.fz_spec.specs.Constraints.{term_values}
use Rattle.fz_spec.specs.Truth.{weighted_sum}
use Rattle.fz_spec.specs.declared.shape.Relation.TheVariants.{Equal}
use Rattle.fz_strength.specs.Domains.{number_at, IsTermOf}
use Rattle.fz_strength.specs.Sums.{RestsSum}
use Rattle.fz_shift.specs.declared.plane.Plane.{Plane}
use Rattle.fz_shift.specs.Planes.{AreApart, IsSmall, IsPlaneIn}
use Rattle.fz_shift.proofs.Resting.{firsts_rest, partners_rest, seconds_rest}

pub plane_of_sum : (p : Plane) → IsSmall p → AreApart p → IsPlaneIn p (p.factor ∷ pos 1 ∷ negsuc 0 ∷ []) (Var p.across ∷ Var p.first ∷ Var p.second ∷ []) p.number
plane_of_sum p small apart = record {
  small = small;
  apart = apart;
  truth = λ a. let u = number_at a p.across in let w = number_at a p.first in let v = number_at a p.second in ((λ e. omega (arith, ints, e)), (λ e. omega (arith, ints, e)));
  inside = λ size all. record { across = all.0; first = all.1.0; second = all.1.1.0 };
  line = λ ds domains inside h. partners_rest p ds domains inside h;
}

-- ---- the three in another order

-- a sum of the same parts is the same
pub same_plane : (p : Plane) (ks : List ℤ) (ts : List Term) (ls : List ℤ) (us : List Term) (n : ℤ) → ((a : List ℤ) → weighted_sum ks (term_values a ts) ≡ weighted_sum ls (term_values a us))
    → ((size : ℕ) → AllByRecursion (IsTermOf size) us → AllByRecursion (IsTermOf size) ts)
    → ((ds : List (List (ℤ × ℤ))) → RestsSum Equal ds ks ts n → RestsSum Equal ds ls us n) → IsPlaneIn p ks ts n → IsPlaneIn p ls us n
same_plane p ks ts ls us n same inside rest is = record {
  small = is.small;
  apart = is.apart;
  truth = λ a. ((λ e. (is.truth a).0 (same a ∙ e)), (λ on. sym (same a) ∙ (is.truth a).1 on));
  inside = λ size all. is.inside size (inside size all);
  line = λ ds domains within h. rest ds (is.line ds domains within h);
}

pub seconds_swapped : (p : Plane) (f g h : ℤ) (x y z : Term) (n : ℤ) → IsPlaneIn p (f ∷ g ∷ h ∷ []) (x ∷ y ∷ z ∷ []) n → IsPlaneIn p (f ∷ h ∷ g ∷ []) (x ∷ z ∷ y ∷ []) n
seconds_swapped p f g h x y z n is = same_plane p (f ∷ g ∷ h ∷ []) (x ∷ y ∷ z ∷ []) (f ∷ h ∷ g ∷ []) (x ∷ z ∷ y ∷ []) n (λ a. omega (arith, ints)) (λ size all. (all.0, (all.1.1.0, (all.1.0, tt)))) (λ ds. seconds_rest ds f g h x y z n) is

pub firsts_swapped : (p : Plane) (f g h : ℤ) (x y z : Term) (n : ℤ) → IsPlaneIn p (f ∷ g ∷ h ∷ []) (x ∷ y ∷ z ∷ []) n → IsPlaneIn p (g ∷ f ∷ h ∷ []) (y ∷ x ∷ z ∷ []) n
firsts_swapped p f g h x y z n is = same_plane p (f ∷ g ∷ h ∷ []) (x ∷ y ∷ z ∷ []) (g ∷ f ∷ h ∷ []) (y ∷ x ∷ z ∷ []) n (λ a. omega (arith, ints)) (λ size all. (all.1.0, (all.0, (all.1.1.0, tt)))) (λ ds. firsts_rest ds f g h x y z n) is

pub some_more : {X : Type 0} {P Q : X → Type 0} (o : Option X) → ((x : X) → P x → Q x) → IfSome o P → IfSome o Q
some_more (Some x) more h = more x h
some_more None more h = tt

-- a list of three
pub three_of : {X : Type 0} (xs : List X) (d e f : X) → length xs ≡ 3 → xs ≡ get_or xs 0 d ∷ get_or xs 1 e ∷ get_or xs 2 f ∷ []
three_of [] d e f size = absurd (omega (arith, size))
three_of (a ∷ []) d e f size = absurd (omega (arith, size))
three_of (a ∷ b ∷ []) d e f size = absurd (omega (arith, size))
three_of (a ∷ b ∷ c ∷ []) d e f size = refl
three_of (a ∷ b ∷ c ∷ x ∷ xs) d e f size = absurd (omega (arith, size))
