-- When two terms are one.
use Rattle.std.proofs.Common.{◌≡◌, ℕ, ℤ, ap}
use Rattle.std.specs.Bool.{Decides}
use Rattle.std.proofs.lemmas.Bool.Decides.{Decides-int_eq, Decides-eqb}
use Rattle.fz_spec.specs.declared.term.Term.{Term}
use Rattle.fz_spec.specs.declared.term.Term.TheVariants.{Num, Var}
use Rattle.fz_spec.specs.contracts.term.TermPartialEq.TheImpl as equality

one_number : (x y : ℤ) → Num x ≡ Num y → x ≡ y
one_number x y e = cc

one_variable : (x y : ℕ) → Var x ≡ Var y → x ≡ y
one_variable x y e = cc

pub equal_terms : (a b : Term) → Decides ((equality.ghosts).eq a b) (a ≡ b)
equal_terms (Num x) (Num y) = (λ e. ap (λ u. Num u) ((Decides-int_eq x y).0 e), λ e. (Decides-int_eq x y).1 (one_number x y e))
equal_terms (Num x) (Var y) = (λ e. cc, λ e. cc)
equal_terms (Var x) (Num y) = (λ e. cc, λ e. cc)
equal_terms (Var x) (Var y) = (λ e. ap (λ u. Var u) ((Decides-eqb x y).0 e), λ e. (Decides-eqb x y).1 (one_variable x y e))
