-- Of a node that has one assignment to look at, none is left once that is known.
use Rattle.std.proofs.Common.{◌≡◌, List, subst, arith}
use Rattle.std.specs.Prelude.{ℤ, Option, Some}
use Rattle.std.proofs.lemmas.Int.{ints}
use Rattle.fz_spec.specs.Instance.{Instance, IsBetter}
use Rattle.fz_tree.specs.Frontier.{Edge}
use Rattle.fz_tree.specs.Proper.{IsHopeless, IsOnly}
use Rattle.fz_tree.specs.declared.mode.Mode.{Mode}
use Rattle.fz_tree.specs.declared.mode.Mode.TheVariants.{All, Rows, Best}
use Rattle.fz_tree.specs.Better.{Betters}
use Rattle.fz_tree.specs.Rows.{key}
use Rattle.fz_tree.proofs.Orders.{betters_before}

-- none betters itself
never_itself : (m : Instance) (a : List ℤ) → IsBetter m a a → ⊥
never_itself m a better = omega (arith, ints, better.less)

-- a search for a best one tells answers by all of their numbers
by_best : (mode : Mode) (m : Instance) (a x : List ℤ) → mode ≡ Best → key mode m a ≡ key mode m x → a ≡ x
by_best All m a x is same = absurd (cc is)
by_best Rows m a x is same = absurd (cc is)
by_best Best m a x is same = same

-- it is known from now on
pub none_better : (mode : Mode) (m : Instance) (es : List Edge) (known : Option (List ℤ)) (x : List ℤ) → mode ≡ Best → IsOnly mode m es known x → Betters m x known → IsHopeless m es (Some x)
none_better mode m es known x best only better = λ a satisfies new met.
    never_itself m x (subst (λ (b : List ℤ). IsBetter m b x) (by_best mode m a x best (only.only a satisfies (betters_before m a x known better new) met)) new)
