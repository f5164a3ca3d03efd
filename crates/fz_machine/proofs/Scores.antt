-- What better assignments there can be: a better one has a lesser score.
use Rattle.std.proofs.Common.{◌<◌, ◌≤◌, ◌+◌, length, List, [], ◌∷◌, arith, Option, Some, None, IfSome}
use Rattle.std.specs.Prelude.{ℤ, nat_abs}
use Rattle.std.specs.List.{AllByRecursion}
use Rattle.std.proofs.lemmas.Int.{ints}
use Rattle.fz_spec.specs.Instance.{Instance, Satisfies, AreImproving, score}
use Rattle.fz_model.specs.Kept.{IsModel}
use Rattle.fz_tree.specs.declared.mode.Mode.{Mode}
use Rattle.fz_tree.specs.declared.mode.Mode.TheVariants.{All, Rows, Best}
use Rattle.fz_tree.specs.Better.{Betters}
use Rattle.fz_tree.specs.Book.{Book, BookLaw, SuitsRecord}
use Rattle.fz_machine.proofs.CoreScores.{is_score}
use Rattle.fz_machine.specs.Lawfulness.{improving, improving_in}
use Rattle.fz_machine.specs.Measure.{SCORES, score_left}

-- what is known scores no more than nothing
pub score_most : (m : Instance) (known : Option (List ℤ)) → IsModel m → IfSome known (Satisfies m) → score_left m known ≤ SCORES
score_most m None model sound = omega arith
score_most m (Some a) model sound = let s = is_score m a model sound in omega (arith, s.1)

-- what betters it scores less
pub better_less : (m : Instance) (a : List ℤ) (known : Option (List ℤ)) → IsModel m → Satisfies m a → IfSome known (Satisfies m) → Betters m a known → score_left m (Some a) < score_left m known
better_less m a None model satisfies sound better = (is_score m a model satisfies).1
better_less m a (Some k) model satisfies sound better =
    let s = is_score m a model satisfies in
    let t = is_score m k model sound in
    omega (arith, ints, s.0, t.0, better.less)

-- ---- how many better ones there can be

chain_short : (m : Instance) (x : List ℤ) (l : List (List ℤ)) → IsModel m → AllByRecursion (Satisfies m) (x ∷ l) → AreImproving m (x ∷ l) → length (x ∷ l) ≤ nat_abs (score m x) + 1
chain_short m x [] model sound improving = omega arith
chain_short m x (y ∷ ys) model sound improving =
    let less = better_less m y (Some x) model sound.1.0 sound.0 improving.0 in
    omega (arith, less, chain_short m y ys model sound.1 improving.1)

improving_short : (m : Instance) (l : List (List ℤ)) → IsModel m → AllByRecursion (Satisfies m) l → AreImproving m l → length l ≤ SCORES
improving_short m [] model sound improving = omega arith
improving_short m (x ∷ xs) model sound improving =
    let s = is_score m x model sound.0 in
    omega (arith, s.1, chain_short m x xs model sound improving)

few_in : (mode : Mode) (m : Instance) (l : List (List ℤ)) → IsModel m → AllByRecursion (Satisfies m) l → SuitsRecord mode m l → length (improving_in mode l) ≤ SCORES
few_in All m l model sound improving = omega arith
few_in Rows m l model sound improving = omega arith
few_in Best m l model sound improving = improving_short m l model sound improving

pub few_improving : (b : Book) → IsModel b.model → BookLaw b → length (improving b) ≤ SCORES
few_improving b model law = few_in b.mode b.model b.recorded model law.sound law.improving
