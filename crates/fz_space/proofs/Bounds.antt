-- A space that is told what is known.
use Rattle.std.proofs.Common.{◌≡◌, ◌∙◌, ℕ, List, [], ◌∷◌, ◌++◌, sym, subst, false, Bool}
use Rattle.std.specs.Prelude.{ℤ, Some, IsTrue}
use Rattle.fz_spec.specs.Instance.{Instance}
use Rattle.fz_tree.specs.declared.decision.Decision.{Decision}
use Rattle.fz_tree.specs.Choice.{meets}
use Rattle.fz_tree.proofs.Orders.{declared_length}
use Rattle.fz_strength.specs.Domains.{Within}
use Rattle.fz_sets.proofs.Lists.{all_left, all_both}
use Rattle.fz_prop.specs.Stores.{Stored}
use Rattle.fz_engine.specs.Networks.{Networked}
use Rattle.fz_engine.specs.Runs.{IsAlive}
use Rattle.fz_search_space.specs.Spaces.{AllBetter, Covers}
use Rattle.fz_space.specs.Alive.{spaced, IsBound}

pub covers_bound : (m : Instance) (known : List ℤ) (d : Decision) (ds : List Decision) (s t : Stored) (failed after : Bool) → IsBound m known (Some d)
    → (Covers (Some known) ds (spaced m s failed) → Covers (Some known) (ds ++ d ∷ []) (spaced m t after)) → Covers (Some known) ds (spaced m s failed) → Covers (Some known) ds (spaced m t after)
covers_bound m known d ds s t failed after bound takes covers =
    let taken = takes covers in
    record {
      all = λ a satisfies better met.
          taken.all a satisfies better
          (all_both (λ (x : Decision). IsTrue (meets a x)) ds (d ∷ []) met ((bound a (declared_length m.variables a satisfies.declared)).0 better, tt));
      only = λ a alive within.
          let both = taken.only a alive within in
          (both.0, all_left (λ (x : Decision). IsTrue (meets a x)) ds (d ∷ []) both.1);
    }

pub all_better : (n : Networked) (known : List ℤ) (d : Decision) (states : List ℕ) (t : Stored) (after : Bool) → IsBound n.model known (Some d) → (after ≡ false → IsAlive n states t)
    → (after ≡ false → (a : List ℤ) → Within t.doms a → IsTrue (meets a d)) → AllBetter known (spaced n.model t after)
all_better n known d states t after bound alive met live a within = (bound a (within.size ∙ (alive live).size)).1 (met live a within)
