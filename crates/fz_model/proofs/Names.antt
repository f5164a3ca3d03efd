-- The comparison of names of constraints.
use Rattle.std.proofs.Common.{◌≡◌}
use Rattle.std.specs.Bool.{Decides}
use denote.Enum.Bare.{same_true, true_same}
use Rattle.fz_spec.specs.declared.builtin.Builtin.{Builtin}
use Rattle.fz_spec.specs.contracts.builtin.Builtin.{the_type}
use Rattle.fz_spec.specs.contracts.builtin.BuiltinPartialEq.TheImpl as equality

pub equal_names : (a b : Builtin) → Decides ((equality.ghosts).eq a b) (a ≡ b)
equal_names a b = (λ e. same_true the_type tt a b e, λ e. true_same the_type a b e)
