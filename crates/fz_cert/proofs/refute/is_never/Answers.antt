use Rattle.std.proofs.Common.{List, ℕ, subst}
use Rattle.std.specs.List.{AllByRecursion}
use Rattle.fz_refutes.specs.Refuted.{variables_of}
use Rattle.fz_refutes.specs.Smalls.{HasFixed}
use Rattle.fz_refutes.proofs.Opening.{below_all}
use Rattle.fz_refutes.proofs.Agreeing.{small_is}
use Rattle.fz_cert.proofs.refute.is_never.Goals as goal

pub none_holds-requires-clause-places : goal.none_holds-requires-clause-places
none_holds-requires-clause-places c = below_all c.args.area.now (variables_of c.args.constraint.now.arguments) c.args.several.now c.requires.several

pub returns-clause-never : goal.returns-clause-never
returns-clause-never c =
    let box = c.args.area.now in
    let a = c.fix.new.values.items in
    let small = small_is c.args.constraint.now box a c.args.several.now
    (record { are = c.sets.ensures.kept; full = c.requires.full; room = c.fix.ensures.length; fixed = subst (λ (us : List ℕ). AllByRecursion (HasFixed box a) us) c.requires.variables c.fix.ensures.fixed })
    c.requires.several c.requires.few in
    ((λ t. small.0 (c.none_holds.ensures.never.0 t)), (λ is. c.none_holds.ensures.never.1 (small.1 is)))
