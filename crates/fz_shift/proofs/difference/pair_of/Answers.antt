use Rattle.std.proofs.Common.{◌≡◌, [], ◌∷◌, List, length, get_or, pos, refl, rules, arith}
use Rattle.fz_spec.specs.declared.term.Term.{Term}
use Rattle.fz_spec.specs.declared.term.Term.TheVariants.{Num, Var}
use Rattle.fz_shift.proofs.difference.pair_of.Goals as goal

-- a list of two is its first and its second
two_long : (ts : List Term) → length ts ≡ 2 → ts ≡ get_or ts 0 (Num (pos 0)) ∷ get_or ts 1 (Num (pos 0)) ∷ []
two_long [] h = absurd (cc (h))
two_long (s ∷ []) h = absurd (omega (arith, h))
two_long (s ∷ t ∷ []) h = refl
two_long (s ∷ t ∷ u ∷ ts) h = absurd (omega (arith, h))

pub returns-in-Var : goal.returns-in-Var
returns-in-Var c =
    let size : length c.args.terms.now ≡ 2 = search rules in
    let first : get_or c.args.terms.now 0 (Num (pos 0)) ≡ Var c.in-Var.first = search rules in
    let second : get_or c.args.terms.now 1 (Num (pos 0)) ≡ Var c.in-Var.second = search rules in
    rw (two_long c.args.terms.now size, first, second) c.ordered.ensures
