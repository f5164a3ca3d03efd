use Rattle.std.proofs.Common.{subst, rules}
use Rattle.std.specs.Prelude.{ℤ}
use Rattle.std.proofs.lemmas.Option.{slice_get-get_or}
use Rattle.std.proofs.Math.Facts.{to_z-of_z}
use mir.Val.{SFits}
use mir.Syntax.{w32}
use Rattle.fz_alldiff.specs.Differing.{IsOutside}
use Rattle.fz_alldiff.proofs.Clearing.{cleared_now, only_at}
use Rattle.fz_alldiff.proofs.far.clear.Goals as goal

pub returns-clause-cleared : goal.returns-clause-cleared
returns-clause-cleared c = λ left.
    let fits : SFits w32 c.least_of-value.result = search rules in
    let outside : IsOutside c.args.terms.now c.remove_others.new.store.doms c.args.done.now c.least_of-value.result c.args.place =
    subst (λ (n : ℤ). IsOutside c.args.terms.now c.remove_others.new.store.doms c.args.done.now n c.args.place) (to_z-of_z fits) (c.in_ok-left.ensures.outside left) in
    cleared_now c.args.terms.now c.args.done.now c.args.store.now.doms c.remove_others.new.store.doms c.args.place c.least_of-value.result c.requires.terms c.doms.ensures.store.domains
    c.in_ok-left.ensures.shrinks.narrower
    (only_at c.args.terms.now c.args.store.now.doms c.args.place _ c.least_of-value.result c.requires.fixed (slice_get-get_or c.args.terms.now c.args.place _ c.requires.inside) c.least_of-value.ensures.least)
    c.requires.cleared outside
