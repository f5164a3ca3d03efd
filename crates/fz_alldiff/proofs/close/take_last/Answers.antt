use Rattle.std.proofs.Common.{sym, subst, inl, inr, rules}
use Rattle.std.proofs.Math.Facts.{to_z-of_z}
use mir.Val.{SFits}
use mir.Syntax.{w32}
use Rattle.fz_bits.proofs.Windows.{within_window}
use Rattle.fz_strength.specs.Domains.{term_set}
use Rattle.fz_strength.specs.Events.{IsOnly}
use Rattle.fz_prop.proofs.Grown.{same_or_other}
use Rattle.fz_alldiff.proofs.Clearing.{has_only}
use Rattle.fz_alldiff.proofs.close.take_last.Goals as goal

pub returns-in_default-clause-last : goal.returns-in_default-clause-last
returns-in_default-clause-last c = ((λ n. (λ m. m, λ m. m)), (λ fixed. c.in_default.ensures fixed.0 fixed.1))

pub without-requires-clause-low : goal.without-requires-clause-low
without-requires-clause-low c =
    let v = c.in-Some.value in
    let fits : SFits w32 v = search rules in
    let free = c.args.free.now in
    rw (to_z-of_z fits) (within_window free.base v free.bits (c.requires.free v (has_only (term_set c.args.store.now.doms c.args.term) v c.in-Some.ensures))).0

pub without-requires-clause-high : goal.without-requires-clause-high
without-requires-clause-high c =
    let v = c.in-Some.value in
    let fits : SFits w32 v = search rules in
    let free = c.args.free.now in
    rw (to_z-of_z fits) (within_window free.base v free.bits (c.requires.free v (has_only (term_set c.args.store.now.doms c.args.term) v c.in-Some.ensures))).1

pub returns-clause-last : goal.returns-clause-last
returns-clause-last c =
    let v = c.in-Some.value in
    let fits : SFits w32 v = search rules in
    let d = term_set c.args.store.now.doms c.args.term in
    let numbers = rw (to_z-of_z fits) at c.without.ensures.numbers in (
      (λ n m. ((numbers n).0 m).0),
      (λ n m. elim (same_or_other n v) [
        | inl same ↦ inr (subst (IsOnly d) (sym same) c.in-Some.ensures)
        | inr other ↦ inl ((numbers n).1 (m, other))
      ]),
    )

pub returns-clause-base : goal.returns-clause-base
returns-clause-base c = c.without.ensures.base
