use Rattle.std.proofs.Common.{◌≡◌}
use Rattle.std.specs.Prelude.{pos}
use Rattle.fz_prop.specs.Truths.{TruthWith, LineWith, IsAbout}
use Rattle.fz_prop.proofs.Settling.{settled_correct, settled_answer}
use Rattle.fz_rel.specs.Truths.{TruthOf}
use Rattle.fz_rel.specs.Reified.{sides_of}
use Rattle.fz_rel.proofs.Shown.{all_about, none_about}
use Rattle.fz_rel.proofs.reified.decide.Goals as goal

about_one : (c : goal.After-settled) → IsAbout c.args.r (λ u. u ≡ pos 1) (TruthWith (TruthOf c.args.relation c.args.x c.args.y) c.args.r) (LineWith (sides_of c.args.relation c.args.x c.args.y) c.args.r) c.args.store.now.doms
about_one c =
    let ds = c.args.store.now.doms in
    all_about c.args.relation c.args.x c.args.y c.args.r ds c.requires.x c.requires.y c.requires.r (c.are_all.ensures.all c.if-are_all.true)

pub returns-then-are_all-clause-correct : goal.returns-then-are_all-clause-correct
returns-then-are_all-clause-correct c =
    settled_correct c.in_ok-change.change c.args.r (λ u. u ≡ pos 1) (TruthWith (TruthOf c.args.relation c.args.x c.args.y) c.args.r) (LineWith (sides_of c.args.relation c.args.x c.args.y) c.args.r)
    c.args.store.now c.keep_only.new.store c.in_ok-change.ensures.change c.in_ok-change.ensures.shrinks (about_one c)

pub returns-then-are_all-clause-answer : goal.returns-then-are_all-clause-answer
returns-then-are_all-clause-answer c =
    rw c.settled.ensures
    (settled_answer c.in_ok-change.change c.args.r (λ u. u ≡ pos 1) (TruthWith (TruthOf c.args.relation c.args.x c.args.y) c.args.r) (LineWith (sides_of c.args.relation c.args.x c.args.y) c.args.r)
    c.args.store.now c.keep_only.new.store c.requires.r c.in_ok-change.ensures.change c.in_ok-change.ensures.shrinks (about_one c))

about_zero : (c : goal.After-settled-then-are_none) → IsAbout c.args.r (λ u. u ≡ pos 0) (TruthWith (TruthOf c.args.relation c.args.x c.args.y) c.args.r) (LineWith (sides_of c.args.relation c.args.x c.args.y) c.args.r) c.args.store.now.doms
about_zero c =
    let ds = c.args.store.now.doms in
    none_about c.args.relation c.args.x c.args.y c.args.r ds c.requires.x c.requires.y c.requires.r c.requires.truth (c.are_none.ensures.none c.if-are_none.true)

pub returns-then-are_none-clause-correct : goal.returns-then-are_none-clause-correct
returns-then-are_none-clause-correct c =
    settled_correct c.in_ok-change-2.change c.args.r (λ u. u ≡ pos 0) (TruthWith (TruthOf c.args.relation c.args.x c.args.y) c.args.r) (LineWith (sides_of c.args.relation c.args.x c.args.y) c.args.r)
    c.args.store.now c.keep_only-then-are_none.new.store c.in_ok-change-2.ensures.change c.in_ok-change-2.ensures.shrinks (about_zero c)

pub returns-then-are_none-clause-answer : goal.returns-then-are_none-clause-answer
returns-then-are_none-clause-answer c =
    rw c.settled-then-are_none.ensures
    (settled_answer c.in_ok-change-2.change c.args.r (λ u. u ≡ pos 0) (TruthWith (TruthOf c.args.relation c.args.x c.args.y) c.args.r) (LineWith (sides_of c.args.relation c.args.x c.args.y) c.args.r)
    c.args.store.now c.keep_only-then-are_none.new.store c.requires.r c.in_ok-change-2.ensures.change c.in_ok-change-2.ensures.shrinks (about_zero c))
