use Rattle.std.specs.Prelude.{pos, Bool}
use Rattle.std.proofs.lemmas.Result.{IfOk-weaker}
use Rattle.fz_strength.specs.Sums.{negated}
use Rattle.fz_linear.specs.Passes.{IsPassed, ArePassed}
use Rattle.fz_linear.proofs.Passing.{kept_first, kept_second, passed_first, passed_second}
use Rattle.fz_linear.proofs.pass.tighten_between.Goals as goal

pub returns-then-is_loose-clause-kept : goal.returns-then-is_loose-clause-kept
returns-then-is_loose-clause-kept c =
    kept_second c.args.factors.now c.args.terms.now (pos c.args.above) (pos c.args.below) c.args.store.now c.tighten_all.new.store c.tighten_all.ensures.kept

pub returns-then-is_loose-clause-ok : goal.returns-then-is_loose-clause-ok
returns-then-is_loose-clause-ok c =
    let ks = c.args.factors.now in
    let ts = c.args.terms.now in
    let near = c.requires.loose c.args.above (c.is_loose.ensures.0 c.if-is_loose.true) in
    IfOk-weaker c.tighten_all.result (λ (b : Bool). IsPassed b (negated ks) ts (pos c.args.below) c.args.store.now c.tighten_all.new.store)
    (λ (b : Bool). ArePassed b ks ts (pos c.args.above) (pos c.args.below) c.args.store.now c.tighten_all.new.store)
    (λ b h. passed_second ks ts (pos c.args.above) (pos c.args.below) c.args.store.now c.tighten_all.new.store b near h) c.tighten_all.ensures.ok

pub returns-then-is_loose-2-clause-kept : goal.returns-then-is_loose-2-clause-kept
returns-then-is_loose-2-clause-kept c =
    kept_first c.args.factors.now c.args.terms.now (pos c.args.above) (pos c.args.below) c.args.store.now c.tighten_all-then-is_loose-2.new.store c.tighten_all-then-is_loose-2.ensures.kept

pub returns-then-is_loose-2-clause-ok : goal.returns-then-is_loose-2-clause-ok
returns-then-is_loose-2-clause-ok c =
    let ks = c.args.factors.now in
    let ts = c.args.terms.now in
    let near = c.requires.loose c.args.below (c.is_loose-2.ensures.0 c.if-is_loose-2.true) in
    IfOk-weaker c.tighten_all-then-is_loose-2.result (λ (b : Bool). IsPassed b ks ts (pos c.args.above) c.args.store.now c.tighten_all-then-is_loose-2.new.store)
    (λ (b : Bool). ArePassed b ks ts (pos c.args.above) (pos c.args.below) c.args.store.now c.tighten_all-then-is_loose-2.new.store)
    (λ b h. passed_first ks ts (pos c.args.above) (pos c.args.below) c.args.store.now c.tighten_all-then-is_loose-2.new.store b near h) c.tighten_all-then-is_loose-2.ensures.ok
