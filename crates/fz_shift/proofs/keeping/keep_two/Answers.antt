use Rattle.std.proofs.Common.{rules}
use Rattle.std.proofs.lemmas.Result.{IfOk-weaker}
use Rattle.fz_bits.specs.Windows.{IsBit}
use Rattle.fz_prop.proofs.Twice.{shrinks_twice}
use Rattle.fz_shift.proofs.Kept.{two_kept}
use Rattle.fz_shift.proofs.keeping.keep_two.Goals as goal

pub returns-clause-shrinks : goal.returns-clause-shrinks
returns-clause-shrinks c = shrinks_twice c.args.store.now c.keep_some.new.store c.keep_some-2.new.store c.in_ok-keep_some.ensures.shrinks c.keep_some-2.ensures.shrinks

pub returns-clause-two : goal.returns-clause-two
returns-clause-two c = IfOk-weaker c.keep_some-2.result _ _ (λ b kept yes.
    two_kept c.args.plane (λ u. IsBit c.args.across.base c.args.across.bits u) (λ w. IsBit c.args.first.base c.args.first.bits w)
    c.args.store.now.doms c.keep_some.new.store.doms c.keep_some-2.new.store.doms c.requires.apart (c.in_ok-keep_some.ensures.kept (search rules)) (kept yes)) c.keep_some-2.ensures.kept
