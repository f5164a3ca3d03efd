use Rattle.std.proofs.Common.{◌≡◌, ap, length, ℕ, List, true}
use Rattle.std.specs.Prelude.{◌==◌}
use Rattle.fz_part.proofs.Reading.{not_none, one_read}
use Rattle.fz_part.proofs.read.decisions_of.Goals as goal

pub returns-in_default : goal.returns-in_default
returns-in_default c = λ p written is.
    not_none p c.decisions.decisions.items c.decisions.left.now written (c.decisions.invariant p written is) (λ none. let empty : (length c.decisions.left.now == 0) ≡ true = ap (λ (t : List ℕ). length t == 0) none in cc) c.in_default.ensures.next

pub decisions-preserved : goal.decisions-preserved
decisions-preserved c = λ p written is.
    one_read p c.decisions.decisions.items c.push.new.self.items c.decisions.left.now c.in-Some.later.now c.in-Some.decision written (c.decisions.invariant p written is) (λ none. let empty : (length c.decisions.left.now == 0) ≡ true = ap (λ (t : List ℕ). length t == 0) none in cc)
    c.in-Some.ensures.next c.in_ok-push.ensures.items
