use Rattle.std.specs.Prelude.{pos, ◌-ℤ◌, nat_abs}
use Rattle.fz_sets.specs.Sets.{IsInSet}
use Rattle.fz_strength.specs.Domains.{term_set}
use Rattle.fz_partners.specs.Found.{AreOfTerms}
use Rattle.fz_partners.proofs.Finding.{AreFoundOf, IsBefore, IsBelow}
use Rattle.fz_partners.proofs.solutions.solutions.Given as goal

-- the number is left, and of the pairs before it all is found
abbrev pub invariant-firsts : goal.invariant-firsts
invariant-firsts l = IsInSet (term_set l.store.doms l.equation.first.term) l.first × AreFoundOf (IsBefore l.first) l.store.doms l.equation l.found × AreOfTerms l.store.doms l.equation l.found

abbrev pub decreases-firsts : goal.decreases-firsts
decreases-firsts l = nat_abs (pos 2147483647 -ℤ l.first)

abbrev pub invariant-seconds : goal.invariant-seconds
invariant-seconds l = IsInSet (term_set l.store.doms l.equation.first.term) l.first × IsInSet (term_set l.store.doms l.equation.second.term) l.second × AreFoundOf (IsBelow l.first l.second) l.store.doms l.equation l.found × AreOfTerms l.store.doms l.equation l.found

abbrev pub decreases-seconds : goal.decreases-seconds
decreases-seconds l = nat_abs (pos 2147483647 -ℤ l.second)
