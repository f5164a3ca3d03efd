use Rattle.std.proofs.Common.{◌≡◌, take, fold, map}
use Rattle.std.specs.Prelude.{string_bytes}
use Rattle.fzn.specs.Complaints.{with_usage}
use Rattle.fzn.proofs.complaint.with_usages.Given as goal

-- the lines so far
abbrev pub invariant-loop-i : goal.invariant-loop-i
invariant-loop-i l = string_bytes l.text ≡ fold with_usage l.initial.heading (take l.i (map (λ r. r.3.now) l.rows))
