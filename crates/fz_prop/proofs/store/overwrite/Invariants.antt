use Rattle.std.proofs.Common.{◌≡◌, take, length}
use Rattle.fz_strength.specs.Domains.{AreDomains}
use Rattle.fz_prop.proofs.store.overwrite.Given as goal

-- those so far are the same
abbrev pub invariant-loop-i : goal.invariant-loop-i
invariant-loop-i l = record { size : length l.doms.items ≡ length l.others; domains : AreDomains l.doms.items; same : take l.i l.doms.items ≡ take l.i l.others }
