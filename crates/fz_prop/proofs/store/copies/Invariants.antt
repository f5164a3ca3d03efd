use Rattle.std.proofs.Common.{◌≡◌, take}
use Rattle.fz_prop.proofs.store.copies.Given as goal

-- those so far are copied
abbrev pub invariant-loop-dom : goal.invariant-loop-dom
invariant-loop-dom l = l.copies.items ≡ take l.dom-index l.doms
