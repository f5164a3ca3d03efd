use Rattle.std.proofs.Common.{◌≡◌, ◌∙◌, sym, length, rules}
use Rattle.fz_column.proofs.Growing.{dropped_all}
use Rattle.fz_column.proofs.spans.Spans.are.Goals as goal

pub returns : goal.returns
returns c =
    let ranges = c.self.inside.ranges.items in
    let all = dropped_all ranges c.loop-range.place c.loop-range.invariant.1 in
    let both = c.loop-range.invariant.0 in
    let none = c.in-None.ensures.steps in
    let long : c.len-2.result ≡ length ranges = search rules in
    rw (← c.self.view_is, long) ((λ e. both.0 (all.0 e ∙ sym none.0)), (λ e. all.1 (both.1 e ∙ none.0)))
