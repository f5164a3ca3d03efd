use Rattle.std.proofs.Common.{◌∙◌, ◌-◌, ◌≤◌, List, drop, length, ap, arith, sym}
use Rattle.std.specs.Prelude.{ℤ}
use Rattle.fz_book.specs.Recorded.{Recorded}
use Rattle.fz_book.proofs.Behind.{drop_behind}
use Rattle.fz_book.proofs.record.Record.from.Goals as goal

pub returns : goal.returns
returns c =
    let past : List (List ℤ) = c.self.inside.past.items in
    let kept : List (List ℤ) = c.self.inside.kept.items in
    let counted = c.self.invariant.counted in
    let gone = ap (λ (r : Recorded). r.gone) c.self.view_is in
    let within : length past ≤ c.args.place = (let h = c.requires.kept in omega (arith, h, gone, counted)) in
    c.split_at.ensures.back ∙ ap (λ (l : List (List ℤ)). drop (c.args.place - c.self.inside.gone) l) c.deref.ensures.value ∙ ap (λ k. drop (c.args.place - k) kept) counted
    ∙ sym (drop_behind past kept c.args.place within) ∙ ap (λ (r : Recorded). drop c.args.place r.items) c.self.view_is
