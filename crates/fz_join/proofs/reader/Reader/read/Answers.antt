use Rattle.std.proofs.Common.{◌≡◌, ◌∙◌, ℕ, List, refl, sym, ap}
use Rattle.fz_join.specs.Machine.{Reading, end_line, read_text}
use Rattle.fz_join.specs.Tallies.{reading_of}
use Rattle.fz_join.proofs.Checked.{knows_part}
use Rattle.fz_join.proofs.Pieces.{appended_more, read_line, read_part, with_part}
use Rattle.fz_join.proofs.reader.Reader.read.Goals as goal

-- with these of a line that isn't ended
abbrev with_partial : Reading → List ℕ → Reading
with_partial r partial = record { state = r.state; partial = partial; printed = r.printed }

pub lines-preserved : goal.lines-preserved
lines-preserved c =
    let m = c.args.model.now in
    let r = reading_of c.lines.self in
    let front = c.in-Some.front.now in
    let line : reading_of c.end_line.new.self ≡ end_line m c.args.all (with_part r front) = c.in_ok-end_line.ensures.read ∙ ap (λ partial. end_line m c.args.all (with_partial r partial)) c.in_ok-extend_from_slice.ensures.items in (
      ap (λ (y : Reading). read_text m c.args.all y c.in-Some.later.now) line
          ∙ sym (read_line m c.args.all r front c.in-Some.later.now c.in-Some.ensures.some.0)
          ∙ sym (ap (read_text m c.args.all r) c.in-Some.ensures.some.1)
          ∙ c.lines.invariant.0,
      appended_more c.lines.invariant.1 c.in_ok-end_line.ensures.text,
      c.in_ok-end_line.ensures.knows,
    )

pub returns-clause-read : goal.returns-clause-read
returns-clause-read c =
    let r = reading_of c.lines.self in
    ap (with_partial r) c.in_ok-extend_from_slice-2.ensures.items
    ∙ sym (read_part c.args.model.now c.args.all r c.lines.left.now c.in_default.ensures.none)
    ∙ c.lines.invariant.0

pub end_line-requires : goal.end_line-requires
end_line-requires c = knows_part c.args.model.now c.lines.self _ c.in-Some.front.now c.lines.invariant.2 c.in-Some.ensures.some.0
    (ap (with_partial (reading_of c.lines.self)) c.in_ok-extend_from_slice.ensures.items) refl refl refl

pub returns-clause-knows : goal.returns-clause-knows
returns-clause-knows c = knows_part c.args.model.now c.lines.self _ c.lines.left.now c.lines.invariant.2 c.in_default.ensures.none
    (ap (with_partial (reading_of c.lines.self)) c.in_ok-extend_from_slice-2.ensures.items) refl refl refl
