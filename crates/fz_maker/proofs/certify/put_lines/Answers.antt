use Rattle.std.proofs.Common.{◌∙◌, ap, refl, subst, rules, List}
use Rattle.std.specs.Prelude.{ℕ}
use Rattle.fz_io.specs.Outside.{with_more}
use Rattle.fz_printer.specs.Texts.{TakesFront}
use Rattle.fz_printer.proofs.Fronts.{whenever}
use Rattle.fz_maker.specs.Making.{HasRest, IsEnded, IsWritten}
use Rattle.fz_maker.proofs.Lines.{of_some, under_way, further, ended, stopped, failed}
use Rattle.fz_maker.proofs.certify.put_lines.Goals as goal

pub lines-init : goal.lines-init
lines-init g c = record { way = under_way c.args.maker.now (g.S.Sink.taken c.args.sink.now) c.requires.sound; faults = refl }

pub next_line-requires : goal.next_line-requires
next_line-requires g c = c.lines.invariant.way.sound

pub returns-in_err-line-clause-front : goal.returns-in_err-line-clause-front
returns-in_err-line-clause-front g c =
    whenever c.from_residual.result (stopped c.args.maker.now c.lines.maker (g.S.Sink.taken c.args.sink.now) (g.S.Sink.taken c.lines.sink) c.lines.invariant.way c.in_err-line.ensures.failed)

pub returns-in_err-put-clause-front : goal.returns-in_err-put-clause-front
returns-in_err-put-clause-front g c =
    let written = of_some c.in_ok-line.field-0 c.in-Some.line (λ line. IsWritten line.items c.lines.maker c.next_line.new.maker × HasRest c.next_line.new.maker) c.in-Some.is c.in_ok-line.ensures.some in
    whenever c.from_residual-in_err-put.result (failed c.args.maker.now c.lines.maker c.next_line.new.maker (g.S.Sink.taken c.args.sink.now) (g.S.Sink.taken c.lines.sink) (g.S.Sink.taken c.put.new.sink) c.in-Some.line.items
    c.lines.invariant.way written.0 written.1 (subst (λ (t : List ℕ). TakesFront t (g.S.Sink.taken c.lines.sink) (g.S.Sink.taken c.put.new.sink)) c.deref.ensures.value c.in_err-put.ensures.front))

pub lines-smaller : goal.lines-smaller
lines-smaller g c =
    (of_some c.in_ok-line.field-0 c.in-Some.line (λ line. IsWritten line.items c.lines.maker c.next_line.new.maker × HasRest c.next_line.new.maker) c.in-Some.is c.in_ok-line.ensures.some).0.fewer

pub lines-preserved : goal.lines-preserved
lines-preserved g c =
    let written = of_some c.in_ok-line.field-0 c.in-Some.line (λ line. IsWritten line.items c.lines.maker c.next_line.new.maker × HasRest c.next_line.new.maker) c.in-Some.is c.in_ok-line.ensures.some in
    record {
      way = further c.args.maker.now c.lines.maker c.next_line.new.maker (g.S.Sink.taken c.args.sink.now) (g.S.Sink.taken c.lines.sink) (g.S.Sink.taken c.put.new.sink) c.in-Some.line.items
          c.lines.invariant.way written.0 (c.in_ok-put.ensures.taken ∙ ap (with_more (g.S.Sink.taken c.lines.sink)) c.deref.ensures.value);
      faults = c.in_ok-put.ensures.cause ∙ c.lines.invariant.faults;
    }

pub returns-clause-taken : goal.returns-clause-taken
returns-clause-taken g c =
    let end : IsEnded c.lines.maker = search rules in
    ended c.args.maker.now c.lines.maker (g.S.Sink.taken c.args.sink.now) (g.S.Sink.taken c.lines.sink) c.lines.invariant.way end
