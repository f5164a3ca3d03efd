use Rattle.std.proofs.Common.{◌∙◌, ap, refl, sym}
use Rattle.fz_path.specs.Paths.{bare}
use Rattle.fz_printer.specs.declared.printer.Printer.{Printer}
use Rattle.fz_printer.specs.Printed.{book_of, stopped_of}
use Rattle.fz_printer.specs.Gatherings.{same_count}
use Rattle.fz_solo.proofs.Moves.{begins, no_part, went_on}
use Rattle.fz_solo.proofs.streaming.stream.Goals as goal

pub parts-init : goal.parts-init
parts-init g c = record {
  working = c.requires.working;
  ready = c.requires.ready;
  held = c.requires.held;
  model = c.requires.model;
  mode = c.requires.mode;
  faults = refl;
  streams = begins c.args.printer.now (bare c.args.path.now) (g.K.Sink.taken c.args.sink.now) c.requires.ready;
}

pub returns-then-not-search_part-clause-streams : goal.returns-then-not-search_part-clause-streams
returns-then-not-search_part-clause-streams g c =
    went_on c.args.printer.now c.parts.printer c.takes_up.new.printer c.search_part.new.printer (bare c.args.path.now) (bare c.parts.path) (bare c.takes_up.new.path) (bare c.search_part.new.path) (g.K.Sink.taken c.args.sink.now) (g.K.Sink.taken c.parts.sink) (g.K.Sink.taken c.search_part.new.sink)
    c.parts.invariant.streams c.parts.invariant.working (c.if-not-takes_up.ensures.holds refl).0 c.takes_up.ensures.moved c.search_part.ensures.streams

pub parts-preserved : goal.parts-preserved
parts-preserved g c =
    let on = c.if-not-search_part.ensures.goes_on refl in
    let same = (c.if-not-takes_up.ensures.holds refl).0 in
    record {
      working = on.0;
      ready = c.search_part.ensures.ready on.0;
      held = no_part c.search_part.new.path.held (book_of c.search_part.new.printer) on.1;
      model = c.search_part.ensures.path ∙ c.takes_up.ensures.path ∙ c.parts.invariant.model ∙ sym (c.search_part.ensures.streams.model ∙ ap (λ (x : Printer). (book_of x).model) same);
      mode = c.search_part.ensures.path_mode ∙ c.takes_up.ensures.path_mode ∙ c.parts.invariant.mode ∙ sym (c.search_part.ensures.streams.mode ∙ ap (λ (x : Printer). (book_of x).mode) same);
      faults = same_count (stopped_of c.search_part.new.printer) (g.K.Sink.faults c.parts.sink) (g.K.Sink.faults c.search_part.new.sink) c.search_part.ensures.cause on.0 ∙ c.parts.invariant.faults;
      streams =
          went_on c.args.printer.now c.parts.printer c.takes_up.new.printer c.search_part.new.printer (bare c.args.path.now) (bare c.parts.path) (bare c.takes_up.new.path) (bare c.search_part.new.path) (g.K.Sink.taken c.args.sink.now) (g.K.Sink.taken c.parts.sink) (g.K.Sink.taken c.search_part.new.sink)
          c.parts.invariant.streams c.parts.invariant.working same c.takes_up.ensures.moved c.search_part.ensures.streams;
    }
