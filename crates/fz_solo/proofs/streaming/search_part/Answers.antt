use Rattle.std.proofs.Common.{arith, ◌≡◌, ◌∙◌, ap, length, None, refl, sym, subst, IsSomeAnd}
use Rattle.fz_tree.specs.Book.{Book}
use Rattle.fz_book.specs.Reports.{IsReportable}
use Rattle.fz_path.specs.Paths.{bare}
use Rattle.fz_printer.specs.Printed.{stopped_of}
use Rattle.fz_printer.specs.Gathered.{IsFilled}
use Rattle.fz_printer.specs.Gatherings.{same_count}
use Rattle.fz_printer.proofs.Gathering.{ready_kept}
use Rattle.fz_solo.proofs.Moves.{begins, both_stream, handed_on, more_kept}
use Rattle.fz_solo.proofs.streaming.search_part.Goals as goal

pub stretches-init : goal.stretches-init
stretches-init g c = record {
  working = c.requires.working;
  ready = c.requires.ready;
  more = c.requires.more;
  held = c.requires.held;
  model = c.requires.model;
  mode = c.requires.mode;
  path = refl;
  path_mode = refl;
  faults = refl;
  parts = refl;
  streams = begins c.args.printer.now (bare c.args.path.now) (g.K.Sink.taken c.args.sink.now) c.requires.ready;
}

pub returns-then-has_stopped-clause-streams : goal.returns-then-has_stopped-clause-streams
returns-then-has_stopped-clause-streams g c =
    both_stream c.args.printer.now c.stretches.printer c.advance.new.printer (bare c.args.path.now) (bare c.stretches.path) (bare c.advance.new.path) (g.K.Sink.taken c.args.sink.now) (g.K.Sink.taken c.stretches.sink) (g.K.Sink.taken c.advance.new.sink)
    c.stretches.invariant.streams c.stretches.invariant.working c.advance.ensures.streams

pub returns-then-is_filled-clause-streams : goal.returns-then-is_filled-clause-streams
returns-then-is_filled-clause-streams g c =
    both_stream c.args.printer.now c.stretches.printer c.advance.new.printer (bare c.args.path.now) (bare c.stretches.path) (bare c.advance.new.path) (g.K.Sink.taken c.args.sink.now) (g.K.Sink.taken c.stretches.sink) (g.K.Sink.taken c.advance.new.sink)
    c.stretches.invariant.streams c.stretches.invariant.working c.advance.ensures.streams

pub returns-then-is_idle-clause-streams : goal.returns-then-is_idle-clause-streams
returns-then-is_idle-clause-streams g c =
    both_stream c.args.printer.now c.stretches.printer c.advance.new.printer (bare c.args.path.now) (bare c.stretches.path) (bare c.advance.new.path) (g.K.Sink.taken c.args.sink.now) (g.K.Sink.taken c.stretches.sink) (g.K.Sink.taken c.advance.new.sink)
    c.stretches.invariant.streams c.stretches.invariant.working c.advance.ensures.streams

pub returns-then-is_idle-clause-goes_on : goal.returns-then-is_idle-clause-goes_on
returns-then-is_idle-clause-goes_on g c = λ t.
    let none : stopped_of c.advance.new.printer ≡ None = c.if-has_stopped.ensures.0 refl in
    let idle : c.advance.new.path.held ≡ None = c.if-is_idle.ensures.0 refl in
    let fewer = (c.advance.ensures.advanced none).fewer idle in
    let same = c.stretches.invariant.parts in
    (none, idle, omega (arith, fewer, same))

pub returns-then-has_stopped-2-clause-streams : goal.returns-then-has_stopped-2-clause-streams
returns-then-has_stopped-2-clause-streams g c =
    let none : stopped_of c.advance.new.printer ≡ None = c.if-has_stopped.ensures.0 refl in
    let more : IsFilled c.advance.new.printer → ⊥ = λ f. (let e = c.if-is_filled.ensures.1 f in cc) in
    let streams = both_stream c.args.printer.now c.stretches.printer c.advance.new.printer (bare c.args.path.now) (bare c.stretches.path) (bare c.advance.new.path) (g.K.Sink.taken c.args.sink.now) (g.K.Sink.taken c.stretches.sink) (g.K.Sink.taken c.advance.new.sink)
    c.stretches.invariant.streams c.stretches.invariant.working c.advance.ensures.streams in
    handed_on c.args.printer.now c.advance.new.printer c.hand_on_if_due.new.printer (bare c.args.path.now) (bare c.advance.new.path) (g.K.Sink.taken c.args.sink.now) (g.K.Sink.taken c.advance.new.sink) (g.K.Sink.taken c.hand_on_if_due.new.sink)
    streams none (c.advance.ensures.ready none) more c.hand_on_if_due.ensures.keeps c.hand_on_if_due.ensures.book c.hand_on_if_due.ensures.printed c.hand_on_if_due.ensures.taken

pub stretches-preserved : goal.stretches-preserved
stretches-preserved g c =
    let none : stopped_of c.advance.new.printer ≡ None = c.if-has_stopped.ensures.0 refl in
    let more : IsFilled c.advance.new.printer → ⊥ = λ f. (let e = c.if-is_filled.ensures.1 f in cc) in
    let goes : c.advance.new.path.held ≡ None → ⊥ = λ i. (let e = c.if-is_idle.ensures.1 i in cc) in
    let on = c.advance.ensures.advanced none in
    let streams = both_stream c.args.printer.now c.stretches.printer c.advance.new.printer (bare c.args.path.now) (bare c.stretches.path) (bare c.advance.new.path) (g.K.Sink.taken c.args.sink.now) (g.K.Sink.taken c.stretches.sink) (g.K.Sink.taken c.advance.new.sink)
    c.stretches.invariant.streams c.stretches.invariant.working c.advance.ensures.streams in
    let still : stopped_of c.hand_on_if_due.new.printer ≡ None = c.if-has_stopped-2.ensures.0 refl in
    record {
      working = still;
      ready = ready_kept c.advance.new.printer c.hand_on_if_due.new.printer (c.advance.ensures.ready none) c.hand_on_if_due.ensures.keeps c.hand_on_if_due.ensures.book c.hand_on_if_due.ensures.printed;
      more = more_kept c.advance.new.printer c.hand_on_if_due.new.printer more c.hand_on_if_due.ensures.keeps c.hand_on_if_due.ensures.book;
      held = subst (λ (b : Book). IsSomeAnd c.advance.new.path.held (IsReportable b)) (sym c.hand_on_if_due.ensures.book) (on.reportable goes);
      model = c.advance.ensures.path ∙ c.stretches.invariant.model ∙ sym (ap (λ (b : Book). b.model) c.hand_on_if_due.ensures.book ∙ c.advance.ensures.streams.model);
      mode = c.advance.ensures.path_mode ∙ c.stretches.invariant.mode ∙ sym (ap (λ (b : Book). b.mode) c.hand_on_if_due.ensures.book ∙ c.advance.ensures.streams.mode);
      path = c.advance.ensures.path ∙ c.stretches.invariant.path;
      path_mode = c.advance.ensures.path_mode ∙ c.stretches.invariant.path_mode;
      faults =
          same_count (stopped_of c.hand_on_if_due.new.printer) (g.K.Sink.faults c.advance.new.sink) (g.K.Sink.faults c.hand_on_if_due.new.sink) c.hand_on_if_due.ensures.cause still
          ∙ same_count (stopped_of c.advance.new.printer) (g.K.Sink.faults c.stretches.sink) (g.K.Sink.faults c.advance.new.sink) c.advance.ensures.cause none ∙ c.stretches.invariant.faults;
      parts = ap (λ (b : Book). length b.parts) c.hand_on_if_due.ensures.book ∙ on.as_many goes ∙ c.stretches.invariant.parts;
      streams = handed_on c.args.printer.now c.advance.new.printer c.hand_on_if_due.new.printer (bare c.args.path.now) (bare c.advance.new.path) (g.K.Sink.taken c.args.sink.now) (g.K.Sink.taken c.advance.new.sink) (g.K.Sink.taken c.hand_on_if_due.new.sink)
          streams none (c.advance.ensures.ready none) more c.hand_on_if_due.ensures.keeps c.hand_on_if_due.ensures.book c.hand_on_if_due.ensures.printed c.hand_on_if_due.ensures.taken;
    }
