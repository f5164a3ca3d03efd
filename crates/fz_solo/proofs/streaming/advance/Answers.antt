use Rattle.std.proofs.Common.{◌≢◌, ◌∙◌, refl, sym}
use Rattle.fz_path.specs.Paths.{bare}
use Rattle.fz_printer.specs.Printed.{as_found_of, book_of, stopped_of}
use Rattle.fz_solo.specs.declared.stretches.Halt.TheVariants.{Each}
use Rattle.fz_solo.specs.Stretches.{IsQuiet}
use Rattle.fz_solo.specs.declared.streaming.Message.TheVariants.{Better}
use Rattle.fz_solo.proofs.Moves.{advanced, none_is_no_memory, silent}
use Rattle.fz_solo.proofs.Advances.{done_by, goes_on, left_reported, quiet_path, reported_code, silent_code, told_code}
use Rattle.fz_solo.proofs.streaming.advance.Goals as goal

pub returns-in-Better-clause-streams : goal.returns-in-Better-clause-streams
returns-in-Better-clause-streams g c =
    let at = c.message_of.ensures.better c.in-Better.is in
    advanced c.args.printer.now c.tell.new.printer (bare c.args.path.now) (bare c.stretch.new.path) (g.K.Sink.taken c.args.sink.now) (g.K.Sink.taken c.tell.new.sink) c.requires.working c.requires.ready c.requires.more c.tell.ensures.grew c.tell.ensures.ready
    (told_code c.args.printer.now c.tell.new.printer (bare c.args.path.now) (bare c.stretch.new.path) c.halt_of-halt.result c.in-Ok.pause c.in-Ok.ensures.searched at (c.halt_of-halt.ensures.each at.0) c.tell.ensures.told)

pub returns-in-Account-clause-streams : goal.returns-in-Account-clause-streams
returns-in-Account-clause-streams g c =
    let p = c.args.printer.now in
    let q = (bare c.args.path.now) in
    let quiet : c.halt_of-halt.result ≢ Each → IsQuiet (as_found_of p) q = λ n. quiet_path (as_found_of p) q (book_of p) c.requires.mode (c.halt_of-halt.ensures.quiet n) in
    let other : c.message_of.result ≢ Better = λ e. (let f = sym c.in-Account.is ∙ e in cc) in
    let goes = goes_on c.halt_of-halt.result c.in-Ok.pause (as_found_of p) q (bare c.stretch.new.path) c.in-Ok.ensures.searched (c.message_of.ensures.told other) quiet in
    advanced p c.report.new.printer q (bare c.report.new.path) (g.K.Sink.taken c.args.sink.now) (g.K.Sink.taken c.report.new.sink) c.requires.working c.requires.ready c.requires.more c.report.ensures.grew c.report.ensures.ready
    (λ n. reported_code (as_found_of p) (book_of p) (book_of c.report.new.printer) q (bare c.stretch.new.path) (bare c.report.new.path) goes
    (done_by (book_of p) c.stretch.new.path.held c.halt_of-halt.result c.in-Ok.pause (c.message_of.ensures.account c.in-Account.is) c.in-Ok.ensures.closed c.halt_of-halt.ensures.batch) (c.report.ensures.taken n))

pub returns-in-Account-clause-advanced : goal.returns-in-Account-clause-advanced
returns-in-Account-clause-advanced g c = λ none.
    left_reported (book_of c.args.printer.now) (book_of c.report.new.printer) c.args.path.now.held c.stretch.new.path.held (bare c.stretch.new.path) (bare c.report.new.path) c.in-Ok.pause refl c.requires.held c.stretch.ensures.kept c.in-Ok.ensures.closed c.in-Ok.ensures.falls
    (c.report.ensures.taken (none_is_no_memory (stopped_of c.report.new.printer) none))

pub returns-in-Nothing-clause-streams : goal.returns-in-Nothing-clause-streams
returns-in-Nothing-clause-streams g c =
    let p = c.args.printer.now in
    let q = (bare c.args.path.now) in
    let quiet : c.halt_of-halt.result ≢ Each → IsQuiet (as_found_of p) q = λ n. quiet_path (as_found_of p) q (book_of p) c.requires.mode (c.halt_of-halt.ensures.quiet n) in
    let other : c.message_of.result ≢ Better = λ e. (let f = sym c.in-Nothing.is ∙ e in cc) in
    silent p q (bare c.stretch.new.path) (g.K.Sink.taken c.args.sink.now) c.requires.ready
    (silent_code (as_found_of p) (book_of p) q (bare c.stretch.new.path) (goes_on c.halt_of-halt.result c.in-Ok.pause (as_found_of p) q (bare c.stretch.new.path) c.in-Ok.ensures.searched (c.message_of.ensures.told other) quiet))
