use Rattle.std.proofs.Common.{◌≡◌, Some, None, ap, length, refl, subst, OnOk, slice_get}
use Rattle.std.proofs.lemmas.Option.{slice_get_past, slice_get_read}
use Rattle.fz_join.specs.Machine.{Section, State, comment_of}
use Rattle.fz_join.specs.Tallies.{state_of}
use Rattle.fz_join.proofs.Prefixes.{item_line}
use Rattle.fz_join.proofs.machine.State.take_in.Goals as goal

pub returns-in-Some-get : goal.returns-in-Some-get
returns-in-Some-get c =
    let m = c.args.model.now in
    let outputs = c.outputs.result.now in
    let items = ap (λ (x : Section). x.items) c.section.view_is in
    let block = ap (λ (x : Section). x.block) c.section.view_is in
    let none : None ≡ comment_of c.args.section.block c.args.line.now = cc (c.in_default.ensures, c.deref.ensures.value, block) in
    let here = slice_get_read outputs (length outputs) c.section.inside.items c.in-Some-get.output.now refl c.in-Some-get.ensures.lookup.3.0 c.in-Some-get.ensures.lookup.1 in
    let item : slice_get m.outputs c.args.section.items ≡ Some c.in-Some-get.output.now = cc (here, items, c.outputs.ensures.outputs) in
    subst (λ (s : State). OnOk c.take_item.result (state_of c.take_item.new.self ≡ s))
    (item_line m c.args.all (state_of c.args.self.now) c.args.section c.args.line.now (Some c.in-Some-get.output.now) none item)
    (c.take_item.ensures m c.args.all)

pub returns-in-None : goal.returns-in-None
returns-in-None c =
    let m = c.args.model.now in
    let outputs = c.outputs.result.now in
    let items = ap (λ (x : Section). x.items) c.section.view_is in
    let block = ap (λ (x : Section). x.block) c.section.view_is in
    let none : None ≡ comment_of c.args.section.block c.args.line.now = cc (c.in_default.ensures, c.deref.ensures.value, block) in
    let beyond = slice_get_past outputs c.section.inside.items c.in-None.ensures.lookup.3 in
    let item : slice_get m.outputs c.args.section.items ≡ None = cc (beyond, items, c.outputs.ensures.outputs) in
    subst (λ (s : State). OnOk c.take_dashes.result (state_of c.take_dashes.new.self ≡ s))
    (item_line m c.args.all (state_of c.args.self.now) c.args.section c.args.line.now None none item)
    c.take_dashes.ensures
