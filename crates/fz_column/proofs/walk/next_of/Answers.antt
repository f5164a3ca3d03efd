use Rattle.std.proofs.Common.{◌≡◌, ◌∙◌, ℕ, ap, sym}
use Rattle.std.specs.Prelude.{slice_get, Some}
use Rattle.std.proofs.lemmas.Option.{slice_get-get_or}
use Rattle.fz_column.proofs.Walking.{next_place}
use Rattle.fz_column.proofs.walk.next_of.Goals as goal

pub returns-in-Some : goal.returns-in-Some
returns-in-Some c =
    let ends = c.args.ends.now in
    let place = c.args.place in
    let end = c.in-Some.end.now in
    let found = c.in-Some.ensures.lookup in
    let at : slice_get ends place ≡ Some end = slice_get-get_or ends place end found.3.0 ∙ ap (λ (e : ℕ). Some e) (sym found.1) in
    c.requires.ends place end at

pub returns-in-None : goal.returns-in-None
returns-in-None c = next_place c.args.supports.now c.args.place c.requires.place
