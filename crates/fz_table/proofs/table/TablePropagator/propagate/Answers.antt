use Rattle.std.proofs.Common.{◌≡◌, List, ◌∷◌, [], length, refl, sym, subst, arith, rules}
use Rattle.std.specs.Prelude.{slice_get, Some}
use Rattle.std.proofs.lemmas.Option.{slice_get_read}
use Rattle.fz_spec.specs.declared.term.Term.{Term}
use Rattle.fz_table.proofs.TwoColumns.{two_of}
use Rattle.fz_strength.specs.Sayings.{Row, truth_of, line_of}
use Rattle.fz_prop.specs.Answers.{Narrows}
use Rattle.fz_table.proofs.table.TablePropagator.propagate.Goals as goal

pub returns-in-Columns : goal.returns-in-Columns
returns-in-Columns c =
    let says = Row c.self.inside.terms.items c.self.inside.numbers.items in
    let kept = rw (c.deref-in-Columns.ensures.value, c.deref-in-Columns-2.ensures.value) at c.keep_rows.ensures in
    let narrows : Narrows (truth_of says) (line_of says) c.keep_rows.result c.args.store.now c.keep_rows.new.store =
    record { shrinks = kept.shrinks; correct = kept.correct; answer = kept.answer } in
    rw (← c.self.view_is) narrows

pub returns-in-Pairs : goal.returns-in-Pairs
returns-in-Pairs c =
    let terms = c.self.inside.terms.items in
    let says = Row terms c.self.inside.numbers.items in
    let x = c.index.result.now in
    let y = c.index-in-Pairs.result.now in
    let size : length terms ≡ 2 = search rules in
    let at_x : slice_get terms 0 ≡ Some x = slice_get_read terms (length terms) 0 x refl (omega (arith, size)) c.index.ensures in
    let at_y : slice_get terms 1 ≡ Some y = slice_get_read terms (length terms) 1 y refl (omega (arith, size)) c.index-in-Pairs.ensures in
    let two : terms ≡ x ∷ y ∷ [] = two_of terms x y size at_x at_y in
    let numbers = c.self.inside.numbers.items in
    let kept = rw c.deref.ensures.value at c.keep_pairs.ensures in
    let narrows : Narrows (truth_of (Row (x ∷ y ∷ []) numbers)) (line_of (Row (x ∷ y ∷ []) numbers)) c.keep_pairs.result c.args.store.now c.keep_pairs.new.store =
    record { shrinks = kept.shrinks; correct = kept.correct; answer = kept.answer } in
    let whole : Narrows (truth_of says) (line_of says) c.keep_pairs.result c.args.store.now c.keep_pairs.new.store =
    subst (λ (xs : List Term). Narrows (truth_of (Row xs numbers)) (line_of (Row xs numbers)) c.keep_pairs.result c.args.store.now c.keep_pairs.new.store) (sym two) narrows in
    rw (← c.self.view_is) whole
