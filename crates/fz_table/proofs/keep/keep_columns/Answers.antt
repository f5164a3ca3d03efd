use Rattle.std.proofs.Common.{◌≡◌, ℕ, ◌<◌, rules, ◌∙◌, refl, ap, sym, subst, arith, pos}
use Rattle.std.specs.Prelude.{slice_get, Some}
use Rattle.std.proofs.lemmas.Option.{slice_get-get_or}
use Rattle.fz_spec.specs.declared.term.Term.{Term}
use Rattle.fz_spec.specs.declared.term.Term.TheVariants.{Num, Var}
use Rattle.std.proofs.Common.{length}
use Rattle.fz_strength.specs.Events.{IsFixedIn}
use Rattle.fz_prop.specs.Stores.{Stored}
use Rattle.fz_column.specs.Supports.{StandsIn}
use Rattle.fz_table.proofs.LeftRows.{in_column, column_at}
use Rattle.fz_table.proofs.Keeping.{keeping_only, keeping_same, keeping_changed, keeping_correct, keeping_fails, keeping_all}
use Rattle.fz_table.proofs.keep.keep_columns.Goals.{in-Changed, in-Same}
use Rattle.fz_table.proofs.keep.keep_columns.Goals as goal

pub loop-place-preserved-in_default : goal.loop-place-preserved-in_default
loop-place-preserved-in_default c =
    let xs = c.args.terms.now in
    let k = c.loop-place.place in
    let at : slice_get xs k ≡ Some (Num c.in_default.field-0) = slice_get-get_or xs k (Num (pos 0)) c.loop-place-test.true ∙ ap (λ (t : Term). Some t) c.in_default.is in
    keeping_only xs c.args.table.now c.args.store.now c.loop-place.store c.loop-place.has_changed k (Num c.in_default.field-0) c.args.rows.now at (c.in_default.field-0, refl) c.requires.some c.requires.rows c.loop-place.invariant

pub loop-place-preserved-then-is_fixed : goal.loop-place-preserved-then-is_fixed
loop-place-preserved-then-is_fixed c =
    let xs = c.args.terms.now in
    let k = c.loop-place.place in
    let v = c.in-Var.variable in
    let at : slice_get xs k ≡ Some (Var v) = slice_get-get_or xs k (Num (pos 0)) c.loop-place-test.true ∙ ap (λ (t : Term). Some t) c.in-Var.is in
    let now : IsFixedIn c.loop-place.store.doms (Var v) = rw c.dom.ensures.dom at (c.if-is_fixed.ensures.one.0 refl) in
    let same : c.loop-place.store ≡ c.args.store.now = c.loop-place.invariant.same (search rules) in
    let fixed : IsFixedIn c.args.store.now.doms (Var v) = subst (λ (s : Stored). IsFixedIn s.doms (Var v)) same now in
    keeping_only xs c.args.table.now c.args.store.now c.loop-place.store c.loop-place.has_changed k (Var v) c.args.rows.now at fixed c.requires.some c.requires.rows c.loop-place.invariant

pub keep_column-requires-clause-sized : goal.keep_column-requires-clause-sized
keep_column-requires-clause-sized c =
    let xs = c.args.terms.now in
    let k = c.loop-place.place in
    let own = column_at c.args.table.now (length xs) k c.args.columns.now c.index-columns-place.result c.loop-place-test.true c.requires.columns c.index-columns-place.is in
    λ s is. subst (λ (size : ℕ). s.rows.word < size) (sym c.requires.size) (own.sized s is)

pub returns-in-Wiped-clause-correct : goal.returns-in-Wiped-clause-correct
returns-in-Wiped-clause-correct c =
    let xs = c.args.terms.now in
    let k = c.loop-place.place in
    let v = c.in-Var.variable in
    let at : slice_get xs k ≡ Some (Var v) = slice_get-get_or xs k (Num (pos 0)) c.loop-place-test.true ∙ ap (λ (t : Term). Some t) c.in-Var.is in
    let below = c.loop-place-test.true in
    let some : 0 < length xs = omega (arith, below) in
    let column = c.index-columns-place.result in
    let own = column_at c.args.table.now (length xs) k c.args.columns.now column below c.requires.columns c.index-columns-place.is in
    let stands = in_column xs c.args.table.now c.args.store.now.doms c.args.rows.now k column some c.requires.rows own in
    keeping_correct c.in_ok-keep_column.field-0 xs c.args.table.now c.args.store.now c.loop-place.store c.keep_column.new.store k v c.args.rows.now (StandsIn column c.args.rows.now)
    c.requires.terms at c.requires.rows stands c.in_ok-keep_column.ensures.change c.in_ok-keep_column.ensures.shrinks c.loop-place.invariant.correct

pub returns-in-Wiped-clause-answer : goal.returns-in-Wiped-clause-answer
returns-in-Wiped-clause-answer c =
    let xs = c.args.terms.now in
    let k = c.loop-place.place in
    let v = c.in-Var.variable in
    let at : slice_get xs k ≡ Some (Var v) = slice_get-get_or xs k (Num (pos 0)) c.loop-place-test.true ∙ ap (λ (t : Term). Some t) c.in-Var.is in
    let below = c.loop-place-test.true in
    let some : 0 < length xs = omega (arith, below) in
    let column = c.index-columns-place.result in
    let own = column_at c.args.table.now (length xs) k c.args.columns.now column below c.requires.columns c.index-columns-place.is in
    let stands = in_column xs c.args.table.now c.args.store.now.doms c.args.rows.now k column some c.requires.rows own in
    keeping_fails xs c.args.table.now c.args.store.now c.loop-place.store c.keep_column.new.store c.loop-place.has_changed k v c.args.rows.now (StandsIn column c.args.rows.now)
    c.requires.terms at c.requires.rows stands (rw c.in-Wiped.is at c.in_ok-keep_column.ensures.change) c.loop-place.invariant

pub loop-place-preserved : goal.loop-place-preserved
loop-place-preserved c =
    let xs = c.args.terms.now in
    let k = c.loop-place.place in
    let v = c.in-Var.variable in
    let at : slice_get xs k ≡ Some (Var v) = slice_get-get_or xs k (Num (pos 0)) c.loop-place-test.true ∙ ap (λ (t : Term). Some t) c.in-Var.is in
    let below = c.loop-place-test.true in
    let some : 0 < length xs = omega (arith, below) in
    let column = c.index-columns-place.result in
    let own = column_at c.args.table.now (length xs) k c.args.columns.now column below c.requires.columns c.index-columns-place.is in
    let stands = in_column xs c.args.table.now c.args.store.now.doms c.args.rows.now k column some c.requires.rows own in
    elim c.match-branch-2.branch [
      | in-Changed w ↦
          rw w.has_changed-is
          (keeping_changed xs c.args.table.now c.args.store.now c.loop-place.store c.keep_column.new.store c.loop-place.has_changed k v c.args.rows.now (StandsIn column c.args.rows.now)
          c.requires.terms at c.requires.rows stands (rw w.in-Changed.is at c.in_ok-keep_column.ensures.change) c.in_ok-keep_column.ensures.shrinks c.loop-place.invariant)
      | in-Same w ↦
          rw w.has_changed-is
          (keeping_same xs c.args.table.now c.args.store.now c.loop-place.store c.keep_column.new.store c.loop-place.has_changed k v c.args.rows.now (StandsIn column c.args.rows.now)
          at stands (rw w.in-Same.is at c.in_ok-keep_column.ensures.change) c.loop-place.invariant)
    ]

pub returns-else-has_changed-clause-answer : goal.returns-else-has_changed-clause-answer
returns-else-has_changed-clause-answer c =
    let xs = c.args.terms.now in
    let end = c.loop-place-test.false in
    keeping_all xs c.args.table.now c.args.store.now c.loop-place.store c.loop-place.has_changed c.loop-place.place c.args.rows.now (omega (arith, end)) c.requires.some c.requires.rows
    (λ e. c.requires.differ (search rules)) c.loop-place.invariant
