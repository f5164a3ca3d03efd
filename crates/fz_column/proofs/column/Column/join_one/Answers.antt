use Rattle.std.proofs.Common.{◌≡◌, ℤ, List, [], ◌∷◌, refl, length, rules, sym, subst, ◌∙◌, arith, to_z, of_z, w32}
use Rattle.std.proofs.lemmas.Int.{ints}
use Rattle.fz_column.specs.declared.supports.Support.{Support}
use Rattle.fz_column.specs.Supports.{AreSized}
use Rattle.fz_column.proofs.Walking.{ahead_all, range_joined, joined_range}
use Rattle.fz_column.proofs.column.Column.join_one.Goals as goal

pub join_to-requires-clause-sized : goal.join_to-requires-clause-sized
join_to-requires-clause-sized c =
    subst (λ (xs : List Support). AreSized xs (length c.args.rows.now)) (sym (c.deref-2.ensures.value ∙ c.self.view_is)) c.requires

pub returns-clause-rows : goal.returns-clause-rows
returns-clause-rows c =
    let column = c.args.self.now in
    let n = c.args.number in
    let r : ℤ × ℤ = (n, n) in
    let kept : to_z w32 (of_z w32 n) ≡ n = search rules in
    let here : c.deref.result.now ≡ column = c.deref.ensures.value ∙ c.self.view_is in
    let there : c.deref-2.result.now ≡ column = c.deref-2.ensures.value ∙ c.self.view_is in
    let first = rw (kept, here) at c.first_from-first.ensures in
    let end = rw (kept, there) at c.join_to.ensures.end in
    let joined = rw there at c.join_to.ensures.rows in
    let same = range_joined column 0 c.first_from-first.result c.join_to.result (r ∷ []) [] r refl first end (ahead_all column (r ∷ []) (omega (arith, ints))) in
    joined_range column c.args.rows.now c.join_to.new.rows r c.first_from-first.result c.join_to.result joined same
