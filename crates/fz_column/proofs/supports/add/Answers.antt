use Rattle.std.proofs.Common.{◌≡◌, ◌∙◌, ◌++◌, [], ◌∷◌, refl, rules, to_z, of_z, w32}
use Rattle.fz_column.proofs.Filling.{added_new, added_to}
use Rattle.fz_column.proofs.supports.add.Goals as goal

pub returns-then-takes : goal.returns-then-takes
returns-then-takes c =
    let xs = c.pop.new.self.items in
    let last = c.in-Some.last in
    let was : c.args.supports.now.items ≡ xs ++ last ∷ [] = search rules in
    let now : c.push-then-takes.new.self.items ≡ xs ++ c.with.result ∷ [] = search rules in
    let kept : to_z w32 (of_z w32 c.args.number) ≡ c.args.number = search rules in
    let is = c.if-takes.ensures.0 refl in
    rw (was, now) (added_to xs last c.with.result c.args.number c.args.row (is.0 ∙ kept) is.1 c.with.ensures.number c.with.ensures.word c.with.ensures.rows
    (rw was at c.requires.order) (rw was at c.requires.bound))

pub returns : goal.returns
returns c =
    let old = c.args.supports.now.items in
    let now : c.push-3.new.self.items ≡ old ++ c.one-2.result ∷ [] = search rules in
    let kept : to_z w32 (of_z w32 c.args.number) ≡ c.args.number = search rules in
    rw now (added_new old c.one-2.result c.args.number c.args.row (c.one-2.ensures.number ∙ kept) c.one-2.ensures.word c.one-2.ensures.rows c.requires.order c.requires.bound)
