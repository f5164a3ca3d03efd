use Rattle.std.proofs.Common.{◌≡◌, ◌∙◌, ◌++◌, ◌∷◌, [], refl, length, rules}
use Rattle.std.specs.Vec.{vec_len}
use Rattle.fz_column.specs.declared.packed.Packed.{Packed}
use Rattle.fz_column.specs.declared.packed.Numbered.{Numbered}
use Rattle.fz_column.proofs.Packing.{IsPushed, pushed_whole, pushed_rows}
use Rattle.fz_column.proofs.packed.Packed.push.Goals as goal

pub returns-clause-whole : goal.returns-clause-whole
returns-clause-whole c =
    let old : Packed = c.args.self.now in
    let new : Packed = record { numbers = c.push.new.self; words = c.extend_from_slice.new.self; width = old.width } in
    let x : Numbered = record { number = c.args.number; first = c.len-first.result } in
    let long : vec_len old.words ≡ length old.words.items = search rules in
    let numbers : new.numbers.items ≡ old.numbers.items ++ x ∷ [] = search rules in
    let pushed : IsPushed old new x c.args.rows.now =
    record { numbers = numbers; words = c.in_ok-extend_from_slice.ensures.items; width = refl; first = c.len-first.ensures ∙ long; size = c.requires.rows } in
    pushed_whole old new x c.args.rows.now pushed c.requires.whole

pub returns-clause-rows : goal.returns-clause-rows
returns-clause-rows c =
    let old : Packed = c.args.self.now in
    let new : Packed = record { numbers = c.push.new.self; words = c.extend_from_slice.new.self; width = old.width } in
    let x : Numbered = record { number = c.args.number; first = c.len-first.result } in
    let long : vec_len old.words ≡ length old.words.items = search rules in
    let numbers : new.numbers.items ≡ old.numbers.items ++ x ∷ [] = search rules in
    let pushed : IsPushed old new x c.args.rows.now =
    record { numbers = numbers; words = c.in_ok-extend_from_slice.ensures.items; width = refl; first = c.len-first.ensures ∙ long; size = c.requires.rows } in
    pushed_rows old new x c.args.rows.now pushed c.requires.whole
