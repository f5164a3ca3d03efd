use Rattle.std.proofs.Common.{◌≡◌, ◌<◌, ◌⊎◌, ◌∙◌, inl, inr, sym, subst, List, [], length, get_or, set, rules, ℕ}
use Rattle.std.proofs.lemmas.List.{get_or_default}
use Rattle.std.proofs.lemmas.Bool.{cases_Bool}
use Rattle.fz_bits.specs.Words.{HasBit}
use Rattle.fz_column.proofs.Grids.{HasRowIn, joined, same, whole_more}
use Rattle.fz_column.proofs.grid.Grid.join.Goals as goal

pub returns-clause-whole : goal.returns-clause-whole
returns-clause-whole c = λ whole.
    let lines = c.args.self.now.lines.items in
    let word = c.args.rows.word in
    let inside : word < length lines = search rules in
    let is : c.index_mut.result.now ≡ get_or lines word [] = c.index_mut.ensures.value ∙ get_or_default lines word c.index_mut.result.now [] inside in
    whole_more c.args.self.now c.with_bit-self.result c.args.place (HasRowIn (set lines word c.join.new.self)) c.requires.place whole c.with_bit-self.ensures (elim (cases_Bool c.join.result) [
      | inl done ↦ λ k i h. elim ((joined lines c.args.rows c.args.place c.index_mut.result.now c.join.new.self inside is (c.join.ensures.rows done) k i).0 h) [ inl old ↦ inl old | inr one ↦ inr one.0 ]
      | inr not_done ↦ λ k i h. inl (same lines word c.index_mut.result.now c.join.new.self inside is (c.join.ensures.none not_done) k i h)
    ])

pub returns-clause-rows : goal.returns-clause-rows
returns-clause-rows c = λ done.
    let lines = c.args.self.now.lines.items in
    let word = c.args.rows.word in
    let inside : word < length lines = search rules in
    let is : c.index_mut.result.now ≡ get_or lines word [] = c.index_mut.ensures.value ∙ get_or_default lines word c.index_mut.result.now [] inside in
    joined lines c.args.rows c.args.place c.index_mut.result.now c.join.new.self inside is (c.join.ensures.rows done)
