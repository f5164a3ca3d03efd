use Rattle.std.proofs.Common.{◌∙◌, ◌++◌, [], ap, sym, drop}
use Rattle.fz_language.specs.Search.{parts_of_list}
use Rattle.fz_language.specs.Trees.{More, Nil}
use Rattle.fz_syntax.specs.Trees.{name_of, trees_of, arguments_of, nested_of}
use Rattle.fz_resolve.specs.Meant.{environment_of}
use Rattle.fz_solve.proofs.SearchLaws.{calls_done, in_list, not_one, none_added}
use Rattle.fz_solve.proofs.search.+calls.Goals as goal

pub push_call-returns-in-None : goal.push_call-returns-in-None
push_call-returns-in-None t c =
    let env = environment_of c.args.names.now in
    none_added c.args.parts.now.items
    (in_list env (name_of c.args.name) (arguments_of c.args.arguments.now) [] (sym c.is_basic_search.ensures ∙ c.if-is_basic_search.false) (sym c.is_seq_search.ensures ∙ c.if-not-is_seq_search.false)
    (not_one env (trees_of c.args.arguments.now) c.in-None.ensures.only))

pub push_sequence-returns-in_default-first_at : goal.push_sequence-returns-in_default-first_at
push_sequence-returns-in_default-first_at t c =
    let env = environment_of c.args.names.now in
    sym (calls_done env (trees_of (drop c.places.place c.in-Brackets.members.now)) c.places.parts.items c.in_default-first_at.ensures.first) ∙ c.places.invariant.parted
    ∙ ap (λ n. c.args.parts.now.items ++ parts_of_list env (More (nested_of n) Nil)) (sym c.in-Brackets.is)
