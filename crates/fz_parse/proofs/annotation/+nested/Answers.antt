use Rattle.std.proofs.Common.{◌≡◌, ℕ, suc, Option, vec_len, rules, ◌-◌, ◌<◌, ◌≤◌, List, [], ◌∷◌, ◌++◌, length, ◌||◌, ◌∙◌, refl, sym, ap, subst, arith}
use Rattle.std.proofs.lemmas.Result.{err_from_is_err_and}
use Rattle.fz_language.specs.Trees as trees
use Rattle.fz_language.specs.Grammar.{Arguments, Listed}
use Rattle.fz_language.specs.Grammar as grammar
use Rattle.fz_grammar.specs.Grammar.{Rule}
use Rattle.fz_grammar.specs.Reading.{head, has}
use Rattle.fz_syntax.specs.declared.annotation.Argument.{Argument}
use Rattle.fz_syntax.specs.declared.expression.Basic.TheVariants as basic
use Rattle.fz_syntax.specs.declared.annotation.Argument.TheVariants as argument
use Rattle.fz_syntax.specs.Trees.{arguments_of, trees_of}
use Rattle.fz_parse.specs.Added.{AreAdded, added, called_in, count_in}
use Rattle.fz_parse.specs.Steps.{Read}
use Rattle.fz_parse.proofs.Follows.{reads_by, halts_by, first, later, tail, here, leaf_then, rule_then, leaf_behind, rule_behind, ended}
use Rattle.fz_parse.proofs.Depths.{opens_parenthesis_at, opens_bracket_at, deeper_read, deeper_halts, over, closes}
use Rattle.fz_parse.proofs.Putting.{none_added, nothing_is, simple_added, simple_is, text_added, text_is, inside_added, inside_is, alone_added, alone_is, both_added, first_is, next_is, added_below}
use Rattle.fz_parse.proofs.Lists.{GoesOn, goes_first, goes_next, stops_first, stops_comma, stops_next, reads_end, all_arguments}
use Rattle.fz_parse.proofs.annotation.+nested.Goals as goal

pub called-returns-then-not-is-clause-taken : goal.called-returns-then-not-is-clause-taken
called-returns-then-not-is-clause-taken t c =
    let h = head grammar.flatzinc c.args.lexer.now.tokens in
    reads_by {n = grammar.Called} (later (grammar.rules grammar.Called) h c.is.ensures.found c.if-not-is.true) ended

pub called-returns-then-not-is-clause-added : goal.called-returns-then-not-is-clause-added
called-returns-then-not-is-clause-added t c =
    none_added c.args.found.now.items

pub called-returns-then-left-eq0-clause-taken : goal.called-returns-then-left-eq0-clause-taken
called-returns-then-left-eq0-clause-taken t c =
    let h = head grammar.flatzinc c.args.lexer.now.tokens in
    halts_by {n = grammar.Called} (first (grammar.rules grammar.Called) h c.is.ensures.found c.if-not-is.false) (over 9 c.args.left refl c.is.ensures.found c.if-not-is.false c.if-left-eq0.true)

pub called-returns-in_err-take-clause-taken : goal.called-returns-in_err-take-clause-taken
called-returns-in_err-take-clause-taken t c =
    let l = 64 - c.args.left in
    let h = head grammar.flatzinc c.args.lexer.now.tokens in
    let p = err_from_is_err_and c.from_residual.result c.from_residual.ensures.1 in
    rw (p.1, p.2) (halts_by {n = grammar.Called} (first (grammar.rules grammar.Called) h c.is.ensures.found c.if-not-is.false) (here (c.in_err-take.ensures.taken l)))

pub called-returns-in_err-count-clause-taken : goal.called-returns-in_err-count-clause-taken
called-returns-in_err-count-clause-taken t c =
    let l = 64 - c.args.left in
    let h = head grammar.flatzinc c.args.lexer.now.tokens in
    let some : 0 < c.args.left = omega (arith, c.if-left-eq0.false) in
    let most : c.args.left ≤ 64 = c.requires.left in
    let p = err_from_is_err_and c.from_residual-in_err-count.result c.from_residual-in_err-count.ensures.1 in
    rw (p.1, p.2) (halts_by {n = grammar.Called} (first (grammar.rules grammar.Called) h c.is.ensures.found c.if-not-is.false) (leaf_behind (c.in_ok-take.ensures.taken l (opens_parenthesis_at c.args.left some most)) (here (deeper_halts some most c.in_err-count.ensures.taken))))

pub called-returns-in_err-take-2-clause-taken : goal.called-returns-in_err-take-2-clause-taken
called-returns-in_err-take-2-clause-taken t c =
    let l = 64 - c.args.left in
    let h = head grammar.flatzinc c.args.lexer.now.tokens in
    let some : 0 < c.args.left = omega (arith, c.if-left-eq0.false) in
    let most : c.args.left ≤ 64 = c.requires.left in
    let p = err_from_is_err_and c.from_residual-in_err-take-2.result c.from_residual-in_err-take-2.ensures.1 in
    rw (p.1, p.2) (halts_by {n = grammar.Called} (first (grammar.rules grammar.Called) h c.is.ensures.found c.if-not-is.false) (leaf_behind (c.in_ok-take.ensures.taken l (opens_parenthesis_at c.args.left some most)) (rule_behind (deeper_read some most c.in_ok-count.ensures.taken) (here (c.in_err-take-2.ensures.taken (suc l))))))

pub called-returns-clause-taken : goal.called-returns-clause-taken
called-returns-clause-taken t c =
    let l = 64 - c.args.left in
    let h = head grammar.flatzinc c.args.lexer.now.tokens in
    let some : 0 < c.args.left = omega (arith, c.if-left-eq0.false) in
    let most : c.args.left ≤ 64 = c.requires.left in
    reads_by {n = grammar.Called} (first (grammar.rules grammar.Called) h c.is.ensures.found c.if-not-is.false) (leaf_then (c.in_ok-take.ensures.taken l (opens_parenthesis_at c.args.left some most)) (rule_then (deeper_read some most c.in_ok-count.ensures.taken) (leaf_then (c.in_ok-take-2.ensures.taken (suc l) refl) ended)))

pub arguments-returns-then-is-clause-taken : goal.arguments-returns-then-is-clause-taken
arguments-returns-then-is-clause-taken t c =
    let l = 64 - c.args.left in
    let h = head grammar.flatzinc c.args.lexer.now.tokens in
    subst (λ (v : trees.Arguments). Read l (Rule (Listed Arguments) ∷ []) (v, tt) c.args.lexer.now.tokens c.args.lexer.now.tokens) (sym (ap arguments_of (nothing_is c.args.found.now.items)))
    (reads_by {n = (Listed Arguments)} (first (grammar.rules (Listed Arguments)) h (closes h c.is.ensures.found refl) (λ i. c.if-is.true i || has (12 ∷ []) h)) ended)

pub arguments-returns-then-is-clause-added : goal.arguments-returns-then-is-clause-added
arguments-returns-then-is-clause-added t c =
    none_added c.args.found.now.items

pub arguments-returns-then-is-2-clause-taken : goal.arguments-returns-then-is-2-clause-taken
arguments-returns-then-is-2-clause-taken t c =
    let l = 64 - c.args.left in
    let h = head grammar.flatzinc c.args.lexer.now.tokens in
    subst (λ (v : trees.Arguments). Read l (Rule (Listed Arguments) ∷ []) (v, tt) c.args.lexer.now.tokens c.args.lexer.now.tokens) (sym (ap arguments_of (nothing_is c.args.found.now.items)))
    (reads_by {n = (Listed Arguments)} (first (grammar.rules (Listed Arguments)) h (closes h c.is.ensures.found c.is-2.ensures.found) (λ i. c.if-is.false i || c.if-is-2.true i)) ended)

pub arguments-returns-then-is-2-clause-added : goal.arguments-returns-then-is-2-clause-added
arguments-returns-then-is-2-clause-added t c =
    none_added c.args.found.now.items

pub arguments-returns-in_err-argument-clause-taken : goal.arguments-returns-in_err-argument-clause-taken
arguments-returns-in_err-argument-clause-taken t c =
    let h = head grammar.flatzinc c.args.lexer.now.tokens in
    let p = err_from_is_err_and c.from_residual.result c.from_residual.ensures.1 in
    rw (p.1, p.2) (stops_first Arguments (later (grammar.rules (Listed Arguments)) h (closes h c.is.ensures.found c.is-2.ensures.found) (λ i. c.if-is.false i || c.if-is-2.false i)) c.in_err-argument.ensures.taken)

pub arguments-arguments-init : goal.arguments-arguments-init
arguments-arguments-init t c =
    let h = head grammar.flatzinc c.args.lexer.now.tokens in (
      omega (arith, c.in_ok-argument.ensures.forward),
      subst (λ (v : List trees.Argument). GoesOn Arguments (64 - c.args.left) (Listed Arguments) c.args.lexer.now.tokens c.argument.new.lexer.tokens (λ w. w) v)
          (first_is c.args.found.now.items c.argument.new.found.items c.in_ok-argument.ensures.added)
          (goes_first Arguments (later (grammar.rules (Listed Arguments)) h (closes h c.is.ensures.found c.is-2.ensures.found) (λ i. c.if-is.false i || c.if-is-2.false i)) c.in_ok-argument.ensures.taken),
      c.in_ok-argument.ensures.added,
      c.in_ok-argument.ensures.same,
    )

pub arguments-returns-in_err-take-clause-taken : goal.arguments-returns-in_err-take-clause-taken
arguments-returns-in_err-take-clause-taken t c =
    let l = 64 - c.args.left in
    let p = err_from_is_err_and c.from_residual-in_err-take.result c.from_residual-in_err-take.ensures.1 in
    rw (p.1, p.2) (stops_comma Arguments c.arguments.invariant.1 c.is-in-arguments.ensures.found c.arguments-test.true (c.in_err-take.ensures.taken l))

pub arguments-returns-in_err-argument-2-clause-taken : goal.arguments-returns-in_err-argument-2-clause-taken
arguments-returns-in_err-argument-2-clause-taken t c =
    let l = 64 - c.args.left in
    let p = err_from_is_err_and c.from_residual-in_err-argument-2.result c.from_residual-in_err-argument-2.ensures.1 in
    rw (p.1, p.2) (stops_next Arguments c.arguments.invariant.1 c.is-in-arguments.ensures.found c.arguments-test.true (c.in_ok-take.ensures.taken l refl) c.in_err-argument-2.ensures.taken)

pub arguments-arguments-preserved : goal.arguments-arguments-preserved
arguments-arguments-preserved t c =
    let l = 64 - c.args.left in (
      omega (arith, c.arguments.invariant.0, c.in_ok-take.ensures.forward, c.in_ok-argument-2.ensures.forward),
      subst (λ (v : List trees.Argument). GoesOn Arguments (64 - c.args.left) (Listed Arguments) c.args.lexer.now.tokens c.argument-in-arguments.new.lexer.tokens (λ w. w) v)
          (next_is c.args.found.now.items c.arguments.found.items c.argument-in-arguments.new.found.items c.arguments.invariant.2 c.in_ok-argument-2.ensures.added)
          (goes_next Arguments c.arguments.invariant.1 c.is-in-arguments.ensures.found c.arguments-test.true (c.in_ok-take.ensures.taken l refl) c.in_ok-argument-2.ensures.taken),
      both_added c.args.found.now.items c.arguments.found.items c.argument-in-arguments.new.found.items c.arguments.invariant.2 c.in_ok-argument-2.ensures.added,
      c.in_ok-argument-2.ensures.same ∙ c.in_ok-take.ensures.same ∙ c.arguments.invariant.3,
    )

pub arguments-returns-clause-taken : goal.arguments-returns-clause-taken
arguments-returns-clause-taken t c =
    let found = trees_of (added c.args.found.now.items c.arguments.found.items) in
    subst (λ (v : trees.Arguments). Read (64 - c.args.left) (Rule (Listed Arguments) ∷ []) (v, tt) c.args.lexer.now.tokens c.arguments.lexer.tokens) (all_arguments found)
    (reads_end Arguments c.arguments.invariant.1 c.is-in-arguments.ensures.found c.arguments-test.false)

pub arguments-returns-clause-added : goal.arguments-returns-clause-added
arguments-returns-clause-added t c =
    c.arguments.invariant.2

pub argument-returns-in_err-at-clause-taken : goal.argument-returns-in_err-at-clause-taken
argument-returns-in_err-at-clause-taken t c =
    let l = 64 - c.args.left in
    let h = head grammar.flatzinc c.args.lexer.now.tokens in
    let p = err_from_is_err_and c.from_residual-in_err-at.result c.from_residual-in_err-at.ensures.1 in
    rw (p.1, p.2) (halts_by {n = grammar.Argument} (first (grammar.rules grammar.Argument) h c.is.ensures.found c.if-is.true) (here (c.in_err-at.ensures.taken l)))

pub argument-returns-then-is-clause-taken : goal.argument-returns-then-is-clause-taken
argument-returns-then-is-clause-taken t c =
    let l = 64 - c.args.left in
    let h = head grammar.flatzinc c.args.lexer.now.tokens in
    let pushed = c.in_ok-push.ensures.items ∙ ap (λ (ys : List Argument). ys ++ argument.Text c.in_ok-at.at ∷ []) c.in_ok-grow.ensures in
    subst (λ (v : trees.Argument). Read l (Rule grammar.Argument ∷ []) (v, tt) c.args.lexer.now.tokens c.take.new.lexer.tokens) (sym (text_is c.args.found.now.items c.push.new.self.items c.in_ok-at.at pushed))
    (reads_by {n = grammar.Argument} (first (grammar.rules grammar.Argument) h c.is.ensures.found c.if-is.true) (leaf_then (c.in_ok-at.ensures.taken l refl) ended))

pub argument-returns-then-is-clause-added : goal.argument-returns-then-is-clause-added
argument-returns-then-is-clause-added t c =
    let pushed = c.in_ok-push.ensures.items ∙ ap (λ (ys : List Argument). ys ++ argument.Text c.in_ok-at.at ∷ []) c.in_ok-grow.ensures in
    text_added c.args.found.now.items c.push.new.self.items c.in_ok-at.at pushed

pub argument-returns-then-left-eq0-clause-taken : goal.argument-returns-then-left-eq0-clause-taken
argument-returns-then-left-eq0-clause-taken t c =
    let h = head grammar.flatzinc c.args.lexer.now.tokens in
    halts_by {n = grammar.Argument} (later (grammar.rules grammar.Argument) h c.is.ensures.found c.if-is.false ∙ first (tail (grammar.rules grammar.Argument)) h c.is-2.ensures.found c.if-is-2.true) (over 11 c.args.left refl c.is-2.ensures.found c.if-is-2.true c.if-left-eq0.true)

pub argument-returns-in_err-at-2-clause-taken : goal.argument-returns-in_err-at-2-clause-taken
argument-returns-in_err-at-2-clause-taken t c =
    let l = 64 - c.args.left in
    let h = head grammar.flatzinc c.args.lexer.now.tokens in
    let p = err_from_is_err_and c.from_residual-in_err-at-2.result c.from_residual-in_err-at-2.ensures.1 in
    rw (p.1, p.2) (halts_by {n = grammar.Argument} (later (grammar.rules grammar.Argument) h c.is.ensures.found c.if-is.false ∙ first (tail (grammar.rules grammar.Argument)) h c.is-2.ensures.found c.if-is-2.true) (here (c.in_err-at-2.ensures.taken l)))

pub argument-returns-in_err-count-clause-taken : goal.argument-returns-in_err-count-clause-taken
argument-returns-in_err-count-clause-taken t c =
    let l = 64 - c.args.left in
    let h = head grammar.flatzinc c.args.lexer.now.tokens in
    let some : 0 < c.args.left = omega (arith, c.if-left-eq0.false) in
    let most : c.args.left ≤ 64 = c.requires.left in
    let p = err_from_is_err_and c.from_residual-in_err-count.result c.from_residual-in_err-count.ensures.1 in
    rw (p.1, p.2) (halts_by {n = grammar.Argument} (later (grammar.rules grammar.Argument) h c.is.ensures.found c.if-is.false ∙ first (tail (grammar.rules grammar.Argument)) h c.is-2.ensures.found c.if-is-2.true) (leaf_behind (c.in_ok-at-2.ensures.taken l (opens_bracket_at c.args.left some most)) (here (deeper_halts some most c.in_err-count.ensures.taken))))

pub argument-returns-in_err-take-clause-taken : goal.argument-returns-in_err-take-clause-taken
argument-returns-in_err-take-clause-taken t c =
    let l = 64 - c.args.left in
    let h = head grammar.flatzinc c.args.lexer.now.tokens in
    let some : 0 < c.args.left = omega (arith, c.if-left-eq0.false) in
    let most : c.args.left ≤ 64 = c.requires.left in
    let p = err_from_is_err_and c.from_residual-in_err-take.result c.from_residual-in_err-take.ensures.1 in
    rw (p.1, p.2) (halts_by {n = grammar.Argument} (later (grammar.rules grammar.Argument) h c.is.ensures.found c.if-is.false ∙ first (tail (grammar.rules grammar.Argument)) h c.is-2.ensures.found c.if-is-2.true) (leaf_behind (c.in_ok-at-2.ensures.taken l (opens_bracket_at c.args.left some most)) (rule_behind (deeper_read some most c.in_ok-count.ensures.taken) (here (c.in_err-take.ensures.taken (suc l))))))

pub argument-returns-in_err-constant-clause-taken : goal.argument-returns-in_err-constant-clause-taken
argument-returns-in_err-constant-clause-taken t c =
    let l = 64 - c.args.left in
    let h = head grammar.flatzinc c.args.lexer.now.tokens in
    let p = err_from_is_err_and c.from_residual-in_err-constant.result c.from_residual-in_err-constant.ensures.1 in
    rw (p.1, p.2) (halts_by {n = grammar.Argument} (later (grammar.rules grammar.Argument) h c.is.ensures.found c.if-is.false ∙ later (tail (grammar.rules grammar.Argument)) h c.is-2.ensures.found c.if-is-2.false ∙ later (tail (tail (grammar.rules grammar.Argument))) h c.is-3.ensures.found c.if-is-3.false) (here (c.in_err-constant.ensures.taken l)))

pub argument-returns-then-is-2-clause-taken : goal.argument-returns-then-is-2-clause-taken
argument-returns-then-is-2-clause-taken t c =
    let l = 64 - c.args.left in
    let h = head grammar.flatzinc c.args.lexer.now.tokens in
    let some : 0 < c.args.left = omega (arith, c.if-left-eq0.false) in
    let most : c.args.left ≤ 64 = c.requires.left in
    let pushed = c.in_ok-push-2.ensures.items ∙ ap (λ (ys : List Argument). ys ++ argument.Brackets c.in_ok-at-2.at 0 ∷ []) c.in_ok-grow.ensures in
    let long : vec_len c.grow.new.items ≡ length c.grow.new.items.items = search rules in
    let place = c.len-place.ensures ∙ long ∙ ap length c.in_ok-grow.ensures in
    subst (λ (v : trees.Argument). Read l (Rule grammar.Argument ∷ []) (v, tt) c.args.lexer.now.tokens c.take-then-is-2-2.new.lexer.tokens) (sym (inside_is c.args.found.now.items c.push-then-is-2.new.self.items c.arguments.new.found.items (argument.Brackets c.in_ok-at-2.at 0) (argument.Brackets c.in_ok-at-2.at c.in_ok-count.count) c.len-place.result pushed c.in_ok-count.ensures.added place refl))
    (reads_by {n = grammar.Argument} (later (grammar.rules grammar.Argument) h c.is.ensures.found c.if-is.false ∙ first (tail (grammar.rules grammar.Argument)) h c.is-2.ensures.found c.if-is-2.true) (leaf_then (c.in_ok-at-2.ensures.taken l (opens_bracket_at c.args.left some most)) (rule_then (deeper_read some most c.in_ok-count.ensures.taken) (leaf_then (c.in_ok-take.ensures.taken (suc l) refl) ended))))

pub argument-returns-then-is-2-clause-added : goal.argument-returns-then-is-2-clause-added
argument-returns-then-is-2-clause-added t c =
    let pushed = c.in_ok-push-2.ensures.items ∙ ap (λ (ys : List Argument). ys ++ argument.Brackets c.in_ok-at-2.at 0 ∷ []) c.in_ok-grow.ensures in
    let long : vec_len c.grow.new.items ≡ length c.grow.new.items.items = search rules in
    let place = c.len-place.ensures ∙ long ∙ ap length c.in_ok-grow.ensures in
    inside_added c.args.found.now.items c.push-then-is-2.new.self.items c.arguments.new.found.items (argument.Brackets c.in_ok-at-2.at 0) (argument.Brackets c.in_ok-at-2.at c.in_ok-count.count) c.len-place.result pushed c.in_ok-count.ensures.added place refl

pub argument-returns-in_err-bytes-clause-taken : goal.argument-returns-in_err-bytes-clause-taken
argument-returns-in_err-bytes-clause-taken t c =
    let l = 64 - c.args.left in
    let h = head grammar.flatzinc c.args.lexer.now.tokens in
    let p = err_from_is_err_and c.from_residual-in_err-bytes.result c.from_residual-in_err-bytes.ensures.1 in
    rw (p.1, p.2) (halts_by {n = grammar.Argument} (later (grammar.rules grammar.Argument) h c.is.ensures.found c.if-is.false ∙ later (tail (grammar.rules grammar.Argument)) h c.is-2.ensures.found c.if-is-2.false ∙ first (tail (tail (grammar.rules grammar.Argument))) h c.is-3.ensures.found c.if-is-3.true) (here (halts_by {n = grammar.Annotation} refl (here (c.in_err-bytes.ensures.taken l)))))

pub argument-returns-in_err-count-2-clause-taken : goal.argument-returns-in_err-count-2-clause-taken
argument-returns-in_err-count-2-clause-taken t c =
    let l = 64 - c.args.left in
    let h = head grammar.flatzinc c.args.lexer.now.tokens in
    let p = err_from_is_err_and c.from_residual-in_err-count-2.result c.from_residual-in_err-count-2.ensures.1 in
    rw (p.1, p.2) (halts_by {n = grammar.Argument} (later (grammar.rules grammar.Argument) h c.is.ensures.found c.if-is.false ∙ later (tail (grammar.rules grammar.Argument)) h c.is-2.ensures.found c.if-is-2.false ∙ first (tail (tail (grammar.rules grammar.Argument))) h c.is-3.ensures.found c.if-is-3.true) (here (halts_by {n = grammar.Annotation} refl (leaf_behind (c.in_ok-bytes.ensures.taken l) (here c.in_err-count-2.ensures.taken)))))

pub argument-returns-in_default-clause-taken : goal.argument-returns-in_default-clause-taken
argument-returns-in_default-clause-taken t c =
    let l = 64 - c.args.left in
    let h = head grammar.flatzinc c.args.lexer.now.tokens in
    let pushed = c.in_ok-push-3.ensures.items ∙ ap (λ (ys : List Argument). ys ++ argument.Simple (basic.Named c.in_ok-bytes.field-0.at c.in_ok-bytes.field-0.bytes) ∷ []) c.in_ok-grow.ensures in
    let more = subst (λ (o : Option ℕ). AreAdded (count_in o) c.push-then-is-3.new.self.items c.called.new.found.items) c.in_default.is c.in_ok-count-2.ensures.added in
    let called = subst (λ (o : Option ℕ). Read l (Rule grammar.Called ∷ []) (called_in (added c.push-then-is-3.new.self.items c.called.new.found.items) o, tt) c.identifier.new.lexer.tokens c.called.new.lexer.tokens) c.in_default.is c.in_ok-count-2.ensures.taken in
    subst (λ (v : trees.Argument). Read l (Rule grammar.Argument ∷ []) (v, tt) c.args.lexer.now.tokens c.called.new.lexer.tokens) (sym (alone_is c.args.found.now.items c.push-then-is-3.new.self.items c.called.new.found.items (basic.Named c.in_ok-bytes.field-0.at c.in_ok-bytes.field-0.bytes) pushed more))
    (reads_by {n = grammar.Argument} (later (grammar.rules grammar.Argument) h c.is.ensures.found c.if-is.false ∙ later (tail (grammar.rules grammar.Argument)) h c.is-2.ensures.found c.if-is-2.false ∙ first (tail (tail (grammar.rules grammar.Argument))) h c.is-3.ensures.found c.if-is-3.true) (rule_then (reads_by {n = grammar.Annotation} refl (leaf_then (c.in_ok-bytes.ensures.taken l) (rule_then called ended))) ended))

pub argument-returns-in_default-clause-added : goal.argument-returns-in_default-clause-added
argument-returns-in_default-clause-added t c =
    let pushed = c.in_ok-push-3.ensures.items ∙ ap (λ (ys : List Argument). ys ++ argument.Simple (basic.Named c.in_ok-bytes.field-0.at c.in_ok-bytes.field-0.bytes) ∷ []) c.in_ok-grow.ensures in
    let more = subst (λ (o : Option ℕ). AreAdded (count_in o) c.push-then-is-3.new.self.items c.called.new.found.items) c.in_default.is c.in_ok-count-2.ensures.added in
    alone_added c.args.found.now.items c.push-then-is-3.new.self.items c.called.new.found.items (basic.Named c.in_ok-bytes.field-0.at c.in_ok-bytes.field-0.bytes) pushed more

pub argument-returns-then-is-3-clause-taken : goal.argument-returns-then-is-3-clause-taken
argument-returns-then-is-3-clause-taken t c =
    let l = 64 - c.args.left in
    let h = head grammar.flatzinc c.args.lexer.now.tokens in
    let pushed = c.in_ok-push-3.ensures.items ∙ ap (λ (ys : List Argument). ys ++ argument.Simple (basic.Named c.in_ok-bytes.field-0.at c.in_ok-bytes.field-0.bytes) ∷ []) c.in_ok-grow.ensures in
    let long : vec_len c.grow.new.items ≡ length c.grow.new.items.items = search rules in
    let place = c.len-place.ensures ∙ long ∙ ap length c.in_ok-grow.ensures in
    let more = subst (λ (o : Option ℕ). AreAdded (count_in o) c.push-then-is-3.new.self.items c.called.new.found.items) c.in-Some.is c.in_ok-count-2.ensures.added in
    let called = subst (λ (o : Option ℕ). Read l (Rule grammar.Called ∷ []) (called_in (added c.push-then-is-3.new.self.items c.called.new.found.items) o, tt) c.identifier.new.lexer.tokens c.called.new.lexer.tokens) c.in-Some.is c.in_ok-count-2.ensures.taken in
    subst (λ (v : trees.Argument). Read l (Rule grammar.Argument ∷ []) (v, tt) c.args.lexer.now.tokens c.called.new.lexer.tokens) (sym (inside_is c.args.found.now.items c.push-then-is-3.new.self.items c.called.new.found.items (argument.Simple (basic.Named c.in_ok-bytes.field-0.at c.in_ok-bytes.field-0.bytes)) (argument.Call c.in_ok-bytes.field-0.at c.in_ok-bytes.field-0.bytes c.in-Some.count) c.len-place.result pushed more place refl))
    (reads_by {n = grammar.Argument} (later (grammar.rules grammar.Argument) h c.is.ensures.found c.if-is.false ∙ later (tail (grammar.rules grammar.Argument)) h c.is-2.ensures.found c.if-is-2.false ∙ first (tail (tail (grammar.rules grammar.Argument))) h c.is-3.ensures.found c.if-is-3.true) (rule_then (reads_by {n = grammar.Annotation} refl (leaf_then (c.in_ok-bytes.ensures.taken l) (rule_then called ended))) ended))

pub argument-returns-then-is-3-clause-added : goal.argument-returns-then-is-3-clause-added
argument-returns-then-is-3-clause-added t c =
    let pushed = c.in_ok-push-3.ensures.items ∙ ap (λ (ys : List Argument). ys ++ argument.Simple (basic.Named c.in_ok-bytes.field-0.at c.in_ok-bytes.field-0.bytes) ∷ []) c.in_ok-grow.ensures in
    let long : vec_len c.grow.new.items ≡ length c.grow.new.items.items = search rules in
    let place = c.len-place.ensures ∙ long ∙ ap length c.in_ok-grow.ensures in
    let more = subst (λ (o : Option ℕ). AreAdded (count_in o) c.push-then-is-3.new.self.items c.called.new.found.items) c.in-Some.is c.in_ok-count-2.ensures.added in
    inside_added c.args.found.now.items c.push-then-is-3.new.self.items c.called.new.found.items (argument.Simple (basic.Named c.in_ok-bytes.field-0.at c.in_ok-bytes.field-0.bytes)) (argument.Call c.in_ok-bytes.field-0.at c.in_ok-bytes.field-0.bytes c.in-Some.count) c.len-place.result pushed more place refl

pub argument-returns-clause-taken : goal.argument-returns-clause-taken
argument-returns-clause-taken t c =
    let l = 64 - c.args.left in
    let h = head grammar.flatzinc c.args.lexer.now.tokens in
    let pushed = c.in_ok-push-4.ensures.items ∙ ap (λ (ys : List Argument). ys ++ argument.Simple c.in_ok-constant.constant ∷ []) c.in_ok-grow.ensures in
    subst (λ (v : trees.Argument). Read l (Rule grammar.Argument ∷ []) (v, tt) c.args.lexer.now.tokens c.constant.new.lexer.tokens) (sym (simple_is c.args.found.now.items c.push-2.new.self.items c.in_ok-constant.constant pushed))
    (reads_by {n = grammar.Argument} (later (grammar.rules grammar.Argument) h c.is.ensures.found c.if-is.false ∙ later (tail (grammar.rules grammar.Argument)) h c.is-2.ensures.found c.if-is-2.false ∙ later (tail (tail (grammar.rules grammar.Argument))) h c.is-3.ensures.found c.if-is-3.false) (rule_then (c.in_ok-constant.ensures.taken l) ended))

pub argument-returns-clause-added : goal.argument-returns-clause-added
argument-returns-clause-added t c =
    let pushed = c.in_ok-push-4.ensures.items ∙ ap (λ (ys : List Argument). ys ++ argument.Simple c.in_ok-constant.constant ∷ []) c.in_ok-grow.ensures in
    simple_added c.args.found.now.items c.push-2.new.self.items c.in_ok-constant.constant pushed

pub arguments-overflow_add-count : goal.arguments-overflow_add-count
arguments-overflow_add-count t c =
    let both = both_added c.args.found.now.items c.arguments.found.items c.argument-in-arguments.new.found.items c.arguments.invariant.2 c.in_ok-argument-2.ensures.added in
    let long : vec_len c.argument-in-arguments.new.found ≡ length c.argument-in-arguments.new.found.items = search rules in
    omega (arith, added_below c.args.found.now.items c.argument-in-arguments.new.found.items both, long, c.len.ensures, c.len.type_inv)
