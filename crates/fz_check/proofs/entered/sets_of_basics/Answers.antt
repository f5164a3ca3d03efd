use Rattle.std.proofs.Common.{◌≡◌, ◌++◌, ◌∷◌, [], List, map, sym, ap, ◌∙◌, refl, subst}
use Rattle.std.specs.Prelude.{ℤ, Ok, option_map}
use Rattle.std.specs.Arc.{arc_value}
use Rattle.std.proofs.lemmas.List.{take_all}
use Rattle.fz_language.specs.Entries.{set_of, each_of, with_value}
use Rattle.fz_language.specs.Entries as entries
use Rattle.fz_language.specs.Within.{BasicFits}
use Rattle.fz_syntax.specs.Trees.{basic_of}
use Rattle.fz_syntax.specs.declared.expression.Basic.{Basic}
use Rattle.fz_resolve.specs.Meant.{environment_of}
use Rattle.fz_language.proofs.Each.{each_more, each_stop}
use Rattle.fz_check.proofs.EntryLaws.{at_item}
use Rattle.fz_check.proofs.entered.sets_of_basics.Goals as goal

pub loop-basic-init : goal.loop-basic-init
loop-basic-init c = ([], refl)

pub set-requires : goal.set-requires
set-requires c = at_item BasicFits basic_of c.args.basics.now c.loop-basic.basic-index c.basic-item.result c.requires c.loop-basic-test.true c.basic-item.is

pub loop-basic-preserved : goal.loop-basic-preserved
loop-basic-preserved c = (
  c.loop-basic.invariant.0 ++ c.in-Some._set.value ∷ [],
  each_more (set_of (environment_of c.args.names.now)) basic_of c.args.basics.now c.loop-basic.basic-index c.basic-item.result c.loop-basic.invariant.0 c.in-Some._set.value c.loop-basic-test.true c.basic-item.is
      (sym (ap (option_map arc_value) c.in-Some.is) ∙ c.in_ok-_set.ensures) c.loop-basic.invariant.1,
)

pub returns-in-None : goal.returns-in-None
returns-in-None c =
    ap (with_value (λ (sets : List (List (ℤ × ℤ))). entries.Sets))
    (each_stop (set_of (environment_of c.args.names.now)) basic_of c.args.basics.now c.loop-basic.basic-index c.basic-item.result c.loop-basic.invariant.0 c.at.result c.loop-basic-test.true c.basic-item.is
    (sym (ap (option_map arc_value) c.in-None.is) ∙ c.in_ok-_set.ensures) c.at.ensures c.loop-basic.invariant.1)

pub returns : goal.returns
returns c =
    let same = take_all c.loop-basic.basic-index c.args.basics.now c.loop-basic-test.false in
    let all = subst (λ (bs : List Basic). each_of (set_of (environment_of c.args.names.now)) (map basic_of bs) ≡ Ok c.loop-basic.invariant.0) same c.loop-basic.invariant.1 in
    sym (ap (with_value (λ (sets : List (List (ℤ × ℤ))). entries.Sets)) all)
