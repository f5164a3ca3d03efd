use Rattle.std.proofs.Common.{◌∙◌, ap, arith, refl, rules}
use Rattle.fz_path.specs.Paths.{Pathed, bare}
use Rattle.fz_solo.proofs.Stretching.{at_found, closed, on_step, passed, passes_none, paused}
use Rattle.fz_solo.proofs.stretches.stretch.Goals as goal

pub steps-init : goal.steps-init
steps-init g c = record {
  held = c.requires;
  model = refl;
  mode = refl;
  kept = λ b r. r;
  less = omega arith;
  passes = passes_none c.args.halt (bare c.args.path.now);
}

pub returns-then-eq-clause-searched : goal.returns-then-eq-clause-searched
returns-then-eq-clause-searched g c =
    closed c.args.halt (bare c.args.path.now) (bare c.step.new.self) (on_step c.args.halt (bare c.args.path.now) (bare c.steps.path) (bare c.step.new.self) c.in_ok-step.step c.steps.invariant.passes (λ e. (let f = rw e at c.if-eq.ensures in cc)) c.in_ok-step.ensures.ok c.step.ensures.rest)

pub returns-then-is_reached-clause-searched : goal.returns-then-is_reached-clause-searched
returns-then-is_reached-clause-searched g c =
    at_found c.args.halt (bare c.args.path.now) (bare c.steps.path) (bare c.step.new.self) c.in_ok-step.step c.steps.invariant.passes (c.if-is_reached.ensures.found refl) (ap (λ (p : Pathed). p.mode) c.step.ensures.rest ∙ c.steps.invariant.mode) c.is_reached.ensures.law c.in_ok-step.ensures.ok c.step.ensures.rest

pub returns-then-is_time-clause-searched : goal.returns-then-is_time-clause-searched
returns-then-is_time-clause-searched g c =
    paused c.args.halt c.pause_in.result (bare c.args.path.now) (bare c.step.new.self)
    (passed c.args.halt (bare c.args.path.now) (bare c.steps.path) (bare c.step.new.self) c.in_ok-step.step c.steps.invariant.passes (c.if-is_reached.ensures.each refl) (ap (λ (p : Pathed). p.mode) c.step.ensures.rest ∙ c.steps.invariant.mode) c.is_reached.ensures.law c.in_ok-step.ensures.ok c.step.ensures.rest) c.pause_in.ensures.each

pub steps-preserved : goal.steps-preserved
steps-preserved g c = record {
  held = search rules;
  model = search rules;
  mode = ap (λ (p : Pathed). p.mode) c.step.ensures.rest ∙ c.steps.invariant.mode;
  kept = search rules;
  less = search rules;
  passes = passed c.args.halt (bare c.args.path.now) (bare c.steps.path) (bare c.step.new.self) c.in_ok-step.step c.steps.invariant.passes (c.if-is_reached.ensures.each refl) (ap (λ (p : Pathed). p.mode) c.step.ensures.rest ∙ c.steps.invariant.mode) c.is_reached.ensures.law c.in_ok-step.ensures.ok c.step.ensures.rest;
}
