use Rattle.std.specs.Prelude.{ℤ, IfSome, Some}
use Rattle.std.proofs.Common.{◌∙◌, subst, sym, arith, Option, ℕ}
use Rattle.fz_cmd.specs.Meaning.{IsSignedBy, IsTakenBy, number_at, signed_at, numbers_by}
use Rattle.clap.specs.Words.{rows_of, found_of}
use Rattle.fz_cmd.specs.declared.options.TheConstants.{WORKERS, ASSETS, COMMIT_DISTANCE, ADAPTIVE_DISTANCE, INTERLEAVE, GENERATE, SPLIT, BETTER}
use Rattle.fz_cmd.proofs.Rules.{always_taken, is_short, is_short_signed}
use Rattle.fz_cmd.proofs.words.numbers_of.Goals as goal

pub returns-in_err-limit-clause-is : goal.returns-in_err-limit-clause-is
returns-in_err-limit-clause-is c =
    let rows = rows_of (found_of c.args.matches.now) in
    c.from_residual.ensures ∙ (λ i. numbers_by (c.in_err-limit.ensures.is i) (number_at rows WORKERS.0.now WORKERS.2) (number_at rows ASSETS.0.now ASSETS.2) (number_at rows COMMIT_DISTANCE.0.now COMMIT_DISTANCE.2) (number_at rows ADAPTIVE_DISTANCE.0.now ADAPTIVE_DISTANCE.2) (number_at rows INTERLEAVE.0.now INTERLEAVE.2) (number_at rows GENERATE.0.now GENERATE.2) (number_at rows SPLIT.0.now SPLIT.2) (signed_at rows BETTER.0.now BETTER.2))

pub returns-in_err-workers-clause-is : goal.returns-in_err-workers-clause-is
returns-in_err-workers-clause-is c =
    let rows = rows_of (found_of c.args.matches.now) in
    c.from_residual-in_err-workers.ensures ∙ (λ i. numbers_by (c.in_ok-limit.ensures.is i) (c.in_err-workers.ensures.is i) (number_at rows ASSETS.0.now ASSETS.2) (number_at rows COMMIT_DISTANCE.0.now COMMIT_DISTANCE.2) (number_at rows ADAPTIVE_DISTANCE.0.now ADAPTIVE_DISTANCE.2) (number_at rows INTERLEAVE.0.now INTERLEAVE.2) (number_at rows GENERATE.0.now GENERATE.2) (number_at rows SPLIT.0.now SPLIT.2) (signed_at rows BETTER.0.now BETTER.2))

pub returns-in_err-assets-clause-is : goal.returns-in_err-assets-clause-is
returns-in_err-assets-clause-is c =
    let rows = rows_of (found_of c.args.matches.now) in
    c.from_residual-in_err-assets.ensures ∙ (λ i. numbers_by (c.in_ok-limit.ensures.is i) (c.in_ok-workers.ensures.is i) (c.in_err-assets.ensures.is i) (number_at rows COMMIT_DISTANCE.0.now COMMIT_DISTANCE.2) (number_at rows ADAPTIVE_DISTANCE.0.now ADAPTIVE_DISTANCE.2) (number_at rows INTERLEAVE.0.now INTERLEAVE.2) (number_at rows GENERATE.0.now GENERATE.2) (number_at rows SPLIT.0.now SPLIT.2) (signed_at rows BETTER.0.now BETTER.2))

pub returns-in_err-distance-clause-is : goal.returns-in_err-distance-clause-is
returns-in_err-distance-clause-is c =
    let rows = rows_of (found_of c.args.matches.now) in
    c.from_residual-in_err-distance.ensures ∙ (λ i. numbers_by (c.in_ok-limit.ensures.is i) (c.in_ok-workers.ensures.is i) (c.in_ok-assets.ensures.is i) (c.in_err-distance.ensures.is i) (number_at rows ADAPTIVE_DISTANCE.0.now ADAPTIVE_DISTANCE.2) (number_at rows INTERLEAVE.0.now INTERLEAVE.2) (number_at rows GENERATE.0.now GENERATE.2) (number_at rows SPLIT.0.now SPLIT.2) (signed_at rows BETTER.0.now BETTER.2))

pub returns-in_err-adaptive-clause-is : goal.returns-in_err-adaptive-clause-is
returns-in_err-adaptive-clause-is c =
    let rows = rows_of (found_of c.args.matches.now) in
    c.from_residual-in_err-adaptive.ensures ∙ (λ i. numbers_by (c.in_ok-limit.ensures.is i) (c.in_ok-workers.ensures.is i) (c.in_ok-assets.ensures.is i) (c.in_ok-distance.ensures.is i) (c.in_err-adaptive.ensures.is i) (number_at rows INTERLEAVE.0.now INTERLEAVE.2) (number_at rows GENERATE.0.now GENERATE.2) (number_at rows SPLIT.0.now SPLIT.2) (signed_at rows BETTER.0.now BETTER.2))

pub returns-in_err-interleave-clause-is : goal.returns-in_err-interleave-clause-is
returns-in_err-interleave-clause-is c =
    let rows = rows_of (found_of c.args.matches.now) in
    c.from_residual-in_err-interleave.ensures ∙ (λ i. numbers_by (c.in_ok-limit.ensures.is i) (c.in_ok-workers.ensures.is i) (c.in_ok-assets.ensures.is i) (c.in_ok-distance.ensures.is i) (c.in_ok-adaptive.ensures.is i) (c.in_err-interleave.ensures.is i) (number_at rows GENERATE.0.now GENERATE.2) (number_at rows SPLIT.0.now SPLIT.2) (signed_at rows BETTER.0.now BETTER.2))

pub returns-in_err-generate-clause-is : goal.returns-in_err-generate-clause-is
returns-in_err-generate-clause-is c =
    let rows = rows_of (found_of c.args.matches.now) in
    c.from_residual-in_err-generate.ensures ∙ (λ i. numbers_by (c.in_ok-limit.ensures.is i) (c.in_ok-workers.ensures.is i) (c.in_ok-assets.ensures.is i) (c.in_ok-distance.ensures.is i) (c.in_ok-adaptive.ensures.is i) (c.in_ok-interleave.ensures.is i) (c.in_err-generate.ensures.is i) (number_at rows SPLIT.0.now SPLIT.2) (signed_at rows BETTER.0.now BETTER.2))

pub returns-in_err-split-clause-is : goal.returns-in_err-split-clause-is
returns-in_err-split-clause-is c =
    let rows = rows_of (found_of c.args.matches.now) in
    c.from_residual-in_err-split.ensures ∙ (λ i. numbers_by (c.in_ok-limit.ensures.is i) (c.in_ok-workers.ensures.is i) (c.in_ok-assets.ensures.is i) (c.in_ok-distance.ensures.is i) (c.in_ok-adaptive.ensures.is i) (c.in_ok-interleave.ensures.is i) (c.in_ok-generate.ensures.is i) (c.in_err-split.ensures.is i) (signed_at rows BETTER.0.now BETTER.2))

pub returns-in_err-better-clause-is : goal.returns-in_err-better-clause-is
returns-in_err-better-clause-is c =
    c.from_residual-in_err-better.ensures ∙ (λ i. numbers_by (c.in_ok-limit.ensures.is i) (c.in_ok-workers.ensures.is i) (c.in_ok-assets.ensures.is i) (c.in_ok-distance.ensures.is i) (c.in_ok-adaptive.ensures.is i) (c.in_ok-interleave.ensures.is i) (c.in_ok-generate.ensures.is i) (c.in_ok-split.ensures.is i) (c.in_err-better.ensures.is i))

pub short-requires : goal.short-requires
short-requires c = is_short 0 4294967295 c.in_ok-limit.limit (omega arith) c.in_ok-limit.ensures.within

pub defaulted-requires : goal.defaulted-requires
defaulted-requires c = is_short 1 64 c.in_ok-workers.workers (omega arith) c.in_ok-workers.ensures.within

pub defaulted-requires-2 : goal.defaulted-requires-2
defaulted-requires-2 c = is_short 1 8 c.in_ok-assets.assets (omega arith) c.in_ok-assets.ensures.within

pub defaulted-requires-3 : goal.defaulted-requires-3
defaulted-requires-3 c = is_short 1 1000000 c.in_ok-distance.distance (omega arith) c.in_ok-distance.ensures.within

pub defaulted-requires-4 : goal.defaulted-requires-4
defaulted-requires-4 c = is_short 1 1000000 c.in_ok-adaptive.adaptive (omega arith) c.in_ok-adaptive.ensures.within

pub short-requires-2 : goal.short-requires-2
short-requires-2 c = is_short 1 1000 c.in_ok-generate.generate (omega arith) c.in_ok-generate.ensures.within

pub short-requires-3 : goal.short-requires-3
short-requires-3 c = is_short 1 1000000 c.in_ok-split.split (omega arith) c.in_ok-split.ensures.within

pub short_signed-requires : goal.short_signed-requires
short_signed-requires c = is_short_signed c.in_ok-better.better c.in_ok-better.ensures.within

pub returns-clause-is : goal.returns-clause-is
returns-clause-is c =
    (λ i. Some (record {
      limit = c.short.ensures i;
      workers = c.defaulted.ensures i;
      assets = c.defaulted-2.ensures i;
      commit_distance = c.defaulted-3.ensures i;
      adaptive_distance = c.defaulted-4.ensures i;
      interleave = c.in_ok-interleave.interleave;
      generate = c.short-2.ensures i;
      split = c.short-3.ensures i;
      better = c.short_signed.ensures i;
    })) ∙ (λ i. numbers_by (c.in_ok-limit.ensures.is i) (c.in_ok-workers.ensures.is i) (c.in_ok-assets.ensures.is i) (c.in_ok-distance.ensures.is i) (c.in_ok-adaptive.ensures.is i) (c.in_ok-interleave.ensures.is i) (c.in_ok-generate.ensures.is i) (c.in_ok-split.ensures.is i) (c.in_ok-better.ensures.is i))

pub returns-clause-within : goal.returns-clause-within
returns-clause-within c = record {
  workers = always_taken 1 64 1 _ c.in_ok-workers.workers c.defaulted.result c.defaulted.ensures c.in_ok-workers.ensures.is c.in_ok-workers.ensures.within;
  assets = always_taken 1 8 1 _ c.in_ok-assets.assets c.defaulted-2.result c.defaulted-2.ensures c.in_ok-assets.ensures.is c.in_ok-assets.ensures.within;
  commit_distance = always_taken 1 1000000 8 _ c.in_ok-distance.distance c.defaulted-3.result c.defaulted-3.ensures c.in_ok-distance.ensures.is c.in_ok-distance.ensures.within;
  adaptive_distance = always_taken 1 1000000 2 _ c.in_ok-adaptive.adaptive c.defaulted-4.result c.defaulted-4.ensures c.in_ok-adaptive.ensures.is c.in_ok-adaptive.ensures.within;
  generate = subst (λ (n : Option ℕ). IfSome n (IsTakenBy GENERATE.2)) (sym c.short-2.ensures) c.in_ok-generate.ensures.within;
  split = subst (λ (n : Option ℕ). IfSome n (IsTakenBy SPLIT.2)) (sym c.short-3.ensures) c.in_ok-split.ensures.within;
  better = subst (λ (n : Option ℤ). IfSome n (IsSignedBy BETTER.2)) (sym c.short_signed.ensures) c.in_ok-better.ensures.within;
}
