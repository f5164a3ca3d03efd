use Rattle.std.proofs.Common.{◌≡◌, ◌∙◌, List, ℕ, Option, Some, None, ap, refl, sym, subst}
use Rattle.std.specs.Prelude.{option_map, unwrap_or}
use denote.Ref.{Bor}
use Rattle.clap.specs.Words.{rows_of, found_of}
use Rattle.fz_cmd.specs.Meaning.{Options, HasRanges, SuitsAssets, SuitsPart, SuitsSplit}
use Rattle.fz_cmd.proofs.Together.{suits_assets, suits_part, suits_split}
use Rattle.fz_cmd.proofs.words.with_file.Goals as goal

named_or : (file : Option (Bor (List ℕ))) (other : Bor (List ℕ)) → (unwrap_or file other).now ≡ unwrap_or (option_map (λ s. s.now) file) other.now
named_or None other = refl
named_or (Some file) other = refl

pub invariant_of-result : goal.invariant_of-result
invariant_of-result c =
    let rows = rows_of (found_of c.args.matches.now) in
    let n = c.args.numbers in
    let file = option_map (λ s. s.now) c.args.file in
    let apart = sym c.are_apart.ensures ∙ c.if-are_apart.false in
    let part = c.in_ok-part.ensures ∙ c.part_of.ensures in
    let name = c.in_ok-file.ensures ∙ ap (λ s. s.now) c.unwrap_or.ensures ∙ named_or c.args.file _ in
    subst (λ (o : Options). HasRanges o × SuitsAssets o × SuitsPart o × SuitsSplit o)
    (λ i. record {
      all = sym c.is_on.ensures i;
      limit = n.limit;
      distinct = sym c.is_on-2.ensures i;
      workers = n.workers;
      assets = n.assets;
      commit_distance = n.commit_distance;
      adaptive_distance = n.adaptive_distance;
      interleave = n.interleave;
      stats = sym c.is_on-3.ensures i;
      certificate = sym c.is_on-4.ensures i;
      generate = n.generate;
      split = n.split;
      part = sym part i;
      better = n.better;
      file = sym name i;
    }) (c.requires, suits_assets rows n file apart, suits_part rows n file apart, suits_split rows n file apart)
