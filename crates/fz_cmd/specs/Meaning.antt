-- What the words of a command line mean.
use Rattle.std.specs.Prelude.{◌≡◌, ℕ, ℤ, Bool, false, ◌≤◌, ◌<◌, ◌≤ℤ◌, nat_lt, not, ◌&&◌, ◌||◌, Option, Some, None, IfSome, MatchOption, List, codes, cond, bytes_eq, is_some, option_map, option_and_then, unwrap_or}
use Rattle.std.specs.Option.{option_map_or}
use Rattle.std.specs.Str.Parse.{digits_value, signed_digits_value, without_leading_plus}
use Rattle.clap.specs.Words.{Row, Text, first_of, matches_of, fault_of}
use Rattle.clap.specs.ValueTests.{is_signed_in, is_unsigned_in}
use Rattle.clap.specs.Walk.{is_empty}
use Rattle.fz_cmd.specs.declared.words.Numbers.{Numbers}
use Rattle.fz_cmd.specs.declared.options.Takes.{Takes}
use Rattle.fz_cmd.specs.declared.options.Takes.TheVariants.{Number, Defaulted, Signed}
use Rattle.fz_cmd.specs.declared.options.TheConstants.{ALL, LIMIT, DISTINCT, WORKERS, ASSETS, STATS, CERTIFICATE, COMMIT_DISTANCE, ADAPTIVE_DISTANCE, INTERLEAVE, GENERATE, SPLIT, PART, BETTER}
use Rattle.fz_cmd.specs.Command.{fzn_app}

-- All solutions or not, how many of them, whether each block of values is printed once, by how many workers, by how many plans side by side, the commit distance, the adaptive distance, the seed of the workers' turns,
-- whether statistics are printed, whether a certificate is, of how many items a model is generated, into how many parts a model is split, the text of the part that is run, what its solutions are to be better than,
-- and the text that is read.
pub record Options : Type 0 where
  pub all : Bool
  pub limit : Option ℕ
  pub distinct : Bool
  pub workers : ℕ
  pub assets : ℕ
  pub commit_distance : ℕ
  pub adaptive_distance : ℕ
  pub interleave : Option ℕ
  pub stats : Bool
  pub certificate : Bool
  pub generate : Option ℕ
  pub split : Option ℕ
  pub part : Option (List ℕ)
  pub better : Option ℤ
  pub file : List ℕ

-- a number is one that an option takes
abbrev pub IsTakenBy : Takes → ℕ → Type 0
IsTakenBy (Number least most) n = (least ≤ n) × (n ≤ most)
IsTakenBy (Defaulted least most default) n = (least ≤ n) × (n ≤ most)
IsTakenBy takes n = ⊥

-- a number that may be below 0 is one that an option takes
abbrev pub IsSignedBy : Takes → ℤ → Type 0
IsSignedBy (Signed least most) n = (least ≤ℤ n) × (n ≤ℤ most)
IsSignedBy takes n = ⊥

-- its default is one, if it has one
abbrev pub HasDefault : Takes → Type 0
HasDefault (Defaulted least most default) = (least ≤ default) × (default ≤ most)
HasDefault takes = Unit {0}

-- each number is in its range
pub record AreInRange (n : Numbers) : Type 0 where
  pub workers : IsTakenBy WORKERS.2 n.workers
  pub assets : IsTakenBy ASSETS.2 n.assets
  pub commit_distance : IsTakenBy COMMIT_DISTANCE.2 n.commit_distance
  pub adaptive_distance : IsTakenBy ADAPTIVE_DISTANCE.2 n.adaptive_distance
  pub generate : IfSome n.generate (IsTakenBy GENERATE.2)
  pub split : IfSome n.split (IsTakenBy SPLIT.2)
  pub better : IfSome n.better (IsSignedBy BETTER.2)

-- the numbers among the options
abbrev pub numbers_in : Options → Numbers
numbers_in o = record { limit = o.limit; workers = o.workers; assets = o.assets; commit_distance = o.commit_distance; adaptive_distance = o.adaptive_distance; interleave = o.interleave; generate = o.generate; split = o.split; better = o.better }

abbrev pub HasRanges : Options → Type 0
HasRanges o = AreInRange (numbers_in o)

-- Several assets have a worker each, and search in threads for one solution or a best one.
pub record AreForAssets (o : Options) : Type 0 where
  pub workers : o.assets ≤ o.workers
  pub all : o.all ≡ false
  pub limit : o.limit ≡ None
  pub distinct : o.distinct ≡ false
  pub interleave : o.interleave ≡ None

abbrev pub SuitsAssets : Options → Type 0
SuitsAssets o = 1 < o.assets → AreForAssets o

-- of a text that is read one search, by threads or alone, and nothing but its solutions is printed
pub record ArePlain (o : Options) : Type 0 where
  pub limit : o.limit ≡ None
  pub distinct : o.distinct ≡ false
  pub assets : o.assets ≤ 1
  pub interleave : o.interleave ≡ None
  pub stats : o.stats ≡ false
  pub certificate : o.certificate ≡ false
  pub generate : o.generate ≡ None

-- A part is run as a whole model is, for one solution, or a best one, or all.
pub record AreForPart (o : Options) : Type 0 where
  pub plain : ArePlain o
  pub split : o.split ≡ None

-- only a part has something to be better than
abbrev pub SuitsPart : Options → Type 0
SuitsPart o = MatchOption o.part (o.better ≡ None) (λ text. AreForPart o)

-- A model is split by one worker, and neither all solutions nor a part are asked for.
pub record AreForSplit (o : Options) : Type 0 where
  pub plain : ArePlain o
  pub all : o.all ≡ false
  pub workers : o.workers ≤ 1
  pub part : o.part ≡ None
  pub better : o.better ≡ None

abbrev pub SuitsSplit : Options → Type 0
SuitsSplit o = IfSome o.split (λ parts. AreForSplit o)

-- a flag was given
abbrev pub is_on : Text → List Row → Bool
is_on id rows = option_map_or (λ t. bytes_eq t (codes "true")) (first_of id rows) false

-- the number that a text of digits, with a plus before it or not, spells within the bounds
abbrev pub number_in : ℕ → ℕ → Text → Option ℕ
number_in least most t = cond (is_unsigned_in least most t) (Some (digits_value 10 (without_leading_plus t))) None

-- the number of an option, or none of its own where it isn't given; a text that is no such number is refused
abbrev pub given_in : ℕ → ℕ → Option Text → Option (Option ℕ)
given_in least most None = Some None
given_in least most (Some t) = option_map (λ n. Some n) (number_in least most t)

-- the number of an option that takes one: its own, its default if it has one, or none
abbrev pub number_at : List Row → Text → Takes → Option (Option ℕ)
number_at rows id (Number least most) = given_in least most (first_of id rows)
number_at rows id (Defaulted least most default) = option_map (λ given. Some (unwrap_or given default)) (given_in least most (first_of id rows))
number_at rows id takes = Some None

-- the same of a number that may be below 0, a text of digits with a plus or a minus before it or not
abbrev pub signed_in : ℤ → ℤ → Text → Option ℤ
signed_in least most t = cond (is_signed_in least most t) (Some (signed_digits_value 10 t)) None

abbrev pub given_signed : ℤ → ℤ → Option Text → Option (Option ℤ)
given_signed least most None = Some None
given_signed least most (Some t) = option_map (λ n. Some n) (signed_in least most t)

abbrev pub signed_at : List Row → Text → Takes → Option (Option ℤ)
signed_at rows id (Signed least most) = given_signed least most (first_of id rows)
signed_at rows id takes = Some None

-- the numbers of all options, where each has one that is within its bounds
abbrev pub numbers_by : (limit workers assets distance adaptive interleave generate split : Option (Option ℕ)) → Option (Option ℤ) → Option Numbers
numbers_by (Some limit) (Some workers) (Some assets) (Some distance) (Some adaptive) (Some interleave) (Some generate) (Some split) (Some better) = Some (record {
  limit = limit;
  workers = unwrap_or workers 0;
  assets = unwrap_or assets 0;
  commit_distance = unwrap_or distance 0;
  adaptive_distance = unwrap_or adaptive 0;
  interleave = interleave;
  generate = generate;
  split = split;
  better = better;
})
numbers_by limit workers assets distance adaptive interleave generate split better = None

-- the numbers that the matches give, each within its bounds
abbrev pub numbers_of : List Row → Option Numbers
numbers_of rows =
    numbers_by (number_at rows LIMIT.0.now LIMIT.2) (number_at rows WORKERS.0.now WORKERS.2) (number_at rows ASSETS.0.now ASSETS.2) (number_at rows COMMIT_DISTANCE.0.now COMMIT_DISTANCE.2)
    (number_at rows ADAPTIVE_DISTANCE.0.now ADAPTIVE_DISTANCE.2) (number_at rows INTERLEAVE.0.now INTERLEAVE.2) (number_at rows GENERATE.0.now GENERATE.2) (number_at rows SPLIT.0.now SPLIT.2)
    (signed_at rows BETTER.0.now BETTER.2)

-- A certificate is of one best solution of a model that is read, or of none, and nothing else is printed after it.
abbrev pub suits_no_certificate : List Row → Numbers → Bool
suits_no_certificate rows n = is_on ALL.0.now rows || is_some n.limit || is_on DISTINCT.0.now rows || is_on STATS.0.now rows || is_some n.generate

-- Several assets are no more than the workers, which search in threads for one solution or a best one.
abbrev pub suits_no_assets : List Row → Numbers → Bool
suits_no_assets rows n = nat_lt n.workers n.assets || is_on ALL.0.now rows || is_some n.limit || is_on DISTINCT.0.now rows || is_some n.interleave

-- the text of the part that is run
abbrev pub part_of : List Row → Option Text
part_of rows = first_of PART.0.now rows

-- Neither a part nor a split model has a number of solutions, several assets, turns, or anything to print but its own.
abbrev pub are_not_plain : List Row → Numbers → Bool
are_not_plain rows n =
    is_some n.limit || is_on DISTINCT.0.now rows || nat_lt 1 n.assets || is_some n.interleave || is_on STATS.0.now rows || is_on CERTIFICATE.0.now rows || is_some n.generate

-- A model is split by one worker, and searched for nothing.
abbrev pub suits_no_split : List Row → Numbers → Bool
suits_no_split rows n = is_on ALL.0.now rows || nat_lt 1 n.workers || is_some (part_of rows)

-- Beside a split, a part, or what the solutions of a part are to be better than, stands an option that doesn't suit it.
abbrev pub parts_are_apart : List Row → Numbers → Bool
parts_are_apart rows n =
    ((is_some n.split || is_some (part_of rows)) && are_not_plain rows n) || (is_some n.split && suits_no_split rows n) || (is_some n.better && not (is_some (part_of rows)))

-- two options that don't go together
abbrev pub are_apart : List Row → Numbers → Option Text → Bool
are_apart rows n file =
    (is_some n.generate && is_some file) || (is_on CERTIFICATE.0.now rows && suits_no_certificate rows n) || (nat_lt 1 n.assets && suits_no_assets rows n) || parts_are_apart rows n

-- the options that the numbers, the flags, the part and the name of a file give
abbrev pub options_given : List Row → Numbers → Option Text → Options
options_given rows n file = record {
  all = is_on ALL.0.now rows;
  limit = n.limit;
  distinct = is_on DISTINCT.0.now rows;
  workers = n.workers;
  assets = n.assets;
  commit_distance = n.commit_distance;
  adaptive_distance = n.adaptive_distance;
  interleave = n.interleave;
  stats = is_on STATS.0.now rows;
  certificate = is_on CERTIFICATE.0.now rows;
  generate = n.generate;
  split = n.split;
  part = part_of rows;
  better = n.better;
  file = unwrap_or file (codes "-");
}

-- Where a model is generated no file may be named; beside a certificate, several assets, a split or a part stands no option that they
-- don't suit.
abbrev pub with_file : List Row → Numbers → Option Text → Option Options
with_file rows n file = cond (are_apart rows n file) None (Some (options_given rows n file))

-- the options that the matches give
abbrev pub read : List Row → Option Options
read rows = option_and_then (λ n. with_file rows n (first_of (codes "file") rows)) (numbers_of rows)

-- What clap's own rules refuse is refused; else the matches are read.
abbrev pub options_of : List Text → Option Options
options_of words = cond (is_empty (fault_of fzn_app words)) (read (matches_of fzn_app words)) None
