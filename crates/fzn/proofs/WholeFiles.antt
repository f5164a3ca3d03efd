-- What is read of a whole file.
use Rattle.std.proofs.Common.{◌∙◌, ℕ, ◌+◌, ◌≤◌, List, Option, None, Some, ap, sym, length, arith}
use Rattle.std.proofs.lemmas.List.{take_all}
use Rattle.fz_io.specs.Whole.{AllRead}
use Rattle.fz_spec.specs.declared.limits.TheConstants.{TEXT_LIMIT}
use Rattle.fzn.specs.Steps.{IsReadOf}

-- all bytes of a file within the limit
pub read_of_all : (file after : Option (List ℕ)) (got : List ℕ) → AllRead TEXT_LIMIT got file after → IsReadOf file got
read_of_all None after got r = tt
read_of_all (Some t) after got r =
    let within : length t ≤ TEXT_LIMIT + 1 = omega (arith, r.within, ap length r.all) in r.all ∙ sym (take_all (TEXT_LIMIT + 1) t within)
