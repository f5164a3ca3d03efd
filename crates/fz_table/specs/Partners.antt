-- Tables of two columns: which numbers are partners, and what is left of two terms where each number has a partner.
use Rattle.std.specs.Prelude.{◌≡◌, ◌↔◌, ◌<◌, ◌+ℤ◌, ℕ, ℤ, pos, List, slice_index}
use Rattle.fz_sets.specs.Sets.{IsInSet}
use Rattle.fz_bits.specs.Windows.{IsBit}
use Rattle.fz_spec.specs.declared.term.Term.{Term}
use Rattle.fz_strength.specs.Domains.{term_set}
use Rattle.fz_prop.specs.Matching.{HasRoom}
use Rattle.fz_table.specs.declared.pairs.Pairs.{Pairs}
use Rattle.fz_column.specs.Supports.{IsNumberAt}

-- two numbers are a row of a table of two columns
abbrev pub IsRowOfTwo : List ℤ → ℤ → ℤ → Type 0
IsRowOfTwo table n m = (i : ℕ) × IsNumberAt table 2 0 i n × IsNumberAt table 2 1 i m

-- the word of a number has another
abbrev pub ArePartners : Pairs → ℤ → ℤ → Type 0
ArePartners pairs n m = (k : ℕ) × (k < 64) × (n ≡ pairs.first +ℤ pos k) × IsBit pairs.base (slice_index pairs.words.items k) m

pub record ArePairsOf (table : List ℤ) (pairs : Pairs) : Type 0 where
  pub partners : (n m : ℤ) → ArePartners pairs n m ↔ IsRowOfTwo table n m
  pub firsts : HasRoom pairs.first
  pub seconds : HasRoom pairs.base

-- ---- numbers with a partner

-- each number that is left of two terms has a partner that is left of the other
pub record AreMatchedBy (R : ℤ → ℤ → Type 0) (ds : List (List (ℤ × ℤ))) (x y : Term) : Type 0 where
  pub firsts : (n : ℤ) → IsInSet (term_set ds x) n → (m : ℤ) × R n m × IsInSet (term_set ds y) m
  pub seconds : (m : ℤ) → IsInSet (term_set ds y) m → (n : ℤ) × R n m × IsInSet (term_set ds x) n
