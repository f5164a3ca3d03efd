-- What propagators rely on, and what one promises that is done.
use Rattle.std.specs.Prelude.{ℤ, pos, List}
use Rattle.std.specs.List.{AllByRecursion}
use Rattle.fz_sets.specs.Sets.{IsInSet, IsInRange}
use Rattle.fz_spec.specs.declared.term.Term.{Term}
use Rattle.fz_strength.specs.Domains.{term_set, AreDomains, IsNarrower}
use Rattle.fz_strength.specs.Sayings.{Saying, line_of, truths_of}

-- its line holds of these domains and of all narrower ones
abbrev pub RestsForGood : Saying → List (List (ℤ × ℤ)) → Type 0
RestsForGood s ds = (es : List (List (ℤ × ℤ))) → AreDomains es → IsNarrower ds es → line_of s es

-- only 0 and 1 are left of a term
abbrev pub IsTruth : List (List (ℤ × ℤ)) → Term → Type 0
IsTruth ds t = (x : ℤ) → IsInSet (term_set ds t) x → IsInRange (pos 0, pos 1) x

-- the terms that it takes for 0 or 1 are
abbrev pub Suits : Saying → List (List (ℤ × ℤ)) → Type 0
Suits s ds = AllByRecursion (IsTruth ds) (truths_of s)
