-- What is said is lawful: a line for each shape.
use Rattle.std.proofs.Common.{ℕ, List, length}
use Rattle.std.specs.Prelude.{ℤ}
use Rattle.std.specs.List.{AllByRecursion}
use Rattle.fz_strength.specs.Domains.{AreDomains, IsNarrower, Alone, IsTermOf}
use Rattle.fz_strength.specs.Events.{AreQuiet, AreBelow}
use Rattle.fz_strength.specs.Meanings.{IsLawful}
use Rattle.fz_strength.specs.Sayings.{Saying, saying_of, Compare, CompareIf, Member, MemberIf, Sum, SumIf, Says, Equals, Odd, Select, SelectTerm, Row, Regular, Differ, DifferByBounds, SumByNumbers, Share, Count, Inverse, Other, meaning_of, truth_of, line_of, waits_of, said_terms}
use Rattle.fz_strength.specs.Laws.{KeptWhereQuiet, TrueWhereAlone}
use Rattle.fz_strength.proofs.Comparisons.{comparison_lawful, reified_comparison_lawful}
use Rattle.fz_strength.proofs.Memberships.{membership_lawful, reified_membership_lawful}
use Rattle.fz_strength.proofs.SumLaws.{linear_lawful}
use Rattle.fz_strength.proofs.ReifiedSumLaws.{reified_linear_lawful}
use Rattle.fz_strength.proofs.Clauses.{some_or_all_lawful}
use Rattle.fz_strength.proofs.OperationLaws.{arithmetic_lawful}
use Rattle.fz_strength.proofs.Parities.{parity_lawful}
use Rattle.fz_strength.proofs.Elements.{element_lawful}
use Rattle.fz_strength.proofs.VariableElements.{variable_element_lawful}
use Rattle.fz_strength.proofs.Tables.{table_row_lawful}
use Rattle.fz_strength.proofs.Regular.{regular_lawful}
use Rattle.fz_strength.proofs.Differences.{all_different_lawful, hall_intervals_lawful}
use Rattle.fz_strength.proofs.Equations.{partnered_sum_lawful}
use Rattle.fz_strength.proofs.Cumulatives.{cumulative_lawful}
use Rattle.fz_strength.proofs.Inverse.{inverse_lawful}
use Rattle.fz_strength.proofs.Counts.{global_cardinality_lawful}
use Rattle.fz_strength.proofs.Others.{otherwise_lawful}
use Rattle.fz_strength.proofs.Says.{says}

pub lawful : (s : Saying) → IsLawful (meaning_of s)
lawful (Compare relation x y) = comparison_lawful relation x y
lawful (CompareIf relation x y r) = reified_comparison_lawful relation x y r
lawful (Member x set) = membership_lawful x set
lawful (MemberIf x set r) = reified_membership_lawful x set r
lawful (Sum relation ks ts c) = linear_lawful relation ks ts c
lawful (SumIf relation ks ts c r) = reified_linear_lawful relation ks ts c r
lawful (Says all clause) = some_or_all_lawful all clause
lawful (Equals e) = arithmetic_lawful e
lawful (Odd ts) = parity_lawful ts
lawful (Select xs k c) = element_lawful xs k c
lawful (SelectTerm xs k c) = variable_element_lawful xs k c
lawful (Row xs table) = table_row_lawful xs table
lawful (Regular automaton xs) = regular_lawful automaton xs
lawful (Differ xs) = all_different_lawful xs
lawful (DifferByBounds xs) = hall_intervals_lawful xs
lawful (SumByNumbers ks ts c) = partnered_sum_lawful ks ts c
lawful (Share ss dd us b) = cumulative_lawful ss dd us b
lawful (Inverse fs gs) = inverse_lawful fs gs
lawful (Count xs cover counts) = global_cardinality_lawful xs cover counts
lawful (Other shape arguments) = otherwise_lawful shape arguments

pub kept : (s : Saying) (ds es : List (List (ℤ × ℤ))) → AreDomains es → IsNarrower ds es → AreQuiet (waits_of s) ds es → line_of s ds → line_of s es
kept s = (lawful s).kept

pub true_alone : (s : Saying) (ds : List (List (ℤ × ℤ))) (a : List ℤ) → AreBelow (waits_of s) (length ds) → Alone ds a → line_of s ds → truth_of s a
true_alone s = (lawful s).alone

pub below : (n : ℕ) (s : Saying) → AllByRecursion (IsTermOf n) (said_terms s) → AreBelow (waits_of s) n
below n s = (lawful s).below n

pub kept_where_quiet : KeptWhereQuiet
kept_where_quiet c ds es domains narrower quiet h = kept (saying_of c) ds es domains narrower quiet h

pub true_where_alone : TrueWhereAlone
true_where_alone c ds a below alone h = (says c a).1 (true_alone (saying_of c) ds a below alone h)
