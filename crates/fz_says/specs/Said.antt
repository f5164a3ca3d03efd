-- What a borrowed saying says.
use Rattle.std.specs.Prelude.{true, false, map, List}
use Rattle.fz_spec.specs.declared.term.Term.{Term}
use Rattle.fz_spec.specs.Signatures.{shape_of}
use Rattle.fz_strength.specs.Clauses.{clause, disjunction, conjunction}
use Rattle.fz_strength.specs.Operations.{equation}
use Rattle.fz_strength.specs.Sums.{left_factors, left_terms, right_number}
use Rattle.fz_strength.specs.Sayings as said
use Rattle.fz_says.specs.declared.waits.Wait as code_waits
use Rattle.fz_strength.specs.Events.{Wait}
use Rattle.fz_spec.specs.Truth as truth
use Rattle.fz_says.specs.declared.saying.Automaton.{Automaton}
use Rattle.fz_says.specs.declared.saying.Saying.{Saying}
use Rattle.fz_says.specs.declared.saying.Saying.TheVariants as code
use Rattle.fz_says.specs.declared.saying.Operands.{Operands}
use Rattle.fz_says.specs.declared.saying.Operands.TheVariants as operands

abbrev pub operands_of : Operands → List Term
operands_of (operands.One ts) = ts
operands_of (operands.Two ts) = ts
operands_of (operands.Listed ts) = ts.now

abbrev pub automaton_of : Automaton → truth.Automaton
automaton_of m = record { states = m.states; symbols = m.symbols; next = m.next.now; start = m.start; accepting = m.accepting.now.value }

abbrev pub said_by : Saying → said.Saying
said_by (code.Compare relation x y) = said.Compare relation x y
said_by (code.CompareIf relation x y r) = said.CompareIf relation x y r
said_by (code.Member x set) = said.Member x set.now.value
said_by (code.MemberIf x set r) = said.MemberIf x set.now.value r
said_by (code.Sum relation ks ts c) = said.Sum relation (left_factors ks.now c) (left_terms ts.now c) (right_number c)
said_by (code.SumIf relation ks ts c r) = said.SumIf relation ks.now ts.now c r
said_by (code.Clause ps ns r) = said.Says false (clause ps.now ns.now r)
said_by (code.AnyOf ts r) = said.Says false (disjunction (operands_of ts) r)
said_by (code.AllOf ts r) = said.Says true (conjunction (operands_of ts) r)
said_by (code.Equals operation xs z) = said.Equals (equation operation (operands_of xs) z)
said_by (code.Odd ts) = said.Odd ts.now
said_by (code.Select xs k c) = said.Select xs.now k c
said_by (code.SelectTerm xs k c) = said.SelectTerm xs.now k c
said_by (code.Row xs table) = said.Row xs.now table.now
said_by (code.Regular m xs) = said.Regular (automaton_of m) xs.now
said_by (code.Differ xs) = said.Differ xs.now
said_by (code.DifferByBounds xs) = said.DifferByBounds xs.now
said_by (code.SumByNumbers ks ts c) = said.SumByNumbers (left_factors ks.now c) (left_terms ts.now c) (right_number c)
said_by (code.Share ss dd us b) = said.Share ss.now dd.now us.now b
said_by (code.Inverse fs gs) = said.Inverse fs.now gs.now
said_by (code.Count xs cover counts) = said.Count xs.now cover.now counts.now
said_by (code.Other c) = said.Other (shape_of c.now.name) c.now.arguments

-- what code waits for
abbrev pub waits_in : List code_waits.Wait → List Wait
waits_in ws = map (λ (w : code_waits.Wait). record { variable = w.variable; event = w.event }) ws
