-- What a draft stands for, and what an item makes of it.
use Rattle.std.specs.Prelude.{◌≡◌, List, [], ◌++◌, Option, MatchOption, length}
use Rattle.fz_language.specs.Trees.{Item, SolveItem, Program}
use Rattle.fz_language.specs.Within.{ProgramFits}
use Rattle.fz_language.specs.Rules.{Counts, all_counted, additions, faults_of}
use Rattle.fz_language.specs.Models.{Scope, empty_scope, behind, scope_behind, made, variables_of, constraints_of, outputs_of}
use Rattle.fz_language.specs.Reads.{faults_from, program_faults}
use Rattle.fz_resolve.specs.declared.fault.Fault.{Fault}
use Rattle.fz_resolve.specs.Meant.{environment_of}
use Rattle.fz_syntax.specs.Rooms.{IsRoom}
use Rattle.fz_check.specs.Checked.{IsFirstFault}
use Rattle.fz_check.specs.Parts.{scope}
use Rattle.fz_check.specs.declared.draft.Draft.{Draft}

abbrev pub scope_of : Draft → Scope
scope_of d = scope (environment_of d.names) (length d.variables.items)

-- so much is counted
pub record IsCounted (d : Draft) (n : Counts) : Type 0 where
  pub room : IsRoom d.room n
  pub variables : n.variables ≡ length d.variables.items

-- what an item adds to a draft
pub record Adds (old new : Draft) (s : Scope) (item : Item) : Type 0 where
  pub scope : scope_of new ≡ behind s item
  pub variables : new.variables.items ≡ old.variables.items ++ variables_of s item
  pub constraints : new.constraints ≡ old.constraints ++ constraints_of s item
  pub outputs : new.outputs.items ≡ old.outputs.items ++ outputs_of s item

-- an item that keeps all rules
pub record IsGrown (old new : Draft) (n : Counts) (item : Item) : Type 0 where
  pub keeps : faults_of (environment_of old.names) n item ≡ []
  pub counted : IsCounted new (all_counted n (additions item))
  pub adds : Adds old new (scope_of old) item

-- an item that keeps all rules, or the first rule that it breaks
abbrev pub IsAdded : Draft → Draft → Counts → Item → Option Fault → Type 0
IsAdded old new n item fault = MatchOption fault (IsGrown old new n item) (IsFirstFault (faults_of (environment_of old.names) n item))

-- a draft of the items before these
pub record IsAhead (p : Program) (d : Draft) (rest : List Item) : Type 0 where
  pub counts : Counts
  pub counted : IsCounted d counts
  pub faults : program_faults p ≡ faults_from (scope_of d) counts rest p.solve
  pub scope : scope_behind empty_scope p.items ≡ scope_behind (scope_of d) rest
  pub variables : made variables_of empty_scope p.items ≡ d.variables.items ++ made variables_of (scope_of d) rest
  pub constraints : made constraints_of empty_scope p.items ≡ d.constraints ++ made constraints_of (scope_of d) rest
  pub outputs : made outputs_of empty_scope p.items ≡ d.outputs.items ++ made outputs_of (scope_of d) rest

-- a draft of all items of a program that breaks no rule, and its solve item
pub record IsOf (p : Program) (d : Draft) (solve : SolveItem) : Type 0 where
  pub fits : ProgramFits p
  pub keeps : program_faults p ≡ []
  pub ahead : IsAhead p d []
  pub solves : p.solve ≡ solve
