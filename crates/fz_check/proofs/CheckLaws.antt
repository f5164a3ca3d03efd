-- From drafts to what the checker says of a program.
use Rattle.std.proofs.Common.{arith, ◌≡◌, ℕ, length, Some, None, List, [], ◌∷◌, refl, sym, ap, ◌∙◌, append-nil}
use Rattle.std.specs.Prelude.{slice_get}
use Rattle.fz_spec.specs.declared.goal.Goal.{Goal}
use Rattle.fz_spec.specs.Instance.{Instance, SearchPart}
use Rattle.fz_language.specs.Trees.{Item, Program}
use Rattle.fz_language.specs.Entries.{Environment}
use Rattle.fz_language.specs.Rules.{Fault, faults_of, all_counted, additions, solve_faults}
use Rattle.fz_language.specs.Models.{Scope, empty_scope, behind, scope_behind, model_of, goal_of}
use Rattle.fz_language.specs.Reads.{faults_from, program_faults, IsFirst, rule_code}
use Rattle.fz_language.specs.Search.{search_of}
use Rattle.fz_resolve.specs.declared.fault.Fault as found
use Rattle.fz_resolve.specs.Meant.{environment_of, fault_of}
use Rattle.fz_check.specs.Checked.{IsFirstFault, IsFirstOf}
use Rattle.fz_check.specs.Drafts.{scope_of, IsAhead}
use Rattle.fz_check.specs.declared.draft.Draft.{Draft}
use Rattle.fz_check.proofs.FaultLaws.{first_front, no_first}

is_first : (faults : List Fault) (f : found.Fault) → IsFirstFault faults f → IsFirst faults (rule_code f.rule) f.at
is_first [] f e = cc
is_first (x ∷ xs) f e = let is : x ≡ fault_of f = cc in (ap (λ (y : Fault). rule_code y.rule) (sym is), ap (λ (y : Fault). y.at) (sym is))

-- the first fault of an item is the program's
pub first_broken : (p : Program) (d : Draft) (item : Item) (rest : List Item) (f : found.Fault) (a : IsAhead p d (item ∷ rest)) → IsFirstFault (faults_of (environment_of d.names) a.counts item) f → IsFirst (program_faults p) (rule_code f.rule) f.at
first_broken p d item rest f a e =
    is_first (program_faults p) f
    (ap (λ (fs : List Fault). slice_get fs 0) a.faults
    ∙ first_front (faults_of (environment_of d.names) a.counts item) (faults_from (behind (scope_of d) item) (all_counted a.counts (additions item)) rest p.solve) (fault_of f) e)

-- and so is that of the solve item
pub first_of_solve : (p : Program) (d : Draft) (f : found.Fault) (a : IsAhead p d []) → IsFirstOf (solve_faults (environment_of d.names) p.solve) (Some f) → IsFirst (program_faults p) (rule_code f.rule) f.at
first_of_solve p d f a e = is_first (program_faults p) f (ap (λ (fs : List Fault). slice_get fs 0) a.faults ∙ sym e)

pub all_kept : (p : Program) (d : Draft) (a : IsAhead p d []) → IsFirstOf (solve_faults (environment_of d.names) p.solve) None → program_faults p ≡ []
all_kept p d a e = a.faults ∙ no_first (solve_faults (environment_of d.names) p.solve) (sym e)

abbrev pub instance_of : Draft → Goal → List SearchPart → Instance
instance_of d goal parts = record { variables = d.variables.items; constraints = d.constraints; goal = goal; outputs = d.outputs.items; search = parts }

-- the parts of a draft of all items make the model
pub model_is : (p : Program) (d : Draft) (goal : Goal) (parts : List SearchPart) (a : IsAhead p d []) → goal ≡ goal_of (environment_of d.names) p.solve → parts ≡ search_of (environment_of d.names) p.solve.annotations
    → model_of p ≡ instance_of d goal parts
model_is p d goal parts a g s =
    let env = ap (λ (x : Scope). x.entries) a.scope in
    let vs = a.variables ∙ append-nil d.variables.items in
    let cs = a.constraints ∙ append-nil d.constraints in
    let os = a.outputs ∙ append-nil d.outputs.items in
    let aim : goal_of (scope_behind empty_scope p.items).entries p.solve ≡ goal = ap (λ (e : Environment). goal_of e p.solve) env ∙ sym g in
    let search : search_of (scope_behind empty_scope p.items).entries p.solve.annotations ≡ parts = ap (λ (e : Environment). search_of e p.solve.annotations) env ∙ sym s in
    λ i. record { variables = vs i; constraints = cs i; goal = aim i; outputs = os i; search = search i }

pub none_left : {X : Type 0} (xs : List X) (n : ℕ) → n ≡ length xs → n ≡ 0 → xs ≡ []
none_left [] n e z = refl
none_left (x ∷ xs) n e z = absurd (omega (arith, e, z))
