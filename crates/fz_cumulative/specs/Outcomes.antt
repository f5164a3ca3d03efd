-- What a run leaves and answers by what it did.
use Rattle.std.specs.Prelude.{◌≡◌, ◌<◌, ℕ, ℤ, ◌≤ℤ◌, ◌<ℤ◌, List, length, slice_get, Some}
use Rattle.fz_sets.specs.Sets.{IsInSet}
use Rattle.fz_dom.specs.declared.change.Change.{Change}
use Rattle.fz_dom.specs.declared.change.Change.TheVariants.{Same, Changed, Wiped}
use Rattle.fz_spec.specs.declared.term.Term.{Term}
use Rattle.fz_dom.specs.Shape.{least, greatest}
use Rattle.fz_spec.specs.Constraints.{term_value}
use Rattle.fz_strength.specs.declared.open_task.OpenTask.{OpenTask}
use Rattle.fz_strength.specs.Cumulatives.{HasRoom}
use Rattle.fz_strength.specs.Domains.{term_set, room, Within, IsTermOf}
use Rattle.fz_prop.specs.Stores.{Stored}
use Rattle.fz_prop.specs.declared.answer.Answer.{Answer}
use Rattle.fz_prop.specs.declared.answer.Answer.TheVariants.{Fix, NoFix, Subsumed, Failed}
use Rattle.fz_cumulative.specs.Tasks.{IsBlocked}

abbrev pub answer_to : Change → Answer
answer_to Wiped = Failed
answer_to Same = NoFix
answer_to Changed = NoFix

-- Of a term that isn't all within a property some numbers left, or none has the property.
abbrev pub IsNarrowed : Answer → Term → (ℤ → Type 0) → List (List (ℤ × ℤ)) → List (List (ℤ × ℤ)) → Type 0
IsNarrowed NoFix t P ds es = room es < room ds
IsNarrowed Failed t P ds es = (x : ℤ) → IsInSet (term_set ds t) x → P x → ⊥
IsNarrowed Fix t P ds es = ⊥
IsNarrowed Subsumed t P ds es = ⊥

-- each assignment within the domains that makes it true gives the term a number with the property
abbrev pub Needs : (List ℤ → Type 0) → List (List (ℤ × ℤ)) → Term → (ℤ → Type 0) → Type 0
Needs T ds t P = (a : List ℤ) → Within ds a → T a → P (term_value a t)

-- A term has a number below a value, and needs none of these.
abbrev pub IsBelow : ℤ → Term → (List ℤ → Type 0) → List (List (ℤ × ℤ)) → Type 0
IsBelow v t T ds = IsTermOf (length ds) t × (least (term_set ds t) <ℤ v) × Needs T ds t (λ x. v ≤ℤ x)

-- ---- the starts of tasks

-- the tasks go from the least to the greatest of these starts
abbrev pub AreStarts : List (List (ℤ × ℤ)) → List OpenTask → List Term → Type 0
AreStarts ds tasks starts =
    (i : ℕ) (task : OpenTask) → slice_get tasks i ≡ Some task → (t : Term) × (slice_get starts i ≡ Some t) × (least (term_set ds t) ≡ task.earliest) × (greatest (term_set ds t) ≡ task.latest)

-- no task is blocked at the start that an assignment gives it
abbrev pub AreFree : List OpenTask → ℤ → List Term → List ℤ → Type 0
AreFree tasks high starts a =
    (i : ℕ) (task : OpenTask) (t : Term) → slice_get tasks i ≡ Some task → slice_get starts i ≡ Some t → IsBlocked tasks high i task (term_value a t) → ⊥

-- each task before place n has room
abbrev pub HaveRoom : List OpenTask → ℤ → ℕ → Type 0
HaveRoom tasks high n = (i : ℕ) (task : OpenTask) → i < n → slice_get tasks i ≡ Some task → HasRoom tasks high i task

-- What became of the starts of tasks: nothing, since all have room; some numbers left; or no assignment leaves all tasks free.
abbrev pub IsStarting : Change → List OpenTask → ℤ → List Term → Stored → Stored → Type 0
IsStarting Same tasks high starts r s = (s ≡ r) × HaveRoom tasks high (length tasks)
IsStarting Changed tasks high starts r s = room s.doms < room r.doms
IsStarting Wiped tasks high starts r s = (a : List ℤ) → Within r.doms a → AreFree tasks high starts a → ⊥
