-- Turn by turn: what a run by the schedule keeps.
use Rattle.std.proofs.Common.{◌≡◌, ◌∙◌, ◌<◌, ◌≤◌, ℕ, List, [], ◌∷◌, ◌++◌, length, ap, sym, subst, refl, arith, Bool, true, false, IsTrue, Some, None, Option, MatchOption, Result, Ok, Err, OnErr, inl, inr}
use Rattle.std.specs.Prelude.{◌↔◌, IsSomeAnd}
use Rattle.std.proofs.lemmas.Bool.{cases_lt}
use Rattle.fz_model.specs.Kept.{IsModel}
use Rattle.fz_tree.specs.Book.{Book}
use Rattle.fz_machine.specs.declared.event.Event.{Event}
use Rattle.fz_machine.specs.declared.event.Event.TheVariants.{Claim, Start, Step, Report, Steal, Learn}
use Rattle.fz_machine.specs.declared.event.Outcome.{Outcome}
use Rattle.fz_machine.specs.declared.event.Answer.{Answer}
use Rattle.fz_machine.specs.declared.event.Answer.TheVariants.{Applied, Unlawful}
use Rattle.fz_machine.specs.Cores.{Core, CoreLaw}
use Rattle.fz_machine.specs.Lawfulness.{is_lawful}
use Rattle.fz_machine.specs.Events.{Happens, Refuses}
use Rattle.fz_machine.specs.Runs.{Answers, Turns, Runs}
use Rattle.fz_machine.specs.Schedule.{IsNext, NoneActs, FirstActs, IsTurn, HasTurn, Goes, HasStopped, HasEnough, next_number, picked}
use Rattle.fz_machine.specs.Measure.{core_left}
use Rattle.fz_machine.proofs.Turns.{next_lawful, next_leaves_less, nobody_closes}

-- ---- whose turn it is

-- nobody on either side of a worker is nobody
nobody : (s : Core) (enough : Option ℕ) (first : ℕ) → NoneActs s enough first (length s.workers) → NoneActs s enough 0 first → NoneActs s enough 0 (length s.workers)
nobody s enough first behind before = λ w low high.
    elim (cases_lt w first) [ inl below ↦ before w low below | inr above ↦ behind w (omega (arith, above)) high ]

-- of two parts of all workers, the second before the first
around : (s : Core) (enough : Option ℕ) (first : ℕ) (next : Option Event) → NoneActs s enough first (length s.workers) → MatchOption next (NoneActs s enough 0 first) (FirstActs s enough 0 first) → IsTurn s enough first next
around s enough first None behind before = nobody s enough first behind before
around s enough first (Some event) behind acts = inr (behind, acts)

-- the next event of a worker
pub record IsNextOfOne (s : Core) (enough : Option ℕ) (event : Event) : Type 0 where
  pub worker : ℕ
  pub within : worker < length s.workers
  pub next : IsNext s enough worker (Some event)

pub turn_next : (s : Core) (enough : Option ℕ) (first : ℕ) (event : Event) → first ≤ length s.workers → IsTurn s enough first (Some event) → IsNextOfOne s enough event
turn_next s enough first event within (inl f) = record { worker = f.worker; within = f.below; next = f.next }
turn_next s enough first event within (inr f) = record { worker = f.1.worker; within = omega (arith, f.1.below, within); next = f.1.next }

-- ---- the model stays

pub record IsOfOne (s t : Core) : Type 0 where
  pub model : t.book.model ≡ s.book.model
  pub mode : t.book.mode ≡ s.book.mode

of_book : (s t : Core) (b : Book) → t.book ≡ b → b.model ≡ s.book.model → b.mode ≡ s.book.mode → IsOfOne s t
of_book s t b is model mode = record { model = ap (λ (x : Book). x.model) is ∙ model; mode = ap (λ (x : Book). x.mode) is ∙ mode }

same_book : (s t : Core) → t.book ≡ s.book → IsOfOne s t
same_book s t is = of_book s t s.book is refl refl

pub happens_of : (event : Event) (outcome : Outcome) (s t : Core) → Happens event outcome s t → IsOfOne s t
happens_of (Claim w) outcome s t h = of_book s t _ h.1.claims.is refl refl
happens_of (Start w) outcome s t h = same_book s t (ap (λ (x : Core). x.book) h.1.is)
happens_of (Step w) outcome s t h = same_book s t (ap (λ (x : Core). x.book) h.is)
happens_of (Report w) outcome s t h = of_book s t _ h.1.takes.is refl refl
happens_of (Steal v w) outcome s t h = of_book s t _ h.1.takes.is refl refl
happens_of (Learn w i) outcome s t h = same_book s t (ap (λ (x : Core). x.book) h.is)

pub refuses_of : (event : Event) (s t : Core) → Refuses event s t → IsOfOne s t
refuses_of (Claim w) s t h = same_book s t (ap (λ (x : Core). x.book) h)
refuses_of (Start w) s t h = same_book s t (ap (λ (x : Core). x.book) h)
refuses_of (Step w) s t h = same_book s t (ap (λ (x : Core). x.book) h.is)
refuses_of (Report w) s t h = same_book s t (ap (λ (x : Core). x.book) h)
refuses_of (Steal v w) s t h = same_book s t (ap (λ (x : Core). x.book) h)
refuses_of (Learn w i) s t h = same_book s t (ap (λ (x : Core). x.book) h)

pub answers_of : (a : Answer) (event : Event) (s t : Core) → Answers a event s t → IsOfOne s t
answers_of (Applied outcome) event s t h = happens_of event outcome s t h.1
answers_of (Unlawful e) event s t h = same_book s t (ap (λ (x : Core). x.book) h.2)

-- ---- turn by turn

runs_on : (events : List Event) (s t u : Core) (event : Event) → Runs events s t → Turns event t u → Runs (events ++ event ∷ []) s u
runs_on [] s t u event first turns = (u, subst (λ (x : Core). Turns event x u) first turns, refl)
runs_on (e ∷ es) s t u event first turns = (first.0, first.1, runs_on es first.0 t u event first.2 turns)

abbrev pub HasRun : Core → Core → Type 0
HasRun s t = (events : List Event) × Runs events s t

-- what has come of a core, and of the number
pub record HasCome (enough : Option ℕ) (seed : ℕ) (s : Core) (number : ℕ) (t : Core) : Type 0 where
  pub goes : Goes enough seed s number t
  pub run : HasRun s t
  pub same : IsOfOne s t

pub begins_so : (enough : Option ℕ) (seed : ℕ) (s : Core) → HasCome enough seed s seed s
begins_so enough seed s = record { goes = Goes.begins; run = ([], refl); same = record { model = refl; mode = refl } }

of_both : (s t u : Core) → IsOfOne s t → IsOfOne t u → IsOfOne s u
of_both s t u first second = record { model = second.model ∙ first.model; mode = second.mode ∙ first.mode }

-- one turn more
pub goes_on : (enough : Option ℕ) (seed number : ℕ) (s t u : Core) (event : Event) (outcome : Outcome) → CoreLaw t → HasCome enough seed s number t
    → HasTurn enough number t event → IsNextOfOne t enough event → Happens event outcome t u → HasCome enough seed s (next_number number) u
goes_on enough seed number s t u event outcome law come turn next happens = record {
  goes = Goes.acts number t u event outcome come.goes turn happens;
  run = (come.run.0 ++ event ∷ [], runs_on come.run.0 s t u event come.run.1 (inl (Applied outcome, (next_lawful t enough next.worker event next.within next.next, happens))));
  same = of_both s t u come.same (happens_of event outcome t u happens);
}

-- where a turn lacks memory
pub stops_run : (enough : Option ℕ) (seed number : ℕ) (s t u : Core) (event : Event) → HasCome enough seed s number t → Refuses event t u → HasRun s u × IsOfOne s u
stops_run enough seed number s t u event come refuses =
    ((come.run.0 ++ event ∷ [], runs_on come.run.0 s t u event come.run.1 (inr refuses)), of_both s t u come.same (refuses_of event t u refuses))

-- ---- as the code says it

few_by : (enough : Option ℕ) (b : Book) (s : Core) (full : Bool) → b ≡ s.book → IsTrue full ↔ IsSomeAnd enough (λ n. n ≤ length b.recorded) → full ≡ false → HasEnough enough s → ⊥
few_by enough b s full same means few = λ many.
    let yes : full ≡ true = means.1 (subst (λ (x : Book). IsSomeAnd enough (λ n. n ≤ length x.recorded)) (sym same) many) in
    cc

-- the event whose turn it is
pub record IsActing (enough : Option ℕ) (number : ℕ) (s : Core) (event : Event) : Type 0 where
  pub law : CoreLaw s
  pub turn : HasTurn enough number s event
  pub next : IsNextOfOne s enough event

pub acting : (enough : Option ℕ) (number x : ℕ) (b : Book) (full : Bool) (s : Core) (r : Option Event) (event : Event) → CoreLaw s
    → b ≡ s.book → IsTrue full ↔ IsSomeAnd enough (λ n. n ≤ length b.recorded) → full ≡ false
    → x ≡ next_number number → IsTurn s enough (picked x (length s.workers)) r → r ≡ Some event → IsActing enough number s event
acting enough number x b full s r event law same means few next turns is =
    let turn : IsTurn s enough (picked (next_number number) (length s.workers)) (Some event) =
    subst (λ n. IsTurn s enough (picked n (length s.workers)) (Some event)) next (subst (λ (o : Option Event). IsTurn s enough (picked x (length s.workers)) o) is turns) in
    record {
      law = law;
      turn = record { few = few_by enough b s full same means few; turn = turn };
      next = turn_next s enough (picked (next_number number) (length s.workers)) event (omega (arith, law.several)) turn;
    }

pub acts_lawful : (enough : Option ℕ) (number : ℕ) (s : Core) (event : Event) → IsActing enough number s event → is_lawful s event ≡ true
acts_lawful enough number s event a = next_lawful s enough a.next.worker event a.next.within a.next.next

pub acts_on : (enough : Option ℕ) (seed number x : ℕ) (s t u : Core) (event : Event) (outcome : Outcome) → x ≡ next_number number → IsActing enough number t event → HasCome enough seed s number t → Happens event outcome t u → HasCome enough seed s x u
acts_on enough seed number x s t u event outcome next a come happens =
    subst (λ n. HasCome enough seed s n u) (sym next) (goes_on enough seed number s t u event outcome a.law come a.turn a.next happens)

pub acts_less : (enough : Option ℕ) (number : ℕ) (s t : Core) (event : Event) (outcome : Outcome) → IsActing enough number s event → IsModel s.book.model → Happens event outcome s t → core_left t < core_left s
acts_less enough number s t event outcome a model happens = next_leaves_less s t enough a.next.worker event outcome a.law model a.next.next happens

pub acts_short : {A E : Type 0} (r : Result A E) (enough : Option ℕ) (seed number : ℕ) (s t u : Core) (event : Event) → IsActing enough number t event → HasCome enough seed s number t → Refuses event t u → OnErr r (HasStopped enough seed s u)
acts_short (Ok x) enough seed number s t u event a come refuses = tt
acts_short (Err e) enough seed number s t u event a come refuses = record { number = number; core = t; goes = come.goes; event = event; turn = a.turn; refuses = refuses }

pub closed_by : (s : Core) (enough : Option ℕ) (first : ℕ) (r : Option Event) → CoreLaw s → IsTurn s enough first r → r ≡ None → s.book.parts ≡ []
closed_by s enough first r law turns is = nobody_closes s enough law (subst (λ (o : Option Event). IsTurn s enough first o) is turns)

-- the first from a worker on, and else the first before it
pub acts_first : (s : Core) (enough : Option ℕ) (first to : ℕ) (r : Option Event) (event : Event) → to ≡ length s.workers → r ≡ Some event
    → MatchOption r (NoneActs s enough first to) (FirstActs s enough first to) → IsTurn s enough first (Some event)
acts_first s enough first to r event same is h =
    inl (subst (λ n. FirstActs s enough first n event) same (subst (λ (o : Option Event). MatchOption o (NoneActs s enough first to) (FirstActs s enough first to)) is h))

pub acts_around : (s : Core) (enough : Option ℕ) (first to : ℕ) (r next : Option Event) → to ≡ length s.workers → r ≡ None
    → MatchOption r (NoneActs s enough first to) (FirstActs s enough first to) → MatchOption next (NoneActs s enough 0 first) (FirstActs s enough 0 first) → IsTurn s enough first next
acts_around s enough first to r next same is h before =
    around s enough first next (subst (λ n. NoneActs s enough first n) same (subst (λ (o : Option Event). MatchOption o (NoneActs s enough first to) (FirstActs s enough first to)) is h)) before
