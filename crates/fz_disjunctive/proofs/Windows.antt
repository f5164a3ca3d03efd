-- The law of windows: the jobs of a schedule that lie within a window of time need at most its length.
use Rattle.std.proofs.Common.{◌≡◌, List, [], ◌∷◌, ◌++◌, refl, arith, inl, inr, ◌⊎◌}
use Rattle.std.specs.Prelude.{ℤ, pos, ◌+ℤ◌, ◌≤ℤ◌, ◌<ℤ◌, int_le, cond}
use Rattle.std.specs.List.{AllByRecursion}
use Rattle.std.proofs.lemmas.Int.{ints, by_lt_z}
use Rattle.fz_disjunctive.specs.declared.job.Job.{Job}
use Rattle.fz_disjunctive.specs.Schedules.{HasEnded, AreApart, IsSchedule, needed}

-- what a job that begins at s and lasts for d needs of a window from a to b that it lies within
abbrev part : ℤ → ℤ → ℤ → ℤ → ℤ
part s d a b = cond (int_le a s) (cond (int_le (s +ℤ d) b) d (pos 0)) (pos 0)

part_in : (s d a b : ℤ) → a ≤ℤ s → (s +ℤ d) ≤ℤ b → part s d a b ≡ d
part_in s d a b begins ends = grind (arith, ints)

part_before : (s d a b : ℤ) → s <ℤ a → part s d a b ≡ pos 0
part_before s d a b before = grind (arith, ints)

part_behind : (s d a b : ℤ) → b <ℤ (s +ℤ d) → part s d a b ≡ pos 0
part_behind s d a b behind = by_lt_z s a (λ before. part_before s d a b before) (λ begins. grind (arith, ints))

part_sound : (s d a b : ℤ) → pos 0 ≤ℤ d → pos 0 ≤ℤ part s d a b
part_sound s d a b sound =
    by_lt_z s a
    (λ before. rw (part_before s d a b before) (omega (arith, ints)))
    (λ begins. by_lt_z b (s +ℤ d)
    (λ behind. rw (part_behind s d a b behind) (omega (arith, ints)))
    (λ ends. rw (part_in s d a b begins ends) sound))

-- a job that is apart from one within the window lies before or after that one
part_split : (s d t e a b : ℤ) → pos 0 <ℤ e → ((s +ℤ d) ≤ℤ t) ⊎ ((t +ℤ e) ≤ℤ s)
    → part t e a b ≤ℤ (part t e a s +ℤ part t e (s +ℤ d) b)
part_split s d t e a b lasts apart =
    let left = part_sound t e a s (omega (arith, ints, lasts)) in
    let right = part_sound t e (s +ℤ d) b (omega (arith, ints, lasts)) in
    by_lt_z t a
    (λ before. rw (part_before t e a b before) (omega (arith, ints, left, right)))
    (λ begins. by_lt_z b (t +ℤ e)
    (λ behind. rw (part_behind t e a b behind) (omega (arith, ints, left, right)))
    (λ ends. elim apart [
      | inl after ↦ rw (part_in t e a b begins ends, part_in t e (s +ℤ d) b after ends) (omega (arith, ints, left))
      | inr first ↦ rw (part_in t e a b begins ends, part_in t e a s begins first) (omega (arith, ints, right))
    ]))

-- what all jobs need of a window
abbrev load : (Job → ℤ) → ℤ → ℤ → List Job → ℤ
load start a b [] = pos 0
load start a b (job ∷ jobs) = part (start job) job.duration a b +ℤ load start a b jobs

load_split : (start : Job → ℤ) (job : Job) (a b : ℤ) (jobs : List Job) → AllByRecursion (AreApart start job) jobs → IsSchedule start jobs
    → load start a b jobs ≤ℤ (load start a (start job) jobs +ℤ load start (start job +ℤ job.duration) b jobs)
load_split start job a b [] apart h = omega (arith, ints)
load_split start job a b (other ∷ jobs) apart h =
    let here = part_split (start job) job.duration (start other) other.duration a b h.0.lasts apart.0.order in
    let rest = load_split start job a b jobs apart.1 h.2 in
    omega (arith, ints, here, rest)

load_bounded : (start : Job → ℤ) (a b : ℤ) (jobs : List Job) → IsSchedule start jobs → a ≤ℤ b → (a +ℤ load start a b jobs) ≤ℤ b
load_bounded start a b [] h rises = omega (arith, ints, rises)
load_bounded start a b (job ∷ jobs) h rises =
    let s = start job in
    let d = job.duration in
    let rest = load_bounded start a b jobs h.2 rises in
    by_lt_z s a
    (λ before. let none = part_before s d a b before in omega (arith, ints, none, rest))
    (λ begins. by_lt_z b (s +ℤ d)
    (λ behind. let none = part_behind s d a b behind in omega (arith, ints, none, rest))
    (λ ends.
    let here = part_in s d a b begins ends in
    let left = load_bounded start a s jobs h.2 begins in
    let right = load_bounded start (s +ℤ d) b jobs h.2 ends in
    let both = load_split start job a b jobs h.1 h.2 in
    omega (arith, ints, here, left, right, both)))

-- ---- jobs that all lie within it

pub record IsWithin (start : Job → ℤ) (a b : ℤ) (job : Job) : Type 0 where
  pub begins : a ≤ℤ start job
  pub ends : HasEnded start b job

load_whole : (start : Job → ℤ) (a b : ℤ) (jobs : List Job) → AllByRecursion (IsWithin start a b) jobs → load start a b jobs ≡ needed jobs
load_whole start a b [] all = refl
load_whole start a b (job ∷ jobs) all =
    let here = part_in (start job) job.duration a b all.0.begins all.0.ends in
    let rest = load_whole start a b jobs all.1 in
    omega (arith, ints, here, rest)

pub within_bounded : (start : Job → ℤ) (a b : ℤ) (jobs : List Job) → IsSchedule start jobs → a ≤ℤ b → AllByRecursion (IsWithin start a b) jobs → (a +ℤ needed jobs) ≤ℤ b
within_bounded start a b jobs h rises all =
    let whole = load_whole start a b jobs all in
    let bounded = load_bounded start a b jobs h rises in
    omega (arith, ints, whole, bounded)

pub needed_more : (jobs : List Job) (job : Job) → needed (jobs ++ job ∷ []) ≡ (needed jobs +ℤ job.duration)
needed_more [] job = omega (arith, ints)
needed_more (first ∷ jobs) job = let e = needed_more jobs job in omega (arith, ints, e)
