-- Tasks that share a resource use in no window more than the bound allows.
use Rattle.std.proofs.Common.{◌≡◌, ℕ, zero, suc, ◌+◌, ◌-◌, ◌*◌, ◌≤◌, List, [], ◌∷◌, refl, sym, ap, subst, ◌∙◌, arith, length, inl, inr}
use Rattle.std.specs.Prelude.{ℤ, pos, negsuc, ◌+ℤ◌, ◌-ℤ◌, ◌*ℤ◌, ◌≤ℤ◌, ◌<ℤ◌}
use Rattle.std.specs.Int.{int_min, int_max}
use Rattle.std.specs.List.{AllByRecursion}
use Rattle.std.proofs.lemmas.Int.{ints, clamps, by_lt_z}
use Rattle.std.proofs.Math.IntN.{*ℤ_comm, *ℤ-zero, +ℤ_one, suc_ℤ-*ℤ, pos-*ℤ-pos}
use Rattle.fz_dom.specs.Shape.{greatest}
use Rattle.fz_spec.specs.declared.term.Term.{Term}
use Rattle.fz_spec.specs.Constraints.{term_value, term_values}
use Rattle.fz_spec.specs.Truth.{Task, tasks_of, usage_at, load_at, IsTask, IsCumulative}
use Rattle.fz_strength.specs.declared.open_task.OpenTask.{OpenTask}
use Rattle.fz_strength.specs.Cumulatives.{open_tasks, closed, IsSound}
use Rattle.fz_strength.specs.Domains.{term_set, Within}
use Rattle.fz_cumulative.specs.Cumulatives.{TasksShare}
use Rattle.fz_cumulative.specs.Energies.{overlap, least_overlap, energy_in, IsOverdrawnIn, IsOverdrawn}
use Rattle.fz_cumulative.proofs.Parts.{part_out}
use Rattle.fz_cumulative.proofs.Sharing.{MayBe, AllMayBe, usage_here, load_bounded, all_may_be, IsSetting, term_to}

-- ---- products

one_more : (u x : ℤ) → (u *ℤ (x +ℤ pos 1)) ≡ ((u *ℤ x) +ℤ u)
one_more u x = *ℤ_comm u (x +ℤ pos 1) ∙ ap (λ m. m *ℤ u) (+ℤ_one x) ∙ suc_ℤ-*ℤ x u ∙ ap (λ m. m +ℤ u) (*ℤ_comm x u)

products_rise : (m j p k : ℕ) → m * p ≤ (m + j) * (p + k)
products_rise m j p k = omega arith

products_below : (m n p q : ℕ) → m ≤ n → p ≤ q → m * p ≤ n * q
products_below m n p q to_n to_q =
    let e : n ≡ m + (n - m) = omega (arith, to_n) in
    let f : q ≡ p + (q - p) = omega (arith, to_q) in
    subst (λ (i : ℕ). m * p ≤ i * q) (sym e) (subst (λ (i : ℕ). m * p ≤ (m + (n - m)) * i) (sym f) (products_rise m (n - m) p (q - p)))

below_product : (u v x y : ℤ) → pos 0 ≤ℤ u → u ≤ℤ v → pos 0 ≤ℤ x → x ≤ℤ y → (u *ℤ x) ≤ℤ (v *ℤ y)
below_product (negsuc m) v x y from to from_x to_y = absurd (omega (arith, ints, from))
below_product (pos m) (negsuc n) x y from to from_x to_y = absurd (omega (arith, ints, to))
below_product (pos m) (pos n) (negsuc p) y from to from_x to_y = absurd (omega (arith, ints, from_x))
below_product (pos m) (pos n) (pos p) (negsuc q) from to from_x to_y = absurd (omega (arith, ints, to_y))
below_product (pos m) (pos n) (pos p) (pos q) from to from_x to_y =
    let h = products_below m n p q (omega (arith, ints, to)) (omega (arith, ints, to_y)) in
    rw (pos-*ℤ-pos m p, pos-*ℤ-pos n q) (omega (arith, ints, h))

-- ---- what tasks use at that many times from one on

abbrev used : ℕ → ℤ → Task → ℤ
used zero since task = pos 0
used (suc n) since task = used n since task +ℤ usage_at (since +ℤ pos n) task

abbrev drawn : ℕ → ℤ → List Task → ℤ
drawn zero since tasks = pos 0
drawn (suc n) since tasks = drawn n since tasks +ℤ load_at (since +ℤ pos n) tasks

drawn_none : (n : ℕ) (since : ℤ) → drawn n since [] ≡ pos 0
drawn_none zero since = refl
drawn_none (suc n) since = let e = drawn_none n since in omega (arith, ints, e)

drawn_more : (n : ℕ) (since : ℤ) (task : Task) (tasks : List Task) → drawn n since (task ∷ tasks) ≡ (used n since task +ℤ drawn n since tasks)
drawn_more zero since task tasks = refl
drawn_more (suc n) since task tasks = let e = drawn_more n since task tasks in omega (arith, ints, e)

drawn_bounded : (n : ℕ) (since high : ℤ) (tasks : List Task) → ((time : ℤ) → load_at time tasks ≤ℤ high) → drawn n since tasks ≤ℤ (high *ℤ pos n)
drawn_bounded zero since high tasks below = rw (*ℤ-zero high) (omega (arith, ints))
drawn_bounded (suc n) since high tasks below =
    let h = drawn_bounded n since high tasks below in
    let here = below (since +ℤ pos n) in
    let next : pos (suc n) ≡ (pos n +ℤ pos 1) = omega (arith, ints) in
    rw (next, one_more high (pos n)) (omega (arith, ints, h, here))

-- ---- it is what one uses, as long as it runs there

overlap_none : (since start duration : ℤ) → overlap since (since +ℤ pos 0) start duration ≡ pos 0
overlap_none since start duration = omega (arith, ints, clamps)

overlap_here : (since start duration : ℤ) (n : ℕ) → start ≤ℤ (since +ℤ pos n) → (since +ℤ pos n) <ℤ (start +ℤ duration)
    → overlap since (since +ℤ pos (suc n)) start duration ≡ (overlap since (since +ℤ pos n) start duration +ℤ pos 1)
overlap_here since start duration n begun lasting = omega (arith, ints, clamps, begun, lasting)

overlap_before : (since start duration : ℤ) (n : ℕ) → pos 0 ≤ℤ duration → (since +ℤ pos n) <ℤ start
    → overlap since (since +ℤ pos (suc n)) start duration ≡ overlap since (since +ℤ pos n) start duration
overlap_before since start duration n lasts before = omega (arith, ints, clamps, lasts, before)

overlap_behind : (since start duration : ℤ) (n : ℕ) → (start +ℤ duration) ≤ℤ (since +ℤ pos n)
    → overlap since (since +ℤ pos (suc n)) start duration ≡ overlap since (since +ℤ pos n) start duration
overlap_behind since start duration n behind = omega (arith, ints, clamps, behind)

abbrev IsUsed : ℤ → Task → ℕ → Type 0
IsUsed since task n = used n since task ≡ (task.usage *ℤ overlap since (since +ℤ pos n) task.start task.duration)

used_here : (since : ℤ) (task : Task) (n : ℕ) → task.start ≤ℤ (since +ℤ pos n) → (since +ℤ pos n) <ℤ (task.start +ℤ task.duration) → IsUsed since task n → IsUsed since task (suc n)
used_here since task n begun lasting e =
    let x = overlap since (since +ℤ pos n) task.start task.duration in
    let more = one_more task.usage x in
    rw (overlap_here since task.start task.duration n begun lasting, usage_here task (since +ℤ pos n) begun lasting, more, e) refl

used_still : (since : ℤ) (task : Task) (n : ℕ) → usage_at (since +ℤ pos n) task ≡ pos 0
    → overlap since (since +ℤ pos (suc n)) task.start task.duration ≡ overlap since (since +ℤ pos n) task.start task.duration → IsUsed since task n → IsUsed since task (suc n)
used_still since task n none same e = rw (same, none, ← e) (omega (arith, ints))

used_is : (since : ℤ) (task : Task) → IsTask task → (n : ℕ) → IsUsed since task n
used_is since task is zero = rw (overlap_none since task.start task.duration, *ℤ-zero task.usage) refl
used_is since task is (suc n) =
    let e = used_is since task is n in
    let time = since +ℤ pos n in
    by_lt_z time task.start
    (λ before. used_still since task n (part_out (closed task) time (λ h. let b = h.begun in omega (arith, ints, before, b))) (overlap_before since task.start task.duration n is.0 before) e)
    (λ begun. by_lt_z time (task.start +ℤ task.duration)
    (λ lasting. used_here since task n begun lasting e)
    (λ behind. used_still since task n (part_out (closed task) time (λ h. let b = h.lasting in omega (arith, ints, behind, b))) (overlap_behind since task.start task.duration n behind) e))

-- ---- what is known of a task is no more

overlap_known : (since until : ℤ) (known : OpenTask) (start : ℤ) → known.earliest ≤ℤ start → start ≤ℤ known.latest → least_overlap since until known ≤ℤ overlap since until start known.duration
overlap_known since until known start from to = omega (arith, ints, clamps, from, to)

overlap_longer : (since until start less more : ℤ) → less ≤ℤ more → overlap since until start less ≤ℤ overlap since until start more
overlap_longer since until start less more to = omega (arith, ints, clamps, to)

overlap_some : (since until : ℤ) (known : OpenTask) → pos 0 ≤ℤ least_overlap since until known
overlap_some since until known = omega (arith, ints, clamps)

energy_known : (since until : ℤ) (known : OpenTask) (task : Task) → IsSound known → MayBe known task
    → (known.usage *ℤ least_overlap since until known) ≤ℤ (task.usage *ℤ overlap since until task.start task.duration)
energy_known since until known task sound may =
    let a = overlap_known since until known task.start may.earliest may.latest in
    let b = overlap_longer since until task.start known.duration task.duration may.duration in
    below_product known.usage task.usage (least_overlap since until known) (overlap since until task.start task.duration) sound.1 may.usage
    (overlap_some since until known) (omega (arith, ints, a, b))

energy_drawn : (since : ℤ) (n : ℕ) (all : List OpenTask) (tasks : List Task) → AllByRecursion IsSound all → AllMayBe all tasks → AllByRecursion IsTask tasks
    → energy_in since (since +ℤ pos n) all ≤ℤ drawn n since tasks
energy_drawn since n [] [] sound may is = rw (drawn_none n since) (omega (arith, ints))
energy_drawn since n [] (task ∷ tasks) sound may is = absurd may
energy_drawn since n (known ∷ all) [] sound may is = absurd may
energy_drawn since n (known ∷ all) (task ∷ tasks) sound may is =
    let a : (known.usage *ℤ least_overlap since (since +ℤ pos n) known) ≤ℤ used n since task =
    rw (used_is since task is.0 n) (energy_known since (since +ℤ pos n) known task sound.0 may.0) in
    let b = energy_drawn since n all tasks sound.1 may.1 is.1 in
    rw (drawn_more n since task tasks) (omega (arith, ints, a, b))

-- ---- so no window is overdrawn

gap_of : (x y d : ℤ) → d ≡ (y -ℤ x) → x ≤ℤ y → (n : ℕ) × (y ≡ (x +ℤ pos n))
gap_of x y (pos n) e to = (n, omega (arith, ints, e))
gap_of x y (negsuc n) e to = absurd (omega (arith, ints, e, to))

within_bound : (since high : ℤ) (n : ℕ) (all : List OpenTask) (tasks : List Task) (bound : ℤ) → AllByRecursion IsSound all → AllMayBe all tasks → IsCumulative tasks bound → bound ≤ℤ high
    → energy_in since (since +ℤ pos n) all ≤ℤ (high *ℤ pos n)
within_bound since high n all tasks bound sound may is below =
    let a = energy_drawn since n all tasks sound may is.1 in
    let b = drawn_bounded n since high tasks (λ time. let l = load_bounded tasks bound is time in omega (arith, ints, l, below)) in
    omega (arith, ints, a, b)

never_over : (since until high : ℤ) (all : List OpenTask) (tasks : List Task) (bound : ℤ) → IsOverdrawnIn all high since until → AllByRecursion IsSound all → AllMayBe all tasks
    → IsCumulative tasks bound → bound ≤ℤ high → ⊥
never_over since until high all tasks bound over sound may is below =
    let g = gap_of since until (until -ℤ since) refl over.window in
    let n = g.0 in
    let width : (until -ℤ since) ≡ pos n = let e = g.1 in omega (arith, ints, e) in
    let h = within_bound since high n all tasks bound sound may is below in
    let passed = rw width at over.over in
    let at_end = subst (λ (end : ℤ). (high *ℤ pos n) <ℤ energy_in since end all) g.1 passed in
    omega (arith, ints, h, at_end)

pub never_overdrawn : (ds : List (List (ℤ × ℤ))) (ss dd us : List Term) (b : Term) (high : ℤ) (a : List ℤ) → IsSetting ds ss dd us b → high ≡ greatest (term_set ds b)
    → AllByRecursion IsSound (open_tasks ds ss dd us) → IsOverdrawn (open_tasks ds ss dd us) high → Within ds a → TasksShare ss dd us b a → ⊥
never_overdrawn ds ss dd us b high a set is_high sound over within h =
    never_over over.0 over.1 high (open_tasks ds ss dd us) (tasks_of (term_values a ss) (term_values a dd) (term_values a us)) (term_value a b) over.2 sound
    (all_may_be ds a ss dd us set.terms.starts set.terms.durations set.terms.usages set.domains within) h
    (subst (λ (limit : ℤ). term_value a b ≤ℤ limit) (sym is_high) (term_to ds a b set.terms.bound set.domains within))

-- ---- the lesser and the greater of two

pub least_first : (x y : ℤ) → x <ℤ y → x ≡ int_min x y
least_first x y below = omega (arith, ints, clamps, below)

pub least_second : (x y : ℤ) → y ≤ℤ x → y ≡ int_min x y
least_second x y below = omega (arith, ints, clamps, below)

pub greatest_second : (x y : ℤ) → x <ℤ y → y ≡ int_max x y
greatest_second x y below = omega (arith, ints, clamps, below)

pub greatest_first : (x y : ℤ) → y ≤ℤ x → x ≡ int_max x y
greatest_first x y below = omega (arith, ints, clamps, below)

-- ---- one task more

pub passed_one : (total one sum product behind rest all : ℤ) → (total +ℤ behind) ≡ all → behind ≡ (product +ℤ rest) → one ≡ product → sum ≡ (total +ℤ one) → (sum +ℤ rest) ≡ all
passed_one total one sum product behind rest all so_far more is added = omega (arith, ints, so_far, more, is, added)
