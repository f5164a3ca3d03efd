-- Portfolios as the code says them: p is the portfolio by its fields, k the number of an asset, read its core as it is read there.
use Rattle.std.proofs.Common.{◌≡◌, ◌≢◌, ◌∙◌, ℕ, ◌<◌, ◌≤◌, ◌+◌, ◌^◌, List, [], ◌∷◌, ◌++◌, arith, length, map, set, get_or, ap, sym, subst, refl, Option, Some, None, inl, inr, IfSome, IfOk, Result, Ok, Err}
use Rattle.std.specs.Prelude.{ℤ, OnErr, unwrap_or}
use Rattle.std.specs.List.{AllByRecursion, range_with_len}
use Rattle.std.proofs.lemmas.List.{length-set, set-get_or}
use Rattle.std.proofs.lemmas.Option.{slice_get_read, get_or_from_slice_get}
use Rattle.std.proofs.lemmas.List.FromFn.{map-range_with_len_more, length-map-range_with_len}
use Rattle.std.proofs.lemmas.Result.{IfOk-weaker, on_err_weaker}
use Rattle.fz_sets.proofs.Lists.{all_at}
use Rattle.fz_spec.specs.Instance.{Instance, Satisfies}
use Rattle.fz_tree.specs.declared.mode.Mode.{Mode}
use Rattle.fz_tree.specs.declared.mode.Mode.TheVariants.{All, Rows, Best}
use Rattle.fz_tree.specs.Better.{IsModeOf, Betters}
use Rattle.fz_tree.specs.Book.{Book, incumbent_of, incumbent}
use Rattle.fz_tree.proofs.Books.{all_set, closed_is_best}
use Rattle.fz_branch.specs.Plans.{plan_asset}
use Rattle.fz_book.specs.Offering.{Offers}
use Rattle.fz_book.specs.declared.offered.Offered.{Offered}
use Rattle.fz_book.specs.declared.offered.Offered.TheVariants as offered
use Rattle.fz_machine.specs.declared.event.Event.{Event}
use Rattle.fz_machine.specs.declared.event.Answer.{Answer}
use Rattle.fz_machine.specs.Cores.{Core, CoreLaw, starting_by, told}
use Rattle.fz_machine.specs.Events.{Refuses}
use Rattle.fz_machine.specs.Runs.{Answers}
use Rattle.fz_machine.proofs.Keeping.{refusal_keeps}
use Rattle.fz_machine.proofs.Reaching.{answer_keeps, offer_keeps, start_law}
use Rattle.fz_machine.specs.declared.shared.Shared.{Shared}
use Rattle.fz_machine.specs.declared.shared.Shared.TheVariants.{Better, NotBetter}
use Rattle.fz_machine.specs.Portfolios.{Portfolio, PortfolioLaw, Call, OnAsset, Between, Turns, Runs, Reaches, IsBestWhereClosed, gathered, IsCoreOf, AppliesAt, RefusesAt, assets_of, IsAhead, IsIncumbentAt, IsOffered, IsOfferedAt, Shares, core_at, with_core}
use Rattle.fz_machine.proofs.Going.{IsOfOne, answers_of, refuses_of}

-- ---- one core

-- as the code of an offer says it
pub offer_law : (s : Core) (a : List ℤ) (o : Offered) (b : Book) → CoreLaw s → Offers o s.book a b → CoreLaw (record { workers = s.workers; book = b })
offer_law s a offered.Better b law offers =
    subst (λ (x : Book). CoreLaw (record { workers = s.workers; book = x })) (sym offers.1) (offer_keeps s a law offers.0.best offers.0.satisfies offers.0.better)
offer_law s a (offered.NotBetter x) b law offers =
    subst (λ (y : Book). CoreLaw (record { workers = s.workers; book = y })) (sym offers.2) law

pub offer_better : (s old : Core) (a : List ℤ) (o : Offered) (b : Book) → s ≡ old → o ≡ offered.Better → Offers o s.book a b → IsOffered Better a old (record { workers = s.workers; book = b })
offer_better s old a o b view better offers =
    let of_s : Offers offered.Better s.book a b = subst (λ (x : Offered). Offers x s.book a b) better offers in
    let core : Book → Core = λ x. record { workers = s.workers; book = x } in
    subst (λ (x : Core). IsOffered Better a x (core b)) view (of_s.0.better, ap core of_s.1)

pub offer_none : (s old : Core) (a x : List ℤ) (o : Offered) (b : Book) → s ≡ old → old.book.mode ≡ Best → Satisfies old.book.model a → o ≡ offered.NotBetter x → Offers o s.book a b → IsOffered NotBetter a old (record { workers = s.workers; book = b })
offer_none s old a x o b view best satisfies none offers =
    let of_s : Offers (offered.NotBetter x) s.book a b = subst (λ (y : Offered). Offers y s.book a b) none offers in
    let core : Book → Core = λ y. record { workers = s.workers; book = y } in
    subst (λ (y : Core). IsOffered NotBetter a y (core b)) view (
      λ better. of_s.0 (record {
        best = ap (λ (y : Core). y.book.mode) view ∙ best;
        satisfies = subst (λ (y : Core). Satisfies y.book.model a) (sym view) satisfies;
        better = better;
      }),
      ap core of_s.2,
    )

-- what an offer makes of a core that keeps its law
offered_law : (shared : Shared) (a : List ℤ) (s new : Core) → CoreLaw s → s.book.mode ≡ Best → Satisfies s.book.model a → IsOffered shared a s new → CoreLaw new
offered_law Better a s new law best satisfies offered = subst CoreLaw (sym offered.1) (offer_keeps s a law best satisfies offered.0)
offered_law NotBetter a s new law best satisfies offered = subst CoreLaw (sym offered.1) law

offered_of : (shared : Shared) (a : List ℤ) (s new : Core) → IsOffered shared a s new → IsOfOne s new
offered_of Better a s new offered = record { model = ap (λ (x : Core). x.book.model) offered.1; mode = ap (λ (x : Core). x.book.mode) offered.1 }
offered_of NotBetter a s new offered = record { model = ap (λ (x : Core). x.book.model) offered.1; mode = ap (λ (x : Core). x.book.mode) offered.1 }

-- ---- one asset

pub there : (p : Portfolio) (k : ℕ) (read : Core) → k < length p.cores → read ≡ get_or p.cores k read → core_at p k ≡ Some read
there p k read within is = slice_get_read p.cores (length p.cores) k read refl within is

pub core_of : (p : Portfolio) (k : ℕ) (s : Core) → PortfolioLaw p → core_at p k ≡ Some s → IsCoreOf p.model p.mode s
core_of p k s law at = all_at (IsCoreOf p.model p.mode) p.cores k s law.cores at

same_core : (p : Portfolio) (k : ℕ) (s t : Core) → core_at p k ≡ Some s → core_at p k ≡ Some t → t ≡ s
same_core p k s t one two = ap (λ (o : Option Core). unwrap_or o s) (sym two ∙ one)

-- another core of the same model stands there
pub kept : (p : Portfolio) (k : ℕ) (s new : Core) → PortfolioLaw p → core_at p k ≡ Some s → CoreLaw new → IsOfOne s new → PortfolioLaw (with_core p k new)
kept p k s new law at of_new same =
    let of_s = core_of p k s law at in
    record {
      several = rw (length-set p.cores k new) law.several;
      few = rw (length-set p.cores k new) law.few;
      mode = law.mode;
      cores = all_set (IsCoreOf p.model p.mode) p.cores k new law.cores (record { law = of_new; model = same.model ∙ of_s.model; mode = same.mode ∙ of_s.mode });
    }

-- the same one
pub unchanged : (p old : Portfolio) (k : ℕ) (read new : Core) → p ≡ old → read ≡ get_or p.cores k read → new ≡ read → with_core p k new ≡ old
unchanged p old k read new view is same =
    let made : List Core → Portfolio = λ cs. record { model = p.model; mode = p.mode; cores = cs } in
    ap made (ap (set p.cores k) (same ∙ is) ∙ set-get_or p.cores k read) ∙ view

-- ---- events

pub apply_law : {E : Type 0} (p : Portfolio) (k : ℕ) (event : Event) (read new : Core) (r : Result Answer E) → PortfolioLaw p → k < length p.cores → read ≡ get_or p.cores k read → IfOk r (λ a. Answers a event read new) → OnErr r (Refuses event read new)
    → PortfolioLaw (with_core p k new)
apply_law p k event read new (Ok a) law within is ok err =
    let at = there p k read within is in
    kept p k read new law at (answer_keeps a event read new (core_of p k read law at).law ok) (answers_of a event read new ok)
apply_law p k event read new (Err e) law within is ok err =
    let at = there p k read within is in
    kept p k read new law at (refusal_keeps event read new (core_of p k read law at).law err) (refuses_of event read new err)

pub apply_ok : {E : Type 0} (p old : Portfolio) (k : ℕ) (event : Event) (read new : Core) (r : Result Answer E) → p ≡ old → k < length p.cores → read ≡ get_or p.cores k read → IfOk r (λ a. Answers a event read new)
    → IfOk r (λ a. AppliesAt k event a old (with_core p k new))
apply_ok p old k event read new r view within is ok =
    IfOk-weaker r (λ a. Answers a event read new) (λ a. AppliesAt k event a old (with_core p k new)) (λ a h. record {
      core = read;
      at = subst (λ (q : Portfolio). core_at q k ≡ Some read) view (there p k read within is);
      changed = new;
      answers = h;
      is = ap (λ (q : Portfolio). with_core q k new) view;
    }) ok

pub apply_err : {E : Type 0} (p old : Portfolio) (k : ℕ) (event : Event) (read new : Core) (r : Result Answer E) → p ≡ old → k < length p.cores → read ≡ get_or p.cores k read → OnErr r (Refuses event read new)
    → OnErr r (RefusesAt k event old (with_core p k new))
apply_err p old k event read new r view within is err = on_err_weaker r (λ h. record {
  core = read;
  at = subst (λ (q : Portfolio). core_at q k ≡ Some read) view (there p k read within is);
  changed = new;
  refuses = h;
  is = ap (λ (q : Portfolio). with_core q k new) view;
}) err

-- ---- offers

-- what is asked of the core that an offer goes to
pub asked : (p old : Portfolio) (k : ℕ) (read : Core) (a : List ℤ) → PortfolioLaw p → p ≡ old → k < length p.cores → read ≡ get_or p.cores k read → old.mode ≡ Best → Satisfies old.model a → (read.book.mode ≡ Best) × Satisfies read.book.model a
asked p old k read a law view within is best satisfies =
    let of_read = core_of p k read law (there p k read within is) in (
      of_read.mode ∙ ap (λ (q : Portfolio). q.mode) view ∙ best,
      subst (λ (m : Instance). Satisfies m a) (sym (of_read.model ∙ ap (λ (q : Portfolio). q.model) view)) satisfies,
    )

pub offered_kept : {E : Type 0} (p : Portfolio) (k : ℕ) (read new : Core) (a : List ℤ) (r : Result Shared E) → PortfolioLaw p → k < length p.cores → read ≡ get_or p.cores k read → (read.book.mode ≡ Best) × Satisfies read.book.model a
    → IfOk r (λ shared. IsOffered shared a read new) → OnErr r (new ≡ read) → PortfolioLaw (with_core p k new)
offered_kept p k read new a (Ok shared) law within is known ok err =
    let at = there p k read within is in
    kept p k read new law at (offered_law shared a read new (core_of p k read law at).law known.0 known.1 ok) (offered_of shared a read new ok)
offered_kept p k read new a (Err e) law within is known ok err = subst PortfolioLaw (sym (unchanged p p k read new refl is err)) law

pub offered_ok : {E : Type 0} (p old : Portfolio) (k : ℕ) (read new : Core) (a : List ℤ) (r : Result Shared E) → p ≡ old → k < length p.cores → read ≡ get_or p.cores k read → IfOk r (λ shared. IsOffered shared a read new)
    → IfOk r (λ shared. IsOfferedAt k a shared old (with_core p k new))
offered_ok p old k read new a r view within is ok =
    IfOk-weaker r (λ shared. IsOffered shared a read new) (λ shared. IsOfferedAt k a shared old (with_core p k new)) (λ shared h. record {
      core = read;
      at = subst (λ (q : Portfolio). core_at q k ≡ Some read) view (there p k read within is);
      changed = new;
      offered = h;
      is = ap (λ (q : Portfolio). with_core q k new) view;
    }) ok

pub offered_err : {E : Type 0} (p old : Portfolio) (k : ℕ) (read new : Core) (r : Result Shared E) → p ≡ old → read ≡ get_or p.cores k read → OnErr r (new ≡ read) → OnErr r (with_core p k new ≡ old)
offered_err p old k read new r view is err = on_err_weaker r (unchanged p old k read new view is) err

-- ---- shares

best_by : (mode : Mode) (recorded : List (List ℤ)) (a : List ℤ) → incumbent_of mode recorded ≡ Some a → mode ≡ Best
best_by All recorded a is = absurd (cc is)
best_by Rows recorded a is = absurd (cc is)
best_by Best recorded a is = refl

sound_by : (m : Instance) (mode : Mode) (recorded : List (List ℤ)) (a : List ℤ) → AllByRecursion (Satisfies m) recorded → incumbent_of mode recorded ≡ Some a → Satisfies m a
sound_by m All recorded a sound is = absurd (cc is)
sound_by m Rows recorded a sound is = absurd (cc is)
sound_by m Best recorded a sound is = all_at (Satisfies m) recorded _ a sound is

-- what the book of an asset knows satisfies the model of all
pub known_by : (p : Portfolio) (k : ℕ) (s : Core) (best : Option (List ℤ)) → PortfolioLaw p → core_at p k ≡ Some s → incumbent s.book ≡ best → IfSome best (λ a. (p.mode ≡ Best) × Satisfies p.model a)
known_by p k s None law at is = tt
known_by p k s (Some a) law at is =
    let of_s = core_of p k s law at in (
      sym of_s.mode ∙ best_by s.book.mode s.book.recorded a is,
      subst (λ (m : Instance). Satisfies m a) of_s.model (sound_by s.book.model s.book.mode s.book.recorded a of_s.law.book.sound is),
    )

-- an offer of what is known
share_of : (shared : Shared) (j k : ℕ) (a : List ℤ) (o : Option (List ℤ)) (old new : Portfolio) → IsIncumbentAt j old o → o ≡ Some a → IsOfferedAt k a shared old new → Shares shared j k old new
share_of Better j k a o old new best is offers =
    (a, offers.core, record { from = best.core; at_from = best.at; at_to = offers.at; known = best.is ∙ is; better = offers.offered.0 }, offers.is ∙ ap (with_core old k) offers.offered.1)
share_of NotBetter j k a o old new best is offers = (
  λ b to ahead. offers.offered.0 (subst (λ (s : Core). Betters s.book.model a (incumbent s.book)) (same_core old k offers.core to offers.at ahead.at_to)
      (subst (λ (x : List ℤ). Betters to.book.model x (incumbent to.book)) (same b to ahead) ahead.better)),
  offers.is ∙ ap (with_core old k) offers.offered.1 ∙ stays,
)
  where
    same : (b : List ℤ) (to : Core) → IsAhead j k old b to → b ≡ a
    same b to ahead = ap (λ (x : Option (List ℤ)). unwrap_or x b)
        (sym ahead.known ∙ ap (λ (s : Core). incumbent s.book) (same_core old j best.core ahead.from best.at ahead.at_from) ∙ best.is ∙ is)

    stays : with_core old k offers.core ≡ old
    stays = unchanged old old k offers.core offers.core refl (sym (get_or_from_slice_get old.cores k offers.core offers.core offers.at)) refl

pub shares : {E : Type 0} (r : Result Shared E) (j k : ℕ) (a : List ℤ) (o : Option (List ℤ)) (old new : Portfolio) → IsIncumbentAt j old o → o ≡ Some a → IfOk r (λ shared. IsOfferedAt k a shared old new) → IfOk r (λ shared. Shares shared j k old new)
shares r j k a o old new best is offers = IfOk-weaker r (λ shared. IsOfferedAt k a shared old new) (λ shared. Shares shared j k old new) (λ shared h. share_of shared j k a o old new best is h) offers

-- or there is none
pub shares_nothing : (j k : ℕ) (o : Option (List ℤ)) (old : Portfolio) → IsIncumbentAt j old o → o ≡ None → Shares NotBetter j k old old
shares_nothing j k o old best is = (
  λ b to ahead.
      let bad : Some b ≡ None = sym ahead.known ∙ ap (λ (s : Core). incumbent s.book) (same_core old j best.core ahead.from best.at ahead.at_from) ∙ best.is ∙ is in
      absurd (cc bad),
  refl,
)

-- ---- the start

-- so many assets, and one more
pub assets_more : (m : Instance) (mode : Mode) (n workers commit adaptive : ℕ) (s : Core) (before after : List Core) → after ≡ before ++ s ∷ [] → before ≡ assets_of m mode n workers commit adaptive → s ≡ starting_by m mode (plan_asset m n) workers commit adaptive
    → after ≡ assets_of m mode (n + 1) workers commit adaptive
assets_more m mode n workers commit adaptive s before after grows is same =
    let one : ℕ → Core = λ k. starting_by m mode (plan_asset m k) workers commit adaptive in
    let zeroth : 0 + n ≡ n = omega arith in
    grows ∙ ap (λ (l : List Core). l ++ s ∷ []) is ∙ ap (λ (x : Core). map one (range_with_len 0 n) ++ x ∷ []) same ∙ sym (map-range_with_len_more one 0 n n zeroth)

all_start : (m : Instance) (mode : Mode) (workers commit adaptive : ℕ) (ks : List ℕ) → IsModeOf m.goal mode → 1 ≤ workers → workers < 2 ^ 32 → 1 ≤ commit → 1 ≤ adaptive
    → AllByRecursion (IsCoreOf m mode) (map (λ k. starting_by m mode (plan_asset m k) workers commit adaptive) ks)
all_start m mode workers commit adaptive [] own several numbered one two = tt
all_start m mode workers commit adaptive (k ∷ ks) own several numbered one two = (
  record { law = start_law m mode (plan_asset m k) workers commit adaptive own several numbered one two; model = refl; mode = refl },
  all_start m mode workers commit adaptive ks own several numbered one two,
)

pub gathered_law : (m : Instance) (mode : Mode) (n workers commit adaptive : ℕ) (cores : List Core) → IsModeOf m.goal mode → mode ≢ Rows → (1 ≤ n) × (n ≤ 8) → 1 ≤ workers → workers < 2 ^ 32 → 1 ≤ commit → 1 ≤ adaptive → cores ≡ assets_of m mode n workers commit adaptive
    → PortfolioLaw (record { model = m; mode = mode; cores = cores })
gathered_law m mode n workers commit adaptive cores own other some several numbered one two is =
    let size = length-map-range_with_len (λ k. starting_by m mode (plan_asset m k) workers commit adaptive) 0 n in
    let made : List Core → Portfolio = λ cs. record { model = m; mode = mode; cores = cs } in
    subst (λ (cs : List Core). PortfolioLaw (made cs)) (sym is) (record {
      several = rw size some.0;
      few = rw size some.1;
      mode = other;
      cores = all_start m mode workers commit adaptive (range_with_len 0 n) own several numbered one two;
    })

-- ---- many calls

applied_kept : (k : ℕ) (event : Event) (answer : Answer) (old new : Portfolio) → PortfolioLaw old → AppliesAt k event answer old new → PortfolioLaw new
applied_kept k event answer old new law a =
    subst PortfolioLaw (sym a.is) (kept old k a.core a.changed law a.at (answer_keeps answer event a.core a.changed (core_of old k a.core law a.at).law a.answers) (answers_of answer event a.core a.changed a.answers))

refused_kept : (k : ℕ) (event : Event) (old new : Portfolio) → PortfolioLaw old → RefusesAt k event old new → PortfolioLaw new
refused_kept k event old new law r =
    subst PortfolioLaw (sym r.is) (kept old k r.core r.changed law r.at (refusal_keeps event r.core r.changed (core_of old k r.core law r.at).law r.refuses) (refuses_of event r.core r.changed r.refuses))

shared_kept : (shared : Shared) (j k : ℕ) (old new : Portfolio) → PortfolioLaw old → Shares shared j k old new → PortfolioLaw new
shared_kept Better j k old new law s =
    let a = s.0 in
    let to = s.1 in
    let ahead = s.2 in
    let known = known_by old j ahead.from (Some a) law ahead.at_from ahead.known in
    let of_to = core_of old k to law ahead.at_to in
    let satisfies : Satisfies to.book.model a = subst (λ (m : Instance). Satisfies m a) (sym of_to.model) known.1 in
    subst PortfolioLaw (sym s.3) (kept old k to (told to a) law ahead.at_to (offer_keeps to a of_to.law (of_to.mode ∙ known.0) satisfies ahead.better) (record { model = refl; mode = refl }))
shared_kept NotBetter j k old new law s = subst PortfolioLaw (sym s.1) law

turn_kept : (call : Call) (old new : Portfolio) → PortfolioLaw old → Turns call old new → PortfolioLaw new
turn_kept (OnAsset k event) old new law (inl a) = applied_kept k event a.0 old new law a.1
turn_kept (OnAsset k event) old new law (inr r) = refused_kept k event old new law r
turn_kept (Between j k) old new law (inl s) = shared_kept s.0 j k old new law s.1
turn_kept (Between j k) old new law (inr same) = subst PortfolioLaw (sym same) law

runs_kept : (calls : List Call) (old new : Portfolio) → PortfolioLaw old → Runs calls old new → PortfolioLaw new
runs_kept [] old new law same = subst PortfolioLaw (sym same) law
runs_kept (call ∷ calls) old new law runs = runs_kept calls runs.0 new (turn_kept call old runs.0 law runs.1) runs.2

pub reached_law : (p : Portfolio) → Reaches p → PortfolioLaw p
reached_law p r =
    runs_kept r.calls (gathered r.model r.mode r.assets r.workers r.commit_distance r.adaptive_distance) p
    (gathered_law r.model r.mode r.assets r.workers r.commit_distance r.adaptive_distance (assets_of r.model r.mode r.assets r.workers r.commit_distance r.adaptive_distance) r.own_mode r.no_rows r.some r.several r.numbered
    r.distances.0 r.distances.1 refl) r.runs

pub recorded_satisfy : (p : Portfolio) (k : ℕ) (s : Core) → PortfolioLaw p → core_at p k ≡ Some s → AllByRecursion (Satisfies p.model) s.book.recorded
recorded_satisfy p k s law at =
    let of_s = core_of p k s law at in
    subst (λ (m : Instance). AllByRecursion (Satisfies m) s.book.recorded) of_s.model of_s.law.book.sound

pub best_where_closed : (s : Core) → CoreLaw s → IsBestWhereClosed s.book
best_where_closed s law = λ best closed a satisfies better. closed_is_best s.book a law.book best closed satisfies better
