-- What is printed of a model that is split, or of which a part is asked for.
use Rattle.std.proofs.Common.{◌≡◌, ◌∙◌, ℕ, List, [], ◌++◌, Option, Some, None, Result, OnErr, refl, sym, ap, subst}
use Rattle.std.specs.Prelude.{OnOk, MatchOption}
use Rattle.std.proofs.lemmas.Result.{on_err_weaker, on_ok_weaker}
use Rattle.fz_spec.specs.Instance.{Instance}
use Rattle.fz_tree.specs.declared.decision.Decision.{Decision}
use Rattle.fz_part.specs.Parts.{task_of}
use Rattle.fz_split.specs.Splits.{IsSplit}
use Rattle.fz_cmd.specs.Meaning.{Options, AreForPart, SuitsPart}
use Rattle.fz_io.specs.Outside.{with_more}
use Rattle.fz_runs.specs.PartRuns.{IsPartRun, part_line}
use Rattle.fz_maker.specs.Taken.{TakesOne, TakesFrontOfOne}
use Rattle.fz_printer.specs.Texts.{TakesFront}
use Rattle.fz_printer.specs.declared.printing.Stop.{Stop}
use Rattle.fzn.specs.declared.part.Task.{Task}
use Rattle.fzn.specs.declared.status.Status.{Status}
use Rattle.fzn.specs.Asked.{IsRunOfPart, IsSplitText, PrintsAsked, split_text}
use Rattle.fzn.specs.Steps.{AskForSplit, Finishes, IsPartText, IsTaskOf, PrintsModel}
use Rattle.fzn.proofs.Outcomes.{finished}

-- ---- the options

no_part_at : (part : Option (List ℕ)) (o : Options) (items : ℕ) → o.generate ≡ Some items → MatchOption part (o.better ≡ None) (λ _. AreForPart o) → part ≡ None
no_part_at None o items is suits = refl
no_part_at (Some text) o items is suits = let none = suits.plain.generate in absurd (cc (is, none))

-- a model that is generated is run as a whole
pub no_part : (o : Options) (items : ℕ) → SuitsPart o → o.generate ≡ Some items → o.part ≡ None
no_part o items suits is = no_part_at o.part o items is suits

-- ---- a split

by_split : (part : Option (List ℕ)) (split : Option ℕ) (most : ℕ) (m : Instance) (o : Options) (printed : List ℕ) → part ≡ None → split ≡ Some most → IsSplitText m most printed → PrintsAsked part split m o printed
by_split part split most m o printed none is h = subst (λ (t : Option (List ℕ)). PrintsAsked t split m o printed) (sym none) (subst (λ (n : Option ℕ). PrintsAsked None n m o printed) (sym is) h)

pub split_printed : {T : Type 0} (printed : Result T Stop) (s : Status) (m : Instance) (most : ℕ) (ps : List (List Decision)) (o : Options) (before middle after : Option (List ℕ)) (flushed c d : ℕ) → AskForSplit most o → IsSplit m most ps
    → OnOk printed (middle ≡ with_more before (split_text ps)) → OnErr printed (TakesFront (split_text ps) before middle) → after ≡ middle → Finishes printed s after flushed c d → PrintsModel s m o before after
split_printed printed s m most ps o before middle after flushed c d asked split whole front same finishes text reads =
    finished (λ u. u ≡ split_text ps) text o
    (λ u is. record { model = m; accepted = reads; run = by_split o.part o.split most m o u asked.part asked.split (record { parts = ps; split = split; text = is }) })
    printed s before middle after flushed c d
    (on_ok_weaker printed (λ taken. record { text = split_text ps; is = refl; taken = taken }) whole)
    (on_err_weaker printed (λ f. record { text = split_text ps; is = refl; front = f }) front)
    same finishes

-- ---- a part

by_part : (part : Option (List ℕ)) (split : Option ℕ) (text : List ℕ) (m : Instance) (o : Options) (printed : List ℕ) → part ≡ Some text → IsRunOfPart m text o printed → PrintsAsked part split m o printed
by_part part split text m o printed is h = subst (λ (t : Option (List ℕ)). PrintsAsked t split m o printed) (sym is) h

run_of_part : (m : Instance) (p : List Decision) (o : Options) (printed : List ℕ) (t : IsPartText p (task_of m p o.better) o printed) → IsPartRun m p o.better o t.task.listed printed
run_of_part m p o printed t = record { ending = t.task.ending; run = t.task.run; text = t.text ∙ ap (λ u. part_line p o.better ++ u) t.task.text }

is_run_of_part : (m : Instance) (text : List ℕ) (o : Options) (task : Task) (printed : List ℕ) → IsTaskOf m text o.better task → IsPartText task.part task.model o printed → IsRunOfPart m text o printed
is_run_of_part m text o task printed is t =
    let own = subst (λ (x : Instance). IsPartText task.part x o printed) is.model t in
    record {
      task = record { part = task.part; of_model = is.of_model; is = is.is; goal = is.goal; few = is.few };
      listed = own.task.listed;
      run = run_of_part m task.part o printed own;
    }

pub part_printed : {T : Type 0} (printed : Result T Stop) (s : Status) (m : Instance) (part : List ℕ) (task : Task) (o : Options) (before middle after : Option (List ℕ)) (flushed c d : ℕ) → o.part ≡ Some part → IsTaskOf m part o.better task
    → OnOk printed (TakesOne (IsPartText task.part task.model o) before middle) → OnErr printed (TakesFrontOfOne (IsPartText task.part task.model o) before middle) → after ≡ middle → Finishes printed s after flushed c d → PrintsModel s m o before after
part_printed printed s m part task o before middle after flushed c d asked is whole front same finishes text reads =
    finished (IsPartText task.part task.model o) text o
    (λ u t. record { model = m; accepted = reads; run = by_part o.part o.split part m o u asked (is_run_of_part m part o task u is t) })
    printed s before middle after flushed c d whole front same finishes
