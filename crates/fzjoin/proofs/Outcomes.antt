-- What the steps of a call come to.
use Rattle.std.proofs.Common.{◌≡◌, inl, inr, ℕ, ◌+◌, ◌≤◌, ◌<◌, Bool, Result, Ok, Err, List, [], ◌++◌, Option, None, Some, refl, sym, subst, ◌∙◌, ap, arith, length, append-nil}
use Rattle.std.proofs.lemmas.List.{take_all}
use Rattle.fz_spec.specs.Instance.{Instance}
use Rattle.fz_io.specs.Whole.{AllRead}
use Rattle.fz_io.specs.Outside.{with_more, AllFlushed, with_more-with_more, with_more-none}
use Rattle.fz_shown.specs.Shown.{ShowsAll}
use Rattle.fz_join.specs.Joins.{ArePartsOf, Ran, parts_text}
use Rattle.fz_join.specs.Joining.{AreBlocks, Joining, HaveRun}
use Rattle.fz_join.specs.Joining as joining
use Rattle.fz_join.specs.declared.lack.Lack.{Lack}
use Rattle.fz_join.specs.declared.lack.Lack.TheVariants as lack
use Rattle.fzjoin.specs.declared.status.JoinStatus.{JoinStatus}
use Rattle.fzjoin.specs.declared.status.JoinStatus.TheVariants.{Done, Usage, SourceFault, SinkFault, Refused, NoMemory, NoParts, SameParts, CutOff, Part, Bound, NoSolution}
use Rattle.fzjoin.specs.Answers.{Files, AreRead, Answers, HasItsCause, IsCutShort, IsEnded, IsFlushed, IsReadOf, TakesMore}
use Rattle.fzjoin.specs.Steps.{Ends, Finishes, HasSourceCause, IsBroken, IsCut, IsPassed, IsQuiet, IsReady, IsTold, IsUnready, ended_as}

-- all bytes of a file within the limit
pub read_of_all : (limit : ℕ) (file after : Option (List ℕ)) (got : List ℕ) → AllRead limit got file after → IsReadOf limit file got
read_of_all limit None after got r = tt
read_of_all limit (Some t) after got r =
    let within : length t ≤ limit + 1 = omega (arith, r.within, ap length r.all) in r.all ∙ sym (take_all (limit + 1) t within)

-- nothing more is some text
pub nothing : (before after : Option (List ℕ)) → after ≡ before → TakesMore before after
nothing before after same = ([], same ∙ sym (with_more-none before))

-- some text, and some text more
pub more_still : (before between after : Option (List ℕ)) → TakesMore before between → TakesMore between after → TakesMore before after
more_still before between after some more =
    (some.0 ++ more.0, more.1 ∙ ap (λ t. with_more t more.0) some.1 ∙ with_more-with_more before some.0 more.0)

-- all of a text was taken, and the flush failed
pub unflushed : (text : List ℕ) (before between after : Option (List ℕ)) (c m d : ℕ) → after ≡ between → between ≡ with_more before text → m ≡ c → m < d → IsCut SinkFault before after c d
unflushed text before between after c m d same taken none more = record {
  status = refl;
  more = (text, same ∙ taken);
  counts = omega (arith, none, more);
}

at_status : (s t : JoinStatus) (all : Bool) (f : Files) (before after : Option (List ℕ)) (flushed a b c d : ℕ) → s ≡ t → Ends t all f before after flushed a b c d → Ends s all f before after flushed a b c d
at_status s t all f before after flushed a b c d e ends = subst (λ (u : JoinStatus). Ends u all f before after flushed a b c d) (sym e) ends

-- from a count of the source that is the same
pub since : (status : JoinStatus) (all : Bool) (f : Files) (before after : Option (List ℕ)) (flushed a m b c d : ℕ) → m ≡ a → Ends status all f before after flushed m b c d → Ends status all f before after flushed a b c d
since status all f before after flushed a m b c d e ends = subst (λ (n : ℕ). Ends status all f before after flushed n b c d) e ends

-- ---- no join begins

quiet : (meant result : JoinStatus) (all : Bool) (f : Files) (before after : Option (List ℕ)) (flushed a b c d : ℕ) → Answers meant all f before after → IsFlushed meant after flushed → (d ≡ c → HasItsCause meant a b c d) → IsQuiet meant result before after c d
    → Ends result all f before after flushed a b c d
quiet meant result all f before after flushed a b c d answers whole cause is =
    at_status result meant all f before after flushed a b c d is.status (record { answers = answers; whole = whole; cause = cause is.counts })

cut : (result : JoinStatus) (all : Bool) (f : Files) (before after : Option (List ℕ)) (flushed a b c d : ℕ) → b ≡ a → IsCut result before after c d → Ends result all f before after flushed a b c d
cut result all f before after flushed a b c d source is =
    at_status result SinkFault all f before after flushed a b c d is.status (record { answers = is.more; whole = tt; cause = (source, is.counts) })

pub told : (meant result : JoinStatus) (all : Bool) (f : Files) (before after : Option (List ℕ)) (flushed a b c d : ℕ) → IsUnready meant f → HasSourceCause meant a b → IsTold meant result before after flushed c d
    → Ends result all f before after flushed a b c d
told Done result all f before after flushed a b c d unready source is = absurd source
told Usage result all f before after flushed a b c d unready source is = absurd source
told SourceFault result all f before after flushed a b c d unready source is =
    quiet SourceFault result all f before after flushed a b c d (nothing before after is.taken) tt (λ same. (source, same)) is
told SinkFault result all f before after flushed a b c d unready source is = absurd source
told (Refused r) result all f before after flushed a b c d unready source (inl (inl is)) =
    at_status result (Refused r) all f before after flushed a b c d is.status (record { answers = (unready, is.taken); whole = is.whole; cause = (source, is.counts) })
told (Refused r) result all f before after flushed a b c d unready source (inl (inr is)) = cut result all f before after flushed a b c d source is
told (Refused r) result all f before after flushed a b c d unready source (inr is) =
    quiet NoMemory result all f before after flushed a b c d (nothing before after is.taken) tt (λ same. (source, same)) is
told NoMemory result all f before after flushed a b c d unready source is =
    quiet NoMemory result all f before after flushed a b c d (nothing before after is.taken) tt (λ same. (source, same)) is
told (NoParts line) result all f before after flushed a b c d unready source is =
    quiet (NoParts line) result all f before after flushed a b c d (unready, is.taken) tt (λ same. (source, same)) is
told SameParts result all f before after flushed a b c d unready source is =
    quiet SameParts result all f before after flushed a b c d (unready, is.taken) tt (λ same. (source, same)) is
told CutOff result all f before after flushed a b c d unready source is = absurd source
told (Part place) result all f before after flushed a b c d unready source is = absurd source
told Bound result all f before after flushed a b c d unready source is = absurd source
told NoSolution result all f before after flushed a b c d unready source is = absurd source

-- ---- a join breaks off

pub broken : (status : JoinStatus) (all : Bool) (f : Files) (before after : Option (List ℕ)) (flushed a b c d : ℕ) → TakesMore before after → IsBroken status a b c d → Ends status all f before after flushed a b c d
broken Done all f before after flushed a b c d more is = absurd is
broken Usage all f before after flushed a b c d more is = absurd is
broken SourceFault all f before after flushed a b c d more is = record { answers = more; whole = tt; cause = is }
broken SinkFault all f before after flushed a b c d more is = record { answers = more; whole = tt; cause = is }
broken (Refused r) all f before after flushed a b c d more is = absurd is
broken NoMemory all f before after flushed a b c d more is = record { answers = more; whole = tt; cause = is }
broken (NoParts line) all f before after flushed a b c d more is = absurd is
broken SameParts all f before after flushed a b c d more is = absurd is
broken CutOff all f before after flushed a b c d more is = absurd is
broken (Part place) all f before after flushed a b c d more is = absurd is
broken Bound all f before after flushed a b c d more is = absurd is
broken NoSolution all f before after flushed a b c d more is = absurd is

-- ---- a join ends

-- the answer, by how the join ended
ended : (answer : Result (Unit {0}) Lack) (all : Bool) (f : Files) (before after : Option (List ℕ)) (flushed a b c d : ℕ) → IsEnded answer all f before after → AllFlushed after flushed → b ≡ a → d ≡ c → Ends (ended_as answer) all f before after flushed a b c d
ended (Ok done) all f before after flushed a b c d is whole source sink = record { answers = is; whole = whole; cause = (source, sink) }
ended (Err lack.CutOff) all f before after flushed a b c d is whole source sink = record { answers = is; whole = whole; cause = (source, sink) }
ended (Err (lack.Part place)) all f before after flushed a b c d is whole source sink = record { answers = is; whole = whole; cause = (source, sink) }
ended (Err lack.Bound) all f before after flushed a b c d is whole source sink = record { answers = is; whole = whole; cause = (source, sink) }
ended (Err lack.NoSolution) all f before after flushed a b c d is whole source sink = record { answers = is; whole = whole; cause = (source, sink) }

cut_short : (answer : Result (Unit {0}) Lack) (m : Instance) (printed more : List ℕ) → joining.IsQuiet answer more → AreBlocks m printed → IsCutShort answer m (printed ++ more)
cut_short (Ok done) m printed more quiet blocks = tt
cut_short (Err lack) m printed more quiet blocks = subst (AreBlocks m) (sym (ap (λ t. printed ++ t) quiet ∙ append-nil printed)) blocks

-- what a join says that began, read the texts, and ended so
whole_join : (answer : Result (Unit {0}) Lack) (all : Bool) (f : Files) (old new : Joining) (before between after : Option (List ℕ)) (more : List ℕ) → IsReady all f old → IsPassed old new f.texts before between → after ≡ with_more between more
    → joining.IsQuiet answer more → AreBlocks new.model new.printed → (ShowsAll new.model → joining.IsSound answer new.model (new.printed ++ more)) → ((rs : List Ran) → HaveRun new rs → joining.Answers answer new (new.printed ++ more) rs) → IsEnded answer all f before after
whole_join answer all f old new before between after more ready passed taken quiet blocks sound answers = record {
  join = new;
  asked = ap (λ (j : Joining). j.all) passed.is ∙ ready.asked;
  read = subst (λ (j : Joining). AreRead f j.model (parts_text j.parts)) (sym passed.is) ready.read;
  of_model = subst (λ (j : Joining). ArePartsOf j.model j.parts) (sym passed.is) ready.of_model;
  texts = passed.texts;
  printed = new.printed ++ more;
  taken = taken ∙ ap (λ t. with_more t more) passed.taken ∙ with_more-with_more before new.printed more;
  blocks = cut_short answer new.model new.printed more quiet blocks;
  sound = sound;
  answers = answers;
}

pub finished : (result : JoinStatus) (all : Bool) (f : Files) (old new : Joining) (before between after : Option (List ℕ)) (flushed a b c m d : ℕ) → IsReady all f old → IsPassed old new f.texts before between → b ≡ a → m ≡ c
    → Finishes new result between after flushed m d → Ends result all f before after flushed a b c d
finished result all f old new before between after flushed a b c m d ready passed source sink (inl is) = elim is.put [
  | inl put ↦ at_status result (ended_as is.answer) all f before after flushed a b c d put.status
      (ended is.answer all f before after flushed a b c d (whole_join is.answer all f old new before between after is.more ready passed put.taken is.quiet is.blocks is.sound is.answers) put.whole source (put.counts ∙ sink))
  | inr lost ↦ cut result all f before after flushed a b c d source
      (record { status = lost.status; more = more_still before between after (new.printed, passed.taken) lost.more; counts = omega (arith, sink, lost.counts) })
]
finished result all f old new before between after flushed a b c m d ready passed source sink (inr is) =
    at_status result NoMemory all f before after flushed a b c d is.status
    (record { answers = (new.printed, is.taken ∙ passed.taken); whole = tt; cause = (source, is.counts ∙ sink) })
