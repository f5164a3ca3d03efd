-- What the answers of a run say of its text.
use Rattle.std.specs.Prelude.{ℤ, OnOk}
use Rattle.std.proofs.Common.{◌≡◌, ◌≤◌, ◌∙◌, ◌≢◌, ℕ, ◌+◌, List, [], ◌++◌, Option, None, Some, IfSome, Result, Ok, Err, OnErr, ap, sym, refl, subst, inl, inr, append_assoc, append-nil, arith, codes, decimal, ◌⊎◌, unwrap_or, take, length}
use Rattle.std.specs.Fmt.{digits}
use Rattle.fz_spec.specs.declared.code.Code.{Code}
use Rattle.fz_spec.specs.declared.code.Code.TheVariants.{UnknownByte, LargeNumber, UnexpectedToken, DeclaredTwice, UnknownName, WrongType, WrongArity, UnknownConstraint, Unsupported, WrongLengths, OverLimit}
use Rattle.fz_spec.specs.Codes.{code_number, code_text}
use Rattle.fz_spec.specs.Instance.{Instance}
use Rattle.fz_language.specs.Reads.{Reads}
use Rattle.fz_spec.specs.declared.limits.TheConstants.{TEXT_LIMIT}
use Rattle.fz_language.specs.Reads as reads
use Rattle.fz_spec.specs.Run.{refusal_text}
use Rattle.fz_cmd.specs.Meaning.{Options}
use Rattle.fz_language.proofs.ReadProofs.{reading_is_one}
use Rattle.fz_gen.specs.Knapsack.{knapsack}
use Rattle.fz_io.specs.Outside.{with_more, AllFlushed}
use Rattle.fz_print.specs.declared.refusal.Refusal.{Refusal}
use Rattle.fz_print.specs.Refusal.{text_of, code_digits}
use Rattle.fzn.specs.declared.status.Status.{Status}
use Rattle.fzn.specs.declared.status.Status.TheVariants.{Done, Refused, Usage, SourceFault, SinkFault, NoMemory, NoTask}
use Rattle.fzn.specs.Asked.{HasTask, PrintsAsked}
use Rattle.fz_maker.specs.Taken.{TakesOne, TakesFrontOfOne}
use Rattle.fz_gen.specs.declared.text.TheConstants.{ITEMS_LEAST, ITEMS_MOST}
use Rattle.fz_gen.proofs.Law.{each_is_accepted}
use Rattle.fzn.specs.Promises.{AnswersAccepted, AnswersPart, AnswersRefused, HasItsCause, HasReadAll, IsDoneOrShort, LacksTaskOrShort, IsFlushed, IsFront, IsRefusedOrShort, IsRefusedRun, IsUnrefused, IsRun, IsStrictFront, IsWholeRun, Prints, Runs, generated_or, text_for}
use Rattle.fz_runs.specs.Runs.{IsRunText}
use Rattle.fzn.specs.Steps.{Answers, AskForWhole, Finishes, HasSearchCause, HasSinkCause, IsReadOf, LeavesNothing, PrintsOf, ShowsFront, ShowsWhole}
use Rattle.fz_reader.specs.Refusals.{IsRefusal}
use Rattle.fz_printer.specs.Texts.{TakesFront}
use Rattle.fz_printer.specs.declared.printing.Stop.{Stop}
use Rattle.fz_printer.specs.declared.printing.Stop.TheVariants.{Memory, Fault}
use Rattle.fz_reader.proofs.Readings.{read_of_front}

pub no_more : (taken : Option (List ℕ)) → taken ≡ with_more taken []
no_more None = refl
no_more (Some t) = ap Some (sym (append-nil t))

-- the code of a refusal is printed with two digits
code_digits_is : (c : Code) → code_digits (code_number c) ≡ codes ": " ++ code_text c
unfolding digits
code_digits_is UnknownByte = refl
code_digits_is LargeNumber = refl
code_digits_is UnexpectedToken = refl
code_digits_is DeclaredTwice = refl
code_digits_is UnknownName = refl
code_digits_is WrongType = refl
code_digits_is WrongArity = refl
code_digits_is UnknownConstraint = refl
code_digits_is Unsupported = refl
code_digits_is WrongLengths = refl
code_digits_is OverLimit = refl

text_is : (r : Refusal) (c : Code) → r.code ≡ code_number c → text_of r ≡ refusal_text c r.line r.column
text_is r c e =
    let front = codes "% line " ++ decimal r.line ++ codes ", column " ++ decimal r.column in
    ap (λ n. front ++ code_digits n ++ codes "\n=====ERROR=====\n") e ∙ ap (λ u. front ++ u ++ codes "\n=====ERROR=====\n") (code_digits_is c)
    ∙ ap (λ u. u ++ codes "\n=====ERROR=====\n") (sym (append_assoc front (codes ": ") (code_text c)))

pub at_status : (s t : Status) (text : List ℕ) (o : Options) (before after : Option (List ℕ)) → s ≡ t → PrintsOf t text o before after → PrintsOf s text o before after
at_status s t text o before after e p = subst (λ (u : Status). PrintsOf u text o before after) (sym e) p

-- a prefix of a whole text, where a fault or being out of memory is answered
stopped : (s : Status) (text whole : List ℕ) (o : Options) (before after : Option (List ℕ)) → (s ≡ SinkFault) ⊎ (s ≡ NoMemory) → TakesFront whole before after
    → ((printed : List ℕ) → whole ≡ printed → IsWholeRun text o printed) → PrintsOf s text o before after
stopped s text whole o before after e f w = elim e [
  | inl fault ↦ at_status s SinkFault text o before after fault (f.printed, f.taken, inr (f.more, w (f.printed ++ f.more) f.front))
  | inr short ↦ at_status s NoMemory text o before after short (f.printed, f.taken, inr (f.more, f.some, w (f.printed ++ f.more) f.front))
]

-- all of it was taken, and the flush failed
unflushed : (s : Status) (text whole : List ℕ) (o : Options) (before after : Option (List ℕ)) → s ≡ SinkFault → after ≡ with_more before whole
    → ((printed : List ℕ) → whole ≡ printed → IsWholeRun text o printed) → PrintsOf s text o before after
unflushed s text whole o before after e t w = at_status s SinkFault text o before after e (whole, t, inr ([], w (whole ++ []) (sym (append-nil whole))))

-- where what it took are whole runs of the text, or prefixes of such
module _ (P : List ℕ → Type 0) (text : List ℕ) (o : Options) (of_text : (u : List ℕ) → P u → IsRun text o u) where
  pub taken_whole : (s : Status) (before after : Option (List ℕ)) → TakesOne P before after → (s ≡ Done) ⊎ (s ≡ SinkFault) → PrintsOf s text o before after
  taken_whole s before after one e = elim e [
    | inl done ↦ at_status s Done text o before after done (one.text, one.taken, of_text one.text one.is)
    | inr fault ↦ unflushed s text one.text o before after fault one.taken (λ u is. inl (of_text u (subst P is one.is)))
  ]

  pub taken_front : (s : Status) (before after : Option (List ℕ)) → TakesFrontOfOne P before after → (s ≡ SinkFault) ⊎ (s ≡ NoMemory) → PrintsOf s text o before after
  taken_front s before after one e = stopped s text one.text o before after e one.front (λ u is. inl (of_text u (subst P is one.is)))

  -- and flushed
  pub finished : {T : Type 0} (printed : Result T Stop) (s : Status) (before middle after : Option (List ℕ)) (flushed c d : ℕ) → OnOk printed (TakesOne P before middle) → OnErr printed (TakesFrontOfOne P before middle)
      → after ≡ middle → Finishes printed s after flushed c d → PrintsOf s text o before after
  finished (Ok x) s before middle after flushed c d whole front same h =
      taken_whole s before after (subst (λ (t : Option (List ℕ)). TakesOne P before t) (sym same) whole) (elim h [ inl done ↦ inl done.0 | inr fault ↦ inr fault.0 ])
  finished (Err Memory) s before middle after flushed c d whole front same h =
      taken_front s before after (subst (λ (t : Option (List ℕ)). TakesFrontOfOne P before t) (sym same) front) (elim h [ inl short ↦ inr short.0 | inr fault ↦ inl fault.0 ])
  finished (Err Fault) s before middle after flushed c d whole front same h =
      taken_front s before after (subst (λ (t : Option (List ℕ)). TakesFrontOfOne P before t) (sym same) front) (inl h.0)

by_whole : (part : Option (List ℕ)) (split : Option ℕ) (m : Instance) (o : Options) (printed : List ℕ) → part ≡ None → split ≡ None → PrintsAsked None None m o printed → PrintsAsked part split m o printed
by_whole part split m o printed none is h = subst (λ (t : Option (List ℕ)). PrintsAsked t split m o printed) (sym none) (subst (λ (n : Option ℕ). PrintsAsked None n m o printed) (sym is) h)

-- the run of a text that is read so
pub run_of : (text whole : List ℕ) (m : Instance) (o : Options) (l : List (List ℤ)) → AskForWhole o → Reads text (reads.Accepted m) → IsRunText m o l whole → IsRun text o whole
run_of text whole m o l asked r run = record { model = m; accepted = r; run = by_whole o.part o.split m o whole asked.part asked.split (l, run) }

-- the text of a whole run is what is printed of a text
pub prints_whole : (s : Status) (text : List ℕ) (m : Instance) (o : Options) (before after : Option (List ℕ)) → AskForWhole o → Reads text (reads.Accepted m) → ShowsWhole m o before after → (s ≡ Done) ⊎ (s ≡ SinkFault) → PrintsOf s text o before after
prints_whole s text m o before after asked r shows e = taken_whole (IsRunText m o shows.0) text o (λ u run. run_of text u m o shows.0 asked r run) s before after shows.1 e

-- and a prefix of one, where a fault or being out of memory is answered
pub prints_front : (s : Status) (text : List ℕ) (m : Instance) (o : Options) (before after : Option (List ℕ)) → AskForWhole o → Reads text (reads.Accepted m) → ShowsFront m o before after → (s ≡ SinkFault) ⊎ (s ≡ NoMemory) → PrintsOf s text o before after
prints_front s text m o before after asked r shows e = taken_front (IsRunText m o shows.0) text o (λ u run. run_of text u m o shows.0 asked r run) s before after shows.1 e

pub prints_refusal : (s : Status) (text : List ℕ) (r : Refusal) (o : Options) (before after : Option (List ℕ)) → IsRefusal text r → Answers s (Refused r) (text_of r) before after
    → PrintsOf s text o before after
prints_refusal s text r o before after h a =
    let refused : (u : List ℕ) → text_of r ≡ u → IsRefusedRun text r u = λ u e. record { code = h.code; number = h.number; reads = h.reads; is = sym e ∙ text_is r h.code h.number } in
    elim a [
      | inl all ↦ elim all.0 [
        | inl done ↦ at_status s (Refused r) text o before after done (text_of r, all.1, refused (text_of r) refl)
        | inr fault ↦ unflushed s text (text_of r) o before after fault all.1 (λ u e. inr (r, refused u e))
      ]
      | inr part ↦ stopped s text (text_of r) o before after part.0 part.1 (λ u e. inr (r, refused u e))
    ]

-- from what was read of a text to the text
whole_of_front : (text printed : List ℕ) (o : Options) → IsWholeRun (take (TEXT_LIMIT + 1) text) o printed → IsWholeRun text o printed
whole_of_front text printed o w = elim w [
  | inl run ↦ inl (record { model = run.model; accepted = read_of_front text (reads.Accepted run.model) run.accepted; run = run.run })
  | inr refused ↦
      let r = refused.0 in
      let h = refused.1 in
      inr (r, record { code = h.code; number = h.number; reads = read_of_front text (reads.Refused h.code r.line r.column) h.reads; is = h.is })
]

front_of_front : (text printed : List ℕ) (o : Options) → IsFront (take (TEXT_LIMIT + 1) text) o printed → IsFront text o printed
front_of_front text printed o f = elim f [ inl none ↦ inl none | inr more ↦ inr (more.0, whole_of_front text (printed ++ more.0) o more.1) ]

strict_of_strict : (text printed : List ℕ) (o : Options) → IsStrictFront (take (TEXT_LIMIT + 1) text) o printed → IsStrictFront text o printed
strict_of_strict text printed o f = elim f [ inl none ↦ inl none | inr more ↦ inr (more.0, more.1, whole_of_front text (printed ++ more.0) o more.2) ]

prints_of_front : (s : Status) (text printed : List ℕ) (o : Options) → Prints s (take (TEXT_LIMIT + 1) text) o printed → Prints s text o printed
prints_of_front Done text printed o p = record { model = p.model; accepted = read_of_front text (reads.Accepted p.model) p.accepted; run = p.run }
prints_of_front (Refused r) text printed o p = record { code = p.code; number = p.number; reads = read_of_front text (reads.Refused p.code r.line r.column) p.reads; is = p.is }
prints_of_front Usage text printed o p = p
prints_of_front SourceFault text printed o p = p
prints_of_front SinkFault text printed o p = front_of_front text printed o p
prints_of_front NoMemory text printed o p = strict_of_strict text printed o p
prints_of_front (NoTask misfit) text printed o p =
    let h = p.1 in (p.0, record { model = h.model; accepted = read_of_front text (reads.Accepted h.model) h.accepted; part = h.part; asked = h.asked; lacks = h.lacks })

pub runs : (s : Status) (o : Options) (file before after : Option (List ℕ)) (read : List ℕ) → IsReadOf file read → PrintsOf s read o before after → Runs s o file before after
runs s o None before after read r p = record { text = read; printed = p.0; read = tt; taken = p.1; prints = p.2 }
runs s o (Some t) before after read r p =
    record { text = t; printed = p.0; read = refl; taken = p.1; prints = prints_of_front s t p.0 o (subst (λ (u : List ℕ). Prints s u o p.0) r p.2) }

-- a run that has its model read a text within the limit
reads_all_at : (s : Status) (read printed : List ℕ) (o : Options) (left : Option (List ℕ)) → Prints s read o printed → LeavesNothing (length read) left → HasReadAll s left
reads_all_at Done read printed o left p h = h p.accepted.spelt.short
reads_all_at (NoTask misfit) read printed o left p h = let k = p.1 in h k.accepted.spelt.short
reads_all_at (Refused r) read printed o left p h = tt
reads_all_at Usage read printed o left p h = tt
reads_all_at SourceFault read printed o left p h = tt
reads_all_at SinkFault read printed o left p h = tt
reads_all_at NoMemory read printed o left p h = tt

pub reads_all : (s : Status) (read : List ℕ) (o : Options) (before after left : Option (List ℕ)) → PrintsOf s read o before after → LeavesNothing (length read) left → HasReadAll s left
reads_all s read o before after left p h = reads_all_at s read p.0 o left p.2 h

told : (file : Option (List ℕ)) → IfSome file (λ t. t ≡ unwrap_or file [])
told None = tt
told (Some t) = refl

pub runs_source_fault : (o : Options) (file before : Option (List ℕ)) → Runs SourceFault o file before before
runs_source_fault o file before = record { text = unwrap_or file []; printed = []; read = told file; taken = no_more before; prints = refl }

pub runs_short : (o : Options) (file before : Option (List ℕ)) → Runs NoMemory o file before before
runs_short o file before = record { text = unwrap_or file []; printed = []; read = told file; taken = no_more before; prints = inl refl }

-- a generated text, or the file's
pub runs_generated : (s : Status) (o : Options) (items : ℕ) (file before after : Option (List ℕ)) → o.generate ≡ Some items → PrintsOf s (knapsack items) o before after → Runs s o (text_for o file) before after
runs_generated s o items file before after is p =
    subst (λ (g : Option ℕ). Runs s o (generated_or g file) before after) (sym is) (record { text = knapsack items; printed = p.0; read = refl; taken = p.1; prints = p.2 })

pub runs_read : (s : Status) (o : Options) (file before after : Option (List ℕ)) → o.generate ≡ None → Runs s o file before after → Runs s o (text_for o file) before after
runs_read s o file before after is r = subst (λ (g : Option ℕ). Runs s o (generated_or g file) before after) (sym is) r

-- a run that makes no call of the source
pub its_cause : (s : Status) (a c d : ℕ) → HasSinkCause s c d → HasItsCause s a a c d
its_cause Done a c d h = (refl, h)
its_cause (Refused r) a c d h = (refl, h)
its_cause Usage a c d h = absurd h
its_cause SourceFault a c d h = absurd h
its_cause SinkFault a c d h = (refl, h)
its_cause NoMemory a c d h = (refl, h)
its_cause (NoTask misfit) a c d h = (refl, h)

pub not_usage : (s : Status) (c d : ℕ) → HasSinkCause s c d → s ≢ Usage
not_usage s c d h is = subst (λ (t : Status). HasSinkCause t c d) is h

-- an accepted text is done, where nothing failed and memory was there
not_both : (t : List ℕ) (m : Instance) (code : Code) (line column : ℕ) → Reads t (reads.Accepted m) → Reads t (reads.Refused code line column) → ⊥
not_both t m code line column h k = let e = reading_is_one t (reads.Accepted m) (reads.Refused code line column) h k in cc

done_or_short : (s : Status) (o : Options) (t : List ℕ) (before after : Option (List ℕ)) (a b c d : ℕ) (m : Instance) → o.part ≡ None → Runs s o (Some t) before after → HasItsCause s a b c d → s ≢ Usage → b ≡ a → d ≡ c
    → Reads t (reads.Accepted m) → IsDoneOrShort s
done_or_short Done o t before after a b c d m whole r h u e f k = inl refl
done_or_short (Refused x) o t before after a b c d m whole r h u e f k =
    let p = r.prints in absurd (not_both t m p.code x.line x.column k (subst (λ (v : List ℕ). Reads v (reads.Refused p.code x.line x.column)) (sym r.read) p.reads))
done_or_short Usage o t before after a b c d m whole r h u e f k = absurd (u refl)
done_or_short SourceFault o t before after a b c d m whole r h u e f k = absurd (omega (arith, h.0, e))
done_or_short SinkFault o t before after a b c d m whole r h u e f k = absurd (omega (arith, h.1, f))
done_or_short NoMemory o t before after a b c d m whole r h u e f k = inr refl
done_or_short (NoTask misfit) o t before after a b c d m whole r h u e f k = let p = r.prints in let asked = p.1.asked in absurd (cc (asked, whole))

pub answers_accepted : (s : Status) (o : Options) (file before after : Option (List ℕ)) (a b c d : ℕ) → o.part ≡ None → Runs s o file before after → HasItsCause s a b c d → s ≢ Usage → b ≡ a → d ≡ c → AnswersAccepted s file
answers_accepted s o file before after a b c d whole r h u e f text m is k =
    done_or_short s o text before after a b c d m whole (subst (λ (x : Option (List ℕ)). Runs s o x before after) is r) h u e f k

-- a part of one is done where the model has it, and else that is answered
same_model : (t : List ℕ) (m n : Instance) → Reads t (reads.Accepted m) → Reads t (reads.Accepted n) → m ≡ n
same_model t m n h k = let e : reads.Accepted m ≡ reads.Accepted n = reading_is_one t (reads.Accepted m) (reads.Accepted n) h k in cc

abbrev AnswersTask : Status → Instance → List ℕ → Option ℤ → Type 0
AnswersTask s m part better = (HasTask m part better → IsDoneOrShort s) × ((HasTask m part better → ⊥) → LacksTaskOrShort s)

asked_has : (part : Option (List ℕ)) (split : Option ℕ) (m : Instance) (o : Options) (text printed : List ℕ) → part ≡ Some text → PrintsAsked part split m o printed → HasTask m text o.better
asked_has None split m o text printed is h = absurd (cc is)
asked_has (Some other) split m o text printed is h = let same : other ≡ text = cc is in subst (λ (u : List ℕ). HasTask m u o.better) same h.task

part_answered : (s : Status) (o : Options) (t part : List ℕ) (before after : Option (List ℕ)) (a b c d : ℕ) (m : Instance) → o.part ≡ Some part → Runs s o (Some t) before after → HasItsCause s a b c d → s ≢ Usage → b ≡ a → d ≡ c
    → Reads t (reads.Accepted m) → AnswersTask s m part o.better
part_answered Done o t part before after a b c d m is r h u e f k =
    let p = r.prints in
    let same : p.model ≡ m = same_model t p.model m (subst (λ (v : List ℕ). Reads v (reads.Accepted p.model)) (sym r.read) p.accepted) k in
    let has = subst (λ (n : Instance). HasTask n part o.better) same (asked_has o.part o.split p.model o part r.printed is p.run) in
    (λ given. inl refl, λ lacks. absurd (lacks has))
part_answered (Refused x) o t part before after a b c d m is r h u e f k =
    let p = r.prints in absurd (not_both t m p.code x.line x.column k (subst (λ (v : List ℕ). Reads v (reads.Refused p.code x.line x.column)) (sym r.read) p.reads))
part_answered Usage o t part before after a b c d m is r h u e f k = absurd (u refl)
part_answered SourceFault o t part before after a b c d m is r h u e f k = absurd (omega (arith, h.0, e))
part_answered SinkFault o t part before after a b c d m is r h u e f k = absurd (omega (arith, h.1, f))
part_answered NoMemory o t part before after a b c d m is r h u e f k = (λ given. inr refl, λ lacks. inr refl)
part_answered (NoTask misfit) o t part before after a b c d m is r h u e f k =
    let p = r.prints in
    let q = p.1 in
    let same : q.model ≡ m = same_model t q.model m (subst (λ (v : List ℕ). Reads v (reads.Accepted q.model)) (sym r.read) q.accepted) k in
    let asked = q.asked in
    let text : q.part ≡ part = cc (asked, is) in
    let given : HasTask m part o.better → ⊥ = subst (λ (v : List ℕ). HasTask m v o.better → ⊥) text (subst (λ (n : Instance). HasTask n q.part o.better → ⊥) same q.lacks.none) in
    (λ has. absurd (given has), λ lacks. inl (misfit, refl))

pub answers_part : (s : Status) (o : Options) (part : List ℕ) (file before after : Option (List ℕ)) (a b c d : ℕ) → o.part ≡ Some part → Runs s o file before after → HasItsCause s a b c d → s ≢ Usage → b ≡ a → d ≡ c
    → AnswersPart s part o.better file
answers_part s o part file before after a b c d is r h u e f text m same k =
    part_answered s o text part before after a b c d m is (subst (λ (x : Option (List ℕ)). Runs s o x before after) same r) h u e f k

-- and a text that is refused so is answered so
same_refusal : (t : List ℕ) (x : Refusal) (c code : Code) (line column : ℕ) → x.code ≡ code_number c → Reads t (reads.Refused c x.line x.column) → Reads t (reads.Refused code line column)
    → ◌≡◌ {A = Status} (Refused x) (Refused (record { code = code_number code; line = line; column = column }))
same_refusal t x c code line column n h k =
    let e = reading_is_one t (reads.Refused c x.line x.column) (reads.Refused code line column) h k in
    let same_code : c ≡ code = cc in
    let same_line : x.line ≡ line = cc in
    let same_column : x.column ≡ column = cc in
    let number : x.code ≡ code_number code = n ∙ ap code_number same_code in
    λ i. Refused (record { code = number i; line = same_line i; column = same_column i })

refused_or_short : (s : Status) (o : Options) (t : List ℕ) (before after : Option (List ℕ)) (a b c d : ℕ) (code : Code) (line column : ℕ) → Runs s o (Some t) before after → HasItsCause s a b c d → s ≢ Usage
    → b ≡ a → d ≡ c → Reads t (reads.Refused code line column) → IsRefusedOrShort code line column s
refused_or_short Done o t before after a b c d code line column r h u e f k =
    let p = r.prints in absurd (not_both t p.model code line column (subst (λ (v : List ℕ). Reads v (reads.Accepted p.model)) (sym r.read) p.accepted) k)
refused_or_short (Refused x) o t before after a b c d code line column r h u e f k =
    let p = r.prints in inl (same_refusal t x p.code code line column p.number (subst (λ (v : List ℕ). Reads v (reads.Refused p.code x.line x.column)) (sym r.read) p.reads) k)
refused_or_short Usage o t before after a b c d code line column r h u e f k = absurd (u refl)
refused_or_short SourceFault o t before after a b c d code line column r h u e f k = absurd (omega (arith, h.0, e))
refused_or_short SinkFault o t before after a b c d code line column r h u e f k = absurd (omega (arith, h.1, f))
refused_or_short NoMemory o t before after a b c d code line column r h u e f k = inr refl
refused_or_short (NoTask misfit) o t before after a b c d code line column r h u e f k =
    let p = r.prints in let q = p.1 in absurd (not_both t q.model code line column (subst (λ (v : List ℕ). Reads v (reads.Accepted q.model)) (sym r.read) q.accepted) k)

pub answers_refused : (s : Status) (o : Options) (file before after : Option (List ℕ)) (a b c d : ℕ) → Runs s o file before after → HasItsCause s a b c d → s ≢ Usage → b ≡ a → d ≡ c → AnswersRefused s file
answers_refused s o file before after a b c d r h u e f text code line column is k =
    refused_or_short s o text before after a b c d code line column (subst (λ (x : Option (List ℕ)). Runs s o x before after) is r) h u e f k

-- what holds at the options that the words mean
pub at_options : (o : Option Options) (P : Options → Type 0) (p : Options) → ◌≡◌ {A = Option Options} (Some p) o → P p → IfSome o P
at_options o P p e h = subst (λ (q : Option Options). IfSome q P) e h

-- where there was no memory for the words
pub whatever : (o : Option Options) (P : Options → Type 0) → ((p : Options) → P p) → IfSome o P
whatever None P h = tt
whatever (Some p) P h = h p

pub whichever : {P : Type 0} (n : Option ℕ) → P → IfSome n (λ _. P)
whichever None p = tt
whichever (Some n) p = p

pub where_given : (part : Option (List ℕ)) (P : List ℕ → Type 0) → ((text : List ℕ) → part ≡ Some text → P text) → IfSome part P
where_given None P h = tt
where_given (Some text) P h = h text refl

-- ---- generated texts

never_refused : (text : List ℕ) (m : Instance) (c : Code) (line column : ℕ) → Reads text (reads.Accepted m) → Reads text (reads.Refused c line column) → ⊥
never_refused text m c line column h k = let e : reads.Accepted m ≡ reads.Refused c line column = reading_is_one text (reads.Accepted m) (reads.Refused c line column) h k in cc

pub unrefused : (s : Status) (n : ℕ) (text : List ℕ) (o : Options) (before after : Option (List ℕ)) (c d : ℕ) → ITEMS_LEAST ≤ n → n ≤ ITEMS_MOST → o.part ≡ None → text ≡ knapsack n → PrintsOf s text o before after → HasSinkCause s c d → IsUnrefused s
unrefused Done n text o before after c d some few whole is p h = inl refl
unrefused (Refused r) n text o before after c d some few whole is p h =
    let a = each_is_accepted n some few in
    let q = p.2 in
    absurd (never_refused (knapsack n) a.model q.code r.line r.column a.accepted (subst (λ (t : List ℕ). Reads t (reads.Refused q.code r.line r.column)) is q.reads))
unrefused Usage n text o before after c d some few whole is p h = absurd h
unrefused SourceFault n text o before after c d some few whole is p h = absurd h
unrefused SinkFault n text o before after c d some few whole is p h = inr (inl refl)
unrefused NoMemory n text o before after c d some few whole is p h = inr (inr refl)
unrefused (NoTask misfit) n text o before after c d some few whole is p h = let q = p.2 in let asked = q.1.asked in absurd (cc (asked, whole))

pub made : (s : Status) (c d : ℕ) → IsUnrefused s → HasSinkCause s c d → d ≡ c → IsDoneOrShort s
made s c d (inl done) h e = inl done
made s c d (inr (inl fault)) h e = absurd (let g : HasSinkCause SinkFault c d = subst (λ (t : Status). HasSinkCause t c d) fault h in omega (arith, e, g))
made s c d (inr (inr short)) h e = inr short

-- a search that answers something else than a fault has flushed all
pub is_flushed : (s : Status) (before after : Option (List ℕ)) (flushed c d : ℕ) → HasSearchCause s c d → (s ≢ SinkFault → AllFlushed after flushed) → IsFlushed s before after flushed
is_flushed Done before after flushed c d h all = all (λ e. absurd (cc e))
is_flushed (Refused r) before after flushed c d h all = absurd h
is_flushed Usage before after flushed c d h all = absurd h
is_flushed SourceFault before after flushed c d h all = absurd h
is_flushed SinkFault before after flushed c d h all = tt
is_flushed NoMemory before after flushed c d h all = inl (all (λ e. absurd (cc e)))
is_flushed (NoTask misfit) before after flushed c d h all = absurd h
