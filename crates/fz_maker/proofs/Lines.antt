-- What a sink takes, line by line.
use Rattle.std.proofs.Common.{◌≡◌, ◌≢◌, ◌∙◌, ℕ, ◌<◌, List, [], ◌++◌, Option, refl, sym, ap, subst, arith, length, append_assoc, append-nil, codes}
use Rattle.std.specs.Prelude.{ℤ, Some, IfSome}
use Rattle.fz_spec.specs.Instance.{Instance}
use Rattle.fz_io.specs.Outside.{with_more, with_more-none, with_more-with_more}
use Rattle.fz_printer.specs.Texts.{TakesFront}
use Rattle.fz_printer.proofs.Fronts.{front_after, front_more, front_of_nothing, some_behind}
use Rattle.fz_model.specs.Kept.{IsModel}
use Rattle.fz_refutes.specs.Trees.{Line}
use Rattle.fz_refutes.specs.Texts.{IsCert, IsHead, comment, lines_text}
use Rattle.fz_refutes.specs.Makers.{HasNoBetter}
use Rattle.fz_refutes.proofs.Growing.{cert_exists}
use Rattle.fz_maker.specs.declared.maker.Stage.{Stage}
use Rattle.fz_maker.specs.declared.maker.Stage.TheVariants as stages
use Rattle.fz_maker.specs.Making.{AreAhead, HasRest, IsAhead, IsEnded, IsWritten, Making}
use Rattle.fz_maker.specs.Taken.{HasMore, TakesOne, TakesFrontOfOne}

pub of_some : {X : Type 0} (o : Option X) (x : X) (P : X → Type 0) → o ≡ Some x → IfSome o P → P x
of_some {X} o x P is h = subst (λ (p : Option X). IfSome p P) is h

-- some lines of what was ahead at the start were taken
pub record IsUnderWay (start now : Making) (before after : Option (List ℕ)) : Type 0 where
  pub printed : List ℕ
  pub taken : after ≡ with_more before printed
  pub ahead : (later : List ℕ) → IsAhead now later → IsAhead start (printed ++ later)
  pub sound : now.stage ≢ stages.Failed

pub under_way : (start : Making) (before : Option (List ℕ)) → start.stage ≢ stages.Failed → IsUnderWay start start before before
under_way start before sound = record { printed = []; taken = sym (with_more-none before); ahead = λ later i. i; sound = sound }

pub further : (start old new : Making) (before middle after : Option (List ℕ)) (line : List ℕ) → IsUnderWay start old before middle → IsWritten line old new → after ≡ with_more middle line → IsUnderWay start new before after
further start old new before middle after line so_far written taken = record {
  printed = so_far.printed ++ line;
  taken = taken ∙ ap (λ (o : Option (List ℕ)). with_more o line) so_far.taken ∙ with_more-with_more before so_far.printed line;
  ahead = λ later i. subst (IsAhead start) (sym (append_assoc so_far.printed line later)) (so_far.ahead (line ++ later) (written.text later i));
  sound = written.sound;
}

pub ended : (start now : Making) (before after : Option (List ℕ)) → IsUnderWay start now before after → IsEnded now → TakesOne (IsAhead start) before after
ended start now before after so_far end = record {
  text = so_far.printed ++ [];
  is = so_far.ahead [] end.nothing;
  taken = so_far.taken ∙ ap (with_more before) (sym (append-nil so_far.printed));
}

-- memory was wanting at the next line
pub stopped : (start now : Making) (before after : Option (List ℕ)) → IsUnderWay start now before after → HasMore now → TakesFrontOfOne (IsAhead start) before after
stopped start now before after so_far more = record {
  text = so_far.printed ++ more.text;
  is = so_far.ahead more.text more.ahead;
  front = front_after so_far.printed more.text before after (front_of_nothing more.text (with_more before so_far.printed) after more.some so_far.taken);
}

-- the sink failed at a line
pub failed : (start old new : Making) (before middle after : Option (List ℕ)) (line : List ℕ) → IsUnderWay start old before middle → IsWritten line old new → HasRest new → TakesFront line middle after
    → TakesFrontOfOne (IsAhead start) before after
failed start old new before middle after line so_far written rest front = record {
  text = so_far.printed ++ (line ++ rest.0);
  is = so_far.ahead (line ++ rest.0) (written.text rest.0 rest.1);
  front = front_after so_far.printed (line ++ rest.0) before after
      (subst (λ (o : Option (List ℕ)). TakesFront (line ++ rest.0) o after) so_far.taken (front_more line rest.0 middle after front));
}

-- ---- what is ahead has bytes

some_at : (stage : Stage) (head : Option (List ℤ)) (lines : List Line) (text : List ℕ) → stage ≢ stages.Done → AreAhead stage head lines text → 0 < length text
some_at stages.First head lines text more is = subst (λ (t : List ℕ). 0 < length t) (sym is) (omega arith)
some_at stages.Head head lines text more is = subst (λ (t : List ℕ). 0 < length t) (sym is) (omega arith)
some_at stages.Tree head lines text more is = subst (λ (t : List ℕ). 0 < length t) (sym is) (some_behind (lines_text lines) (comment (codes "end")) (omega arith))
some_at stages.Done head lines text more is = absurd (more refl)
some_at stages.Failed head lines text more is = absurd is

-- ---- what is ahead at the beginning is the certificate

-- nothing was taken of it
pub cert_unbegun : (m : Instance) (head : Option (List ℤ)) (before after : Option (List ℕ)) → IsModel m → IsHead m head → HasNoBetter m head → after ≡ before → TakesFrontOfOne (IsCert m head) before after
cert_unbegun m head before after is is_head best same =
    let cert = cert_exists m head is is_head best in
    record { text = cert.0; is = cert.1; front = front_of_nothing cert.0 before after (subst (λ (t : List ℕ). 0 < length t) (sym cert.1.is_text) (omega arith)) same }
