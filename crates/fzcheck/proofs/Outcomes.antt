-- What an answer that is told comes to.
use Rattle.std.proofs.Common.{◌≡◌, inl, inr, ℕ, ◌+◌, ◌≤◌, ◌<◌, List, Option, None, Some, refl, sym, subst, ◌∙◌, ap, arith, length}
use Rattle.std.proofs.lemmas.List.{take_all}
use Rattle.fz_io.specs.Whole.{AllRead}
use Rattle.fz_io.specs.Outside.{with_more}
use Rattle.fz_language.specs.Reads.{Reads, Accepted}
use Rattle.fz_spec.specs.Instance.{Instance}
use Rattle.fz_spec.specs.declared.limits.TheConstants.{TEXT_LIMIT}
use Rattle.fzcheck.specs.declared.status.CheckStatus.{CheckStatus}
use Rattle.fzcheck.specs.declared.status.CheckStatus.TheVariants.{Yes, No, Usage, SourceFault, SinkFault, Refused, NoMemory}
use Rattle.fzcheck.specs.Answers.{Answers, HasItsCause, IsFlushed, IsReadOf, Judges, Prints, answer_text}
use Rattle.fzcheck.specs.Steps.{HasSourceCause, IsCut, IsTold}

-- what a whole check says at its end
pub record Ends (result : CheckStatus) (model_file output_file before after : Option (List ℕ)) (flushed a b c d : ℕ) : Type 0 where
  pub answers : Answers result model_file output_file
  pub printed : Prints result model_file output_file before after
  pub whole : IsFlushed result after flushed
  pub cause : HasItsCause result a b c d

at_status : (s t : CheckStatus) (model_file output_file before after : Option (List ℕ)) (flushed a b c d : ℕ) → s ≡ t → Ends t model_file output_file before after flushed a b c d → Ends s model_file output_file before after flushed a b c d
at_status s t model_file output_file before after flushed a b c d e ends = subst (λ (u : CheckStatus). Ends u model_file output_file before after flushed a b c d) (sym e) ends

cut : (meant result : CheckStatus) (model_file output_file before after : Option (List ℕ)) (flushed a b c d : ℕ) → Answers meant model_file output_file → b ≡ a → IsCut result (answer_text meant) before after c d
    → Ends result model_file output_file before after flushed a b c d
cut meant result model_file output_file before after flushed a b c d answers source is =
    at_status result SinkFault model_file output_file before after flushed a b c d is.status
    (record { answers = tt; printed = record { meant = meant; count = is.count; answers = answers; taken = is.taken }; whole = tt; cause = (source, is.counts) })

pub told : (meant result : CheckStatus) (model_file output_file before after : Option (List ℕ)) (flushed a b c d : ℕ) → Answers meant model_file output_file → HasSourceCause meant a b → IsTold meant result before after flushed c d
    → Ends result model_file output_file before after flushed a b c d
told Yes result model_file output_file before after flushed a b c d answers source (inl is) =
    at_status result Yes model_file output_file before after flushed a b c d is.status (record { answers = answers; printed = is.taken; whole = is.whole; cause = (source, is.counts) })
told Yes result model_file output_file before after flushed a b c d answers source (inr is) = cut Yes result model_file output_file before after flushed a b c d answers source is
told No result model_file output_file before after flushed a b c d answers source (inl is) =
    at_status result No model_file output_file before after flushed a b c d is.status (record { answers = answers; printed = is.taken; whole = is.whole; cause = (source, is.counts) })
told No result model_file output_file before after flushed a b c d answers source (inr is) = cut No result model_file output_file before after flushed a b c d answers source is
told Usage result model_file output_file before after flushed a b c d answers source is = absurd source
told SourceFault result model_file output_file before after flushed a b c d answers source is =
    at_status result SourceFault model_file output_file before after flushed a b c d is.status (record { answers = tt; printed = is.taken; whole = tt; cause = (source, is.counts) })
told SinkFault result model_file output_file before after flushed a b c d answers source is = absurd source
told (Refused r) result model_file output_file before after flushed a b c d answers source (inl (inl is)) =
    at_status result (Refused r) model_file output_file before after flushed a b c d is.status (record { answers = answers; printed = is.taken; whole = is.whole; cause = (source, is.counts) })
told (Refused r) result model_file output_file before after flushed a b c d answers source (inl (inr is)) = cut (Refused r) result model_file output_file before after flushed a b c d answers source is
told (Refused r) result model_file output_file before after flushed a b c d answers source (inr is) =
    at_status result NoMemory model_file output_file before after flushed a b c d is.status (record { answers = tt; printed = is.taken; whole = tt; cause = (source, is.counts) })
told NoMemory result model_file output_file before after flushed a b c d answers source is =
    at_status result NoMemory model_file output_file before after flushed a b c d is.status (record { answers = tt; printed = is.taken; whole = tt; cause = (source, is.counts) })

-- what is answered of the model of an accepted text is answered of the text
pub judged : (status : CheckStatus) (text : List ℕ) (m : Instance) (model_file output_file : Option (List ℕ)) → IsReadOf TEXT_LIMIT model_file text → Reads text (Accepted m) → Judges status m output_file → Answers status model_file output_file
judged Yes text m model_file output_file read accepted judges = record { text = text; model = m; read = read; accepted = accepted; judged = judges }
judged No text m model_file output_file read accepted judges = record { text = text; model = m; read = read; accepted = accepted; judged = judges }
judged Usage text m model_file output_file read accepted judges = judges
judged SourceFault text m model_file output_file read accepted judges = tt
judged SinkFault text m model_file output_file read accepted judges = tt
judged (Refused r) text m model_file output_file read accepted judges = absurd judges
judged NoMemory text m model_file output_file read accepted judges = tt

-- all bytes of a file within the limit
pub read_of_all : (limit : ℕ) (file after : Option (List ℕ)) (got : List ℕ) → AllRead limit got file after → IsReadOf limit file got
read_of_all limit None after got r = tt
read_of_all limit (Some t) after got r =
    let within : length t ≤ limit + 1 = omega (arith, r.within, ap length r.all) in r.all ∙ sym (take_all (limit + 1) t within)

-- all of a text was taken, and the flush failed
pub unflushed : (text : List ℕ) (before between after : Option (List ℕ)) (c m d : ℕ) → after ≡ between → between ≡ with_more before text → m ≡ c → m < d → IsCut SinkFault text before after c d
unflushed text before between after c m d same taken none more = record {
  status = refl;
  count = length text;
  taken = same ∙ taken ∙ ap (with_more before) (sym (take_all (length text) text (omega arith)));
  counts = omega (arith, none, more);
}
