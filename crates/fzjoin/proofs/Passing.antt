-- What is read and printed piece by piece.
use Rattle.std.proofs.Common.{◌≡◌, ℕ, List, [], ◌∷◌, ◌++◌, length, take, drop, Option, None, Some, IfSome, refl, ap, arith, ◌∙◌, sym, subst, append_assoc, append-nil, take-append-drop}
use Rattle.fz_io.specs.Outside.{with_more, Reads, with_more-with_more, with_more-none}
use Rattle.fz_join.specs.Joining.{Joining}
use Rattle.fzjoin.specs.Steps.{IsFed, IsPassed, fed, with_left}

-- What holds between two pieces: all that was read and that is left are the file, and the sink took what is printed.
pub record IsPassing (old new : Joining) (file left before after : Option (List ℕ)) : Type 0 where
  pub is : new ≡ fed old new.read new.printed
  pub texts : with_left new.read left ≡ file
  pub taken : after ≡ with_more before new.printed

-- before the first piece
pub passing_at_first : (old : Joining) (file before : Option (List ℕ)) → old.read ≡ [] → old.printed ≡ [] → IsPassing old old file file before before
passing_at_first old file before none_read none_printed = record {
  is = refl;
  texts = ap (λ read. with_left read file) none_read ∙ same file;
  taken = sym (with_more-none before) ∙ ap (with_more before) (sym none_printed);
}
  where
    same : (left : Option (List ℕ)) → with_left [] left ≡ left
    same None = refl
    same (Some rest) = refl

left_moves : (n : ℕ) (read buffer : List ℕ) (left after : Option (List ℕ)) → Reads n left after buffer → with_left (read ++ take n buffer) after ≡ with_left read left
left_moves n read buffer None after r = ap (with_left (read ++ take n buffer)) r
left_moves n read buffer (Some rest) after r =
    ap (with_left (read ++ take n buffer)) r.rest ∙ ap Some (append_assoc read (take n buffer) (drop n rest) ∙ ap (λ t. read ++ t) (ap (λ t. t ++ drop n rest) r.bytes ∙ take-append-drop n rest))

-- after one more piece
pub passing_on : (old new newer : Joining) (file left later before between after : Option (List ℕ)) (n : ℕ) (buffer : List ℕ) → IsPassing old new file left before between → Reads n left later buffer → IsFed (take n buffer) new newer between after
    → IsPassing old newer file later before after
passing_on old new newer file left later before between after n buffer passing reads is = record {
  is = is.is ∙ ap (λ (j : Joining). fed j (new.read ++ take n buffer) (new.printed ++ is.more)) passing.is ∙ ap (λ (j : Joining). fed old j.read j.printed) (sym is.is);
  texts = ap (λ (j : Joining). with_left j.read later) is.is ∙ left_moves n new.read buffer left later reads ∙ passing.texts;
  taken = is.taken ∙ ap (λ t. with_more t is.more) passing.taken ∙ with_more-with_more before new.printed is.more ∙ ap (λ (j : Joining). with_more before j.printed) (sym is.is);
}

empty_of_length : (xs : List ℕ) → length xs ≡ 0 → xs ≡ []
empty_of_length [] h = refl
empty_of_length (x ∷ xs) h = absurd (omega arith)

all_read : (read buffer : List ℕ) (left later : Option (List ℕ)) → Reads 0 left later buffer → IfSome (with_left read left) (λ text. read ≡ text)
all_read read buffer None later r = tt
all_read read buffer (Some rest) later r = sym (ap (λ t. read ++ t) (empty_of_length rest (r.end.0 refl)) ∙ append-nil read)

-- after the last one
pub passed : (old new : Joining) (file left later before after : Option (List ℕ)) (buffer : List ℕ) → IsPassing old new file left before after → Reads 0 left later buffer → IsPassed old new file before after
passed old new file left later before after buffer passing reads = record {
  is = passing.is;
  texts = subst (λ (f : Option (List ℕ)). IfSome f (λ text. new.read ≡ text)) passing.texts (all_read new.read buffer left later reads);
  taken = passing.taken;
}
