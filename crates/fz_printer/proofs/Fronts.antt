-- Fronts of texts, as a sink takes them.
use Rattle.std.proofs.Common.{◌≡◌, ◌∙◌, ℕ, ◌+◌, ◌≤◌, ◌<◌, List, [], ◌∷◌, ◌++◌, Option, None, Some, Result, Ok, Err, OnErr, ap, sym, refl, suc, length, take, drop, get_or, append_assoc, append-nil, arith, length-drop, length-append}
use Rattle.std.specs.Prelude.{flat_map}
use Rattle.std.proofs.lemmas.List.{take-append-drop, take_all}
use Rattle.std.proofs.lemmas.List.Concat.{flat_map-append}
use Rattle.std.proofs.Math.Seq.{drop-cons, take-suc}
use Rattle.fz_io.specs.Outside.{with_more, with_more-with_more}
use Rattle.fz_printer.specs.Texts.{TakesFront}

-- the first k bytes of a piece, not all of it
pub front_of_piece : (piece : List ℕ) (k : ℕ) (before after : Option (List ℕ)) → k < length piece → after ≡ with_more before (take k piece) → TakesFront piece before after
front_of_piece piece k before after h t = record {
  printed = take k piece;
  more = drop k piece;
  some = omega (arith, length-drop k piece);
  front = sym (take-append-drop k piece);
  taken = t;
}

-- nothing
pub front_of_nothing : (whole : List ℕ) (before after : Option (List ℕ)) → 0 < length whole → after ≡ before → TakesFront whole before after
front_of_nothing whole None after h t = record { printed = []; more = whole; some = h; front = refl; taken = t }
front_of_nothing whole (Some b) after h t = record { printed = []; more = whole; some = h; front = refl; taken = t ∙ ap Some (sym (append-nil b)) }

-- a prefix of the first part, and one after it
pub front_more : (first second : List ℕ) (before after : Option (List ℕ)) → TakesFront first before after → TakesFront (first ++ second) before after
front_more first second before after f = record {
  printed = f.printed;
  more = f.more ++ second;
  some = omega (arith, f.some, length-append f.more second);
  front = ap (λ u. u ++ second) f.front ∙ append_assoc f.printed f.more second;
  taken = f.taken;
}

pub front_after : (first second : List ℕ) (before after : Option (List ℕ)) → TakesFront second (with_more before first) after → TakesFront (first ++ second) before after
front_after first second before after f = record {
  printed = first ++ f.printed;
  more = f.more;
  some = f.some;
  front = ap (λ u. first ++ u) f.front ∙ sym (append_assoc first f.printed f.more);
  taken = f.taken ∙ with_more-with_more before first f.printed;
}

-- a text that ends with some bytes has some
pub some_behind : (front end : List ℕ) → 0 < length end → 0 < length (front ++ end)
some_behind front end h = omega (arith, h, length-append front end)

-- a list is its first i elements, the next, and the others
cut : {X : Type 0} (xs : List X) (i : ℕ) (x : X) → i < length xs → x ≡ get_or xs i x → xs ≡ take i xs ++ x ∷ drop (suc i) xs
cut xs i x h e = sym (take-append-drop i xs) ∙ ap (λ u. take i xs ++ u) (drop-cons xs i x h ∙ ap (λ y. y ∷ drop (suc i) xs) (sym e))

-- a prefix of the text of an element after those of the elements before it
pub front_within : {X : Type 0} (f : X → List ℕ) (xs : List X) (i : ℕ) (x : X) (before middle after : Option (List ℕ)) → i < length xs → x ≡ get_or xs i x
    → middle ≡ with_more before (flat_map f (take i xs)) → TakesFront (f x) middle after → TakesFront (flat_map f xs) before after
front_within f xs i x before middle after h e m t =
    let parts : flat_map f xs ≡ flat_map f (take i xs) ++ (f x ++ flat_map f (drop (suc i) xs)) =
    ap (flat_map f) (cut xs i x h e) ∙ flat_map-append f (take i xs) (x ∷ drop (suc i) xs) in
    rw parts (front_after (flat_map f (take i xs)) (f x ++ flat_map f (drop (suc i) xs)) before after (front_more (f x) (flat_map f (drop (suc i) xs)) _ after (rw (← m) t)))

-- the text of one more element
pub more_within : {X : Type 0} (f : X → List ℕ) (xs : List X) (i : ℕ) (x : X) (before middle after : Option (List ℕ)) → i < length xs → x ≡ get_or xs i x
    → middle ≡ with_more before (flat_map f (take i xs)) → after ≡ with_more middle (f x) → after ≡ with_more before (flat_map f (take (suc i) xs))
more_within f xs i x before middle after h e m t =
    let one : flat_map f (take (suc i) xs) ≡ flat_map f (take i xs) ++ f x =
    ap (flat_map f) (take-suc xs i x h ∙ ap (λ y. take i xs ++ y ∷ []) (sym e)) ∙ flat_map-append f (take i xs) (x ∷ []) ∙ ap (λ u. flat_map f (take i xs) ++ u) (append-nil (f x)) in
    t ∙ ap (λ u. with_more u (f x)) m ∙ with_more-with_more before (flat_map f (take i xs)) (f x) ∙ ap (λ u. with_more before u) (sym one)

-- what holds at any answer holds at a failure
pub whenever : {T E P : Type 0} (r : Result T E) → P → OnErr r P
whenever (Ok x) p = tt
whenever (Err e) p = p
