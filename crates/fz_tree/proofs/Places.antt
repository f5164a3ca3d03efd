-- Which assignments are in a frontier, in words; and how a choice of two serves a node.
use Rattle.std.proofs.Common.{◌≡◌, ℕ, zero, suc, ◌<◌, List, [], ◌∷◌, ◌⊎◌, ◌↔◌, inl, inr, ap, sym, ◌∙◌, arith, Bool, true, false, cond, ◌&&◌, length}
use Rattle.std.specs.Prelude.{ℤ, IsTrue, Option}
use Rattle.std.specs.List.{list_any, count_by}
use Rattle.std.proofs.lemmas.Bool.{or_cases, and_parts, or_left, or_right, and_from}
use Rattle.fz_spec.specs.Instance.{Instance}
use Rattle.fz_tree.specs.declared.decision.Decision.{Decision}
use Rattle.fz_tree.specs.Choice.{meets, pair_of}
use Rattle.fz_tree.specs.Frontier.{Edge, Frontier, meets_taken, others, is_below, In, times_in, times_below, can_cut, moved}
use Rattle.fz_tree.specs.Proper.{MeetsTaken, Fits}
use Rattle.fz_tree.specs.Laws.{IsAtOther}
use Rattle.fz_tree.proofs.Counts.{any_count}
use Rattle.fz_tree.proofs.Choices.{pair_exactly_one}
use Rattle.fz_tree.proofs.Orders.{declared_length}
use Rattle.fz_tree.proofs.Times.{times_next}

abbrev IsAtPlace : List Edge → Bool → List ℤ → Type 0
IsAtPlace es current a = (IsTrue current × MeetsTaken es a) ⊎ ((i : ℕ) × IsAtOther es a i)

one_deeper : (e : Edge) (es : List Edge) (current : Bool) (a : List ℤ) → IsTrue (meets_taken a e) → IsAtPlace es current a → IsAtPlace (e ∷ es) current a
one_deeper e es current a met (inl h) = inl (h.0, (met, h.1))
one_deeper e es current a met (inr h) = inr (suc h.0, record { within = omega (arith, h.1.within); taken = (met, h.1.taken); other = h.1.other })

place_at : (e : Edge) (es : List Edge) (current : Bool) (a : List ℤ) → (IsTrue (is_below es current a) → IsAtPlace es current a)
    → (IsTrue (meets_taken a e && is_below es current a)) ⊎ IsTrue (list_any (meets a) (others e)) → IsAtPlace (e ∷ es) current a
place_at e es current a below (inl h) =
    let parts = and_parts (meets_taken a e) (is_below es current a) h in
    one_deeper e es current a parts.0 (below parts.1)
place_at e es current a below (inr h) = inr (0, record { within = omega arith; taken = tt; other = λ d. h })

place_of : (es : List Edge) (current : Bool) (a : List ℤ) → IsTrue (is_below es current a) → IsAtPlace es current a
place_of [] current a h = inl (h, tt)
place_of (e ∷ es) current a h = place_at e es current a (place_of es current a) (or_cases (meets_taken a e && is_below es current a) (list_any (meets a) (others e)) h)

other_below : (e : Edge) (es : List Edge) (current : Bool) (a : List ℤ) (i : ℕ) → IsAtOther (e ∷ es) a i → ((j : ℕ) → IsAtOther es a j → IsTrue (is_below es current a)) → IsTrue (is_below (e ∷ es) current a)
other_below e es current a zero h below = or_right (meets_taken a e && is_below es current a) (list_any (meets a) (others e)) (h.other e)
other_below e es current a (suc i) h below =
    or_left (meets_taken a e && is_below es current a) (list_any (meets a) (others e))
    (and_from (meets_taken a e) (is_below es current a) h.taken.0 (below i (record { within = omega (arith, h.within); taken = h.taken.1; other = h.other })))

below_at : (es : List Edge) (current : Bool) (a : List ℤ) (i : ℕ) → IsAtOther es a i → IsTrue (is_below es current a)
below_at [] current a i h = absurd (omega (arith, h.within))
below_at (e ∷ es) current a i h = other_below e es current a i h (below_at es current a)

below_all : (es : List Edge) (current : Bool) (a : List ℤ) → IsTrue current → MeetsTaken es a → IsTrue (is_below es current a)
below_all [] current a h met = h
below_all (e ∷ es) current a h met =
    or_left (meets_taken a e && is_below es current a) (list_any (meets a) (others e)) (and_from (meets_taken a e) (is_below es current a) met.0 (below_all es current a h met.1))

below_of : (es : List Edge) (current : Bool) (a : List ℤ) → IsAtPlace es current a → IsTrue (is_below es current a)
below_of es current a (inl h) = below_all es current a h.0 h.1
below_of es current a (inr h) = below_at es current a h.0 h.1

pub in_is_at_place : (f : Frontier) (a : List ℤ) → In f a ↔ ((IsTrue f.current_open × MeetsTaken f.edges a) ⊎ ((i : ℕ) × IsAtOther f.edges a i))
in_is_at_place f a = (place_of f.edges f.current_open a, below_of f.edges f.current_open a)

pub moved_is_same : (f : Frontier) (a : List ℤ) → f.current_open ≡ false → can_cut f ≡ true → times_in (moved f) a ≡ times_in f a
moved_is_same f a current some = sym (ap (λ b. times_below f.edges a (cond b 1 0)) current ∙ times_next f.edges a some)

some_of : (ds : List Decision) (a : List ℤ) → count_by (meets a) ds ≡ 1 → IsTrue (list_any (meets a) ds)
some_of ds a one = elim (any_count (meets a) ds) [ inl h ↦ h.0 | inr h ↦ absurd (omega (arith, one, h.1)) ]

pub pair_fits : (m : Instance) (es : List Edge) (known : Option (List ℤ)) (d : Decision) → d.variable < length m.variables → Fits m es known (pair_of d)
pair_fits m es known d h = λ a satisfies better met.
    some_of (pair_of d) a (pair_exactly_one d a (omega (arith, h, declared_length m.variables a satisfies.declared)))
