-- The word and the assignments that were put, one after the other.
use Rattle.std.proofs.Common.{◌≡◌, ℕ, ◌+◌, ◌-◌, ◌≤◌, ◌<◌, min, zero, suc, List, [], ◌∷◌, ◌++◌, length, refl, sym, ap, ◌∙◌, subst, arith, Option, Some, None, IfSome, ◌⊎◌, inl, inr}
use Rattle.std.specs.Prelude.{ℤ, nat_abs, All, Any, slice_index_or}
use Rattle.fz_spec.specs.Instance.{Instance, Satisfies, score}
use Rattle.fz_bound.specs.Rule.{UNSET, PARTS}
use Rattle.fz_team.specs.Members.{IsScoreOf, least_score, listed}
use Rattle.std.proofs.lemmas.List.{length-append}
use Rattle.atomic_table.specs.Seated.{TableId}
use Rattle.fz_bound.specs.Seats.{Seated, joined, split_from, split_off}
use Rattle.fz_team.specs.declared.member.Member.{Member}
use Rattle.fz_path.specs.Tasks.{Tasked}
use Rattle.fz_team.specs.Members.{IsMember, IsTaskOf}
use Rattle.fz_tree.specs.declared.mode.Mode.{Mode}
use Rattle.fz_team.specs.declared.end.End.{End}
use Rattle.fz_team.specs.declared.end.End.TheVariants.{Enough, Closed, Short, Stopped}
use Rattle.fz_book.specs.Room.{Roomy}
use Rattle.fz_team.specs.Ends.{Ends, EndsOne, IsWordOf, IsTeam}

pub least_small : (m : Instance) (l : List (List ℤ)) → least_score m l ≤ UNSET
least_small m [] = omega arith
least_small m (a ∷ l) = let h = least_small m l in omega arith

pub least_snoc : (m : Instance) (l : List (List ℤ)) (a : List ℤ) → least_score m (l ++ a ∷ []) ≡ min (least_score m l) (nat_abs (score m a))
least_snoc m [] a = omega arith
least_snoc m (x ∷ xs) a = let h = least_snoc m xs a in omega arith

all_snoc : {X : Type 0} (P : X → Type 0) (l : List X) (a : X) → All P l → P a → All P (l ++ a ∷ [])
all_snoc P [] a all p zero d h = p
all_snoc P [] a all p (suc k) d h = absurd (omega arith)
all_snoc P (x ∷ xs) a all p zero d h = all 0 d (omega arith)
all_snoc P (x ∷ xs) a all p (suc k) d h = all_snoc P xs a (λ i e t. all (suc i) e (omega arith)) p k d (omega arith)

word_begins : (m : Instance) → IsWordOf m [] UNSET
word_begins m = record { sound = λ k d h. absurd (omega arith); least = refl }

pub word_begun : (m : Instance) (l : List (List ℤ)) (least : ℕ) → l ≡ [] → least ≡ UNSET → IsWordOf m l least
word_begun m l least none fresh = rw (none, fresh) (word_begins m)

-- one worker more
pub word_goes_on : (m : Instance) (l : List (List ℤ)) (least k : ℕ) (best : Option (List ℤ)) → IsWordOf m l least → IsScoreOf m k best → IsWordOf m (l ++ listed best) (min least k)
word_goes_on m l least k None word is = record {
  sound = subst (λ (xs : List (List ℤ)). All (Satisfies m) xs) (sym (append_nil l)) word.sound;
  least = let h = least_small m l in let e = word.least in omega arith ∙ ap (least_score m) (sym (append_nil l));
}
  where
    append_nil : (xs : List (List ℤ)) → xs ++ [] ≡ xs
    append_nil [] = refl
    append_nil (x ∷ xs) = ap (λ (ys : List (List ℤ)). x ∷ ys) (append_nil xs)
word_goes_on m l least k (Some a) word is = record {
  sound = all_snoc (Satisfies m) l a word.sound is.0;
  least = let e = word.least in let f = is.1 in let h = least_snoc m l a in omega arith;
}

-- one worker's seat is joined, and what it found is listed
pub joins_one : {S : Type 0} (m : Instance) (word : TableId) (n total : ℕ) (seat new : Seated) (x : Member S) (l more : List (List ℤ)) (before : List (Member S)) → IsMember m word n x → new ≡ joined seat x.seat → more ≡ l ++ listed x.best
    → seat.bound ≡ word → seat.parts ≡ total + length before → IsWordOf m l seat.least
    → (new.bound ≡ word) × (new.parts ≡ total + length (before ++ x ∷ [])) × IsWordOf m more new.least
joins_one {S} m word n total seat new x l more before of joins lists bound parts is =
    rw (joins, lists) (bound, omega (arith, length-append before (x ∷ []), of.parts, parts), word_goes_on m l seat.least x.seat.least x.best is of.best)

-- one worker more, with one part of the word
pub one_joins : {S : Type 0} (m : Instance) (word : TableId) (n k : ℕ) (seat rest mine : Seated) (x : Member S) (before after : List (Member S)) → rest ≡ split_from seat → mine ≡ split_off seat → x.worker ≡ k → x.seat ≡ mine → x.best ≡ None → x.least ≡ UNSET → x.hand ≡ None → k < n → n ≤ 64
    → after ≡ before ++ x ∷ [] → seat.bound ≡ word → seat.least ≡ UNSET → seat.parts + k ≡ PARTS → All (IsMember m word n) before
    → (rest.bound ≡ word) × (rest.least ≡ UNSET) × (rest.parts + (k + 1) ≡ PARTS) × All (IsMember m word n) after
one_joins {S} m word n k seat rest mine x before after left off numbered sits none unset empty low few grows bound fresh parts all =
    let at : x.seat ≡ split_off seat = sits ∙ off in
    let scored : IsScoreOf m x.seat.least x.best = subst (λ (o : Option (List ℤ)). IsScoreOf m x.seat.least o) (sym none) (ap (λ (s : Seated). s.least) at) in
    let of : IsMember m word n x = record { numbered = omega (arith, numbered, low); bound = ap (λ (s : Seated). s.bound) at ∙ bound; parts = ap (λ (s : Seated). s.parts) at; best = scored; least = unset ∙ sym (ap (λ (s : Seated). s.least) at); hand = subst (λ (o : Option Tasked). IfSome o (IsTaskOf m)) (sym empty) tt } in (
      ap (λ (s : Seated). s.bound) left ∙ bound,
      ap (λ (s : Seated). s.least) left ∙ fresh,
      omega (arith, ap (λ (s : Seated). s.parts) left, parts, low, few),
      subst (λ (l : List (Member S)). All (IsMember m word n) l) (sym grows) (all_snoc (IsMember m word n) before x all of),
    )

-- the workers of a team came back
pub came_back : {S : Type 0} (m : Instance) (word : TableId) (n : ℕ) (left : Seated) (before after : List (Member S)) → IsTeam m word n left before → All (IsMember m word n) after → length after ≡ length before → IsTeam m word n left after
came_back {S} m word n left before after team all len = record { bound = team.bound; fresh = team.fresh; parts = ap (λ (k : ℕ). left.parts + k) len ∙ team.parts; members = all }

-- the same as a round answers it
pub round_back : {S : Type 0} (m : Instance) (word : TableId) (n : ℕ) (left : Seated) (before : List (Member S)) {V : Type 0} (items : V → List (Member S)) (o : Option V) (after : V) → o ≡ Some after → IsTeam m word n left before
    → IfSome o (λ (v : V). All (IsMember m word n) (items v)) → IfSome o (λ (v : V). length (items v) ≡ length before) → IsTeam m word n left (items after)
round_back {S} m word n left before {V} items o after is team all len =
    came_back m word n left before (items after) team (subst (λ (p : Option V). IfSome p (λ (v : V). All (IsMember m word n) (items v))) is all)
    (subst (λ (p : Option V). IfSome p (λ (v : V). length (items v) ≡ length before)) is len)

-- one of several books shows an end
pub ends_one : (end : End) (enough : Option ℕ) (m : Instance) (mode : Mode) (books : List Roomy) (k : ℕ) (b : Roomy) → k < length books → slice_index_or books k b ≡ b → Ends end enough m mode b.book → EndsOne end enough m mode books
ends_one Enough enough m mode books k b low is ends = (k, b, low, is, ends)
ends_one Closed enough m mode books k b low is ends = (k, b, low, is, ends)
ends_one Short enough m mode books k b low is ends = tt
ends_one Stopped enough m mode books k b low is ends = tt

-- that end, or being out of memory
pub ends_one_again : (shown end : End) (enough : Option ℕ) (m : Instance) (mode : Mode) (books after : List Roomy) → (shown ≡ end) ⊎ (shown ≡ Short) → after ≡ books → EndsOne end enough m mode books → EndsOne shown enough m mode after
ends_one_again shown end enough m mode books after (inl same) is ends = subst (λ (e : End). EndsOne e enough m mode after) (sym same) (subst (λ (l : List Roomy). EndsOne end enough m mode l) (sym is) ends)
ends_one_again shown end enough m mode books after (inr short) is ends = subst (λ (e : End). EndsOne e enough m mode after) (sym short) tt

-- the one of a list of one
one_of_one : (P : Roomy → Type 0) (books : List Roomy) (b : Roomy) → length books ≡ 1 → ((d : Roomy) → b ≡ slice_index_or books 0 d) → Any P books → P b
one_of_one P books b one first (k, x, low, is, holds) =
    let none : k ≡ 0 = omega arith in
    let same : slice_index_or books 0 x ≡ x = subst (λ (i : ℕ). slice_index_or books i x ≡ x) none is in
    subst P (sym (first x ∙ same)) holds

-- the end that the one book shows, which was taken from its list
pub ends_alone : (end : End) (enough : Option ℕ) (m : Instance) (mode : Mode) (books : List Roomy) (n : ℕ) (o : Option Roomy) (b c : Roomy) → n ≡ length books → n ≡ 1 → o ≡ Some b → ((d : Roomy) → 0 < n → o ≡ Some (slice_index_or books (n - 1) d)) → c ≡ b
    → EndsOne end enough m mode books → Ends end enough m mode c.book
ends_alone end enough m mode books n o b c len one is last same ends =
    subst (λ (x : Roomy). Ends end enough m mode x.book) (sym same) (elim end as (λ (e : End). EndsOne e enough m mode books → Ends e enough m mode b.book) [
      | Enough ↦ λ any. one_of_one (λ (x : Roomy). Ends Enough enough m mode x.book) books b (sym len ∙ one) first any
      | Closed ↦ λ any. one_of_one (λ (x : Roomy). Ends Closed enough m mode x.book) books b (sym len ∙ one) first any
      | Short ↦ λ any. tt
      | Stopped ↦ λ any. tt
    ] ends)
  where
    first : (d : Roomy) → b ≡ slice_index_or books 0 d
    first d =
        let none : n - 1 ≡ 0 = omega (arith, one) in
        let e : Some b ≡ Some (slice_index_or books 0 d) = sym is ∙ last d (omega (arith, one)) ∙ ap (λ (k : ℕ). Some (slice_index_or books k d)) none in
        cc e
