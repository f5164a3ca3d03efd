-- Rules one after another, and numbers that are given or have a default.
use Rattle.std.proofs.Common.{◌≡◌, ◌∙◌, ℕ, zero, suc, ◌+◌, ◌<◌, ◌≤◌, List, [], ◌∷◌, Option, Some, None, refl, sym, ap, subst, arith, length, take, fold, get_or, IfSome}
use Rattle.std.specs.Prelude.{ℤ, pos, negsuc, ◌≤ℤ◌, option_map, unwrap_or}
use Rattle.std.proofs.lemmas.Int.{ints}
use Rattle.fz_cmd.specs.declared.options.Takes.TheVariants.{Defaulted}
use Rattle.fz_cmd.specs.Meaning.{IsTakenBy}

fold_next : {A B : Type 0} (f : B → A → B) (b : B) (xs : List A) (i : ℕ) (d : A) → i < length xs → fold f b (take (suc i) xs) ≡ f (fold f b (take i xs)) (get_or xs i d)
fold_next f b [] i d within = absurd (omega (arith, within))
fold_next f b (x ∷ xs) zero d within = refl
fold_next f b (x ∷ xs) (suc i) d within = fold_next f (f b x) xs i d (omega (arith, within))

pub fold_more : {A B : Type 0} (f : B → A → B) (b : B) (xs : List A) (i : ℕ) (d : A) → i < length xs → fold f b (take (i + 1) xs) ≡ f (fold f b (take i xs)) (get_or xs i d)
fold_more f b xs i d within = let e : i + 1 ≡ suc i = omega arith in ap (λ (n : ℕ). fold f b (take n xs)) e ∙ fold_next f b xs i d within

pub some_is : {A : Type 0} (x y : A) → Some x ≡ Some y → x ≡ y
some_is x y e = cc e

-- what is read of an option with a default is a number
given_or : (least most default : ℕ) (given : Option (Option ℕ)) (n : Option ℕ) → Some n ≡ option_map (λ g. Some (unwrap_or g default)) given → IfSome n (IsTakenBy (Defaulted least most default))
    → IsTakenBy (Defaulted least most default) (unwrap_or n 0)
given_or least most default given (Some k) is within = within
given_or least most default None None is within = absurd (cc is)
given_or least most default (Some g) None is within = absurd (cc is)

pub always_taken : (least most default : ℕ) (given : Option (Option ℕ)) (n : Option ℕ) (k : ℕ) → k ≡ unwrap_or n 0 → Some n ≡ option_map (λ g. Some (unwrap_or g default)) given
    → IfSome n (IsTakenBy (Defaulted least most default)) → IsTakenBy (Defaulted least most default) k
always_taken least most default given n k at is within = subst (IsTakenBy (Defaulted least most default)) (sym at) (given_or least most default given n is within)

-- ---- numbers of 32 bits

pub is_short : (least most : ℕ) (n : Option ℕ) → most ≤ 4294967295 → IfSome n (λ (k : ℕ). (least ≤ k) × (k ≤ most)) → IfSome n (λ (k : ℕ). k ≤ 4294967295)
is_short least most None few within = tt
is_short least most (Some k) few within = let high = within.1 in omega (arith, few, high)

pub is_short_signed : (n : Option ℤ) → IfSome n (λ (k : ℤ). (negsuc 2147483645 ≤ℤ k) × (k ≤ℤ pos 2147483646)) → IfSome n (λ (k : ℤ). (negsuc 2147483647 ≤ℤ k) × (k ≤ℤ pos 2147483647))
is_short_signed None within = tt
is_short_signed (Some k) within = let low = within.0 in let high = within.1 in (omega (arith, ints, low, high), omega (arith, ints, low, high))
