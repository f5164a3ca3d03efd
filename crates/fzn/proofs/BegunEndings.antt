-- What ends a run that is begun.
use Rattle.std.proofs.Common.{◌≡◌, ◌∙◌, ◌<◌, ◌≤◌, ◌-◌, ◌⊎◌, inl, inr, ℕ, zero, suc, List, [], ◌∷◌, ◌++◌, length, take, append_assoc, append-nil, refl, sym, ap, subst, arith, Bool, true, false, Option, Some, None, length-append}
use Rattle.std.specs.Prelude.{ℤ}
use Rattle.std.specs.List.{AllByRecursion}
use Rattle.std.proofs.lemmas.Bool.{cases_lt}
use Rattle.std.proofs.lemmas.List.{length-take-le}
use Rattle.std.proofs.lemmas.List.Sums.{sum_by-take-le}
use Rattle.std.proofs.lemmas.List.Concat.{flat_map-append}
use Rattle.fz_spec.specs.declared.goal.Goal.{Goal}
use Rattle.fz_spec.specs.declared.goal.Goal.TheVariants.{Satisfy, Minimize, Maximize}
use Rattle.fz_spec.specs.declared.term.Term.{Term}
use Rattle.fz_spec.specs.Instance.{Instance, Satisfies, is_same}
use Rattle.fz_spec.specs.Run.{block, blocks, closing}
use Rattle.fz_tree.specs.declared.mode.Mode.{Mode}
use Rattle.fz_tree.specs.Rows.{key}
use Rattle.fz_tree.specs.Account.{times_found}
use Rattle.fz_tree.proofs.Counts.{one_if}
use Rattle.fz_tree.proofs.Same.{found_both}
use Rattle.fz_cmd.specs.Meaning.{Options}
use Rattle.fz_print.specs.Ending.{statistics_text}
use Rattle.fz_model.specs.Kept.{IsModel}
use Rattle.fz_runs.specs.Runs.{AreSome, PrintsEach, PrintsWanted, PrintsGoal, PrintsFor, wanted, counted, certified}
use Rattle.fz_runs.specs.Modes.{mode_of}
use Rattle.fz_runs.proofs.Times.{times_are}
use Rattle.fzn.specs.Begun.{IsBelow, AreFound, AreBegun, IsShort, CanEnd}
use Rattle.fzn.proofs.Certifying.{certifiable, certificate_exists}
use Rattle.fzn.proofs.Extensions.{ListsAll, lists_all, lists_each, GoesUp, goes_up_from}

-- ---- pieces of a list

pub all_front : (P : List ℤ → Type 0) (l k : List (List ℤ)) (n : ℕ) → AllByRecursion P (l ++ k) → AllByRecursion P (l ++ take n k)
all_front P [] k zero h = tt
all_front P [] [] (suc n) h = tt
all_front P [] (x ∷ k) (suc n) h = (h.0, all_front P [] k n h.1)
all_front P (y ∷ l) k n h = (h.0, all_front P l k n h.1)

pub fewer : (mode : Mode) (m : Instance) (a : List ℤ) (l k : List (List ℤ)) (n : ℕ) → times_found mode m a (l ++ take n k) ≤ times_found mode m a (l ++ k)
fewer mode m a l k n =
    let e = found_both mode m a l (take n k) in
    let f = found_both mode m a l k in
    let g = sum_by-take-le (λ x. one_if (is_same (key mode m a) (key mode m x))) k n in
    omega (arith, e, f, g)

-- ---- bytes

closing_some : (l : List (List ℤ)) → 0 < length (closing l)
closing_some [] = omega arith
closing_some (a ∷ l) = omega arith

block_some : (m : Instance) (a : List ℤ) → 0 < length (block m a)
block_some m a = omega (arith, length-append {A = ℕ})

blocks_some : (m : Instance) (n : ℕ) (l : List (List ℤ)) → n ≤ length l → 0 < n → 0 < length (blocks m (take n l))
blocks_some m zero l within some = absurd (omega (arith, some))
blocks_some m (suc n) [] within some = absurd (omega (arith, within))
blocks_some m (suc n) (a ∷ l) within some = let h = block_some m a in omega (arith, h, length-append (block m a) (blocks m (take n l)))

-- ---- whole runs

-- what may be shown after the first blocks, and what ends it
pub record Shows (o : Options) (m : Instance) (goal : Goal) (l : List (List ℤ)) : Type 0 where
  pub later : List (List ℤ)
  pub ending : List ℕ
  pub prints : PrintsFor goal o m (l ++ later) (blocks m l ++ (blocks m later ++ ending))
  pub some : IsShort goal o (length l) → 0 < length (blocks m later ++ ending)

-- all of them, and the closing line
all_text : (m : Instance) (l more : List (List ℤ)) → blocks m (l ++ more) ++ closing (l ++ more) ≡ blocks m l ++ (blocks m more ++ closing (l ++ more))
all_text m l more = ap (λ u. u ++ closing (l ++ more)) (flat_map-append (block m) l more) ∙ append_assoc (blocks m l) (blocks m more) (closing (l ++ more))

front_some : (front end : List ℕ) → 0 < length front → 0 < length (front ++ end)
front_some front end h = omega (arith, h, length-append front end)

end_some : (front end : List ℕ) → 0 < length end → 0 < length (front ++ end)
end_some front end h = omega (arith, h, length-append front end)

all_of : (d : Bool) (m : Instance) (l : List (List ℤ)) (whole : ListsAll d m l) → PrintsEach d m (l ++ whole.more) (blocks m l ++ (blocks m whole.more ++ closing (l ++ whole.more)))
all_of d m l whole = record { lists = lists_each d m (l ++ whole.more) whole.sound whole.each_once; text = sym (all_text m l whole.more) }

some_of : (d : Bool) (m : Instance) (n : ℕ) (l : List (List ℤ)) (whole : ListsAll d m l) → length l ≤ n → n ≤ length (l ++ whole.more) → AreSome d m n (l ++ take (n - length l) whole.more)
some_of d m n l whole few many =
    let size = length-append l whole.more in
    let within : n - length l ≤ length whole.more = omega (arith, size, many) in
    record {
      sound = all_front (Satisfies m) l whole.more (n - length l) whole.sound;
      different = λ a s. (let once = whole.each_once a s in let less = fewer (mode_of d) m a l whole.more (n - length l) in omega (arith, once, less, times_are d m a (l ++ take (n - length l) whole.more)));
      count = (let part = length-take-le (n - length l) whole.more within in let e = length-append l (take (n - length l) whole.more) in omega (arith, part, e, few));
    }

shows_some : (o : Options) (m : Instance) (n : ℕ) (l : List (List ℤ)) (whole : ListsAll o.distinct m l) → wanted o ≡ Some n → length l ≤ n → (length (l ++ whole.more) < n) ⊎ (n ≤ length (l ++ whole.more)) → Shows o m Satisfy l
shows_some o m n l whole asked few (inl less) = record {
  later = whole.more;
  ending = closing (l ++ whole.more);
  prints = subst (λ (w : Option ℕ). PrintsWanted o.distinct w m (l ++ whole.more) (blocks m l ++ (blocks m whole.more ++ closing (l ++ whole.more)))) (sym asked) (inr (less, all_of o.distinct m l whole));
  some = λ _. end_some (blocks m whole.more) (closing (l ++ whole.more)) (closing_some (l ++ whole.more));
}
shows_some o m n l whole asked few (inr many) =
    let k = n - length l in
    record {
      later = take k whole.more;
      ending = [];
      prints = subst (λ (w : Option ℕ). PrintsWanted o.distinct w m (l ++ take k whole.more) (blocks m l ++ (blocks m (take k whole.more) ++ []))) (sym asked)
          (inl (record { are = some_of o.distinct m n l whole few many; text = ap (λ u. blocks m l ++ u) (append-nil (blocks m (take k whole.more))) ∙ sym (flat_map-append (block m) l (take k whole.more)) }));
      some = λ short.
          let below : length l < n = subst (λ (w : Option ℕ). IsBelow w (length l)) asked short in
          let size = length-append l whole.more in
          front_some (blocks m (take k whole.more)) [] (blocks_some m k whole.more (omega (arith, size, many)) (omega (arith, below)));
    }

shows_wanted : (o : Options) (m : Instance) (w : Option ℕ) (l : List (List ℤ)) → wanted o ≡ w → AreFound o.distinct m w l → Shows o m Satisfy l
shows_wanted o m None l asked found =
    let whole = lists_all o.distinct m l found.sound (λ a s. (let few = found.different a s in omega (arith, few, times_are o.distinct m a l))) in
    record {
      later = whole.more;
      ending = closing (l ++ whole.more);
      prints = subst (λ (v : Option ℕ). PrintsWanted o.distinct v m (l ++ whole.more) (blocks m l ++ (blocks m whole.more ++ closing (l ++ whole.more)))) (sym asked) (all_of o.distinct m l whole);
      some = λ _. end_some (blocks m whole.more) (closing (l ++ whole.more)) (closing_some (l ++ whole.more));
    }
shows_wanted o m (Some n) l asked found =
    let whole = lists_all o.distinct m l found.sound (λ a s. (let few = found.different a s in omega (arith, few, times_are o.distinct m a l))) in
    shows_some o m n l whole asked found.within (elim (cases_lt (length (l ++ whole.more)) n) [ inl less ↦ inl less | inr other ↦ inr (omega (arith, other)) ])

-- each better one, up to a best one
best_by : (generate : Option ℕ) (all : Bool) (t : Term) (m : Instance) (l : List (List ℤ)) (up : GoesUp m l) → generate ≡ None → all ≡ true
    → PrintsGoal generate all t m (l ++ up.more) (blocks m l ++ (blocks m up.more ++ closing (l ++ up.more)))
best_by None true t m l up read shows = record {
  are = record { sound = up.sound; improving = up.improving; alone = λ e. absurd (cc e); last = up.ends };
  text = sym (all_text m l up.more);
}
best_by None false t m l up read shows = absurd (cc shows)
best_by (Some items) all t m l up read shows = absurd (cc read)

pub shows : (o : Options) (m : Instance) (goal : Goal) (l : List (List ℤ)) → AreBegun goal o m l → Shows o m goal l
shows o m Satisfy l begun = shows_wanted o m (wanted o) l refl begun
shows o m (Minimize t) l begun =
    let up = goes_up_from m l begun.sound begun.improving in
    record {
      later = up.more;
      ending = closing (l ++ up.more);
      prints = best_by o.generate o.all t m l up begun.read begun.all;
      some = λ _. end_some (blocks m up.more) (closing (l ++ up.more)) (closing_some (l ++ up.more));
    }
shows o m (Maximize t) l begun =
    let up = goes_up_from m l begun.sound begun.improving in
    record {
      later = up.more;
      ending = closing (l ++ up.more);
      prints = best_by o.generate o.all t m l up begun.read begun.all;
      some = λ _. end_some (blocks m up.more) (closing (l ++ up.more)) (closing_some (l ++ up.more));
    }

pub can_end : (o : Options) (m : Instance) (l : List (List ℤ)) → IsModel m → AreBegun m.goal o m l → CanEnd o m l
can_end o m l is begun =
    let s = shows o m m.goal l begun in
    let listed = l ++ s.later in
    let rest = blocks m s.later ++ s.ending in
    let behind = statistics_text (counted o.stats listed) in
    let certificate = certificate_exists m (certified o.certificate m.goal listed) is (certifiable m o listed (blocks m l ++ rest) s.prints) in
    let parted : (blocks m l ++ rest) ++ behind ≡ blocks m l ++ (rest ++ behind) = append_assoc (blocks m l) rest behind in
    record {
      listed = listed;
      more = (rest ++ behind) ++ certificate.0;
      run = record {
        shown = blocks m l ++ rest;
        prints = s.prints;
        certificate = certificate.0;
        certifies = certificate.1;
        text = sym (append_assoc (blocks m l) (rest ++ behind) certificate.0) ∙ ap (λ u. u ++ certificate.0) (sym parted);
      };
      some = λ short. front_some (rest ++ behind) certificate.0 (front_some rest behind (s.some short));
    }
