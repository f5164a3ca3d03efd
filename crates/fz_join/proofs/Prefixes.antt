-- Two prefixes, one behind the other; and how a part begins.
use Rattle.std.proofs.Common.{◌≡◌, ◌∙◌, ℕ, Bool, true, false, List, [], ◌∷◌, ◌++◌, refl, sym, ap, Some, None, option_map}
use Rattle.std.specs.Prelude.{Option, ℤ, codes, bytes_eq, nat_eq, is_some, slice_get, unwrap_or, if◌then◌else◌}
use Rattle.std.proofs.lemmas.Slice.Eq.{bytes_eq-Decides}
use mathlib.Core.Path.{fun_ext}
use Rattle.fz_spec.specs.Instance.{Instance, Output}
use Rattle.fz_join.specs.Joins.{rank}
use Rattle.fz_join.specs.Machine.{Section, State, after, begin_known, begin_named, begin_part, block_line, bound_of, comment_of, counted, fresh, least_of, one_more, section_line, spoilt, word_of}

-- ---- prefixes

pub both_after : (p q text rest : List ℕ) → after p text ≡ Some rest → after (p ++ q) text ≡ after q rest
both_after [] q text rest is = ap (after q) (ap (λ t. unwrap_or t text) is)
both_after (b ∷ bs) q [] rest is = absurd (let bad : None ≡ Some rest = is in cc)
both_after (b ∷ bs) q (t ∷ ts) rest is = same (nat_eq b t) is (both_after bs q ts rest)
  where
    same : (e : Bool) → (if e then after bs ts else None) ≡ Some rest → (after bs ts ≡ Some rest → after (bs ++ q) ts ≡ after q rest) → (if e then after (bs ++ q) ts else None) ≡ after q rest
    same true here later = later here
    same false here later = absurd (let bad : None ≡ Some rest = here in cc)

pub none_after : (p q text : List ℕ) → after p text ≡ None → after (p ++ q) text ≡ None
none_after [] q text is = absurd (let bad : Some text ≡ None = is in cc)
none_after (b ∷ bs) q [] is = refl
none_after (b ∷ bs) q (t ∷ ts) is = same (nat_eq b t) is (none_after bs q ts)
  where
    same : (e : Bool) → (if e then after bs ts else None) ≡ None → (after bs ts ≡ None → after (bs ++ q) ts ≡ None) → (if e then after (bs ++ q) ts else None) ≡ None
    same true here later = later here
    same false here later = refl

-- ---- a line of a part

-- a line of an item
pub item_line : (m : Instance) (all : Bool) (s : State) (x : Section) (line : List ℕ) (item : Option Output) → None ≡ comment_of x.block line → slice_get m.outputs x.items ≡ item → block_line m all s x line item ≡ section_line m all s x line (comment_of x.block line)
item_line m all s x line item none is = sym (ap (block_line m all s x line) is) ∙ ap (section_line m all s x line) none

-- ---- a part begins

pub unknown : (times : Option ℕ) → is_some times ≡ false → times ≡ None
unknown None none = refl
unknown (Some n) none = absurd (let bad : true ≡ false = none in cc)

-- what isn't there isn't counted
pub not_counted : (name : List ℕ) (times : List ℕ → Option ℕ) → times name ≡ None → counted name times ≡ times
not_counted name times none = fun_ext (λ text. by_name text (bytes_eq name text) refl)
  where
    by_name : (text : List ℕ) (e : Bool) → bytes_eq name text ≡ e → (if e then option_map one_more (times text) else times text) ≡ times text
    by_name text true same = let there : times text ≡ None = ap times (sym ((bytes_eq-Decides name text).0 same)) ∙ none in ap (option_map one_more) there ∙ sym there
    by_name text false other = refl

pub begins_unknown : (m : Instance) (s : State) (line words name behind : List ℕ) → Some words ≡ after (codes "%%%part ") line → (name, behind) ≡ word_of words → s.times name ≡ None → begin_part m s (after (codes "%%%part ") line) ≡ spoilt s
begins_unknown m s line words name behind is parted none = sym (ap (begin_part m s) is) ∙ sym (ap (begin_named m s) parted) ∙ ap (λ n. begin_known m s name n (bound_of behind)) none

pub begins_known : (m : Instance) (s : State) (line words name behind : List ℕ) (bound : Option ℤ) → Some words ≡ after (codes "%%%part ") line → (name, behind) ≡ word_of words → is_some (s.times name) ≡ true → Some bound ≡ bound_of behind
    → begin_part m s (after (codes "%%%part ") line) ≡ record { times = counted name s.times; section = Some (fresh []); best = s.best; bound = least_of s.bound (option_map (rank m.goal) bound); shown = s.shown; wrong = s.wrong; out = s.out }
begins_known m s line words name behind bound is parted some bounded = sym (ap (begin_part m s) is) ∙ sym (ap (begin_named m s) parted) ∙ sym (ap (begin_known m s name (s.times name)) bounded) ∙ by_times (s.times name) some
  where
    by_times : (n : Option ℕ) → is_some n ≡ true → begin_known m s name n (Some bound) ≡ record { times = counted name s.times; section = Some (fresh []); best = s.best; bound = least_of s.bound (option_map (rank m.goal) bound); shown = s.shown; wrong = s.wrong; out = s.out }
    by_times None there = absurd (let bad : false ≡ true = there in cc)
    by_times (Some n) there = refl

-- a state with other times
abbrev pub with_times : State → (List ℕ → Option ℕ) → State
with_times s f = record { times = f; section = s.section; best = s.best; bound = s.bound; shown = s.shown; wrong = s.wrong; out = s.out }
