-- How the blocks of a run are read.
use Rattle.std.proofs.Common.{◌≡◌, ℕ, suc, ◌+◌, ◌-◌, Bool, true, false, ◌||◌, List, [], ◌∷◌, ◌++◌, codes, flat_map, length, slice_get, ℤ, None, refl, sym, ap, ap₂, ◌∙◌, arith, add-zero, append_assoc, append-nil}
use Rattle.std.specs.List.{AllByRecursion}
use Rattle.fz_spec.specs.declared.goal.Goal.TheVariants.{Satisfy}
use Rattle.fz_spec.specs.Instance.{Instance, Output}
use Rattle.fz_spec.specs.Run.{block, blocks, line, output_text}
use Rattle.fz_join.specs.Joins.{AreNamed, IsName}
use Rattle.fz_join.specs.After.{is_some_listed, last_block, last_of, shown_of}
use Rattle.fz_join.specs.Machine.{State, drained, end_block, fresh, read_text}
use Rattle.fz_join.proofs.LineBytes.{above_line, item_line, item_text, known_above}
use Rattle.fz_join.proofs.ReadLines.{begins, dashes_taken, ended, item_taken, line_read, quiet_read, within}

-- ---- a block

-- of these items the lines have not come
abbrev AreLeft : Instance → ℕ → List Output → Type 0
AreLeft m k todo = (i : ℕ) → slice_get m.outputs (k + i) ≡ slice_get todo i

first_left : (m : Instance) (k : ℕ) (todo : List Output) → AreLeft m k todo → slice_get m.outputs k ≡ slice_get todo 0
first_left m k todo left = ap (slice_get m.outputs) (sym (add-zero k)) ∙ left 0

fewer_left : (m : Instance) (k : ℕ) (o : Output) (os : List Output) → AreLeft m k (o ∷ os) → AreLeft m (suc k) os
fewer_left m k o os left i = ap (slice_get m.outputs) (let e : suc k + i ≡ k + suc i = omega arith in e) ∙ left (suc i)

-- a line and what stands behind it
line_parts : (name equal value later dashes rest : List ℕ) → name ++ equal ++ value ++ codes ";\n" ++ later ++ dashes ++ rest ≡ (name ++ equal ++ value ++ codes ";") ++ 10 ∷ (later ++ dashes ++ rest)
line_parts name equal value later dashes rest = simp append_assoc

block_parts : (front name equal value later dashes : List ℕ) → (front ++ ((name ++ equal ++ value ++ codes ";") ++ 10 ∷ [])) ++ (later ++ dashes) ≡ front ++ (name ++ equal ++ value ++ codes ";\n" ++ later ++ dashes)
block_parts front name equal value later dashes = simp append_assoc

items_read : (m : Instance) (all : Bool) (s : State) (a : List ℤ) (todo : List Output) (k : ℕ) (front last printed text rest : List ℕ) → AreLeft m k todo → AllByRecursion (λ (o : Output). IsName o.name) todo
    → text ≡ flat_map (line a) todo ++ codes "----------\n" ++ rest
    → read_text m all (begins (within s (record { items = k; block = front; last = last; value = None })) printed) text
    ≡ read_text m all (begins (drained (ended m all s (front ++ (flat_map (line a) todo ++ codes "----------\n")))) (printed ++ (ended m all s (front ++ (flat_map (line a) todo ++ codes "----------\n"))).out)) rest
items_read m all s a [] k front last printed text rest left named so =
    line_read m all (within s (record { items = k; block = front; last = last; value = None })) (ended m all s (front ++ codes "----------\n")) printed text (codes "----------") rest so
    (above_line 31 (codes "----------") (omega arith) (known_above 31 (codes "----------") refl)) (dashes_taken m all s (record { items = k; block = front; last = last; value = None }) (first_left m k [] left))
items_read m all s a (o ∷ os) k front last printed text rest left named so =
    quiet_read m all (within s (record { items = k; block = front; last = last; value = None })) (within s (record { items = suc k; block = front ++ (item_text a o ++ 10 ∷ []); last = last; value = None })) printed text (item_text a o)
    (flat_map (line a) os ++ codes "----------\n" ++ rest) (so ∙ line_parts o.name (codes " = ") (output_text a o) (flat_map (line a) os) (codes "----------\n") rest) (item_line a o named.0)
    (item_taken m all s (record { items = k; block = front; last = last; value = None }) a o named.0 (first_left m k (o ∷ os) left)) refl
    ∙ items_read m all s a os (suc k) (front ++ (item_text a o ++ 10 ∷ [])) last printed (flat_map (line a) os ++ codes "----------\n" ++ rest) rest (fewer_left m k o os left) named.1 refl
    ∙ ap (λ (b : List ℕ). read_text m all (begins (drained (ended m all s b)) (printed ++ (ended m all s b).out)) rest) (block_parts front o.name (codes " = ") (output_text a o) (flat_map (line a) os) (codes "----------\n"))

block_read : (m : Instance) (all : Bool) (s t : State) (a : List ℤ) (last printed text rest : List ℕ) → AreNamed m → ended m all s (block m a) ≡ t → text ≡ block m a ++ rest
    → read_text m all (begins (within s (fresh last)) printed) text ≡ read_text m all (begins (drained t) (printed ++ t.out)) rest
block_read m all s t a last printed text rest named ends so = items_read m all s a m.outputs 0 [] last printed text rest (λ i. ap (slice_get m.outputs) (let e : 0 + i ≡ i = omega arith in e)) named so
    ∙ ap (λ (u : State). read_text m all (begins (drained u) (printed ++ u.out)) rest) ends

-- ---- all blocks, where there is no goal

-- whether a block is shown
abbrev pub with_shown : Bool → State → State
with_shown shown s = record { times = s.times; section = s.section; best = s.best; bound = s.bound; shown = shown; wrong = s.wrong; out = s.out }

or_false : (b : Bool) → b ≡ (b || false)
or_false true = refl
or_false false = refl

or_true : (b c : Bool) → (true || c) ≡ (b || true)
or_true true c = refl
or_true false c = refl

-- each is printed
each_shown : (m : Instance) (s : State) (shown : Bool) (l : List (List ℤ)) (printed text rest : List ℕ) → m.goal ≡ Satisfy → AreNamed m → text ≡ blocks m l ++ rest
    → read_text m true (begins (within (with_shown shown s) (fresh [])) printed) text ≡ read_text m true (begins (within (with_shown (shown || is_some_listed l) s) (fresh [])) (printed ++ blocks m l)) rest
each_shown m s shown [] printed text rest goal named so =
    ap (read_text m true (begins (within (with_shown shown s) (fresh [])) printed)) so
    ∙ ap₂ (λ (t : Bool) (p : List ℕ). read_text m true (begins (within (with_shown t s) (fresh [])) p) rest) (or_false shown) (sym (append-nil printed))
each_shown m s shown (a ∷ l) printed text rest goal named so =
    block_read m true (with_shown shown s) _ a [] printed text (blocks m l ++ rest) named (ap (end_block true (within (with_shown shown s) (fresh [])) (block m a)) goal) (so ∙ append_assoc (block m a) (blocks m l) rest)
    ∙ each_shown m s true l (printed ++ block m a) (blocks m l ++ rest) rest goal named refl
    ∙ ap₂ (λ (t : Bool) (p : List ℕ). read_text m true (begins (within (with_shown t s) (fresh [])) p) rest) (or_true shown (is_some_listed l)) (append_assoc printed (block m a) (blocks m l))

-- none is printed where one is shown and one was asked for
none_shown : (m : Instance) (s : State) (l : List (List ℤ)) (printed text rest : List ℕ) → m.goal ≡ Satisfy → AreNamed m → text ≡ blocks m l ++ rest
    → read_text m false (begins (within (with_shown true s) (fresh [])) printed) text ≡ read_text m false (begins (within (with_shown true s) (fresh [])) printed) rest
none_shown m s [] printed text rest goal named so = ap (read_text m false (begins (within (with_shown true s) (fresh [])) printed)) so
none_shown m s (a ∷ l) printed text rest goal named so =
    block_read m false (with_shown true s) _ a [] printed text (blocks m l ++ rest) named (ap (end_block false (within (with_shown true s) (fresh [])) (block m a)) goal) (so ∙ append_assoc (block m a) (blocks m l) rest)
    ∙ ap (λ (p : List ℕ). read_text m false (begins (within (with_shown true s) (fresh [])) p) (blocks m l ++ rest)) (append-nil printed)
    ∙ none_shown m s l printed (blocks m l ++ rest) rest goal named refl

pub satisfied_read : (m : Instance) (all shown : Bool) (s : State) (l : List (List ℤ)) (printed text rest : List ℕ) → m.goal ≡ Satisfy → AreNamed m → text ≡ blocks m l ++ rest
    → read_text m all (begins (within (with_shown shown s) (fresh [])) printed) text ≡ read_text m all (begins (within (with_shown (shown || is_some_listed l) s) (fresh [])) (printed ++ blocks m (shown_of all shown l))) rest
satisfied_read m true shown s l printed text rest goal named so = each_shown m s shown l printed text rest goal named so
satisfied_read m false true s l printed text rest goal named so = none_shown m s l printed text rest goal named so
    ∙ ap (λ (p : List ℕ). read_text m false (begins (within (with_shown true s) (fresh [])) p) rest) (sym (append-nil printed))
satisfied_read m false false s [] printed text rest goal named so = ap (read_text m false (begins (within (with_shown false s) (fresh [])) printed)) so
    ∙ ap (λ (p : List ℕ). read_text m false (begins (within (with_shown false s) (fresh [])) p) rest) (sym (append-nil printed))
satisfied_read m false false s (a ∷ l) printed text rest goal named so =
    block_read m false (with_shown false s) _ a [] printed text (blocks m l ++ rest) named (ap (end_block false (within (with_shown false s) (fresh [])) (block m a)) goal) (so ∙ append_assoc (block m a) (blocks m l) rest)
    ∙ none_shown m s l (printed ++ block m a) (blocks m l ++ rest) rest goal named refl
    ∙ ap (λ (b : List ℕ). read_text m false (begins (within (with_shown true s) (fresh [])) (printed ++ b)) rest) (sym (append-nil (block m a)))

-- ---- all blocks, where there is a goal

-- the last block
abbrev last_from : Instance → List ℕ → List (List ℤ) → List ℕ
last_from m last [] = last
last_from m last (a ∷ l) = last_from m (block m a) l

last_same : (m : Instance) (last : List ℕ) (a : List ℤ) (l : List (List ℤ)) → last_from m last (a ∷ l) ≡ last_block m (slice_get (a ∷ l) (length l))
last_same m last a [] = refl
last_same m last a (b ∷ l) = last_same m (block m a) b l

last_is : (m : Instance) (l : List (List ℤ)) → last_from m [] l ≡ last_block m (last_of l)
last_is m [] = refl
last_is m (a ∷ l) = last_same m [] a l ∙ ap (λ (k : ℕ). last_block m (slice_get (a ∷ l) k)) (let e : length l ≡ suc (length l) - 1 = omega arith in e)

better_read : (m : Instance) (all : Bool) (s : State) (l : List (List ℤ)) (last printed text rest : List ℕ) → ((b : List ℕ) → ended m all s b ≡ within s (fresh b)) → AreNamed m → text ≡ blocks m l ++ rest
    → read_text m all (begins (within s (fresh last)) printed) text ≡ read_text m all (begins (within s (fresh (last_from m last l))) printed) rest
better_read m all s [] last printed text rest ends named so = ap (read_text m all (begins (within s (fresh last)) printed)) so
better_read m all s (a ∷ l) last printed text rest ends named so =
    block_read m all s (within s (fresh (block m a))) a last printed text (blocks m l ++ rest) named (ends (block m a)) (so ∙ append_assoc (block m a) (blocks m l) rest)
    ∙ ap (λ (p : List ℕ). read_text m all (begins (within s (fresh (block m a))) p) (blocks m l ++ rest)) (append-nil printed)
    ∙ better_read m all s l (block m a) printed (blocks m l ++ rest) rest ends named refl

pub best_read : (m : Instance) (all : Bool) (s : State) (l : List (List ℤ)) (printed text rest : List ℕ) → ((b : List ℕ) → ended m all s b ≡ within s (fresh b)) → AreNamed m → text ≡ blocks m l ++ rest
    → read_text m all (begins (within s (fresh [])) printed) text ≡ read_text m all (begins (within s (fresh (last_block m (last_of l)))) printed) rest
best_read m all s l printed text rest ends named so = better_read m all s l [] printed text rest ends named so
    ∙ ap (λ (b : List ℕ). read_text m all (begins (within s (fresh b)) printed) rest) (last_is m l)
