-- Lists that an automaton accepts and that lie in domains, by the states on the way.
use Rattle.std.proofs.Common.{◌≡◌, ℕ, zero, suc, ◌+◌, ◌-◌, ◌<◌, ◌≤◌, List, [], ◌∷◌, ◌++◌, refl, sym, subst, ◌∙◌, arith, length, length-append}
use Rattle.std.specs.Prelude.{ℤ, pos, negsuc, ◌≤ℤ◌, slice_get, Option, Some, None, IfSome, ◌↔◌}
use Rattle.std.proofs.lemmas.Int.{ints}
use Rattle.std.proofs.lemmas.Option.{slice_get_within}
use Rattle.fz_sets.specs.Sets.{IsInSet}
use Rattle.fz_spec.specs.declared.term.Term.{Term}
use Rattle.fz_spec.specs.Truth.{Automaton, IsState, IsStep, IsRun}
use Rattle.fz_strength.specs.Domains.{term_set}
use Rattle.fz_strength.specs.Tables.{LieWithin}
use Rattle.fz_strength.specs.Regular.{IsLeftWord, IsInLeftWord}
use Rattle.fz_regular.specs.declared.bit_rows.BitRows.{BitRows}
use Rattle.fz_regular.specs.BitRows.{Has}
use Rattle.fz_regular.specs.Runs.{number, LeadsTo, IsReached, IsAccepting, CanEnd, IsOnTheWay, IsLeftAt, AllowsLeft, AreInWords}

-- a positive number is one of a state or a symbol
pub counted : (n : ℤ) → pos 1 ≤ℤ n → (k : ℕ) × (n ≡ number k)
counted (pos zero) above = absurd (omega (arith, ints, above))
counted (pos (suc k)) above = (k, omega (arith, ints))
counted (negsuc k) above = absurd (omega (arith, ints, above))

-- ---- numbers at places

-- the numbers lie in the domains from place i on
abbrev LieFrom : List Term → List (List (ℤ × ℤ)) → ℕ → List ℤ → Type 0
LieFrom xs ds i [] = Unit {0}
LieFrom xs ds i (n ∷ ns) = IsLeftAt xs ds i n × LieFrom xs ds (suc i) ns

lie_join : (xs : List Term) (ds : List (List (ℤ × ℤ))) (i j : ℕ) (ns ms : List ℤ) → j ≡ i + length ns → LieFrom xs ds i ns → LieFrom xs ds j ms → LieFrom xs ds i (ns ++ ms)
lie_join xs ds i j [] ms e first second = subst (λ (k : ℕ). LieFrom xs ds k ms) (omega (arith, e)) second
lie_join xs ds i j (n ∷ ns) ms e first second = (first.0, lie_join xs ds (suc i) j ns ms (omega (arith, e)) first.1 second)

lie_at : (xs : List Term) (ds : List (List (ℤ × ℤ))) (i j : ℕ) (ns : List ℤ) (n : ℤ) → LieFrom xs ds i ns → slice_get ns j ≡ Some n → IsLeftAt xs ds (j + i) n
lie_at xs ds i j [] n lie at = absurd (cc (at))
lie_at xs ds i zero (m ∷ ns) n lie at = let e : m ≡ n = cc (at) in subst (λ (k : ℕ). IsLeftAt xs ds k n) (omega arith) (subst (IsLeftAt xs ds i) e lie.0)
lie_at xs ds i (suc j) (m ∷ ns) n lie at = subst (λ (k : ℕ). IsLeftAt xs ds k n) (omega arith) (lie_at xs ds (suc i) j ns n lie.1 at)

lie_by : (xs : List Term) (ds : List (List (ℤ × ℤ))) (i : ℕ) (ns : List ℤ) → ((j : ℕ) (n : ℤ) → slice_get ns j ≡ Some n → IsLeftAt xs ds (j + i) n) → LieFrom xs ds i ns
lie_by xs ds i [] each = tt
lie_by xs ds i (n ∷ ns) each = (
  subst (λ (k : ℕ). IsLeftAt xs ds k n) (omega arith) (each 0 n refl),
  lie_by xs ds (suc i) ns (λ j m at. subst (λ (k : ℕ). IsLeftAt xs ds k m) (omega arith) (each (suc j) m at)),
)

within_of : (xs : List Term) (ds : List (List (ℤ × ℤ))) (ns : List ℤ) → length ns ≡ length xs → LieFrom xs ds 0 ns → LieWithin ds xs ns
within_of xs ds ns size lie = record {
  size = size;
  each = λ j t n at_t at_n.
      let left = lie_at xs ds 0 j ns n lie at_n in
      let same : slice_get xs j ≡ Some left.0 = subst (λ (k : ℕ). slice_get xs k ≡ Some left.0) (omega arith) left.1 in
      let is : left.0 ≡ t = cc (same, at_t) in
      subst (λ (u : Term). IsInSet (term_set ds u) n) is left.2;
}

term_at : (xs : List Term) (j : ℕ) → j < length xs → (t : Term) × (slice_get xs j ≡ Some t)
term_at [] j inside = absurd (omega (arith, inside))
term_at (t ∷ xs) zero inside = (t, refl)
term_at (t ∷ xs) (suc j) inside = term_at xs j (omega (arith, inside))

lie_of : (xs : List Term) (ds : List (List (ℤ × ℤ))) (ns : List ℤ) → LieWithin ds xs ns → LieFrom xs ds 0 ns
lie_of xs ds ns within = lie_by xs ds 0 ns (λ j n at.
    let inside = slice_get_within ns j n at in
    let size = within.size in
    let t = term_at xs j (omega (arith, inside, size)) in
    subst (λ (k : ℕ). IsLeftAt xs ds k n) (omega arith) (t.0, t.1, within.each j t.0 n t.1 at))

-- ---- paths

-- the numbers lead from one state to another
abbrev Path : Automaton → ℕ → List ℤ → ℕ → Type 0
Path a p [] r = p ≡ r
Path a p (n ∷ ns) r = (k : ℕ) × (q : ℕ) × (n ≡ number k) × LeadsTo a p k q × Path a q ns r

path_join : (a : Automaton) (p q r : ℕ) (ns ms : List ℤ) → Path a p ns q → Path a q ms r → Path a p (ns ++ ms) r
path_join a p q r [] ms first second = subst (λ (s : ℕ). Path a s ms r) (sym first) second
path_join a p q r (n ∷ ns) ms first second = (first.0, first.1, first.2, first.3, path_join a first.1 q r ns ms first.4 second)

run_of : (a : Automaton) (p r : ℕ) (ns : List ℤ) → Path a p ns r → IsAccepting a r → (states : List ℤ) × IsRun a (number p ∷ states) ns
run_of a p r [] path ends = ([], subst (IsAccepting a) (sym path) ends)
run_of a p r (n ∷ ns) path ends =
    let rest = run_of a path.1 r ns path.4 ends in
    (number path.1 ∷ rest.0, (path.3.from, subst (λ (m : ℤ). IsStep a (number p) m (number path.1)) (sym path.2) path.3.step, rest.1))

-- ---- from states to lists

-- a list that leads from the start to a state
record Leading (a : Automaton) (xs : List Term) (ds : List (List (ℤ × ℤ))) (i p : ℕ) : Type 0 where
  list : List ℤ
  start : ℕ
  size : length list ≡ i
  lie : LieFrom xs ds 0 list
  is_start : a.start ≡ number start
  path : Path a start list p

leading : (a : Automaton) (xs : List Term) (ds : List (List (ℤ × ℤ))) (Allows : ℕ → ℕ → Type 0) → AllowsLeft a xs ds Allows → (i p : ℕ) → i ≤ length xs → IsReached a Allows i p → Leading a xs ds i p
leading a xs ds Allows allow zero p inside h = record { list = []; start = p; size = refl; lie = tt; is_start = h.0; path = refl }
leading a xs ds Allows allow (suc i) p inside h =
    let before = leading a xs ds Allows allow i h.0 (omega (arith, inside)) h.2 in
    let k = h.1 in
    let left = (allow i k (omega (arith, inside)) h.4.step.0).0 h.3 in
    let ns = before.list in
    let e : i ≡ 0 + length ns = (let size = before.size in omega (arith, size)) in
    let last : Path a h.0 (number k ∷ []) p = (k, p, refl, h.4, refl) in
    record {
      list = ns ++ number k ∷ [];
      start = before.start;
      size = (let size = before.size in let more = length-append ns (number k ∷ []) in omega (arith, size, more));
      lie = lie_join xs ds 0 i ns (number k ∷ []) e before.lie (left, tt);
      is_start = before.is_start;
      path = path_join a before.start h.0 p ns (number k ∷ []) before.path last;
    }

-- a list that leads from a state to one that accepts
record Ending (a : Automaton) (xs : List Term) (ds : List (List (ℤ × ℤ))) (more i p : ℕ) : Type 0 where
  list : List ℤ
  last : ℕ
  size : length list ≡ more
  lie : LieFrom xs ds i list
  path : Path a p list last
  accepts : IsAccepting a last

ending : (a : Automaton) (xs : List Term) (ds : List (List (ℤ × ℤ))) (Allows : ℕ → ℕ → Type 0) → AllowsLeft a xs ds Allows → (more i p : ℕ) → i + more ≡ length xs → CanEnd a Allows more i p → Ending a xs ds more i p
ending a xs ds Allows allow zero i p e h = record { list = []; last = p; size = refl; lie = tt; path = refl; accepts = h }
ending a xs ds Allows allow (suc more) i p e h =
    let after = ending a xs ds Allows allow more (suc i) h.1 (omega (arith, e)) h.4 in
    record {
      list = number h.0 ∷ after.list;
      last = after.last;
      size = (let size = after.size in omega (arith, size));
      lie = ((allow i h.0 (omega (arith, e)) h.3.step.0).0 h.2, after.lie);
      path = (h.0, h.1, refl, h.3, after.path);
      accepts = after.accepts;
    }

word_of : (a : Automaton) (xs : List Term) (ds : List (List (ℤ × ℤ))) (i more p : ℕ) → i + more ≡ length xs → (l : Leading a xs ds i p) → (m : Ending a xs ds more i p) → IsLeftWord a xs ds (l.list ++ m.list)
word_of a xs ds i more p e l m =
    let whole = path_join a l.start p m.last l.list m.list l.path m.path in
    let run = run_of a l.start m.last (l.list ++ m.list) whole m.accepts in
    let long = length-append l.list m.list in
    let first = l.size in
    let second = m.size in
    record {
      accepted = (run.0, subst (λ (s : ℤ). IsRun a (s ∷ run.0) (l.list ++ m.list)) (sym l.is_start) run.1);
      within = within_of xs ds (l.list ++ m.list) (omega (arith, e, long, first, second)) (lie_join xs ds 0 i l.list m.list (omega (arith, first)) l.lie m.lie);
    }

get_behind : (ns ms : List ℤ) (i : ℕ) (n : ℤ) → length ns ≡ i → slice_get (ns ++ n ∷ ms) i ≡ Some n
get_behind [] ms zero n size = refl
get_behind [] ms (suc i) n size = absurd (omega (arith, size))
get_behind (m ∷ ns) ms zero n size = absurd (omega (arith, size))
get_behind (m ∷ ns) ms (suc i) n size = get_behind ns ms i n (omega (arith, size))

-- a symbol on the way stands in a list
pub to_word : (a : Automaton) (xs : List Term) (ds : List (List (ℤ × ℤ))) (Allows : ℕ → ℕ → Type 0) → AllowsLeft a xs ds Allows → (i k : ℕ) → i < length xs → IsOnTheWay a Allows (length xs) i k
    → IsInLeftWord a xs ds i (number k)
to_word a xs ds Allows allow i k inside way =
    let before = leading a xs ds Allows allow i way.from (omega (arith, inside)) way.reached in
    let more = length xs - suc i in
    let after = ending a xs ds Allows allow more (suc i) way.to (omega (arith, inside)) way.ends in
    let left = (allow i k inside way.leads.step.0).0 way.allowed in
    let size = after.size in
    let here : Ending a xs ds (suc more) i way.from = record {
      list = number k ∷ after.list;
      last = after.last;
      size = omega (arith, size);
      lie = (left, after.lie);
      path = (k, way.to, refl, way.leads, after.path);
      accepts = after.accepts;
    } in
    (before.list ++ number k ∷ after.list, word_of a xs ds i (suc more) way.from (omega (arith, inside)) before here, get_behind before.list after.list i (number k) before.size)

pub some_word : (a : Automaton) (xs : List Term) (ds : List (List (ℤ × ℤ))) (Allows : ℕ → ℕ → Type 0) → AllowsLeft a xs ds Allows → (p : ℕ) → IsReached a Allows (length xs) p → IsAccepting a p
    → (word : List ℤ) × IsLeftWord a xs ds word
some_word a xs ds Allows allow p reached accepts =
    let before = leading a xs ds Allows allow (length xs) p (omega arith) reached in
    let after : Ending a xs ds 0 (length xs) p = ending a xs ds Allows allow 0 (length xs) p (omega arith) accepts in
    (before.list ++ after.list, word_of a xs ds (length xs) 0 p (omega arith) before after)

-- ---- from lists to states

pub run_state : (a : Automaton) (p : ℤ) (states ns : List ℤ) → IsRun a (p ∷ states) ns → IsState a p
run_state a p [] [] run = run.0
run_state a p (to ∷ states) (n ∷ ns) run = run.0
run_state a p [] (n ∷ ns) run = absurd run
run_state a p (to ∷ states) [] run = absurd run

-- a step of a run, by the places of its states and its symbol
record Step (a : Automaton) (xs : List Term) (ds : List (List (ℤ × ℤ))) (Allows : ℕ → ℕ → Type 0) (i p : ℕ) (n to : ℤ) : Type 0 where
  symbol : ℕ
  next : ℕ
  is_symbol : n ≡ number symbol
  is_next : to ≡ number next
  allowed : Allows i symbol
  leads : LeadsTo a p symbol next

step_of : (a : Automaton) (xs : List Term) (ds : List (List (ℤ × ℤ))) (Allows : ℕ → ℕ → Type 0) → AllowsLeft a xs ds Allows → (i p : ℕ) (n to : ℤ) → i < length xs → IsLeftAt xs ds i n
    → IsState a (number p) → IsStep a (number p) n to → IsState a to → Step a xs ds Allows i p n to
step_of a xs ds Allows allow i p n to inside left from step state =
    let k = counted n step.0.0 in
    let r = counted to state.0 in
    let whole : IsStep a (number p) (number k.0) (number r.0) = subst (IsStep a (number p) (number k.0)) r.1 (subst (λ (m : ℤ). IsStep a (number p) m to) k.1 step) in
    record {
      symbol = k.0;
      next = r.0;
      is_symbol = k.1;
      is_next = r.1;
      allowed = (allow i k.0 inside whole.0).1 (subst (IsLeftAt xs ds i) k.1 left);
      leads = record { from = from; step = whole; to = subst (IsState a) r.1 state };
    }

can_end : (a : Automaton) (xs : List Term) (ds : List (List (ℤ × ℤ))) (Allows : ℕ → ℕ → Type 0) → AllowsLeft a xs ds Allows → (i p : ℕ) (states ns : List ℤ) → i + length ns ≡ length xs → LieFrom xs ds i ns
    → IsRun a (number p ∷ states) ns → CanEnd a Allows (length ns) i p
can_end a xs ds Allows allow i p [] [] e lie run = run
can_end a xs ds Allows allow i p (to ∷ states) (n ∷ ns) e lie run =
    let step = step_of a xs ds Allows allow i p n to (omega (arith, e)) lie.0 run.0 run.1 (run_state a to states ns run.2) in (
      step.symbol,
      step.next,
      step.allowed,
      step.leads,
      can_end a xs ds Allows allow (suc i) step.next states ns (omega (arith, e)) lie.1 (subst (λ (s : ℤ). IsRun a (s ∷ states) ns) step.is_next run.2),
    )
can_end a xs ds Allows allow i p [] (n ∷ ns) e lie run = absurd run
can_end a xs ds Allows allow i p (to ∷ states) [] e lie run = absurd run

-- a number stands on the way
abbrev IsWay : Automaton → (ℕ → ℕ → Type 0) → ℕ → ℕ → ℤ → Type 0
IsWay a Allows places i n = (k : ℕ) × (n ≡ number k) × IsOnTheWay a Allows places i k

ways : (a : Automaton) (xs : List Term) (ds : List (List (ℤ × ℤ))) (Allows : ℕ → ℕ → Type 0) → AllowsLeft a xs ds Allows → (i p : ℕ) (states ns : List ℤ) → i + length ns ≡ length xs → LieFrom xs ds i ns
    → IsReached a Allows i p → IsRun a (number p ∷ states) ns → (j : ℕ) (n : ℤ) → slice_get ns j ≡ Some n → IsWay a Allows (length xs) (j + i) n
ways a xs ds Allows allow i p states [] e lie reached run j n at = absurd (cc (at))
ways a xs ds Allows allow i p [] (m ∷ ns) e lie reached run j n at = absurd run
ways a xs ds Allows allow i p (to ∷ states) (m ∷ ns) e lie reached run zero n at =
    let step = step_of a xs ds Allows allow i p m to (omega (arith, e)) lie.0 run.0 run.1 (run_state a to states ns run.2) in
    let ends = can_end a xs ds Allows allow (suc i) step.next states ns (omega (arith, e)) lie.1 (subst (λ (s : ℤ). IsRun a (s ∷ states) ns) step.is_next run.2) in
    let left : length ns ≡ length xs - suc i = omega (arith, e) in
    let way : IsOnTheWay a Allows (length xs) i step.symbol =
    record { from = p; to = step.next; reached = reached; allowed = step.allowed; leads = step.leads; ends = subst (λ (more : ℕ). CanEnd a Allows more (suc i) step.next) left ends } in
    let same : m ≡ n = cc (at) in
    (step.symbol, sym same ∙ step.is_symbol, subst (λ (k : ℕ). IsOnTheWay a Allows (length xs) k step.symbol) (omega arith) way)
ways a xs ds Allows allow i p (to ∷ states) (m ∷ ns) e lie reached run (suc j) n at =
    let step = step_of a xs ds Allows allow i p m to (omega (arith, e)) lie.0 run.0 run.1 (run_state a to states ns run.2) in
    let on = ways a xs ds Allows allow (suc i) step.next states ns (omega (arith, e)) lie.1 (p, step.symbol, reached, step.allowed, step.leads)
    (subst (λ (s : ℤ). IsRun a (s ∷ states) ns) step.is_next run.2) j n at in
    subst (λ (k : ℕ). IsWay a Allows (length xs) k n) (omega arith) on

ends_of : (a : Automaton) (xs : List Term) (ds : List (List (ℤ × ℤ))) (Allows : ℕ → ℕ → Type 0) → AllowsLeft a xs ds Allows → (i p : ℕ) (states ns : List ℤ) → i + length ns ≡ length xs → LieFrom xs ds i ns
    → IsReached a Allows i p → IsRun a (number p ∷ states) ns → (r : ℕ) × IsReached a Allows (length xs) r × IsAccepting a r
ends_of a xs ds Allows allow i p [] [] e lie reached run = (p, subst (λ (j : ℕ). IsReached a Allows j p) (omega (arith, e)) reached, run)
ends_of a xs ds Allows allow i p (to ∷ states) (n ∷ ns) e lie reached run =
    let step = step_of a xs ds Allows allow i p n to (omega (arith, e)) lie.0 run.0 run.1 (run_state a to states ns run.2) in
    ends_of a xs ds Allows allow (suc i) step.next states ns (omega (arith, e)) lie.1 (p, step.symbol, reached, step.allowed, step.leads) (subst (λ (s : ℤ). IsRun a (s ∷ states) ns) step.is_next run.2)
ends_of a xs ds Allows allow i p [] (n ∷ ns) e lie reached run = absurd run
ends_of a xs ds Allows allow i p (to ∷ states) [] e lie reached run = absurd run

-- a number that stands in a list is on the way
pub of_word : (a : Automaton) (xs : List Term) (ds : List (List (ℤ × ℤ))) (Allows : ℕ → ℕ → Type 0) → AllowsLeft a xs ds Allows → (i : ℕ) (n : ℤ) → IsInLeftWord a xs ds i n
    → (k : ℕ) × (n ≡ number k) × IsOnTheWay a Allows (length xs) i k
of_word a xs ds Allows allow i n h =
    let word = h.0 in
    let run = h.1.accepted in
    let state = run_state a a.start run.0 word run.1 in
    let s = counted a.start state.0 in
    let size = h.1.within.size in
    let way = ways a xs ds Allows allow 0 s.0 run.0 word (omega (arith, size)) (lie_of xs ds word h.1.within) (s.1, subst (IsState a) s.1 state)
    (subst (λ (p : ℤ). IsRun a (p ∷ run.0) word) s.1 run.1) i n h.2 in
    subst (λ (k : ℕ). IsWay a Allows (length xs) k n) (omega arith) way

pub word_ends : (a : Automaton) (xs : List Term) (ds : List (List (ℤ × ℤ))) (Allows : ℕ → ℕ → Type 0) → AllowsLeft a xs ds Allows → (word : List ℤ) → IsLeftWord a xs ds word
    → (r : ℕ) × IsReached a Allows (length xs) r × IsAccepting a r
word_ends a xs ds Allows allow word h =
    let run = h.accepted in
    let state = run_state a a.start run.0 word run.1 in
    let s = counted a.start state.0 in
    let size = h.within.size in
    ends_of a xs ds Allows allow 0 s.0 run.0 word (omega (arith, size)) (lie_of xs ds word h.within) (s.1, subst (IsState a) s.1 state) (subst (λ (p : ℤ). IsRun a (p ∷ run.0) word) s.1 run.1)

-- in the row of each place are the numbers of lists, where the symbols on the way are in it
pub in_words : (a : Automaton) (xs : List Term) (ds : List (List (ℤ × ℤ))) (Allows : ℕ → ℕ → Type 0) (b : BitRows) → AllowsLeft a xs ds Allows
    → ((i k : ℕ) → Has b i k ↔ ((i < length xs) × IsOnTheWay a Allows (length xs) i k)) → AreInWords a xs ds b
in_words a xs ds Allows b allow are i n inside = (
  (λ h. subst (IsInLeftWord a xs ds i) (sym h.1) (to_word a xs ds Allows allow i h.0 inside ((are i h.0).0 h.2).1)),
  (λ w. let way = of_word a xs ds Allows allow i n w in (way.0, way.1, (are i way.0).1 (inside, way.2))),
)

pub if_some : (o : Option BitRows) (P Q : BitRows → Type 0) → ((b : BitRows) → P b → Q b) → IfSome o P → IfSome o Q
if_some None P Q f h = tt
if_some (Some b) P Q f h = f b h
