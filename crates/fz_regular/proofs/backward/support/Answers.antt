use Rattle.std.proofs.Common.{◌≡◌, ℕ, inl, inr, refl, sym, subst, arith}
use Rattle.fz_regular.specs.BitRows.{Has}
use Rattle.fz_regular.specs.Layers.{LeadsIn}
use Rattle.fz_regular.specs.Runs.{LeadsBy}
use Rattle.fz_regular.proofs.Gathering.{gathered_none, gathered_more, gathered_had, gathered_all, found_none, found_next, found_still, found_all}
use Rattle.fz_regular.proofs.Layers.{alike_self, alike_twice, row_alike}
use Rattle.fz_regular.proofs.backward.support.Goals.{then-not-some, else-not-some+else-not-has}
use Rattle.fz_regular.proofs.backward.support.Goals as goal

pub symbols-init : goal.symbols-init
symbols-init c =
    let supports = c.args.supports.now in
    let place = c.args.place in
    let by : ℕ → Type 0 = LeadsBy c.args.automaton.now c.args.values.now place c.args.state in
    let leads : ℕ → Type 0 = LeadsIn c.args.automaton.now c.args.layers.now c.args.after c.args.state in
    let adds : ℕ → ℕ → ℕ → Type 0 = λ s i k. (i ≡ place) × (k ≡ s) × leads s in
    record {
      alike = alike_self supports;
      gathered = gathered_none by adds (Has supports);
      found = found_none (λ k. by k × leads k);
    }

pub add_symbol-some-requires : goal.add_symbol-some-requires
add_symbol-some-requires c =
    let alike = c.symbols.invariant.alike in
    let inside = c.in-Some.ensures.has.0.0 in
    let width = c.requires.width in
    let same = alike.width in
    record {
      after = c.requires.after;
      fits = c.requires.fits;
      state = c.requires.state;
      supports = row_alike c.args.supports.now c.symbols.supports c.args.place alike c.requires.supports;
      symbol = omega (arith, inside, width, same);
    }

pub overflow_add-from : goal.overflow_add-from
overflow_add-from c = let few = c.requires.values.1 in let inside = c.in-Some.ensures.has.0.0 in omega (arith, few, inside)

pub symbols-smaller : goal.symbols-smaller
symbols-smaller c = let least = c.in-Some.ensures.at_least in let inside = c.in-Some.ensures.has.0.0 in omega (arith, least, inside)

pub symbols-preserved : goal.symbols-preserved
symbols-preserved c =
    let supports = c.args.supports.now in
    let now = c.symbols.supports in
    let place = c.args.place in
    let by : ℕ → Type 0 = LeadsBy c.args.automaton.now c.args.values.now place c.args.state in
    let leads : ℕ → Type 0 = LeadsIn c.args.automaton.now c.args.layers.now c.args.after c.args.state in
    let adds : ℕ → ℕ → ℕ → Type 0 = λ s i k. (i ≡ place) × (k ≡ s) × leads s in
    let from = c.symbols.from in
    let symbol = c.in-Some.symbol in
    let next = c.in-Some.ensures in
    let inv = c.symbols.invariant in
    elim c.if-not-some.branch [
      | then-not-some w ↦
          let new = w.add_symbol-some.new.supports in
          rw (w.supports-is, w.some-is)
          record {
            alike = alike_twice supports now new inv.alike (record { width = w.add_symbol-some.ensures.width; size = w.add_symbol-some.ensures.size });
            gathered = gathered_more by adds (Has supports) (Has now) (Has new) from symbol next w.add_symbol-some.ensures.supports inv.gathered;
            found = found_next by leads from symbol c.symbols.some w.add_symbol-some.result next w.add_symbol-some.ensures.leads inv.found;
          }
      | else-not-some+else-not-has w ↦
          rw (w.supports-is, w.some-is)
          record {
            alike = inv.alike;
            gathered = gathered_had by leads place from symbol (Has supports) (Has now) next (w.has.ensures.0 w.if-not-has.false) inv.gathered;
            found = found_still (λ k. by k × leads k) from symbol c.symbols.some next.at_least w.if-not-some.false inv.found;
          }
    ]

pub returns-clause-some : goal.returns-clause-some
returns-clause-some c =
    let values = c.args.values.now in
    let place = c.args.place in
    let by : ℕ → Type 0 = LeadsBy c.args.automaton.now values place c.args.state in
    let leads : ℕ → Type 0 = LeadsIn c.args.automaton.now c.args.layers.now c.args.after c.args.state in
    let found = found_all (λ k. by k × leads k) c.symbols.from c.symbols.some (λ j above has. c.in_default.ensures j above has.0) c.symbols.invariant.found in
    ((λ t. let w = found.0 t in (w.0, w.1.0.0, w.1.1)), (λ w. found.1 (w.0, ((w.1, (w.2.0, w.2.1)), w.2))))

pub returns-clause-supports : goal.returns-clause-supports
returns-clause-supports c = λ i k.
    let values = c.args.values.now in
    let place = c.args.place in
    let by : ℕ → Type 0 = LeadsBy c.args.automaton.now values place c.args.state in
    let leads : ℕ → Type 0 = LeadsIn c.args.automaton.now c.args.layers.now c.args.after c.args.state in
    let adds : ℕ → ℕ → ℕ → Type 0 = λ s i k. (i ≡ place) × (k ≡ s) × leads s in
    let all = gathered_all by adds (Has c.args.supports.now) (Has c.symbols.supports) c.symbols.from c.in_default.ensures c.symbols.invariant.gathered i k in (
      (λ h. elim (all.0 h) [ inl was ↦ inl was | inr w ↦ inr (w.2.0, subst (Has values place) (sym w.2.1) w.1.0, subst leads (sym w.2.1) w.2.2) ]),
      (λ h. all.1 (elim h [ inl was ↦ inl was | inr w ↦ inr (k, (w.1, (w.2.0, w.2.1)), (w.0, refl, w.2)) ])),
    )
