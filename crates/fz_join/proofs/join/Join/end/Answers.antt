use Rattle.std.proofs.Common.{◌≡◌, ◌∙◌, Bool, true, false, Err, Ok, sym, subst, refl}
use Rattle.std.proofs.lemmas.Bool.{false≢true}
use Rattle.fz_model.specs.Kept.{IsModel}
use Rattle.fz_join.specs.declared.lack.Lack.TheVariants.{CutOff, Part, Bound, NoSolution}
use Rattle.fz_join.specs.contracts.join.Join.{the_view}
use Rattle.fz_join.specs.Joins.{AreNamed}
use Rattle.fz_join.specs.Checking.{ArePassed, HasFalse, Knows}
use Rattle.fz_join.specs.Joining.{AreBlocks, AreSolutions, Ends, Joining}
use Rattle.fz_join.specs.Machine.{begun, read_text}
use Rattle.fz_join.specs.Tallies.{reading_of}
use Rattle.fz_join.specs.declared.reader.Reader.{Reader}
use Rattle.fz_join.proofs.Finishing.{IsRead, bound_lacking, cut_off, false_best, false_block, found, part_lacks, whole}
use Rattle.fz_join.proofs.join.Join.end.Goals as goal

-- the reader of a join
record IsReader (v : Joining) (r : Reader) : Type 0 where
  read : read_text v.model v.all (begun v.parts) v.read ≡ reading_of r
  knows : Knows v.model r
  printed : v.printed ≡ r.printed.bytes

knows : (v j : Joining) (r : Reader) → v ≡ j → IsModel v.model → AreNamed j.model → IsReader v r → IsRead v (reading_of r)
knows v j r is model named reader = record {
  model = model;
  named = subst (λ (k : Joining). AreNamed k.model) (sym is) named;
  is = reader.read;
  blocks = subst (AreBlocks v.model) (sym reader.printed) reader.knows.blocks;
  sound = λ shows. subst (AreSolutions v.model) (sym reader.printed) (reader.knows.sound shows);
}

-- all is passed on, or a false block was found
all_printed : (v : Joining) (r : Reader) → r.is_false ≡ false → IsReader v r → v.printed ≡ r.found.bytes
all_printed v r is reader = reader.printed ∙ subst (λ (b : Bool). ArePassed b v.model r.found.bytes r.printed.bytes) is reader.knows.passed

has_false : (v : Joining) (r : Reader) → r.is_false ≡ true → IsReader v r → HasFalse v.model r.found.bytes v.printed
has_false v r is reader = subst (HasFalse v.model r.found.bytes) (sym reader.printed) (subst (λ (b : Bool). ArePassed b v.model r.found.bytes r.printed.bytes) is reader.knows.passed)

pub returns-then-not-is_whole : goal.returns-then-not-is_whole
returns-then-not-is_whole c =
    let v = the_view c.self.inside in
    let x = reading_of c.self.inside.reader in
    let text = c.args.text.now.items in
    let kept = c.self.invariant c.if-self.false in
    let reader : IsReader v c.self.inside.reader = record { read = kept.0; knows = kept.1; printed = refl } in
    let known = knows v c.args.self.now c.self.inside.reader c.self.view_is c.goal-goal.ensures.kept c.requires reader in
    subst (λ (j : Joining). Ends (Err CutOff) j text text) c.self.view_is
    (cut_off v x text known (λ ended. false≢true (sym c.if-not-is_whole.true ∙ c.is_whole.ensures.1 ended)))

pub returns-then-is_found : goal.returns-then-is_found
returns-then-is_found c =
    let v = the_view c.self.inside in
    let x = reading_of c.self.inside.reader in
    let text = c.args.text.now.items in
    let kept = c.self.invariant c.if-self.false in
    let reader : IsReader v c.self.inside.reader = record { read = kept.0; knows = kept.1; printed = refl } in
    let known = knows v c.args.self.now c.self.inside.reader c.self.view_is c.goal-goal.ensures.kept c.requires reader in
    let shown = rw c.goal-goal.ensures.goal at c.is_found.ensures in
    subst (λ (j : Joining). Ends (Ok tt) j text text) c.self.view_is (found v x text known (all_printed v c.self.inside.reader c.if-self-2.false reader) (shown.0 c.if-is_found.true))

pub returns-in-Some : goal.returns-in-Some
returns-in-Some c =
    let v = the_view c.self.inside in
    let x = reading_of c.self.inside.reader in
    let text = c.args.text.now.items in
    let kept = c.self.invariant c.if-self.false in
    let reader : IsReader v c.self.inside.reader = record { read = kept.0; knows = kept.1; printed = refl } in
    let known = knows v c.args.self.now c.self.inside.reader c.self.view_is c.goal-goal.ensures.kept c.requires reader in
    let shown = rw c.goal-goal.ensures.goal at c.is_found.ensures in
    let lacks = rw (c.in-Some.is, c.deref.ensures.value) at c.in_ok-place.ensures.some in
    subst (λ (j : Joining). Ends (Err (Part c.in-Some.place)) j text text) c.self.view_is
    (part_lacks v x text c.in-Some.place known (λ is. false≢true (sym c.if-is_found.false ∙ shown.1 is)) lacks)

pub returns-then-not-is_reached : goal.returns-then-not-is_reached
returns-then-not-is_reached c =
    let v = the_view c.self.inside in
    let x = reading_of c.self.inside.reader in
    let text = c.args.text.now.items in
    let kept = c.self.invariant c.if-self.false in
    let reader : IsReader v c.self.inside.reader = record { read = kept.0; knows = kept.1; printed = refl } in
    let known = knows v c.args.self.now c.self.inside.reader c.self.view_is c.goal-goal.ensures.kept c.requires reader in
    let lacks = sym (rw c.goal-goal.ensures.goal at c.is_reached.ensures) ∙ c.if-not-is_reached.true in
    subst (λ (j : Joining). Ends (Err Bound) j text text) c.self.view_is (bound_lacking v x text known lacks)

pub returns : goal.returns
returns c =
    let v = the_view c.self.inside in
    let x = reading_of c.self.inside.reader in
    let text = c.args.text.now.items in
    let kept = c.self.invariant c.if-self.false in
    let reader : IsReader v c.self.inside.reader = record { read = kept.0; knows = kept.1; printed = refl } in
    let known = knows v c.args.self.now c.self.inside.reader c.self.view_is c.goal-goal.ensures.kept c.requires reader in
    let shown = rw c.goal-goal.ensures.goal at c.is_found.ensures in
    let ran = rw (c.in_default.is, c.deref.ensures.value) at c.in_ok-place.ensures.none in
    let enough = sym (rw c.goal-goal.ensures.goal at c.is_reached.ensures) ∙ c.if-not-is_reached.false in
    let printed = rw c.goal-goal.ensures.goal at c.in_ok-print_ending.ensures in
    subst (λ (j : Joining). Ends (Ok tt) j text c.print_ending.new.text.items) c.self.view_is
    (whole v x text c.print_ending.new.text.items known (all_printed v c.self.inside.reader c.if-self-2.false reader) (λ is. false≢true (sym c.if-is_found.false ∙ shown.1 is)) ran enough (c.in_ok-has_false_best.ensures.sound c.if-branch.false) printed)

pub returns-then-self-2 : goal.returns-then-self-2
returns-then-self-2 c =
    let v = the_view c.self.inside in
    let x = reading_of c.self.inside.reader in
    let text = c.args.text.now.items in
    let kept = c.self.invariant c.if-self.false in
    let reader : IsReader v c.self.inside.reader = record { read = kept.0; knows = kept.1; printed = refl } in
    let known = knows v c.args.self.now c.self.inside.reader c.self.view_is c.goal-goal.ensures.kept c.requires reader in
    subst (λ (j : Joining). Ends (Err NoSolution) j text text) c.self.view_is (false_block v x text known (has_false v c.self.inside.reader c.if-self-2.true reader))

pub returns-then-branch : goal.returns-then-branch
returns-then-branch c =
    let v = the_view c.self.inside in
    let x = reading_of c.self.inside.reader in
    let text = c.args.text.now.items in
    let kept = c.self.invariant c.if-self.false in
    let reader : IsReader v c.self.inside.reader = record { read = kept.0; knows = kept.1; printed = refl } in
    let known = knows v c.args.self.now c.self.inside.reader c.self.view_is c.goal-goal.ensures.kept c.requires reader in
    subst (λ (j : Joining). Ends (Err NoSolution) j text text) c.self.view_is (false_best v x text known (c.in_ok-has_false_best.ensures.other c.if-branch.true))
