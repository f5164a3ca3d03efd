-- What a lawful event tells of the workers that it names.
use Rattle.std.proofs.Common.{◌≡◌, true, false, refl, Option, Some, None}
use Rattle.std.specs.Prelude.{is_some, is_none}
use Rattle.std.proofs.lemmas.Bool.{and_parts}
use Rattle.fz_tree.specs.Frontier.{can_cut}
use Rattle.fz_tree.specs.Account.{Account}
use Rattle.fz_path.specs.Paths.{can_cut_held}
use Rattle.fz_machine.specs.Cores.{Worker}
use Rattle.fz_machine.specs.Lawfulness.{is_free, is_ready, is_busy, can_be_cut}

pub none_is : {X : Type 0} (o : Option X) → is_none o ≡ true → o ≡ None
none_is None h = refl
none_is (Some x) h = absurd (let bad : false ≡ true = h in cc)

pub some_is_there : {X : Type 0} (o : Option X) → is_some o ≡ true → (x : X) × (o ≡ Some x)
some_is_there None h = absurd (let bad : false ≡ true = h in cc)
some_is_there (Some x) h = (x, refl)

pub record IsFree (o : Option Worker) : Type 0 where
  pub worker : Worker
  pub at : o ≡ Some worker
  pub idle : worker.path.held ≡ None
  pub empty : worker.hand ≡ None

pub free : (o : Option Worker) → is_free o ≡ true → IsFree o
free None h = absurd (let bad : false ≡ true = h in cc)
free (Some w) h =
    let parts = and_parts (is_none w.path.held) (is_none w.hand) h in
    record { worker = w; at = refl; idle = none_is w.path.held parts.0; empty = none_is w.hand parts.1 }

pub record IsReady (o : Option Worker) : Type 0 where
  pub worker : Worker
  pub at : o ≡ Some worker
  pub idle : worker.path.held ≡ None
  pub full : is_some worker.hand ≡ true

pub ready : (o : Option Worker) → is_ready o ≡ true → IsReady o
ready None h = absurd (let bad : false ≡ true = h in cc)
ready (Some w) h =
    let parts = and_parts (is_none w.path.held) (is_some w.hand) h in
    record { worker = w; at = refl; idle = none_is w.path.held parts.0; full = parts.1 }

pub record IsBusy (o : Option Worker) : Type 0 where
  pub worker : Worker
  pub at : o ≡ Some worker
  pub account : Account
  pub holds : worker.path.held ≡ Some account

pub busy : (o : Option Worker) → is_busy o ≡ true → IsBusy o
busy None h = absurd (let bad : false ≡ true = h in cc)
busy (Some w) h = let held = some_is_there w.path.held h in record { worker = w; at = refl; account = held.0; holds = held.1 }

pub record CanCut (o : Option Worker) : Type 0 where
  pub worker : Worker
  pub at : o ≡ Some worker
  pub account : Account
  pub holds : worker.path.held ≡ Some account
  pub can : can_cut account.after ≡ true

cut_held : (w : Worker) (held : Option Account) → w.path.held ≡ held → can_cut_held held ≡ true → CanCut (Some w)
cut_held w None is h = absurd (let bad : false ≡ true = h in cc)
cut_held w (Some c) is h = record { worker = w; at = refl; account = c; holds = is; can = h }

pub cuttable : (o : Option Worker) → can_be_cut o ≡ true → CanCut o
cuttable None h = absurd (let bad : false ≡ true = h in cc)
cuttable (Some w) h = cut_held w w.path.held refl h
