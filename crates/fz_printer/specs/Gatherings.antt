-- That taking in nothing gathers, and one call after another.
use Rattle.std.specs.Prelude.{◌≡◌, ℕ, List, Option, None}
use Rattle.std.proofs.Common.{◌∙◌, refl, sym, subst, arith}
use Rattle.fz_printer.specs.declared.printing.Stop.{Stop}
use Rattle.fz_printer.specs.declared.printer.Printer.{Printer}
use Rattle.fz_printer.specs.Printed.{stopped_of, CountsMark, IsReady, KeepsPrinting}
use Rattle.fz_printer.specs.Gathered.{Gathers}

pub both_keep : (old p new : Printer) → KeepsPrinting old p → KeepsPrinting p new → KeepsPrinting old new
both_keep old p new first second = record { as_found = second.as_found ∙ first.as_found; wanted = second.wanted ∙ first.wanted }

none_counts : (s : Option Stop) (n : ℕ) → s ≡ None → CountsMark n n s
none_counts s n none = subst (λ (x : Option Stop). CountsMark n n x) (sym none) refl

pub counts_on : (s : Option Stop) (a b c : ℕ) → b ≡ a → CountsMark b c s → CountsMark a c s
counts_on s a b c same counts = subst (λ n. CountsMark n c s) same counts

pub same_count : (s : Option Stop) (a b : ℕ) → CountsMark a b s → s ≡ None → b ≡ a
same_count s a b counts none = subst (λ (x : Option Stop). CountsMark a b x) none counts

-- nothing is printed
pub gathers_none : (p : Printer) (taken : Option (List ℕ)) (n : ℕ) → stopped_of p ≡ None → IsReady p → Gathers p taken n p taken n
gathers_none p taken n none ready = record {
  keeps = record { as_found = refl; wanted = refl };
  model = refl;
  mode = refl;
  printed = λ before h. h;
  within = omega (arith, ready);
  ready = λ still. ready;
  cause = none_counts (stopped_of p) n none;
}

-- one after another
pub gathers_both : (old p new : Printer) (taken middle after : Option (List ℕ)) (n j k : ℕ) → Gathers old taken n p middle j → stopped_of p ≡ None → Gathers p middle j new after k → Gathers old taken n new after k
gathers_both old p new taken middle after n j k first none second = record {
  keeps = both_keep old p new first.keeps second.keeps;
  model = second.model ∙ first.model;
  mode = second.mode ∙ first.mode;
  printed = λ before h. second.printed before (first.printed before h);
  within = second.within;
  ready = second.ready;
  cause = counts_on (stopped_of new) n j k (same_count (stopped_of p) n j first.cause none) second.cause;
}
