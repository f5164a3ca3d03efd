-- What is said of a parse by one command is so by another that is the same.
use Rattle.std.proofs.Common.{◌≡◌, true, List, IfOk, Result, subst}
use Rattle.std.proofs.lemmas.Result.{IfOk-weaker}
use Rattle.clap.specs.Words.{App, Text, HasMatchesOf, FailsBy, rows_of, found_of, matches_of, is_simple, fault_of, is_simple_and_free}
use Rattle.clap.specs.declared.parser.matches.ArgMatches.{ArgMatches}
use Rattle.clap.specs.declared.error.Error.{Error}

pub matches_as : (a b : App) (words : List Text) (r : Result ArgMatches Error) → a ≡ b → is_simple b ≡ true → IfOk r (HasMatchesOf a words)
    → IfOk r (λ m. rows_of (found_of m) ≡ matches_of b words)
matches_as a b words r same simple h =
    IfOk-weaker r _ _ (λ m g. (g simple).0) (subst (λ x. IfOk r (HasMatchesOf x words)) same h)

pub fails_as : (a b : App) (words : List Text) (r : Result ArgMatches Error) → a ≡ b → is_simple_and_free b ≡ true
    → (is_simple_and_free a ≡ true → FailsBy (fault_of a words) r) → FailsBy (fault_of b words) r
fails_as a b words r same free h = subst (λ x. is_simple_and_free x ≡ true → FailsBy (fault_of x words) r) same h free
