-- Tokens of given texts, by tests that compute.
use Rattle.std.proofs.Common.{◌≡◌, ℕ, zero, suc, pos, ◌+◌, ◌≤◌, ◌⊎◌, ◌&&◌, inl, inr, Bool, true, false, List, [], ◌∷◌, length, Some, codes, slice_range, slice_index, refl, subst, arith}
use Rattle.std.proofs.lemmas.Int.{ints}
use Rattle.fz_language.specs.declared.sign.Sign.TheVariants.{Semicolon, Colon, DoubleDot}
use Rattle.fz_language.specs.declared.keyword.Keyword.TheVariants as keyword
use Rattle.fz_language.specs.declared.fault.TokenFault.TheVariants.{UnknownByte}
use Rattle.fz_language.specs.Tokens.{is_space, is_blank, Lexeme, Identifier, Word, Number, Punct, IsSpelt, IsToken, IsGap, Ends, Skips, BeginsNoToken, HasFault}
use Rattle.fz_language.specs.Examples.{UnknownByteIsRefused, unknown_byte}
use Rattle.fz_sets.specs.Sets.{IsWithinLimits}
use Rattle.fz_language.proofs.Bytes.{slice_none}
use Rattle.fz_language.proofs.LexemeProofs.{begins_visible}
use Rattle.fz_grammar.proofs.Lists.{none_is_no_cons}
use Rattle.fz_language.proofs.Decisions.{is_no, refuted, lexeme, lexeme_of, spelt_of}

-- that many ends after a place, at which no lexeme from another place on ends
abbrev none_behind : List ℕ → ℕ → ℕ → ℕ → Bool
none_behind text at stop zero = true
none_behind text at stop (suc k) = is_no (lexeme (slice_range text at (stop + suc k))) && none_behind text at stop k

both_true : (a b : Bool) → (a && b) ≡ true → (a ≡ true) × (b ≡ true)
both_true true b e = (refl, e)
both_true false b e = absurd (let f : false ≡ true = e in cc)

or_last : (end stop k : ℕ) → end ≤ stop + suc k → (end ≤ stop + k) ⊎ (end ≡ stop + suc k)
or_last end stop k l = grind arith

not_behind : (text : List ℕ) (at stop k : ℕ) → none_behind text at stop k ≡ true → (x : Lexeme) (end : ℕ) → end ≤ stop + k → IsSpelt x (slice_range text at end) → end ≤ stop
not_behind text at stop zero e x end w h = omega (arith, w)
not_behind text at stop (suc k) e x end w h =
    let b = both_true (is_no (lexeme (slice_range text at (stop + suc k)))) (none_behind text at stop k) e in
    elim (or_last end stop k w) [
      | inl v ↦ not_behind text at stop k b.1 x end v h
      | inr s ↦ absurd (refuted (lexeme (slice_range text at (stop + suc k))) b.0 (x, subst (λ (n : ℕ). IsSpelt x (slice_range text at n)) s h))
    ]

token_is : (text : List ℕ) (x : Lexeme) (at stop k : ℕ) → length text ≡ stop + k → lexeme_of (lexeme (slice_range text at stop)) ≡ Some x → none_behind text at stop k ≡ true → IsToken text (record { lexeme = x; at = at }) stop
token_is text x at stop k l s n = record {
  within = omega (arith, l);
  spelt = spelt_of x (lexeme (slice_range text at stop)) s;
  longest = λ y end w h. not_behind text at stop k n y end (omega (arith, l, w)) h;
}

gap_at : (text : List ℕ) (at k : ℕ) → length text ≡ at + k → IsGap text at at
gap_at text at k l = Ends at (omega (arith, l))

one_space : (text : List ℕ) (at k : ℕ) → length text ≡ at + suc k → is_space (slice_index text at) ≡ true → IsGap text at (at + 1)
one_space text at k l e = Skips at (at + 1) (at + 1) (inl (omega (arith, l), e, refl)) (Ends (at + 1) (omega (arith, l)))

within_limits : (n : ℕ) → n ≤ 2147483646 → IsWithinLimits (pos n)
within_limits n l = (omega (arith, ints), omega (arith, ints, l))

-- no lexeme from a place on
begins_none : (text : List ℕ) (at k : ℕ) → length text ≡ at + suc k → is_blank (slice_index text at) ≡ false → none_behind text at 0 (at + suc k) ≡ true → BeginsNoToken text at
begins_none text at k l v n = record {
  within = omega (arith, l);
  visible = v;
  none = λ x stop w h.
      let z : stop ≤ 0 = not_behind text at 0 (at + suc k) n x stop (omega (arith, l, w)) h in
      let e : slice_range text at stop ≡ [] = slice_none text at stop (omega (arith, z)) in
      let b = begins_visible x [] (subst (IsSpelt x) e h) in
      none_is_no_cons b.0 b.1 b.2;
}

-- the tokens of `var 1..2: x;`, before a byte that begins none
leads : HasFault unknown_byte UnknownByte 13
leads = (
  record { lexeme = Word keyword.Var; at = 0 } ∷ record { lexeme = Number (pos 1); at = 4 } ∷ record { lexeme = Punct DoubleDot; at = 5 } ∷ record { lexeme = Number (pos 2); at = 7 } ∷ record { lexeme = Punct Colon; at = 8 }
      ∷ record { lexeme = Identifier (codes "x"); at = 10 } ∷ record { lexeme = Punct Semicolon; at = 11 } ∷ [],
  (
    3,
    gap_at unknown_byte 0 14 refl,
    token_is unknown_byte (Word keyword.Var) 0 3 11 refl refl refl,
    tt,
    (
      5,
      one_space unknown_byte 3 10 refl refl,
      token_is unknown_byte (Number (pos 1)) 4 5 9 refl refl refl,
      within_limits 1 (omega arith),
      (
        7,
        gap_at unknown_byte 5 9 refl,
        token_is unknown_byte (Punct DoubleDot) 5 7 7 refl refl refl,
        tt,
        (
          8,
          gap_at unknown_byte 7 7 refl,
          token_is unknown_byte (Number (pos 2)) 7 8 6 refl refl refl,
          within_limits 2 (omega arith),
          (
            9,
            gap_at unknown_byte 8 6 refl,
            token_is unknown_byte (Punct Colon) 8 9 5 refl refl refl,
            tt,
            (
              11,
              one_space unknown_byte 9 4 refl refl,
              token_is unknown_byte (Identifier (codes "x")) 10 11 3 refl refl refl,
              tt,
              (
                12,
                gap_at unknown_byte 11 3 refl,
                token_is unknown_byte (Punct Semicolon) 11 12 2 refl refl refl,
                tt,
                (one_space unknown_byte 12 1 refl refl, begins_none unknown_byte 13 0 refl refl refl),
              ),
            ),
          ),
        ),
      ),
    ),
  ),
)

pub unknown_byte_is_refused : UnknownByteIsRefused
unknown_byte_is_refused = record {
  at = 13;
  refused = inr (inl (record { short = omega arith; fault = UnknownByte; first = leads; code = refl }));
  line_is = refl;
  column_is = refl;
}
