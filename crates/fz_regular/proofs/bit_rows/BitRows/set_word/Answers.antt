use Rattle.std.proofs.Common.{◌/◌, ◌%◌, ℕ, sym, subst}
use Rattle.fz_bits.specs.Words.{HasBit}
use Rattle.fz_regular.proofs.BitRows.{other_word}
use Rattle.fz_regular.proofs.bit_rows.BitRows.set_word.Goals as goal

pub returns-clause-others : goal.returns-clause-others
returns-clause-others c = λ i k not.
    let words = c.args.self.now.words.items in
    let w = c.args.self.now.width in (
      (λ h. (h.0, subst (λ (x : ℕ). HasBit x (k % 64)) (other_word words w c.args.row c.args.place c.args.bits i (k / 64) c.requires.place h.0 not) h.1)),
      (λ h. (h.0, subst (λ (x : ℕ). HasBit x (k % 64)) (sym (other_word words w c.args.row c.args.place c.args.bits i (k / 64) c.requires.place h.0 not)) h.1)),
    )
