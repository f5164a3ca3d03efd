use Rattle.std.proofs.Common.{◌≡◌, ◌∙◌, ℕ, List, ◌++◌, append_assoc, codes, ap, rules}
use Rattle.std.proofs.Math.Facts.{to_z-of_z}
use Rattle.std.specs.Fmt.{signed_decimal}
use mir.Val.{SFits}
use mir.Syntax.{w32}
use Rattle.fz_print.proofs.block.push_range.Goals as goal

appended : (old low dots high comma a b c d : List ℕ) → a ≡ old ++ low → b ≡ a ++ dots → c ≡ b ++ high → d ≡ c ++ comma → d ≡ old ++ (((low ++ dots) ++ high) ++ comma)
appended old low dots high comma a b c d p q r s = rw (s, r, q, p) (simp append_assoc)

pub returns : goal.returns
returns c =
    let low : SFits w32 c.args.range.0 = search rules in
    let high : SFits w32 c.args.range.1 = search rules in
    let low_is : c.as_bytes.result.now ≡ signed_decimal c.args.range.0 = c.as_bytes.ensures.value ∙ c.format.ensures.text ∙ ap signed_decimal (to_z-of_z low) in
    let high_is : c.as_bytes-2.result.now ≡ signed_decimal c.args.range.1 = c.as_bytes-2.ensures.value ∙ c.format-2.ensures.text ∙ ap signed_decimal (to_z-of_z high) in
    appended c.args.text.now.items (signed_decimal c.args.range.0) (codes "..") (signed_decimal c.args.range.1) (codes ", ")
    c.extend_from_slice.new.self.items c.extend_from_slice-2.new.self.items c.extend_from_slice-3.new.self.items c.extend_from_slice-4.new.self.items
    (c.in_ok-extend_from_slice.ensures.items ∙ ap (λ (t : List ℕ). c.args.text.now.items ++ t) low_is)
    c.in_ok-extend_from_slice-2.ensures.items
    (c.in_ok-extend_from_slice-3.ensures.items ∙ ap (λ (t : List ℕ). c.extend_from_slice-2.new.self.items ++ t) high_is)
    c.in_ok-extend_from_slice-4.ensures.items
