use Rattle.std.proofs.Common.{ℕ, ◌/◌, ◌%◌, eqb, get_or, sym, ap, ◌∙◌}
use Rattle.std.proofs.lemmas.Nat.Bits.{shr_and_one}
use Rattle.vx_masks.proofs.Built.{bit_of_row}
use Rattle.vx_masks.proofs.parts.bit_of.Goals as goal

pub returns : goal.returns
returns c =
    let words = c.args.words.now in
    let row = c.args.row in
    ap (λ (b : ℕ). eqb b 1) (shr_and_one (get_or words (row / 64) 0) (row % 64) ∙ sym (bit_of_row row words (record { small = λ i. (c.type_inv.words i).fits })))
