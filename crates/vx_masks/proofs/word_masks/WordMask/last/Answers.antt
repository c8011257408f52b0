use Rattle.std.proofs.Common.{◌≡◌, ◌+◌, ◌-◌, ℕ, refl, length, get_or, subst, arith}
use Rattle.vx_masks.proofs.Found.{RowsIn, Zeros, last_row}
use Rattle.vx_masks.proofs.word_masks.WordMask.last.Goals as goal

pub returns-then-word-ne0 : goal.returns-then-word-ne0
returns-then-word-ne0 c =
    let mask = c.args.self.now in
    let words = c.words-words.result.now in
    let i = c.loop-later.later - 1 in
    let next : c.loop-later.later ≡ i + 1 = omega arith in
    let rows : RowsIn mask words = record { rows = c.words-words.ensures.rows; past = c.words-words.ensures.past } in
    last_row mask words i (get_or words i 0) rows refl (omega arith) (c.words-words.ensures.fit.small i) (subst (λ (k : ℕ). Zeros words k (length words)) next c.loop-later.invariant.zeros) (omega (arith, c.words-words.ensures.count))
