use Rattle.std.proofs.Common.{refl, get_or, arith}
use Rattle.vx_masks.proofs.Found.{RowsIn, first_row}
use Rattle.vx_masks.proofs.word_masks.WordMask.first.Goals as goal

pub returns-then-word-ne0 : goal.returns-then-word-ne0
returns-then-word-ne0 c =
    let mask = c.args.self.now in
    let words = c.words-words.result.now in
    let i = c.loop-index.index in
    let rows : RowsIn mask words = record { rows = c.words-words.ensures.rows; past = c.words-words.ensures.past } in
    first_row mask words i (get_or words i 0) rows refl (omega arith) (c.words-words.ensures.fit.small i) c.loop-index.invariant
