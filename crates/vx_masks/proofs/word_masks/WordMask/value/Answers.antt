use Rattle.std.proofs.Common.{Bool, List, Some, length, sym, ap, ◌∙◌}
use Rattle.std.specs.Prelude.{slice_get}
use Rattle.vx_masks.specs.Words.{number_of}
use Rattle.vx_masks.proofs.Built.{row_is}
use Rattle.vx_masks.proofs.word_masks.WordMask.value.Goals as goal

pub returns : goal.returns
returns c =
    ap (λ (bs : List Bool). slice_get bs c.args.row) c.words.ensures.number
    ∙ row_is (length c.args.self.now) (number_of c.words.result.now) c.args.row c.requires
    ∙ ap (λ (b : Bool). Some b) (sym c.bit_of.ensures)
