use Rattle.std.proofs.Common.{length, ◌≡◌, arith}
use Rattle.vx_masks.proofs.SameMasks.{masks_same, words_same}
use Rattle.vx_masks.proofs.word_masks.WordMask.same.Goals as goal

pub returns : goal.returns
returns c =
    let a = c.args.self.now in
    let b = c.args.other.now in
    let xs = c.words-ones.result.now in
    let ys = c.words-others.result.now in
    let one = c.words-ones.ensures in
    let two = c.words-others.ensures in
    let len : length a ≡ length b = omega arith in (
      λ t. masks_same a b xs ys one.number two.number len (c.same_words.ensures.0 t),
      λ e. c.same_words.ensures.1 (words_same a b xs ys one.number two.number one.small two.small one.count two.count one.fit two.fit e),
    )
