use Rattle.std.proofs.Common.{◌≡◌, ◌++◌, ◌∷◌, [], ℕ, List, length, get_or, subst, sym, ap, ap₂, ◌∙◌, arith}
use Rattle.vx_masks.specs.Masks.{without}
use Rattle.vx_masks.specs.Words.{low_bits, number_of, IsMask}
use Rattle.vx_masks.proofs.Zipped.{less, zipped_more, zipped_mask, paired, is_less, without_rows}
use Rattle.vx_masks.proofs.word_masks.WordMask.without.Goals as goal

pub loop-index-preserved : goal.loop-index-preserved
loop-index-preserved c =
    let ones = c.words-ones.result.now in
    let others = c.words-others.result.now in
    let i = c.loop-index.index in
    c.in_ok-push.ensures.items ∙ ap (λ (ws : List ℕ). ws ++ less (get_or ones i 0) (get_or others i 0) ∷ []) c.loop-index.invariant
    ∙ zipped_more less i ones others (omega arith) (omega (arith, c.words-ones.ensures.count, c.words-others.ensures.count, c.requires))

pub of_words-requires : goal.of_words-requires
of_words-requires c =
    let xs = c.words-ones.result.now in
    let ys = c.words-others.result.now in
    let zs = c.loop-index.words.items in
    let len = length c.args.self.now in
    let h = paired less len (length c.args.other.now) c.loop-index.index xs ys zs c.requires c.words-ones.ensures.count c.words-ones.ensures.small c.words-others.ensures.count c.words-others.ensures.small (omega arith) c.loop-index.invariant in
    subst (λ (k : ℕ). IsMask k zs) (sym c.len.ensures) (zipped_mask less is_less len xs ys zs h.pairs c.words-ones.ensures.fit c.words-others.ensures.fit h.one h.two)

pub returns : goal.returns
returns c =
    let xs = c.words-ones.result.now in
    let ys = c.words-others.result.now in
    let zs = c.loop-index.words.items in
    let len = length c.args.self.now in
    let same : length c.args.other.now ≡ len = c.requires in
    let h = paired less len (length c.args.other.now) c.loop-index.index xs ys zs c.requires c.words-ones.ensures.count c.words-ones.ensures.small c.words-others.ensures.count c.words-others.ensures.small (omega arith) c.loop-index.invariant in
    c.of_words.ensures ∙ ap (λ (k : ℕ). low_bits k (number_of zs)) c.len.ensures
    ∙ without_rows len xs ys zs h.pairs c.words-ones.ensures.fit c.words-others.ensures.fit h.one h.two
    ∙ ap₂ without (sym c.words-ones.ensures.number) (ap (λ (k : ℕ). low_bits k (number_of ys)) (sym same) ∙ sym c.words-others.ensures.number)
