use Rattle.std.proofs.Common.{◌≡◌, ◌-◌, ◌*◌, ◌<◌, ℕ, Bool, List, min, length, get_or, subst, sym, arith}
use Rattle.std.proofs.lemmas.List.Sums.{count_by-le-length}
use Rattle.vx_masks.specs.Words.{number_of}
use Rattle.vx_masks.proofs.Chosen.{WordRows, word_rows}
use Rattle.vx_masks.proofs.Ranks.{ranks_inside}
use Rattle.vx_masks.proofs.Taken.{Sifted, sifted_none, sifted_more, rest_inside}
use Rattle.vx_masks.proofs.word_masks.WordMask.filter.Goals as goal

pub loop-index-init : goal.loop-index-init
loop-index-init c = subst (λ (ws : List ℕ). Sifted c.args.mask.now c.args.self.now 0 ws 0 0) (sym c.in_ok-words.ensures.items) (sifted_none c.args.mask.now c.args.self.now)

pub push_part-requires-clause-small : goal.push_part-requires-clause-small
push_part-requires-clause-small c =
    rest_inside c.loop-index.len (length c.loop-index.words.items) c.loop-index.rest (number_of c.loop-index.words.items) c.loop-index.invariant.count c.loop-index.invariant.small

pub overflow_add-len : goal.overflow_add-len
overflow_add-len c =
    let mask = c.args.mask.now in
    let i = c.loop-index.index in
    let words = c.words-word-items.result.now in
    let more : 64 * i < length mask = omega (arith, c.words-word-items.ensures.count) in
    let rows = word_rows mask words i c.words-word-items.ensures.number c.words-word-items.ensures.small c.words-word-items.ensures.fit more in
    let most = count_by-le-length (λ (b : Bool). b) mask in
    record { fits = omega (arith, ranks_inside mask i (min 64 (length mask - 64 * i)) (get_or words i 0) c.loop-index.len rows c.loop-index.invariant.counted, most, c.words-word-items.ensures.bound) }

pub loop-index-preserved : goal.loop-index-preserved
loop-index-preserved c =
    let mask = c.args.mask.now in
    let values = c.args.self.now in
    let i = c.loop-index.index in
    let words = c.words-word-items.result.now in
    let others = c.words-values.result.now in
    let same : length mask ≡ length values = c.requires in
    let more : 64 * i < length mask = omega (arith, c.words-word-items.ensures.count) in
    let one = word_rows mask words i c.words-word-items.ensures.number c.words-word-items.ensures.small c.words-word-items.ensures.fit more in
    let two = word_rows values others i c.words-values.ensures.number c.words-values.ensures.small c.words-values.ensures.fit (omega arith) in
    let both : WordRows values i (min 64 (length mask - 64 * i)) (get_or others i 0) = subst (λ (k : ℕ). WordRows values i (min 64 (k - 64 * i)) (get_or others i 0)) (sym same) two in
    sifted_more mask values i (min 64 (length mask - 64 * i)) (get_or words i 0) (get_or others i 0) c.extract-picked.result c.loop-index.words.items c.push_part.new.words.items c.loop-index.rest c.in_ok-rest.rest c.loop-index.len one both
    c.extract-picked.ensures.rows c.extract-picked.ensures.small c.in_ok-rest.ensures c.loop-index.invariant
