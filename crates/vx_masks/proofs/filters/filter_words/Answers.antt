use Rattle.std.proofs.Common.{◌+◌, ◌-◌, ◌*◌, ◌<◌, ◌≤◌, min, length, get_or, subst, sym, arith}
use lib.Pow.{pow_mono}
use Rattle.vx_masks.proofs.Chosen.{word_rows, Filtered, filtered_more}
use Rattle.vx_masks.proofs.filters.filter_words.Goals as goal

pub push_rows-requires : goal.push_rows-requires
push_rows-requires g c =
    let mask = c.args.mask.now in
    let words = c.words-word-items.result.now in
    let i = c.loop-index.index in
    let more : 64 * i < length mask = omega (arith, c.words-word-items.ensures.count) in
    let rows = word_rows mask words i c.words-word-items.ensures.number c.words-word-items.ensures.small c.words-word-items.ensures.fit more in
    let wide : min 64 (length mask - 64 * i) ≤ length c.args.values.now - 64 * i = omega arith in
    omega (arith, rows.small, pow_mono wide)

pub loop-index-preserved : goal.loop-index-preserved
loop-index-preserved g c =
    let mask = c.args.mask.now in
    let words = c.words-word-items.result.now in
    let values = c.args.values.now in
    let i = c.loop-index.index in
    let word = get_or words i 0 in
    let more : 64 * i < length mask = omega (arith, c.words-word-items.ensures.count) in
    let rows = word_rows mask words i c.words-word-items.ensures.number c.words-word-items.ensures.small c.words-word-items.ensures.fit more in
    subst (λ kept. Filtered g.row.T.Denot mask values kept (i + 1)) (sym c.in_ok-push_rows.ensures)
    (filtered_more g.row.T.Denot mask values c.loop-index.kept.items i (min 64 (length mask - 64 * i)) word rows c.loop-index.invariant)
