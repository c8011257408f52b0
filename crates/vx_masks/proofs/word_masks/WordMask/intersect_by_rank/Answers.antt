use Rattle.std.proofs.Common.{◌≡◌, ◌+◌, ◌-◌, ◌*◌, ◌/◌, ◌%◌, ◌^◌, ◌<◌, min, ℕ, List, length, get_or, bit_and, refl, subst, sym, ap, ◌∙◌, arith}
use lib.Count.{ones}
use Rattle.vx_masks.specs.Masks.{chosen_of_chosen}
use Rattle.vx_masks.specs.Words.{low_bits, number_of}
use Rattle.vx_masks.proofs.Chosen.{WordRows, word_rows}
use Rattle.vx_masks.proofs.Built.{Built, built_none, built_all, built_rows}
use Rattle.vx_masks.proofs.Ranks.{RankedWords, ranked_more, ranks_inside, length-ranked}
use Rattle.vx_masks.proofs.word_masks.WordMask.intersect_by_rank.Goals as goal

pub loop-index-init : goal.loop-index-init
loop-index-init c =
    let bits = chosen_of_chosen c.args.self.now c.args.other.now in
    record { built = subst (Built bits 0) (sym c.in_ok-words.ensures.items) (built_none bits); passed = refl }

more : (c : goal.In_ok-push) → 64 * c.loop-index.index < length c.args.self.now
more c = omega (arith, c.words-word-items.ensures.count)

rows : (c : goal.In_ok-push) → WordRows c.args.self.now c.loop-index.index (min 64 (length c.args.self.now - 64 * c.loop-index.index)) (get_or c.words-word-items.result.now c.loop-index.index 0)
rows c = word_rows c.args.self.now c.words-word-items.result.now c.loop-index.index c.words-word-items.ensures.number c.words-word-items.ensures.small c.words-word-items.ensures.fit (more c)

pub overflow_add-rank : goal.overflow_add-rank
overflow_add-rank c =
    let mask = c.args.self.now in
    let i = c.loop-index.index in
    record { fits = omega (arith, ranks_inside mask i (min 64 (length mask - 64 * i)) (get_or c.words-word-items.result.now i 0) c.loop-index.rank (rows c) c.loop-index.invariant.passed, c.words-ranks.ensures.bound, c.requires) }

pub loop-index-preserved : goal.loop-index-preserved
loop-index-preserved c =
    let mask = c.args.self.now in
    let ranks = c.args.other.now in
    let i = c.loop-index.index in
    let word = get_or c.words-word-items.result.now i 0 in
    let n = number_of c.words-ranks.result.now in
    let rank = c.loop-index.rank in
    let len : c.part_len.result ≡ min 64 (length mask - 64 * i) = c.part_len.ensures ∙ ap (λ (k : ℕ). min 64 (k - 64 * i)) c.len-len.ensures in
    let cut : bit_and c.deposit-chosen.result c.low_ones.result ≡ bit_and c.deposit-chosen.result (2 ^ min 64 (length mask - 64 * i) - 1) =
    ap (bit_and c.deposit-chosen.result) (c.low_ones.ensures ∙ ap (λ (k : ℕ). 2 ^ k - 1) len) in
    let is : low_bits 64 c.deposit-chosen.result ≡ chosen_of_chosen (low_bits 64 word) (low_bits (ones word) (n / 2 ^ rank % 2 ^ ones word)) =
    c.deposit-chosen.ensures ∙ ap (λ (x : ℕ). chosen_of_chosen (low_bits 64 word) (low_bits (ones word) x)) c.part_of.ensures in
    subst (λ (ws : List ℕ). RankedWords mask ranks (i + 1) (rank + ones word) ws) (sym c.in_ok-push.ensures.items)
    (ranked_more mask ranks n i (min 64 (length mask - 64 * i)) word rank c.deposit-chosen.result (bit_and c.deposit-chosen.result c.low_ones.result) c.loop-index.words.items c.words-ranks.ensures.number c.requires (rows c) (more c) is cut c.loop-index.invariant)

pub of_words-requires : goal.of_words-requires
of_words-requires c =
    let rows = chosen_of_chosen c.args.self.now c.args.other.now in
    let long : c.len-len.result ≡ length rows = c.len-len.ensures ∙ sym (length-ranked c.args.self.now c.args.other.now) in
    built_all rows c.len-len.result c.loop-index.index c.loop-index.words.items long (omega (arith, c.words-word-items.ensures.count)) c.loop-index.invariant.built

pub returns : goal.returns
returns c =
    let rows = chosen_of_chosen c.args.self.now c.args.other.now in
    let long : c.len-len.result ≡ length rows = c.len-len.ensures ∙ sym (length-ranked c.args.self.now c.args.other.now) in
    c.of_words.ensures ∙ built_rows rows c.len-len.result c.loop-index.index c.loop-index.words.items long (omega (arith, c.words-word-items.ensures.count)) c.loop-index.invariant.built
