use Rattle.std.proofs.Common.{◌≡◌, ◌+◌, ◌-◌, ◌*◌, ◌/◌, ◌^◌, ◌<◌, min, ℕ, length, take, drop, subst, sym, ap, ◌∙◌, arith}
use lib.Lanes.{number_l}
use Rattle.std.proofs.lemmas.List.{take_min, length-drop}
use Rattle.vx_masks.specs.Words.{low_bits, number_of, Small}
use Rattle.vx_masks.specs.Bytes.{packed}
use Rattle.vx_masks.proofs.LowBits.{length-low_bits}
use Rattle.vx_masks.proofs.Built.{Built, built_more, built_all, built_rows}
use Rattle.vx_masks.proofs.Bytes.{wrong_count, past_set, packed_bits, next_of_bytes}
use Rattle.vx_masks.proofs.word_masks.WordMask.read.Goals as goal

pub loop-index-preserved : goal.loop-index-preserved
loop-index-preserved c =
    let bytes = c.args.bytes.now in
    let len = c.args.len in
    let bits = low_bits len (number_l (2 ^ 8) bytes) in
    let i = c.loop-index.index in
    let w = c.word_of_bytes.result in
    let small : Small 8 bytes = record { small = λ k. (c.type_inv.bytes k).fits } in
    let below : number_l (2 ^ 8) bytes < 2 ^ len = c.is_clear_past.ensures.0 cc in
    let more : 64 * i < len = omega arith in
    let inside : 64 * i < length bits = omega (arith, length-low_bits len (number_l (2 ^ 8) bytes)) in
    let part : c.min-end.result - 8 * i ≡ min 8 (length (drop (8 * i) bytes)) = omega (arith, length-drop (8 * i) bytes) in
    let word : w ≡ number_l (2 ^ 8) (take 8 (drop (8 * i) bytes)) = c.word_of_bytes.ensures ∙ ap (λ (k : ℕ). number_l (2 ^ 8) (take k (drop (8 * i) bytes))) part ∙ ap (number_l (2 ^ 8)) (take_min 8 (drop (8 * i) bytes)) in
    subst (Built bits (i + 1)) (sym c.in_ok-push.ensures.items) (built_more bits i w c.loop-index.words.items inside (next_of_bytes len i w bytes small below more word) c.loop-index.invariant)

pub returns-then-bytes-div_ceil : goal.returns-then-bytes-div_ceil
returns-then-bytes-div_ceil c = wrong_count c.args.len c.args.bytes.now (λ e. c.if-bytes-div_ceil.true (omega arith))

pub returns-then-not-is_clear_past : goal.returns-then-not-is_clear_past
returns-then-not-is_clear_past c = past_set c.args.len c.args.bytes.now (λ h. let t = c.is_clear_past.ensures.1 h in cc)

rows : (c : goal.After-of_words) → low_bits c.args.len (number_of c.loop-index.words.items) ≡ low_bits c.args.len (number_l (2 ^ 8) c.args.bytes.now)
rows c =
    let number = number_l (2 ^ 8) c.args.bytes.now in
    built_rows (low_bits c.args.len number) c.args.len c.loop-index.index c.loop-index.words.items (sym (length-low_bits c.args.len number)) (omega arith) c.loop-index.invariant

pub of_words-requires : goal.of_words-requires
of_words-requires c =
    let number = number_l (2 ^ 8) c.args.bytes.now in
    built_all (low_bits c.args.len number) c.args.len c.loop-index.index c.loop-index.words.items (sym (length-low_bits c.args.len number)) (omega arith) c.loop-index.invariant

pub returns : goal.returns
returns c =
    let bytes = c.args.bytes.now in
    let count : length bytes ≡ (c.args.len + 7) / 8 = omega arith in (
      ap length c.of_words.ensures ∙ length-low_bits c.args.len (number_of c.loop-index.words.items),
      ap packed (c.of_words.ensures ∙ rows c) ∙ packed_bits c.args.len bytes (record { small = λ k. (c.type_inv.bytes k).fits }) count (c.is_clear_past.ensures.0 cc),
    )
