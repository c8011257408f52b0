use Rattle.std.proofs.Common.{◌≡◌, ◌+◌, ◌*◌, ◌/◌, ◌%◌, ◌^◌, ◌<◌, ℕ, List, length, take, get_or, set, bit_or, subst, sym, ap, ◌∙◌, Bool, arith}
use Rattle.std.specs.Prelude.{slice_get}
use Rattle.std.proofs.lemmas.List.{take_all, get_or_read}
use Rattle.vx_masks.specs.Words.{number_of}
use Rattle.vx_masks.proofs.LowBits.{length-low_bits}
use Rattle.vx_masks.proofs.Marks.{Marks, marks_more, marks_row}
use Rattle.vx_masks.proofs.word_masks.WordMask.from_indices.Goals as goal

pub loop-index-preserved : goal.loop-index-preserved
loop-index-preserved c =
    let len = c.args.len in
    let indices = c.args.indices.now in
    let i = c.loop-index.index-index in
    let index = get_or indices i 0 in
    let words = c.loop-index.words.items in
    let below : index < len = c.requires.below i 0 c.loop-index-test.true in
    let inside : index / 64 < length words = omega (arith, c.loop-index.invariant.count) in
    let read : c.index_mut.result.now ≡ get_or words (index / 64) 0 = get_or_read words (index / 64) c.index_mut.result.now inside c.index_mut.ensures.value 0 in
    subst (λ (x : ℕ). Marks len (take (i + 1) indices) (set words (index / 64) (bit_or x (1 * 2 ^ (index % 64) % 2 ^ 64)))) (sym read) (marks_more len i indices words c.loop-index-test.true below c.loop-index.invariant)

pub returns-clause-rows : goal.returns-clause-rows
returns-clause-rows c = ap length c.of_words.ensures ∙ length-low_bits c.args.len (number_of c.loop-index.words.items)

pub returns-clause-chosen : goal.returns-clause-chosen
returns-clause-chosen c row lt =
    let indices = c.args.indices.now in
    let words = c.loop-index.words.items in
    let all : take c.loop-index.index-index indices ≡ indices = take_all c.loop-index.index-index indices (omega arith) in
    ap (λ (bits : List Bool). slice_get bits row) c.of_words.ensures ∙ marks_row c.args.len row indices words (subst (λ (l : List ℕ). Marks c.args.len l words) all c.loop-index.invariant) lt
