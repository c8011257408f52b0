use Rattle.std.proofs.Common.{◌++◌, ◌∷◌, [], ◌∙◌, ℕ, Bool, List, get_or, refl, ap, arith}
use Rattle.std.specs.List.{slice_range}
use Rattle.vx_masks.specs.Words.{low_bits, number_of}
use Rattle.vx_masks.proofs.LowBits.{length-low_bits}
use Rattle.vx_columns.proofs.KeptRuns.{mask_inside, mask_more}
use Rattle.vx_columns.proofs.run_counts.counts_in_words.Goals as goal

pub chosen_in_words-requires-clause-forwards : goal.chosen_in_words-requires-clause-forwards
chosen_in_words-requires-clause-forwards c =
    let bits : List Bool = low_bits c.args.rows (number_of c.args.words.now) in
    let ends = c.args.ends.now in
    let i = c.loop-end.end-index in
    let inside = mask_inside bits ends c.loop-end.counts.items c.loop-end.before i (get_or ends i 0) c.loop-end-test.true refl c.requires.rise (length-low_bits c.args.rows (number_of c.args.words.now) ∙ c.requires.rows) c.loop-end.invariant in
    omega (arith, inside.0)

pub chosen_in_words-requires-clause-inside : goal.chosen_in_words-requires-clause-inside
chosen_in_words-requires-clause-inside c =
    let bits : List Bool = low_bits c.args.rows (number_of c.args.words.now) in
    let ends = c.args.ends.now in
    let i = c.loop-end.end-index in
    let len = length-low_bits c.args.rows (number_of c.args.words.now) in
    let inside = mask_inside bits ends c.loop-end.counts.items c.loop-end.before i (get_or ends i 0) c.loop-end-test.true refl c.requires.rise (len ∙ c.requires.rows) c.loop-end.invariant in
    omega (arith, inside.1, len)

pub loop-end-preserved : goal.loop-end-preserved
loop-end-preserved c =
    let bits : List Bool = low_bits c.args.rows (number_of c.args.words.now) in
    let ends = c.args.ends.now in
    let i = c.loop-end.end-index in
    let before = c.loop-end.before in
    let end = get_or ends i 0 in
    let inside = mask_inside bits ends c.loop-end.counts.items before i end c.loop-end-test.true refl c.requires.rise (length-low_bits c.args.rows (number_of c.args.words.now) ∙ c.requires.rows) c.loop-end.invariant in
    mask_more bits (slice_range bits before end) ends c.loop-end.counts.items c.push.new.self.items before i end c.loop-end-test.true refl (omega (arith, inside.0)) refl (c.in_ok-push.ensures.items ∙ ap (λ (n : ℕ). c.loop-end.counts.items ++ n ∷ []) c.chosen_in_words.ensures) c.loop-end.invariant
