use Rattle.std.proofs.Common.{◌≡◌, ◌-◌, ℕ, length, arith, subst}
use Rattle.vx_segments.specs.TextRows.{LieFrom}
use Rattle.vx_segments.specs.Reading.{lengths_read}
use Rattle.vx_segments.proofs.TextRows.{between, lie_in_three, lie_once, lie_within, second_lies, third_lies, three_lengths}
use Rattle.vx_segments.proofs.text_rows.places_of.Goals as goal

pub place_behind-requires-2-clause-within : goal.place_behind-requires-2-clause-within
place_behind-requires-2-clause-within c = lie_within c.args.buffer.now c.args.valid.now 0 0 c.in-Some.from (lengths_read c.args.range.start c.split_at.result.0.now) (omega arith) c.in-Some.ensures

pub place_behind-requires-3-clause-within : goal.place_behind-requires-3-clause-within
place_behind-requires-3-clause-within c =
    let first = lie_within c.args.buffer.now c.args.valid.now 0 0 c.in-Some.from (lengths_read c.args.range.start c.split_at.result.0.now) (omega arith) c.in-Some.ensures in
    lie_within c.args.buffer.now c.args.valid.now c.args.range.start c.in-Some.from c.in-Some-place_behind.to (lengths_read (c.args.range.end - c.args.range.start) c.split_at-2.result.0.now) first c.in-Some-place_behind.ensures

pub returns-in-None-clause-none : goal.returns-in-None-clause-none
returns-in-None-clause-none c = λ none all.
    let parts = three_lengths c.args.rows c.args.range.start c.args.range.end c.args.lengths.now c.split_at.result.0.now c.split_at.result.1.now c.split_at-2.result.0.now c.split_at-2.result.1.now c.requires.forwards c.requires.inside c.split_at.ensures.front c.split_at.ensures.back c.split_at-2.ensures.front c.split_at-2.ensures.back in
    let three = lie_in_three c.args.buffer.now c.args.valid.now c.args.rows c.args.range.start c.args.range.end c.args.lengths.now c.split_at.result.0.now c.split_at-2.result.0.now c.split_at-2.result.1.now c.requires.forwards c.requires.inside parts all in
    c.in-None.ensures three.from three.one

pub returns-in-None-place_behind-clause-none : goal.returns-in-None-place_behind-clause-none
returns-in-None-place_behind-clause-none c = λ none all.
    let parts = three_lengths c.args.rows c.args.range.start c.args.range.end c.args.lengths.now c.split_at.result.0.now c.split_at.result.1.now c.split_at-2.result.0.now c.split_at-2.result.1.now c.requires.forwards c.requires.inside c.split_at.ensures.front c.split_at.ensures.back c.split_at-2.ensures.front c.split_at-2.ensures.back in
    let three = lie_in_three c.args.buffer.now c.args.valid.now c.args.rows c.args.range.start c.args.range.end c.args.lengths.now c.split_at.result.0.now c.split_at-2.result.0.now c.split_at-2.result.1.now c.requires.forwards c.requires.inside parts all in
    c.in-None-place_behind.ensures three.to (second_lies c.args.buffer.now c.args.valid.now c.args.rows c.args.range.start c.args.range.end c.in-Some.from c.split_at.result.0.now c.split_at-2.result.0.now c.split_at-2.result.1.now three c.in-Some.ensures)

pub returns-in-None-place_behind-2-clause-none : goal.returns-in-None-place_behind-2-clause-none
returns-in-None-place_behind-2-clause-none c = λ none all.
    let parts = three_lengths c.args.rows c.args.range.start c.args.range.end c.args.lengths.now c.split_at.result.0.now c.split_at.result.1.now c.split_at-2.result.0.now c.split_at-2.result.1.now c.requires.forwards c.requires.inside c.split_at.ensures.front c.split_at.ensures.back c.split_at-2.ensures.front c.split_at-2.ensures.back in
    let three = lie_in_three c.args.buffer.now c.args.valid.now c.args.rows c.args.range.start c.args.range.end c.args.lengths.now c.split_at.result.0.now c.split_at-2.result.0.now c.split_at-2.result.1.now c.requires.forwards c.requires.inside parts all in
    c.in-None-place_behind-2.ensures (length c.args.buffer.now) (third_lies c.args.buffer.now c.args.valid.now c.args.rows c.args.range.start c.args.range.end c.in-Some.from c.in-Some-place_behind.to c.split_at.result.0.now c.split_at-2.result.0.now c.split_at-2.result.1.now three c.in-Some.ensures c.in-Some-place_behind.ensures)

pub returns-else-end-buffer-clause-none : goal.returns-else-end-buffer-clause-none
returns-else-end-buffer-clause-none c = λ none all.
    let parts = three_lengths c.args.rows c.args.range.start c.args.range.end c.args.lengths.now c.split_at.result.0.now c.split_at.result.1.now c.split_at-2.result.0.now c.split_at-2.result.1.now c.requires.forwards c.requires.inside c.split_at.ensures.front c.split_at.ensures.back c.split_at-2.ensures.front c.split_at-2.ensures.back in
    let three = lie_in_three c.args.buffer.now c.args.valid.now c.args.rows c.args.range.start c.args.range.end c.args.lengths.now c.split_at.result.0.now c.split_at-2.result.0.now c.split_at-2.result.1.now c.requires.forwards c.requires.inside parts all in
    let third = third_lies c.args.buffer.now c.args.valid.now c.args.rows c.args.range.start c.args.range.end c.in-Some.from c.in-Some-place_behind.to c.split_at.result.0.now c.split_at-2.result.0.now c.split_at-2.result.1.now three c.in-Some.ensures c.in-Some-place_behind.ensures in
    omega (arith, c.if-end-buffer.false, lie_once c.args.buffer.now c.args.valid.now c.args.range.end c.in-Some-place_behind.to c.in-Some-place_behind-2.end (length c.args.buffer.now) (lengths_read (c.args.rows - c.args.range.end) c.split_at-2.result.1.now) c.in-Some-place_behind-2.ensures third)

pub returns-then-end-buffer-clause-lie : goal.returns-then-end-buffer-clause-lie
returns-then-end-buffer-clause-lie c =
    let parts = three_lengths c.args.rows c.args.range.start c.args.range.end c.args.lengths.now c.split_at.result.0.now c.split_at.result.1.now c.split_at-2.result.0.now c.split_at-2.result.1.now c.requires.forwards c.requires.inside c.split_at.ensures.front c.split_at.ensures.back c.split_at-2.ensures.front c.split_at-2.ensures.back in
    let last : c.in-Some-place_behind-2.end ≡ length c.args.buffer.now = omega (arith, c.if-end-buffer.true) in
    let third = subst (λ (k : ℕ). LieFrom c.args.buffer.now c.args.valid.now c.args.range.end c.in-Some-place_behind.to k (lengths_read (c.args.rows - c.args.range.end) c.split_at-2.result.1.now)) last c.in-Some-place_behind-2.ensures in
    between c.args.buffer.now c.args.valid.now c.args.rows c.args.range.start c.args.range.end c.args.lengths.now c.split_at.result.0.now c.split_at-2.result.0.now c.split_at-2.result.1.now c.in-Some.from c.in-Some-place_behind.to c.requires.forwards c.requires.inside parts c.in-Some.ensures c.in-Some-place_behind.ensures third
