use Rattle.std.proofs.Common.{◌∙◌, ◌++◌, ℕ, List, map, subst, sym, arith}
use Rattle.std.specs.List.{slice_range}
use Rattle.std.proofs.lemmas.Result.{on_ok_weaker}
use Rattle.vx_arrays.specs.Texts.{cut, start_in, moved, AreTexts}
use Rattle.vx_arrays.proofs.MovedTexts.{range_bytes, texts_behind, are_behind}
use Rattle.vx_arrays.proofs.texts.push_texts.Goals as goal

pub push_bytes-requires-clause-forwards : goal.push_bytes-requires-clause-forwards
push_bytes-requires-clause-forwards c =
    let range = range_bytes c.args.others.now c.args.more.now c.args.rows.start c.args.rows.end c.requires.forwards c.requires.inside c.requires.others in
    omega (arith, range.forwards, c.start_of-from.ensures, c.start_of-to.ensures)

pub push_bytes-requires-clause-inside : goal.push_bytes-requires-clause-inside
push_bytes-requires-clause-inside c =
    let range = range_bytes c.args.others.now c.args.more.now c.args.rows.start c.args.rows.end c.requires.forwards c.requires.inside c.requires.others in
    omega (arith, range.inside, c.start_of-to.ensures)

pub push_ends-requires-clause-lie : goal.push_ends-requires-clause-lie
push_ends-requires-clause-lie c =
    let range = range_bytes c.args.others.now c.args.more.now c.args.rows.start c.args.rows.end c.requires.forwards c.requires.inside c.requires.others in
    rw (c.start_of-from.ensures, c.start_of-to.ensures) range.ends_lie

pub returns-clause-texts : goal.returns-clause-texts
returns-clause-texts c =
    let range = range_bytes c.args.others.now c.args.more.now c.args.rows.start c.args.rows.end c.requires.forwards c.requires.inside c.requires.others in
    let base = c.in_ok-base.ensures.begin in
    let bytes = c.in_ok-base.ensures.pushed ∙ (λ i. c.args.bytes.now.items ++ slice_range c.args.others.now (c.start_of-from.ensures i) (c.start_of-to.ensures i)) in
    on_ok_weaker c.push_ends.result
    (λ pushed.
    let ends = pushed ∙ (λ i. c.args.ends.now.items ++ map (moved (base i) (c.start_of-from.ensures i)) (slice_range c.args.more.now c.args.rows.start c.args.rows.end)) in
    subst (λ (bs : List ℕ). AreTexts bs c.push_ends.new.ends.items) (sym bytes)
    (subst (λ (es : List ℕ). AreTexts (c.args.bytes.now.items ++ slice_range c.args.others.now (start_in c.args.more.now c.args.rows.start) (start_in c.args.more.now c.args.rows.end)) es) (sym ends)
    (are_behind c.args.bytes.now.items c.args.ends.now.items c.args.others.now c.args.more.now c.args.rows.start c.args.rows.end range c.requires.texts))) c.push_ends.ensures

pub returns-clause-pushed : goal.returns-clause-pushed
returns-clause-pushed c =
    let range = range_bytes c.args.others.now c.args.more.now c.args.rows.start c.args.rows.end c.requires.forwards c.requires.inside c.requires.others in
    let base = c.in_ok-base.ensures.begin in
    let bytes = c.in_ok-base.ensures.pushed ∙ (λ i. c.args.bytes.now.items ++ slice_range c.args.others.now (c.start_of-from.ensures i) (c.start_of-to.ensures i)) in
    on_ok_weaker c.push_ends.result
    (λ pushed.
    let ends = pushed ∙ (λ i. c.args.ends.now.items ++ map (moved (base i) (c.start_of-from.ensures i)) (slice_range c.args.more.now c.args.rows.start c.args.rows.end)) in
    (λ i. cut (bytes i) 0 (ends i))
    ∙ texts_behind c.args.bytes.now.items c.args.ends.now.items c.args.others.now c.args.more.now c.args.rows.start c.args.rows.end range c.requires.texts) c.push_ends.ensures
