use Rattle.std.proofs.Common.{◌≡◌, ℕ, true, length, replicate, ap, ◌∙◌}
use Rattle.vx_steps.proofs.PrunedRows.{all_held, all_there, truths_column}
use Rattle.vx_steps.proofs.pruned.truth_column.Goals as goal

pub of_truths-array-requires-clause-held : goal.of_truths-array-requires-clause-held
of_truths-array-requires-clause-held c =
    let all : c.in_ok-valid.valid ≡ replicate (length c.args.truths) true = c.in_ok-valid.ensures ∙ ap (λ (n : ℕ). replicate n true) c.len.ensures in
    all_held c.in_ok-valid.valid c.args.truths all

pub of_array-requires : goal.of_array-requires
of_array-requires c =
    let all : c.in_ok-valid.valid ≡ replicate (length c.args.truths) true = c.in_ok-valid.ensures ∙ ap (λ (n : ℕ). replicate n true) c.len.ensures in
    truths_column c.of_truths-array.result c.args.truths c.of_truths-array.ensures.dtype (c.of_truths-array.ensures.values ∙ all_there c.in_ok-valid.valid c.args.truths all)

pub returns-clause-values : goal.returns-clause-values
returns-clause-values c =
    let all : c.in_ok-valid.valid ≡ replicate (length c.args.truths) true = c.in_ok-valid.ensures ∙ ap (λ (n : ℕ). replicate n true) c.len.ensures in
    c.of_array.ensures.values ∙ c.of_truths-array.ensures.values ∙ all_there c.in_ok-valid.valid c.args.truths all
