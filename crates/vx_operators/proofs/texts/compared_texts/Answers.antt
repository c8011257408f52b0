use Rattle.std.proofs.Common.{◌∙◌}
use Rattle.vx_operators.specs.Kernels.{compares_text}
use Rattle.vx_operators.proofs.Steps.{along_same}
use Rattle.vx_operators.proofs.texts.compared_texts.Goals as goal

pub returns-in_ok-truths-in-Rows-One : goal.returns-in_ok-truths-in-Rows-One
returns-in_ok-truths-in-Rows-One c =
    let level = rw (c.in-Rows-One.is-0, c.in-Rows-One.is-1) at c.requires.rows in
    rw (c.in-Rows-One.is-0, c.in-Rows-One.is-1) (c.in_ok-truths-in-Rows-One.ensures ∙ along_same (compares_text c.args.op) c.in-Rows-One.texts.now c.in-Rows-One.field-1-1 c.in-Rows-One.text.now level)
