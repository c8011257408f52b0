use Rattle.std.proofs.Common.{◌∙◌, List, length, sym, ap}
use Rattle.std.proofs.lemmas.Result.{IfOk-weaker}
use Rattle.vx_types.specs.Data.{Datum}
use Rattle.vx_operators.specs.ColumnarValues.{columnar_rows}
use Rattle.vx_operators.specs.Operators.{comparison_of}
use Rattle.vx_operators.specs.Rows.{along, front}
use Rattle.vx_operators.specs.TextSides.{text_rows}
use Rattle.vx_operators.proofs.SideRows.{text_count}
use Rattle.vx_operators.proofs.text_operators.compare_text_rows.Goals as goal

pub compare_texts-requires-clause-rows : goal.compare_texts-requires-clause-rows
compare_texts-requires-clause-rows c =
    sym (text_count c.text_side-right.result c.text_side-right.ensures.side) ∙ ap length c.text_side-right.ensures.rows ∙ c.requires.rows ∙ sym (ap length c.text_side-left.ensures.rows) ∙ text_count c.text_side-left.result c.text_side-left.ensures.side

pub returns-clause-values : goal.returns-clause-values
returns-clause-values c =
    let step = comparison_of c.args.op in
    IfOk-weaker c.compare_texts.result _ _
    (λ array is.
    is ∙ ap (λ (vs : List Datum). front (along step vs (text_rows c.text_side-right.result))) c.text_side-left.ensures.rows
    ∙ ap (λ (vs : List Datum). front (along step (columnar_rows c.args.left.now) vs)) c.text_side-right.ensures.rows) c.compare_texts.ensures.values
