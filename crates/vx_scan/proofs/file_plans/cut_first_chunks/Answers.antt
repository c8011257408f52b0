use Rattle.std.proofs.Common.{◌≡◌, ℕ, List, Option, Some, map, sym, subst}
use Rattle.std.specs.Prelude.{IfOk}
use Rattle.vx_splits.specs.Taken.{selected_rows}
use Rattle.vx_splits.specs.Trimmed.{chosen_rows}
use Rattle.vx_scan.specs.Answer.{limited, pieces_of}
use Rattle.vx_scan.specs.FilePlans.{AreEnough}
use Rattle.vx_scan.proofs.FirstRowsOf.{pieces_or, inside_or, ordered_or, trimmed_or}
use Rattle.vx_scan.proofs.file_plans.cut_first_chunks.Goals as goal

pub returns-in-Some-clause-pieces : goal.returns-in-Some-clause-pieces
returns-in-Some-clause-pieces c =
    let rows : List ℕ = selected_rows c.args.selection.now c.args.rows.start c.args.rows.end in
    let made = c.in_ok-chunks.ensures {u = tt} in
    let enough : AreEnough (Some c.in-Some.limit) (pieces_of c.args.size rows) (map chosen_rows c.in_ok-chunks.chunks.items) =
    subst (λ (limit : Option ℕ). AreEnough limit (pieces_of c.args.size rows) (map chosen_rows c.in_ok-chunks.chunks.items)) c.in-Some.is made.pieces in
    subst (λ (limit : Option ℕ). IfOk c.limit_rows.result (λ chunks. map chosen_rows chunks.items ≡ pieces_of c.args.size (limited limit rows))) (sym c.in-Some.is)
    (pieces_or c.args.selection.now c.args.size c.in-Some.limit rows c.in_ok-chunks.chunks.items c.limit_rows.result made.trimmed enough c.limit_rows.ensures.chunks)

pub returns-in-Some-clause-inside : goal.returns-in-Some-clause-inside
returns-in-Some-clause-inside c =
    inside_or c.args.rows.end c.in-Some.limit c.in_ok-chunks.chunks.items c.limit_rows.result c.limit_rows.ensures.chunks c.limit_rows.ensures.trimmed (c.in_ok-chunks.ensures {u = tt}).inside

pub returns-in-Some-clause-ordered : goal.returns-in-Some-clause-ordered
returns-in-Some-clause-ordered c =
    let made = c.in_ok-chunks.ensures {u = tt} in
    ordered_or c.args.rows.end c.in-Some.limit c.in_ok-chunks.chunks.items c.limit_rows.result c.limit_rows.ensures.chunks c.limit_rows.ensures.trimmed made.inside made.ordered

pub returns-in-Some-clause-trimmed : goal.returns-in-Some-clause-trimmed
returns-in-Some-clause-trimmed c =
    trimmed_or c.args.selection.now c.in-Some.limit c.in_ok-chunks.chunks.items c.limit_rows.result c.limit_rows.ensures.chunks c.limit_rows.ensures.trimmed (c.in_ok-chunks.ensures {u = tt}).trimmed
