use Rattle.std.proofs.Common.{rules, ◌≡◌, List, sym, subst, take}
use Rattle.std.specs.List.{AllByRecursion, flat_map}
use Rattle.vx_splits.specs.declared.selected_rows.SelectedRows.{SelectedRows}
use Rattle.vx_splits.specs.FirstRows.{IsTight, first_chunks}
use Rattle.vx_splits.specs.Trimmed.{chosen_rows}
use Rattle.vx_splits.proofs.FirstChunks.{first_rows, first_tight}
use Rattle.vx_splits.proofs.first_rows.limit_rows.Goals.{in-None, in-Some+then-left-eq0}
use Rattle.vx_splits.proofs.first_rows.limit_rows.Goals as goal

pub returns-clause-rows : goal.returns-clause-rows
returns-clause-rows c =
    let done : c.loop-chunk.kept.items ≡ first_chunks c.args.limit c.args.chunks.items = elim c.match-next.branch [
      | in-None w ↦ search rules
      | in-Some+then-left-eq0 w ↦ search rules
    ] in
    subst (λ (chunks : List SelectedRows). flat_map chosen_rows chunks ≡ take c.args.limit (flat_map chosen_rows c.args.chunks.items)) (sym done) (first_rows c.args.limit c.args.chunks.items c.requires)

pub returns-clause-trimmed : goal.returns-clause-trimmed
returns-clause-trimmed c =
    let done : c.loop-chunk.kept.items ≡ first_chunks c.args.limit c.args.chunks.items = elim c.match-next.branch [
      | in-None w ↦ search rules
      | in-Some+then-left-eq0 w ↦ search rules
    ] in
    subst (AllByRecursion IsTight) (sym done) (first_tight c.args.limit c.args.chunks.items c.requires)
