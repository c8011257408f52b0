-- Chunks that select_rows leaves, one after another.
use Rattle.std.proofs.Common.{◌≡◌, List, [], ◌∷◌, ◌++◌, Option, Some, subst}
use Rattle.std.specs.Prelude.{IfSome}
use Rattle.std.specs.List.{AllByRecursion}
use Rattle.vx_splits.specs.declared.selected_rows.SelectedRows.{SelectedRows}
use Rattle.vx_splits.specs.declared.selected_rows.WorkScope.{WorkScope}
use Rattle.vx_splits.specs.declared.selections.Selection.{Selection}
use Rattle.vx_splits.specs.FirstRows.{IsTight}
use Rattle.vx_splits.specs.Trimmed.{IsTrimmed}
use Rattle.vx_splits.proofs.FirstChunks.{tight_trimmed}

tight_more : (chunks : List SelectedRows) (chunk : SelectedRows) → AllByRecursion IsTight chunks → IsTight chunk → AllByRecursion IsTight (chunks ++ chunk ∷ [])
tight_more [] chunk each is = (is, tt)
tight_more (one ∷ chunks) chunk each is = (each.0, tight_more chunks chunk each.1 is)

pub tight_next : (selection : Selection) (scope : WorkScope) (left : Option SelectedRows) (chunk : SelectedRows) (chunks : List SelectedRows) → AllByRecursion IsTight chunks → IfSome left (λ chunk. IsTrimmed selection scope chunk) → left ≡ Some chunk
    → AllByRecursion IsTight (chunks ++ chunk ∷ [])
tight_next selection scope left chunk chunks each trimmed is =
    tight_more chunks chunk each (tight_trimmed selection scope chunk (subst (λ (o : Option SelectedRows). IfSome o (λ chunk. IsTrimmed selection scope chunk)) is trimmed))

pub tight_none : (chunks : List SelectedRows) → chunks ≡ [] → AllByRecursion IsTight chunks
tight_none chunks empty = rw empty tt
