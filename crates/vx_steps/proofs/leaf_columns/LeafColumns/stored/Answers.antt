use Rattle.std.proofs.Common.{ℕ, List, map, subst, sym, ◌++◌}
use Rattle.vx_steps.specs.Kept.{kept_data, IsKept}
use Rattle.vx_steps.specs.KeptData.{Kept}
use Rattle.vx_steps.specs.LeafColumns.{seen_data}
use Rattle.vx_steps.specs.LeavesData.{LeavesData}
use Rattle.vx_steps.proofs.Storing.{stored_here, stored_kept}
use Rattle.vx_steps.proofs.leaf_columns.LeafColumns.stored.Goals as goal

pub returns-clause-here : goal.returns-clause-here
returns-clause-here c =
    let inside = c.self.inside in
    let P : LeavesData → Type 0 = λ leaves. (n : ℕ) → IsKept leaves.here n → IsKept (map kept_data c.columns.result.now) n in
    subst P c.self.view_is (λ n own. subst (λ (ks : List Kept). IsKept ks n) (sym c.columns.ensures) (stored_here inside.gone inside.kept n own))

pub returns-clause-only : goal.returns-clause-only
returns-clause-only c =
    let inside = c.self.inside in
    let P : LeavesData → Type 0 = λ leaves. (n : ℕ) → IsKept (map kept_data c.columns.result.now) n → IsKept leaves.all n in
    subst P c.self.view_is (λ n own. stored_kept inside.gone (map kept_data inside.handed.value.items ++ map seen_data inside.decoded.items) inside.kept n c.self.invariant.stored (subst (λ (ks : List Kept). IsKept ks n) c.columns.ensures own))
