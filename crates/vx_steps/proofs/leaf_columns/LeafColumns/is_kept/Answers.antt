use Rattle.std.proofs.Common.{◌≡◌, None, map, subst, sym, ◌++◌}
use Rattle.std.specs.Bool.{MatchBool}
use Rattle.vx_steps.specs.Kept.{kept_at, kept_data, IsKept}
use Rattle.vx_steps.specs.LeafColumns.{seen_data}
use Rattle.vx_steps.specs.LeavesData.{LeavesData}
use Rattle.vx_steps.proofs.Storing.{marked_kept, says_kept}
use Rattle.vx_steps.proofs.leaf_columns.LeafColumns.is_kept.Goals as goal

pub returns-then-get : goal.returns-then-get
returns-then-get c =
    let inside = c.self.inside in
    let P : LeavesData → Type 0 = λ leaves. IsKept leaves.all c.args.node in
    subst P c.self.view_is (marked_kept inside.gone (map kept_data inside.handed.value.items ++ map seen_data inside.decoded.items) c.args.node c.self.invariant.seen (sym c.if-get.ensures))

pub returns : goal.returns
returns c =
    let inside = c.self.inside in
    let P : LeavesData → Type 0 = λ leaves. MatchBool c.is_some.result (IsKept leaves.all c.args.node) (kept_at leaves.all c.args.node ≡ None) in
    subst P c.self.view_is (says_kept inside.gone (map kept_data inside.handed.value.items ++ map seen_data inside.decoded.items) inside.kept c.args.node c.self.invariant.stored (sym c.if-get.ensures) c.find.result c.find.ensures c.is_some.result c.is_some.ensures)
