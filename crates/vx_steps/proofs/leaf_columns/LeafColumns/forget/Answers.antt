use Rattle.std.proofs.Common.{◌≡◌, ◌==◌, None, ap, map, subst, sym, true, ◌∙◌, ◌++◌}
use Rattle.std.specs.Prelude.{if◌then◌else◌}
use Rattle.vx_steps.specs.Kept.{kept_at, kept_data}
use Rattle.vx_steps.specs.LeafColumns.{seen_data, Forgets}
use Rattle.vx_steps.specs.LeavesData.{LeavesData}
use Rattle.vx_steps.proofs.Replacing.{replaces_none}
use Rattle.vx_steps.proofs.Storing.{forgets_none, here_forgotten, none_kept, room_for, some_there, stores_forgotten}
use Rattle.vx_steps.proofs.leaf_columns.LeafColumns.forget.Goals as goal

pub returns-then-is_none : goal.returns-then-is_none
returns-then-is_none c =
    let inside = c.self.inside in
    let F : LeavesData → Type 0 = λ leaves. Forgets c.args.node leaves leaves in
    subst F c.self.view_is (forgets_none inside.gone (map kept_data inside.handed.value.items ++ map seen_data inside.decoded.items) inside.kept inside.ready c.args.node (none_kept c.find.result (kept_at inside.kept c.args.node) c.find.ensures c.if-is_none.ensures))

pub mark-requires : goal.mark-requires
mark-requires c =
    let inside = c.self.inside in
    let R : LeavesData → Type 0 = λ leaves. leaves.ready ≡ true in
    room_for inside.gone inside.kept c.args.node (some_there c.find.result (kept_at inside.kept c.args.node) c.find.ensures c.if-is_none.ensures) (c.self.invariant.room (subst R (sym c.self.view_is) c.requires.ready))

pub invariant_of-self : goal.invariant_of-self
invariant_of-self c =
    let inside = c.self.inside in
    stores_forgotten c.args.node inside.gone c.mark.new.self (map kept_data inside.handed.value.items ++ map seen_data inside.decoded.items) inside.kept c.replace.new.self inside.ready c.mark.ensures c.replace.ensures (some_there c.find.result (kept_at inside.kept c.args.node) c.find.ensures c.if-is_none.ensures) c.self.invariant

pub invariant_of-self-in_default : goal.invariant_of-self-in_default
invariant_of-self-in_default c =
    let inside = c.self.inside in
    stores_forgotten c.args.node inside.gone c.mark.new.self (map kept_data inside.handed.value.items ++ map seen_data inside.decoded.items) inside.kept inside.kept inside.ready c.mark.ensures (replaces_none c.args.node inside.kept) (some_there c.find.result (kept_at inside.kept c.args.node) c.find.ensures c.if-is_none.ensures) c.self.invariant

pub returns-in-Ok : goal.returns-in-Ok
returns-in-Ok c =
    let inside = c.self.inside in
    record {
      all = ap (λ (leaves : LeavesData). leaves.all) c.self.view_is;
      here = λ n. here_forgotten c.args.node inside.gone c.mark.new.self inside.kept c.replace.new.self c.mark.ensures c.replace.ensures n ∙ ap (λ (leaves : LeavesData). if c.args.node == n then None else kept_at leaves.here n) c.self.view_is;
      ready = ap (λ (leaves : LeavesData). leaves.ready) c.self.view_is;
    }

pub returns-in_default : goal.returns-in_default
returns-in_default c =
    let inside = c.self.inside in
    record {
      all = ap (λ (leaves : LeavesData). leaves.all) c.self.view_is;
      here = λ n. here_forgotten c.args.node inside.gone c.mark.new.self inside.kept inside.kept c.mark.ensures (replaces_none c.args.node inside.kept) n ∙ ap (λ (leaves : LeavesData). if c.args.node == n then None else kept_at leaves.here n) c.self.view_is;
      ready = ap (λ (leaves : LeavesData). leaves.ready) c.self.view_is;
    }
