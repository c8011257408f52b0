use Rattle.std.proofs.Common.{List, ◌++◌, drop, ◌+◌, refl, sym, ap, ◌∙◌, arith}
use Rattle.vx_base.specs.Views.{data_type}
use Rattle.vx_expr.specs.declared.found.Found.{Found}
use Rattle.vx_expr.specs.Counts.{nodes_in}
use Rattle.vx_expr.specs.Finds.{found_of, found_in}
use Rattle.vx_expr.specs.TermViews.{term, terms_of}
use Rattle.vx_expr.specs.Types.{type_of}
use Rattle.vx_expr.specs.Typing.{typed_data}
use Rattle.vx_expr.proofs.MemberTypes.{a_type}
use Rattle.vx_expr.proofs.Pairs.{nodes_at}
use Rattle.vx_expr.proofs.PartFinds.{on_ok_more, pair_put, found_next, found_none, put_next, put_all}
use Rattle.vx_expr.proofs.Refused.{some_members, pack_answer, pair_answer, so_far_start, so_far_next, so_far_refused, all_typed, all_counted}
use Rattle.vx_expr.proofs.TermRows.{lefts_are}
use Rattle.vx_expr.proofs.expressions.+typing.Goals as goal

pub Expr::typed-returns-in-Ok-clause-given : goal.Expr::typed-returns-in-Ok-clause-given
Expr::typed-returns-in-Ok-clause-given t c = pack_answer c.args.root.now c.args.self.now c.in-Pack.items (terms_of c.items.result.now) c.in-Ok.fields c.args.next.now c.count-place.result c.packed.result c.in-Pack.is c.items.ensures c.count-place.ensures.place c.in-Ok.ensures.given c.packed.ensures

pub Expr::parts_typed-returns-in-Ok-clause-given : goal.Expr::parts_typed-returns-in-Ok-clause-given
Expr::parts_typed-returns-in-Ok-clause-given t c = pair_answer c.args.root.now c.args.self.now c.in-And.left c.in-And.right (typed_data c.in-Ok.left) (typed_data c.in-Ok.right) (data_type c.dtype.result.now) (data_type c.dtype-in-Ok.result.now) c.args.place c.pair_typed.result c.in-And.is c.in-Ok.ensures.given.0 c.in-Ok.ensures.given.1 c.dtype.ensures c.dtype-in-Ok.ensures c.pair_typed.ensures.given

pub Expr::parts_typed-returns-in-Ok-clause-found : goal.Expr::parts_typed-returns-in-Ok-clause-found
Expr::parts_typed-returns-in-Ok-clause-found t c =
    let root = c.args.root.now in
    let typed = ap (type_of root) (lefts_are c.args.self.now c.in-And.left c.in-And.right c.in-And.is) ∙ c.in-Ok.ensures.given.0 ∙ ap a_type (sym c.dtype.ensures) in
    on_ok_more c.pair_typed.result _ _
    (λ put. pair_put root c.args.self.now c.in-And.left c.in-And.right c.args.found.now.items c.typed_pair.new.found.items c.pair_typed.new.found.items c.in-And.is c.in-Ok.ensures.found (put root typed))
    c.pair_typed.ensures.found

pub NamedExprs::fields-loop-item-init : goal.NamedExprs::fields-loop-item-init
NamedExprs::fields-loop-item-init t c = record {
  so_far = so_far_start c.args.root.now c.items-items.result.now c.in_ok-fields.fields.items c.args.next.now c.in_ok-fields.ensures.items;
  found = refl;
}

pub NamedExprs::fields-typed-requires : goal.NamedExprs::fields-typed-requires
NamedExprs::fields-typed-requires t c = (omega (arith, nodes_at c.items-items.result.now c.loop-item.item-index c.item-item.result c.loop-item-test.true c.item-item.is, ap nodes_in c.items-items.ensures), tt)

pub NamedExprs::fields-returns-in-Err-clause-given : goal.NamedExprs::fields-returns-in-Err-clause-given
NamedExprs::fields-returns-in-Err-clause-given t c = so_far_refused c.args.root.now c.items-items.result.now c.args.self.now c.loop-item.item-index c.item-item.result c.loop-item.fields.items c.args.next.now c.loop-item.next c.in-Err.error c.loop-item-test.true c.item-item.is c.items-items.ensures c.loop-item.invariant.so_far c.in-Err.ensures.given

pub NamedExprs::fields-loop-item-preserved : goal.NamedExprs::fields-loop-item-preserved
NamedExprs::fields-loop-item-preserved t c =
    let root = c.args.root.now in
    let items = c.items-items.result.now in
    let at = c.loop-item.item-index in
    let item = c.item-item.result in
    record {
      so_far = so_far_next root items at item c.loop-item.fields.items c.push.new.self.items c.args.next.now c.loop-item.next c.typed.new.next c.in_ok-field.field c.loop-item-test.true c.item-item.is (c.in-Ok.ensures.given ∙ ap a_type (sym c.in_ok-field.ensures.dtype)) c.in_ok-field.ensures.name c.in-Ok.ensures.counted c.in_ok-push.ensures.items c.loop-item.invariant.so_far;
      found = put_next c.loop-item.found.items c.typed.new.found.items _ (found_of root (term item.1)) (found_in root (terms_of (drop (at + 1) items))) c.in-Ok.ensures.found
          (ap (λ (part : List Found). c.loop-item.found.items ++ part) (sym (found_next root items at item c.loop-item-test.true c.item-item.is)) ∙ c.loop-item.invariant.found);
    }

pub NamedExprs::fields-returns-clause-given : goal.NamedExprs::fields-returns-clause-given
NamedExprs::fields-returns-clause-given t c = all_typed c.args.root.now c.items-items.result.now c.args.self.now c.loop-item.item-index c.loop-item.fields.items c.args.next.now c.loop-item.next c.items-items.ensures (omega arith) c.loop-item.invariant.so_far ∙ ap some_members (sym c.from_vec.ensures) ∙ ap some_members (sym c.in_ok-share.ensures)

pub NamedExprs::fields-returns-clause-counted : goal.NamedExprs::fields-returns-clause-counted
NamedExprs::fields-returns-clause-counted t c = all_counted c.args.root.now c.items-items.result.now c.args.self.now c.loop-item.item-index c.loop-item.fields.items c.args.next.now c.loop-item.next c.items-items.ensures (omega arith) c.loop-item.invariant.so_far (omega arith)

pub NamedExprs::fields-returns-clause-found : goal.NamedExprs::fields-returns-clause-found
NamedExprs::fields-returns-clause-found t c =
    let root = c.args.root.now in
    let items = c.items-items.result.now in
    let at = c.loop-item.item-index in
    put_all c.loop-item.found.items (found_in root (terms_of (drop at items))) _ (found_none root items at (omega arith)) c.loop-item.invariant.found
    ∙ ap (λ es. c.args.found.now.items ++ found_in root es) c.items-items.ensures
