use Rattle.std.proofs.Common.{◌≡◌, [], ◌∷◌, Option, Some, None, List, option_map, subst, sym, ap, ◌∙◌, arith}
use Rattle.json.specs.Json.{after_end_array}
use Rattle.scan_json.specs.Reading.{reads}
use Rattle.scan_json.proofs.ListTurns.{IsListRead, item_joined, list_done, list_refused}
use Rattle.vx_expr.specs.declared.statistics.Statistic.{Statistic}
use Rattle.scan_request.specs.NodeForms.{statistic_form}
use Rattle.scan_request.proofs.node_forms.statistics_in.Goals as goal

pub returns-in_err-item-clause-refused : goal.returns-in_err-item-clause-refused
returns-in_err-item-clause-refused c invalid =
    let going : (after_end_array c.items.reader ≡ None) × (c.take_end_array.new.self ≡ c.items.reader) = grind arith in
    list_refused statistic_form c.args.depth c.args.reader.now (option_map (λ v. v.items) c.items.made) c.items.reader c.items.invariant going.0 (rw (← going.1) c.in_err-item.ensures.refused)

pub items-preserved : goal.items-preserved
items-preserved c =
    let going : (after_end_array c.items.reader ≡ None) × (c.take_end_array.new.self ≡ c.items.reader) = grind arith in
    let read : reads statistic_form c.args.depth c.items.reader ≡ Some (c.in_ok-item.item, c.statistic_of.new.reader) = rw (← going.1) c.in_ok-item.ensures.ok in
    subst (λ (made : Option (List Statistic)). IsListRead statistic_form c.args.depth c.args.reader.now made c.statistic_of.new.reader) (sym c.in_ok-made.ensures)
    (item_joined statistic_form c.args.depth c.args.reader.now (option_map (λ v. v.items) c.items.made) c.items.reader c.items.invariant c.statistic_of.new.reader c.in_ok-item.item going.0 read (rw (← going.1) c.in_ok-item.ensures.shorter))

pub returns-in-Some-clause-ok : goal.returns-in-Some-clause-ok
returns-in-Some-clause-ok c =
    let over : after_end_array c.items.reader ≡ Some c.take_end_array.new.self = grind arith in
    list_done statistic_form c.args.depth c.args.reader.now (option_map (λ v. v.items) c.items.made) c.items.reader c.take_end_array.new.self c.items.invariant over
    ∙ ap (λ o. Some (option_map (λ v. v.items) o, c.take_end_array.new.self)) c.in-Some.is ∙ ap (λ xs. Some (Some xs, c.take_end_array.new.self)) (sym c.from_vec.ensures)

pub returns-in-None-clause-ok : goal.returns-in-None-clause-ok
returns-in-None-clause-ok c =
    let over : after_end_array c.items.reader ≡ Some c.take_end_array.new.self = grind arith in
    list_done statistic_form c.args.depth c.args.reader.now (option_map (λ v. v.items) c.items.made) c.items.reader c.take_end_array.new.self c.items.invariant over
    ∙ ap (λ o. Some (option_map (λ v. v.items) o, c.take_end_array.new.self)) c.in-None.is
