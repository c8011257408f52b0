use Rattle.std.proofs.Common.{◌≡◌, ◌-◌, ◌<◌, ◌≤◌, [], ◌∷◌, List, ℕ, codes, length, map, Option, Some, None, option_map, refl, subst, sym, ap, ap₂, ◌∙◌, arith}
use Rattle.std.proofs.lemmas.Result.{on_ok_weaker}
use Rattle.json.specs.Json.{after_end_array, parse_map, read_key}
use Rattle.json.proofs.Grammar.{after_end_array-shorter, read_key-shorter}
use Rattle.serde_json.specs.Data.{Data, Items, no_items, no_members, item, string, array, put}
use Rattle.serde_json.specs.Find.{as_array, as_str}
use Rattle.vx_base.specs.ValueViews.{datum}
use Rattle.vx_base.specs.Views.{data_type}
use Rattle.vx_expr.specs.Terms.{Term}
use Rattle.vx_expr.specs.TermViews.{term}
use Rattle.scan_json.specs.Forms.{each_form}
use Rattle.scan_json.specs.Reading.{head_reads, read_items, read_members, read_value, reads, reads_items}
use Rattle.scan_json.proofs.ListTurns.{IsListRead, item_joined, list_done, list_joined, list_refused}
use Rattle.scan_json.proofs.ObjectTurns.{member_put, object_begun, object_no_key, object_over, object_refused}
use Rattle.scan_json.proofs.Parts.{list_none, object_none, of_end, of_list, of_value}
use Rattle.scan_json.proofs.Steps.{no_list}
use Rattle.scan_json.proofs.Turns.{read_some, read_then}
use Rattle.scan_request.specs.DtypeForms.{dtype_form}
use Rattle.scan_request.specs.ExpressionForms.{all_named_form, each_named, expression_form, joined_value, named_form, named_from, named_items, pair_form, pair_from, pair_items, value_form}
use Rattle.scan_request.specs.ExpressionViews.{named_term, joined_by, tested_by, told_by, told_of, with_member}
use Rattle.scan_request.proofs.ExpressionMembers.{each_named_is, told_put}
use Rattle.scan_request.proofs.ExpressionReads.{get_read, join_same, lit_told, no_named, no_named_list, no_pair, none_read, object_read, other_told, pack_read, test_read, type_told}
use Rattle.scan_request.proofs.FixedLists.{both_and_more, both_none, both_read, one_only, rest_none}
use Rattle.scan_request.proofs.OtherKinds.{not_list, passed_list, same_form}
use Rattle.scan_request.proofs.expression_forms.+expressions.Goals as goal

pub expression_of-returns-in-String-clause-ok : goal.expression_of-returns-in-String-clause-ok
expression_of-returns-in-String-clause-ok t c =
    let is = c.in_ok-name.ensures.ok ∙ ap (λ h. head_reads h c.args.depth c.next_head.new.reader) c.in-String.is in
    of_value expression_form c.args.depth c.args.reader.now c.next_head.new.reader (string c.in-String.name.now) is ∙ ap (λ o. Some (o, c.next_head.new.reader)) (sym c.bare_named.ensures)

pub expression_of-returns-in-Ok-clause-ok : goal.expression_of-returns-in-Ok-clause-ok
expression_of-returns-in-Ok-clause-ok t c =
    let is = c.in_ok-name.ensures.ok ∙ ap (λ h. head_reads h c.args.depth c.next_head.new.reader) c.in-Object.is in
    let read = c.in-Ok.ensures.ok in
    object_read c.args.depth (c.args.depth - 1) c.args.reader.now c.next_head.new.reader c.members_in.new.reader read.0 (told_by c.in-Ok.told) (option_map term c.expression_told.result) is read.1 read.2 read.3 c.expression_told.ensures

pub expression_of-returns-in-Err-clause-refused : goal.expression_of-returns-in-Err-clause-refused
expression_of-returns-in-Err-clause-refused t c invalid =
    let is = c.in_ok-name.ensures.ok ∙ ap (λ h. head_reads h c.args.depth c.next_head.new.reader) c.in-Object.is in
    object_none c.args.depth (c.args.depth - 1) c.args.reader.now c.next_head.new.reader is (c.members_in.ensures.refused (grind arith))

pub expression_of-returns-in_ok-pass_items-in-List-clause-ok : goal.expression_of-returns-in_ok-pass_items-in-List-clause-ok
expression_of-returns-in_ok-pass_items-in-List-clause-ok t c =
    let is = c.in_ok-name.ensures.ok ∙ ap (λ h. head_reads h c.args.depth c.next_head.new.reader) c.in-List.is in
    passed_list expression_form None (λ ds. refl) c.args.depth (c.args.depth - 1) c.args.reader.now c.next_head.new.reader c.pass_items.new.reader is c.in_ok-pass_items-in-List.ensures.ok

pub members_in-members-init : goal.members_in-members-init
members_in-members-init t c = (no_members, object_begun c.args.depth c.args.reader.now, refl)

pub members_in-returns-in_err-name-clause-refused : goal.members_in-returns-in_err-name-clause-refused
members_in-returns-in_err-name-clause-refused t c invalid =
    object_no_key c.args.depth c.args.reader.now c.members.invariant.0 c.members.reader c.members.invariant.1 c.in_err-name.ensures.value

pub members_in-returns-in_err-told-clause-refused : goal.members_in-returns-in_err-told-clause-refused
members_in-returns-in_err-told-clause-refused t c invalid =
    let named : read_key c.members.reader ≡ Some (Some c.in-Some.name.now, c.next_key.new.self) = grind arith in
    object_refused c.args.depth c.args.reader.now c.members.invariant.0 c.members.reader c.members.invariant.1 c.in-Some.name.now c.next_key.new.self named (c.member_told.ensures.refused (grind arith))

pub members_in-members-smaller : goal.members_in-members-smaller
members_in-members-smaller t c =
    let named : read_key c.members.reader ≡ Some (Some c.in-Some.name.now, c.next_key.new.self) = grind arith in
    let shorter = read_key-shorter c.members.reader (Some c.in-Some.name.now) c.next_key.new.self named in
    let less : length c.member_told.new.reader < length c.members.reader = omega (arith, shorter, c.in_ok-told.ensures.shorter) in less

pub members_in-members-preserved : goal.members_in-members-preserved
members_in-members-preserved t c =
    let found = c.members.invariant.0 in
    let k = c.in-Some.name.now in
    let named : read_key c.members.reader ≡ Some (Some k, c.next_key.new.self) = grind arith in
    let shorter = read_key-shorter c.members.reader (Some k) c.next_key.new.self named in
    let d = c.in_ok-told.ensures.ok in (
      put k d.0 found,
      member_put c.args.depth c.args.reader.now found c.members.reader c.members.invariant.1 k c.next_key.new.self c.member_told.new.reader d.0 named shorter d.1 c.in_ok-told.ensures.shorter,
      d.2 ∙ ap (with_member k d.0) c.members.invariant.2 ∙ sym (told_put k d.0 found c.members.invariant.1.rising),
    )

pub members_in-returns-clause-ok : goal.members_in-returns-clause-ok
members_in-returns-clause-ok t c =
    let over : read_key c.members.reader ≡ Some (None, c.next_key.new.self) = grind arith in
    let found = c.members.invariant.0 in
    (found, object_over c.args.depth c.args.reader.now found c.members.reader c.members.invariant.1 c.next_key.new.self over, c.members.invariant.1.rising, c.members.invariant.2)

pub members_in-returns-clause-shorter : goal.members_in-returns-clause-shorter
members_in-returns-clause-shorter t c =
    let over : read_key c.members.reader ≡ Some (None, c.next_key.new.self) = grind arith in
    omega (arith, read_key-shorter c.members.reader None c.next_key.new.self over, c.members.invariant.1.within)

pub member_told-returns-in_ok-value_of-in-lit-clause-ok : goal.member_told-returns-in_ok-value_of-in-lit-clause-ok
member_told-returns-in_ok-value_of-in-lit-clause-ok t c =
    let d = read_some value_form (read_value c.args.depth c.args.reader.now) (option_map datum c.in_ok-value_of-in-lit.field-0) c.value_of.new.reader c.in_ok-value_of-in-lit.ensures.ok in
    (d.0, d.1, lit_told c.args.name.now d.0 (told_by c.args.told) (option_map datum c.in_ok-value_of-in-lit.field-0) c.in-lit.is d.2)

pub member_told-returns-in_ok-dtype_of-in-type-clause-ok : goal.member_told-returns-in_ok-dtype_of-in-type-clause-ok
member_told-returns-in_ok-dtype_of-in-type-clause-ok t c =
    let d = read_some dtype_form (read_value c.args.depth c.args.reader.now) (option_map data_type c.in_ok-dtype_of-in-type.field-0) c.dtype_of.new.reader c.in_ok-dtype_of-in-type.ensures.ok in
    (d.0, d.1, type_told c.args.name.now d.0 (told_by c.args.told) (option_map data_type c.in_ok-dtype_of-in-type.field-0) c.in-type.is d.2)

pub member_told-returns-in_ok-expr-in_default-clause-ok : goal.member_told-returns-in_ok-expr-in_default-clause-ok
member_told-returns-in_ok-expr-in_default-clause-ok t c =
    let d = read_some (joined_value c.args.name.now) (read_value c.args.depth c.args.reader.now) (option_map term c.in_ok-expr-in_default.expr) c.joined_of.new.reader c.in_ok-expr-in_default.ensures.ok in
    (d.0, d.1, rw c.with_joined.ensures (other_told c.args.name.now d.0 (told_by c.args.told) (option_map term c.in_ok-expr-in_default.expr) c.in_default.not-lit c.in_default.not-type d.2))

pub joined_of-returns-in_ok-field_got-in-get-clause-ok : goal.joined_of-returns-in_ok-field_got-in-get-clause-ok
joined_of-returns-in_ok-field_got-in-get-clause-ok t c =
    rw c.in_ok-field_got-in-get.ensures (get_read c.args.name.now c.args.depth c.args.reader.now c.named_of.new.reader _ c.in-get.is c.in_ok-named_of-in-get.ensures.ok)

pub joined_of-returns-in_ok-all_named_of-in-pack-clause-ok : goal.joined_of-returns-in_ok-all_named_of-in-pack-clause-ok
joined_of-returns-in_ok-all_named_of-in-pack-clause-ok t c =
    rw c.packed.ensures (pack_read c.args.name.now c.args.depth c.args.reader.now c.all_named_of.new.reader _ c.in-pack.is c.in_ok-all_named_of-in-pack.ensures.ok)

pub joined_of-returns-in_ok-tested-in-Some-clause-ok : goal.joined_of-returns-in_ok-tested-in-Some-clause-ok
joined_of-returns-in_ok-tested-in-Some-clause-ok t c =
    rw c.in_ok-tested-in-Some.ensures (test_read c.args.name.now c.args.depth c.args.reader.now c.expression_of.new.reader c.in_default.not-get c.in_default.not-pack (tested_by c.in-Some.test) _ c.in-Some.ensures c.in_ok-expression_of-in-Some.ensures.ok)

pub joined_of-returns-in-Some-of_name-clause-ok : goal.joined_of-returns-in-Some-of_name-clause-ok
joined_of-returns-in-Some-of_name-clause-ok t c =
    let same = join_same c.args.name.now c.args.depth c.args.reader.now c.pair_joined.new.reader c.in_default.not-get c.in_default.not-pack (joined_by c.in-Some-of_name.join) c.in-None.ensures c.in-Some-of_name.ensures in
    rw same c.pair_joined.ensures.ok

pub joined_of-returns-in_ok-pass-in-None-of_name-clause-ok : goal.joined_of-returns-in_ok-pass-in-None-of_name-clause-ok
joined_of-returns-in_ok-pass-in-None-of_name-clause-ok t c =
    none_read c.args.name.now c.args.depth c.args.reader.now c.pass.new.reader c.in_default.not-get c.in_default.not-pack c.in_ok-pass-in-None-of_name.ensures.ok.0 c.in-None.ensures c.in-None-of_name.ensures c.in_ok-pass-in-None-of_name.ensures.ok.1

pub pair_joined-returns-in_ok-join-in-Some-clause-ok : goal.pair_joined-returns-in_ok-join-in-Some-clause-ok
pair_joined-returns-in_ok-join-in-Some-clause-ok t c =
    let both : Term × Term = (term c.in-Some.left, term c.in-Some.right) in
    let read : reads pair_form c.args.depth c.args.reader.now ≡ Some (Some both, c.pair_of.new.reader) = rw c.in-Some.is at c.in_ok-left.ensures.ok in
    rw c.in_ok-join-in-Some.ensures (read_then (option_map (λ (es : Term × Term). joined_by c.args.join es.0 es.1)) pair_form (read_value c.args.depth c.args.reader.now) (Some both) c.pair_of.new.reader read)

pub pair_joined-returns-in-None-clause-ok : goal.pair_joined-returns-in-None-clause-ok
pair_joined-returns-in-None-clause-ok t c =
    let read : reads pair_form c.args.depth c.args.reader.now ≡ Some (None, c.pair_of.new.reader) = rw c.in-None.is at c.in_ok-left.ensures.ok in
    read_then (option_map (λ (es : Term × Term). joined_by c.args.join es.0 es.1)) pair_form (read_value c.args.depth c.args.reader.now) None c.pair_of.new.reader read

pub pair_of-returns-then-branch-clause-ok : goal.pair_of-returns-then-branch-clause-ok
pair_of-returns-then-branch-clause-ok t c =
    let inside = (c.in_ok-list_begins.ensures.inside (grind arith)).1 in
    rw (of_list pair_form c.args.depth (c.args.depth - 1) c.args.reader.now c.list_begins.new.reader inside) c.pair_in.ensures.ok

pub pair_of-returns-then-branch-clause-shorter : goal.pair_of-returns-then-branch-clause-shorter
pair_of-returns-then-branch-clause-shorter t c = on_ok_weaker c.pair_in.result (λ less. omega (arith, less, c.in_ok-list_begins.ensures.shorter)) c.pair_in.ensures.shorter

pub pair_of-returns-then-branch-clause-refused : goal.pair_of-returns-then-branch-clause-refused
pair_of-returns-then-branch-clause-refused t c invalid =
    list_none c.args.depth (c.args.depth - 1) c.args.reader.now c.list_begins.new.reader (c.in_ok-list_begins.ensures.inside (grind arith)).1 (c.pair_in.ensures.refused invalid)

pub pair_of-returns-else-branch-clause-ok : goal.pair_of-returns-else-branch-clause-ok
pair_of-returns-else-branch-clause-ok t c = not_list pair_form None no_pair c.args.depth c.args.reader.now c.list_begins.new.reader (c.in_ok-list_begins.ensures.past (grind arith))

pub named_of-returns-then-branch-clause-ok : goal.named_of-returns-then-branch-clause-ok
named_of-returns-then-branch-clause-ok t c =
    let inside = (c.in_ok-list_begins.ensures.inside (grind arith)).1 in
    rw (of_list named_form c.args.depth (c.args.depth - 1) c.args.reader.now c.list_begins.new.reader inside) c.named_inside.ensures.ok

pub named_of-returns-then-branch-clause-shorter : goal.named_of-returns-then-branch-clause-shorter
named_of-returns-then-branch-clause-shorter t c = on_ok_weaker c.named_inside.result (λ less. omega (arith, less, c.in_ok-list_begins.ensures.shorter)) c.named_inside.ensures.shorter

pub named_of-returns-then-branch-clause-refused : goal.named_of-returns-then-branch-clause-refused
named_of-returns-then-branch-clause-refused t c invalid =
    list_none c.args.depth (c.args.depth - 1) c.args.reader.now c.list_begins.new.reader (c.in_ok-list_begins.ensures.inside (grind arith)).1 (c.named_inside.ensures.refused invalid)

pub named_of-returns-else-branch-clause-ok : goal.named_of-returns-else-branch-clause-ok
named_of-returns-else-branch-clause-ok t c = not_list named_form None no_named c.args.depth c.args.reader.now c.list_begins.new.reader (c.in_ok-list_begins.ensures.past (grind arith))

pub all_named_of-returns-then-branch-clause-ok : goal.all_named_of-returns-then-branch-clause-ok
all_named_of-returns-then-branch-clause-ok t c =
    let inside = (c.in_ok-list_begins.ensures.inside (grind arith)).1 in
    rw (of_list all_named_form c.args.depth (c.args.depth - 1) c.args.reader.now c.list_begins.new.reader inside ∙ same_form each_named (each_form named_form) each_named_is (read_items (c.args.depth - 1) c.list_begins.new.reader)) c.named_in.ensures.ok

pub all_named_of-returns-then-branch-clause-shorter : goal.all_named_of-returns-then-branch-clause-shorter
all_named_of-returns-then-branch-clause-shorter t c = on_ok_weaker c.named_in.result (λ less. omega (arith, less, c.in_ok-list_begins.ensures.shorter)) c.named_in.ensures.shorter

pub all_named_of-returns-then-branch-clause-refused : goal.all_named_of-returns-then-branch-clause-refused
all_named_of-returns-then-branch-clause-refused t c invalid =
    list_none c.args.depth (c.args.depth - 1) c.args.reader.now c.list_begins.new.reader (c.in_ok-list_begins.ensures.inside (grind arith)).1 (c.named_in.ensures.refused invalid)

pub all_named_of-returns-else-branch-clause-ok : goal.all_named_of-returns-else-branch-clause-ok
all_named_of-returns-else-branch-clause-ok t c = not_list all_named_form None no_named_list c.args.depth c.args.reader.now c.list_begins.new.reader (c.in_ok-list_begins.ensures.past (grind arith))

pub named_in-items-smaller : goal.named_in-items-smaller
named_in-items-smaller t c =
    let going : (after_end_array c.items.reader ≡ None) × (c.take_end_array.new.self ≡ c.items.reader) = grind arith in
    let less : length c.named_of.new.reader < length c.items.reader = rw (← going.1) c.in_ok-item.ensures.shorter in less

pub named_in-returns-in_err-item-clause-refused : goal.named_in-returns-in_err-item-clause-refused
named_in-returns-in_err-item-clause-refused t c invalid =
    let going : (after_end_array c.items.reader ≡ None) × (c.take_end_array.new.self ≡ c.items.reader) = grind arith in
    let none = c.named_of.ensures.refused (grind arith) in
    list_refused named_form c.args.depth c.args.reader.now (option_map (λ v. map named_term v.items) c.items.made) c.items.reader c.items.invariant going.0 (rw (← going.1) none)

pub named_in-items-preserved : goal.named_in-items-preserved
named_in-items-preserved t c =
    let going : (after_end_array c.items.reader ≡ None) × (c.take_end_array.new.self ≡ c.items.reader) = grind arith in
    let item = option_map named_term c.in_ok-item.item in
    let read : reads named_form c.args.depth c.items.reader ≡ Some (item, c.named_of.new.reader) = rw (← going.1) c.in_ok-item.ensures.ok in
    subst (λ (made : Option (List (List ℕ × Term))). IsListRead named_form c.args.depth c.args.reader.now made c.named_of.new.reader) (sym (list_joined (λ v. v.items) named_term c.items.made _ c.in_ok-item.item c.in_ok-made.ensures))
    (item_joined named_form c.args.depth c.args.reader.now (option_map (λ v. map named_term v.items) c.items.made) c.items.reader c.items.invariant c.named_of.new.reader item going.0 read (rw (← going.1) c.in_ok-item.ensures.shorter))

pub named_in-returns-clause-ok : goal.named_in-returns-clause-ok
named_in-returns-clause-ok t c =
    let over : after_end_array c.items.reader ≡ Some c.take_end_array.new.self = grind arith in
    list_done named_form c.args.depth c.args.reader.now (option_map (λ v. map named_term v.items) c.items.made) c.items.reader c.take_end_array.new.self c.items.invariant over

pub named_in-returns-clause-shorter : goal.named_in-returns-clause-shorter
named_in-returns-clause-shorter t c =
    let over : after_end_array c.items.reader ≡ Some c.take_end_array.new.self = grind arith in
    omega (arith, after_end_array-shorter c.items.reader c.take_end_array.new.self over, c.items.invariant.within)

pub pair_in-returns-then-take_end_array-clause-ok : goal.pair_in-returns-then-take_end_array-clause-ok
pair_in-returns-then-take_end_array-clause-ok t c =
    let over : after_end_array c.args.reader.now ≡ Some c.take_end_array.new.self = grind arith in
    of_end pair_items c.args.depth c.args.reader.now c.take_end_array.new.self over

pub pair_in-returns-then-take_end_array-clause-shorter : goal.pair_in-returns-then-take_end_array-clause-shorter
pair_in-returns-then-take_end_array-clause-shorter t c =
    let over : after_end_array c.args.reader.now ≡ Some c.take_end_array.new.self = grind arith in
    after_end_array-shorter c.args.reader.now c.take_end_array.new.self over

pub pair_in-returns-in_err-left-clause-refused : goal.pair_in-returns-in_err-left-clause-refused
pair_in-returns-in_err-left-clause-refused t c invalid =
    let going : (after_end_array c.args.reader.now ≡ None) × (c.take_end_array.new.self ≡ c.args.reader.now) = grind arith in
    let none : read_value c.args.depth c.args.reader.now ≡ None = rw (← going.1) (c.expression_of.ensures.refused (grind arith)) in
    no_list c.args.depth c.args.reader.now going.0 none

pub pair_in-returns-then-take_end_array-2-clause-ok : goal.pair_in-returns-then-take_end_array-2-clause-ok
pair_in-returns-then-take_end_array-2-clause-ok t c =
    let going : (after_end_array c.args.reader.now ≡ None) × (c.take_end_array.new.self ≡ c.args.reader.now) = grind arith in
    let one : reads expression_form c.args.depth c.args.reader.now ≡ Some (option_map term c.in_ok-left.left, c.expression_of.new.reader) = rw (← going.1) c.in_ok-left.ensures.ok in
    let over : after_end_array c.expression_of.new.reader ≡ Some c.take_end_array-2.new.self = grind arith in
    one_only expression_form pair_items None (λ d. refl) c.args.depth c.args.reader.now c.expression_of.new.reader c.take_end_array-2.new.self (option_map term c.in_ok-left.left) going.0 one over

pub pair_in-returns-then-take_end_array-2-clause-shorter : goal.pair_in-returns-then-take_end_array-2-clause-shorter
pair_in-returns-then-take_end_array-2-clause-shorter t c =
    let going : (after_end_array c.args.reader.now ≡ None) × (c.take_end_array.new.self ≡ c.args.reader.now) = grind arith in
    let less : length c.expression_of.new.reader < length c.args.reader.now = rw (← going.1) c.in_ok-left.ensures.shorter in
    let over : after_end_array c.expression_of.new.reader ≡ Some c.take_end_array-2.new.self = grind arith in
    omega (arith, less, after_end_array-shorter c.expression_of.new.reader c.take_end_array-2.new.self over)

pub pair_in-returns-in_err-right-clause-refused : goal.pair_in-returns-in_err-right-clause-refused
pair_in-returns-in_err-right-clause-refused t c invalid =
    let going : (after_end_array c.args.reader.now ≡ None) × (c.take_end_array.new.self ≡ c.args.reader.now) = grind arith in
    let one : reads expression_form c.args.depth c.args.reader.now ≡ Some (option_map term c.in_ok-left.left, c.expression_of.new.reader) = rw (← going.1) c.in_ok-left.ensures.ok in
    let more : (after_end_array c.expression_of.new.reader ≡ None) × (c.take_end_array-2.new.self ≡ c.expression_of.new.reader) = grind arith in
    let none : read_value c.args.depth c.expression_of.new.reader ≡ None = rw (← more.1) (c.expression_of-2.ensures.refused (grind arith)) in
    rest_none expression_form c.args.depth c.args.reader.now c.expression_of.new.reader (option_map term c.in_ok-left.left) going.0 one (no_list c.args.depth c.expression_of.new.reader more.0 none)

pub pair_in-returns-in_err-list_ends-clause-refused : goal.pair_in-returns-in_err-list_ends-clause-refused
pair_in-returns-in_err-list_ends-clause-refused t c invalid =
    let going : (after_end_array c.args.reader.now ≡ None) × (c.take_end_array.new.self ≡ c.args.reader.now) = grind arith in
    let one : reads expression_form c.args.depth c.args.reader.now ≡ Some (option_map term c.in_ok-left.left, c.expression_of.new.reader) = rw (← going.1) c.in_ok-left.ensures.ok in
    let more : (after_end_array c.expression_of.new.reader ≡ None) × (c.take_end_array-2.new.self ≡ c.expression_of.new.reader) = grind arith in
    let two : reads expression_form c.args.depth c.expression_of.new.reader ≡ Some (option_map term c.in_ok-right.right, c.expression_of-2.new.reader) = rw (← more.1) c.in_ok-right.ensures.ok in
    both_none expression_form expression_form pair_items c.args.depth c.args.reader.now c.expression_of.new.reader c.expression_of-2.new.reader c.list_ends.new.reader (option_map term c.in_ok-left.left) (option_map term c.in_ok-right.right) going.0 one more.0 two c.in_err-list_ends.ensures.refused

pub pair_in-returns-then-branch-clause-ok : goal.pair_in-returns-then-branch-clause-ok
pair_in-returns-then-branch-clause-ok t c =
    let going : (after_end_array c.args.reader.now ≡ None) × (c.take_end_array.new.self ≡ c.args.reader.now) = grind arith in
    let one : reads expression_form c.args.depth c.args.reader.now ≡ Some (option_map term c.in_ok-left.left, c.expression_of.new.reader) = rw (← going.1) c.in_ok-left.ensures.ok in
    let more : (after_end_array c.expression_of.new.reader ≡ None) × (c.take_end_array-2.new.self ≡ c.expression_of.new.reader) = grind arith in
    let two : reads expression_form c.args.depth c.expression_of.new.reader ≡ Some (option_map term c.in_ok-right.right, c.expression_of-2.new.reader) = rw (← more.1) c.in_ok-right.ensures.ok in
    rw c.pair_from.ensures (both_read expression_form expression_form pair_items c.args.depth c.args.reader.now c.expression_of.new.reader c.expression_of-2.new.reader c.list_ends.new.reader (option_map term c.in_ok-left.left) (option_map term c.in_ok-right.right) going.0 one more.0 two pair_from (λ d e. refl) (c.in_ok-list_ends.ensures.ends (grind arith)))

pub pair_in-returns-else-branch-clause-ok : goal.pair_in-returns-else-branch-clause-ok
pair_in-returns-else-branch-clause-ok t c =
    let going : (after_end_array c.args.reader.now ≡ None) × (c.take_end_array.new.self ≡ c.args.reader.now) = grind arith in
    let one : reads expression_form c.args.depth c.args.reader.now ≡ Some (option_map term c.in_ok-left.left, c.expression_of.new.reader) = rw (← going.1) c.in_ok-left.ensures.ok in
    let more : (after_end_array c.expression_of.new.reader ≡ None) × (c.take_end_array-2.new.self ≡ c.expression_of.new.reader) = grind arith in
    let two : reads expression_form c.args.depth c.expression_of.new.reader ≡ Some (option_map term c.in_ok-right.right, c.expression_of-2.new.reader) = rw (← more.1) c.in_ok-right.ensures.ok in
    both_and_more expression_form expression_form pair_items c.args.depth c.args.reader.now c.expression_of.new.reader c.expression_of-2.new.reader c.list_ends.new.reader (option_map term c.in_ok-left.left) (option_map term c.in_ok-right.right) going.0 one more.0 two None (λ d e o ds. refl) (c.in_ok-list_ends.ensures.more (grind arith))

pub named_inside-returns-then-take_end_array-clause-ok : goal.named_inside-returns-then-take_end_array-clause-ok
named_inside-returns-then-take_end_array-clause-ok t c =
    let over : after_end_array c.args.reader.now ≡ Some c.take_end_array.new.self = grind arith in
    of_end named_items c.args.depth c.args.reader.now c.take_end_array.new.self over

pub named_inside-returns-then-take_end_array-clause-shorter : goal.named_inside-returns-then-take_end_array-clause-shorter
named_inside-returns-then-take_end_array-clause-shorter t c =
    let over : after_end_array c.args.reader.now ≡ Some c.take_end_array.new.self = grind arith in
    after_end_array-shorter c.args.reader.now c.take_end_array.new.self over

pub named_inside-returns-in_err-name-clause-refused : goal.named_inside-returns-in_err-name-clause-refused
named_inside-returns-in_err-name-clause-refused t c invalid =
    let going : (after_end_array c.args.reader.now ≡ None) × (c.take_end_array.new.self ≡ c.args.reader.now) = grind arith in
    let none : read_value c.args.depth c.args.reader.now ≡ None = rw (← going.1) c.in_err-name.ensures.refused in
    no_list c.args.depth c.args.reader.now going.0 none

pub named_inside-returns-then-take_end_array-2-clause-ok : goal.named_inside-returns-then-take_end_array-2-clause-ok
named_inside-returns-then-take_end_array-2-clause-ok t c =
    let going : (after_end_array c.args.reader.now ≡ None) × (c.take_end_array.new.self ≡ c.args.reader.now) = grind arith in
    let one : reads as_str c.args.depth c.args.reader.now ≡ Some (option_map (λ s. s.now) c.in_ok-name.name, c.text.new.reader) = rw (← going.1) c.in_ok-name.ensures.ok in
    let over : after_end_array c.text.new.reader ≡ Some c.take_end_array-2.new.self = grind arith in
    one_only as_str named_items None (λ d. refl) c.args.depth c.args.reader.now c.text.new.reader c.take_end_array-2.new.self (option_map (λ s. s.now) c.in_ok-name.name) going.0 one over

pub named_inside-returns-then-take_end_array-2-clause-shorter : goal.named_inside-returns-then-take_end_array-2-clause-shorter
named_inside-returns-then-take_end_array-2-clause-shorter t c =
    let going : (after_end_array c.args.reader.now ≡ None) × (c.take_end_array.new.self ≡ c.args.reader.now) = grind arith in
    let less : length c.text.new.reader < length c.args.reader.now = rw (← going.1) c.in_ok-name.ensures.shorter in
    let over : after_end_array c.text.new.reader ≡ Some c.take_end_array-2.new.self = grind arith in
    omega (arith, less, after_end_array-shorter c.text.new.reader c.take_end_array-2.new.self over)

pub named_inside-returns-in_err-expr-clause-refused : goal.named_inside-returns-in_err-expr-clause-refused
named_inside-returns-in_err-expr-clause-refused t c invalid =
    let going : (after_end_array c.args.reader.now ≡ None) × (c.take_end_array.new.self ≡ c.args.reader.now) = grind arith in
    let one : reads as_str c.args.depth c.args.reader.now ≡ Some (option_map (λ s. s.now) c.in_ok-name.name, c.text.new.reader) = rw (← going.1) c.in_ok-name.ensures.ok in
    let more : (after_end_array c.text.new.reader ≡ None) × (c.take_end_array-2.new.self ≡ c.text.new.reader) = grind arith in
    let none : read_value c.args.depth c.text.new.reader ≡ None = rw (← more.1) (c.expression_of.ensures.refused (grind arith)) in
    rest_none as_str c.args.depth c.args.reader.now c.text.new.reader (option_map (λ s. s.now) c.in_ok-name.name) going.0 one (no_list c.args.depth c.text.new.reader more.0 none)

pub named_inside-returns-in_ok-named_from-in-Ok-true-clause-ok : goal.named_inside-returns-in_ok-named_from-in-Ok-true-clause-ok
named_inside-returns-in_ok-named_from-in-Ok-true-clause-ok t c =
    let going : (after_end_array c.args.reader.now ≡ None) × (c.take_end_array.new.self ≡ c.args.reader.now) = grind arith in
    let one : reads as_str c.args.depth c.args.reader.now ≡ Some (option_map (λ s. s.now) c.in_ok-name.name, c.text.new.reader) = rw (← going.1) c.in_ok-name.ensures.ok in
    let more : (after_end_array c.text.new.reader ≡ None) × (c.take_end_array-2.new.self ≡ c.text.new.reader) = grind arith in
    let two : reads expression_form c.args.depth c.text.new.reader ≡ Some (option_map term c.in_ok-expr.expr, c.expression_of.new.reader) = rw (← more.1) c.in_ok-expr.ensures.ok in
    rw c.in_ok-named_from-in-Ok-true.ensures (both_read as_str expression_form named_items c.args.depth c.args.reader.now c.text.new.reader c.expression_of.new.reader c.list_ends.new.reader (option_map (λ s. s.now) c.in_ok-name.name) (option_map term c.in_ok-expr.expr) going.0 one more.0 two named_from (λ d e. refl) (c.in-Ok-true.ensures.ends (grind arith)))

pub named_inside-returns-in-Ok-false-clause-ok : goal.named_inside-returns-in-Ok-false-clause-ok
named_inside-returns-in-Ok-false-clause-ok t c =
    let going : (after_end_array c.args.reader.now ≡ None) × (c.take_end_array.new.self ≡ c.args.reader.now) = grind arith in
    let one : reads as_str c.args.depth c.args.reader.now ≡ Some (option_map (λ s. s.now) c.in_ok-name.name, c.text.new.reader) = rw (← going.1) c.in_ok-name.ensures.ok in
    let more : (after_end_array c.text.new.reader ≡ None) × (c.take_end_array-2.new.self ≡ c.text.new.reader) = grind arith in
    let two : reads expression_form c.args.depth c.text.new.reader ≡ Some (option_map term c.in_ok-expr.expr, c.expression_of.new.reader) = rw (← more.1) c.in_ok-expr.ensures.ok in
    both_and_more as_str expression_form named_items c.args.depth c.args.reader.now c.text.new.reader c.expression_of.new.reader c.list_ends.new.reader (option_map (λ s. s.now) c.in_ok-name.name) (option_map term c.in_ok-expr.expr) going.0 one more.0 two None (λ d e o ds. refl) (c.in-Ok-false.ensures.more (grind arith))

pub named_inside-returns-in-Err-clause-refused : goal.named_inside-returns-in-Err-clause-refused
named_inside-returns-in-Err-clause-refused t c invalid =
    let going : (after_end_array c.args.reader.now ≡ None) × (c.take_end_array.new.self ≡ c.args.reader.now) = grind arith in
    let one : reads as_str c.args.depth c.args.reader.now ≡ Some (option_map (λ s. s.now) c.in_ok-name.name, c.text.new.reader) = rw (← going.1) c.in_ok-name.ensures.ok in
    let more : (after_end_array c.text.new.reader ≡ None) × (c.take_end_array-2.new.self ≡ c.text.new.reader) = grind arith in
    let two : reads expression_form c.args.depth c.text.new.reader ≡ Some (option_map term c.in_ok-expr.expr, c.expression_of.new.reader) = rw (← more.1) c.in_ok-expr.ensures.ok in
    both_none as_str expression_form named_items c.args.depth c.args.reader.now c.text.new.reader c.expression_of.new.reader c.list_ends.new.reader (option_map (λ s. s.now) c.in_ok-name.name) (option_map term c.in_ok-expr.expr) going.0 one more.0 two c.in-Err.ensures.refused
