use Rattle.std.proofs.Common.{◌≡◌, ◌-◌, ◌<◌, ◌≤◌, [], ◌∷◌, List, ℕ, length, map, Option, Some, None, option_map, refl, subst, sym, ap, ap₂, ◌∙◌, arith}
use Rattle.std.proofs.lemmas.Result.{on_ok_weaker}
use Rattle.json.specs.Json.{after_end_array, parse_map, read_key}
use Rattle.json.proofs.Grammar.{after_end_array-shorter, read_key-shorter}
use Rattle.serde_json.specs.Data.{Data, Items, no_items, item, no_members, string, put}
use Rattle.serde_json.specs.Find.{as_array, as_str}
use Rattle.vx_base.specs.Data.{DataType}
use Rattle.vx_base.specs.Views.{FieldData, data_type, field_data, members_from}
use Rattle.scan_json.specs.Forms.{each_form}
use Rattle.scan_json.specs.Reading.{head_reads, read_items, read_members, read_value, reads, reads_items}
use Rattle.scan_json.specs.Singles.{only_one, single_said, with_single}
use Rattle.scan_json.proofs.ListTurns.{IsListRead, item_joined, list_done, list_joined, list_refused}
use Rattle.scan_json.proofs.ObjectTurns.{member_put, object_begun, object_no_key, object_over, object_refused}
use Rattle.scan_json.proofs.Parts.{list_none, object_none, of_end, of_list, of_members, of_object, of_value}
use Rattle.scan_json.proofs.Singles.{single_put}
use Rattle.scan_json.proofs.Steps.{no_list}
use Rattle.scan_json.proofs.Turns.{read_some, read_then}
use Rattle.scan_request.specs.DtypeForms.{dtype_form, each_field, field_form, field_from, field_items, fields_form, nested_form, nested_value}
use Rattle.scan_request.proofs.DtypeForms.{each_field_is, list_read, nested_is, no_field, no_fields, other_value, struct_read}
use Rattle.scan_request.proofs.FixedLists.{both_and_more, both_none, both_read, one_only, rest_none}
use Rattle.scan_request.proofs.OtherKinds.{not_list, passed_list, same_form}
use Rattle.scan_request.proofs.dtype_forms.+dtypes.Goals as goal

pub dtype_of-returns-in-String-clause-ok : goal.dtype_of-returns-in-String-clause-ok
dtype_of-returns-in-String-clause-ok t c =
    let is = c.in_ok-name.ensures.ok ∙ ap (λ h. head_reads h c.args.depth c.next_head.new.reader) c.in-String.is in
    of_value dtype_form c.args.depth c.args.reader.now c.next_head.new.reader (string c.in-String.name.now) is ∙ ap (λ o. Some (o, c.next_head.new.reader)) (sym c.leaf_of.ensures)

pub dtype_of-returns-in-Object-clause-ok : goal.dtype_of-returns-in-Object-clause-ok
dtype_of-returns-in-Object-clause-ok t c =
    let is = c.in_ok-name.ensures.ok ∙ ap (λ h. head_reads h c.args.depth c.next_head.new.reader) c.in-Object.is in
    rw (of_object dtype_form c.args.depth (c.args.depth - 1) c.args.reader.now c.next_head.new.reader is) c.nested_in.ensures.ok

pub dtype_of-returns-in-Object-clause-shorter : goal.dtype_of-returns-in-Object-clause-shorter
dtype_of-returns-in-Object-clause-shorter t c = on_ok_weaker c.nested_in.result (λ less. omega (arith, less, c.in_ok-name.ensures.shorter)) c.nested_in.ensures.shorter

pub dtype_of-returns-in-Object-clause-refused : goal.dtype_of-returns-in-Object-clause-refused
dtype_of-returns-in-Object-clause-refused t c invalid =
    let is = c.in_ok-name.ensures.ok ∙ ap (λ h. head_reads h c.args.depth c.next_head.new.reader) c.in-Object.is in
    object_none c.args.depth (c.args.depth - 1) c.args.reader.now c.next_head.new.reader is (c.nested_in.ensures.refused invalid)

pub nested_in-members-init : goal.nested_in-members-init
nested_in-members-init t c = (no_members, object_begun c.args.depth c.args.reader.now, refl)

pub nested_in-returns-in_err-name-clause-refused : goal.nested_in-returns-in_err-name-clause-refused
nested_in-returns-in_err-name-clause-refused t c invalid =
    object_no_key c.args.depth c.args.reader.now c.members.invariant.0 c.members.reader c.members.invariant.1 c.in_err-name.ensures.value

pub nested_in-returns-in_err-dtype-clause-refused : goal.nested_in-returns-in_err-dtype-clause-refused
nested_in-returns-in_err-dtype-clause-refused t c invalid =
    let named : read_key c.members.reader ≡ Some (Some c.in-Some.name.now, c.next_key.new.self) = grind arith in
    object_refused c.args.depth c.args.reader.now c.members.invariant.0 c.members.reader c.members.invariant.1 c.in-Some.name.now c.next_key.new.self named (c.nested_named.ensures.refused (grind arith))

pub nested_in-members-preserved : goal.nested_in-members-preserved
nested_in-members-preserved t c =
    let found = c.members.invariant.0 in
    let k = c.in-Some.name.now in
    let named : read_key c.members.reader ≡ Some (Some k, c.next_key.new.self) = grind arith in
    let shorter = read_key-shorter c.members.reader (Some k) c.next_key.new.self named in
    let done = c.in_ok-dtype.ensures in
    let d = read_some (nested_value k) (read_value c.args.depth c.next_key.new.self) (option_map data_type c.in_ok-dtype.dtype) c.nested_named.new.reader done.ok in (
      put k d.0 found,
      member_put c.args.depth c.args.reader.now found c.members.reader c.members.invariant.1 k c.next_key.new.self c.nested_named.new.reader d.0 named shorter d.1 done.shorter,
      c.with_member-told.ensures ∙ ap₂ (λ x all. with_single k x all) (sym d.2) c.members.invariant.2 ∙ sym (single_put nested_value k d.0 found),
    )

pub nested_in-returns-clause-ok : goal.nested_in-returns-clause-ok
nested_in-returns-clause-ok t c =
    let over : read_key c.members.reader ≡ Some (None, c.next_key.new.self) = grind arith in
    let found = c.members.invariant.0 in
    of_members nested_form c.args.depth c.args.reader.now c.next_key.new.self found (object_over c.args.depth c.args.reader.now found c.members.reader c.members.invariant.1 c.next_key.new.self over)
    ∙ ap (λ o. Some (o, c.next_key.new.self)) (sym (c.dtype_told.ensures ∙ ap only_one c.members.invariant.2 ∙ nested_is found))

pub fields_in-returns-in_err-item-clause-refused : goal.fields_in-returns-in_err-item-clause-refused
fields_in-returns-in_err-item-clause-refused t c invalid =
    let going : (after_end_array c.items.reader ≡ None) × (c.take_end_array.new.self ≡ c.items.reader) = grind arith in
    let none = c.field_of.ensures.refused (grind arith) in
    list_refused field_form c.args.depth c.args.reader.now (option_map (λ v. map field_data v.items) c.items.made) c.items.reader c.items.invariant going.0 (rw (← going.1) none)

pub fields_in-items-preserved : goal.fields_in-items-preserved
fields_in-items-preserved t c =
    let going : (after_end_array c.items.reader ≡ None) × (c.take_end_array.new.self ≡ c.items.reader) = grind arith in
    let item = option_map field_data c.in_ok-item.item in
    let read : reads field_form c.args.depth c.items.reader ≡ Some (item, c.field_of.new.reader) = rw (← going.1) c.in_ok-item.ensures.ok in
    subst (λ (made : Option (List FieldData)). IsListRead field_form c.args.depth c.args.reader.now made c.field_of.new.reader) (sym (list_joined (λ v. v.items) field_data c.items.made _ c.in_ok-item.item c.in_ok-made.ensures))
    (item_joined field_form c.args.depth c.args.reader.now (option_map (λ v. map field_data v.items) c.items.made) c.items.reader c.items.invariant c.field_of.new.reader item going.0 read (rw (← going.1) c.in_ok-item.ensures.shorter))

pub nested_in-members-smaller : goal.nested_in-members-smaller
nested_in-members-smaller t c =
    let named : read_key c.members.reader ≡ Some (Some c.in-Some.name.now, c.next_key.new.self) = grind arith in
    let shorter = read_key-shorter c.members.reader (Some c.in-Some.name.now) c.next_key.new.self named in
    let less : length c.nested_named.new.reader < length c.members.reader = omega (arith, shorter, c.in_ok-dtype.ensures.shorter) in less

pub nested_in-returns-clause-shorter : goal.nested_in-returns-clause-shorter
nested_in-returns-clause-shorter t c =
    let over : read_key c.members.reader ≡ Some (None, c.next_key.new.self) = grind arith in
    omega (arith, read_key-shorter c.members.reader None c.next_key.new.self over, c.members.invariant.1.within)

pub nested_named-returns-in-Some-clause-ok : goal.nested_named-returns-in-Some-clause-ok
nested_named-returns-in-Some-clause-ok t c =
    let read : reads (λ d. option_map members_from (fields_form d)) c.args.depth c.args.reader.now ≡ Some (Some c.in-Some.fields, c.fields_of.new.reader) = rw c.in-Some.is at c.in_ok-fields-in-struct.ensures.ok in
    struct_read c.args.name.now c.unmarked-nullability.result.1 c.args.depth c.args.reader.now c.fields_of.new.reader (Some c.in-Some.fields) (sym c.unmarked-nullability.ensures.name ∙ c.in-struct.is) (sym c.unmarked-nullability.ensures.nullability) read

pub nested_named-returns-in-None-clause-ok : goal.nested_named-returns-in-None-clause-ok
nested_named-returns-in-None-clause-ok t c =
    let read : reads (λ d. option_map members_from (fields_form d)) c.args.depth c.args.reader.now ≡ Some (None, c.fields_of.new.reader) = rw c.in-None.is at c.in_ok-fields-in-struct.ensures.ok in
    struct_read c.args.name.now c.unmarked-nullability.result.1 c.args.depth c.args.reader.now c.fields_of.new.reader None (sym c.unmarked-nullability.ensures.name ∙ c.in-struct.is) (sym c.unmarked-nullability.ensures.nullability) read

pub nested_named-returns-in_ok-pass-in_default-clause-ok : goal.nested_named-returns-in_ok-pass-in_default-clause-ok
nested_named-returns-in_ok-pass-in_default-clause-ok t c =
    let none = other_value c.args.name.now (λ is. c.in_default.not-struct (c.unmarked-nullability.ensures.name ∙ is)) (λ is. c.in_default.not-list (c.unmarked-nullability.ensures.name ∙ is)) c.in_ok-pass-in_default.ensures.ok.0 in
    of_value (nested_value c.args.name.now) c.args.depth c.args.reader.now c.pass.new.reader c.in_ok-pass-in_default.ensures.ok.0 c.in_ok-pass-in_default.ensures.ok.1 ∙ ap (λ o. Some (o, c.pass.new.reader)) none

pub fields_of-returns-then-branch-clause-ok : goal.fields_of-returns-then-branch-clause-ok
fields_of-returns-then-branch-clause-ok t c =
    let inside = (c.in_ok-list_begins.ensures.inside (grind arith)).1 in
    let all = of_list (λ d. option_map members_from (fields_form d)) c.args.depth (c.args.depth - 1) c.args.reader.now c.list_begins.new.reader inside
    ∙ same_form (λ ds. option_map members_from (each_field ds)) (λ ds. option_map members_from (each_form field_form ds)) (λ ds. ap (option_map members_from) (each_field_is ds)) (read_items (c.args.depth - 1) c.list_begins.new.reader) in
    rw all c.fields_in.ensures.ok

pub fields_of-returns-then-branch-clause-shorter : goal.fields_of-returns-then-branch-clause-shorter
fields_of-returns-then-branch-clause-shorter t c = on_ok_weaker c.fields_in.result (λ less. omega (arith, less, c.in_ok-list_begins.ensures.shorter)) c.fields_in.ensures.shorter

pub fields_of-returns-then-branch-clause-refused : goal.fields_of-returns-then-branch-clause-refused
fields_of-returns-then-branch-clause-refused t c invalid =
    list_none c.args.depth (c.args.depth - 1) c.args.reader.now c.list_begins.new.reader (c.in_ok-list_begins.ensures.inside (grind arith)).1 (c.fields_in.ensures.refused invalid)

pub fields_of-returns-else-branch-clause-ok : goal.fields_of-returns-else-branch-clause-ok
fields_of-returns-else-branch-clause-ok t c =
    not_list (λ d. option_map members_from (fields_form d)) None (λ d none. ap (option_map members_from) (no_fields d none)) c.args.depth c.args.reader.now c.list_begins.new.reader (c.in_ok-list_begins.ensures.past (grind arith))

pub field_of-returns-then-branch-clause-ok : goal.field_of-returns-then-branch-clause-ok
field_of-returns-then-branch-clause-ok t c =
    let inside = (c.in_ok-list_begins.ensures.inside (grind arith)).1 in
    rw (of_list field_form c.args.depth (c.args.depth - 1) c.args.reader.now c.list_begins.new.reader inside) c.field_in.ensures.ok

pub field_of-returns-then-branch-clause-shorter : goal.field_of-returns-then-branch-clause-shorter
field_of-returns-then-branch-clause-shorter t c = on_ok_weaker c.field_in.result (λ less. omega (arith, less, c.in_ok-list_begins.ensures.shorter)) c.field_in.ensures.shorter

pub field_of-returns-then-branch-clause-refused : goal.field_of-returns-then-branch-clause-refused
field_of-returns-then-branch-clause-refused t c invalid =
    list_none c.args.depth (c.args.depth - 1) c.args.reader.now c.list_begins.new.reader (c.in_ok-list_begins.ensures.inside (grind arith)).1 (c.field_in.ensures.refused invalid)

pub field_of-returns-else-branch-clause-ok : goal.field_of-returns-else-branch-clause-ok
field_of-returns-else-branch-clause-ok t c = not_list field_form None no_field c.args.depth c.args.reader.now c.list_begins.new.reader (c.in_ok-list_begins.ensures.past (grind arith))

pub fields_in-items-smaller : goal.fields_in-items-smaller
fields_in-items-smaller t c =
    let going : (after_end_array c.items.reader ≡ None) × (c.take_end_array.new.self ≡ c.items.reader) = grind arith in
    let less : length c.field_of.new.reader < length c.items.reader = rw (← going.1) c.in_ok-item.ensures.shorter in less

pub fields_in-returns-in-Some-clause-ok : goal.fields_in-returns-in-Some-clause-ok
fields_in-returns-in-Some-clause-ok t c =
    let over : after_end_array c.items.reader ≡ Some c.take_end_array.new.self = grind arith in
    let all = list_done field_form c.args.depth c.args.reader.now (option_map (λ v. map field_data v.items) c.items.made) c.items.reader c.take_end_array.new.self c.items.invariant over in
    read_then (option_map members_from) (each_form field_form) (read_items c.args.depth c.args.reader.now) (option_map (λ v. map field_data v.items) c.items.made) c.take_end_array.new.self all
    ∙ ap (λ o. Some (option_map members_from (option_map (λ v. map field_data v.items) o), c.take_end_array.new.self)) c.in-Some.is ∙ ap (λ ms. Some (Some ms, c.take_end_array.new.self)) (sym c.from_vec.ensures)

pub fields_in-returns-in-None-clause-ok : goal.fields_in-returns-in-None-clause-ok
fields_in-returns-in-None-clause-ok t c =
    let over : after_end_array c.items.reader ≡ Some c.take_end_array.new.self = grind arith in
    let all = list_done field_form c.args.depth c.args.reader.now (option_map (λ v. map field_data v.items) c.items.made) c.items.reader c.take_end_array.new.self c.items.invariant over in
    read_then (option_map members_from) (each_form field_form) (read_items c.args.depth c.args.reader.now) (option_map (λ v. map field_data v.items) c.items.made) c.take_end_array.new.self all
    ∙ ap (λ o. Some (option_map members_from (option_map (λ v. map field_data v.items) o), c.take_end_array.new.self)) c.in-None.is

pub dtype_of-returns-in_ok-pass_items-in-List-clause-ok : goal.dtype_of-returns-in_ok-pass_items-in-List-clause-ok
dtype_of-returns-in_ok-pass_items-in-List-clause-ok t c =
    let is = c.in_ok-name.ensures.ok ∙ ap (λ h. head_reads h c.args.depth c.next_head.new.reader) c.in-List.is in
    passed_list dtype_form None (λ ds. refl) c.args.depth (c.args.depth - 1) c.args.reader.now c.next_head.new.reader c.pass_items.new.reader is c.in_ok-pass_items-in-List.ensures.ok

pub field_in-returns-then-take_end_array-clause-ok : goal.field_in-returns-then-take_end_array-clause-ok
field_in-returns-then-take_end_array-clause-ok t c =
    let over : after_end_array c.args.reader.now ≡ Some c.take_end_array.new.self = grind arith in
    of_end field_items c.args.depth c.args.reader.now c.take_end_array.new.self over

pub field_in-returns-then-take_end_array-clause-shorter : goal.field_in-returns-then-take_end_array-clause-shorter
field_in-returns-then-take_end_array-clause-shorter t c =
    let over : after_end_array c.args.reader.now ≡ Some c.take_end_array.new.self = grind arith in
    after_end_array-shorter c.args.reader.now c.take_end_array.new.self over

pub field_in-returns-in_err-name-clause-refused : goal.field_in-returns-in_err-name-clause-refused
field_in-returns-in_err-name-clause-refused t c invalid =
    let going : (after_end_array c.args.reader.now ≡ None) × (c.take_end_array.new.self ≡ c.args.reader.now) = grind arith in
    let none : read_value c.args.depth c.args.reader.now ≡ None = rw (← going.1) c.in_err-name.ensures.refused in
    no_list c.args.depth c.args.reader.now going.0 none

pub field_in-returns-then-take_end_array-2-clause-ok : goal.field_in-returns-then-take_end_array-2-clause-ok
field_in-returns-then-take_end_array-2-clause-ok t c =
    let going : (after_end_array c.args.reader.now ≡ None) × (c.take_end_array.new.self ≡ c.args.reader.now) = grind arith in
    let one : reads as_str c.args.depth c.args.reader.now ≡ Some (option_map (λ s. s.now) c.in_ok-name.name, c.text.new.reader) = rw (← going.1) c.in_ok-name.ensures.ok in
    let over : after_end_array c.text.new.reader ≡ Some c.take_end_array-2.new.self = grind arith in
    one_only as_str field_items None (λ d. refl) c.args.depth c.args.reader.now c.text.new.reader c.take_end_array-2.new.self (option_map (λ s. s.now) c.in_ok-name.name) going.0 one over

pub field_in-returns-then-take_end_array-2-clause-shorter : goal.field_in-returns-then-take_end_array-2-clause-shorter
field_in-returns-then-take_end_array-2-clause-shorter t c =
    let going : (after_end_array c.args.reader.now ≡ None) × (c.take_end_array.new.self ≡ c.args.reader.now) = grind arith in
    let less : length c.text.new.reader < length c.args.reader.now = rw (← going.1) c.in_ok-name.ensures.shorter in
    let over : after_end_array c.text.new.reader ≡ Some c.take_end_array-2.new.self = grind arith in
    omega (arith, less, after_end_array-shorter c.text.new.reader c.take_end_array-2.new.self over)

pub field_in-returns-in_err-dtype-clause-refused : goal.field_in-returns-in_err-dtype-clause-refused
field_in-returns-in_err-dtype-clause-refused t c invalid =
    let going : (after_end_array c.args.reader.now ≡ None) × (c.take_end_array.new.self ≡ c.args.reader.now) = grind arith in
    let one : reads as_str c.args.depth c.args.reader.now ≡ Some (option_map (λ s. s.now) c.in_ok-name.name, c.text.new.reader) = rw (← going.1) c.in_ok-name.ensures.ok in
    let more : (after_end_array c.text.new.reader ≡ None) × (c.take_end_array-2.new.self ≡ c.text.new.reader) = grind arith in
    let none : read_value c.args.depth c.text.new.reader ≡ None = rw (← more.1) (c.dtype_of.ensures.refused (grind arith)) in
    rest_none as_str c.args.depth c.args.reader.now c.text.new.reader (option_map (λ s. s.now) c.in_ok-name.name) going.0 one (no_list c.args.depth c.text.new.reader more.0 none)

pub field_in-returns-in_ok-field_from-in-Ok-true-clause-ok : goal.field_in-returns-in_ok-field_from-in-Ok-true-clause-ok
field_in-returns-in_ok-field_from-in-Ok-true-clause-ok t c =
    let going : (after_end_array c.args.reader.now ≡ None) × (c.take_end_array.new.self ≡ c.args.reader.now) = grind arith in
    let one : reads as_str c.args.depth c.args.reader.now ≡ Some (option_map (λ s. s.now) c.in_ok-name.name, c.text.new.reader) = rw (← going.1) c.in_ok-name.ensures.ok in
    let more : (after_end_array c.text.new.reader ≡ None) × (c.take_end_array-2.new.self ≡ c.text.new.reader) = grind arith in
    let two : reads dtype_form c.args.depth c.text.new.reader ≡ Some (option_map data_type c.in_ok-dtype.dtype, c.dtype_of.new.reader) = rw (← more.1) c.in_ok-dtype.ensures.ok in
    rw c.in_ok-field_from-in-Ok-true.ensures (both_read as_str dtype_form field_items c.args.depth c.args.reader.now c.text.new.reader c.dtype_of.new.reader c.list_ends.new.reader (option_map (λ s. s.now) c.in_ok-name.name) (option_map data_type c.in_ok-dtype.dtype) going.0 one more.0 two field_from (λ d e. refl) (c.in-Ok-true.ensures.ends (grind arith)))

pub field_in-returns-in-Ok-false-clause-ok : goal.field_in-returns-in-Ok-false-clause-ok
field_in-returns-in-Ok-false-clause-ok t c =
    let going : (after_end_array c.args.reader.now ≡ None) × (c.take_end_array.new.self ≡ c.args.reader.now) = grind arith in
    let one : reads as_str c.args.depth c.args.reader.now ≡ Some (option_map (λ s. s.now) c.in_ok-name.name, c.text.new.reader) = rw (← going.1) c.in_ok-name.ensures.ok in
    let more : (after_end_array c.text.new.reader ≡ None) × (c.take_end_array-2.new.self ≡ c.text.new.reader) = grind arith in
    let two : reads dtype_form c.args.depth c.text.new.reader ≡ Some (option_map data_type c.in_ok-dtype.dtype, c.dtype_of.new.reader) = rw (← more.1) c.in_ok-dtype.ensures.ok in
    both_and_more as_str dtype_form field_items c.args.depth c.args.reader.now c.text.new.reader c.dtype_of.new.reader c.list_ends.new.reader (option_map (λ s. s.now) c.in_ok-name.name) (option_map data_type c.in_ok-dtype.dtype) going.0 one more.0 two None (λ d e o ds. refl) (c.in-Ok-false.ensures.more (grind arith))

pub field_in-returns-in-Err-clause-refused : goal.field_in-returns-in-Err-clause-refused
field_in-returns-in-Err-clause-refused t c invalid =
    let going : (after_end_array c.args.reader.now ≡ None) × (c.take_end_array.new.self ≡ c.args.reader.now) = grind arith in
    let one : reads as_str c.args.depth c.args.reader.now ≡ Some (option_map (λ s. s.now) c.in_ok-name.name, c.text.new.reader) = rw (← going.1) c.in_ok-name.ensures.ok in
    let more : (after_end_array c.text.new.reader ≡ None) × (c.take_end_array-2.new.self ≡ c.text.new.reader) = grind arith in
    let two : reads dtype_form c.args.depth c.text.new.reader ≡ Some (option_map data_type c.in_ok-dtype.dtype, c.dtype_of.new.reader) = rw (← more.1) c.in_ok-dtype.ensures.ok in
    both_none as_str dtype_form field_items c.args.depth c.args.reader.now c.text.new.reader c.dtype_of.new.reader c.list_ends.new.reader (option_map (λ s. s.now) c.in_ok-name.name) (option_map data_type c.in_ok-dtype.dtype) going.0 one more.0 two c.in-Err.ensures.refused
