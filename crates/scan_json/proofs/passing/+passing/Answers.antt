use Rattle.std.proofs.Common.{◌≡◌, ◌<◌, [], ◌∷◌, length, Option, Some, None, refl, ap, arith, rules}
use Rattle.json.specs.Json.{parse_map, after_end_array, read_key}
use Rattle.json.proofs.Grammar.{after_end_array-shorter, read_key-shorter}
use Rattle.serde_json.specs.Data.{Data, no_members, put}
use Rattle.scan_json.specs.Forms.{each_form, followed_by}
use Rattle.scan_json.specs.Reading.{read_items, read_value, reads}
use Rattle.scan_json.proofs.ListTurns.{list_begun, item_joined, list_over, list_refused}
use Rattle.scan_json.proofs.ObjectTurns.{object_begun, member_put, object_over, object_refused, object_no_key}
use Rattle.scan_json.proofs.Tails.{tail_all, tail_none, tail_later, tail_of_same, tail_closed, tail_key}
use Rattle.scan_json.proofs.Turns.{read_some}
use Rattle.scan_json.proofs.passing.+passing.Goals as goal

abbrev kept : Data → Option Data
kept d = Some d

pub pass_items-items-init : goal.pass_items-items-init
pass_items-items-init t c = ((Some _, list_begun kept c.args.depth c.args.reader.now), tail_all c.args.reader.now c.args.reader.now refl)

pub pass_items-items-smaller : goal.pass_items-items-smaller
pass_items-items-smaller t c =
    let going : (after_end_array c.items.reader ≡ None) × (c.take_end_array.new.self ≡ c.items.reader) = grind arith in
    let less : length c.pass.new.reader < length c.items.reader = rw (← going.1) c.in_ok-pass.ensures.shorter in less

pub pass_items-items-preserved : goal.pass_items-items-preserved
pass_items-items-preserved t c =
    let going : (after_end_array c.items.reader ≡ None) × (c.take_end_array.new.self ≡ c.items.reader) = grind arith in
    let done = c.in_ok-pass.ensures in
    let so_far = c.items.invariant.0 in
    let value : read_value c.args.depth c.items.reader ≡ Some (done.ok.0, c.pass.new.reader) = rw (← going.1) done.ok.1 in
    let read : reads kept c.args.depth c.items.reader ≡ Some (Some done.ok.0, c.pass.new.reader) = ap (parse_map kept) value in
    let left = tail_later c.args.reader.now c.items.reader c.pass.new.reader c.items.invariant.1 (tail_of_same c.items.reader c.take_end_array.new.self c.pass.new.reader going.1 done.left) in
    ((followed_by so_far.0 (Some (done.ok.0 ∷ [])), item_joined kept c.args.depth c.args.reader.now so_far.0 c.items.reader so_far.1 c.pass.new.reader (Some done.ok.0) going.0 read (rw (← going.1) done.shorter)), left)

pub pass_items-returns-in_err-pass-clause-refused : goal.pass_items-returns-in_err-pass-clause-refused
pass_items-returns-in_err-pass-clause-refused t c =
    let going : (after_end_array c.items.reader ≡ None) × (c.take_end_array.new.self ≡ c.items.reader) = grind arith in
    let so_far = c.items.invariant.0 in
    let none = list_refused kept c.args.depth c.args.reader.now so_far.0 c.items.reader so_far.1 going.0 (rw (← going.1) c.in_err-pass.ensures.refused) in
    search (rules, none)

pub pass_items-returns-clause-ok : goal.pass_items-returns-clause-ok
pass_items-returns-clause-ok t c =
    let over : after_end_array c.items.reader ≡ Some c.take_end_array.new.self = grind arith in
    let so_far = c.items.invariant.0 in
    let all = read_some (each_form kept) (read_items c.args.depth c.args.reader.now) _ c.take_end_array.new.self (list_over kept c.args.depth c.args.reader.now so_far.0 c.items.reader so_far.1 c.take_end_array.new.self over) in
    (all.0, all.1)

pub pass_items-returns-clause-shorter : goal.pass_items-returns-clause-shorter
pass_items-returns-clause-shorter t c =
    let over : after_end_array c.items.reader ≡ Some c.take_end_array.new.self = grind arith in
    omega (arith, after_end_array-shorter c.items.reader c.take_end_array.new.self over, c.items.invariant.0.1.within)

pub pass_members-members-init : goal.pass_members-members-init
pass_members-members-init t c = ((no_members, object_begun c.args.depth c.args.reader.now), tail_all c.args.reader.now c.args.reader.now refl)

pub pass_members-returns-in_err-next_key-clause-refused : goal.pass_members-returns-in_err-next_key-clause-refused
pass_members-returns-in_err-next_key-clause-refused t c =
    let so_far = c.members.invariant.0 in
    let none = object_no_key c.args.depth c.args.reader.now so_far.0 c.members.reader so_far.1 c.in_err-next_key.ensures.value in
    search (rules, none)

pub pass_members-members-smaller : goal.pass_members-members-smaller
pass_members-members-smaller t c =
    let named : read_key c.members.reader ≡ Some (Some c.in-Some.field-0.now, c.next_key.new.self) = grind arith in
    let shorter = read_key-shorter c.members.reader _ c.next_key.new.self named in
    let less : length c.pass.new.reader < length c.members.reader = omega (arith, shorter, c.in_ok-pass.ensures.shorter) in less

pub pass_members-members-preserved : goal.pass_members-members-preserved
pass_members-members-preserved t c =
    let named : read_key c.members.reader ≡ Some (Some c.in-Some.field-0.now, c.next_key.new.self) = grind arith in
    let shorter = read_key-shorter c.members.reader _ c.next_key.new.self named in
    let done = c.in_ok-pass.ensures in
    let so_far = c.members.invariant.0 in
    let behind = tail_later c.members.reader c.next_key.new.self c.pass.new.reader (tail_key c.members.reader _ c.next_key.new.self named) done.left in
    let left = tail_later c.args.reader.now c.members.reader c.pass.new.reader c.members.invariant.1 behind in
    ((put c.in-Some.field-0.now done.ok.0 so_far.0, member_put c.args.depth c.args.reader.now so_far.0 c.members.reader so_far.1 c.in-Some.field-0.now c.next_key.new.self c.pass.new.reader done.ok.0 named shorter done.ok.1 done.shorter), left)

pub pass_members-returns-in_err-pass-clause-refused : goal.pass_members-returns-in_err-pass-clause-refused
pass_members-returns-in_err-pass-clause-refused t c =
    let named : read_key c.members.reader ≡ Some (Some c.in-Some.field-0.now, c.next_key.new.self) = grind arith in
    let shorter = read_key-shorter c.members.reader _ c.next_key.new.self named in
    let so_far = c.members.invariant.0 in
    let none = object_refused c.args.depth c.args.reader.now so_far.0 c.members.reader so_far.1 c.in-Some.field-0.now c.next_key.new.self named c.in_err-pass.ensures.refused in
    search (rules, none)

pub pass_members-returns-clause-ok : goal.pass_members-returns-clause-ok
pass_members-returns-clause-ok t c =
    let over : read_key c.members.reader ≡ Some (None, c.next_key.new.self) = grind arith in
    let so_far = c.members.invariant.0 in
    (so_far.0, object_over c.args.depth c.args.reader.now so_far.0 c.members.reader so_far.1 c.next_key.new.self over)

pub pass_members-returns-clause-shorter : goal.pass_members-returns-clause-shorter
pass_members-returns-clause-shorter t c =
    let over : read_key c.members.reader ≡ Some (None, c.next_key.new.self) = grind arith in
    omega (arith, read_key-shorter c.members.reader None c.next_key.new.self over, c.members.invariant.0.1.within)

pub pass-returns-in-List-clause-left : goal.pass-returns-in-List-clause-left
pass-returns-in-List-clause-left t c = tail_later c.args.reader.now c.next_head.new.reader c.pass_items.new.reader c.in_ok-next_head.ensures.left c.pass_items.ensures.left

pub pass-returns-in-Object-clause-left : goal.pass-returns-in-Object-clause-left
pass-returns-in-Object-clause-left t c = tail_later c.args.reader.now c.next_head.new.reader c.pass_members.new.reader c.in_ok-next_head.ensures.left c.pass_members.ensures.left

pub pass_items-returns-in_err-pass-clause-left : goal.pass_items-returns-in_err-pass-clause-left
pass_items-returns-in_err-pass-clause-left t c =
    let going : c.take_end_array.new.self ≡ c.items.reader = grind arith in
    let behind = tail_of_same c.items.reader c.take_end_array.new.self c.pass.new.reader going c.in_err-pass.ensures.left in
    tail_later c.args.reader.now c.items.reader c.pass.new.reader c.items.invariant.1 behind

pub pass_items-returns-clause-left : goal.pass_items-returns-clause-left
pass_items-returns-clause-left t c =
    let over : after_end_array c.items.reader ≡ Some c.take_end_array.new.self = grind arith in
    tail_later c.args.reader.now c.items.reader c.take_end_array.new.self c.items.invariant.1 (tail_closed c.items.reader c.take_end_array.new.self over)

pub pass_members-returns-in_err-next_key-clause-left : goal.pass_members-returns-in_err-next_key-clause-left
pass_members-returns-in_err-next_key-clause-left t c = tail_none c.args.reader.now c.next_key.new.self c.in_err-next_key.ensures.stops

pub pass_members-returns-in_err-pass-clause-left : goal.pass_members-returns-in_err-pass-clause-left
pass_members-returns-in_err-pass-clause-left t c =
    let named : read_key c.members.reader ≡ Some (Some c.in-Some.field-0.now, c.next_key.new.self) = grind arith in
    let behind = tail_later c.members.reader c.next_key.new.self c.pass.new.reader (tail_key c.members.reader _ c.next_key.new.self named) c.in_err-pass.ensures.left in
    tail_later c.args.reader.now c.members.reader c.pass.new.reader c.members.invariant.1 behind

pub pass_members-returns-clause-left : goal.pass_members-returns-clause-left
pass_members-returns-clause-left t c =
    let over : read_key c.members.reader ≡ Some (None, c.next_key.new.self) = grind arith in
    tail_later c.args.reader.now c.members.reader c.next_key.new.self c.members.invariant.1 (tail_key c.members.reader _ c.next_key.new.self over)
