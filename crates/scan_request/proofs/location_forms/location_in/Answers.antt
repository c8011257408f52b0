use Rattle.std.proofs.Common.{◌≡◌, ◌^◌, ◌<◌, length, Some, None, refl, ap, ◌∙◌, arith, rules}
use Rattle.json.specs.Json.{after_end_array}
use Rattle.json.proofs.Grammar.{after_end_array-shorter}
use Rattle.serde_json.specs.Data.{item}
use Rattle.scan_json.specs.Reading.{read_value, reads}
use Rattle.scan_json.proofs.Parts.{of_end, of_item}
use Rattle.scan_json.proofs.Steps.{no_list}
use Rattle.scan_request.specs.JsonForms.{whole_form}
use Rattle.scan_request.specs.LocationForms.{location_from, location_items}
use Rattle.scan_request.proofs.FixedLists.{both_and_more, both_none, both_read, one_only, rest_none}
use Rattle.scan_request.proofs.location_forms.location_in.Goals as goal

pub returns-then-take_end_array-clause-ok : goal.returns-then-take_end_array-clause-ok
returns-then-take_end_array-clause-ok c =
    let over : after_end_array c.args.reader.now ≡ Some c.take_end_array.new.self = grind arith in
    of_end location_items c.args.depth c.args.reader.now c.take_end_array.new.self over

pub returns-then-take_end_array-clause-shorter : goal.returns-then-take_end_array-clause-shorter
returns-then-take_end_array-clause-shorter c =
    let over : after_end_array c.args.reader.now ≡ Some c.take_end_array.new.self = grind arith in
    after_end_array-shorter c.args.reader.now c.take_end_array.new.self over

pub returns-in_err-offset-clause-refused : goal.returns-in_err-offset-clause-refused
returns-in_err-offset-clause-refused c =
    let going : (after_end_array c.args.reader.now ≡ None) × (c.take_end_array.new.self ≡ c.args.reader.now) = grind arith in
    let all = no_list c.args.depth c.args.reader.now going.0 (rw (← going.1) c.in_err-offset.ensures.refused) in search (rules, all)

pub returns-then-take_end_array-2-clause-ok : goal.returns-then-take_end_array-2-clause-ok
returns-then-take_end_array-2-clause-ok c =
    let going : (after_end_array c.args.reader.now ≡ None) × (c.take_end_array.new.self ≡ c.args.reader.now) = grind arith in
    let one : reads (whole_form (2 ^ 64)) c.args.depth c.args.reader.now ≡ Some (c.in_ok-offset.offset, c.whole_64.new.reader) = rw (← going.1) c.in_ok-offset.ensures.ok in
    let over : after_end_array c.whole_64.new.reader ≡ Some c.take_end_array-2.new.self = grind arith in
    one_only (whole_form (2 ^ 64)) location_items None (λ d. refl) c.args.depth c.args.reader.now c.whole_64.new.reader c.take_end_array-2.new.self c.in_ok-offset.offset going.0 one over

pub returns-then-take_end_array-2-clause-shorter : goal.returns-then-take_end_array-2-clause-shorter
returns-then-take_end_array-2-clause-shorter c =
    let going : (after_end_array c.args.reader.now ≡ None) × (c.take_end_array.new.self ≡ c.args.reader.now) = grind arith in
    let less : length c.whole_64.new.reader < length c.args.reader.now = rw (← going.1) c.in_ok-offset.ensures.shorter in
    let over : after_end_array c.whole_64.new.reader ≡ Some c.take_end_array-2.new.self = grind arith in
    omega (arith, less, after_end_array-shorter c.whole_64.new.reader c.take_end_array-2.new.self over)

pub returns-in_err-length-clause-refused : goal.returns-in_err-length-clause-refused
returns-in_err-length-clause-refused c =
    let going : (after_end_array c.args.reader.now ≡ None) × (c.take_end_array.new.self ≡ c.args.reader.now) = grind arith in
    let one : reads (whole_form (2 ^ 64)) c.args.depth c.args.reader.now ≡ Some (c.in_ok-offset.offset, c.whole_64.new.reader) = rw (← going.1) c.in_ok-offset.ensures.ok in
    let more : (after_end_array c.whole_64.new.reader ≡ None) × (c.take_end_array-2.new.self ≡ c.whole_64.new.reader) = grind arith in
    let all = rest_none (whole_form (2 ^ 64)) c.args.depth c.args.reader.now c.whole_64.new.reader c.in_ok-offset.offset going.0 one (no_list c.args.depth c.whole_64.new.reader more.0 (rw (← more.1) c.in_err-length.ensures.refused)) in search (rules, all)

pub returns-then-take_end_array-3-clause-ok : goal.returns-then-take_end_array-3-clause-ok
returns-then-take_end_array-3-clause-ok c =
    let going : (after_end_array c.args.reader.now ≡ None) × (c.take_end_array.new.self ≡ c.args.reader.now) = grind arith in
    let one : reads (whole_form (2 ^ 64)) c.args.depth c.args.reader.now ≡ Some (c.in_ok-offset.offset, c.whole_64.new.reader) = rw (← going.1) c.in_ok-offset.ensures.ok in
    let more : (after_end_array c.whole_64.new.reader ≡ None) × (c.take_end_array-2.new.self ≡ c.whole_64.new.reader) = grind arith in
    let two : reads (whole_form (2 ^ 32)) c.args.depth c.whole_64.new.reader ≡ Some (c.in_ok-length.length, c.whole_32.new.reader) = rw (← more.1) c.in_ok-length.ensures.ok in
    let over : after_end_array c.whole_32.new.reader ≡ Some c.take_end_array-3.new.self = grind arith in
    let first = of_item (whole_form (2 ^ 64)) location_items c.args.depth c.args.reader.now c.whole_64.new.reader c.in_ok-offset.offset going.0 one in
    first.2 ∙ one_only (whole_form (2 ^ 32)) (λ ds. location_items (item first.0 ds)) None (λ d. refl) c.args.depth c.whole_64.new.reader c.whole_32.new.reader c.take_end_array-3.new.self c.in_ok-length.length more.0 two over

pub returns-then-take_end_array-3-clause-shorter : goal.returns-then-take_end_array-3-clause-shorter
returns-then-take_end_array-3-clause-shorter c =
    let going : (after_end_array c.args.reader.now ≡ None) × (c.take_end_array.new.self ≡ c.args.reader.now) = grind arith in
    let less : length c.whole_64.new.reader < length c.args.reader.now = rw (← going.1) c.in_ok-offset.ensures.shorter in
    let more : (after_end_array c.whole_64.new.reader ≡ None) × (c.take_end_array-2.new.self ≡ c.whole_64.new.reader) = grind arith in
    let less2 : length c.whole_32.new.reader < length c.whole_64.new.reader = rw (← more.1) c.in_ok-length.ensures.shorter in
    let over : after_end_array c.whole_32.new.reader ≡ Some c.take_end_array-3.new.self = grind arith in
    omega (arith, less, less2, after_end_array-shorter c.whole_32.new.reader c.take_end_array-3.new.self over)

pub returns-in_err-alignment-clause-refused : goal.returns-in_err-alignment-clause-refused
returns-in_err-alignment-clause-refused c =
    let going : (after_end_array c.args.reader.now ≡ None) × (c.take_end_array.new.self ≡ c.args.reader.now) = grind arith in
    let one : reads (whole_form (2 ^ 64)) c.args.depth c.args.reader.now ≡ Some (c.in_ok-offset.offset, c.whole_64.new.reader) = rw (← going.1) c.in_ok-offset.ensures.ok in
    let more : (after_end_array c.whole_64.new.reader ≡ None) × (c.take_end_array-2.new.self ≡ c.whole_64.new.reader) = grind arith in
    let two : reads (whole_form (2 ^ 32)) c.args.depth c.whole_64.new.reader ≡ Some (c.in_ok-length.length, c.whole_32.new.reader) = rw (← more.1) c.in_ok-length.ensures.ok in
    let last : (after_end_array c.whole_32.new.reader ≡ None) × (c.take_end_array-3.new.self ≡ c.whole_32.new.reader) = grind arith in
    let all = rest_none (whole_form (2 ^ 64)) c.args.depth c.args.reader.now c.whole_64.new.reader c.in_ok-offset.offset going.0 one
    (rest_none (whole_form (2 ^ 32)) c.args.depth c.whole_64.new.reader c.whole_32.new.reader c.in_ok-length.length more.0 two (no_list c.args.depth c.whole_32.new.reader last.0 (rw (← last.1) c.in_err-alignment.ensures.refused))) in search (rules, all)

pub returns-in_err-list_ends-clause-refused : goal.returns-in_err-list_ends-clause-refused
returns-in_err-list_ends-clause-refused c =
    let going : (after_end_array c.args.reader.now ≡ None) × (c.take_end_array.new.self ≡ c.args.reader.now) = grind arith in
    let one : reads (whole_form (2 ^ 64)) c.args.depth c.args.reader.now ≡ Some (c.in_ok-offset.offset, c.whole_64.new.reader) = rw (← going.1) c.in_ok-offset.ensures.ok in
    let more : (after_end_array c.whole_64.new.reader ≡ None) × (c.take_end_array-2.new.self ≡ c.whole_64.new.reader) = grind arith in
    let two : reads (whole_form (2 ^ 32)) c.args.depth c.whole_64.new.reader ≡ Some (c.in_ok-length.length, c.whole_32.new.reader) = rw (← more.1) c.in_ok-length.ensures.ok in
    let last : (after_end_array c.whole_32.new.reader ≡ None) × (c.take_end_array-3.new.self ≡ c.whole_32.new.reader) = grind arith in
    let three : reads (whole_form (2 ^ 32)) c.args.depth c.whole_32.new.reader ≡ Some (c.in_ok-alignment.alignment, c.whole_32-2.new.reader) = rw (← last.1) c.in_ok-alignment.ensures.ok in
    let all = rest_none (whole_form (2 ^ 64)) c.args.depth c.args.reader.now c.whole_64.new.reader c.in_ok-offset.offset going.0 one
    (both_none (whole_form (2 ^ 32)) (whole_form (2 ^ 32)) location_items c.args.depth c.whole_64.new.reader c.whole_32.new.reader c.whole_32-2.new.reader c.list_ends.new.reader c.in_ok-length.length c.in_ok-alignment.alignment more.0 two last.0 three c.in_err-list_ends.ensures.refused) in search (rules, all)

pub returns-then-branch-clause-ok : goal.returns-then-branch-clause-ok
returns-then-branch-clause-ok c =
    let going : (after_end_array c.args.reader.now ≡ None) × (c.take_end_array.new.self ≡ c.args.reader.now) = grind arith in
    let one : reads (whole_form (2 ^ 64)) c.args.depth c.args.reader.now ≡ Some (c.in_ok-offset.offset, c.whole_64.new.reader) = rw (← going.1) c.in_ok-offset.ensures.ok in
    let more : (after_end_array c.whole_64.new.reader ≡ None) × (c.take_end_array-2.new.self ≡ c.whole_64.new.reader) = grind arith in
    let two : reads (whole_form (2 ^ 32)) c.args.depth c.whole_64.new.reader ≡ Some (c.in_ok-length.length, c.whole_32.new.reader) = rw (← more.1) c.in_ok-length.ensures.ok in
    let last : (after_end_array c.whole_32.new.reader ≡ None) × (c.take_end_array-3.new.self ≡ c.whole_32.new.reader) = grind arith in
    let three : reads (whole_form (2 ^ 32)) c.args.depth c.whole_32.new.reader ≡ Some (c.in_ok-alignment.alignment, c.whole_32-2.new.reader) = rw (← last.1) c.in_ok-alignment.ensures.ok in
    let first = of_item (whole_form (2 ^ 64)) location_items c.args.depth c.args.reader.now c.whole_64.new.reader c.in_ok-offset.offset going.0 one in
    let both = both_read (whole_form (2 ^ 32)) (whole_form (2 ^ 32)) (λ ds. location_items (item first.0 ds)) c.args.depth c.whole_64.new.reader c.whole_32.new.reader c.whole_32-2.new.reader c.list_ends.new.reader c.in_ok-length.length c.in_ok-alignment.alignment more.0 two last.0 three (λ bytes boundary. location_from (whole_form (2 ^ 64) first.0) bytes boundary) (λ d e. refl) (c.in_ok-list_ends.ensures.ends (grind arith)) in
    rw c.location_from.ensures (first.2 ∙ both ∙ ap (λ at. Some (location_from at c.in_ok-length.length c.in_ok-alignment.alignment, c.list_ends.new.reader)) first.1)

pub returns-else-branch-clause-ok : goal.returns-else-branch-clause-ok
returns-else-branch-clause-ok c =
    let going : (after_end_array c.args.reader.now ≡ None) × (c.take_end_array.new.self ≡ c.args.reader.now) = grind arith in
    let one : reads (whole_form (2 ^ 64)) c.args.depth c.args.reader.now ≡ Some (c.in_ok-offset.offset, c.whole_64.new.reader) = rw (← going.1) c.in_ok-offset.ensures.ok in
    let more : (after_end_array c.whole_64.new.reader ≡ None) × (c.take_end_array-2.new.self ≡ c.whole_64.new.reader) = grind arith in
    let two : reads (whole_form (2 ^ 32)) c.args.depth c.whole_64.new.reader ≡ Some (c.in_ok-length.length, c.whole_32.new.reader) = rw (← more.1) c.in_ok-length.ensures.ok in
    let last : (after_end_array c.whole_32.new.reader ≡ None) × (c.take_end_array-3.new.self ≡ c.whole_32.new.reader) = grind arith in
    let three : reads (whole_form (2 ^ 32)) c.args.depth c.whole_32.new.reader ≡ Some (c.in_ok-alignment.alignment, c.whole_32-2.new.reader) = rw (← last.1) c.in_ok-alignment.ensures.ok in
    let first = of_item (whole_form (2 ^ 64)) location_items c.args.depth c.args.reader.now c.whole_64.new.reader c.in_ok-offset.offset going.0 one in
    first.2 ∙ both_and_more (whole_form (2 ^ 32)) (whole_form (2 ^ 32)) (λ ds. location_items (item first.0 ds)) c.args.depth c.whole_64.new.reader c.whole_32.new.reader c.whole_32-2.new.reader c.list_ends.new.reader c.in_ok-length.length c.in_ok-alignment.alignment more.0 two last.0 three None (λ d e o ds. refl) (c.in_ok-list_ends.ensures.more (grind arith))
