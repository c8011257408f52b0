use Rattle.std.proofs.Common.{◌≡◌, ◌^◌, ◌<◌, length, Some, None, refl, arith, rules}
use Rattle.json.specs.Json.{after_end_array}
use Rattle.json.proofs.Grammar.{after_end_array-shorter}
use Rattle.scan_json.specs.Reading.{read_value, reads}
use Rattle.scan_json.proofs.Parts.{of_end}
use Rattle.scan_json.proofs.Steps.{no_list}
use Rattle.scan_request.specs.JsonForms.{whole_form}
use Rattle.scan_request.specs.RowForms.{range_from, range_items}
use Rattle.scan_request.proofs.FixedLists.{both_and_more, both_none, both_read, one_only, rest_none}
use Rattle.scan_request.proofs.row_forms.range_in.Goals as goal

pub returns-then-take_end_array-clause-ok : goal.returns-then-take_end_array-clause-ok
returns-then-take_end_array-clause-ok c =
    let over : after_end_array c.args.reader.now ≡ Some c.take_end_array.new.self = grind arith in
    of_end range_items c.args.depth c.args.reader.now c.take_end_array.new.self over

pub returns-then-take_end_array-clause-shorter : goal.returns-then-take_end_array-clause-shorter
returns-then-take_end_array-clause-shorter c =
    let over : after_end_array c.args.reader.now ≡ Some c.take_end_array.new.self = grind arith in
    after_end_array-shorter c.args.reader.now c.take_end_array.new.self over

pub returns-in_err-start-clause-refused : goal.returns-in_err-start-clause-refused
returns-in_err-start-clause-refused c =
    let going : (after_end_array c.args.reader.now ≡ None) × (c.take_end_array.new.self ≡ c.args.reader.now) = grind arith in
    let none : read_value c.args.depth c.args.reader.now ≡ None = rw (← going.1) c.in_err-start.ensures.refused in
    let all = no_list c.args.depth c.args.reader.now going.0 none in search (rules, all)

pub returns-then-take_end_array-2-clause-ok : goal.returns-then-take_end_array-2-clause-ok
returns-then-take_end_array-2-clause-ok c =
    let going : (after_end_array c.args.reader.now ≡ None) × (c.take_end_array.new.self ≡ c.args.reader.now) = grind arith in
    let one : reads (whole_form (2 ^ 64)) c.args.depth c.args.reader.now ≡ Some (c.in_ok-start.start, c.whole_64.new.reader) = rw (← going.1) c.in_ok-start.ensures.ok in
    let over : after_end_array c.whole_64.new.reader ≡ Some c.take_end_array-2.new.self = grind arith in
    one_only (whole_form (2 ^ 64)) range_items None (λ d. refl) c.args.depth c.args.reader.now c.whole_64.new.reader c.take_end_array-2.new.self (c.in_ok-start.start) going.0 one over

pub returns-then-take_end_array-2-clause-shorter : goal.returns-then-take_end_array-2-clause-shorter
returns-then-take_end_array-2-clause-shorter c =
    let going : (after_end_array c.args.reader.now ≡ None) × (c.take_end_array.new.self ≡ c.args.reader.now) = grind arith in
    let less : length c.whole_64.new.reader < length c.args.reader.now = rw (← going.1) c.in_ok-start.ensures.shorter in
    let over : after_end_array c.whole_64.new.reader ≡ Some c.take_end_array-2.new.self = grind arith in
    omega (arith, less, after_end_array-shorter c.whole_64.new.reader c.take_end_array-2.new.self over)

pub returns-in_err-end-clause-refused : goal.returns-in_err-end-clause-refused
returns-in_err-end-clause-refused c =
    let going : (after_end_array c.args.reader.now ≡ None) × (c.take_end_array.new.self ≡ c.args.reader.now) = grind arith in
    let one : reads (whole_form (2 ^ 64)) c.args.depth c.args.reader.now ≡ Some (c.in_ok-start.start, c.whole_64.new.reader) = rw (← going.1) c.in_ok-start.ensures.ok in
    let more : (after_end_array c.whole_64.new.reader ≡ None) × (c.take_end_array-2.new.self ≡ c.whole_64.new.reader) = grind arith in
    let none : read_value c.args.depth c.whole_64.new.reader ≡ None = rw (← more.1) c.in_err-end.ensures.refused in
    let all = rest_none (whole_form (2 ^ 64)) c.args.depth c.args.reader.now c.whole_64.new.reader (c.in_ok-start.start) going.0 one (no_list c.args.depth c.whole_64.new.reader more.0 none) in search (rules, all)

pub returns-in_err-list_ends-clause-refused : goal.returns-in_err-list_ends-clause-refused
returns-in_err-list_ends-clause-refused c =
    let going : (after_end_array c.args.reader.now ≡ None) × (c.take_end_array.new.self ≡ c.args.reader.now) = grind arith in
    let one : reads (whole_form (2 ^ 64)) c.args.depth c.args.reader.now ≡ Some (c.in_ok-start.start, c.whole_64.new.reader) = rw (← going.1) c.in_ok-start.ensures.ok in
    let more : (after_end_array c.whole_64.new.reader ≡ None) × (c.take_end_array-2.new.self ≡ c.whole_64.new.reader) = grind arith in
    let two : reads (whole_form (2 ^ 64)) c.args.depth c.whole_64.new.reader ≡ Some (c.in_ok-end.end, c.whole_64-2.new.reader) = rw (← more.1) c.in_ok-end.ensures.ok in
    let all = both_none (whole_form (2 ^ 64)) (whole_form (2 ^ 64)) range_items c.args.depth c.args.reader.now c.whole_64.new.reader c.whole_64-2.new.reader c.list_ends.new.reader (c.in_ok-start.start) (c.in_ok-end.end) going.0 one more.0 two c.in_err-list_ends.ensures.refused in search (rules, all)

pub returns-then-branch-clause-ok : goal.returns-then-branch-clause-ok
returns-then-branch-clause-ok c =
    let going : (after_end_array c.args.reader.now ≡ None) × (c.take_end_array.new.self ≡ c.args.reader.now) = grind arith in
    let one : reads (whole_form (2 ^ 64)) c.args.depth c.args.reader.now ≡ Some (c.in_ok-start.start, c.whole_64.new.reader) = rw (← going.1) c.in_ok-start.ensures.ok in
    let more : (after_end_array c.whole_64.new.reader ≡ None) × (c.take_end_array-2.new.self ≡ c.whole_64.new.reader) = grind arith in
    let two : reads (whole_form (2 ^ 64)) c.args.depth c.whole_64.new.reader ≡ Some (c.in_ok-end.end, c.whole_64-2.new.reader) = rw (← more.1) c.in_ok-end.ensures.ok in
    rw c.range_from.ensures (both_read (whole_form (2 ^ 64)) (whole_form (2 ^ 64)) range_items c.args.depth c.args.reader.now c.whole_64.new.reader c.whole_64-2.new.reader c.list_ends.new.reader (c.in_ok-start.start) (c.in_ok-end.end) going.0 one more.0 two range_from (λ d e. refl) (c.in_ok-list_ends.ensures.ends (grind arith)))

pub returns-else-branch-clause-ok : goal.returns-else-branch-clause-ok
returns-else-branch-clause-ok c =
    let going : (after_end_array c.args.reader.now ≡ None) × (c.take_end_array.new.self ≡ c.args.reader.now) = grind arith in
    let one : reads (whole_form (2 ^ 64)) c.args.depth c.args.reader.now ≡ Some (c.in_ok-start.start, c.whole_64.new.reader) = rw (← going.1) c.in_ok-start.ensures.ok in
    let more : (after_end_array c.whole_64.new.reader ≡ None) × (c.take_end_array-2.new.self ≡ c.whole_64.new.reader) = grind arith in
    let two : reads (whole_form (2 ^ 64)) c.args.depth c.whole_64.new.reader ≡ Some (c.in_ok-end.end, c.whole_64-2.new.reader) = rw (← more.1) c.in_ok-end.ensures.ok in
    both_and_more (whole_form (2 ^ 64)) (whole_form (2 ^ 64)) range_items c.args.depth c.args.reader.now c.whole_64.new.reader c.whole_64-2.new.reader c.list_ends.new.reader (c.in_ok-start.start) (c.in_ok-end.end) going.0 one more.0 two None (λ d e o ds. refl) (c.in_ok-list_ends.ensures.more (grind arith))
