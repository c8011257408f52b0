use Rattle.std.proofs.Common.{◌≡◌, Some, None, arith}
use Rattle.json.specs.Json.{after_end_array}
use Rattle.scan_json.specs.Reading.{read_items}
use Rattle.scan_json.proofs.Steps.{list_end, item_after}
use Rattle.scan_json.proofs.Tails.{tail_closed, tail_of_same}
use Rattle.scan_json.proofs.passing.list_ends.Goals as goal

pub returns-then-take_end_array-clause-ends : goal.returns-then-take_end_array-clause-ends
returns-then-take_end_array-clause-ends c is =
    let over : after_end_array c.args.reader.now ≡ Some c.take_end_array.new.self = grind arith in
    list_end c.args.depth c.args.reader.now c.take_end_array.new.self over

pub returns-clause-more : goal.returns-clause-more
returns-clause-more c is =
    let going : (after_end_array c.args.reader.now ≡ None) × (c.take_end_array.new.self ≡ c.args.reader.now) = grind arith in
    let done = c.in_ok-pass_items.ensures.ok in
    let read : read_items c.args.depth c.args.reader.now ≡ Some (done.0, c.pass_items.new.reader) = rw (← going.1) done.1 in
    item_after c.args.depth c.args.reader.now c.pass_items.new.reader done.0 going.0 read

pub returns-then-take_end_array-clause-left : goal.returns-then-take_end_array-clause-left
returns-then-take_end_array-clause-left c =
    let over : after_end_array c.args.reader.now ≡ Some c.take_end_array.new.self = grind arith in
    tail_closed c.args.reader.now c.take_end_array.new.self over

pub returns-in_err-pass_items-clause-left : goal.returns-in_err-pass_items-clause-left
returns-in_err-pass_items-clause-left c =
    let going : c.take_end_array.new.self ≡ c.args.reader.now = grind arith in
    tail_of_same c.args.reader.now c.take_end_array.new.self c.pass_items.new.reader going c.in_err-pass_items.ensures.left

pub returns-clause-left : goal.returns-clause-left
returns-clause-left c =
    let going : c.take_end_array.new.self ≡ c.args.reader.now = grind arith in
    tail_of_same c.args.reader.now c.take_end_array.new.self c.pass_items.new.reader going c.in_ok-pass_items.ensures.left
