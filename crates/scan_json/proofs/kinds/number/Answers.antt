use Rattle.scan_json.proofs.Tails.{tail_later}
use Rattle.scan_json.proofs.kinds.number.Goals as goal

pub returns-in_err-pass_items-in-List-clause-left : goal.returns-in_err-pass_items-in-List-clause-left
returns-in_err-pass_items-in-List-clause-left c = tail_later c.args.reader.now c.next_head.new.reader c.pass_items.new.reader c.in_ok-number.ensures.left c.in_err-pass_items-in-List.ensures.left

pub returns-in_ok-pass_items-in-List-clause-left : goal.returns-in_ok-pass_items-in-List-clause-left
returns-in_ok-pass_items-in-List-clause-left c = tail_later c.args.reader.now c.next_head.new.reader c.pass_items.new.reader c.in_ok-number.ensures.left c.in_ok-pass_items-in-List.ensures.left

pub returns-in_err-pass_members-in-Object-clause-left : goal.returns-in_err-pass_members-in-Object-clause-left
returns-in_err-pass_members-in-Object-clause-left c = tail_later c.args.reader.now c.next_head.new.reader c.pass_members.new.reader c.in_ok-number.ensures.left c.in_err-pass_members-in-Object.ensures.left

pub returns-in_ok-pass_members-in-Object-clause-left : goal.returns-in_ok-pass_members-in-Object-clause-left
returns-in_ok-pass_members-in-Object-clause-left c = tail_later c.args.reader.now c.next_head.new.reader c.pass_members.new.reader c.in_ok-number.ensures.left c.in_ok-pass_members-in-Object.ensures.left
