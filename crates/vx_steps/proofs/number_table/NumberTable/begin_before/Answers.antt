use Rattle.std.proofs.Common.{◌+◌, ◌-◌, ◌≤◌, false, length, refl, arith}
use Rattle.std.proofs.lemmas.Grind.{common_steps}
use Rattle.vx_steps.proofs.Tables.{begun_before, resized}
use Rattle.vx_steps.proofs.number_table.NumberTable.begin_before.Goals as goal

pub returns-in_err-resize-clause-kept : goal.returns-in_err-resize-clause-kept
returns-in_err-resize-clause-kept c = resized c.args.self.now (record { first = c.args.self.now.first; numbers = c.resize.new.self }) (length c.args.self.now.numbers.items) 0 false refl (omega arith) c.in_err-resize.ensures.items

pub returns-clause-kept : goal.returns-clause-kept
returns-clause-kept c =
    let more = c.min-more.result in
    let within : more ≤ c.args.self.now.first = grind (arith, common_steps) in
    let whole : length c.args.self.now.numbers.items ≤ c.len-count.result + more = grind (arith, common_steps) in
    begun_before c.args.self.now (record { first = c.args.self.now.first - more; numbers = c.rotate_right.new.self }) c.resize.new.self.items (c.len-count.result + more) _ more _ within refl whole (grind (arith, common_steps)) c.in_ok-resize.ensures.items c.rotate_right.ensures.items (grind (arith, common_steps))
