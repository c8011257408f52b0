use Rattle.std.proofs.Common.{◌≡◌, ◌≤◌, [], length, refl, arith}
use Rattle.std.proofs.lemmas.Grind.{common_steps}
use Rattle.std.specs.Prelude.{is_ok}
use Rattle.vx_steps.proofs.Tables.{begun, resized}
use Rattle.vx_steps.proofs.number_table.NumberTable.grow.Goals as goal

pub returns-then-count-eq0-clause-kept : goal.returns-then-count-eq0-clause-kept
returns-then-count-eq0-clause-kept c =
    let none : c.args.self.now.numbers.items ≡ [] = grind (arith, common_steps) in
    begun c.args.self.now (record { first = c.args.plan; numbers = c.resize.new.self }) 1 _ (is_ok c.resize.result) none c.resize.ensures.items

pub returns-clause-kept : goal.returns-clause-kept
returns-clause-kept c =
    let all : length c.args.self.now.numbers.items ≤ c.max.result = grind (arith, common_steps) in
    resized c.args.self.now (record { first = c.args.self.now.first; numbers = c.resize-2.new.self }) c.max.result _ (is_ok c.resize-2.result) refl all c.resize-2.ensures.items
