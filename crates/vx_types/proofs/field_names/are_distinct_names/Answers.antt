use Rattle.std.proofs.Common.{sym}
use Rattle.vx_types.specs.Views.{members_of}
use Rattle.vx_types.specs.Names.{are_distinct, names_in}
use Rattle.vx_types.proofs.FieldNames.{names_start, names_more, names_end}
use Rattle.vx_types.proofs.field_names.are_distinct_names.Goals as goal

pub loop-field-init : goal.loop-field-init
loop-field-init c = names_start c.args.fields.now c.new-seen.result.keys c.new-seen.ensures.empty

pub returns-then-not-branch : goal.returns-then-not-branch
returns-then-not-branch c = sym (names_end c.args.fields.now c.loop-field.field-index c.field-item.result c.as_str.result c.loop-field.seen.keys c.in_ok-insert.field-0 (are_distinct (names_in (members_of c.args.fields.now))) c.loop-field-test.true c.field-item.is c.as_str.ensures.value c.in_ok-insert.ensures.added c.if-not-branch.true c.loop-field.invariant)

pub loop-field-preserved : goal.loop-field-preserved
loop-field-preserved c = names_more c.args.fields.now c.loop-field.field-index c.field-item.result c.as_str.result c.loop-field.seen.keys c.insert.new.self.keys c.in_ok-insert.field-0 (are_distinct (names_in (members_of c.args.fields.now))) c.loop-field-test.true c.field-item.is c.as_str.ensures.value c.in_ok-insert.ensures.added c.if-not-branch.false c.in_ok-insert.ensures.keys c.loop-field.invariant
