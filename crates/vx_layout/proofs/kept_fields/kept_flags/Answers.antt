use Rattle.std.proofs.Common.{add-one, refl}
use Rattle.vx_layout.proofs.NameSets.{flags_more, told}
use Rattle.vx_layout.proofs.kept_fields.kept_flags.Goals as goal

pub loop-field-preserved : goal.loop-field-preserved
loop-field-preserved c =
    let tells = told c.in_ok-seen.seen.keys c.as_str.result c.args.names.now c.field-item.result.name c.contains-kept.result c.contains-kept.result c.contains-kept.ensures c.in_ok-seen.ensures c.as_str.ensures.value refl in
    rw add-one (flags_more c.args.names.now c.args.fields.now c.loop-field.field-index c.field-item.result c.loop-field.flags.items c.push.new.self.items c.contains-kept.result c.loop-field-test.true c.field-item.is tells c.loop-field.invariant c.in_ok-push.ensures.items)
