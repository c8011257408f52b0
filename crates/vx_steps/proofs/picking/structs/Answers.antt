use Rattle.std.proofs.Common.{ap, sym, ◌∙◌}
use Rattle.vx_plan.specs.declared.children.PlanRef.{PlanRef}
use Rattle.vx_plan.specs.Refs.{number_of}
use Rattle.vx_plan.specs.Rules.{members_at}
use Rattle.vx_steps.proofs.Structures.{pack_there, last_is_bool, field_columns, validity_long, struct_made}
use Rattle.vx_steps.proofs.picking.structs.Goals as goal

pub taken_validity-requires : goal.taken_validity-requires
taken_validity-requires c =
    let pack = pack_there c.args.table.now c.keeps_rules.ensures c.args.plan c.in-Some.pack.plan c.validity.result c.is_some-validity.result c.requires.known c.in-Some.ensures.same c.validity.ensures.given c.is_some-validity.ensures in
    λ given. last_is_bool c.args.table.now c.args.plan c.is_some-validity.result c.args.parts.items pack c.requires.typed given

pub pack-requires-clause-parts : goal.pack-requires-clause-parts
pack-requires-clause-parts c =
    let pack = pack_there c.args.table.now c.keeps_rules.ensures c.args.plan c.in-Some.pack.plan c.validity.result c.is_some-validity.result c.requires.known c.in-Some.ensures.same c.validity.ensures.given c.is_some-validity.ensures in
    rw (c.in_ok-fields-in-Some.ensures, c.fields.ensures, c.in-Some.ensures.same, c.in_ok-validity-in-Some.ensures.left) (field_columns c.args.table.now c.args.plan c.is_some-validity.result c.args.parts.items c.args.rows pack c.requires.typed c.requires.rows)

pub pack-requires-clause-validity : goal.pack-requires-clause-validity
pack-requires-clause-validity c = λ bits is. validity_long c.is_some-validity.result c.args.parts.items c.args.rows bits c.requires.rows (sym c.in_ok-validity-in-Some.ensures.truths ∙ is)

pub returns-clause-dtype : goal.returns-clause-dtype
returns-clause-dtype c =
    let pack = pack_there c.args.table.now c.keeps_rules.ensures c.args.plan c.in-Some.pack.plan c.validity.result c.is_some-validity.result c.requires.known c.in-Some.ensures.same c.validity.ensures.given c.is_some-validity.ensures in
    let members = c.in_ok-fields-in-Some.ensures ∙ c.fields.ensures ∙ ap (λ (p : PlanRef). members_at c.args.table.now (number_of p)) c.in-Some.ensures.same in
    struct_made c.pack.result c.args.table.now c.args.plan c.is_some-validity.result c.args.parts.items c.in_ok-fields-in-Some.fields c.in_ok-validity-in-Some.validity pack c.requires.typed members c.in_ok-validity-in-Some.ensures.truths c.pack.ensures.dtype
