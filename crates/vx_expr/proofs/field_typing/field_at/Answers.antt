use Rattle.std.proofs.Common.{sym, ◌∙◌}
use Rattle.vx_base.specs.Views.{field_data}
use Rattle.vx_expr.proofs.MemberTypes.{type_at, none_of_name}
use Rattle.vx_expr.proofs.field_typing.field_at.Goals as goal

pub returns-in-Some-get : goal.returns-in-Some-get
returns-in-Some-get c = λ name e. sym (type_at c.args.fields.now name c.in-Some.place (field_data c.in-Some-get.field.now) (sym e ∙ c.in-Some.is) c.in-Some-get.ensures.found)

pub returns-in-None : goal.returns-in-None
returns-in-None c = λ name e. sym (none_of_name c.args.fields.now name (sym e ∙ c.in-None.is))
