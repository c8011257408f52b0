use Rattle.std.proofs.Common.{sym, ◌∙◌}
use Rattle.vx_types.proofs.Members.{place_in_view}
use Rattle.vx_types.proofs.dtypes.Fields.find.Goals as goal

pub returns : goal.returns
returns c = c.place_of.ensures ∙ sym (place_in_view c.items.result.now c.args.self.now c.args.name.now c.items.ensures)
