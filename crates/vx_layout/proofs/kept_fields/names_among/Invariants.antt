use Rattle.std.proofs.Common.{◌≡◌, take}
use Rattle.vx_base.specs.Views.{members_of}
use Rattle.vx_layout.specs.Kept.{names_among}
use Rattle.vx_layout.proofs.kept_fields.names_among.Given as goal

abbrev pub invariant-loop-field : goal.invariant-loop-field
invariant-loop-field l = l.kept.items ≡ names_among (members_of (take l.field-index l.fields)) l.names
