use Rattle.std.proofs.Common.{◌≡◌, map, take}
use Rattle.vx_base.specs.Names.{names_in}
use Rattle.vx_base.specs.Views.{members_of}
use Rattle.vx_layout.proofs.NameSets.{stands_in}
use Rattle.vx_layout.proofs.kept_fields.kept_flags.Given as goal

abbrev pub invariant-loop-field : goal.invariant-loop-field
invariant-loop-field l = l.flags.items ≡ map (stands_in l.names) (names_in (members_of (take l.field-index l.fields)))
