use Rattle.std.proofs.Common.{◌≡◌, drop}
use Rattle.vx_types.specs.Views.{members_of}
use Rattle.vx_types.specs.Names.{are_distinct, names_in}
use Rattle.vx_types.proofs.SeenNames.{are_fresh, texts}
use Rattle.vx_types.proofs.field_names.are_distinct_names.Given as goal

-- the names left are fresh beside those in the set where all names are distinct
abbrev pub invariant-loop-field : goal.invariant-loop-field
invariant-loop-field l = are_distinct (names_in (members_of l.fields)) ≡ are_fresh (texts l.seen.keys) (names_in (members_of (drop l.field-index l.fields)))
