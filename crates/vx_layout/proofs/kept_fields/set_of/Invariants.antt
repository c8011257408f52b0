use Rattle.std.proofs.Common.{◌≡◌, ℕ, List, take}
use Rattle.vx_layout.proofs.NameSets.{stands_in}
use Rattle.vx_types.proofs.SeenNames.{texts}
use Rattle.vx_layout.proofs.kept_fields.set_of.Given as goal

abbrev pub invariant-loop-name : goal.invariant-loop-name
invariant-loop-name l = (q : List ℕ) → stands_in (texts l.seen.keys) q ≡ stands_in (take l.name-index l.names) q
