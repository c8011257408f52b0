use Rattle.std.proofs.Common.{◌≡◌, length}
use Rattle.serde_json.specs.Data.{Members}
use Rattle.scan_json.proofs.ObjectTurns.{IsObjectRead}
use Rattle.scan_request.specs.RequestMembers.{told_by, told_of}
use Rattle.scan_request.proofs.request_members.members_in.Given as goal

abbrev pub invariant-members : goal.invariant-members
invariant-members l = (found : Members) × IsObjectRead l.depth l.initial.reader found l.reader × (told_by l.told ≡ told_of found)

abbrev pub decreases-members : goal.decreases-members
decreases-members l = length l.reader
