use Rattle.std.proofs.Common.{length, option_map}
use Rattle.scan_json.proofs.ListTurns.{IsListRead}
use Rattle.scan_request.specs.LocationForms.{location_form}
use Rattle.scan_request.proofs.location_forms.locations_in.Given as goal

abbrev pub invariant-items : goal.invariant-items
invariant-items l = IsListRead location_form l.depth l.initial.reader (option_map (λ v. v.items) l.made) l.reader

abbrev pub decreases-items : goal.decreases-items
decreases-items l = length l.reader
