-- What a request's bytes are, from what reading them as JSON gave.
use Rattle.std.proofs.Common.{◌≡◌, ℕ, ◌≤◌, Bool, true, false, cond, List, length, Option, Some, None, codes, refl, sym, ap}
use Rattle.serde_json.specs.Data.{Data}
use Rattle.serde_json.specs.Read.{read}
use Rattle.serde_json.specs.Find.{get}
use Rattle.vx_expr.specs.Terms.{Term, root}
use Rattle.vx_layout.specs.Nodes.{Node}
use Rattle.scan_words.specs.Words.{◌>>=◌}
use Rattle.scan_request.specs.ExpressionForms.{expression_form}
use Rattle.scan_request.specs.JsonForms.{has_members, list_form, most_items, optional_form}
use Rattle.scan_request.specs.LocationForms.{location_form}
use Rattle.scan_request.specs.NodeForms.{node_form}
use Rattle.scan_request.specs.RequestForms.{FileSaid, Parts, file_form, members_of, parts_from, request_form, json_value, requested}
use Rattle.scan_request.specs.RowForms.{rows_form}
use Rattle.scan_request.specs.declared.row_forms.RowsAsked.{RowsAsked}
use Rattle.scan_request.proofs.JsonForms.{here, list_few, some_is}
use Rattle.vx_base.specs.declared.locations.SegmentLocation.{SegmentLocation}

-- ---- a request has few locations and nodes

file_is : (b : Bool) (file : Option FileSaid) (rows : Option RowsAsked) (projection : Option Term) (parts : Parts) → cond b (parts_from file rows projection) None ≡ Some parts → file ≡ Some (record { locations = parts.locations; nodes = parts.nodes })
file_is false file rows projection parts e = absurd cc
file_is true None rows projection parts e = absurd cc
file_is true (Some f) None projection parts e = absurd cc
file_is true (Some f) (Some r) None parts e = absurd cc
file_is true (Some f) (Some r) (Some term) parts e =
    let same = some_is (record { locations = f.locations; nodes = f.nodes; projection = term; range = r.range; selection = r.selection; limit = r.limit; row_offset = r.row_offset }) parts e in
    ap (λ (p : Parts). here (let file : FileSaid = record { locations = p.locations; nodes = p.nodes } in file)) same

both : (locations : Option (List SegmentLocation)) (nodes : Option (List Node)) (file : FileSaid) → (locations >>= λ ls. nodes >>= λ ns. here (let said : FileSaid = record { locations = ls; nodes = ns } in said)) ≡ Some file → (locations ≡ Some file.locations) × (nodes ≡ Some file.nodes)
both None nodes file e = absurd cc
both (Some ls) None file e = absurd cc
both (Some ls) (Some ns) file e =
    let same = some_is (record { locations = ls; nodes = ns }) file e in
    (ap (λ (f : FileSaid). here f.locations) same, ap (λ (f : FileSaid). here f.nodes) same)

form_few : (d : Data) (parts : Parts) → request_form d ≡ Some parts → (length parts.locations ≤ most_items) × (length parts.nodes ≤ most_items)
unfolding request_form
form_few d parts e =
    let is = both (get (codes "locations") d >>= list_form location_form) (get (codes "nodes") d >>= list_form node_form) (record { locations = parts.locations; nodes = parts.nodes })
    (file_is (has_members (members_of d) d) (file_form d) (rows_form d) (optional_form root expression_form (get (codes "projection") d)) parts e) in
    (list_few location_form (get (codes "locations") d) parts.locations is.0, list_few node_form (get (codes "nodes") d) parts.nodes is.1)

pub requested_few : (bytes : List ℕ) (parts : Parts) → requested bytes ≡ Some parts → (length parts.locations ≤ most_items) × (length parts.nodes ≤ most_items)
requested_few bytes parts e = of_json (json_value bytes) e
  where
    of_json : (o : Option Data) → (o >>= request_form) ≡ Some parts → (length parts.locations ≤ most_items) × (length parts.nodes ≤ most_items)
    of_json None e = absurd cc
    of_json (Some d) e = form_few d parts e
