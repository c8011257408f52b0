use Rattle.std.proofs.Common.{◌≡◌, ◌^◌, Some, option_map}
use Rattle.scan_json.specs.Reading.{read_value}
use Rattle.scan_json.proofs.Turns.{read_some}
use Rattle.scan_request.specs.ExpressionForms.{expression_form}
use Rattle.scan_request.specs.JsonForms.{list_form, whole_form}
use Rattle.scan_request.specs.LocationForms.{location_form}
use Rattle.scan_request.specs.NodeForms.{node_form}
use Rattle.scan_request.specs.RequestMembers.{told_by}
use Rattle.scan_request.specs.RowForms.{indices_form, range_form}
use Rattle.scan_request.proofs.RequestTold.{exclude_told, indices_told, limit_told, locations_told, nodes_told, other_told, projection_told, range_told, row_offset_told}
use Rattle.scan_request.proofs.request_members.member_told.Goals as goal

pub returns-in_ok-locations_of-in-locations-clause-ok : goal.returns-in_ok-locations_of-in-locations-clause-ok
returns-in_ok-locations_of-in-locations-clause-ok c =
    let d = read_some (list_form location_form) (read_value c.args.depth c.args.reader.now) _ _ c.in_ok-locations_of-in-locations.ensures.ok in
    (d.0, d.1, locations_told c.args.name.now d.0 (told_by c.args.told.now) _ c.in-locations.is d.2)

pub returns-in_ok-nodes_of-in-nodes-clause-ok : goal.returns-in_ok-nodes_of-in-nodes-clause-ok
returns-in_ok-nodes_of-in-nodes-clause-ok c =
    let d = read_some (list_form node_form) (read_value c.args.depth c.args.reader.now) _ _ c.in_ok-nodes_of-in-nodes.ensures.ok in
    (d.0, d.1, nodes_told c.args.name.now d.0 (told_by c.args.told.now) _ c.in-nodes.is d.2)

pub returns-in_ok-expression_of-in-projection-clause-ok : goal.returns-in_ok-expression_of-in-projection-clause-ok
returns-in_ok-expression_of-in-projection-clause-ok c =
    let d = read_some expression_form (read_value c.args.depth c.args.reader.now) _ _ c.in_ok-expression_of-in-projection.ensures.ok in
    (d.0, d.1, projection_told c.args.name.now d.0 (told_by c.args.told.now) _ c.in-projection.is d.2)

pub returns-in_ok-range_of-in-range-clause-ok : goal.returns-in_ok-range_of-in-range-clause-ok
returns-in_ok-range_of-in-range-clause-ok c =
    let d = read_some range_form (read_value c.args.depth c.args.reader.now) _ _ c.in_ok-range_of-in-range.ensures.ok in
    (d.0, d.1, range_told c.args.name.now d.0 (told_by c.args.told.now) _ c.in-range.is d.2)

pub returns-in_ok-indices_of-in-indices-clause-ok : goal.returns-in_ok-indices_of-in-indices-clause-ok
returns-in_ok-indices_of-in-indices-clause-ok c =
    let d = read_some indices_form (read_value c.args.depth c.args.reader.now) _ _ c.in_ok-indices_of-in-indices.ensures.ok in
    (d.0, d.1, indices_told c.args.name.now d.0 (told_by c.args.told.now) _ c.in-indices.is d.2)

pub returns-in_ok-indices_of-in-exclude-clause-ok : goal.returns-in_ok-indices_of-in-exclude-clause-ok
returns-in_ok-indices_of-in-exclude-clause-ok c =
    let d = read_some indices_form (read_value c.args.depth c.args.reader.now) _ _ c.in_ok-indices_of-in-exclude.ensures.ok in
    (d.0, d.1, exclude_told c.args.name.now d.0 (told_by c.args.told.now) _ c.in-exclude.is d.2)

pub returns-in_ok-whole_64-in-limit-clause-ok : goal.returns-in_ok-whole_64-in-limit-clause-ok
returns-in_ok-whole_64-in-limit-clause-ok c =
    let d = read_some (whole_form (2 ^ 64)) (read_value c.args.depth c.args.reader.now) _ _ c.in_ok-whole_64-in-limit.ensures.ok in
    (d.0, d.1, limit_told c.args.name.now d.0 (told_by c.args.told.now) _ c.in-limit.is d.2)

pub returns-in_ok-whole_64-in-row_offset-clause-ok : goal.returns-in_ok-whole_64-in-row_offset-clause-ok
returns-in_ok-whole_64-in-row_offset-clause-ok c =
    let d = read_some (whole_form (2 ^ 64)) (read_value c.args.depth c.args.reader.now) _ _ c.in_ok-whole_64-in-row_offset.ensures.ok in
    (d.0, d.1, row_offset_told c.args.name.now d.0 (told_by c.args.told.now) _ c.in-row_offset.is d.2)

pub returns-in_ok-pass-in_default-clause-ok : goal.returns-in_ok-pass-in_default-clause-ok
returns-in_ok-pass-in_default-clause-ok c =
    let d = c.in_ok-pass-in_default.ensures.ok in
    (d.0, d.1, other_told c.args.name.now d.0 (told_by c.args.told.now) c.in_default.not-locations c.in_default.not-nodes c.in_default.not-projection c.in_default.not-range c.in_default.not-indices c.in_default.not-exclude c.in_default.not-limit c.in_default.not-row_offset)
