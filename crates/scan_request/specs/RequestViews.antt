-- The request that a read request is, as plain data.
use Rattle.std.specs.Prelude.{map}
use Rattle.vx_expr.specs.TermViews.{term}
use Rattle.vx_layout.specs.Nodes.{node_data}
use Rattle.scan_request.specs.declared.request_parts.FileParts.{FileParts}
use Rattle.scan_request.specs.declared.request_forms.Request.{Request}
use Rattle.scan_request.specs.declared.request_parts.RequestParts.{RequestParts}
use Rattle.scan_request.specs.RequestForms.{Asked, FileSaid, Parts}

abbrev pub asked_of : Request → Asked
asked_of request = record { locations = request.file.locations.items; nodes = request.file.layout; projection = request.projection; range = request.range; selection = request.selection; limit = request.limit; row_offset = request.row_offset }

abbrev pub file_of_parts : FileParts → FileSaid
file_of_parts file = record { locations = file.locations.items; nodes = map node_data file.nodes.items }

abbrev pub parts_said : RequestParts → Parts
parts_said parts = record { locations = parts.file.locations.items; nodes = map node_data parts.file.nodes.items; projection = term parts.projection; range = parts.rows.range; selection = parts.rows.selection; limit = parts.rows.limit; row_offset = parts.rows.row_offset }
