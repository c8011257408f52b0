use Rattle.std.proofs.Common.{length, map, option_map}
use Rattle.vx_layout.specs.Nodes.{node_data}
use Rattle.scan_json.proofs.ListTurns.{IsListRead}
use Rattle.scan_request.specs.NodeForms.{node_form}
use Rattle.scan_request.proofs.node_forms.nodes_in.Given as goal

abbrev pub invariant-items : goal.invariant-items
invariant-items l = IsListRead node_form l.depth l.initial.reader (option_map (λ v. map node_data v.items) l.made) l.reader

abbrev pub decreases-items : goal.decreases-items
decreases-items l = length l.reader
