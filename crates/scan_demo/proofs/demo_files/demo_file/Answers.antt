use Rattle.std.proofs.Common.{◌≡◌, ◌∙◌, length, sym, ap, arith}
use Rattle.std.proofs.lemmas.List.{length-map}
use Rattle.vx_layout.specs.Nodes.{node_data}
use Rattle.vx_layout.proofs.FaultLaws.{good_has_none}
use Rattle.scan_demo.specs.DemoNodes.{demo_nodes}
use Rattle.scan_demo.proofs.DemoGood.{demo_good}
use Rattle.scan_demo.proofs.DemoTree.{demo_value, demo_values, few_locations}
use Rattle.scan_demo.proofs.NodePlaces.{few_nodes}
use Rattle.scan_demo.proofs.demo_files.demo_file.Goals as goal

pub try_new-requires : goal.try_new-requires
try_new-requires c =
    let same : length c.in_ok-nodes.field-0.nodes.items ≡ length (demo_nodes c.args.number) = sym (length-map c.in_ok-nodes.field-0.nodes.items node_data) ∙ ap length c.in_ok-nodes.ensures.nodes in
    omega (arith, same, few_nodes c.args.number c.requires)

pub returns-in-Ok-clause-few : goal.returns-in-Ok-clause-few
returns-in-Ok-clause-few c =
    let counted = few_locations c.args.number c.requires in
    rw (c.in_ok-nodes.ensures.locations) counted

pub returns-in-Ok-clause-rows : goal.returns-in-Ok-clause-rows
returns-in-Ok-clause-rows c =
    rw (c.in_ok-nodes.ensures.bytes, c.in_ok-nodes.ensures.locations, c.in-Ok.ensures.made, c.in_ok-nodes.ensures.nodes) (demo_values c.args.number (demo_good c.args.number c.requires))

pub returns-in-Ok-clause-each : goal.returns-in-Ok-clause-each
returns-in-Ok-clause-each c =
    rw (c.in_ok-nodes.ensures.bytes, c.in_ok-nodes.ensures.locations, c.in-Ok.ensures.made, c.in_ok-nodes.ensures.nodes) (demo_value c.args.number (demo_good c.args.number c.requires))

-- a good list of nodes is not refused
pub unreachable-requires : goal.unreachable-requires
unreachable-requires c =
    good_has_none (demo_nodes c.args.number) c.in-Err-BadLayout.field-0-0 c.in-Err-BadLayout.field-0-1 (demo_good c.args.number c.requires)
    (rw (c.in_ok-nodes.ensures.nodes, c.in-Err-BadLayout.field-0-is) at c.in-Err-BadLayout.ensures.refused)
