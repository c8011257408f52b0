use Rattle.std.proofs.Common.{[], ◌∷◌}
use Rattle.scan_demo.specs.DemoNodes.{dict_node, flat_node}
use Rattle.scan_demo.specs.Flats.{name_flat}
use Rattle.scan_demo.proofs.SegmentSizes.{names_small}
use Rattle.scan_demo.proofs.StoredValues.{names_short}
use Rattle.scan_demo.proofs.Written.{wrote_then}
use Rattle.scan_demo.proofs.demo_files.push_dictionary.Goals as goal

pub push_flat-requires-clause-short : goal.push_flat-requires-clause-short
push_flat-requires-clause-short c = rw c.in_ok-names.ensures names_short

pub push_flat-requires-clause-small : goal.push_flat-requires-clause-small
push_flat-requires-clause-small c = rw c.in_ok-names.ensures names_small

pub returns : goal.returns
returns c =
    wrote_then c.args.writer.now c.push_node.new.self c.push_flat.new.self (dict_node c.args.number c.args.chunks ∷ []) (flat_node c.args.chunks name_flat ∷ []) [] (name_flat ∷ [])
    (rw c.in_ok-parts.ensures.items at c.in_ok-push_node.ensures) (rw c.in_ok-names.ensures at c.in_ok-push_flat.ensures)
