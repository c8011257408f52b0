-- What is written to a file: nodes, and flats with where they lie.
use Rattle.std.specs.Prelude.{◌≡◌, ◌++◌, List, length, map}
use Rattle.vx_base.specs.Columns.{ColumnData}
use Rattle.vx_layout.specs.Nodes.{Node, node_data}
use Rattle.scan_demo.specs.declared.file_writers.FileWriter.{FileWriter}
use Rattle.scan_demo.specs.DemoBytes.{bytes_of, locations_from}

-- the nodes of a writer as data
abbrev pub nodes_in : FileWriter → List Node
nodes_in writer = map node_data writer.nodes.items

-- These nodes and these flats were written behind what was there.
pub record Wrote (before after : FileWriter) (more : List Node) (flats : List ColumnData) : Type 0 where
  pub nodes : nodes_in after ≡ nodes_in before ++ more
  pub locations : after.locations.items ≡ before.locations.items ++ locations_from (length before.bytes.items) flats
  pub bytes : after.bytes.items ≡ before.bytes.items ++ bytes_of flats
