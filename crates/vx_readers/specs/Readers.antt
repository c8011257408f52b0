-- Readers by the kind of their node, as data.
use Rattle.std.specs.Prelude.{Bool, true, false, List, IsSomeAnd}
use Rattle.std.specs.List.{slice_get}
use Rattle.vx_layout.specs.declared.nodes.LayoutKind.{LayoutKind}
use Rattle.vx_layout.specs.declared.nodes.LayoutKind.TheVariants as kinds
use Rattle.vx_layout.specs.Nodes.{Node}
use Rattle.vx_readers.specs.declared.layout_readers.Reader.{Reader}
use Rattle.vx_readers.specs.declared.layout_readers.Reader.TheVariants.{Flat, Chunked, Dict, Zoned}
use Rattle.vx_readers.specs.ReaderData.{ReaderData}

-- what a reader borrows, whatever its kind
abbrev pub reader_data : Reader → ReaderData
reader_data (Flat reader) = reader.over
reader_data (Chunked reader) = reader.over
reader_data (Dict reader) = reader.over
reader_data (Zoned reader) = reader.over

-- whether it pushes where an empty range ends: one of chunks doesn't
abbrev pub pushes_empty : Reader → Bool
pushes_empty (Flat reader) = true
pushes_empty (Chunked reader) = false
pushes_empty (Dict reader) = true
pushes_empty (Zoned reader) = true

-- the reader is that of the kind
abbrev pub IsReaderOf : LayoutKind → Reader → Type 0
IsReaderOf (kinds.Flat segment coding) (Flat reader) = Unit {0}
IsReaderOf kinds.Chunked (Chunked reader) = Unit {0}
IsReaderOf kinds.Dict (Dict reader) = Unit {0}
IsReaderOf (kinds.Zoned zone_len stats) (Zoned reader) = Unit {0}
IsReaderOf kind reader = ⊥

-- it is that of the kind of the first node
abbrev pub IsRootReader : List Node → Reader → Type 0
IsRootReader nodes reader = IsSomeAnd (slice_get nodes 0) (λ root. IsReaderOf root.kind reader)
