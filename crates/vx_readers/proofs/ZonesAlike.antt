-- One chunk after another: which zones lie over its rows, and which segments these need.
use Rattle.std.proofs.Common.{◌≡◌, ℕ, ◌+◌, ◌-◌, ◌<◌, ◌≤◌, Bool, true, false, List, [], ◌∷◌, ◌++◌, Some, length, drop, replicate, refl, sym, ap, ◌∙◌, arith, append_assoc, append-nil}
use Rattle.std.specs.Prelude.{slice_range}
use Rattle.std.specs.List.{slice_get}
use Rattle.std.proofs.lemmas.Bool.{le-ltb, lt-ltb}
use Rattle.vx_layout.specs.Nodes.{Node}
use Rattle.vx_layout.specs.Trees.{Tree, zoned, Forest, tree, head_of, subtree}
use Rattle.vx_rows.specs.Heads.{Head}
use Rattle.vx_rows.specs.Zones.{Zones}
use Rattle.vx_picking.specs.Rows.{selects_some}
use Rattle.vx_picking.proofs.SelectedRows.{drop_at}
use Rattle.vx_reads.specs.Needed.{needed}
use Rattle.vx_reads.specs.Readable.{tree_head, trees_of}
use Rattle.vx_reads.proofs.Ranges.{range_left, range_taken, IsHere}
use Rattle.vx_readers.specs.ZonesNeeded.{zones_needed, zones_needed_in, zones_needed_of_range}
use Rattle.vx_readers.specs.ZonesOver.{zones_over, zones_over_in}

-- ---- zones over a row

pub zones_first : (first : Tree) (rest : Forest) (row : ℕ) → row < (head_of first).rows → zones_over_in (tree first rest) row ≡ zones_over first row
zones_first first rest row lt = rw (lt-ltb row (head_of first).rows lt) refl

pub zones_later : (first : Tree) (rest : Forest) (row before : ℕ) → row ≡ (head_of first).rows + before → zones_over_in (tree first rest) row ≡ zones_over_in rest before
zones_later first rest row before e =
    let le : (head_of first).rows ≤ row = omega arith in
    let p : row - (head_of first).rows ≡ before = omega arith in
    rw (le-ltb row (head_of first).rows le) (ap (zones_over_in rest) p)

first_zones : (nodes : List Node) (chunk : ℕ) (rest : List ℕ) (row done end : ℕ) (mask : List Bool) → IsHere mask done end ((tree_head nodes chunk).rows - row) → (i : ℕ) → i < end - done → zones_over_in (trees_of nodes (chunk ∷ rest)) (row + i) ≡ zones_over (subtree nodes chunk) (row + i)
first_zones nodes chunk rest row done end mask here i lt = zones_first (subtree nodes chunk) (trees_of nodes rest) (row + i) (let h = here.most in omega arith)

rest_zones : (nodes : List Node) (chunk : ℕ) (rest : List ℕ) (row done end : ℕ) (mask : List Bool) → IsHere mask done end ((tree_head nodes chunk).rows - row) → (i : ℕ) → i < length mask - end → zones_over_in (trees_of nodes (chunk ∷ rest)) (row + (end - done + i)) ≡ zones_over_in (trees_of nodes rest) (row - (tree_head nodes chunk).rows + i)
rest_zones nodes chunk rest row done end mask here i lt =
    let whole : end ≡ done + ((tree_head nodes chunk).rows - row) = here.whole (omega arith) in
    zones_later (subtree nodes chunk) (trees_of nodes rest) (row + (end - done + i)) (row - (tree_head nodes chunk).rows + i) (omega arith)

-- a row of the range is one of the chunk's, and one behind it is one of those that are left
pub zones_here : (nodes : List Node) (ns : List ℕ) (place chunk start row done end : ℕ) (mask : List Bool) → slice_get ns place ≡ Some chunk → IsHere mask done end ((tree_head nodes chunk).rows - row) → ((i : ℕ) → i < length mask - done → zones_over_in (trees_of nodes ns) (start + (done + i)) ≡ zones_over_in (trees_of nodes (drop place ns)) (row + i)) →
    (i : ℕ) → i < end - done → zones_over_in (trees_of nodes ns) (start + (done + i)) ≡ zones_over (subtree nodes chunk) (row + i)
zones_here nodes ns place chunk start row done end mask at here alike i lt =
    alike i (let h = here.inside in omega arith) ∙ ap (λ (ms : List ℕ). zones_over_in (trees_of nodes ms) (row + i)) (drop_at ns place chunk at)
    ∙ first_zones nodes chunk (drop (place + 1) ns) row done end mask here i lt

pub zones_left : (nodes : List Node) (ns : List ℕ) (place chunk start row done end : ℕ) (mask : List Bool) → slice_get ns place ≡ Some chunk → IsHere mask done end ((tree_head nodes chunk).rows - row) → ((i : ℕ) → i < length mask - done → zones_over_in (trees_of nodes ns) (start + (done + i)) ≡ zones_over_in (trees_of nodes (drop place ns)) (row + i)) →
    (i : ℕ) → i < length mask - end → zones_over_in (trees_of nodes ns) (start + (end + i)) ≡ zones_over_in (trees_of nodes (drop (place + 1) ns)) (row - (tree_head nodes chunk).rows + i)
zones_left nodes ns place chunk start row done end mask at here alike i lt =
    let f = here.forwards in
    let same : start + (end + i) ≡ start + (done + (end - done + i)) = omega arith in
    ap (zones_over_in (trees_of nodes ns)) same ∙ alike (end - done + i) (omega arith)
    ∙ ap (λ (ms : List ℕ). zones_over_in (trees_of nodes ms) (row + (end - done + i))) (drop_at ns place chunk at)
    ∙ rest_zones nodes chunk (drop (place + 1) ns) row done end mask here i lt

-- ---- what they need

chunk_needed : (nodes : List Node) (chunk : ℕ) (rest : List ℕ) (row : ℕ) (mask : List Bool) (done end : ℕ) → IsHere mask done end ((tree_head nodes chunk).rows - row) →
    zones_needed_in (trees_of nodes (chunk ∷ rest)) row (drop done mask) ≡ zones_needed_of_range (subtree nodes chunk) row (slice_range mask done end) ++ zones_needed_in (trees_of nodes rest) (row - (tree_head nodes chunk).rows) (drop end mask)
chunk_needed nodes chunk rest row mask done end here =
    let more : ℕ = (tree_head nodes chunk).rows - row in
    ap (λ (bits : List Bool). zones_needed_of_range (subtree nodes chunk) row bits ++ zones_needed_in (trees_of nodes rest) (row - (tree_head nodes chunk).rows) (drop more (drop done mask))) (range_taken mask done end more here)
    ∙ ap (λ (bits : List Bool). zones_needed_of_range (subtree nodes chunk) row (slice_range mask done end) ++ zones_needed_in (trees_of nodes rest) (row - (tree_head nodes chunk).rows) bits) (range_left mask done end more here)

-- the chunks that are left, at a place
pub zones_needed_left : (nodes : List Node) (chunks : List ℕ) (place chunk row : ℕ) (mask : List Bool) (done end : ℕ) → slice_get chunks place ≡ Some chunk → IsHere mask done end ((tree_head nodes chunk).rows - row) →
    zones_needed_in (trees_of nodes (drop place chunks)) row (drop done mask) ≡ zones_needed_of_range (subtree nodes chunk) row (slice_range mask done end) ++ zones_needed_in (trees_of nodes (drop (place + 1) chunks)) (row - (tree_head nodes chunk).rows) (drop end mask)
zones_needed_left nodes chunks place chunk row mask done end at here =
    ap (λ (ns : List ℕ). zones_needed_in (trees_of nodes ns) row (drop done mask)) (drop_at chunks place chunk at) ∙ chunk_needed nodes chunk (drop (place + 1) chunks) row mask done end here

-- the needs so far, and those of what is left
pub zones_needs_more : (nodes : List Node) (chunks : List ℕ) (place chunk row : ℕ) (mask : List Bool) (done end : ℕ) (so_far more total : List ℕ) → slice_get chunks place ≡ Some chunk → IsHere mask done end ((tree_head nodes chunk).rows - row) →
    so_far ++ zones_needed_in (trees_of nodes (drop place chunks)) row (drop done mask) ≡ total → more ≡ so_far ++ zones_needed_of_range (subtree nodes chunk) row (slice_range mask done end) →
    more ++ zones_needed_in (trees_of nodes (drop (place + 1) chunks)) (row - (tree_head nodes chunk).rows) (drop end mask) ≡ total
zones_needs_more nodes chunks place chunk row mask done end so_far more total at here before added =
    let rest : List ℕ = zones_needed_in (trees_of nodes (drop (place + 1) chunks)) (row - (tree_head nodes chunk).rows) (drop end mask) in
    let now : List ℕ = zones_needed_of_range (subtree nodes chunk) row (slice_range mask done end) in
    ap (λ (xs : List ℕ). xs ++ rest) added ∙ append_assoc so_far now rest ∙ ap (λ (xs : List ℕ). so_far ++ xs) (sym (zones_needed_left nodes chunks place chunk row mask done end at here)) ∙ before

pub zones_needs_all : (nodes : List Node) (chunks : List ℕ) (place row : ℕ) (bits : List Bool) (so_far total : List ℕ) → drop place chunks ≡ [] → so_far ++ zones_needed_in (trees_of nodes (drop place chunks)) row bits ≡ total → so_far ≡ total
zones_needs_all nodes chunks place row bits so_far total end before = sym (append-nil so_far) ∙ ap (λ (ns : List ℕ). so_far ++ zones_needed_in (trees_of nodes ns) row bits) (sym end) ∙ before

-- ---- data that has zones

pub zoned_needed : (t : Tree) (head : Head) (zones : Zones) (content table : Tree) (start : ℕ) (bits : List Bool) → t ≡ zoned head zones content table → selects_some bits ≡ true → zones_needed t start bits ≡ needed table 0 (replicate (head_of table).rows true) ++ zones_needed content start bits
zoned_needed t head zones content table start bits is some = ap (λ (t : Tree). zones_needed t start bits) is ∙ rw some refl

pub zoned_none : (t : Tree) (head : Head) (zones : Zones) (content table : Tree) (start : ℕ) (bits : List Bool) → t ≡ zoned head zones content table → selects_some bits ≡ false → zones_needed t start bits ≡ []
zoned_none t head zones content table start bits is none = ap (λ (t : Tree). zones_needed t start bits) is ∙ rw none refl
