-- One chunk after another: what each needs, and how its rows are derived.
use Rattle.std.proofs.Common.{◌≡◌, ℕ, ◌+◌, ◌-◌, ◌<◌, Bool, List, [], ◌∷◌, ◌++◌, Some, length, drop, sym, ap, ◌∙◌, subst, arith, append_assoc, append-nil}
use Rattle.std.specs.Prelude.{slice_range}
use Rattle.std.specs.List.{slice_get}
use Rattle.vx_layout.specs.Kept.{all}
use Rattle.vx_layout.specs.Nodes.{Node}
use Rattle.vx_layout.specs.Rows.{derivation, derivation_in}
use Rattle.vx_layout.specs.Trees.{subtree}
use Rattle.vx_layout.proofs.TreeRows.{row_first, row_later}
use Rattle.vx_reads.specs.declared.reads.SegmentRead.{SegmentRead}
use Rattle.vx_reads.specs.Came.{Begin}
use Rattle.vx_reads.specs.Needed.{needed_in, needed_of_range}
use Rattle.vx_reads.specs.Readable.{tree_head, trees_of}
use Rattle.vx_reads.proofs.Ranges.{drop_then, range_left, range_taken, IsHere}
use Rattle.vx_picking.proofs.SelectedRows.{drop_at}

-- what the chunks that are left need: what the first of them needs, and then the others
pub chunk_needed : (nodes : List Node) (chunk : ℕ) (rest : List ℕ) (row : ℕ) (mask : List Bool) (done end : ℕ) → IsHere mask done end ((tree_head nodes chunk).rows - row) →
    needed_in (trees_of nodes (chunk ∷ rest)) row (drop done mask) ≡ needed_of_range (subtree nodes chunk) row (slice_range mask done end) ++ needed_in (trees_of nodes rest) (row - (tree_head nodes chunk).rows) (drop end mask)
chunk_needed nodes chunk rest row mask done end here =
    let more : ℕ = (tree_head nodes chunk).rows - row in
    ap (λ (bits : List Bool). needed_of_range (subtree nodes chunk) row bits ++ needed_in (trees_of nodes rest) (row - (tree_head nodes chunk).rows) (drop more (drop done mask))) (range_taken mask done end more here)
    ∙ ap (λ (bits : List Bool). needed_of_range (subtree nodes chunk) row (slice_range mask done end) ++ needed_in (trees_of nodes rest) (row - (tree_head nodes chunk).rows) bits) (range_left mask done end more here)

-- the chunks that are left, at a place
pub left_needed : (nodes : List Node) (chunks : List ℕ) (place chunk row : ℕ) (mask : List Bool) (done end : ℕ) → slice_get chunks place ≡ Some chunk → IsHere mask done end ((tree_head nodes chunk).rows - row) →
    needed_in (trees_of nodes (drop place chunks)) row (drop done mask) ≡ needed_of_range (subtree nodes chunk) row (slice_range mask done end) ++ needed_in (trees_of nodes (drop (place + 1) chunks)) (row - (tree_head nodes chunk).rows) (drop end mask)
left_needed nodes chunks place chunk row mask done end at here =
    ap (λ (ns : List ℕ). needed_in (trees_of nodes ns) row (drop done mask)) (drop_at chunks place chunk at) ∙ chunk_needed nodes chunk (drop (place + 1) chunks) row mask done end here

-- the needs so far, and those of what is left
pub needs_more : (nodes : List Node) (chunks : List ℕ) (place chunk row : ℕ) (mask : List Bool) (done end : ℕ) (so_far more total : List ℕ) → slice_get chunks place ≡ Some chunk → IsHere mask done end ((tree_head nodes chunk).rows - row) →
    so_far ++ needed_in (trees_of nodes (drop place chunks)) row (drop done mask) ≡ total → more ≡ so_far ++ needed_of_range (subtree nodes chunk) row (slice_range mask done end) →
    more ++ needed_in (trees_of nodes (drop (place + 1) chunks)) (row - (tree_head nodes chunk).rows) (drop end mask) ≡ total
needs_more nodes chunks place chunk row mask done end so_far more total at here before added =
    let rest : List ℕ = needed_in (trees_of nodes (drop (place + 1) chunks)) (row - (tree_head nodes chunk).rows) (drop end mask) in
    let now : List ℕ = needed_of_range (subtree nodes chunk) row (slice_range mask done end) in
    ap (λ (xs : List ℕ). xs ++ rest) added ∙ append_assoc so_far now rest ∙ ap (λ (xs : List ℕ). so_far ++ xs) (sym (left_needed nodes chunks place chunk row mask done end at here)) ∙ before

pub needs_all : (nodes : List Node) (chunks : List ℕ) (place row : ℕ) (bits : List Bool) (so_far total : List ℕ) → drop place chunks ≡ [] → so_far ++ needed_in (trees_of nodes (drop place chunks)) row bits ≡ total → so_far ≡ total
needs_all nodes chunks place row bits so_far total end before = sym (append-nil so_far) ∙ ap (λ (ns : List ℕ). so_far ++ needed_in (trees_of nodes ns) row bits) (sym end) ∙ before

-- ---- reads

pub begin_left : (ones others : List ℕ) (reads : List SegmentRead) → Begin (ones ++ others) reads → Begin ones reads
begin_left [] others reads h = tt
begin_left (one ∷ ones) others [] h = h
begin_left (one ∷ ones) others (read ∷ reads) h = (h.0, h.1, begin_left ones others reads h.2)

pub begin_right : (ones others : List ℕ) (reads : List SegmentRead) → Begin (ones ++ others) reads → Begin others (drop (length ones) reads)
begin_right [] others reads h = h
begin_right (one ∷ ones) others [] h = absurd h
begin_right (one ∷ ones) others (read ∷ reads) h = begin_right ones others reads h.2

-- behind those of the first part
pub begin_next : (ones others : List ℕ) (reads : List SegmentRead) (next after : ℕ) → after ≡ next + length ones → Begin (ones ++ others) (drop next reads) → Begin others (drop after reads)
begin_next ones others reads next after e h = subst (Begin others) (drop_then reads next (length ones) after e) (begin_right ones others (drop next reads) h)

-- ---- rows

-- a row of the range is one of the chunk's
pub first_alike : (nodes : List Node) (chunk : ℕ) (rest : List ℕ) (row done end : ℕ) (mask : List Bool) → IsHere mask done end ((tree_head nodes chunk).rows - row) → (i : ℕ) → i < end - done → derivation_in (trees_of nodes (chunk ∷ rest)) all (row + i) ≡ derivation (subtree nodes chunk) all (row + i)
first_alike nodes chunk rest row done end mask here i lt = row_first (subtree nodes chunk) (trees_of nodes rest) all (row + i) (let h = here.most in omega arith)

-- a row behind the range is one of the other chunks'
pub rest_alike : (nodes : List Node) (chunk : ℕ) (rest : List ℕ) (row done end : ℕ) (mask : List Bool) → IsHere mask done end ((tree_head nodes chunk).rows - row) → (i : ℕ) → i < length mask - end → derivation_in (trees_of nodes (chunk ∷ rest)) all (row + (end - done + i)) ≡ derivation_in (trees_of nodes rest) all (row - (tree_head nodes chunk).rows + i)
rest_alike nodes chunk rest row done end mask here i lt =
    let whole : end ≡ done + ((tree_head nodes chunk).rows - row) = here.whole (omega arith) in
    row_later (subtree nodes chunk) (trees_of nodes rest) all (row + (end - done + i)) (row - (tree_head nodes chunk).rows + i) (omega arith)
