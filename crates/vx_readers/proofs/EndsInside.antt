-- The chunk ends between two rows, chunk by chunk.
use Rattle.std.proofs.Common.{◌≡◌, ℕ, ◌+◌, ◌<◌, ◌≤◌, Bool, true, false, cond, ◌&&◌, List, [], ◌∷◌, ◌++◌, Some, length, take, refl, sym, ap, ◌∙◌, arith, drop, append_assoc, append-nil}
use Rattle.std.specs.Prelude.{nat_lt}
use Rattle.std.specs.List.{filter, slice_get}
use Rattle.std.proofs.lemmas.Bool.{le-ltb, lt-ltb}
use Rattle.std.proofs.lemmas.List.{length-take, take-take, take_at}
use Rattle.std.proofs.lemmas.List.Elements.{filter-append}
use Rattle.vx_layout.specs.Nodes.{Node}
use Rattle.vx_layout.specs.Trees.{Tree, missing, leaf, chunks, fields, dict, lists, zoned, Forest, no_trees, tree, head_of, subtree}
use Rattle.vx_picking.proofs.SelectedRows.{drop_at}
use Rattle.vx_reads.specs.Readable.{tree_head, trees_of}
use Rattle.vx_readers.specs.ChunkEnds.{ends_in, ends_of, StandFirst}
use Rattle.vx_split_rules.specs.Splits.{is_inside}

-- a row at the end or behind it is not inside
past_end : (start end row : ℕ) → end ≤ row → is_inside start end row ≡ false
past_end start end row past = ap (λ (b : Bool). nat_lt start row && b) (le-ltb row end past) ∙ by (nat_lt start row)
  where
    by : (b : Bool) → (b && false) ≡ false
    by true = refl
    by false = refl

-- none of a tree that begins at the end or behind it
mutual
  none_of : (t : Tree) (from start end : ℕ) → end ≤ from → filter (is_inside start end) (ends_of t from) ≡ []
  none_of (missing head) from start end past = refl
  none_of (leaf head segment coding) from start end past = refl
  none_of (chunks head forest) from start end past = none_in forest from start end past
  none_of (fields head forest validity) from start end past = refl
  none_of (dict head values codes) from start end past = none_of codes from start end past
  none_of (lists head elements offsets validity) from start end past = refl
  none_of (zoned head zones content table) from start end past = none_of content from start end past

  pub none_in : (forest : Forest) (from start end : ℕ) → end ≤ from → filter (is_inside start end) (ends_in forest from) ≡ []
  none_in no_trees from start end past = refl
  none_in (tree first rest) from start end past =
      let next : ℕ = from + (head_of first).rows in
      let behind : end ≤ from + (head_of first).rows = omega arith in
      filter-append (is_inside start end) (ends_of first from) (next ∷ ends_in rest next)
      ∙ ap (λ (xs : List ℕ). xs ++ filter (is_inside start end) (next ∷ ends_in rest next)) (none_of first from start end past)
      ∙ ap (λ (b : Bool). cond b (next ∷ filter (is_inside start end) (ends_in rest next)) (filter (is_inside start end) (ends_in rest next))) (past_end start end next behind)
      ∙ none_in rest next start end behind

-- the ends of the chunks that are left: those inside the first of them, where it ends, and the others
left_ends : (nodes : List Node) (ns : List ℕ) (place chunk row start end : ℕ) → slice_get ns place ≡ Some chunk →
    filter (is_inside start end) (ends_in (trees_of nodes (drop place ns)) row)
    ≡ filter (is_inside start end) (ends_of (subtree nodes chunk) row) ++ cond (is_inside start end (row + (tree_head nodes chunk).rows)) ((row + (tree_head nodes chunk).rows) ∷ filter (is_inside start end) (ends_in (trees_of nodes (drop (place + 1) ns)) (row + (tree_head nodes chunk).rows))) (filter (is_inside start end) (ends_in (trees_of nodes (drop (place + 1) ns)) (row + (tree_head nodes chunk).rows)))
left_ends nodes ns place chunk row start end at =
    ap (λ (ms : List ℕ). filter (is_inside start end) (ends_in (trees_of nodes ms) row)) (drop_at ns place chunk at)
    ∙ filter-append (is_inside start end) (ends_of (subtree nodes chunk) row) ((row + (tree_head nodes chunk).rows) ∷ ends_in (trees_of nodes (drop (place + 1) ns)) (row + (tree_head nodes chunk).rows))

-- ---- the steps of the loop

-- where the first of them ends inside, and that was pushed
pub pushed_here : (nodes : List Node) (ns : List ℕ) (place chunk row next start end : ℕ) (so_far more new total : List ℕ) → slice_get ns place ≡ Some chunk → next ≡ row + (tree_head nodes chunk).rows → is_inside start end next ≡ true →
    so_far ++ filter (is_inside start end) (ends_in (trees_of nodes (drop place ns)) row) ≡ total → more ≡ so_far ++ filter (is_inside start end) (ends_of (subtree nodes chunk) row) → new ≡ more ++ next ∷ [] →
    new ++ filter (is_inside start end) (ends_in (trees_of nodes (drop (place + 1) ns)) next) ≡ total
pushed_here nodes ns place chunk row next start end so_far more new total at is inside before added pushed =
    let later : List ℕ = filter (is_inside start end) (ends_in (trees_of nodes (drop (place + 1) ns)) next) in
    let inner : List ℕ = filter (is_inside start end) (ends_of (subtree nodes chunk) row) in
    let left : filter (is_inside start end) (ends_in (trees_of nodes (drop place ns)) row) ≡ inner ++ cond (is_inside start end next) (next ∷ later) later = left_ends nodes ns place chunk row start end at ∙ ap (λ (k : ℕ). inner ++ cond (is_inside start end k) (k ∷ filter (is_inside start end) (ends_in (trees_of nodes (drop (place + 1) ns)) k)) (filter (is_inside start end) (ends_in (trees_of nodes (drop (place + 1) ns)) k))) (sym is) in
    ap (λ (xs : List ℕ). xs ++ later) (pushed ∙ ap (λ (xs : List ℕ). xs ++ next ∷ []) added)
    ∙ append_assoc (so_far ++ inner) (next ∷ []) later ∙ append_assoc so_far inner (next ∷ later)
    ∙ ap (λ (xs : List ℕ). so_far ++ xs) (sym (left ∙ ap (λ (b : Bool). inner ++ cond b (next ∷ later) later) inside)) ∙ before

-- where it doesn't
pub passed_here : (nodes : List Node) (ns : List ℕ) (place chunk row next start end : ℕ) (so_far more total : List ℕ) → slice_get ns place ≡ Some chunk → next ≡ row + (tree_head nodes chunk).rows → is_inside start end next ≡ false →
    so_far ++ filter (is_inside start end) (ends_in (trees_of nodes (drop place ns)) row) ≡ total → more ≡ so_far ++ filter (is_inside start end) (ends_of (subtree nodes chunk) row) →
    more ++ filter (is_inside start end) (ends_in (trees_of nodes (drop (place + 1) ns)) next) ≡ total
passed_here nodes ns place chunk row next start end so_far more total at is outside before added =
    let later : List ℕ = filter (is_inside start end) (ends_in (trees_of nodes (drop (place + 1) ns)) next) in
    let inner : List ℕ = filter (is_inside start end) (ends_of (subtree nodes chunk) row) in
    let left : filter (is_inside start end) (ends_in (trees_of nodes (drop place ns)) row) ≡ inner ++ cond (is_inside start end next) (next ∷ later) later = left_ends nodes ns place chunk row start end at ∙ ap (λ (k : ℕ). inner ++ cond (is_inside start end k) (k ∷ filter (is_inside start end) (ends_in (trees_of nodes (drop (place + 1) ns)) k)) (filter (is_inside start end) (ends_in (trees_of nodes (drop (place + 1) ns)) k))) (sym is) in
    ap (λ (xs : List ℕ). xs ++ later) added ∙ append_assoc so_far inner later
    ∙ ap (λ (xs : List ℕ). so_far ++ xs) (sym (left ∙ ap (λ (b : Bool). inner ++ cond b (next ∷ later) later) outside)) ∙ before

-- nothing is left where the next chunk begins at the end or behind it
pub none_left : (nodes : List Node) (ns : List ℕ) (place row start end : ℕ) (so_far total : List ℕ) → end ≤ row →
    so_far ++ filter (is_inside start end) (ends_in (trees_of nodes (drop place ns)) row) ≡ total → so_far ≡ total
none_left nodes ns place row start end so_far total past before =
    sym (append-nil so_far) ∙ ap (λ (xs : List ℕ). so_far ++ xs) (sym (none_in (trees_of nodes (drop place ns)) row start end past)) ∙ before

-- nor behind a chunk that ends so far away
pub none_behind : (nodes : List Node) (ns : List ℕ) (place chunk row start end : ℕ) (so_far more total : List ℕ) → slice_get ns place ≡ Some chunk → end ≤ row + (tree_head nodes chunk).rows →
    so_far ++ filter (is_inside start end) (ends_in (trees_of nodes (drop place ns)) row) ≡ total → more ≡ so_far ++ filter (is_inside start end) (ends_of (subtree nodes chunk) row) → more ≡ total
none_behind nodes ns place chunk row start end so_far more total at past before added =
    none_left nodes ns (place + 1) (row + (tree_head nodes chunk).rows) start end more total past
    (passed_here nodes ns place chunk row (row + (tree_head nodes chunk).rows) start end so_far more total at refl (past_end start end (row + (tree_head nodes chunk).rows) past) before added)

pub inside_by : (start end row : ℕ) → start < row → row < end → is_inside start end row ≡ true
inside_by start end row behind before = ap (λ (b : Bool). b && nat_lt row end) (lt-ltb start row behind) ∙ lt-ltb row end before

pub outside_before : (start end row : ℕ) → row ≤ start → is_inside start end row ≡ false
outside_before start end row before = ap (λ (b : Bool). b && nat_lt row end) (le-ltb start row before)

pub outside_past : (start end row : ℕ) → end ≤ row → is_inside start end row ≡ false
outside_past start end row past = past_end start end row past

-- ---- what was there before

-- what stands first still does behind two steps
pub first_still : (one two three : List ℕ) → StandFirst one two → StandFirst two three → StandFirst one three
first_still one two three first second =
    let few : length one ≤ length two = omega (arith, length-take (length one) two, ap length first) in
    sym (take-take (length one) (length two) three few) ∙ ap (take (length one)) second ∙ first

-- and before one row more
pub first_pushed : (one two three : List ℕ) (row : ℕ) → StandFirst one two → three ≡ two ++ row ∷ [] → StandFirst one three
first_pushed one two three row first pushed = first_still one two three first (ap (take (length two)) pushed ∙ take_at two (row ∷ []) (length two) refl)
