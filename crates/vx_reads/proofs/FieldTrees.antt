-- The fields of a struct that takes no nulls: what each needs, and that what it finds the struct does.
use Rattle.std.proofs.Common.{◌≡◌, ℕ, zero, suc, ◌+◌, Bool, List, [], ◌∷◌, ◌++◌, Some, Result, Ok, Err, drop, refl, sym, ap, ◌∙◌, subst, append_assoc, append-nil}
use Rattle.std.specs.Prelude.{IfOk}
use Rattle.std.specs.List.{slice_get}
use Rattle.vx_base.specs.declared.dtypes.Nullability.TheVariants.{NonNullable, Nullable}
use Rattle.vx_base.specs.Data.{DataType, bool_type, int_type, utf8_type, struct_type, list_type, Members, no_members, member}
use Rattle.vx_base.specs.Fits.{nullability_of}
use Rattle.vx_layout.specs.Kept.{all}
use Rattle.vx_layout.specs.Nodes.{Node}
use Rattle.vx_layout.specs.Parts.{tree_at, IsKeptField}
use Rattle.vx_layout.specs.Rows.{derivation, struct_members}
use Rattle.vx_layout.specs.Sound.{AreFields, IsSound, IsValidity}
use Rattle.vx_layout.specs.Trees.{Tree, fields, Forest, no_trees, tree, always, subtree}
use Rattle.vx_layout.proofs.TreeRows.{read_by_field}
use Rattle.vx_picking.proofs.SelectedRows.{drop_at}
use Rattle.vx_rows.specs.Heads.{Head}
use Rattle.vx_rows.specs.Reads.{directly}
use Rattle.vx_rows.specs.TypeForms.{IsStruct}
use Rattle.vx_rows.proofs.ReadRows.{Meets}
use Rattle.vx_reads.specs.declared.errors.ReaderError.{ReaderError}
use Rattle.vx_reads.specs.declared.reads.SegmentRead.{SegmentRead}
use Rattle.vx_reads.specs.Computed.{Fails}
use Rattle.vx_reads.specs.Fielded.{IsBareStruct}
use Rattle.vx_reads.specs.Needed.{needed, needed_of_each, needed_of_fields}
use Rattle.vx_reads.specs.Readable.{tree_head, trees_of}
use Rattle.vx_reads.proofs.Computing.{fails_up, FindsUp}

bare_by : (t : DataType) (rows : ℕ) → IsStruct t → IsValidity (nullability_of t) rows always → IsBareStruct t
bare_by (struct_type ms NonNullable) rows is valid = refl
bare_by (struct_type ms Nullable) rows is valid = absurd valid
bare_by (bool_type n) rows is valid = absurd is
bare_by (int_type kind n) rows is valid = absurd is
bare_by (utf8_type n) rows is valid = absurd is
bare_by (list_type t n) rows is valid = absurd is

pub bare_struct : (t : DataType) (head : Head) (forest : Forest) → t ≡ head.dtype → IsSound (fields head forest always) → IsBareStruct t
bare_struct t head forest same sound = subst IsBareStruct (sym same) (bare_by head.dtype head.rows sound.0 sound.2)

-- ---- needs

fields_needed : (ms : Members) (rows : ℕ) (forest : Forest) (start : ℕ) (bits : List Bool) → AreFields ms rows forest → needed_of_fields ms forest start bits ≡ needed_of_each forest start bits
fields_needed no_members rows no_trees start bits are = refl
fields_needed no_members rows (tree first rest) start bits are = absurd are
fields_needed (member name t ms) rows no_trees start bits are = absurd are
fields_needed (member name t ms) rows (tree first rest) start bits are = ap (λ (ns : List ℕ). needed first start bits ++ ns) (fields_needed ms rows rest start bits are.2)

-- a struct needs what each of its fields needs
pub struct_needed : (t : Tree) (head : Head) (forest : Forest) (start : ℕ) (bits : List Bool) → t ≡ fields head forest always → IsSound (fields head forest always) → needed t start bits ≡ needed_of_each forest start bits
struct_needed t head forest start bits is sound = ap (λ (t : Tree). needed t start bits) is ∙ fields_needed (struct_members head.dtype) head.rows forest start bits sound.1

pub struct_added : {X E : Type 0} (result : Result X E) (t : Tree) (head : Head) (forest : Forest) (start : ℕ) (bits : List Bool) (old new : List ℕ) → t ≡ fields head forest always → IsSound (fields head forest always) → IfOk result (λ done. new ≡ old ++ needed_of_each forest start bits) → IfOk result (λ done. new ≡ old ++ needed t start bits)
struct_added (Err error) t head forest start bits old new is sound by = tt
struct_added (Ok done) t head forest start bits old new is sound by = by ∙ ap (λ (ns : List ℕ). old ++ ns) (sym (struct_needed t head forest start bits is sound))

-- what the fields that are left need: what the first of them needs, and then the others
pub fields_left : (nodes : List Node) (ns : List ℕ) (place n start : ℕ) (bits : List Bool) → slice_get ns place ≡ Some n → needed_of_each (trees_of nodes (drop place ns)) start bits ≡ needed (subtree nodes n) start bits ++ needed_of_each (trees_of nodes (drop (place + 1) ns)) start bits
fields_left nodes ns place n start bits at = ap (λ (ms : List ℕ). needed_of_each (trees_of nodes ms) start bits) (drop_at ns place n at)

pub fields_more : (nodes : List Node) (ns : List ℕ) (place n start : ℕ) (bits : List Bool) (so_far more total : List ℕ) → slice_get ns place ≡ Some n → so_far ++ needed_of_each (trees_of nodes (drop place ns)) start bits ≡ total → more ≡ so_far ++ needed (subtree nodes n) start bits → more ++ needed_of_each (trees_of nodes (drop (place + 1) ns)) start bits ≡ total
fields_more nodes ns place n start bits so_far more total at before added =
    let rest : List ℕ = needed_of_each (trees_of nodes (drop (place + 1) ns)) start bits in
    let now : List ℕ = needed (subtree nodes n) start bits in
    ap (λ (xs : List ℕ). xs ++ rest) added ∙ append_assoc so_far now rest ∙ ap (λ (xs : List ℕ). so_far ++ xs) (sym (fields_left nodes ns place n start bits at)) ∙ before

pub fields_all : (nodes : List Node) (ns : List ℕ) (place start : ℕ) (bits : List Bool) (so_far total : List ℕ) → drop place ns ≡ [] → so_far ++ needed_of_each (trees_of nodes (drop place ns)) start bits ≡ total → so_far ≡ total
fields_all nodes ns place start bits so_far total end before = sym (append-nil so_far) ∙ ap (λ (ms : List ℕ). so_far ++ needed_of_each (trees_of nodes ms) start bits) (sym end) ∙ before

-- ---- one field

pub field_rows : (nodes : List Node) (ms : Members) (rows : ℕ) (ns : List ℕ) (place n : ℕ) → AreFields ms rows (trees_of nodes ns) → slice_get ns place ≡ Some n → (tree_head nodes n).rows ≡ rows
field_rows nodes ms rows [] place n are at = absurd cc
field_rows nodes no_members rows (m ∷ ns) place n are at = absurd are
field_rows nodes (member name t ms) rows (m ∷ ns) zero n are at =
    let same : m ≡ n = cc in
    ap (λ (k : ℕ). (tree_head nodes k).rows) (sym same) ∙ are.1.rows
field_rows nodes (member name t ms) rows (m ∷ ns) (suc place) n are at = field_rows nodes ms rows ns place n are.2 at

tree_there : (nodes : List Node) (ns : List ℕ) (place n : ℕ) → slice_get ns place ≡ Some n → tree_at (trees_of nodes ns) place ≡ Some (subtree nodes n)
tree_there nodes [] place n at = absurd cc
tree_there nodes (m ∷ ns) zero n at = let same : m ≡ n = cc in ap (λ (k : ℕ). Some (subtree nodes k)) same
tree_there nodes (m ∷ ns) (suc place) n at = tree_there nodes ns place n at

kept_there : (nodes : List Node) (ms : Members) (rows : ℕ) (ns : List ℕ) (place n : ℕ) → AreFields ms rows (trees_of nodes ns) → slice_get ns place ≡ Some n → IsKeptField all ms place
kept_there nodes ms rows [] place n are at = absurd cc
kept_there nodes no_members rows (m ∷ ns) place n are at = absurd are
kept_there nodes (member name t ms) rows (m ∷ ns) zero n are at = refl
kept_there nodes (member name t ms) rows (m ∷ ns) (suc place) n are at = kept_there nodes ms rows ns place n are.2 at

-- what a field's row finds, the struct's does
pub field_fails : (nodes : List Node) (head : Head) (ns : List ℕ) (place n start count : ℕ) → IsSound (fields head (trees_of nodes ns) always) → slice_get ns place ≡ Some n → FindsUp (derivation (subtree nodes n) all) start count (derivation (fields head (trees_of nodes ns) always) all) start count
field_fails nodes head ns place n start count sound at P finds =
    (finds.0, finds.1, read_by_field (Meets P) head (trees_of nodes ns) always place (subtree nodes n) all directly (start + finds.0) (tree_there nodes ns place n at) (kept_there nodes (struct_members head.dtype) head.rows ns place n sound.1 at) finds.2)

pub field_failed : (error : ReaderError) (nodes : List Node) (t : Tree) (head : Head) (ns : List ℕ) (place n start count : ℕ) (reads : List SegmentRead) → t ≡ fields head (trees_of nodes ns) always → IsSound (fields head (trees_of nodes ns) always) → slice_get ns place ≡ Some n → Fails reads (derivation (subtree nodes n) all) start count error → Fails reads (derivation t all) start count error
field_failed error nodes t head ns place n start count reads is sound at fails =
    subst (λ (t : Tree). Fails reads (derivation t all) start count error) (sym is)
    (fails_up reads (derivation (subtree nodes n) all) start count (derivation (fields head (trees_of nodes ns) always) all) start count (field_fails nodes head ns place n start count sound at) error fails)
