-- A struct node is lowered without the fields that aren't kept to a pack of the plans of those that are.
use Rattle.std.proofs.Common.{◌≡◌, ℕ, ◌+◌, ◌<◌, Bool, true, false, cond, List, [], ◌∷◌, ◌++◌, Option, length, map, refl, sym, ap, ◌∙◌, subst, arith}
use Rattle.std.proofs.lemmas.List.{length-map}
use Rattle.std.proofs.lemmas.List.Elements.{All-append, All-cons, All-head, All-nil, All-tail}
use Rattle.vx_base.specs.declared.dtypes.Nullability.TheVariants.{NonNullable, Nullable}
use Rattle.vx_base.specs.Data.{DataType, bool_type, int_type, utf8_type, struct_type, list_type, Members, no_members, member}
use Rattle.vx_base.specs.Fits.{nullability_of}
use Rattle.vx_base.specs.Names.{names_in}
use Rattle.vx_layout.specs.Kept.{KeptFields, all, only, is_kept}
use Rattle.vx_layout.specs.Nodes.{Node}
use Rattle.vx_layout.specs.Rows.{struct_members}
use Rattle.vx_rows.specs.TypeForms.{IsStruct}
use Rattle.vx_layout.specs.Shape.{IsLater}
use Rattle.vx_layout.specs.Sound.{IsSound, AreFields, IsValidity}
use Rattle.vx_layout.specs.Trees.{Tree, tree, fields, forest_from, subtree}
use Rattle.vx_plan.specs.Nodes.{Node as PlanNode}
use Rattle.vx_plan.specs.Plans.{Plan, Plans, plan, plans_from, pack_plan}
use Rattle.vx_plan.specs.Rules.{given_validity}
use Rattle.vx_lower.specs.Keeping.{chosen, flags_of, kept_of, IsKeeping}
use Rattle.vx_lower.specs.declared.keeping.Keeping.{Keeping}
use Rattle.vx_lower.specs.KeptRows.{kept_members, kept_type, MayKeep}
use Rattle.vx_lower.specs.Lowered.{lowered, lowered_fields, lowered_validity, kept_head}
use Rattle.vx_lower.specs.NodeParts.{tree_head, trees_of, validity_of, lowered_each, packed_plan, AreLater, ArePacked, CanLower, CanLowerEach, IsStructNode}
use Rattle.vx_lower.specs.Numbered.{list_size, AddsPlan}
use Rattle.vx_lower.specs.Sizes.{plan_size, plans_size}
use Rattle.vx_lower.proofs.Appending.{size_append}
use Rattle.vx_lower.proofs.Made.{size_from}
use Rattle.vx_lower.proofs.Nodes.{each_append, later_front, sound_as}
use Rattle.vx_lower.proofs.Packs.{validity_size}

-- ---- the kept children

abbrev flags_in : KeptFields → Members → List Bool
flags_in kept ms = map (is_kept kept) (names_in ms)

one_more : (b : Bool) (g : ℕ → Plan) (n : ℕ) (ns : List ℕ) (ps : Plans) → ps ≡ plans_from (map g ns) → cond b (plan (g n) ps) ps ≡ plans_from (map g (cond b (n ∷ ns) ns))
one_more true g n ns ps e = ap (plan (g n)) e
one_more false g n ns ps e = e

kept_from : (f : ℕ → Tree) (kept : KeptFields) (ms : Members) (rows : ℕ) (ns : List ℕ) → AreFields ms rows (forest_from (map f ns)) → lowered_fields ms (forest_from (map f ns)) kept ≡ plans_from (map (λ n. lowered (f n) all) (chosen (flags_in kept ms) ns))
kept_from f kept no_members rows [] sound = refl
kept_from f kept no_members rows (n ∷ ns) sound = absurd sound
kept_from f kept (member name t ms) rows [] sound = absurd sound
kept_from f kept (member name t ms) rows (n ∷ ns) sound = one_more (is_kept kept name) (λ n. lowered (f n) all) n (chosen (flags_in kept ms) ns) (lowered_fields ms (forest_from (map f ns)) kept) (kept_from f kept ms rows ns sound.2)

one_more_field : (b : Bool) (f : ℕ → Tree) (name : List ℕ) (t : DataType) (ms : Members) (rows n : ℕ) (ns : List ℕ) → AreFields (member name t ms) rows (tree (f n) (forest_from (map f ns))) → AreFields ms rows (forest_from (map f ns)) → AreFields (cond b (member name t ms) ms) rows (forest_from (map f (cond b (n ∷ ns) ns)))
one_more_field true f name t ms rows n ns here rest = here
one_more_field false f name t ms rows n ns here rest = rest

kept_fields_sound : (f : ℕ → Tree) (kept : KeptFields) (ms : Members) (rows : ℕ) (ns : List ℕ) → AreFields ms rows (forest_from (map f ns)) → AreFields (kept_members kept ms) rows (forest_from (map f (chosen (flags_in kept ms) ns)))
kept_fields_sound f kept no_members rows [] sound = tt
kept_fields_sound f kept no_members rows (n ∷ ns) sound = absurd sound
kept_fields_sound f kept (member name t ms) rows [] sound = absurd sound
kept_fields_sound f kept (member name t ms) rows (n ∷ ns) sound =
    let rest : AreFields (kept_members kept ms) rows (forest_from (map f (chosen (flags_in kept ms) ns))) = kept_fields_sound f kept ms rows ns sound.2 in
    one_more_field (is_kept kept name) f name t (kept_members kept ms) rows n (chosen (flags_in kept ms) ns) (sound.0, sound.1, rest) rest

fields_count : (f : ℕ → Tree) (ms : Members) (rows : ℕ) (ns : List ℕ) → AreFields ms rows (forest_from (map f ns)) → length ns ≡ length (names_in ms)
fields_count f no_members rows [] sound = refl
fields_count f no_members rows (n ∷ ns) sound = absurd sound
fields_count f (member name t ms) rows [] sound = absurd sound
fields_count f (member name t ms) rows (n ∷ ns) sound = omega (arith, fields_count f ms rows ns sound.2)

one_more_later : (nodes : List Node) (n : ℕ) (b : Bool) (m : ℕ) (ns : List ℕ) → (n < m) × (m < length nodes) → AreLater nodes n ns → AreLater nodes n (cond b (m ∷ ns) ns)
one_more_later nodes n true m ns here later = All-cons (IsLater nodes n) m ns here later
one_more_later nodes n false m ns here later = later

chosen_later : (nodes : List Node) (n : ℕ) (flags : List Bool) (ns : List ℕ) → AreLater nodes n ns → AreLater nodes n (chosen flags ns)
chosen_later nodes n [] ns later = All-nil (IsLater nodes n)
chosen_later nodes n (flag ∷ flags) [] later = All-nil (IsLater nodes n)
chosen_later nodes n (flag ∷ flags) (m ∷ ns) later =
    one_more_later nodes n flag m (chosen flags ns) (All-head (IsLater nodes n) m ns later)
    (chosen_later nodes n flags ns (All-tail (IsLater nodes n) m ns later))

-- ---- the kept dtype

pub may_structs : (names : List (List ℕ)) (t : DataType) → MayKeep (only names) t → IsStruct t
may_structs names (struct_type ms NonNullable) may = tt
may_structs names (struct_type ms Nullable) may = absurd may
may_structs names (bool_type k) may = absurd may
may_structs names (int_type kind k) may = absurd may
may_structs names (utf8_type k) may = absurd may
may_structs names (list_type t k) may = absurd may

kept_packed : (nodes : List Node) (names : List (List ℕ)) (t : DataType) (rows : ℕ) (ns : List ℕ) (v : Option ℕ) → IsStruct t → AreFields (struct_members t) rows (trees_of nodes ns) → IsValidity (nullability_of t) rows (validity_of nodes v) → ArePacked nodes (kept_type (only names) t) rows (chosen (flags_of (only names) t) ns) v
kept_packed nodes names (struct_type ms k) rows ns v is fit valid = record { structs = tt; fields = kept_fields_sound (subtree nodes) (only names) ms rows ns fit; valid = valid }
kept_packed nodes names (bool_type k) rows ns v is fit valid = absurd is
kept_packed nodes names (int_type kind k) rows ns v is fit valid = absurd is
kept_packed nodes names (utf8_type k) rows ns v is fit valid = absurd is
kept_packed nodes names (list_type t k) rows ns v is fit valid = absurd is

-- ---- a struct node

-- what is known of it
record HasKept (nodes : List Node) (n : ℕ) (ns : List ℕ) (v : Option ℕ) (keeping : Keeping) : Type 0 where
  sound : IsSound (fields (tree_head nodes n) (trees_of nodes ns) (validity_of nodes v))
  same : chosen keeping.flags.items ns ≡ chosen (flags_of (kept_of keeping) (tree_head nodes n).dtype) ns

has_kept : (nodes : List Node) (n : ℕ) (ns : List ℕ) (v : Option ℕ) (keeping : Keeping) (table : List PlanNode) → CanLower nodes n (kept_of keeping) table → IsStructNode nodes n ns v → IsKeeping (tree_head nodes n).dtype keeping → HasKept nodes n ns v keeping
has_kept nodes n ns v keeping table can over is = record {
  sound = sound_as nodes n (fields (tree_head nodes n) (trees_of nodes ns) (validity_of nodes v)) (ns ++ given_validity v) can.tree can.known over;
  same = ap (λ (flags : List Bool). chosen flags ns) is.flags_are;
}

pub flags_count : (nodes : List Node) (n : ℕ) (ns : List ℕ) (v : Option ℕ) (keeping : Keeping) (table : List PlanNode) → CanLower nodes n (kept_of keeping) table → IsStructNode nodes n ns v → IsKeeping (tree_head nodes n).dtype keeping → length ns ≡ length keeping.flags.items
flags_count nodes n ns v keeping table can over is =
    let has : HasKept nodes n ns v keeping = has_kept nodes n ns v keeping table can over is in
    let ms : Members = struct_members (tree_head nodes n).dtype in
    omega (arith, fields_count (subtree nodes) ms (tree_head nodes n).rows ns has.sound.1, ap length is.flags_are, length-map (names_in ms) (is_kept (kept_of keeping)))

pub kept_can : (nodes : List Node) (n : ℕ) (ns : List ℕ) (v : Option ℕ) (keeping : Keeping) (table : List PlanNode) (ms : List ℕ) → CanLower nodes n (kept_of keeping) table → IsStructNode nodes n ns v → IsKeeping (tree_head nodes n).dtype keeping → ms ≡ chosen keeping.flags.items ns → CanLowerEach nodes n (ms ++ given_validity v) all table
kept_can nodes n ns v keeping table ms can over is these =
    let has : HasKept nodes n ns v keeping = has_kept nodes n ns v keeping table can over is in
    let t : Tree = fields (tree_head nodes n) (trees_of nodes ns) (validity_of nodes v) in
    let kept : KeptFields = kept_of keeping in
    let fs : Members = struct_members (tree_head nodes n).dtype in
    let picked : List ℕ = chosen (flags_of kept (tree_head nodes n).dtype) ns in
    let a : plans_size (lowered_fields fs (trees_of nodes ns) kept) ≡ list_size (lowered_each nodes all picked) = ap plans_size (kept_from (subtree nodes) kept fs (tree_head nodes n).rows ns has.sound.1) ∙ size_from (lowered_each nodes all picked) in
    let b : list_size (lowered_each nodes all (picked ++ given_validity v)) ≡ list_size (lowered_each nodes all picked) + list_size (lowered_each nodes all (given_validity v)) = ap list_size (each_append nodes all picked (given_validity v)) ∙ size_append (lowered_each nodes all picked) (lowered_each nodes all (given_validity v)) in
    let e : plan_size (lowered (subtree nodes n) kept) ≡ plan_size (lowered t kept) = ap (λ (t : Tree). plan_size (lowered t kept)) over.tree in
    let later = later_front nodes n ns (given_validity v) over.later in
    subst (λ (ms : List ℕ). CanLowerEach nodes n (ms ++ given_validity v) all table) (sym (these ∙ has.same)) (record {
      tree = can.tree;
      later = All-append (IsLater nodes n) picked (given_validity v) (chosen_later nodes n (flags_of kept (tree_head nodes n).dtype) ns later.0) later.1;
      room = omega (arith, can.room, validity_size nodes v);
      good = can.good;
    })

pub kept_are_packed : (nodes : List Node) (n : ℕ) (ns : List ℕ) (v : Option ℕ) (keeping : Keeping) (table : List PlanNode) (ms : List ℕ) (t : DataType) → CanLower nodes n (kept_of keeping) table → IsStructNode nodes n ns v → IsKeeping (tree_head nodes n).dtype keeping → ms ≡ chosen keeping.flags.items ns → t ≡ kept_type (kept_of keeping) (tree_head nodes n).dtype → ArePacked nodes t (tree_head nodes n).rows ms v
kept_are_packed nodes n ns v keeping table ms t can over is these typed =
    let has : HasKept nodes n ns v keeping = has_kept nodes n ns v keeping table can over is in
    let rows : ℕ = (tree_head nodes n).rows in
    subst (λ (ms : List ℕ). ArePacked nodes t rows ms v) (sym (these ∙ has.same))
    (subst (λ (s : DataType). ArePacked nodes s rows (chosen (flags_of (kept_of keeping) (tree_head nodes n).dtype) ns) v) (sym typed)
    (kept_packed nodes keeping.names.now (tree_head nodes n).dtype rows ns v has.sound.0 has.sound.1 has.sound.2))

pub kept_adds : (nodes : List Node) (n : ℕ) (ns : List ℕ) (v : Option ℕ) (keeping : Keeping) (old new : List PlanNode) (ms : List ℕ) (t : DataType) (k : ℕ) → CanLower nodes n (kept_of keeping) old → IsStructNode nodes n ns v → IsKeeping (tree_head nodes n).dtype keeping → ms ≡ chosen keeping.flags.items ns → t ≡ kept_type (kept_of keeping) (tree_head nodes n).dtype → ((number : ℕ) → AddsPlan old new (packed_plan nodes (record { number = number; dtype = t; rows = (tree_head nodes n).rows }) ms v) k) → AddsPlan old new (lowered (subtree nodes n) (kept_of keeping)) k
kept_adds nodes n ns v keeping old new ms t k can over is these typed adds =
    let has : HasKept nodes n ns v keeping = has_kept nodes n ns v keeping old can over is in
    let kept : KeptFields = kept_of keeping in
    let fs : Members = struct_members (tree_head nodes n).dtype in
    let picked : List ℕ = chosen (flags_of kept (tree_head nodes n).dtype) ns in
    let e : plans_from (lowered_each nodes all ms) ≡ lowered_fields fs (trees_of nodes ns) kept = ap (λ (ms : List ℕ). plans_from (lowered_each nodes all ms)) (these ∙ has.same) ∙ sym (kept_from (subtree nodes) kept fs (tree_head nodes n).rows ns has.sound.1) in
    let number : ℕ = (tree_head nodes n).number in
    let p : AddsPlan old new (packed_plan nodes (kept_head kept (tree_head nodes n)) ms v) k = subst (λ (s : DataType). AddsPlan old new (packed_plan nodes (record { number = number; dtype = s; rows = (tree_head nodes n).rows }) ms v) k) typed (adds number) in
    subst (λ (t : Tree). AddsPlan old new (lowered t kept) k) (sym over.tree)
    (subst (λ (qs : Plans). AddsPlan old new (pack_plan (kept_head kept (tree_head nodes n)) qs (lowered_validity (validity_of nodes v))) k) e p)
