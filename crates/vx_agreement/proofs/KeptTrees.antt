-- Where a row of a tree has a value it has one without the fields that aren't kept, and both have the same kept fields.
use Rattle.std.proofs.Common.{◌≡◌, ℕ, ◌-◌, ltb, inl, inr, Bool, true, false, cond, List, [], ◌∷◌, Option, Some, None, refl, sym, ap, subst}
use Rattle.std.specs.Prelude.{option_map}
use Rattle.vx_base.specs.Data.{DataType, Members, no_members, member, Datum, null, truth, number, text, structure}
use Rattle.vx_base.specs.ValueViews.{items_from}
use Rattle.vx_expr.specs.Packs.{struct_row}
use Rattle.vx_expr.specs.Types.{on_both}
use Rattle.vx_layout.specs.Kept.{KeptFields, all, only, is_kept}
use Rattle.vx_layout.specs.Rows.{struct_members, derivation, derivation_in, field_derivations, where_valid_by}
use Rattle.vx_layout.specs.Sound.{IsSound, AreChunks}
use Rattle.vx_layout.specs.Trees.{Tree, missing, leaf, chunks, fields, dict, lists, zoned, Forest, no_trees, tree, Validity, always, valid_by, head_of}
use Rattle.vx_rows.specs.Derivations.{Derivation, packed, Leaves, derived, derived_each, one_more, valid_value, where_valid}
use Rattle.vx_agreement.proofs.SameFields.{AreAlike, SameKept}

-- the row has a value, which is like the other
pub record HasAlike (leaves : Leaves) (d : Derivation) (kept : KeptFields) (t : DataType) (w : Datum) : Type 0 where
  pub value : Datum
  pub is : derived leaves d ≡ Some value
  pub alike : AreAlike kept t value w

-- ---- the fields of a struct

record HaveSame (leaves : Leaves) (ms : Members) (forest : Forest) (kept : KeptFields) (row : ℕ) (ws : List Datum) : Type 0 where
  us : List Datum
  is : derived_each leaves (field_derivations ms forest kept row) ≡ Some us
  same : SameKept kept ms (items_from us) (items_from ws)

-- one field more in front
field_first : (b : Bool) (leaves : Leaves) (name : List ℕ) (t : DataType) (ms : Members) (first : Tree) (rest : Forest) (kept : KeptFields) (row : ℕ) (v : Datum) (vs : List Datum) → is_kept kept name ≡ b → derived leaves (derivation first all row) ≡ Some v → HaveSame leaves ms rest kept row vs → HaveSame leaves (member name t ms) (tree first rest) kept row (v ∷ vs)
field_first true leaves name t ms first rest kept row v vs is here more = record { us = v ∷ more.us; is = rw (is, here, more.is) refl; same = (λ h. refl, more.same) }
field_first false leaves name t ms first rest kept row v vs is here more = record { us = null ∷ more.us; is = rw (is, more.is) refl; same = (λ h. absurd cc, more.same) }

fields_by : (leaves : Leaves) (name : List ℕ) (t : DataType) (ms : Members) (first : Tree) (rest : Forest) (kept : KeptFields) (row : ℕ) (ws : List Datum) (o : Option Datum) → derived leaves (derivation first all row) ≡ o → (os : Option (List Datum)) → ((vs : List Datum) → os ≡ Some vs → HaveSame leaves ms rest kept row vs) → on_both one_more o os ≡ Some ws → HaveSame leaves (member name t ms) (tree first rest) kept row ws
fields_by leaves name t ms first rest kept row ws None here os below is = absurd cc
fields_by leaves name t ms first rest kept row ws (Some v) here None below is = absurd cc
fields_by leaves name t ms first rest kept row ws (Some v) here (Some vs) below is =
    let same : v ∷ vs ≡ ws = cc in
    subst (HaveSame leaves (member name t ms) (tree first rest) kept row) same (field_first (is_kept kept name) leaves name t ms first rest kept row v vs refl here (below vs refl))

fields_alike : (leaves : Leaves) (ms : Members) (forest : Forest) (kept : KeptFields) (row : ℕ) (ws : List Datum) → derived_each leaves (field_derivations ms forest all row) ≡ Some ws → HaveSame leaves ms forest kept row ws
fields_alike leaves no_members forest kept row ws is = record { us = []; is = refl; same = tt }
fields_alike leaves (member name t ms) no_trees kept row ws is = absurd cc
fields_alike leaves (member name t ms) (tree first rest) kept row ws is =
    fields_by leaves name t ms first rest kept row ws (derived leaves (derivation first all row)) refl (derived_each leaves (field_derivations ms rest all row)) (λ vs more. fields_alike leaves ms rest kept row vs more) is

packed_alike : (leaves : Leaves) (t : DataType) (forest : Forest) (names : List (List ℕ)) (row : ℕ) (w : Datum) → derived leaves (packed (field_derivations (struct_members t) forest all row)) ≡ Some w → HasAlike leaves (packed (field_derivations (struct_members t) forest (only names) row)) (only names) t w
packed_alike leaves t forest names row w is = by (derived_each leaves (field_derivations (struct_members t) forest all row)) refl is
  where
    by : (os : Option (List Datum)) → derived_each leaves (field_derivations (struct_members t) forest all row) ≡ os → option_map struct_row os ≡ Some w → HasAlike leaves (packed (field_derivations (struct_members t) forest (only names) row)) (only names) t w
    by None each is = absurd cc
    by (Some ws) each is =
        let made : struct_row ws ≡ w = cc in
        let have = fields_alike leaves (struct_members t) forest (only names) row ws each in
        record {
          value = struct_row have.us;
          is = ap (option_map struct_row) have.is;
          alike = inr (record { us = items_from have.us; ws = items_from ws; v_is = refl; w_is = sym made; same = have.same });
        }

-- ---- the validity of a struct

null_alike : (names : List (List ℕ)) (t : DataType) (v w validity : Datum) → AreAlike (only names) t v w → AreAlike (only names) t (valid_value v validity) (valid_value w validity)
null_alike names t v w (truth false) alike = inl refl
null_alike names t v w (truth true) alike = alike
null_alike names t v w null alike = alike
null_alike names t v w (number z) alike = alike
null_alike names t v w (text bytes) alike = alike
null_alike names t v w (structure vs) alike = alike

valid_alike : (leaves : Leaves) (validity : Validity) (row : ℕ) (whole kept : Derivation) (names : List (List ℕ)) (t : DataType) (w : Datum) → ((u : Datum) → derived leaves whole ≡ Some u → HasAlike leaves kept (only names) t u) → derived leaves (where_valid_by validity row whole) ≡ Some w → HasAlike leaves (where_valid_by validity row kept) (only names) t w
valid_alike leaves always row whole kept names t w below is = below w is
valid_alike leaves (valid_by validity) row whole kept names t w below is = by (derived leaves whole) refl (derived leaves (derivation validity all row)) refl is
  where
    by : (o : Option Datum) → derived leaves whole ≡ o → (p : Option Datum) → derived leaves (derivation validity all row) ≡ p → on_both where_valid o p ≡ Some w → HasAlike leaves (where_valid_by (valid_by validity) row kept) (only names) t w
    by None here p valid is = absurd cc
    by (Some u) here None valid is = absurd cc
    by (Some u) here (Some v) valid is =
        let made : valid_value u v ≡ w = cc in
        let h = below u here in
        subst (HasAlike leaves (where_valid_by (valid_by validity) row kept) (only names) t) made
        (record { value = valid_value h.value v; is = rw (h.is, valid) refl; alike = null_alike names t h.value u v h.alike })

-- ---- trees

choose : (leaves : Leaves) (b : Bool) (here later kept_here kept_later : Derivation) (kept : KeptFields) (t : DataType) (w : Datum) → (derived leaves here ≡ Some w → HasAlike leaves kept_here kept t w) → (derived leaves later ≡ Some w → HasAlike leaves kept_later kept t w) → derived leaves (cond b here later) ≡ Some w → HasAlike leaves (cond b kept_here kept_later) kept t w
choose leaves true here later kept_here kept_later kept t w one other is = one is
choose leaves false here later kept_here kept_later kept t w one other is = other is

mutual
  tree_alike : (leaves : Leaves) (names : List (List ℕ)) (t : Tree) (s : DataType) (row : ℕ) (w : Datum) → IsSound t → (head_of t).dtype ≡ s → derived leaves (derivation t all row) ≡ Some w → HasAlike leaves (derivation t (only names) row) (only names) s w
  tree_alike leaves names (missing head) s row w sound typed is = absurd sound
  tree_alike leaves names (leaf head segment coding) s row w sound typed is = record { value = w; is = is; alike = inl refl }
  tree_alike leaves names (chunks head forest) s row w sound typed is = forest_alike leaves names forest s row w (subst (λ (t : DataType). AreChunks t forest) typed sound.0) is
  tree_alike leaves names (fields head forest validity) s row w sound typed is =
      subst (λ (t : DataType). HasAlike leaves (derivation (fields head forest validity) (only names) row) (only names) t w) typed
      (valid_alike leaves validity row (packed (field_derivations (struct_members head.dtype) forest all row)) (packed (field_derivations (struct_members head.dtype) forest (only names) row)) names head.dtype w
      (λ u here. packed_alike leaves head.dtype forest names row u here) is)
  tree_alike leaves names (dict head values codes) s row w sound typed is = record { value = w; is = is; alike = inl refl }
  tree_alike leaves names (lists head elements offsets validity) s row w sound typed is = record { value = w; is = is; alike = inl refl }
  tree_alike leaves names (zoned head zones content table) s row w sound typed is =
      let same : (head_of content).dtype ≡ s = subst (λ (t : DataType). (head_of content).dtype ≡ t) typed sound.1.dtype in
      tree_alike leaves names content s row w sound.0 same is

  forest_alike : (leaves : Leaves) (names : List (List ℕ)) (forest : Forest) (s : DataType) (row : ℕ) (w : Datum) → AreChunks s forest → derived leaves (derivation_in forest all row) ≡ Some w → HasAlike leaves (derivation_in forest (only names) row) (only names) s w
  forest_alike leaves names no_trees s row w are is = absurd cc
  forest_alike leaves names (tree first rest) s row w are is =
      choose leaves (ltb row (head_of first).rows) (derivation first all row) (derivation_in rest all (row - (head_of first).rows)) (derivation first (only names) row) (derivation_in rest (only names) (row - (head_of first).rows)) (only names) s w
      (λ here. tree_alike leaves names first s row w are.0 are.1 here)
      (λ later. forest_alike leaves names rest s (row - (head_of first).rows) w are.2 later)
      is

-- a row's value, whichever fields are kept
pub kept_alike : (leaves : Leaves) (kept : KeptFields) (t : Tree) (row : ℕ) (w : Datum) → IsSound t → derived leaves (derivation t all row) ≡ Some w → HasAlike leaves (derivation t kept row) kept (head_of t).dtype w
kept_alike leaves all t row w sound is = record { value = w; is = is; alike = refl }
kept_alike leaves (only names) t row w sound is = tree_alike leaves names t (head_of t).dtype row w sound refl is
