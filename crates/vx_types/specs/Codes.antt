-- Each value of the data as a tree of numbers, one to one: what a struct's model asks of its value.
use Rattle.std.proofs.Common.{◌≡◌, ℕ, zero, suc, List, refl, sym, ap, ◌∙◌}
use base.Stored.{Gv, gnil, gnum, gcons, Coded, coded_ℕ, coded_ℤ, coded_bool, coded_list}
use Rattle.vx_types.specs.declared.dtypes.IntKind.{IntKind}
use Rattle.vx_types.specs.declared.dtypes.IntKind.TheVariants.{U8, U16, U32, U64, I8, I16, I32, I64}
use Rattle.vx_types.specs.declared.dtypes.Nullability.{Nullability}
use Rattle.vx_types.specs.declared.dtypes.Nullability.TheVariants.{NonNullable, Nullable}
use Rattle.vx_types.specs.Data.{DataType, bool_type, int_type, utf8_type, struct_type, list_type, Members, no_members, member, Datum, null, truth, number, text, structure, Items, no_items, item}
use Rattle.vx_types.specs.Columns.{ColumnData}

-- ---- numbers in place of the variants
abbrev number_of_nullability : Nullability → ℕ
number_of_nullability NonNullable = 0
number_of_nullability Nullable = 1

abbrev nullability_at : ℕ → Nullability
nullability_at zero = NonNullable
nullability_at (suc n) = Nullable

nullability_back : (n : Nullability) → nullability_at (number_of_nullability n) ≡ n
nullability_back NonNullable = refl
nullability_back Nullable = refl

nullability_same : (a b : Nullability) → number_of_nullability a ≡ number_of_nullability b → a ≡ b
nullability_same a b e = sym (nullability_back a) ∙ ap nullability_at e ∙ nullability_back b

abbrev number_of_kind : IntKind → ℕ
number_of_kind U8 = 0
number_of_kind U16 = 1
number_of_kind U32 = 2
number_of_kind U64 = 3
number_of_kind I8 = 4
number_of_kind I16 = 5
number_of_kind I32 = 6
number_of_kind I64 = 7

abbrev kind_at : ℕ → IntKind
kind_at zero = U8
kind_at (suc zero) = U16
kind_at (suc (suc zero)) = U32
kind_at (suc (suc (suc zero))) = U64
kind_at (suc (suc (suc (suc zero)))) = I8
kind_at (suc (suc (suc (suc (suc zero))))) = I16
kind_at (suc (suc (suc (suc (suc (suc zero)))))) = I32
kind_at (suc (suc (suc (suc (suc (suc (suc n))))))) = I64

int_kind_back : (k : IntKind) → kind_at (number_of_kind k) ≡ k
int_kind_back U8 = refl
int_kind_back U16 = refl
int_kind_back U32 = refl
int_kind_back U64 = refl
int_kind_back I8 = refl
int_kind_back I16 = refl
int_kind_back I32 = refl
int_kind_back I64 = refl

kind_same : (a b : IntKind) → number_of_kind a ≡ number_of_kind b → a ≡ b
kind_same a b e = sym (int_kind_back a) ∙ ap kind_at e ∙ int_kind_back b

-- a name is coded as the list of its bytes
abbrev pub coded_name : Coded (List ℕ)
coded_name = coded_list coded_ℕ

-- ---- dtypes
abbrev mutual
  code_type : DataType → Gv
  code_type (bool_type n) = gcons (gnum 0) (gnum (number_of_nullability n))
  code_type (int_type kind n) = gcons (gnum 1) (gcons (gnum (number_of_kind kind)) (gnum (number_of_nullability n)))
  code_type (utf8_type n) = gcons (gnum 2) (gnum (number_of_nullability n))
  code_type (struct_type ms n) = gcons (gnum 3) (gcons (code_members ms) (gnum (number_of_nullability n)))
  code_type (list_type t n) = gcons (gnum 4) (gcons (code_type t) (gnum (number_of_nullability n)))

  code_members : Members → Gv
  code_members no_members = gnil
  code_members (member name t ms) = gcons (coded_name.code name) (gcons (code_type t) (code_members ms))

mutual
  pub type_same : (s t : DataType) → code_type s ≡ code_type t → s ≡ t
  type_same (bool_type n) (bool_type m) e = ap bool_type (nullability_same n m cc)
  type_same (int_type k n) (int_type l m) e =
      let p : k ≡ l = kind_same k l cc in
      let q : n ≡ m = nullability_same n m cc in
      cc
  type_same (utf8_type n) (utf8_type m) e = ap utf8_type (nullability_same n m cc)
  type_same (struct_type ms n) (struct_type ns m) e =
      let p : ms ≡ ns = members_same ms ns cc in
      let q : n ≡ m = nullability_same n m cc in
      cc
  type_same (list_type s n) (list_type t m) e =
      let p : s ≡ t = type_same s t cc in
      let q : n ≡ m = nullability_same n m cc in
      cc
  type_same _ _ e = absurd cc

  pub members_same : (ms ns : Members) → code_members ms ≡ code_members ns → ms ≡ ns
  members_same no_members no_members e = refl
  members_same (member a s ms) (member b t ns) e =
      let p : a ≡ b = coded_name.inj a b cc in
      let q : s ≡ t = type_same s t cc in
      let r : ms ≡ ns = members_same ms ns cc in
      cc
  members_same _ _ e = absurd cc

abbrev pub coded_type : Coded DataType
coded_type = record { code = code_type; inj = type_same }

abbrev pub coded_members : Coded Members
coded_members = record { code = code_members; inj = members_same }

-- ---- values
abbrev mutual
  code_datum : Datum → Gv
  code_datum null = gnum 0
  code_datum (truth b) = gcons (gnum 1) (coded_bool.code b)
  code_datum (number z) = gcons (gnum 2) (coded_ℤ.code z)
  code_datum (text bytes) = gcons (gnum 3) (coded_name.code bytes)
  code_datum (structure vs) = gcons (gnum 4) (code_items vs)

  code_items : Items → Gv
  code_items no_items = gnil
  code_items (item v vs) = gcons (code_datum v) (code_items vs)

mutual
  pub datum_same : (v w : Datum) → code_datum v ≡ code_datum w → v ≡ w
  datum_same null null e = refl
  datum_same (truth a) (truth b) e = ap truth (coded_bool.inj a b cc)
  datum_same (number y) (number z) e = ap number (coded_ℤ.inj y z cc)
  datum_same (text a) (text b) e = ap text (coded_name.inj a b cc)
  datum_same (structure vs) (structure ws) e = ap structure (items_same vs ws cc)
  datum_same _ _ e = absurd cc

  pub items_same : (vs ws : Items) → code_items vs ≡ code_items ws → vs ≡ ws
  items_same no_items no_items e = refl
  items_same (item v vs) (item w ws) e =
      let p : v ≡ w = datum_same v w cc in
      let q : vs ≡ ws = items_same vs ws cc in
      cc
  items_same _ _ e = absurd cc

abbrev pub coded_items : Coded Items
coded_items = record { code = code_items; inj = items_same }

abbrev pub coded_datum : Coded Datum
coded_datum = record { code = code_datum; inj = datum_same }

-- ---- columns
abbrev coded_values : Coded (List Datum)
coded_values = coded_list coded_datum

abbrev code_column : ColumnData → Gv
code_column a = gcons (code_type a.dtype) (coded_values.code a.values)

pub data_same : (a b : ColumnData) → code_column a ≡ code_column b → a ≡ b
data_same a b e =
    let p : a.dtype ≡ b.dtype = type_same a.dtype b.dtype cc in
    let q : a.values ≡ b.values = coded_values.inj a.values b.values cc in
    λ i. record { dtype = p i; values = q i }

abbrev pub coded_column : Coded ColumnData
coded_column = record { code = code_column; inj = data_same }
