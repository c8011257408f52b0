-- The printed form of dtypes, as bytes.
use Rattle.std.specs.Prelude.{codes, ℕ, zero, suc, List, [], ◌++◌}
use Rattle.vx_types.specs.declared.dtypes.IntKind.{IntKind}
use Rattle.vx_types.specs.declared.dtypes.IntKind.TheVariants.{U8, U16, U32, U64, I8, I16, I32, I64}
use Rattle.vx_types.specs.declared.dtypes.Nullability.{Nullability}
use Rattle.vx_types.specs.declared.dtypes.Nullability.TheVariants.{NonNullable, Nullable}
use Rattle.vx_types.specs.Data.{DataType, bool_type, int_type, utf8_type, struct_type, list_type, Members, no_members, member}

-- the name of a kind
abbrev pub kind_text : IntKind → List ℕ
kind_text U8 = codes "u8"
kind_text U16 = codes "u16"
kind_text U32 = codes "u32"
kind_text U64 = codes "u64"
kind_text I8 = codes "i8"
kind_text I16 = codes "i16"
kind_text I32 = codes "i32"
kind_text I64 = codes "i64"

-- a question mark where nulls are taken
abbrev pub null_mark : Nullability → List ℕ
null_mark NonNullable = []
null_mark Nullable = codes "?"

-- a comma and a space before each member but the first
abbrev pub separator : ℕ → List ℕ
separator zero = []
separator (suc place) = codes ", "

-- the name of a leaf, members in braces, an element in parentheses
abbrev mutual
  pub type_text : DataType → List ℕ
  type_text (bool_type n) = codes "bool" ++ null_mark n
  type_text (int_type kind n) = kind_text kind ++ null_mark n
  type_text (utf8_type n) = codes "utf8" ++ null_mark n
  type_text (struct_type ms n) = codes "{" ++ (members_text ms ++ (codes "}" ++ null_mark n))
  type_text (list_type t n) = codes "list(" ++ (type_text t ++ (codes ")" ++ null_mark n))

  -- each name, an equals sign and the dtype, with a comma and a space between two members
  pub members_text : Members → List ℕ
  members_text no_members = []
  members_text (member name t ms) = name ++ (codes "=" ++ (type_text t ++ more_text ms))

  pub more_text : Members → List ℕ
  more_text no_members = []
  more_text (member name t ms) = codes ", " ++ (name ++ (codes "=" ++ (type_text t ++ more_text ms)))
