-- Dtypes and values as plain data, whatever memory they lie in.
use Rattle.std.specs.Prelude.{ℕ, ℤ, Bool, List}
use Rattle.vx_types.specs.declared.dtypes.IntKind.{IntKind}
use Rattle.vx_types.specs.declared.dtypes.Nullability.{Nullability}

-- A struct's fields are its members, in order; a name is the bytes of a text.
mutual
  pub data DataType : Type 0 where
    bool_type : Nullability → DataType
    int_type : IntKind → Nullability → DataType
    utf8_type : Nullability → DataType
    struct_type : Members → Nullability → DataType
    list_type : DataType → Nullability → DataType

  pub data Members : Type 0 where
    no_members : Members
    member : List ℕ → DataType → Members → Members

-- A struct's value has one item for each of its fields, in order.
mutual
  pub data Datum : Type 0 where
    null : Datum
    truth : Bool → Datum
    number : ℤ → Datum
    text : List ℕ → Datum
    structure : Items → Datum

  pub data Items : Type 0 where
    no_items : Items
    item : Datum → Items → Items
