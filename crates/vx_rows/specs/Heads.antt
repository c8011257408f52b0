-- What a tree or a plan knows of its node.
use Rattle.std.specs.Prelude.{ℕ}
use Rattle.vx_base.specs.Data.{DataType}

-- the number in the list or the table, the dtype and the rows
pub record Head : Type 0 where
  pub number : ℕ
  pub dtype : DataType
  pub rows : ℕ
