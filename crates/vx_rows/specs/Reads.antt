-- What a row reads: rows of leaves, codes of dictionaries, and rows of lists, in order. A row reads what is
-- itself first; then fields before their validity, and a code before the values.
use Rattle.std.specs.Prelude.{◌≡◌, ℕ, ◌<◌, ◌⊎◌, pos, List, [], ◌∷◌, ◌++◌, map, None, IfSome, IsSome, IsSomeAnd}
use Rattle.std.specs.List.{AllByRecursion}
use Rattle.vx_base.specs.Data.{Datum, null, number}
use Rattle.vx_rows.specs.Derivations.{LeafRow, Derivation, nothing, of_leaf, list_row, given, packed, valid_where, looked_up, worked_out, read_whole, concluded, Derivations, no_more, also, derivation_count, Leaves, derived}

-- how a read is come to: directly, or through the values of an outermost dictionary of that number
pub data Way : Type 0 where
  directly : Way
  through : ℕ → Way

-- the way of what the values of a dictionary read: the outermost dictionary stays
abbrev pub inside : ℕ → Way → Way
inside dictionary directly = through dictionary
inside dictionary (through outermost) = through outermost

-- the code of a row of a dictionary of that number, among so many values
pub record CodeRow : Type 0 where
  pub dictionary : ℕ
  pub row : ℕ
  pub code : Derivation
  pub count : ℕ

pub data Found : Type 0 where
  a_leaf_row : LeafRow → Found
  a_code : CodeRow → Found
  a_list_row : ℕ → ℕ → Found

pub record Read : Type 0 where
  pub way : Way
  pub found : Found

abbrev pub code_row : ℕ → ℕ → Derivation → Derivations → CodeRow
code_row dictionary row code values = record { dictionary = dictionary; row = row; code = code; count = derivation_count values }

abbrev pub read_by : Way → Found → Read
read_by way found = record { way = way; found = found }

abbrev mutual
  pub reads_of : Way → Derivation → List Read
  reads_of way nothing = []
  reads_of way (of_leaf at) = read_by way (a_leaf_row at) ∷ []
  reads_of way (list_row list row) = read_by way (a_list_row list row) ∷ []
  reads_of way (given v) = []
  reads_of way (packed ds) = reads_of_each way ds
  reads_of way (valid_where d validity) = reads_of way d ++ reads_of way validity
  reads_of way (looked_up dictionary row code values) =
      read_by way (a_code (code_row dictionary row code values))
      ∷ (reads_of way code ++ reads_of_each (inside dictionary way) values)
  reads_of way (worked_out t e d) = reads_of way d
  reads_of way (read_whole share row d ds) = reads_of way d ++ reads_of_each way ds
  reads_of way (concluded rule ds) = reads_of_each way ds

  pub reads_of_each : Way → Derivations → List Read
  reads_of_each way no_more = []
  reads_of_each way (also d ds) = reads_of way d ++ reads_of_each way ds

-- ---- what is asked of reads

-- P of some element
abbrev pub AnyOf : {X : Type 0} → (X → Type 0) → List X → Type 0
AnyOf P [] = ⊥
AnyOf P (x ∷ xs) = P x ⊎ AnyOf P xs

abbrev pub IsAmong : {X : Type 0} → X → List X → Type 0
IsAmong x xs = AnyOf (λ other. other ≡ x) xs

-- each of these is one of those
abbrev pub AreAmong : {X : Type 0} → List X → List X → Type 0
AreAmong {X} ones others = (x : X) → IsAmong x ones → IsAmong x others

-- P of what some read found, wherever
abbrev pub Finds : (Found → Type 0) → List Read → Type 0
Finds P reads = AnyOf (λ read. P read.found) reads

-- the same, come to this way
abbrev pub FindsBy : Way → (Found → Type 0) → List Read → Type 0
FindsBy way P reads = AnyOf (λ read. (read.way ≡ way) × P read.found) reads

-- what is found, however it is come to
abbrev pub found_in : List Read → List Found
found_in reads = map (λ read. read.found) reads

-- P of what each read found
abbrev pub FindsOnly : (Found → Type 0) → List Read → Type 0
FindsOnly P reads = AllByRecursion (λ read. P read.found) reads

-- each of them is come to this way
abbrev pub AreComeToBy : Way → List Read → Type 0
AreComeToBy way reads = AllByRecursion (λ read. read.way ≡ way) reads

-- the row of the leaf is read, and come to this way
abbrev pub ReadsLeafRow : Way → LeafRow → List Read → Type 0
ReadsLeafRow way at reads = FindsBy way (λ found. found ≡ a_leaf_row at) reads

-- a row of a leaf whose values lie in the segment
abbrev pub IsIn : ℕ → Found → Type 0
IsIn segment (a_leaf_row at) = at.segment ≡ segment
IsIn segment found = ⊥

abbrev pub IsListRow : Found → Type 0
IsListRow (a_list_row list row) = Unit {0}
IsListRow found = ⊥

-- a code of the dictionary of that number
abbrev pub IsCodeOf : ℕ → Found → Type 0
IsCodeOf dictionary (a_code at) = at.dictionary ≡ dictionary
IsCodeOf dictionary found = ⊥

-- ---- faults in what is read

-- a code is null or the place of a value
abbrev pub IsPlaceAmong : ℕ → Datum → Type 0
IsPlaceAmong count null = Unit {0}
IsPlaceAmong count (number (pos place)) = place < count
IsPlaceAmong count code = ⊥

-- a code that is there, and is neither null nor the place of a value
abbrev pub IsBadCode : Leaves → Found → Type 0
IsBadCode leaves (a_code at) = IsSomeAnd (derived leaves at.code) (λ code. ¬ (IsPlaceAmong at.count code))
IsBadCode leaves found = ⊥

-- a leaf has no values: its segment has no bytes, or they spell none
abbrev pub LacksValues : Leaves → Found → Type 0
LacksValues leaves (a_leaf_row at) = leaves at.dtype at.coding at.rows at.segment ≡ None
LacksValues leaves found = ⊥

-- A read that makes the row a fault.
abbrev pub IsFaulty : Leaves → Found → Type 0
IsFaulty leaves found = LacksValues leaves found ⊎ (IsBadCode leaves found ⊎ IsListRow found)

-- A read that is as it should be: the leaf has values, the code is null or the place of a value, and no row
-- of a list is read. Of a code that is a fault the cell that it lacks is read besides.
abbrev pub IsFine : Leaves → Found → Type 0
IsFine leaves (a_leaf_row at) = IsSome (leaves at.dtype at.coding at.rows at.segment)
IsFine leaves (a_code at) = IfSome (derived leaves at.code) (IsPlaceAmong at.count)
IsFine leaves (a_list_row list row) = ⊥
