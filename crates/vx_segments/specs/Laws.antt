-- What holds of spellings and of reading, whatever the bytes.
use Rattle.std.specs.Prelude.{◌≡◌, ℕ, List, length, Some}
use Rattle.std.specs.List.{AllByRecursion}
use Rattle.vx_types.specs.Data.{DataType, Datum}
use Rattle.vx_types.specs.Fits.{Fits}
use Rattle.vx_types.specs.Leaf.{IsLeaf}
use Rattle.vx_types.specs.Slots.{IsShort}
use Rattle.vx_segments.specs.Segment.{Spells, spelling}
use Rattle.vx_segments.specs.Reading.{decoded}
use Rattle.vx_segments.specs.Codings.{SpellsAs}
use Rattle.vx_segments.specs.CodingsRead.{decoded_as}
use Rattle.vx_segments.specs.declared.codings.Coding.{Coding}

-- the values of a dtype have one spelling at most
abbrev pub HasOneSpelling : Type 0
HasOneSpelling = (t : DataType) (rows : ℕ) (values : List Datum) (a b : List ℕ) → Spells t rows a values → Spells t rows b values → a ≡ b

-- bytes spell one list of values at most
abbrev pub HasOneMeaning : DataType → Type 0
HasOneMeaning t = (rows : ℕ) (bytes : List ℕ) (v w : List Datum) → Spells t rows bytes v → Spells t rows bytes w → v ≡ w

-- what is read from bytes is what they spell
abbrev pub ReadsSpelled : Type 0
ReadsSpelled = (t : DataType) (rows : ℕ) (bytes : List ℕ) (values : List Datum) → decoded t rows bytes ≡ Some values → Spells t rows bytes values

-- what bytes spell is read from them
abbrev pub SpelledIsRead : DataType → Type 0
SpelledIsRead t = (rows : ℕ) (bytes : List ℕ) (values : List Datum) → Spells t rows bytes values → decoded t rows bytes ≡ Some values

-- these two of each leaf dtype
abbrev pub LeavesHaveOneMeaning : Type 0
LeavesHaveOneMeaning = (t : DataType) → IsLeaf t → HasOneMeaning t

abbrev pub SpelledLeavesAreRead : Type 0
SpelledLeavesAreRead = (t : DataType) → IsLeaf t → SpelledIsRead t

-- the values of a leaf dtype are read from their spelling
abbrev pub EncodingIsUndone : Type 0
EncodingIsUndone = (t : DataType) → IsLeaf t → (values : List Datum) (bytes : List ℕ) → AllByRecursion (Fits t) values → AllByRecursion IsShort values → spelling t values ≡ Some bytes → decoded t (length values) bytes ≡ Some values

-- ---- in each coding

-- the values of a dtype have one spelling at most
abbrev pub CodingsHaveOneSpelling : Type 0
CodingsHaveOneSpelling = (coding : Coding) (t : DataType) (rows : ℕ) (values : List Datum) (a b : List ℕ) → SpellsAs coding t rows a values → SpellsAs coding t rows b values → a ≡ b

-- bytes spell one list of values of a leaf dtype at most
abbrev pub CodingsHaveOneMeaning : Type 0
CodingsHaveOneMeaning = (coding : Coding) (t : DataType) → IsLeaf t → (rows : ℕ) (bytes : List ℕ) (v w : List Datum) → SpellsAs coding t rows bytes v → SpellsAs coding t rows bytes w → v ≡ w

-- what is read from bytes is what they spell
abbrev pub CodingsReadSpelled : Type 0
CodingsReadSpelled = (coding : Coding) (t : DataType) (rows : ℕ) (bytes : List ℕ) (values : List Datum) → decoded_as coding t rows bytes ≡ Some values → SpellsAs coding t rows bytes values

-- what bytes spell of a leaf dtype is read from them
abbrev pub SpelledCodingsAreRead : Type 0
SpelledCodingsAreRead = (coding : Coding) (t : DataType) → IsLeaf t → (rows : ℕ) (bytes : List ℕ) (values : List Datum) → SpellsAs coding t rows bytes values → decoded_as coding t rows bytes ≡ Some values
