mod ArrayRanges
mod ArrayRows
pub mod BufferRows
pub mod CutTexts
pub mod Fronts
pub mod HeldRows
mod JoinedArrays
pub mod LookedUp
pub mod MappedRows
mod MovedTexts
pub mod NullSlots
pub mod PackedArrays
pub mod PackedRows
mod PickedRows
pub mod SameRows
mod SharedArrays
mod SpelledNumbers
pub mod TextBounds
mod TextRows
pub mod ValidRows
pub mod ValueRows
mod ViewedArrays
pub mod WrittenRows
