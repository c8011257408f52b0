pub mod Bits
mod ChosenRows
mod CodedRows
mod CodedSegments
pub mod CodedValues
pub mod CodingsRead
pub mod Decoded
mod DecodedNumbers
mod DecodedTexts
mod EncodedSegments
mod KindNumbers
pub mod Leaves
mod Lengths
mod NumberRows
mod OneRuns
mod RangeRows
mod ReadBits
mod RunSizes
mod SameLeaves
pub mod Spelled
mod StillBytes
mod TextEnds
mod TextRows
mod TruthBits
mod ValidityBits
mod ZeroSlots
