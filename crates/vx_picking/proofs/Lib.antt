pub mod SelectedRows
pub mod PickedValues
pub mod MaskRanges
