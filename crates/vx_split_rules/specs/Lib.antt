pub use Rattle.vx_splits.specs.Limits
pub mod Splits
pub mod Rules
