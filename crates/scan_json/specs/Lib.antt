pub mod Forms
pub mod Members
pub mod Reading
pub mod Singles
