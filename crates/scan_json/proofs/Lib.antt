pub mod ListTurns
pub mod Names
pub mod ObjectTurns
pub mod Parts
pub mod Singles
pub mod Steps
pub mod Tails
pub mod Turns
