pub mod ScriptTurns
mod Tickets
