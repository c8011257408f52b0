mod Behind
mod ClearedRuns
mod Computing
mod Continuing
pub mod Distinct
mod FewApart
mod Gathering
mod HandingOut
mod JoinedRuns
pub mod Lasting
mod Resulting
mod RunEnds
mod Running
mod SessionRuns
pub mod Sessions
mod Stepping
