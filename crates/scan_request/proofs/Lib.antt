mod DtypeForms
mod ExpressionMembers
mod ExpressionReads
mod FixedLists
mod JsonForms
mod NodeMembers
mod NodeTold
pub mod OneRequest
mod OtherKinds
mod RequestForms
mod RequestMembers
mod RequestTold
mod RowForms
