-- what the clauses of the program say
pub mod RunData
pub mod Sums
pub mod Branch
pub mod Switch
pub mod Source
pub mod Control
pub mod Channel
pub mod HistoryValues
pub mod Case
pub mod ChannelName
pub mod StepRecord
pub mod RowOrder
pub mod NodeRows
pub mod EndNames
-- what values hold for their proofs
pub mod held
