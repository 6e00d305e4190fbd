-- what is warned of
pub mod Finding
pub mod Marked
pub mod ColumnWarnings
pub mod ActingWarnings
pub mod ArresterWarnings
pub mod RecordWarnings
pub mod ChannelWarnings
pub mod Warnings
pub mod WarningText
-- what lines have in common that agree under a ruler
pub mod Law
-- how a list grows
pub mod AddsTo
