pub mod SampleRows
pub mod Rows
pub mod Histories
pub mod Sampling
pub mod Joining
pub mod Machines
pub mod Ticks
pub mod Chains
pub mod SampleRecords
pub mod RecordRanges
mod Reading
