-- what is told of a file
pub mod EachCard
pub mod RunCards
pub mod CopyCards
pub mod ChannelCards
pub mod Telling
-- and what the words ask for, and how a call ends that tells it
pub mod Asking
pub mod Showing
pub mod Growing
pub mod CaseAgain
pub mod AfterRun
pub mod Inspecting
