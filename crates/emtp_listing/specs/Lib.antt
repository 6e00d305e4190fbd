-- what a listing is
pub mod Entry
pub mod Lines
pub mod NetworkLines
pub mod ExpressionText
pub mod ControlLines
pub mod ChannelLines
pub mod Listing
pub mod Limits
-- what two cases of the same listing have in common
pub mod Law
-- how a text grows, and what its calls hold
pub mod HeldLines
pub mod Puts
