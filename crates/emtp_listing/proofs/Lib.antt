-- the body: a text to which pieces are put
pub mod Chains
pub mod Loops
-- the law: texts are cut at marks
pub mod Cut
pub mod Numbers
pub mod Marks
pub mod Entries
pub mod Words
pub mod Lists
-- and records are known by their lines
pub mod Branches
pub mod Points
pub mod Characteristics
pub mod Trios
pub mod Switches
pub mod Shapes
pub mod Sources
pub mod Blocks
pub mod Trees
pub mod TreeTexts
pub mod Expressions
pub mod Devices
pub mod Channels
pub mod Heads
pub mod Same
