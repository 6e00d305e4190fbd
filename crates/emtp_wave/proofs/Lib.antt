pub mod Callers
pub mod Shapes
pub mod Reduced
pub mod Circle
pub mod Symmetry
pub mod Worked
