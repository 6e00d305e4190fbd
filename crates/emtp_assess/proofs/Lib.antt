mod Lines
mod Ranging
mod Stepping
