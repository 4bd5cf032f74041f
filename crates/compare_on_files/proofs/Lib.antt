mod Faults
mod Lines
mod Splits
mod Standing
mod Stepping
