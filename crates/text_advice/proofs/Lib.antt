mod Splits
mod Tables
mod Texts
