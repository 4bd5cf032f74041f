mod Comparing
mod Doubling
mod Ordering
mod Printing
mod Shifting
