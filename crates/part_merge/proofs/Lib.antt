pub mod Sorting
mod Copying
mod Moving
mod CopiedRecords
mod Lining
mod Ending
mod Finishing
mod Merging
pub mod Missing
mod WholeTexts
pub mod Blaming
mod Handing
mod Numbering
mod Waits
