pub mod Explanation
pub mod Given
pub mod Growing
pub mod Sample
pub mod Text
