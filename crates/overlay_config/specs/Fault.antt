-- What a text means, or its first fault: the words that this crate's clauses cite, which config_text has.
pub use Rattle.config_text.specs.Fault.{Meaning, Gives, GivesAs}
