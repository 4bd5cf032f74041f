-- A text as a TOML document, which is in UTF-8 (TOML 1.1.0, "Spec").
use Rattle.std.specs.Prelude.{ℕ, if◌then◌else◌, List, Option, Some, None, Ok, Err}
use Rattle.std.specs.Str.{is_utf8}
use Rattle.toml.specs.Data.{Members}
use Rattle.toml.specs.Parse.{parse_document}
use Rattle.config_text.specs.declared.fault.SettingsFault.TheVariants.{NotToml}
use Rattle.config_text.specs.Fault.{Meaning}

-- the table of a document, or that it is none
abbrev pub read_members : Option Members → Meaning Members
read_members None = Err NotToml
read_members (Some members) = Ok members

-- the top table of a document; a text that isn't in UTF-8 is none
abbrev pub document : List ℕ → Meaning Members
document text = if is_utf8 text then read_members (parse_document text) else Err NotToml
