use Rattle.std.proofs.Common.{◌≡◌, ◌∙◌, ap, sym, refl, ℕ, List, Err}
use Rattle.std.proofs.lemmas.Bool.{false_from_ne_true}
use Rattle.std.proofs.lemmas.Str.{IsUtf8-from_is_utf8, is_utf8-from_IsUtf8}
use Rattle.std.specs.Str.{IsUtf8, is_utf8}
use Rattle.toml.specs.Parse.{parse_document}
use Rattle.config_text.specs.declared.fault.SettingsFault.TheVariants.{NotToml}
use Rattle.overlay_config.specs.Document.{document, read_members}
use Rattle.overlay_config.proofs.document.read_document.Goals as goal

document_of_text : (text : List ℕ) → IsUtf8 text → document text ≡ read_members (parse_document text)
document_of_text text h = rw (is_utf8-from_IsUtf8 text h) refl

no_document : (text : List ℕ) → (IsUtf8 text → ⊥) → document text ≡ Err NotToml
no_document text h = rw (false_from_ne_true (is_utf8 text) (λ e. h (IsUtf8-from_is_utf8 text e))) refl

pub returns-in_default : goal.returns-in_default
returns-in_default c = no_document c.args.text.now c.in_default.ensures.cases.0

pub returns-in-Ok-table_from_str : goal.returns-in-Ok-table_from_str
returns-in-Ok-table_from_str c =
    document_of_text c.args.text.now c.in-Ok.ensures.cases.1
    ∙ ap read_members (ap parse_document (sym c.in-Ok.ensures.cases.0) ∙ c.in-Ok-table_from_str.ensures.ok)
