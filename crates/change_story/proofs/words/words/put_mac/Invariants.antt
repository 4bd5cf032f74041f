use Rattle.std.proofs.Common.{◌≡◌, ◌++◌, drop}
use Rattle.std.specs.String.{string_bytes}
use Rattle.change_story.specs.Words.{behind_colons, mac_text}
use Rattle.change_story.proofs.words.words.put_mac.Given as goal

-- with what is left put too, it is all
abbrev pub invariant-loop-octet : goal.invariant-loop-octet
invariant-loop-octet l = string_bytes l.text ++ behind_colons (drop l.octet-index l.rest) ≡ string_bytes l.fn.text ++ mac_text l.octets
