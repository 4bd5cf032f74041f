use Rattle.std.proofs.Common.{◌≡◌, ◌∙◌, List, [], ℕ, false, Option, Some, ap, subst}
use Rattle.std.proofs.lemmas.Fmt.{hex_byte}
use Rattle.std.specs.Fmt.{DisplaysOnOk, format_spec, padded_integral, styled_digits_output}
use Rattle.std.specs.Option.{option_map}
use Rattle.capture_compare.specs.Words.{hex_octet}
use Rattle.capture_compare.proofs.lonely.words.OctetWordDisplay.fmt.Goals as goal

-- what is printed of an octet
abbrev printed : List ℕ → List ℕ
printed digits = padded_integral (format_spec 32 0 4 2 18446744073709551615) false [] digits

pub returns-clause-writes : goal.returns-clause-writes
returns-clause-writes g c =
    let is : styled_digits_output c.in_radix.result c.laid_out.result ≡ Some (hex_octet c.args.self.now.0) =
    ap (λ s. styled_digits_output c.in_radix.result s) c.laid_out.ensures ∙ ap (option_map printed) c.in_radix.ensures
    ∙ ap Some (hex_byte false c.octet-octet.result c.octet-octet.ensures.small) ∙ ap (λ n. Some (hex_octet n)) c.octet-octet.ensures.value in
    subst (λ (o : Option (List ℕ)). DisplaysOnOk g.W.Write.write_str_gives c.args.f.now c.write.result o c.write.new.self) is c.write.ensures.writes
