use Rattle.std.proofs.Common.{◌≡◌, ◌∙◌, List, [], ℕ, false, Option, Some, ap, subst}
use Rattle.std.proofs.lemmas.Fmt.{hex_byte}
use Rattle.std.specs.Fmt.{AppendsText, format_spec, padded_integral, styled_digits_output}
use Rattle.std.specs.Option.{option_map}
use Rattle.std.specs.Result.{OnOk}
use Rattle.std.specs.String.{string_bytes}
use Rattle.packet_layers.specs.Text.{hex_octet}
use Rattle.packet_layers.proofs.words.spelling.put_octet.Goals as goal

-- what is printed of an octet
abbrev printed : List ℕ → List ℕ
printed digits = padded_integral (format_spec 32 0 4 2 18446744073709551615) false [] digits

pub returns : goal.returns
returns c =
    let old = string_bytes c.args.text.now in let new = string_bytes c.write.new.self in
    let is : styled_digits_output c.in_radix.result c.laid_out.result ≡ Some (hex_octet c.args.octet) =
    ap (λ s. styled_digits_output c.in_radix.result s) c.laid_out.ensures ∙ ap (option_map printed) c.in_radix.ensures ∙ ap Some (hex_byte false c.args.octet c.ranges.octet.fits) in
    subst (λ (o : Option (List ℕ)). OnOk c.write.result (AppendsText old new o)) is c.write.ensures.bytes
