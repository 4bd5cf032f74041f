-- The global header of a capture (pcap-savefile(5)): a magic number of 32 bits, the version 2.4 in twice 16 bits, the
-- time zone, the accuracy and the snapshot length, which are ignored, and the link type, 32 bits each.
use Rattle.std.specs.Prelude.{ℕ, ◌==◌, ◌&&◌, nat_lt, if◌then◌else◌, Bool, List, [], ◌∷◌}
use Rattle.std.specs.Prelude.{◌++◌, length, drop, Option, Some, None, Result, Ok, Err}
use Rattle.std.specs.List.{find}
use Rattle.pcap.specs.Style.{magic_of, number_of, octets_of, styles}
use Rattle.pcap.specs.declared.text.style.Order.{Order}
use Rattle.pcap.specs.declared.text.style.Precision.{Precision}
use Rattle.pcap.specs.declared.text.style.Precision.TheVariants.{Micro, Nano}
use Rattle.pcap.specs.declared.text.style.Style.{Style}
use Rattle.pcap.specs.declared.text.header.CaptureFault.{CaptureFault}
use Rattle.pcap.specs.declared.text.header.CaptureFault.TheVariants.{NotPcap, BadLink}
use Rattle.pcap.specs.declared.text.header.Header.{Header}

-- a global header of this style and link type, with twelve octets that are ignored
abbrev pub header_text : Style → List ℕ → ℕ → List ℕ
header_text style ignored link =
    octets_of style.order 4 (magic_of style.precision)
    ++ (octets_of style.order 2 2 ++ (octets_of style.order 2 4 ++ (ignored ++ octets_of style.order 4 link)))

-- the numbers of a global header by their places
abbrev pub header_by : (ℕ → List ℕ → ℕ) → List ℕ → Header
header_by number text = record {
  major = number 2 (drop 4 text);
  minor = number 2 (drop 6 text);
  link = number 4 (drop 20 text);
}

-- the header of a text in this order of octets
unfoldable pub header_in : Order → List ℕ → Header
header_in order text = header_by (number_of order) text

-- what fractions count under a magic number
abbrev pub precision_by : ℕ → Option Precision
precision_by magic = find (λ precision. magic == magic_of precision) (Micro ∷ Nano ∷ [])

-- the style whose magic number stands in front, in its own byte order
unfoldable pub style_by_magic : List ℕ → Option Style
style_by_magic text = find (λ style. number_of style.order 4 text == magic_of style.precision) styles

-- the one version and link type that are read
abbrev pub is_version_2_4 : Header → Bool
is_version_2_4 header = header.major == 2 && header.minor == 4

-- the link type of Ethernet (LINKTYPE_ETHERNET)
abbrev pub ethernet : ℕ
ethernet = 1

-- with the style that its magic number says, the version and then the link type are looked at
abbrev pub style_by : Option Style → List ℕ → Result Style CaptureFault
style_by None text = Err NotPcap
style_by (Some style) text =
    let header = header_in style.order text in
    if is_version_2_4 header then (if header.link == ethernet then Ok style else Err BadLink) else Err NotPcap

-- how a capture writes its numbers, or why it isn't read
unfoldable pub style_of : List ℕ → Result Style CaptureFault
style_of text = if nat_lt (length text) 24 then Err NotPcap else style_by (style_by_magic text) text
