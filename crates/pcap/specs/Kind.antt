-- What a file is, by its first octets. It states no standard.
use Rattle.std.specs.Prelude.{ℕ, ◌+◌, ◌%◌, ◌==◌, ◌||◌, ◌&&◌, nat_le, if◌then◌else◌, Bool, List, [], ◌∷◌, ◌++◌, codes, length}
use Rattle.std.specs.List.{list_all}
use Rattle.wire.specs.Octets.{begins, field, octet}
use Rattle.pcap.specs.declared.kind.kind.FileKind.{FileKind}
use Rattle.pcap.specs.declared.kind.kind.FileKind.TheVariants as kinds

-- the magic numbers of microseconds and of nanoseconds, each with the high octet first and with the low one
-- (pcap-savefile(5))
abbrev pub is_pcap : List ℕ → Bool
is_pcap head =
    begins (0xA1 ∷ 0xB2 ∷ 0xC3 ∷ 0xD4 ∷ []) head || (begins (0xD4 ∷ 0xC3 ∷ 0xB2 ∷ 0xA1 ∷ []) head
    || (begins (0xA1 ∷ 0xB2 ∷ 0x3C ∷ 0x4D ∷ []) head || begins (0x4D ∷ 0x3C ∷ 0xB2 ∷ 0xA1 ∷ []) head))

-- the block type of a section header, the same in both byte orders (draft-ietf-opsawg-pcapng, 4.1)
abbrev pub pcapng_mark : List ℕ
pcapng_mark = 0x0A ∷ 0x0D ∷ 0x0D ∷ 0x0A ∷ []

-- ID1 and ID2 of a member (RFC 1952, 2.3.1)
abbrev pub gzip_mark : List ℕ
gzip_mark = 0x1F ∷ 0x8B ∷ []

-- the magic number of a frame, the low octet first (RFC 8878, 3.1.1)
abbrev pub zstd_mark : List ℕ
zstd_mark = 0x28 ∷ 0xB5 ∷ 0x2F ∷ 0xFD ∷ []

-- the identification pattern (RFC 1761)
abbrev pub snoop_mark : List ℕ
snoop_mark = codes "snoop" ++ 0 ∷ 0 ∷ 0 ∷ []

-- the types of ERF records that hold an Ethernet frame, without the bit of extension headers: ETH, COLOR_ETH,
-- DSM_COLOR_ETH, COLOR_HASH_ETH (Endace, ERF types)
abbrev pub is_erf_type : ℕ → Bool
is_erf_type number = number == 2 || (number == 11 || (number == 16 || number == 20))

-- a record can be so long that holds a frame of this length: the head has 16 octets and the padding in front of the frame
-- 2; behind it at most 7 align the record, and there are at most seven extension headers of 8
abbrev pub are_erf_lengths : ℕ → ℕ → Bool
are_erf_lengths whole frame = nat_le 18 whole && (nat_le 1 frame && nat_le whole (frame + 81))

-- it begins as an ERF record of an Ethernet frame does: the type in octet 8, the record's length in octets 10 and 11, the
-- frame's in 14 and 15, the high octet first
abbrev pub is_erf : List ℕ → Bool
is_erf head =
    nat_le 16 (length head) && (is_erf_type (octet 8 head % 128) && are_erf_lengths (field 10 2 head) (field 14 2 head))

-- printable ASCII, a tab, a line feed or a carriage return
abbrev pub is_printable : ℕ → Bool
is_printable octet = (nat_le 0x20 octet && nat_le octet 0x7E) || (octet == 0x09 || (octet == 0x0A || octet == 0x0D))

-- all octets are those of a text
abbrev pub is_text : List ℕ → Bool
is_text octets = list_all is_printable octets

-- what a file is that begins so
abbrev pub kind_of : List ℕ → FileKind
kind_of head =
    if length head == 0 then kinds.Empty else
    if is_pcap head then kinds.Pcap else
    if begins pcapng_mark head then kinds.Pcapng else
    if begins gzip_mark head then kinds.Gzip else
    if begins zstd_mark head then kinds.Zstd else
    if begins snoop_mark head then kinds.Snoop else
    if is_erf head then kinds.Erf else
    if is_text head then kinds.Text else kinds.Other

-- its sentence
abbrev pub kind_words : FileKind → List ℕ
kind_words kinds.Empty = codes "the file is empty"
kind_words kinds.Pcap = codes "it begins as classic pcap, of which whole headers of version 2.4 are read"
kind_words kinds.Pcapng = codes "it is a pcapng capture"
kind_words kinds.Gzip = codes "it is compressed with gzip: editcap -F nsecpcap IN OUT converts it"
kind_words kinds.Zstd = codes "it is compressed with zstd: editcap -F nsecpcap IN OUT converts it"
kind_words kinds.Snoop = codes "it is a snoop capture: editcap -F nsecpcap IN OUT converts it"
kind_words kinds.Erf = codes "it begins as an ERF capture: editcap -F nsecpcap IN OUT converts it"
kind_words kinds.Text = codes "it is a text"
kind_words kinds.Other =
    codes "its first octets are of no format that is known here: editcap -F nsecpcap IN OUT converts what Wireshark reads"
