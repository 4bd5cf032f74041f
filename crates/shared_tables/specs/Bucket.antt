-- The bucket of an address in a segment, and its tree: each bucket has sixty-four. It states no standard.
use Rattle.std.specs.Prelude.{ℕ, ◌+◌, ◌*◌, ◌/◌, ◌%◌, ◌^◌, ◌<◌, List, ◌++◌, take, drop}
use Rattle.std.specs.Int.{from_be_bytes, to_be_bytes, w16, w64}
use Rattle.wire.specs.Octets.{octets}
use Rattle.wire.specs.Sum.{total}

-- the sum of the address's three words and the VID, in one of 4,096 classes
abbrev pub bucket_of : ℕ → List ℕ → ℕ
bucket_of vid mac = (total mac + vid) % 4096

-- the VID and the address side by side, as one number
abbrev pub key_of : ℕ → List ℕ → ℕ
key_of vid mac = from_be_bytes w64 (octets 2 vid ++ mac)

-- how many bits such a number has: 12 of the VID, and 48 of the address
abbrev pub key_bits : ℕ
key_bits = 60

-- it has no more
abbrev pub IsKey : ℕ → Type 0
IsKey key = key < 2 ^ key_bits

-- the VID and the address of such a number
unfoldable pub vid_in : ℕ → ℕ
vid_in key = from_be_bytes w16 (take 2 (to_be_bytes w64 key))

-- the address in a key
unfoldable pub mac_in : ℕ → List ℕ
mac_in key = drop 2 (to_be_bytes w64 key)

-- the upper six of the lower 64 bits of a product: 2^64 over the golden ratio sends near keys far apart
unfoldable pub spread : ℕ → ℕ
spread key = (key * 11400714819323198485) % 2 ^ 64 / 2 ^ 58 % 64

-- the tree of an address in a segment: one of the sixty-four of its bucket
unfoldable pub tree_of : ℕ → List ℕ → ℕ
tree_of vid mac = bucket_of vid mac * 64 + spread (key_of vid mac)
