-- A VID and an address as one number, and back.
use Rattle.std.proofs.Common.{◌≡◌, ℕ, zero, suc, ◌+◌, ◌/◌, ◌%◌, ◌^◌, ◌<◌, List, [], ◌∷◌, ◌++◌, length, take, drop, get_or, refl, ap, ◌∙◌, arith}
use Rattle.std.specs.Int.{from_be_bytes, to_be_bytes, w16, w64}
use Rattle.std.proofs.lemmas.Nat.{be_bytes_2, be_bytes_8, from_be_bytes-to_be_bytes_2, from_be_bytes-to_be_bytes_8}
use Rattle.wire.specs.Octets.{octets, IsText}
use Rattle.wire.specs.Sum.{total}
use Rattle.shared_tables.specs.Bucket.{bucket_of, key_of, vid_in, mac_in}
use Rattle.shared_tables.specs.Listing.{IsAddress}

module _ (vid : ℕ) (mac : List ℕ) (fits : vid < 2 ^ 16) (six : length mac ≡ 6) (text : IsText mac) where
  small : (i : ℕ) → get_or (octets 2 vid ++ mac) i 0 < 256
  small zero = omega arith
  small (suc zero) = omega arith
  small (suc (suc i)) = text i

  key_octets : to_be_bytes w64 (key_of vid mac) ≡ octets 2 vid ++ mac
  key_octets = be_bytes_8 (octets 2 vid ++ mac) (key_of vid mac) (ap (λ n. suc (suc n)) six) small refl

  pub vid_in-key : vid_in (key_of vid mac) ≡ vid
  unfolding vid_in
  vid_in-key = ap (λ t. from_be_bytes w16 (take 2 t)) key_octets ∙ from_be_bytes-to_be_bytes_2 vid fits

  pub mac_in-key : mac_in (key_of vid mac) ≡ mac
  unfolding mac_in
  mac_in-key = ap (drop 2) key_octets

pub six_text : (a b c d e f : ℕ) → a < 256 → b < 256 → c < 256 → d < 256 → e < 256 → f < 256 → IsText (a ∷ b ∷ c ∷ d ∷ e ∷ f ∷ [])
six_text a b c d e f p q r s t u zero = p
six_text a b c d e f p q r s t u (suc zero) = q
six_text a b c d e f p q r s t u (suc (suc zero)) = r
six_text a b c d e f p q r s t u (suc (suc (suc zero))) = s
six_text a b c d e f p q r s t u (suc (suc (suc (suc zero)))) = t
six_text a b c d e f p q r s t u (suc (suc (suc (suc (suc zero))))) = u
six_text a b c d e f p q r s t u (suc (suc (suc (suc (suc (suc i)))))) = omega arith

module _ (key : ℕ) where
  first_small : (i : ℕ) → get_or (take 2 (to_be_bytes w64 key)) i 0 < 256
  first_small zero = omega arith
  first_small (suc zero) = omega arith
  first_small (suc (suc i)) = omega arith

  pub key_of-key : key < 2 ^ 64 → key_of (vid_in key) (mac_in key) ≡ key
  unfolding vid_in mac_in
  key_of-key fits =
      ap (λ t. from_be_bytes w64 (t ++ mac_in key)) (be_bytes_2 (take 2 (to_be_bytes w64 key)) (vid_in key) refl first_small refl) ∙ from_be_bytes-to_be_bytes_8 key fits

  mac_small : (i : ℕ) → get_or (drop 2 (to_be_bytes w64 key)) i 0 < 256
  mac_small zero = omega arith
  mac_small (suc zero) = omega arith
  mac_small (suc (suc zero)) = omega arith
  mac_small (suc (suc (suc zero))) = omega arith
  mac_small (suc (suc (suc (suc zero)))) = omega arith
  mac_small (suc (suc (suc (suc (suc zero))))) = omega arith
  mac_small (suc (suc (suc (suc (suc (suc i)))))) = omega arith

  pub address_in-key : IsAddress (mac_in key)
  unfolding mac_in
  address_in-key = (refl, mac_small)

  -- the bucket is that of all eight octets
  pub bucket_in_key : total (to_be_bytes w64 key) % 4096 ≡ bucket_of (vid_in key) (mac_in key)
  unfolding vid_in mac_in
  bucket_in_key = ap (λ n. n % 4096) (omega arith)

  -- the sum of its words, of which the lowest twelve bits are told apart from no carry
  words_in_key : total (to_be_bytes w64 key) ≡ key % 65536 + key / 65536 % 65536 + key / 4294967296 % 65536 + key / 281474976710656 % 65536
  words_in_key = omega arith

  pub bucket_by_words : (((key + key / 65536) % 18446744073709551616 + key / 4294967296) % 18446744073709551616 + key / 281474976710656) % 18446744073709551616 % 4096 ≡ bucket_of (vid_in key) (mac_in key)
  bucket_by_words =
      let sum : (((key + key / 65536) % 18446744073709551616 + key / 4294967296) % 18446744073709551616 + key / 281474976710656) % 18446744073709551616 % 4096 ≡ total (to_be_bytes w64 key) % 4096 = omega (arith, words_in_key) in
      sum ∙ bucket_in_key
