-- A text is a datagram in a frame exactly where no reason holds, and in one way.
use Rattle.std.proofs.Common.{◌≡◌, ℕ, zero, suc, ◌+◌, ◌-◌, ◌<◌, ◌≤◌, Bool, true, false, ◌||◌, ◌&&◌, cond, leb, nat_eq, None, List, [], ◌∷◌, ◌++◌, length, take, drop, refl, sym, ap, ◌∙◌, subst, append_assoc, arith, inl, inr}
use Rattle.std.specs.List.{concat, AllByRecursion}
use Rattle.std.proofs.lemmas.Bool.{ltb-false, le-ltb, le-leb, or_cases, cases_Bool, false≢true, not-false, not_from_true, cond-true}
use Rattle.std.proofs.lemmas.List.{take-append-drop, take-append-le, take_at, drop_at, length-take, length-append}
use lib.Pointwise.{pointwise}
use Rattle.wire.specs.Octets.{IsText}
use Rattle.wire.proofs.OctetsLemmas.{begins-true, field2-below, IsText-drop, IsText-take}
use Rattle.wire.specs.First.{first}
use Rattle.wire.specs.Tag.{has_outer_tag, IsOuterTag, without_tags}
use Rattle.wire.proofs.FirstLemmas.{NothingHolds-from, first-nothing}
use Rattle.wire.proofs.TagLemmas.{without_tags-none, SkipsTags-without_tags}
use Rattle.wire.specs.declared.ip_udp.addr.Addr.{Addr}
use Rattle.wire.specs.IpParts.{Parts}
use Rattle.wire.specs.Ip.{Family, Ip4, Ip6, IsHeader, SplitsIp, is_fragment, protocol, source, destination, header_length, packet_length, packet_parts, payload, is_bad_ip, is_bad_ip_sum}
use Rattle.wire.specs.Udp.{sport, dport, udp_sum, udp_length, udp_header, SplitsUdp, udp_parts, datagram, data_of, is_bad_udp}
use Rattle.wire.specs.Datagram.{HasRest, ether_type, IsUdpCarrier, Datagram, behind_tags, has_type, is_ip, family, ip_text, ip_payload, datagram_reasons, HasParts}
use Rattle.wire.proofs.IpLemmas.{equal, not_other, found-ip, only-ip, ReadsAs-from, IsSumRight-from, IsSumRight-to}
use Rattle.wire.proofs.UdpLemmas as udp
use Rattle.wire.proofs.UdpLemmas.{found-udp, only-udp, length-data, datagram-split, header-fields, HasFields-from}

-- ---- tags in front

-- the test for a tag, of the two octets in front and of whether four are there
abbrev tag_test : List ℕ → Bool → Bool
tag_test front whole = (pointwise nat_eq (0x81 ∷ 0x00 ∷ []) front || pointwise nat_eq (0x88 ∷ 0xA8 ∷ []) front) && whole

has_outer_tag-append : (t rest : List ℕ) → IsOuterTag t → has_outer_tag (t ++ rest) ≡ true
has_outer_tag-append t rest is_tag =
    let four = is_tag.0 in
    let len = length-append t rest in
    let same : take 2 (t ++ rest) ≡ take 2 t = take-append-le 2 t rest (omega arith) in
    let whole : leb 4 (length (t ++ rest)) ≡ leb 4 (length t) = le-leb 4 (length (t ++ rest)) (omega arith) ∙ sym (le-leb 4 (length t) (omega arith)) in
    ap (λ (front : List ℕ). tag_test front (leb 4 (length (t ++ rest)))) same ∙ ap (tag_test (take 2 t)) whole ∙ is_tag.1

-- tags in front of a text that begins with none are those that are taken off
pub without_tags-concat : (n : ℕ) (tags : List (List ℕ)) (rest : List ℕ) → length tags ≤ n → AllByRecursion IsOuterTag tags → has_outer_tag rest ≡ false
    → without_tags n (concat tags ++ rest) ≡ rest
without_tags-concat n [] rest few all none = without_tags-none n rest none
without_tags-concat zero (t ∷ tags) rest few all none = absurd (omega arith)
without_tags-concat (suc n) (t ∷ tags) rest few all none =
    let behind = concat tags ++ rest in
    ap (without_tags (suc n)) (append_assoc t (concat tags) rest)
    ∙ cond-true (has_outer_tag (t ++ behind)) (without_tags n (drop 4 (t ++ behind))) (t ++ behind) (has_outer_tag-append t behind all.0)
    ∙ ap (without_tags n) (drop_at t behind 4 all.0.0)
    ∙ without_tags-concat n tags rest (omega arith) all.1 none

-- ---- the type

type-no_tag : (f : Family) (rest : List ℕ) → has_outer_tag (ether_type f ++ rest) ≡ false
type-no_tag Ip4 rest = refl
type-no_tag Ip6 rest = refl

type-is_ip : (f : Family) (rest : List ℕ) → (has_type Ip4 (ether_type f ++ rest) || has_type Ip6 (ether_type f ++ rest)) ≡ true
type-is_ip Ip4 rest = refl
type-is_ip Ip6 rest = refl

type-family : (f : Family) (rest : List ℕ) → cond (has_type Ip4 (ether_type f ++ rest)) Ip4 Ip6 ≡ f
type-family Ip4 rest = refl
type-family Ip6 rest = refl

type-rest : (f : Family) (rest : List ℕ) → drop 2 (ether_type f ++ rest) ≡ rest
type-rest Ip4 rest = refl
type-rest Ip6 rest = refl

length-type : (f : Family) → length (ether_type f) ≡ 2
length-type Ip4 = refl
length-type Ip6 = refl

-- a text that begins with a type of IP is that type and the rest
type_at : (t : List ℕ) → (has_type Ip4 t || has_type Ip6 t) ≡ true → t ≡ ether_type (cond (has_type Ip4 t) Ip4 Ip6) ++ drop 2 t
type_at t h = elim (cases_Bool (has_type Ip4 t)) [
  | inl four ↦ rw four (begins-true (0x08 ∷ 0x00 ∷ []) t four)
  | inr other ↦ rw other (begins-true (0x86 ∷ 0xDD ∷ []) t (elim (or_cases (has_type Ip4 t) (has_type Ip6 t) h) [ inl four ↦ absurd (false≢true (sym other ∙ four)) | inr six ↦ six ]))
]

-- what a frame with a packet of this family in it is read as
pub record HasIp (b : List ℕ) (f : Family) (r : List ℕ) : Type 0 where
  pub is_ip_is : is_ip b ≡ true
  pub family_is : family b ≡ f
  pub text_is : ip_text b ≡ r
  pub behind_is : behind_tags b ≡ ether_type f ++ r

pub HasIp-from : (a : List ℕ) (tags : List (List ℕ)) (f : Family) (r : List ℕ) → length a ≡ 12 → length tags ≤ 2 → AllByRecursion IsOuterTag tags
    → HasIp (a ++ (concat tags ++ (ether_type f ++ r))) f r
HasIp-from a tags f r twelve few all =
    let behind = ether_type f ++ r in
    let e : behind_tags (a ++ (concat tags ++ behind)) ≡ behind =
    ap (without_tags 2) (drop_at a (concat tags ++ behind) 12 twelve) ∙ without_tags-concat 2 tags behind few all (type-no_tag f r) in
    record {
      is_ip_is = ap (λ (t : List ℕ). has_type Ip4 t || has_type Ip6 t) e ∙ type-is_ip f r;
      family_is = ap (λ (t : List ℕ). cond (has_type Ip4 t) Ip4 Ip6) e ∙ type-family f r;
      text_is = ap (drop 2) e ∙ type-rest f r;
      behind_is = e;
    }

-- a reading of the packet in a frame is that of its text
pub at_ip : {A : Type 0} (g : Family → List ℕ → A) (b : List ℕ) (f : Family) (r : List ℕ) → HasIp b f r → g (family b) (ip_text b) ≡ g f r
at_ip g b f r ip = ap (λ (h : Family). g h (ip_text b)) ip.family_is ∙ ap (g f) ip.text_is

-- ---- texts in texts

IsText-without_tags : (n : ℕ) (t : List ℕ) → IsText t → IsText (without_tags n t)
IsText-without_tags zero t text = text
IsText-without_tags (suc n) t text = elim (cases_Bool (has_outer_tag t)) [
  | inl has ↦ subst (λ (x : List ℕ). IsText x) (sym (cond-true (has_outer_tag t) (without_tags n (drop 4 t)) t has)) (IsText-without_tags n (drop 4 t) (IsText-drop 4 t text))
  | inr none ↦ subst (λ (x : List ℕ). IsText x) (sym (without_tags-none (suc n) t none)) text
]

pub IsText-ip_text : (b : List ℕ) → IsText b → IsText (ip_text b)
IsText-ip_text b text = IsText-drop 2 (behind_tags b) (IsText-without_tags 2 (drop 12 b) (IsText-drop 12 b text))

pub IsText-payload : (f : Family) (r : List ℕ) → IsText r → IsText (payload f r)
IsText-payload f r text = IsText-drop (header_length f r) (take (packet_length f r) r) (IsText-take (packet_length f r) r text)

pub IsText-ip_payload : (b : List ℕ) → IsText b → IsText (ip_payload b)
IsText-ip_payload b text = IsText-payload (family b) (ip_text b) (IsText-ip_text b text)

pub IsText-data : (p : List ℕ) → IsText p → IsText (data_of p)
IsText-data p text = IsText-drop 8 (take (udp_length p) p) (IsText-take (udp_length p) p text)

-- ---- a frame for which no reason holds has a datagram

carrier : (f : Family) (r : List ℕ) → is_bad_ip f r ≡ false → is_bad_ip_sum f r ≡ false → is_fragment f r ≡ false → protocol f r ≡ 17
    → IsUdpCarrier f (packet_parts f r).head (source f r) (destination f r) (length (payload f r))
carrier f r good right whole udp =
    let split = found-ip f r good in
    let reads = ReadsAs-from f r (packet_parts f r) split in
    record {
      header = split.header;
      sum = IsSumRight-from f r right;
      is_whole = sym reads.fragment_is ∙ whole;
      protocol = sym reads.protocol_is ∙ udp;
      src_is = reads.source_is;
      dst_is = reads.destination_is;
    }

pub found-datagram : (b : List ℕ) → IsText b → first (datagram_reasons b) ≡ None
    → Datagram b (source (family b) (ip_text b)) (destination (family b) (ip_text b)) (sport (ip_payload b)) (dport (ip_payload b)) (udp_sum (ip_payload b)) (data_of (ip_payload b))
found-datagram b text none =
    let f = family b in
    let r = ip_text b in
    let p = ip_payload b in
    let a = NothingHolds-from (datagram_reasons b) none in
    let long = ltb-false _ _ a.0 in
    let ip = not-false (is_ip b) a.1.0 in
    let good = a.1.1.0 in
    let good_p = a.1.1.1.1.1.1.0 in
    let tags = SkipsTags-without_tags 2 (drop 12 b) in
    let split = found-ip f r good in
    let split_p = found-udp p good_p in
    let text_p = IsText-ip_payload b text in
    let fields = header-fields p text_p good_p in
    let v = udp_parts p in
    let whole_p : p ≡ udp_header (sport p) (dport p) (udp_sum p) v.payload ++ (v.payload ++ v.tail) =
    split_p.whole ∙ ap (λ (x : List ℕ). x ++ (v.payload ++ v.tail)) fields in
    let len : length p ≡ 8 + length v.payload + length v.tail = omega (arith, ap length whole_p, length-append v.payload v.tail) in
    let fits : 8 + length v.payload < 65536 = omega (arith, length-data p good_p, field2-below 4 p text_p) in
    record {
      family = f;
      addresses = take 12 b;
      tags = tags.list;
      head = (packet_parts f r).head;
      tail = v.tail;
      trailer = (packet_parts f r).tail;
      twelve = omega (arith, length-take 12 b);
      at_most_two = tags.at_most;
      are_tags = tags.are_tags;
      is_carrier = subst (λ (n : ℕ). IsUdpCarrier f (packet_parts f r).head (source f r) (destination f r) n) len
          (carrier f r good a.1.1.1.0 a.1.1.1.1.0 (equal (protocol f r) 17 a.1.1.1.1.1.0));
      fits = (field2-below 0 p text_p, field2-below 2 p text_p, field2-below 6 p text_p, fits);
      whole = sym (take-append-drop 12 b) ∙ ap (λ (x : List ℕ). take 12 b ++ x) (tags.whole
          ∙ ap (λ (x : List ℕ). x ++ behind_tags b) tags.tags_are
          ∙ ap (λ (x : List ℕ). concat tags.list ++ x) (type_at (behind_tags b) ip
          ∙ ap (λ (x : List ℕ). ether_type f ++ x) (split.whole
          ∙ ap (λ (x : List ℕ). (packet_parts f r).head ++ (x ++ (packet_parts f r).tail)) whole_p)));
    }

-- ---- a frame with a datagram is refused for no reason, and has it at the places that its headers tell

-- what is in front of a text is what is left without it
front-of : (t rest : List ℕ) → take (length (t ++ rest) - length rest) (t ++ rest) ≡ t
front-of t rest = let len = length-append t rest in take_at t rest (length (t ++ rest) - length rest) (omega arith)

pub only-datagram : (b : List ℕ) (src dst : Addr) (from to sum : ℕ) (d : List ℕ) (k : Datagram b src dst from to sum d)
    → (first (datagram_reasons b) ≡ None) × HasParts b src dst from to sum d × HasRest b k.family k.addresses (concat k.tags) k.head k.tail k.trailer
only-datagram b src dst from to sum d k =
    let f = k.family in
    let u = udp_header from to sum d in
    let p = u ++ (d ++ k.tail) in
    let r = k.head ++ (p ++ k.trailer) in
    let whole = k.addresses ++ (concat k.tags ++ (ether_type f ++ r)) in
    let ip = HasIp-from k.addresses k.tags f r k.twelve k.at_most_two k.are_tags in
    let fields = HasFields-from from to sum d k.fits.0 k.fits.1 k.fits.2 k.fits.3 in
    let v : Parts = record { head = k.head; payload = p; tail = k.trailer } in
    let w : Parts = record { head = u; payload = d; tail = k.tail } in
    let len_p : length p ≡ 8 + length d + length k.tail = omega (arith, length-append d k.tail) in
    let split : SplitsIp f r v = record { header = subst (λ (n : ℕ). IsHeader f k.head n) (sym len_p) k.is_carrier.header; whole = refl } in
    let split_p : SplitsUdp p w = record { header = record { octets = refl; total = fields.length_is }; whole = refl } in
    let one = only-ip f r v split in
    let one_p = only-udp p w split_p in
    let reads = ReadsAs-from f r v split in
    let reads_p = udp.ReadsAs-from p w split_p in
    let c = k.is_carrier in
    let payload_is : payload f r ≡ p = ap (λ (x : Parts). x.payload) one.1 in
    let at_payload : ip_payload whole ≡ p = at_ip payload whole f r ip ∙ payload_is in
    let long : 14 ≤ length whole = omega (arith, k.twelve, length-append k.addresses (concat k.tags ++ (ether_type f ++ r)), length-append (concat k.tags) (ether_type f ++ r), length-append (ether_type f) r, length-type f) in
    let behind : drop 12 whole ≡ concat k.tags ++ (ether_type f ++ r) = drop_at k.addresses (concat k.tags ++ (ether_type f ++ r)) 12 k.twelve in
    let Q : List ℕ → Type 0 = λ x. (first (datagram_reasons x) ≡ None) × HasParts x src dst from to sum d × HasRest x f k.addresses (concat k.tags) k.head k.tail k.trailer in
    subst Q (sym k.whole) (
      first-nothing (datagram_reasons whole) (
        le-ltb _ _ long,
        (
          not_from_true (is_ip whole) ip.is_ip_is,
          (
            at_ip is_bad_ip whole f r ip ∙ one.0,
            (
              at_ip is_bad_ip_sum whole f r ip ∙ IsSumRight-to f r v one.1 c.sum,
              (
                at_ip is_fragment whole f r ip ∙ reads.fragment_is ∙ c.is_whole,
                (
                  not_other _ 17 (at_ip protocol whole f r ip ∙ reads.protocol_is ∙ c.protocol),
                  (ap is_bad_udp at_payload ∙ one_p.0, tt),
                ),
              ),
            ),
          ),
        ),
      ),
      record {
        source_is = at_ip source whole f r ip ∙ reads.source_is ∙ sym c.src_is;
        destination_is = at_ip destination whole f r ip ∙ reads.destination_is ∙ sym c.dst_is;
        sport_is = ap sport at_payload ∙ reads_p.sport_is ∙ fields.sport_is;
        dport_is = ap dport at_payload ∙ reads_p.dport_is ∙ fields.dport_is;
        sum_is = ap udp_sum at_payload ∙ reads_p.sum_is ∙ fields.sum_is;
        length_is = ap udp_length at_payload ∙ reads_p.length_is ∙ fields.length_is;
        datagram_is = ap datagram at_payload ∙ datagram-split p w split_p;
        data_is = ap data_of at_payload ∙ ap (λ (x : Parts). x.payload) one_p.1;
      },
      record {
        addresses_are = take_at k.addresses (concat k.tags ++ (ether_type f ++ r)) 12 k.twelve;
        tags_are = ap (λ (x : List ℕ). take (length x - length (behind_tags whole)) x) behind
            ∙ ap (λ (x : List ℕ). take (length (concat k.tags ++ (ether_type f ++ r)) - length x) (concat k.tags ++ (ether_type f ++ r))) ip.behind_is
            ∙ front-of (concat k.tags) (ether_type f ++ r);
        family_is = ip.family_is;
        head_is = at_ip (λ g x. (packet_parts g x).head) whole f r ip ∙ ap (λ (x : Parts). x.head) one.1;
        trailer_is = at_ip (λ g x. (packet_parts g x).tail) whole f r ip ∙ ap (λ (x : Parts). x.tail) one.1;
        tail_is = ap (λ (x : List ℕ). (udp_parts x).tail) at_payload ∙ ap (λ (x : Parts). x.tail) one_p.1;
      },
    )
