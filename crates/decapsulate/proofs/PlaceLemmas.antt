-- Where the inner text stands in a packet.
use Rattle.std.proofs.Common.{◌≡◌, ℕ, ◌+◌, ◌-◌, ◌≤◌, min, ltb, List, [], ◌∷◌, ◌++◌, length, take, drop, refl, sym, ap, ◌∙◌, subst, arith, inl, inr}
use Rattle.std.proofs.lemmas.Bool.{ltb-false, ltb-true, cases_Bool}
use Rattle.std.proofs.lemmas.List.{length-take, length-drop, take_min, take-take, drop-take, drop-drop, drop_at, take-append-drop}
use Rattle.std.proofs.Math.Seq.{take-length}
use Rattle.wire.specs.Octets.{part}
use Rattle.wire.specs.Frame.{Frame, plain, size, frame_of}
use Rattle.wire.proofs.TagLemmas.{SkipsTags-without_tags}
use Rattle.wire.specs.declared.ip_udp.addr.Tunnel.{Tunnel}
use Rattle.wire.specs.declared.ip_udp.addr.Tunnel.TheVariants.{Vxlan, Geneve}
use Rattle.wire.specs.Ip.{header_length, packet_length, payload}
use Rattle.wire.specs.Udp.{udp_length, data_of}
use Rattle.wire.specs.Datagram.{behind_tags, family, ip_text, tags_text}
use Rattle.decapsulate.specs.Arrival.{packet_in, inner_of, header_octets, inner_place}

-- the text e stands in the text b, from place k on
record StandsAt (k : ℕ) (e b : List ℕ) : Type 0 where
  is : e ≡ part k (length e) b

empty : (e : List ℕ) → length e ≡ 0 → e ≡ []
empty [] h = refl
empty (x ∷ e) h = absurd (omega arith)

StandsAt-all : (b : List ℕ) → StandsAt 0 b b
StandsAt-all b = record { is = sym (take-length b) }

StandsAt-take : (k n : ℕ) (e b : List ℕ) → StandsAt k e b → StandsAt k (take n e) b
StandsAt-take k n e b h =
    let m = length e in
    let rest = drop k b in
    let len : length (take n e) ≡ min n m = length-take n e in
    record {
      is = sym (take_min n e)
          ∙ ap (take (min n m)) h.is
          ∙ take-take (min n m) m rest (omega arith)
          ∙ ap (λ (i : ℕ). take i rest) (sym len);
    }

StandsAt-drop : (k n : ℕ) (e b : List ℕ) → StandsAt k e b → StandsAt (k + n) (drop n e) b
StandsAt-drop k n e b h = elim (cases_Bool (ltb (length e) n)) [
  | inl short ↦
      let none : length (drop n e) ≡ 0 = omega (arith, length-drop n e, ltb-true (length e) n short) in
      record { is = empty (drop n e) none ∙ ap (λ (i : ℕ). part (k + n) i b) (sym none) }
  | inr long ↦
      let m = length e in
      let rest = drop k b in
      let there : n ≤ m = ltb-false m n long in
      let whole : n + (m - n) ≡ m = omega arith in
      record {
        is = ap (drop n) (h.is ∙ ap (λ (i : ℕ). take i rest) (sym whole))
            ∙ drop-take n (m - n) rest
            ∙ ap (take (m - n)) (drop-drop n k b)
            ∙ ap (λ (i : ℕ). part (k + n) i b) (sym (length-drop n e));
      }
]

StandsAt-behind_tags : (b : List ℕ) → StandsAt (12 + length (tags_text b)) (behind_tags b) b
StandsAt-behind_tags b =
    let tags = SkipsTags-without_tags 2 (drop 12 b) in
    let t = length (tags_text b) in
    let rest : drop t (drop 12 b) ≡ behind_tags b = ap (drop t) tags.whole ∙ drop_at (tags_text b) (behind_tags b) t refl in
    subst (λ (e : List ℕ). StandsAt (12 + t) e b) rest (StandsAt-drop 12 t (drop 12 b) b (StandsAt-drop 0 12 b b (StandsAt-all b)))

StandsAt-data : (b : List ℕ) → StandsAt (12 + length (tags_text b) + 2 + header_length (family b) (ip_text b) + 8) (data_of (packet_in b).payload) b
StandsAt-data b =
    let f = family b in
    let r = ip_text b in
    let p = payload f r in
    let at = 12 + length (tags_text b) in
    let text : StandsAt (at + 2) r b = StandsAt-drop at 2 (behind_tags b) b (StandsAt-behind_tags b) in
    let carried : StandsAt (at + 2 + header_length f r) p b =
    StandsAt-drop (at + 2) (header_length f r) (take (packet_length f r) r) b (StandsAt-take (at + 2) (packet_length f r) r b text) in
    StandsAt-drop (at + 2 + header_length f r) 8 (take (udp_length p) p) b (StandsAt-take (at + 2 + header_length f r) (udp_length p) p b carried)

inner-dropped : (kind : Tunnel) (d : List ℕ) → drop (header_octets kind d) d ≡ inner_of kind d
inner-dropped Vxlan d = refl
inner-dropped Geneve d = refl

plain-frame_of : (e : List ℕ) → plain (frame_of e) ≡ e
plain-frame_of e =
    ap (λ (z : List ℕ). take 6 e ++ (part 6 6 e ++ z)) (sym (drop-drop 6 6 e))
    ∙ ap (λ (z : List ℕ). take 6 e ++ z) (take-append-drop 6 (drop 6 e))
    ∙ take-append-drop 6 e

-- a frame that is the inner text stands at its place
pub plain-inner : (kind : Tunnel) (b : List ℕ) (f : Frame) → f ≡ frame_of (inner_of kind (data_of (packet_in b).payload)) → 14 ≤ length (inner_of kind (data_of (packet_in b).payload))
    → plain f ≡ part (inner_place kind b) (size f) b
plain-inner kind b f f_is long =
    let d = data_of (packet_in b).payload in
    let e = inner_of kind d in
    let k = 12 + length (tags_text b) + 2 + header_length (family b) (ip_text b) + 8 in
    let stands : StandsAt (inner_place kind b) e b =
    subst (λ (x : List ℕ). StandsAt (inner_place kind b) x b) (inner-dropped kind d) (StandsAt-drop k (header_octets kind d) d b (StandsAt-data b)) in
    let len : length e ≡ size f = omega (arith, ap size f_is, length-drop 12 e) in
    ap plain f_is ∙ plain-frame_of e ∙ stands.is ∙ ap (λ (n : ℕ). part (inner_place kind b) n b) len
