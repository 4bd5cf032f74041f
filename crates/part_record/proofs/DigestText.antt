-- Lines of captures in the text of their digests: where two texts begin with one, both have the same.
use Rattle.std.proofs.Common.{◌≡◌, ◌≢◌, ◌∙◌, sym, refl, ap, ℕ, suc, ◌+◌, ◌^◌, ◌<◌, ◌≤◌, List, [], ◌∷◌, ◌++◌, length, get_or, codes, decimal, All, Option, None, Some, MatchOption, Bor, arith, add-zero, append_assoc, append-nil, length-append}
use Rattle.std.proofs.lemmas.Fmt.{decimal_injective, digits_decimal}
use Rattle.std.proofs.lemmas.List.{append_cancel_left}
use Rattle.std.proofs.lemmas.List.Elements.{All-head, All-tail}
use Rattle.std.proofs.lemmas.Str.Parse.{numerals_by_value, tells_by_index}
use Rattle.std.specs.Int.{IsInRange}
use Rattle.timeline.specs.declared.source.Tap.TheVariants as taps
use Rattle.part_record.specs.Digests.{AreDigests, IsDigest, Lacks, digest_line, digest_lines, digests_text, first_line, port_line, underlay_line}
use Rattle.part_record.specs.Record.{capture_word, sum_line}
use Rattle.part_record.specs.declared.digests.CaptureDigest.{CaptureDigest}
use Rattle.part_record.proofs.Lines.{same_sum_lines, same_word}

-- ---- a word, and the space behind it

space_at : (told rest : List ℕ) → get_or (told ++ 32 ∷ rest) (length told) 0 ≡ 32
space_at [] rest = refl
space_at (x ∷ told) rest = space_at told rest

pub first_word_found : (text : List ℕ) (r : Option (Bor (List ℕ) × Bor (List ℕ)))
    → MatchOption r ((i : ℕ) → i < length text → get_or text i 0 ≢ 32) (λ x. (text ≡ x.0.now ++ (32 ∷ x.1.now)) × ((i : ℕ) → i < length x.0.now → get_or x.0.now i 0 ≢ 32))
    → MatchOption r ((told rest : List ℕ) → text ≢ told ++ 32 ∷ rest) (λ found. (text ≡ found.0.now ++ 32 ∷ found.1.now) × Lacks 32 found.0.now)
first_word_found text None h = λ told rest e.
    h (length told) (rw (e, length-append) (omega arith)) (ap (λ (l : List ℕ). get_or l (length told) 0) e ∙ space_at told rest)
first_word_found text (Some x) h = h

pub lacks_space : (n : ℕ) → n < 2 ^ 64 → Lacks 32 (decimal n)
lacks_space n small = λ i h e.
    let r : IsInRange 48 57 (get_or (decimal n) i 0) = digits_decimal (numerals_by_value _ tells_by_index) n small i h in
    omega (arith, r)

-- ---- a line

pub line_parts : (word : List ℕ) (d : CaptureDigest) (rest : List ℕ) → digest_line word d ++ rest ≡ word ++ (decimal d.octets ++ 32 ∷ (sum_line [] d.sum ++ rest))
line_parts word d rest = simp append_assoc

pub same_digests : (d e : CaptureDigest) → d.octets ≡ e.octets → d.sum ≡ e.sum → d ≡ e
same_digests d e octets sum =
    ap (λ (n : ℕ). record { octets = n; sum = d.sum }) octets ∙ ap (λ (l : List ℕ). record { octets = e.octets; sum = l }) sum

-- of what stands behind a word
pub same_told : (d e : CaptureDigest) (r q : List ℕ) → IsDigest d → IsDigest e
    → decimal d.octets ++ 32 ∷ (sum_line [] d.sum ++ r) ≡ decimal e.octets ++ 32 ∷ (sum_line [] e.sum ++ q) → (d ≡ e) × (r ≡ q)
same_told d e r q f g h =
    let word = same_word 32 (decimal d.octets) (decimal e.octets) (sum_line [] d.sum ++ r) (sum_line [] e.sum ++ q) (lacks_space d.octets f.octets) (lacks_space e.octets g.octets) h in
    let sums = same_sum_lines [] d.sum e.sum r q f.sum g.sum word.1 in
    (same_digests d e (decimal_injective d.octets e.octets f.octets g.octets word.0) sums.0, sums.1)

pub same_lines : (word : List ℕ) (d e : CaptureDigest) (r q : List ℕ) → IsDigest d → IsDigest e → digest_line word d ++ r ≡ digest_line word e ++ q → (d ≡ e) × (r ≡ q)
same_lines word d e r q f g h = same_told d e r q f g (append_cancel_left word _ _ (sym (line_parts word d r) ∙ h ∙ line_parts word e q))

-- what stands behind the word of a line
pub told_is : (text word told : List ℕ) (d : CaptureDigest) (rest : List ℕ) → text ≡ word ++ told → text ≡ digest_line word d ++ rest
    → told ≡ decimal d.octets ++ 32 ∷ (sum_line [] d.sum ++ rest)
told_is text word told d rest e h = append_cancel_left word _ _ (sym e ∙ h ∙ line_parts word d rest)

-- its number, and what stands behind that
pub number_is : (told digits summed : List ℕ) (d : CaptureDigest) (rest : List ℕ) → IsDigest d → told ≡ digits ++ 32 ∷ summed → Lacks 32 digits
    → told ≡ decimal d.octets ++ 32 ∷ (sum_line [] d.sum ++ rest) → (digits ≡ decimal d.octets) × (summed ≡ sum_line [] d.sum ++ rest)
number_is told digits summed d rest is e lacks h = same_word 32 digits (decimal d.octets) summed (sum_line [] d.sum ++ rest) lacks (lacks_space d.octets is.octets) (sym e ∙ h)

pub line_read : (text word told digits summed rest : List ℕ) (d : CaptureDigest) → text ≡ word ++ told → told ≡ digits ++ 32 ∷ summed
    → digits ≡ decimal d.octets → summed ≡ sum_line [] d.sum ++ rest → text ≡ digest_line word d ++ rest
line_read text word told digits summed rest d e h n s =
    e ∙ ap (λ (l : List ℕ). word ++ l) (h ∙ ap (λ (l : List ℕ). l ++ 32 ∷ summed) n ∙ ap (λ (l : List ℕ). decimal d.octets ++ 32 ∷ l) s) ∙ sym (line_parts word d rest)

-- ---- the line of a port's capture

pub port_parts : (port : ℕ) (d : CaptureDigest) (rest : List ℕ) → port_line port d ++ rest ≡ codes "capture p" ++ (decimal port ++ (digest_line (codes " ") d ++ rest))
port_parts port d rest =
    line_parts (capture_word (taps.Port port)) d rest
    ∙ ap (λ (l : List ℕ). codes "capture p" ++ l)
    (append_assoc (decimal port) (codes " ") (decimal d.octets ++ 32 ∷ (sum_line [] d.sum ++ rest)) ∙ ap (λ (l : List ℕ). decimal port ++ l) (sym (line_parts (codes " ") d rest)))

pub port_found : (text numbered told : List ℕ) (port : ℕ) (r : Option (CaptureDigest × Bor (List ℕ)))
    → text ≡ codes "capture p" ++ numbered → numbered ≡ decimal port ++ told
    → MatchOption r ((d : CaptureDigest) (rest : List ℕ) → IsDigest d → told ≢ digest_line (codes " ") d ++ rest) (λ found. IsDigest found.0 × (told ≡ digest_line (codes " ") found.0 ++ found.1.now))
    → MatchOption r ((d : CaptureDigest) (rest : List ℕ) → IsDigest d → text ≢ port_line port d ++ rest)
    (λ found. IsDigest found.0 × (text ≡ port_line port found.0 ++ found.1.now))
port_found text numbered told port None e h none = λ d rest is f.
    none d rest is (append_cancel_left (decimal port) _ _ (sym h ∙ append_cancel_left (codes "capture p") _ _ (sym e ∙ f ∙ port_parts port d rest)))
port_found text numbered told port (Some found) e h some =
    (some.0, e ∙ ap (λ (l : List ℕ). codes "capture p" ++ l) (h ∙ ap (λ (l : List ℕ). decimal port ++ l) some.1) ∙ sym (port_parts port found.0 found.1.now))

-- ---- lines of ports in turn

-- the eighth octet of `capture u ` and the ninth of `capture p`
lacks_port : (port : ℕ) (d u : CaptureDigest) (r q : List ℕ) → port_line port d ++ r ≢ underlay_line u ++ q
lacks_port port d u r q e = let wrong : 112 ≡ 117 = ap (λ (l : List ℕ). get_or l 8 0) e in omega (arith, wrong)

-- as many ports are read as there are
pub same_ports : (port : ℕ) (a b : List CaptureDigest) (r : List ℕ) (u : CaptureDigest) (q : List ℕ) → All IsDigest a → All IsDigest b
    → ((d : CaptureDigest) (rest : List ℕ) → IsDigest d → length a < length b → r ≢ port_line (port + length a) d ++ rest)
    → digest_lines port a ++ r ≡ digest_lines port b ++ (underlay_line u ++ q) → (a ≡ b) × (r ≡ underlay_line u ++ q)
same_ports port [] [] r u q f g none e = (refl, e)
same_ports port [] (y ∷ b) r u q f g none e =
    let shown : r ≡ port_line (port + 0) y ++ (digest_lines (port + 1) b ++ (underlay_line u ++ q)) =
    rw add-zero (e ∙ append_assoc (port_line port y) (digest_lines (port + 1) b) (underlay_line u ++ q)) in
    absurd (none y (digest_lines (port + 1) b ++ (underlay_line u ++ q)) (All-head IsDigest y b g) (omega arith) shown)
same_ports port (x ∷ a) [] r u q f g none e =
    absurd (lacks_port port x u (digest_lines (port + 1) a ++ r) q (sym (append_assoc (port_line port x) (digest_lines (port + 1) a) r) ∙ e))
same_ports port (x ∷ a) (y ∷ b) r u q f g none e =
    let both = same_lines (capture_word (taps.Port port)) x y (digest_lines (port + 1) a ++ r) (digest_lines (port + 1) b ++ (underlay_line u ++ q)) (All-head IsDigest x a f) (All-head IsDigest y b g)
    (sym (append_assoc (port_line port x) (digest_lines (port + 1) a) r) ∙ e ∙ append_assoc (port_line port y) (digest_lines (port + 1) b) (underlay_line u ++ q)) in
    let others = same_ports (port + 1) a b r u q (All-tail IsDigest x a f) (All-tail IsDigest y b g)
    (λ d rest is less h. none d rest is (omega arith) (h ∙ ap (λ (n : ℕ). port_line n d ++ rest) (let same : port + 1 + length a ≡ port + suc (length a) = omega arith in same)))
    both.1 in
    let first : x ≡ y = both.0 in
    let same : a ≡ b = others.0 in
    ((cc), others.1)

-- ---- a whole text

-- the first line and the lines of ports were read, and what was left behind them
pub record IsReadTo (text told : List ℕ) (ports : List CaptureDigest) (under : List ℕ) : Type 0 where
  pub first : text ≡ first_line ++ told
  pub read : told ≡ digest_lines 1 ports ++ under
  pub digests : All IsDigest ports
  pub few : length ports ≤ 255
  pub no_more : (d : CaptureDigest) (rest : List ℕ) → IsDigest d → length ports < 255 → under ≢ port_line (length ports + 1) d ++ rest

module _ {text told : List ℕ} {ports : List CaptureDigest} {under : List ℕ} (read : IsReadTo text told ports under) where
  pub front_is : text ≡ first_line ++ (digest_lines 1 ports ++ under)
  front_is = read.first ∙ ap (λ (l : List ℕ). first_line ++ l) read.read

  pub under_is : (ps : List CaptureDigest) (u : CaptureDigest) → AreDigests ps u → text ≡ digests_text ps u → (ports ≡ ps) × (under ≡ underlay_line u ++ [])
  under_is ps u are e =
      let at : 1 + length ports ≡ length ports + 1 = omega arith in
      let most = are.few in
      same_ports 1 ports ps under u [] read.digests are.each
      (λ d rest is less h. read.no_more d rest is (omega arith) (h ∙ ap (λ (n : ℕ). port_line n d ++ rest) at))
      (append_cancel_left first_line _ _ (sym front_is ∙ e) ∙ ap (λ (l : List ℕ). digest_lines 1 ps ++ l) (sym (append-nil (underlay_line u))))

  pub rest_is : (last : CaptureDigest) (rest : List ℕ) → IsDigest last → under ≡ underlay_line last ++ rest
      → (ps : List CaptureDigest) (u : CaptureDigest) → AreDigests ps u → text ≡ digests_text ps u → rest ≡ []
  rest_is last rest is h ps u are e = (same_lines (capture_word taps.Underlay) last u rest [] is are.last (sym h ∙ (under_is ps u are e).1)).1

  pub whole_is : (last : CaptureDigest) (rest : List ℕ) → under ≡ underlay_line last ++ rest → text ≡ digests_text ports last ++ rest
  whole_is last rest h =
      front_is ∙ ap (λ (l : List ℕ). first_line ++ (digest_lines 1 ports ++ l)) h
      ∙ ap (λ (l : List ℕ). first_line ++ l) (sym (append_assoc (digest_lines 1 ports) (underlay_line last) rest))

  pub digests_read : (last : CaptureDigest) → IsDigest last → AreDigests ports last
  digests_read last is = record { each = read.digests; few = read.few; last = is }
