-- The lines of captures.
use Rattle.std.proofs.Common.{◌≡◌, ◌≢◌, ◌∙◌, sym, refl, ap, ℕ, suc, ◌+◌, ◌<◌, List, [], ◌∷◌, ◌++◌, length, codes, decimal, All, Option, None, Some, MatchOption, Bor, arith, add-zero, append_assoc}
use Rattle.std.proofs.lemmas.List.{append_cancel_left}
use Rattle.std.proofs.lemmas.List.Elements.{All-head, All-tail}
use Rattle.hex.specs.Hex.{encode_lower}
use Rattle.timeline.specs.declared.source.Tap.TheVariants as taps
use Rattle.part_record.specs.Record.{capture_line, capture_word, port_lines, sum_line}
use Rattle.part_record.specs.Sum.{IsSum}
use Rattle.part_record.proofs.Lines.{line-append, same_sum_lines}

pub port_line_parts : (port : ℕ) (sum rest : List ℕ)
    → capture_line (taps.Port port) sum ++ rest ≡ codes "capture p" ++ (decimal port ++ (sum_line (codes " ") sum ++ rest))
port_line_parts port sum rest =
    line-append (capture_word (taps.Port port)) (encode_lower sum) rest
    ∙ ap (λ (l : List ℕ). codes "capture p" ++ l)
    (append_assoc (decimal port) (codes " ") (encode_lower sum ++ 10 ∷ rest) ∙ ap (λ (l : List ℕ). decimal port ++ l) (sym (line-append (codes " ") (encode_lower sum) rest)))

pub port_found : (text numbered told : List ℕ) (port : ℕ) (r : Option (List ℕ × Bor (List ℕ)))
    → text ≡ codes "capture p" ++ numbered → numbered ≡ decimal port ++ told
    → MatchOption r ((sum rest : List ℕ) → IsSum sum → told ≢ sum_line (codes " ") sum ++ rest) (λ found. IsSum found.0 × (told ≡ sum_line (codes " ") found.0 ++ found.1.now))
    → MatchOption r ((sum rest : List ℕ) → IsSum sum → text ≢ capture_line (taps.Port port) sum ++ rest)
    (λ found. IsSum found.0 × (text ≡ capture_line (taps.Port port) found.0 ++ found.1.now))
port_found text numbered told port None e h none = λ sum rest is f.
    none sum rest is (append_cancel_left (decimal port) _ _ (sym h ∙ append_cancel_left (codes "capture p") _ _ (sym e ∙ f ∙ port_line_parts port sum rest)))
port_found text numbered told port (Some found) e h some =
    (some.0, e ∙ ap (λ (l : List ℕ). codes "capture p" ++ l) (h ∙ ap (λ (l : List ℕ). decimal port ++ l) some.1) ∙ sym (port_line_parts port found.0 found.1.now))

-- ---- lines of ports in turn

-- a text doesn't go on with the capture of a port
abbrev pub LacksPort : List ℕ → Type 0
LacksPort text = (rest : List ℕ) → text ≢ codes "capture p" ++ rest

-- as many ports are read as there are
pub same_ports : (port : ℕ) (a b : List (List ℕ)) (r q : List ℕ) → All IsSum a → All IsSum b → LacksPort q
    → ((sum rest : List ℕ) → IsSum sum → length a < length b → r ≢ capture_line (taps.Port (port + length a)) sum ++ rest)
    → port_lines port a ++ r ≡ port_lines port b ++ q → (a ≡ b) × (r ≡ q)
same_ports port [] [] r q f g lacks none e = (refl, e)
same_ports port [] (y ∷ b) r q f g lacks none e =
    let shown : r ≡ capture_line (taps.Port (port + 0)) y ++ (port_lines (port + 1) b ++ q) =
    rw add-zero (e ∙ append_assoc (capture_line (taps.Port port) y) (port_lines (port + 1) b) q) in
    absurd (none y (port_lines (port + 1) b ++ q) (All-head IsSum y b g) (omega arith) shown)
same_ports port (x ∷ a) [] r q f g lacks none e =
    absurd (lacks _ (sym e ∙ append_assoc (capture_line (taps.Port port) x) (port_lines (port + 1) a) r ∙ port_line_parts port x (port_lines (port + 1) a ++ r)))
same_ports port (x ∷ a) (y ∷ b) r q f g lacks none e =
    let both = same_sum_lines (capture_word (taps.Port port)) x y (port_lines (port + 1) a ++ r) (port_lines (port + 1) b ++ q) (All-head IsSum x a f) (All-head IsSum y b g)
    (sym (append_assoc (capture_line (taps.Port port) x) (port_lines (port + 1) a) r) ∙ e ∙ append_assoc (capture_line (taps.Port port) y) (port_lines (port + 1) b) q) in
    let others = same_ports (port + 1) a b r q (All-tail IsSum x a f) (All-tail IsSum y b g) lacks
    (λ sum rest is less h. none sum rest is (omega arith) (h ∙ ap (λ (n : ℕ). capture_line (taps.Port n) sum ++ rest) (let same : port + 1 + length a ≡ port + suc (length a) = omega arith in same)))
    both.1 in
    let first : x ≡ y = both.0 in
    let same : a ≡ b = others.0 in
    ((cc), others.1)
