-- A row's members, from the words that tell them.
use Rattle.std.proofs.Common.{◌≡◌, ℕ, ◌<◌, ◌≤◌, true, false, List, length, Option, Some, None, IfSome, IfNone, sym, ap, ◌∙◌}
use Rattle.std.specs.Prelude.{is_some}
use Rattle.overlay.specs.Bits.{stands_in, is_member_in, segment_in}
use Rattle.overlay.specs.Row.{Row, is_member}
use Rattle.overlay.specs.declared.ports.port.PortRule.{PortRule}
use Rattle.overlay.proofs.SegmentLemmas.{egress-segment, egress-no_segment, egress-outside, member-egress}

pub if_none : (o : Option ℕ) {P Q : Type 0} → (P → Q) → IfNone o P → IfNone o Q
if_none None f p = f p
if_none (Some b) f p = tt

pub if_some : (o : Option ℕ) {P Q : ℕ → Type 0} → ((b : ℕ) → P b → Q b) → IfSome o P → IfSome o Q
if_some None f p = tt
if_some (Some b) f p = f b p

pub if_some_both : (o : Option ℕ) {P Q R : ℕ → Type 0} → ((b : ℕ) → P b → Q b → R b) → IfSome o P → IfSome o Q → IfSome o R
if_some_both None f p q = tt
if_some_both (Some b) f p q = f b p q

module _ (ports : List PortRule) (words : List ℕ) (vid : ℕ) (r : Row) (is : ◌≡◌ {A = Row} (record { ports = ports; members = segment_in (length ports) words vid }) r) where
  pub member-in : (p : ℕ) → stands_in words vid ≡ true → 1 ≤ p → p ≤ length ports → is_member r p ≡ is_member_in words vid p
  member-in p stands low high =
      ap (λ (t : Row). is_member t p) (sym is) ∙ ap is_some (egress-segment (length ports) words vid p low high stands) ∙ member-egress words vid p

  pub member-none : (p : ℕ) → stands_in words vid ≡ false → is_member r p ≡ false
  member-none p lacks = ap (λ (t : Row). is_member t p) (sym is) ∙ ap is_some (egress-no_segment (length ports) words vid p lacks)

  pub member-outside : (p : ℕ) → length ports < p → is_member r p ≡ false
  member-outside p out = ap (λ (t : Row). is_member t p) (sym is) ∙ ap is_some (egress-outside (length ports) words vid p (λ _. out))

  pub row-length : length ports ≡ length r.ports
  row-length = ap (λ (t : Row). length t.ports) is
