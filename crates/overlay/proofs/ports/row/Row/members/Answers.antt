use Rattle.std.proofs.Common.{◌≡◌, ◌∙◌, ◌-◌, ◌≤◌, ℕ, length, sym, ap, arith}
use Rattle.std.specs.List.{filter, range_with_len}
use Rattle.overlay.specs.Row.{is_member}
use Rattle.overlay.specs.Bits.{is_member_in}
use Rattle.overlay.specs.Walk.{members_above}
use Rattle.overlay.proofs.RowLemmas.{member-in, member-none, row-length}
use Rattle.overlay.proofs.WalkLemmas.{alike, nothing-above}
use Rattle.overlay.proofs.ports.row.Row.members.Goals as goal
use Rattle.overlay.proofs.ports.row.Row.members.Goals.{then-stands, else-stands}

pub returns : goal.returns
returns c =
    let ports = c.self.inside.ports.now in
    let words = c.self.inside.words.now in
    let vid = c.self.inside.vid in
    let r = c.args.self.now in
    let same = row-length ports words vid r c.self.view_is in
    c.new.ensures ∙ elim c.if-stands.branch [
      | then-stands w ↦
          let there = sym c.stands.ensures ∙ w.if-stands.true in
          let all : length ports - 0 ≡ length ports = omega arith in
          ap (λ (n : ℕ). members_above words vid n 0) w.ports-is
          ∙ ap (λ (n : ℕ). filter (is_member_in words vid) (range_with_len 1 n)) all
          ∙ alike (is_member_in words vid) (is_member r) 1 (length ports) (λ p low less. sym (member-in ports words vid r c.self.view_is p there low (omega (arith, less))))
          ∙ ap (λ (n : ℕ). filter (is_member r) (range_with_len 1 n)) same
      | else-stands w ↦
          let lacks = sym c.stands.ensures ∙ w.if-stands.false in
          ap (λ (n : ℕ). members_above words vid n 0) w.ports-is
          ∙ sym (nothing-above (is_member r) 1 (length r.ports) (λ p low less. member-none ports words vid r c.self.view_is p lacks))
    ]
