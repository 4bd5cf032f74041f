use Rattle.std.proofs.Common.{◌≡◌, ◌∙◌, ℕ, nat_le, ap, arith}
use Rattle.std.specs.FinMap.{len}
use Rattle.filter_db.specs.Segment.{Segment}
use Rattle.filter_db.proofs.ListLemmas.{len-segment_of}
use Rattle.filter_db.proofs.table.Table.is_at_limit.Goals as goal

pub returns : goal.returns
returns c =
    let s = c.args.self.now in
    let limit : c.self.inside.limit ≡ s.limit = ap (λ (t : Segment). t.limit) c.self.view_is in
    let count : c.len.result ≡ len s.entries = omega (arith, c.len.ensures, c.self.inside.rows.ok.0, len-segment_of c.self.inside.rows.items c.self.view_is c.self.invariant.unique) in
    ap (λ (n : ℕ). nat_le n c.len.result) limit ∙ ap (λ (n : ℕ). nat_le s.limit n) count
