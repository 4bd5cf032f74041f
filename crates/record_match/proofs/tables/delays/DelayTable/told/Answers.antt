use Rattle.std.proofs.Common.{◌≡◌, ℕ, ◌-◌, ◌*◌, ◌/◌, min, ap, ◌∙◌}
use Rattle.record_match.specs.Delays.{Delays, row_at}
use Rattle.record_match.proofs.Summary.{summary_of}
use Rattle.record_match.proofs.tables.delays.DelayTable.told.Goals as goal

pub returns : goal.returns
returns c = λ within delays is few.
    let t : Delays = c.args.self.now in
    let count : c.self.inside.count ≡ t.count = ap (λ (t : Delays). t.count) c.self.view_is in
    let value : ℕ → ℕ = λ rank. min (row_at rank t.rows) 4194303 * t.step in
    summary_of within t delays _ is few c.requires count (ap (λ (t : Delays). t.least) c.self.view_is)
    (c.ranked.ensures ∙ ap (λ (n : ℕ). value (n - n / 2)) count) (c.ranked-2.ensures ∙ ap (λ (n : ℕ). value (n - n / 100)) count)
    (ap (λ (t : Delays). t.greatest) c.self.view_is) (ap (λ (t : Delays). t.step) c.self.view_is)
