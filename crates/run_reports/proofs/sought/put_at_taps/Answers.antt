use Rattle.std.proofs.Common.{ℕ, ◌≡◌, ◌∙◌, ap, sym, List, map, [], ◌∷◌, ◌++◌, append_assoc, arith}
use Rattle.timeline.specs.declared.source.Tap.TheVariants.{Port, Underlay}
use Rattle.run_reports.specs.Sought.{address_at, numbers_from}
use Rattle.run_reports.specs.declared.sought.SoughtAddress.{SoughtAddress}
use Rattle.run_reports.proofs.Seeking.{put_more, taps_put}
use Rattle.run_reports.proofs.sought.put_at_taps.Goals as goal

pub loop-index-preserved : goal.loop-index-preserved
loop-index-preserved c =
    let before = c.loop-index.addresses.items in
    put_more (λ (port : ℕ). address_at c.args.place c.args.address (Port port)) c.args.addresses.now.items before c.push.new.self.items c.loop-index.index c.loop-index.invariant (c.in_ok-push.ensures.items ∙ ap (λ (k : SoughtAddress). before ++ k ∷ []) c.address_at.ensures)

pub returns : goal.returns
returns c =
    let old = c.args.addresses.now.items in
    let f : ℕ → SoughtAddress = λ port. address_at c.args.place c.args.address (Port port) in
    let last : SoughtAddress = address_at c.args.place c.args.address Underlay in
    let end : c.loop-index.index ≡ 255 = omega arith in
    c.in_ok-push-2.ensures.items
    ∙ ap (λ (k : SoughtAddress). c.loop-index.addresses.items ++ k ∷ []) c.address_at-2.ensures
    ∙ ap (λ (ks : List SoughtAddress). ks ++ last ∷ []) (c.loop-index.invariant ∙ ap (λ (n : ℕ). old ++ map f (numbers_from 1 n)) end)
    ∙ append_assoc old (map f (numbers_from 1 255)) (last ∷ [])
    ∙ ap (λ (ks : List SoughtAddress). old ++ ks) (sym (taps_put c.args.place c.args.address (numbers_from 1 255)))
