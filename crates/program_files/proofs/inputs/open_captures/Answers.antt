use Rattle.std.proofs.Common.{◌≡◌, ◌+◌, ◌∷◌, [], ◌++◌, List, Bor, ℕ, All, arith, refl, rules, sym, subst, take}
use Rattle.std.proofs.lemmas.List.{take_all}
use Rattle.std.proofs.lemmas.List.Elements.{All-push}
use Rattle.pcap.specs.Source.{New, Stream}
use Rattle.program_files.specs.Opened.{AreOpened}
use Rattle.program_files.proofs.Opening.{one_more}
use Rattle.program_files.proofs.inputs.open_captures.Goals as goal

pub loop-name-init : goal.loop-name-init
loop-name-init g c =
    record {
      count = search rules;
      fresh = search rules;
      told = subst (AreOpened g.R.File.Read.remaining g.R.Reader.Read.remaining []) (sym c.new-captures.ensures.items) tt;
    }

pub loop-name-preserved : goal.loop-name-preserved
loop-name-preserved g c =
    let files = g.R.File.Read.remaining in
    let input = g.R.Reader.Read.remaining in
    let at = c.loop-name in
    let items : c.push.new.self.items ≡ at.captures.items ++ (c.in-Ok.capture ∷ []) = search rules in
    let fresh = All-push (λ (s : Stream). s.standing ≡ New) at.captures.items c.in-Ok.capture at.invariant.fresh c.in-Ok.ensures.fresh in
    let told = one_more files input c.args.names.now at.captures.items _ c.in-Ok.capture at.name-index c.loop-name-test.true (_, refl) c.in-Ok.ensures.told at.invariant.told in
    record {
      count = search rules;
      fresh = subst (All (λ (s : Stream). s.standing ≡ New)) (sym items) fresh;
      told = subst (AreOpened files input (take (at.name-index + 1) c.args.names.now)) (sym items) told;
    }

pub returns-clause-told : goal.returns-clause-told
returns-clause-told g c =
    let at = c.loop-name in
    subst (λ (names : List (Bor (List ℕ))). AreOpened g.R.File.Read.remaining g.R.Reader.Read.remaining names at.captures.items)
    (take_all at.name-index c.args.names.now (omega (arith, c.loop-name-test.false))) at.invariant.told
