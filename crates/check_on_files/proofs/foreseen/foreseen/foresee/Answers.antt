use Rattle.std.proofs.Common.{◌≡◌, ◌∙◌, ◌<◌, ap, sym, arith, ℕ, length}
use Rattle.std.specs.List.{filter_map, range_with_len}
use Rattle.endpoint_core.specs.Change.{changed, refused}
use Rattle.endpoint_core.specs.Opened.{settings_told}
use Rattle.endpoint_core.specs.Settings.{Settings}
use Rattle.endpoint_core.specs.State.{State}
use Rattle.check_on_files.specs.Foreseen.{refusal_at}
use Rattle.check_on_files.proofs.Listing.{listed_one, settings_more}
use Rattle.check_on_files.proofs.foreseen.foreseen.foresee.Goals as goal

pub loop-index-init : goal.loop-index-init
loop-index-init c = record {
  moment = c.in_ok-state.ensures.moment;
  settings = ap (λ (s : State). s.settings) (c.in_ok-state.ensures.state 0);
  told = c.new-list.ensures.items;
}

pub loop-index-preserved : goal.loop-index-preserved
loop-index-preserved c =
    let S = settings_told c.args.settings in
    let changes = c.args.changes.now in
    let k = c.loop-index.index in
    let next = c.index-changes-index.result in
    let there : k < length changes = omega (arith, c.loop-index-test.true) in
    let so_far = c.loop-index.invariant in
    record {
      moment = c.refuse-fault.ensures.time;
      settings = c.refuse-fault.ensures.settings ∙ ap (λ (S : Settings). changed S next.change) so_far.settings ∙ sym (settings_more S changes k next there c.index-changes-index.is);
      told = listed_one S changes k next c.loop-index.list.items c.put.new.list.items c.refuse-fault.result there c.index-changes-index.is so_far.told
          (c.refuse-fault.ensures.fault ∙ ap (λ (S : Settings). refused S next.change) so_far.settings) c.in_ok-put.ensures;
    }

pub returns : goal.returns
returns c =
    let changes = c.args.changes.now in
    let end : c.loop-index.index ≡ length changes = omega (arith, c.loop-index-test.false, c.loop-index.auto.index-end) in
    c.loop-index.invariant.told ∙ ap (λ (n : ℕ). filter_map (refusal_at (settings_told c.args.settings) changes) (range_with_len 0 n)) end
