use Rattle.std.proofs.Common.{◌∙◌, ap, drop, List, ℕ}
use Rattle.pcap.proofs.Aheads.{left_between, size_between}
use Rattle.pcapng_input.specs.Adapter.{Gathered}
use Rattle.pcapng_input.proofs.gathered.Gathered.forget.Goals as goal

pub returns : goal.returns
returns g c =
    let inside = c.self.inside in
    let held = ap (λ (x : Gathered). x.held) c.self.view_is in
    let size = size_between inside.room.items inside.from inside.to c.args.count c.args.self.now.held c.self.invariant.0 c.requires held in
    ap (λ (t : List ℕ). with_held t) (left_between inside.room.items inside.from inside.to c.args.count size)
    ∙ ap (λ (x : Gathered). behind x) c.self.view_is
  where
    behind : Gathered → Gathered
    behind x = record { held = drop c.args.count x.held; supply = x.supply }

    with_held : List ℕ → Gathered
    with_held t = record {
      held = t;
      supply = record {
        rest = g.R.Input.remaining c.self.inside.input;
        calls = g.R.Input.calls c.self.inside.input;
        failures = g.R.Input.failures c.self.inside.input;
        ends = 0;
        reads = c.self.inside.reads;
      };
    }
