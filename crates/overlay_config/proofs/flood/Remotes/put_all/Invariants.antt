use Rattle.std.proofs.Common.{◌≡◌, map, drop, true}
use Rattle.toml.specs.View.{view}
use Rattle.config_text.specs.Column.{gathered}
use Rattle.overlay_config.specs.Flood.{put_remote, is_roomy}
use Rattle.overlay_config.proofs.flood.Remotes.put_all.Given as goal

abbrev pub invariant-loop-value : goal.invariant-loop-value
invariant-loop-value l =
    let put = put_remote l.self.own l.self.most l.self.kind in
    record {
      rest : gathered put l.longer (map view (drop l.value-index l.items)) ≡ gathered put l.fn.list (map view l.items);
      room : is_roomy l.self.most l.longer l.room ≡ true;
    }
