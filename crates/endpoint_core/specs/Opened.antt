-- What an endpoint begins with. It states no standard.
use Rattle.std.specs.Prelude.{◌==◌, find, map}
use Rattle.std.specs.Option.{option_map}
use Rattle.std.specs.FinMap.{empty}
use Rattle.overlay.specs.Ports as ports
use Rattle.overlay.specs.Overlay as overlay
use Rattle.overlay.specs.Settings.{Settings as Told, member_rule, tunnel_rule}
use Rattle.endpoint_core.specs.Learning.{tells_learning}
use Rattle.endpoint_core.specs.Settings.{Settings}
use Rattle.endpoint_core.specs.State.{State}

-- the settings in force that settings tell
abbrev pub settings_told : Told → Settings
settings_told s = record {
  ports = ports.told s.ports (map member_rule s.segments);
  overlay = overlay.told s.underlay (map tunnel_rule s.segments);
  bridges = λ vid. option_map (λ rule. record { limit = rule.limit; ageing = rule.ageing; learning = tells_learning s.segments vid })
      (find (λ rule. rule.vid == vid) s.segments);
  pool = s.pool;
}

-- nothing is learned yet
abbrev pub opened : Told → State
opened s = record { settings = settings_told s; tables = λ vid. empty }
