-- An endpoint that has one segment alone. It states no standard.
use Rattle.std.specs.Prelude.{ℕ, ◌==◌, if◌then◌else◌, Option, Some, None}
use Rattle.std.specs.Ordering.{nat_cmp}
use Rattle.std.specs.FinMap.{FinMap, empty, insert}
use Rattle.overlay.specs.Ports.{members_at}
use Rattle.overlay.specs.Overlay.{segment_at as overlay_segment}
use Rattle.endpoint_core.specs.Settings.{Settings}

-- this value at this key, if it is one, and nothing else
abbrev pub just : {X : Type 0} → ℕ → Option X → FinMap nat_cmp X
just vid None = empty
just vid (Some x) = insert empty vid x

-- the same underlay, ports and pool, and of all segments that of this VID, where it is there
abbrev pub single : ℕ → Settings → Settings
single vid S = record {
  ports = record { ports = S.ports.ports; segments = just vid (members_at S.ports vid) };
  overlay = record { underlay = S.overlay.underlay; segments = just vid (overlay_segment S.overlay vid) };
  bridges = λ w. if w == vid then S.bridges vid else None;
  pool = S.pool;
}
