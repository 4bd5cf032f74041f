-- What an endpoint holds, as it is at a later moment.
use Rattle.std.proofs.Common.{◌≡◌, ℕ, ◌≤◌, Bool, Option, Some, None, refl, sym, ap}
use Rattle.std.specs.Option.{option_map, unwrap_or}
use Rattle.std.proofs.Math.Path.{fun_ext}
use Rattle.filter_db.specs.Ageing.{live-live}
use Rattle.filter_db.specs.Table.{Table, nanoseconds}
use Rattle.filter_db.specs.Segment.{Segment, Segments, no_segment}
use Rattle.filter_db.specs.Segment as db
use Rattle.endpoint_core.specs.declared.state.parts.Parts.{Parts}
use Rattle.shared_tables.specs.Segments.{segments_of}
use Rattle.endpoint_core.specs.Held.{Held, pool_of, state_at}
use Rattle.endpoint_core.specs.Learning.{learns}
use Rattle.endpoint_core.specs.State.{State, bridge_of, live_in, aged, settings_of, state_of}

later-one : (t u : ℕ) (learning : Bool) (o : Option Segment) → t ≤ u → (unwrap_or (option_map (db.aged u) o) no_segment).entries ≡ live_in (option_map (bridge_of learning) o) u (unwrap_or (option_map (db.aged t) o) no_segment).entries
later-one t u learning None h = refl
later-one t u learning (Some s) h = sym (live-live (nanoseconds s.ageing) t u s.entries h)

-- to age it at a moment in between changes nothing
pub state-later : {T : Type 0} (segments : T → Segments) (pool : T → ℕ) (parts : Parts T) (t u : ℕ) → t ≤ u → state_of segments pool u parts ≡ aged u (state_of segments pool t parts)
state-later segments pool parts t u h =
    ap (λ (x : ℕ → Table). let s : State = record { settings = settings_of segments pool parts; tables = x } in s)
    (fun_ext (λ vid. later-one t u (learns parts.learning vid) (segments parts.tables vid) h))

-- the same of what an endpoint holds
pub held-later : (held : Held) (t u : ℕ) → t ≤ u → state_at u held ≡ aged u (state_at t held)
held-later held t u h = state-later segments_of pool_of held t u h
