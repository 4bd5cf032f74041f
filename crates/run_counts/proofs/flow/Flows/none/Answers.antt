use Rattle.std.proofs.Common.{◌≡◌, refl, ℕ, zero, suc, [], replicate, slice_index_or}
use Rattle.timeline.specs.declared.source.Tap.{Tap}
use Rattle.timeline.specs.declared.source.Tap.TheVariants.{Port, Underlay}
use Rattle.run_counts.specs.Keeping.{flow_in, no_flow}
use Rattle.run_counts.specs.Totals.{flow_of}
use Rattle.run_counts.specs.declared.flow.Flow.{Flow}
use Rattle.run_counts.proofs.flow.Flows.none.Goals as goal

none_at : (n port : ℕ) (w : Flow) → w ≡ flow_of [] → slice_index_or (replicate n w) port no_flow ≡ flow_of []
none_at zero port w is = refl
none_at (suc n) zero w is = is
none_at (suc n) (suc port) w is = none_at n port w is

none_yet : (tap : Tap) (first last : Flow) → first ≡ flow_of [] → last ≡ flow_of [] → flow_in (record { ports = replicate 256 first; underlay = last }) tap ≡ flow_of []
none_yet (Port port) first last a b = none_at 256 port first a
none_yet Underlay first last a b = b

pub returns : goal.returns
returns c tap = none_yet tap c.none.result c.none-2.result c.none.ensures c.none-2.ensures
