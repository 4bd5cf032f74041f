use Rattle.std.proofs.Common.{◌≡◌, ◌∙◌, ◌∷◌, refl, sym, ap, subst, length, slice_index_or, arith, Err}
use Rattle.std.proofs.lemmas.List.{get_or_default, set-get_or}
use Rattle.std.specs.Prelude.{OnOk}
use Rattle.part_merge.specs.Coming.{Holds, OpenPart}
use Rattle.part_merge.specs.Merged.{records_at}
use Rattle.part_merge.specs.Numbered.{AddsLine}
use Rattle.part_merge.proofs.Blaming.{no_read, set_reads, writes_behind}
use Rattle.part_merge.proofs.Handing.{unless_then}
use Rattle.part_merge.proofs.Waits.{kept_added, kept_appends, kept_line, none_waits}
use Rattle.part_merge.proofs.merge.put_at.Goals as goal

-- ---- nothing was put

pub returns-in-Err-clause-put : goal.returns-in-Err-clause-put
returns-in-Err-clause-put g c = λ s. record {
  behind_it = slice_index_or c.args.parts.now c.args.index s;
  changed = sym (set-get_or c.args.parts.now c.args.index s);
  count = refl;
  event = λ ports p ps cuts holds. c.in-Err.ensures.kept;
}

pub returns-in-Err-clause-reads : goal.returns-in-Err-clause-reads
returns-in-Err-clause-reads g c = no_read {T = Unit {0}} _ _ (Err c.in-Err.fault) c.in-Err.ensures.no_read refl

pub returns-in-Err-clause-waits : goal.returns-in-Err-clause-waits
returns-in-Err-clause-waits g c = none_waits {T = Unit {0}} _ (Err c.in-Err.fault) c.in-Err.ensures.no_read

-- ---- the event was put behind what was handed on

pub put_event-requires : goal.put_event-requires
put_event-requires g c = omega (arith, c.hand_on_before.auto.port_sinks, c.requires.count c.index-parts-index-2.result)

pub returns-clause-put : goal.returns-clause-put
returns-clause-put g c = λ s.
    let same = get_or_default c.args.parts.now c.args.index s c.index-parts-index-2.result c.requires.there in
    let many : length c.hand_on_before.new.port_sinks ≡ length c.args.port_sinks.now = omega (arith, c.hand_on_before.auto.port_sinks) in
    record {
      behind_it = c.put_event.new.self;
      changed = refl;
      count = c.put_event.ensures.ports ∙ ap (λ (x : OpenPart). length x.ports) (sym same);
      event = λ ports p ps cuts holds.
          unless_then c.put_event.result _ _ (c.put_event.ensures.event ports p ps cuts (subst (Holds ports (p ∷ ps) cuts) same holds)) (λ a. (
            a.0,
            kept_added (λ t. records_at t p.records) c.args.port_sinks.now c.hand_on_before.new.port_sinks c.put_event.new.port_sinks c.args.underlay_sink.now c.hand_on_before.new.underlay_sink c.put_event.new.underlay_sink many c.in_default.ensures.kept.0 a.1,
            kept_appends (g.W.Output.written c.args.decisions.now) (g.W.Output.written c.hand_on_before.new.decisions) (g.W.Output.written c.put_event.new.decisions) p.line c.in_default.ensures.kept.1 a.2,
          ));
    }

pub returns-clause-line : goal.returns-clause-line
returns-clause-line g c = λ s.
    let same = get_or_default c.args.parts.now c.args.index s c.index-parts-index-2.result c.requires.there in
    kept_line (slice_index_or c.args.parts.now c.args.index s).coming (g.W.Output.written c.args.decisions.now) (g.W.Output.written c.hand_on_before.new.decisions) (g.W.Output.written c.put_event.new.decisions) c.put_event.result
    c.in_default.ensures.kept.1
    (subst (λ (x : OpenPart). OnOk c.put_event.result (AddsLine x.coming (g.W.Output.written c.hand_on_before.new.decisions) (g.W.Output.written c.put_event.new.decisions))) (sym same) c.put_event.ensures.put)

pub returns-clause-reads : goal.returns-clause-reads
returns-clause-reads g c = set_reads c.args.parts.now c.args.index c.index-parts-index-2.result c.put_event.new.self c.put_event.result c.requires.there c.put_event.ensures.reads

pub returns-clause-writes : goal.returns-clause-writes
returns-clause-writes g c =
    writes_behind c.args.port_sinks.now c.args.underlay_sink.now (g.W.Output.failures c.args.decisions.now) c.hand_on_before.new.port_sinks c.hand_on_before.new.underlay_sink (g.W.Output.failures c.hand_on_before.new.decisions)
    c.put_event.new.port_sinks c.put_event.new.underlay_sink (g.W.Output.failures c.put_event.new.decisions) c.put_event.result c.in_default.ensures.writes c.put_event.ensures.writes
