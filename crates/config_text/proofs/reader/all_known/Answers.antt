use Rattle.config_text.proofs.Keys.{unknown_here, known_here}
use Rattle.config_text.proofs.reader.all_known.Goals as goal

pub returns-then-not-is_known : goal.returns-then-not-is_known
returns-then-not-is_known c =
    unknown_here c.args.keys.now c.as_str.result.now c.is_known.result c.loop-key.key-iterator (c.in-Some.key.now, c.in-Some.field-0-1.now) c.next.new.self _ c.in-Some.ensures.steps c.is_known.ensures c.as_str.ensures.value c.if-not-is_known.true c.loop-key.invariant

pub loop-key-preserved : goal.loop-key-preserved
loop-key-preserved c =
    known_here c.args.keys.now c.as_str.result.now c.is_known.result c.loop-key.key-iterator (c.in-Some.key.now, c.in-Some.field-0-1.now) c.next.new.self _ c.in-Some.ensures.steps c.is_known.ensures c.as_str.ensures.value c.if-not-is_known.false c.loop-key.invariant
