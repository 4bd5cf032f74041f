use Rattle.std.proofs.Common.{◌∙◌, ◌+◌}
use Rattle.wire.specs.Octets.{octets}
use Rattle.wire.proofs.FillingLemmas.{written4}
use Rattle.wire.proofs.outer.template4.fill.Goals as goal

pub returns-clause-filled : goal.returns-clause-filled
returns-clause-filled c =
    written4 c.args.text.now _ _ _ _ _ _ _ c.args.hop (octets 2 (20 + c.args.len)) (octets 2 c.args.check) c.args.dst (octets 2 c.args.sport) (octets 2 c.args.len) (octets 2 c.args.sum) c.requires.long
    (c.copy_from_slice-7.ensures.after ∙ c.hop.view_is)
    (c.copy_from_slice-6.ensures.after ∙ c.to_be_bytes-5.ensures)
    (c.copy_from_slice-5.ensures.after ∙ c.to_be_bytes-4.ensures)
    c.copy_from_slice-4.ensures.after
    (c.copy_from_slice-3.ensures.after ∙ c.to_be_bytes-3.ensures)
    (c.copy_from_slice-2.ensures.after ∙ c.to_be_bytes-2.ensures)
    (c.copy_from_slice.ensures.after ∙ c.to_be_bytes.ensures)
