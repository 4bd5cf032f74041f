use Rattle.std.proofs.Common.{◌∙◌, ap, arith}
use Rattle.std.specs.Io.Buffered.{reader_remaining}
use Rattle.program_files.specs.Device.{left_in}
use Rattle.program_files.proofs.Opening.{unread}
use Rattle.program_files.proofs.inputs.open_blocks.Goals as goal

pub returns-in-Ok-with_capacity : goal.returns-in-Ok-with_capacity
returns-in-Ok-with_capacity g c =
    let left = left_in g.R.File.Read.remaining g.R.Reader.Read.remaining in
    record {
      left = (
        c.if-eq.device,
        ap (reader_remaining left) c.new.ensures.reader
            ∙ unread left c.in-Ok-with_capacity.reader c.if-eq.device 32768 c.in-Ok-with_capacity.ensures.inner c.in-Ok-with_capacity.ensures.empty c.in-Ok-with_capacity.ensures.capacity (omega arith),
      );
    }
