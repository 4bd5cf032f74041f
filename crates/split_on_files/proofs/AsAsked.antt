-- What is told in front of a text.
use Rattle.std.proofs.Common.{refl}
use Rattle.pcapng_input.specs.Adapted.{told_text}
use Rattle.split_on_files.specs.Pass.{TellsAsAsked}

pub tells_as_asked : TellsAsAsked
unfolding told_text
tells_as_asked number text = refl
