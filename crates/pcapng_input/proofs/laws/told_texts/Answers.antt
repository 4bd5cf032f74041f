use Rattle.pcapng_input.proofs.Opening.{tells_classic, tells_others}
use Rattle.pcapng_input.proofs.laws.told_texts.Goals as goal

pub returns-clause-pcapng : goal.returns-clause-pcapng
returns-clause-pcapng c = tells_classic

pub returns-clause-others : goal.returns-clause-others
returns-clause-others c = tells_others
