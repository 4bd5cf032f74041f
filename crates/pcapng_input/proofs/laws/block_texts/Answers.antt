use Rattle.pcapng_input.proofs.BlockTexts.{finds_block_texts, reads_block_texts}
use Rattle.pcapng_input.proofs.laws.block_texts.Goals as goal

pub returns-clause-reads : goal.returns-clause-reads
returns-clause-reads c = reads_block_texts

pub returns-clause-finds : goal.returns-clause-finds
returns-clause-finds c = finds_block_texts
