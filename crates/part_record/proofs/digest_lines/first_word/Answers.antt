use Rattle.std.proofs.Common.{lit<}
use Rattle.std.proofs.lemmas.Str.Pattern.{split_parts}
use Rattle.part_record.proofs.DigestText.{first_word_found}
use Rattle.part_record.proofs.digest_lines.first_word.Goals as goal

pub returns : goal.returns
returns c = first_word_found c.args.text.now c.split_once.result (split_parts 32 c.args.text.now c.split_once.result c.split_once.ensures.cases (lit< tt))
