use Rattle.std.proofs.Common.{◌≡◌, map, drop}
use Rattle.config_text.specs.Column.{word_in}
use Rattle.config_text.proofs.column.WordsColumn.read.Given as goal

abbrev pub invariant-loop-word : goal.invariant-loop-word
invariant-loop-word g l =
    word_in (map (λ w. (w.0.now, w.1)) (drop l.word-index l.self.words.now)) l.text ≡ word_in (map (λ w. (w.0.now, w.1)) l.self.words.now) l.text
