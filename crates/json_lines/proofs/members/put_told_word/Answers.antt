use Rattle.std.proofs.Common.{arith, [], get_or}
use Rattle.json_lines.specs.Outcomes.{words}
use Rattle.json_lines.specs.declared.forms.Word.TheVariants.{Is}
use Rattle.json_lines.proofs.Fits.{fits_few, fits_words, word_fitting}
use Rattle.json_lines.proofs.Values.{puts_same, told_none, told_same}
use Rattle.json_lines.proofs.members.put_told_word.Goals as goal

pub word-requires : goal.word-requires
word-requires c = omega (arith, fits_few c.args.form.now (words c.args.line.now) c.requires)

pub put_word-requires : goal.put_word-requires
put_word-requires c =
    rw c.word.ensures (word_fitting c.args.form.now.words.now (words c.args.line.now) c.args.at (Is record { ref_ptr = (0, 0); now = [] })
    (fits_words c.args.form.now (words c.args.line.now) c.requires) c.if-at-form.true)

pub returns-then-at-form : goal.returns-then-at-form
returns-then-at-form c =
    puts_same c.put_word.result c.args.out.now.items c.put_word.new.out.items _ _
    (told_same c.args.form.now.words.now (words c.args.line.now) c.args.at (Is record { ref_ptr = (0, 0); now = [] }) c.word.result.now c.if-at-form.true c.word.ensures) c.put_word.ensures

pub returns-else-at-form : goal.returns-else-at-form
returns-else-at-form c =
    puts_same c.put_quoted.result c.args.out.now.items c.put_quoted.new.out.items _ _
    (told_none c.args.form.now.words.now (get_or (words c.args.line.now) c.args.at []) c.args.at c.if-at-form.false) c.put_quoted.ensures
