use Rattle.json_lines.specs.Outcomes.{words}
use Rattle.json_lines.specs.Puts.{words_behind}
use Rattle.json_lines.proofs.Fits.{fits_both, fits_long, fits_not}
use Rattle.json_lines.proofs.fitting.fits.Goals as goal

pub returns-then-form-gt-MOST_WORDS : goal.returns-then-form-gt-MOST_WORDS
returns-then-form-gt-MOST_WORDS c = fits_long c.args.form.now (words c.args.line.now) c.if-form-gt-MOST_WORDS.true

pub returns-then-words_fit : goal.returns-then-words_fit
returns-then-words_fit c =
    fits_both c.args.form.now (words c.args.line.now) c.found.result.now (words_behind c.behind.result) c.words_fit.result c.end_fits.result
    c.if-form-gt-MOST_WORDS.false c.found.ensures c.words_fit.ensures c.if-words_fit.true c.behind.ensures c.end_fits.ensures

pub returns-else-words_fit : goal.returns-else-words_fit
returns-else-words_fit c =
    fits_not c.args.form.now (words c.args.line.now) c.found.result.now c.words_fit.result
    c.if-form-gt-MOST_WORDS.false c.found.ensures c.words_fit.ensures c.if-words_fit.false
