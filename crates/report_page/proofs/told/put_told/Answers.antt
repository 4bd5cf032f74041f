use Rattle.report_page.specs.Told.{told_text}
use Rattle.report_page.proofs.Marks.{table_same}
use Rattle.report_page.proofs.told.put_told.Goals as goal

pub returns : goal.returns
unfolding told_text
returns g c = λ plain ok.
    let moves = c.moves_table-moves.result in
    rw (← table_same c.args.senders.now moves.rows.choice.senders.now c.args.text.now moves.rows.text.now moves.count
    c.moves_table-moves.ensures.senders c.moves_table-moves.ensures.text c.moves_table-moves.ensures.count c.requires)
    (c.write.ensures.writes plain ok)
