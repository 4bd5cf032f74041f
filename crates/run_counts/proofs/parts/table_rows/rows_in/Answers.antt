use Rattle.std.proofs.Common.{◌≡◌, ◌∙◌, ◌∷◌, ◌++◌, List, [], ap, rules, sym}
use Rattle.std.specs.List.{flat_map}
use Rattle.std.proofs.lemmas.List.Elements.{All-push, All-same}
use Rattle.run_counts.specs.Tables.{IsRow, row_text}
use Rattle.run_counts.specs.declared.parts.table_row.TableRow.{TableRow}
use Rattle.run_counts.proofs.RowLemmas.{row_more}
use Rattle.run_counts.proofs.parts.table_rows.rows_in.Goals as goal

pub loop-rest-preserved : goal.loop-rest-preserved
loop-rest-preserved c =
    let rows = c.loop-rest.rows.items in
    let row = c.in-Some.row in
    let behind = c.in-Some.behind.now in
    let pushed : c.push.new.self.items ≡ rows ++ row ∷ [] = search rules in
    record {
      text = row_more c.args.text.now c.loop-rest.rest.now behind rows row c.loop-rest.invariant.text c.in-Some.ensures.1
          ∙ ap (λ (xs : List TableRow). flat_map row_text xs ++ behind) (sym pushed);
      rows = All-same (IsRow c.args.segments.now) c.push.new.self.items (rows ++ row ∷ []) pushed
          (All-push (IsRow c.args.segments.now) rows row c.loop-rest.invariant.rows c.in-Some.ensures.0);
    }
