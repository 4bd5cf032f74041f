use Rattle.std.proofs.Common.{rules, []}
use Rattle.text_advice.specs.Search.{block_of}
use Rattle.text_advice.proofs.Tables.{step_numbered, step_named}
use Rattle.text_advice.proofs.path.+target.Goals as goal

pub returns-in-Some : goal.returns-in-Some
returns-in-Some t c =
    rw (step_numbered c.args.around.now (block_of c.args.block) c.args.parts.now (record { ref_ptr = (0, 0); now = [] }) (block_of c.in-Some.found) (search rules) (search rules) (search rules)) (rw (c.as_slice-in-Some.ensures.value, c.in_ok-name-in-len2-up.ensures) at c.target.ensures)

pub returns-in-Some-table_in : goal.returns-in-Some-table_in
returns-in-Some-table_in t c =
    rw (step_named c.args.around.now (block_of c.args.block) c.args.parts.now (record { ref_ptr = (0, 0); now = [] }) (block_of c.in-Some-table_in.found) (search rules) (search rules) (search rules)) (rw (c.as_slice-in-Some-table_in.ensures.value, c.in_ok-name-in-len2-up.ensures) at c.target-in-Some-table_in.ensures)
