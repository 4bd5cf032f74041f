-- The names of tables of what is compared. It states no standard.
use Rattle.std.specs.Prelude.{if◌then◌else◌, Option, None, Some}
use Rattle.clap.specs.Words.{Text}
use Rattle.compare_reports.specs.Told.{is_table_name}
use Rattle.command_line.specs.Meaning.{Meaning, compare, compare_worked}

-- a name, where no table has it
abbrev pub unknown_table : Option Text → Option Text
unknown_table None = None
unknown_table (Some name) = if is_table_name name then None else Some name

-- that by which a table is asked for
abbrev pub no_table_in : Meaning → Option Text
no_table_in (compare sent received within shift lists by ignores json) = unknown_table by
no_table_in (compare_worked worked underlay ports within shift settings strict lists by ignores json) = unknown_table by
no_table_in _ = None
