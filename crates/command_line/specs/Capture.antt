-- The name of a capture on a command line: a file, and the interface whose packets are taken, as `FILE#INTERFACE`.
-- It states no standard.
use Rattle.std.specs.Prelude.{ℕ, ◌==◌, if◌then◌else◌, length, Option, Some, None}
use Rattle.std.specs.Path.{rsplit_once}
use Rattle.clap.specs.Words.{Text}

-- the character that parts them: `#`
abbrev pub interface_mark : ℕ
interface_mark = 35

-- the file by what stands around the last mark of a name, or the whole name where it has none
abbrev pub file_by : Text → Option (Text × Text) → Text
file_by name None = name
file_by name (Some parts) = parts.0

-- the interface, where something stands behind the last mark
abbrev pub interface_by : Option (Text × Text) → Option Text
interface_by None = None
interface_by (Some parts) = if length parts.1 == 0 then None else Some parts.1

-- the file of a capture's name
abbrev pub file_of : Text → Text
file_of name = file_by name (rsplit_once interface_mark name)

-- the interface of a capture's name, if it has one
abbrev pub interface_of : Text → Option Text
interface_of name = interface_by (rsplit_once interface_mark name)
