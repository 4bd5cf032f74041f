-- The versions of settings. It states no standard.
use Rattle.std.specs.Prelude.{ℕ, ◌==◌, if◌then◌else◌}
pub use Rattle.overlay_config.specs.declared.version.Version.{Version}
use Rattle.overlay_config.specs.declared.version.Version.TheVariants.{One, Two, Three}

-- the version of a number, 1 to 3
abbrev pub version_named : ℕ → Version
version_named n = if n == 1 then One else (if n == 2 then Two else Three)
