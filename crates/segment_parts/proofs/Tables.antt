-- The lines of the tables of a part's segments are those of the whole run's.
use Rattle.std.proofs.Common.{◌≡◌, ℕ, max, Bool, true, false, cond, List, [], Option, Some, None, refl, ap, ◌∙◌}
use Rattle.std.proofs.Math.Path.{fun_ext}
use Rattle.std.specs.List.{flat_map}
use Rattle.std.specs.FinMap.{entries}
use Rattle.segment_set.specs.Segments.{Segments, holds}
use Rattle.endpoint_core.specs.Settings.{Settings}
use Rattle.endpoint_core.specs.State.{live_in}
use Rattle.endpoint_core.specs.Event.{Event}
use Rattle.endpoint_core.specs.Step.{State, has_two_tunnels, opened, state_after}
use Rattle.table_lines.specs.Lines.{entry_line, segment_lines, shown_at, tables_text, vids}
use Rattle.segment_parts.specs.Pieces.{state_among}
use Rattle.segment_parts.proofs.Telling.{moment-kept, settings-kept, tables-kept}

-- the lines of a segment are made of the settings, the moment and its table
lines-same : (vid : ℕ) (s r : State) → s.bridges.settings ≡ r.bridges.settings → s.moment ≡ r.moment → s.bridges.tables vid ≡ r.bridges.tables vid
    → segment_lines s vid ≡ segment_lines r vid
lines-same vid s r settings moment tables =
    ap (λ (S : Settings). flat_map (entry_line (has_two_tunnels S.overlay vid) s.moment vid) (entries (s.bridges.tables vid))) settings
    ∙ ap (λ (now : ℕ). flat_map (entry_line (has_two_tunnels r.bridges.settings.overlay vid) now vid) (entries (s.bridges.tables vid))) moment
    ∙ ap (λ table. flat_map (entry_line (has_two_tunnels r.bridges.settings.overlay vid) r.moment vid) (entries table)) tables

module _ (segments : Segments) (S : Settings) (es : List Event) where
  abbrev part : State
  part = state_among segments (opened S) es

  abbrev whole : State
  whole = state_after (opened S) es

  -- what is shown of both at a moment
  settings-shown : (at : Option ℕ) → (shown_at at part).bridges.settings ≡ (shown_at at whole).bridges.settings
  settings-shown None = settings-kept segments S es
  settings-shown (Some moment) = settings-kept segments S es

  moment-shown : (at : Option ℕ) → (shown_at at part).moment ≡ (shown_at at whole).moment
  moment-shown None = moment-kept segments S es
  moment-shown (Some moment) = ap (max moment) (moment-kept segments S es)

  tables-shown : (at : Option ℕ) (vid : ℕ) → holds segments (Some vid) ≡ true → (shown_at at part).bridges.tables vid ≡ (shown_at at whole).bridges.tables vid
  tables-shown None vid held = tables-kept segments S es vid held
  tables-shown (Some moment) vid held =
      λ i. live_in ((settings-kept segments S es i).bridges vid) (max moment (moment-kept segments S es i)) (tables-kept segments S es vid held i)

  line-shown : (at : Option ℕ) (vid : ℕ) (b : Bool) → holds segments (Some vid) ≡ b
      → cond b (segment_lines (shown_at at part) vid) [] ≡ cond b (segment_lines (shown_at at whole) vid) []
  line-shown at vid true held = lines-same vid (shown_at at part) (shown_at at whole) (settings-shown at) (moment-shown at) (tables-shown at vid held)
  line-shown at vid false held = refl

  pub lines-shown : (at : Option ℕ) → tables_text segments (shown_at at (state_among segments (opened S) es)) ≡ tables_text segments (shown_at at (state_after (opened S) es))
  lines-shown at = ap (λ (f : ℕ → List ℕ). flat_map f vids) (fun_ext (λ vid. line-shown at vid (holds segments (Some vid)) refl))

  pub lines-kept : tables_text segments (state_among segments (opened S) es) ≡ tables_text segments (state_after (opened S) es)
  lines-kept = lines-shown None
