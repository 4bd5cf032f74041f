-- The moments of changes that are read rise.
use Rattle.std.proofs.Common.{◌≡◌, ◌+◌, [], ◌∷◌, List, length, nat_lt, Result, Ok, Err, IfOk, Vec, codes, subst}
use Rattle.std.proofs.lemmas.Bool.{ltb-false}
use Rattle.std.specs.declared.alloc.Global.{Global}
use Rattle.toml.specs.Data.{Members}
use Rattle.config_text.specs.declared.fault.SettingsFault.{SettingsFault}
use Rattle.config_text.specs.declared.fault.SettingsFault.TheVariants.{NotRising}
use Rattle.config_text.specs.Fault.{GivesAs}
use Rattle.config_text.specs.Column.{range, one_of}
use Rattle.config_text.specs.Table.{Place, top, only, required, optional, limited_items, numbered, refuse_if}
use Rattle.overlay.specs.declared.settings.change.TimedChange.{TimedChange}
use Rattle.overlay_config.specs.Change.{kind_words, keys_of, change_in, change_of, changes_of, most_changes, moment_before, IsRising}
use Rattle.overlay.specs.Rules.{EachBehind}
use Rattle.overlay_config.proofs.Readings.{bind_then, ok_is, refuse_ok, required_range, from_none, each_meets}

change_rises : (earlier : List TimedChange) (at : Place) (c : TimedChange) → change_of earlier at ≡ Ok c → IsRising earlier c
unfolding change_of
change_rises earlier at c e =
    bind_then (required at (codes "kind") (one_of kind_words)) _ c e (λ kind kind-is e0.
    bind_then (only at (keys_of kind)) _ c e0 (λ known known-is e1.
    bind_then (required at (codes "at") (range 0 4294967295999999999)) _ c e1 (λ moment moment-is e2.
    bind_then (change_in kind at) _ c e2 (λ change change-is e3.
    bind_then (refuse_if (nat_lt moment (moment_before earlier)) (NotRising (numbered (codes "change") (length earlier + 1)))) _ c e3 (λ rising rising-is e4.
    subst (IsRising earlier) (ok_is _ c e4)
    (ltb-false moment (moment_before earlier) (refuse_ok _ _ rising rising-is), (required_range at (codes "at") 0 4294967295999999999 moment moment-is).1))))))

-- changes that are read rise
pub changes_rise : (members : Members) (changes : List TimedChange) → changes_of members ≡ Ok changes → EachBehind IsRising [] changes
unfolding changes_of
changes_rise members changes e =
    bind_then (only (top members) (codes "version" ∷ codes "change" ∷ [])) _ changes e (λ known known-is e0.
    bind_then (optional (top members) (codes "version") (range 2 2)) _ changes e0 (λ version version-is e1.
    bind_then (limited_items (top members) (codes "change") (most_changes version)) _ changes e1 (λ tables tables-is e2.
    (from_none IsRising (length tables) changes (each_meets IsRising change_of (codes "change") change_rises [] tables changes e2)).0)))

pub given_changes_rise : (table : Members) (r : Result (Vec TimedChange Global) SettingsFault) → GivesAs (λ v. v.items) r (changes_of table) → IfOk r (λ changes. EachBehind IsRising [] changes.items)
given_changes_rise table (Ok v) e = changes_rise table v.items e
given_changes_rise table (Err f) e = tt
