-- Changes that tell no version mean what they meant before they could have one, and the same in version 2.
use Rattle.std.proofs.Common.{◌≡◌, ℕ, ◌≤◌, codes, Bool, false, nat_lt, List, [], ◌∷◌, length, Option, Some, None, Ok, pos, refl, sym, ap, ◌∙◌, inl, inr, lit≤, arith}
use Rattle.std.proofs.lemmas.Bool.{cases_Bool, ltb-true}
use Rattle.toml.specs.Data.{Data, integer, Members, get_member}
use Rattle.config_text.specs.Fault.{Meaning, ◌>>=◌}
use Rattle.config_text.specs.Column.{range}
use Rattle.config_text.specs.Table.{Place, top, all_known, only, optional_value, optional, items_value, limited, limited_items, each}
use Rattle.overlay.specs.declared.settings.change.TimedChange.{TimedChange}
use Rattle.overlay_config.specs.Before as before
use Rattle.overlay_config.specs.Change.{change_of, changes_of, most_changes}
use Rattle.overlay_config.specs.Migrate.{with_value}
use Rattle.overlay_config.proofs.Rewrites.{get_here, get_other}
use Rattle.overlay_config.proofs.Readings.{bind_then, limited_ok}
use Rattle.overlay_config.proofs.SegmentKept.{gives, known_with, known_only, only_known}
use Rattle.overlay_config.proofs.Asked.{known_same, known_by}

abbrev keys : List (List ℕ)
keys = codes "version" ∷ codes "change" ∷ []

-- what stands behind the question whether all keys are known, by the value of the version
abbrev behind : Members → Bool → Option Data → Meaning (List TimedChange)
behind ms all o =
    known_by (top ms) all >>= λ known. optional_value (codes "version") (range 2 2) o >>= λ version.
    limited_items (top ms) (codes "change") (most_changes version) >>= λ tables. each change_of (codes "change") [] tables

by_version : (ms : Members) → changes_of ms ≡ behind ms (all_known keys ms) (get_member (codes "version") ms)
unfolding changes_of
by_version ms = refl

by_none : (ms : Members) → before.changes_of ms ≡ behind ms (all_known (codes "change" ∷ []) ms) None
unfolding before.changes_of
by_none ms = refl

-- where there is no version
pub unversioned : (ms : Members) → get_member (codes "version") ms ≡ None → changes_of ms ≡ before.changes_of ms
unversioned ms none =
    by_version ms
    ∙ ap (λ all. behind ms all (get_member (codes "version") ms)) (known_same [] (codes "version") (codes "change" ∷ []) ms none)
    ∙ ap (behind ms (all_known (codes "change" ∷ []) ms)) none
    ∙ sym (by_none ms)

-- ---- version 2

not_over : (a b : ℕ) → b ≤ a → nat_lt a b ≡ false
not_over a b h = elim (cases_Bool (nat_lt a b)) [
  | inl over ↦ absurd (omega (arith, ltb-true a b over, h))
  | inr within ↦ within
]

-- a list that isn't too long is none where more may be
more_items : (p : List ℕ) (low high : ℕ) (ds es : List Data) → low ≤ high → limited p low ds ≡ Ok es → limited p high ds ≡ Ok es
more_items p low high ds es order e =
    let k = limited_ok p low ds es e in
    rw (k.0, not_over high (length es) (omega (arith, order, k.1))) refl

abbrev tables_from : ℕ → Option Data → Meaning (List Data)
tables_from limit o = items_value (codes "change") o >>= limited (codes "change") limit

more_tables : (o : Option Data) (es : List Data) → tables_from 10000 o ≡ Ok es → tables_from 100000 o ≡ Ok es
more_tables o es e =
    bind_then (items_value (codes "change") o) _ es e (λ ds ds-is e0.
    gives (items_value (codes "change") o) _ ds es ds-is (more_items (codes "change") 10000 100000 ds es (lit≤ tt) e0))

abbrev two : Data
two = integer (pos 2)

-- with the number of version 2
pub second_same : (ms : Members) (cs : List TimedChange) → get_member (codes "version") ms ≡ None → changes_of ms ≡ Ok cs → changes_of (with_value (codes "version") two ms) ≡ Ok cs
unfolding changes_of before.changes_of
second_same ms cs none e =
    let new : Place = top (with_value (codes "version") two ms) in
    bind_then (only (top ms) (codes "change" ∷ [])) _ cs (sym (unversioned ms none) ∙ e) (λ known known-is e0.
    bind_then (limited_items (top ms) (codes "change") 10000) _ cs e0 (λ tables tables-is e1.
    gives (only new keys) _ tt cs
    (known_only new keys tt (known_with keys (codes "version") two ms refl (known_same [] (codes "version") (codes "change" ∷ []) ms none ∙ only_known (top ms) (codes "change" ∷ []) known known-is)))
    (gives (optional new (codes "version") (range 2 2)) _ (Some 2) cs (ap (optional_value (codes "version") (range 2 2)) (get_here (codes "version") two ms))
    (gives (limited_items new (codes "change") 100000) _ tables cs
    (ap (tables_from 100000) (get_other (codes "change") (codes "version") two ms refl) ∙ more_tables (get_member (codes "change") ms) tables tables-is)
    e1))))
