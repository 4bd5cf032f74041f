-- Changes that are refused, and the settings after a change.
use Rattle.std.proofs.Common.{◌≡◌, ℕ, ◌==◌, Bool, true, false, cond, not, List, [], ◌∷◌, Option, Some, None, IsSome, refl, sym, ap, ◌∙◌, subst}
use Rattle.std.specs.Prelude.{is_none}
use Rattle.std.specs.Option.{option_and_then}
use Rattle.std.proofs.Math.Path.{fun_ext}
use Rattle.std.proofs.lemmas.Bool.{false≢true, eqb-true}
use Rattle.wire.specs.First.{first}
use Rattle.std.specs.FinMap.{empty, insert, remove}
use Rattle.filter_db.specs.Table.{Table, is_full, has_fixed, fix, unfix}
use Rattle.overlay.specs.declared.settings.change.Change.{Change}
use Rattle.overlay.specs.declared.settings.change.Change.TheVariants.{AddFlood, RemoveFlood, Fix, Unfix, SetAgeing, SetLearning, SetMember, PortUp, PortDown, Flush, AddSegment, RemoveSegment, SetLimit}
use Rattle.overlay.specs.declared.settings.change.Target.{Target}
use Rattle.endpoint_core.specs.declared.state.fault.ChangeFault.{ChangeFault}
use Rattle.endpoint_core.specs.declared.state.fault.ChangeFault.TheVariants.{TableFull, NotThere}
use Rattle.endpoint_core.specs.Settings.{SegmentSettings, segment_at}
use Rattle.endpoint_core.specs.Change.{named, refused, accepted, table_fault, place_of}
use Rattle.endpoint_core.specs.State.{State, table_changed, accepted_state, after_change}
use Rattle.endpoint_core.specs.Laws.{RefusedChangesNothing, SettingsAlone}

pub settings-alone : SettingsAlone
settings-alone t c S = by (is_none (refused S.settings c))
  where
    by : (b : Bool) → (cond b (accepted_state t c S) S).settings ≡ cond b (accepted S.settings c) S.settings
    by true = refl
    by false = refl

-- ---- a refused change

nothing : {A : Type 0} (o : Option SegmentSettings) → IsSome (option_and_then {T = SegmentSettings} {U = ChangeFault} (λ s. None) o) → A
nothing None h = absurd (false≢true h)
nothing (Some s) h = absurd (false≢true h)

-- a test that is the only row of a table
only : (f : ChangeFault) (b : Bool) → IsSome (first ((f, b) ∷ [])) → b ≡ true
only f true h = refl
only f false h = absurd (false≢true h)

abbrev full_in : List ℕ → Option SegmentSettings → Table → Option ChangeFault
full_in mac o m = option_and_then (λ s. first ((TableFull, is_full s.limit mac m) ∷ [])) o

stays_full : (t vid : ℕ) (mac : List ℕ) (target : Target) (o : Option SegmentSettings) (w : ℕ) (m : Table) (b : Bool) → (w == vid) ≡ b → (b ≡ true → IsSome (full_in mac o m)) → table_changed t (Fix vid mac target) o w m ≡ m
stays_full t vid mac target None w m true is h = absurd (false≢true (h refl))
stays_full t vid mac target None w m false is h = ap (λ (c : Bool). cond c empty m) is
stays_full t vid mac target (Some s) w m true is h =
    ap (λ (c : Bool). cond c (fix s.limit (place_of s.tunnels target) mac m) m) is
    ∙ ap (λ (c : Bool). cond c m (insert m mac (record { place = place_of s.tunnels target; last = None }))) (only TableFull (is_full s.limit mac m) (h refl))
stays_full t vid mac target (Some s) w m false is h = ap (λ (c : Bool). cond c (fix s.limit (place_of s.tunnels target) mac m) m) is

abbrev absent_in : List ℕ → Option SegmentSettings → Table → Option ChangeFault
absent_in mac o m = option_and_then {T = SegmentSettings} (λ s. first ((NotThere, not (has_fixed mac m)) ∷ [])) o

negated : (b : Bool) → not b ≡ true → b ≡ false
negated true h = absurd (cc)
negated false h = refl

stays_absent : (t vid : ℕ) (mac : List ℕ) (o : Option SegmentSettings) (w : ℕ) (m : Table) (b : Bool) → (w == vid) ≡ b → (b ≡ true → IsSome (absent_in mac o m)) → table_changed t (Unfix vid mac) o w m ≡ m
stays_absent t vid mac None w m true is h = absurd (false≢true (h refl))
stays_absent t vid mac None w m false is h = ap (λ (c : Bool). cond c empty m) is
stays_absent t vid mac (Some s) w m true is h =
    ap (λ (c : Bool). cond c (unfix mac m) m) is ∙ ap (λ (c : Bool). cond c (remove m mac) m) (negated (has_fixed mac m) (only NotThere (not (has_fixed mac m)) (h refl)))
stays_absent t vid mac (Some s) w m false is h = ap (λ (c : Bool). cond c (unfix mac m) m) is

-- one that the settings don't refuse, but a table does
table_refuses : (t : ℕ) (c : Change) (S : State) → IsSome (option_and_then (λ vid. option_and_then (λ s. table_fault s c (S.tables vid)) (segment_at S.settings vid)) (named c)) → accepted_state t c S ≡ S
table_refuses t (AddFlood vid addr tunnel) S h = nothing (segment_at S.settings vid) h
table_refuses t (RemoveFlood vid addr tunnel) S h = nothing (segment_at S.settings vid) h
table_refuses t (Fix vid mac target) S h =
    ap (λ (x : ℕ → Table). let s : State = record { settings = S.settings; tables = x } in s)
    (fun_ext (λ w. stays_full t vid mac target (segment_at S.settings w) w (S.tables w) (w == vid) refl
    (λ same. subst (λ (v : ℕ). IsSome (full_in mac (segment_at S.settings v) (S.tables v))) (sym (eqb-true w vid same)) h)))
table_refuses t (Unfix vid mac) S h =
    ap (λ (x : ℕ → Table). let s : State = record { settings = S.settings; tables = x } in s)
    (fun_ext (λ w. stays_absent t vid mac (segment_at S.settings w) w (S.tables w) (w == vid) refl
    (λ same. subst (λ (v : ℕ). IsSome (absent_in mac (segment_at S.settings v) (S.tables v))) (sym (eqb-true w vid same)) h)))
table_refuses t (SetAgeing vid seconds) S h = nothing (segment_at S.settings vid) h
table_refuses t (SetLearning vid on) S h = nothing (segment_at S.settings vid) h
table_refuses t (SetMember vid port (Some egress)) S h = nothing (segment_at S.settings vid) h
table_refuses t (SetMember vid port None) S h = nothing (segment_at S.settings vid) h
table_refuses t (PortUp port) S h = absurd (false≢true h)
table_refuses t (PortDown port) S h = absurd (false≢true h)
table_refuses t (Flush vid) S h = nothing (segment_at S.settings vid) h
table_refuses t (AddSegment new) S h = nothing (segment_at S.settings new.vid) h
table_refuses t (RemoveSegment vid) S h = nothing (segment_at S.settings vid) h
table_refuses t (SetLimit vid limit) S h = nothing (segment_at S.settings vid) h

pub refused-nothing : RefusedChangesNothing
refused-nothing t c S h = by (refused S.settings c) refl h
  where
    by : (o : Option ChangeFault) → refused S.settings c ≡ o → IsSome (elim o [ Some why ↦ Some why | None ↦ option_and_then (λ vid. option_and_then (λ s. table_fault s c (S.tables vid)) (segment_at S.settings vid)) (named c) ]) → after_change t c S ≡ S
    by (Some why) is h = ap (λ (o : Option ChangeFault). cond (is_none o) (accepted_state t c S) S) is
    by None is h = ap (λ (o : Option ChangeFault). cond (is_none o) (accepted_state t c S) S) is ∙ table_refuses t c S h
