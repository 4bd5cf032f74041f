-- A segment of version 2 is read the same in version 3, which has one word more.
use Rattle.std.proofs.Common.{◌≡◌, ℕ, codes, min, Bool, true, false, cond, nat_eq, nat_lt, List, [], ◌∷◌, ◌++◌, length, ◌+◌, Option, Some, None, option_and_then, Ok, refl, ap, ◌∙◌}
use Rattle.std.specs.Cmp.Lexicographic.{pointwise}
use Rattle.toml.specs.Data.{Data, get_member, as_str}
use Rattle.overlay.specs.declared.flood.own.Own.{Own}
use Rattle.overlay.specs.declared.underlay.limits.Limits.{Limits}
use Rattle.overlay.specs.declared.underlay.segment.PeerRule.TheVariants.{Any}
use Rattle.overlay.specs.declared.underlay.segment.TagRule.{TagRule}
use Rattle.overlay.specs.declared.underlay.segment.TagRule.TheVariants.{Drop, Never}
use Rattle.config_text.specs.declared.fault.SettingsFault.TheVariants.{OverLimit}
use Rattle.config_text.specs.Fault.{Meaning, ◌>>=◌}
use Rattle.config_text.specs.Column.{range, truth, word_in, one_of}
use Rattle.config_text.specs.Table.{Place, path, fits, default_value, defaulted, required, only, row_place, each, refuse_if}
use Rattle.overlay.specs.declared.settings.segment.SegmentRule.{SegmentRule}
use Rattle.overlay.specs.Settings.{sum_of_limits}
use Rattle.overlay_config.specs.declared.common_rules.CommonRules.{CommonRules}
use Rattle.overlay_config.specs.declared.local_rules.LocalRules.{LocalRules}
use Rattle.overlay_config.specs.declared.version.Version.{Version}
use Rattle.overlay_config.specs.declared.version.Version.TheVariants.{Two, Three}
use Rattle.overlay_config.specs.CommonRules.{peer_words, tag_words, tags_of, common_of}
use Rattle.overlay_config.specs.LocalRules.{local_of}
use Rattle.overlay_config.specs.Segment.{segment_keys, tables_of, rules_of, segment_of}
use Rattle.overlay_config.specs.Tunnel.{TunnelRules, tunnels_of}
use Rattle.overlay_config.proofs.Readings.{bind_then}
use Rattle.overlay_config.proofs.SegmentKept.{gives, required_from}

-- ---- a word more

word_more : {A : Type 0} (words more : List (List ℕ × A)) (s : List ℕ) (t : A) → word_in words s ≡ Some t → word_in (words ++ more) s ≡ Some t
word_more [] more s t h = absurd cc
word_more (w ∷ ws) more s t h = by (pointwise nat_eq s w.0) (word_more ws more s t) h
  where
    by : (b : Bool) → (word_in ws s ≡ Some t → word_in (ws ++ more) s ≡ Some t) → cond b (Some w.1) (word_in ws s) ≡ Some t → cond b (Some w.1) (word_in (ws ++ more) s) ≡ Some t
    by true rest is = is
    by false rest is = rest is

text_more : {A : Type 0} (words more : List (List ℕ × A)) (o : Option (List ℕ)) (t : A) → option_and_then (word_in words) o ≡ Some t → option_and_then (word_in (words ++ more)) o ≡ Some t
text_more words more None t h = h
text_more words more (Some s) t h = word_more words more s t h

fits_more : {A : Type 0} (p : List ℕ) (a b : Option A) (t : A) → ((x : A) → a ≡ Some x → b ≡ Some x) → fits p a ≡ Ok t → fits p b ≡ Ok t
fits_more p None b t more h = absurd cc
fits_more p (Some x) b t more h = ap (fits p) (more x refl) ∙ h

value_more : {A : Type 0} (p : List ℕ) (words more : List (List ℕ × A)) (default : A) (o : Option Data) (t : A) → default_value p (one_of words) default o ≡ Ok t → default_value p (one_of (words ++ more)) default o ≡ Ok t
value_more p words more default None t h = h
value_more p words more default (Some d) t h = fits_more p (one_of words d) (one_of (words ++ more) d) t (text_more words more (as_str d)) h

tags_third : (at : Place) (t : TagRule) → tags_of false at ≡ Ok t → tags_of true at ≡ Ok t
tags_third at t h = value_more (path at (codes "tags")) tag_words ((codes "never", Never) ∷ []) Drop (get_member (codes "tags") at.members) t h

-- ---- a segment

common_third : (usual : ℕ) (limits ageings : Data → Option ℕ) (at : Place) (x : CommonRules) → common_of false usual limits ageings at ≡ Ok x → common_of true usual limits ageings at ≡ Ok x
unfolding common_of
common_third usual limits ageings at x e =
    bind_then (defaulted at (codes "limit") limits usual) _ x e (λ limit limit-is e0.
    bind_then (defaulted at (codes "ageing") ageings 300) _ x e0 (λ ageing ageing-is e1.
    bind_then (defaulted at (codes "learn") truth true) _ x e1 (λ learning learning-is e2.
    bind_then (defaulted at (codes "peers") (one_of peer_words) Any) _ x e2 (λ peers peers-is e3.
    bind_then (tags_of false at) _ x e3 (λ tags tags-is e4.
    gives (defaulted at (codes "limit") limits usual) _ limit x limit-is
    (gives (defaulted at (codes "ageing") ageings 300) _ ageing x ageing-is
    (gives (defaulted at (codes "learn") truth true) _ learning x learning-is
    (gives (defaulted at (codes "peers") (one_of peer_words) Any) _ peers x peers-is
    (gives (tags_of true at) _ tags x (tags_third at tags tags-is) e4)))))))))

local_third : (entries ports : ℕ) (at : Place) (x : LocalRules) → local_of false entries ports at ≡ Ok x → local_of true entries ports at ≡ Ok x
unfolding local_of
local_third entries ports at x e =
    bind_then (common_of false (min 256 entries) (range 1 entries) (range 10 1000000) at) _ x e (λ common common-is e0.
    gives (common_of true (min 256 entries) (range 1 entries) (range 10 1000000) at) _ common x (common_third (min 256 entries) (range 1 entries) (range 10 1000000) at common common-is) e0)

tables_third : (own : Own) (limits : Limits) (ports : ℕ) (at : Place) (x : TunnelRules × LocalRules) → tables_of false own limits ports at ≡ Ok x → tables_of true own limits ports at ≡ Ok x
tables_third own limits ports at x e =
    bind_then (tunnels_of own limits.flood at) _ x e (λ tunnels tunnels-is e0.
    bind_then (local_of false limits.entries ports at) _ x e0 (λ local local-is e1.
    gives (tunnels_of own limits.flood at) _ tunnels x tunnels-is
    (gives (local_of true limits.entries ports at) _ local x (local_third limits.entries ports at local local-is) e1)))

rules_third : (own : Own) (limits : Limits) (ports : ℕ) (at : Place) (x : TunnelRules × LocalRules) → rules_of Two own limits ports at ≡ Ok x → rules_of Three own limits ports at ≡ Ok x
unfolding rules_of
rules_third own limits ports at x e = tables_third own limits ports at x e

segment_third : (own : Own) (limits : Limits) (ports : ℕ) (earlier : List SegmentRule) (at : Place) (x : SegmentRule) → segment_of Two own limits ports earlier at ≡ Ok x → segment_of Three own limits ports earlier at ≡ Ok x
unfolding segment_of
segment_third own limits ports earlier at x e =
    bind_then (only at (segment_keys Two)) _ x e (λ known known-is e0.
    bind_then (required at (codes "vid") (range 1 4094)) _ x e0 (λ vid vid-is e1.
    bind_then (rules_of Two own limits ports at) _ x e1 (λ rules rules-is e2.
    gives (only at (segment_keys Three)) _ known x known-is
    (gives (required at (codes "vid") (range 1 4094)) _ vid x vid-is
    (gives (rules_of Three own limits ports at) _ rules x (rules_third own limits ports at rules rules-is) e2)))))

each_third : (own : Own) (limits : Limits) (ports : ℕ) (name : List ℕ) (earlier : List SegmentRule) (ds : List Data) (all : List SegmentRule) → each (segment_of Two own limits ports) name earlier ds ≡ Ok all → each (segment_of Three own limits ports) name earlier ds ≡ Ok all
each_third own limits ports name earlier [] all e = e
each_third own limits ports name earlier (d ∷ ds) all e =
    bind_then (row_place name (length earlier + 1) d) _ all e (λ at at-is e0.
    bind_then (segment_of Two own limits ports earlier at) _ all e0 (λ x x-is e1.
    gives (row_place name (length earlier + 1) d) _ at all at-is
    (gives (segment_of Three own limits ports earlier at) _ x all (segment_third own limits ports earlier at x x-is)
    (each_third own limits ports name (earlier ++ x ∷ []) ds all e1))))

abbrev pub segments_from : Version → Limits → Own → ℕ → Option Data → Meaning (List SegmentRule)
segments_from v limits own ports o =
    required_from (codes "segment") limits.segments o >>= λ tables. each (segment_of v own limits ports) (codes "segment") [] tables >>= λ segments.
    refuse_if (nat_lt limits.addresses (sum_of_limits segments)) (OverLimit (codes "limit")) >>= λ total. Ok segments

pub segments_third : (limits : Limits) (own : Own) (ports : ℕ) (o : Option Data) (all : List SegmentRule) → segments_from Two limits own ports o ≡ Ok all → segments_from Three limits own ports o ≡ Ok all
segments_third limits own ports o all e =
    bind_then (required_from (codes "segment") limits.segments o) _ all e (λ tables tables-is e0.
    bind_then (each (segment_of Two own limits ports) (codes "segment") [] tables) _ all e0 (λ segments segments-is e1.
    gives (required_from (codes "segment") limits.segments o) _ tables all tables-is
    (gives (each (segment_of Three own limits ports) (codes "segment") [] tables) _ segments all (each_third own limits ports (codes "segment") [] tables segments segments-is) e1)))
