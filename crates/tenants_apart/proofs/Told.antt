-- Settings texts that tell alike of a segment give the same part of the settings in force.
use Rattle.std.proofs.Common.{◌≡◌, ◌∙◌, refl, sym, ap, ℕ, ◌==◌, Bool, true, false, cond, List, [], ◌∷◌, map, filter, Option, Some, None}
use Rattle.std.specs.Prelude.{find}
use Rattle.std.specs.Option.{option_map}
use Rattle.std.specs.Ordering.{nat_cmp, eq_by_cmp}
use Rattle.std.specs.Cmp.{nat_cmp_total, unsigned_tied}
use Rattle.std.specs.FinMap.{get, from_entries, get-from_entries}
use Rattle.std.specs.FinMap.Entries.{find as find_at}
use Rattle.std.proofs.lemmas.Bool.{eqb-true, eq-eqb}
use Rattle.overlay.specs.Ports.{members_of}
use Rattle.overlay.specs.Overlay.{segment_of}
use Rattle.overlay.specs.Settings.{Settings as Told, tunnel_rule, member_rule}
use Rattle.overlay.specs.declared.settings.segment.SegmentRule.{SegmentRule}
use Rattle.endpoint_core.specs.Learning.{tells_learning}
use Rattle.endpoint_core.specs.Opened.{settings_told}
use Rattle.endpoint_core.specs.Settings.{BridgeSettings}
use Rattle.tenants_apart.specs.Own.{Needs, port_there, part_of}
use Rattle.tenants_apart.specs.Texts.{TellAlike}

same-both : (a b : ℕ) → (a == b) ≡ (b == a)
same-both a b = by (a == b) (b == a) refl refl
  where
    by : (c d : Bool) → (a == b) ≡ c → (b == a) ≡ d → c ≡ d
    by true d is was = sym (eq-eqb b a (sym (eqb-true a b is))) ∙ was
    by false true is was = sym is ∙ eq-eqb a b (sym (eqb-true b a was))
    by false false is was = refl

module _ (vid : ℕ) where
  abbrev is_rule : SegmentRule → Bool
  is_rule r = vid == r.vid

  -- an entry of this VID is of one of its rules
  module _ {X Y : Type 0} (short : SegmentRule → Y) (f : Y → ℕ × X) (keyed : (r : SegmentRule) → (f (short r)).0 ≡ r.vid) where
    found-entry : (rs : List SegmentRule) → find_at nat_cmp vid (map f (map short rs)) ≡ find_at nat_cmp vid (map f (map short (filter is_rule rs)))
    found-entry [] = refl
    found-entry (r ∷ rs) = by (is_rule r) (unsigned_tied vid (f (short r)).0 ∙ ap (λ k. vid == k) (keyed r)) (found-entry rs)
      where
        by : (b : Bool) → eq_by_cmp nat_cmp vid (f (short r)).0 ≡ b
            → find_at nat_cmp vid (map f (map short rs)) ≡ find_at nat_cmp vid (map f (map short (filter is_rule rs)))
            → cond (eq_by_cmp nat_cmp vid (f (short r)).0) (Some (f (short r)).1) (find_at nat_cmp vid (map f (map short rs)))
            ≡ find_at nat_cmp vid (map f (map short (cond b (r ∷ filter is_rule rs) (filter is_rule rs))))
        by true is rest =
            ap (λ l. cond (eq_by_cmp nat_cmp vid (f (short r)).0) (Some (f (short r)).1) l) rest
        by false is rest = ap (λ b. cond b (Some (f (short r)).1) (find_at nat_cmp vid (map f (map short rs)))) is ∙ rest

    pub entry-told : (rs ts : List SegmentRule) → filter is_rule rs ≡ filter is_rule ts → get (from_entries {R = nat_cmp} (map f (map short rs))) vid ≡ get (from_entries {R = nat_cmp} (map f (map short ts))) vid
    entry-told rs ts same =
        get-from_entries nat_cmp_total (map f (map short rs)) vid
        ∙ found-entry rs
        ∙ ap (λ l. find_at nat_cmp vid (map f (map short l))) same
        ∙ sym (found-entry ts)
        ∙ sym (get-from_entries nat_cmp_total (map f (map short ts)) vid)

  found-rule : (rs : List SegmentRule) → find (λ rule. rule.vid == vid) rs ≡ find (λ rule. rule.vid == vid) (filter is_rule rs)
  found-rule [] = refl
  found-rule (r ∷ rs) = by (is_rule r) (same-both r.vid vid) (found-rule rs)
    where
      by : (b : Bool) → (r.vid == vid) ≡ b → find (λ rule. rule.vid == vid) rs ≡ find (λ rule. rule.vid == vid) (filter is_rule rs)
          → cond (r.vid == vid) (Some r) (find (λ rule. rule.vid == vid) rs) ≡ find (λ rule. rule.vid == vid) (cond b (r ∷ filter is_rule rs) (filter is_rule rs))
      by true is rest = ap (λ l. cond (r.vid == vid) (Some r) l) rest
      by false is rest = ap (λ b. cond b (Some r) (find (λ rule. rule.vid == vid) rs)) is ∙ rest

  learns-told : (rs : List SegmentRule) → tells_learning rs vid ≡ tells_learning (filter is_rule rs) vid
  learns-told [] = refl
  learns-told (r ∷ rs) = by (is_rule r) refl (learns-told rs)
    where
      by : (b : Bool) → is_rule r ≡ b → tells_learning rs vid ≡ tells_learning (filter is_rule rs) vid
          → tells_learning (r ∷ rs) vid ≡ tells_learning (cond b (r ∷ filter is_rule rs) (filter is_rule rs)) vid
      by true is rest = rw rest refl
      by false is rest = rw is rest

  abbrev bridge_by : Option SegmentRule → Bool → Option BridgeSettings
  bridge_by o learning = option_map (λ rule. let b : BridgeSettings = record { limit = rule.limit; ageing = rule.ageing; learning = learning } in b) o

  pub part-told : (needs : Needs) (s t : Told) → TellAlike vid needs s t → part_of vid needs (settings_told s) ≡ part_of vid needs (settings_told t)
  part-told needs s t h =
      let found : find (λ rule. rule.vid == vid) s.segments ≡ find (λ rule. rule.vid == vid) t.segments = found-rule s.segments ∙ ap (find (λ rule. rule.vid == vid)) h.segment ∙ sym (found-rule t.segments) in
      let learns : tells_learning s.segments vid ≡ tells_learning t.segments vid = learns-told s.segments ∙ ap (λ l. tells_learning l vid) h.segment ∙ sym (learns-told t.segments) in
      λ i. record {
        shared = h.shared i;
        ports = λ port. listed (needs.ports port) port refl i;
        members = entry-told member_rule (λ rule. (rule.vid, members_of rule)) (λ r. refl) s.segments t.segments h.segment i;
        tunnels = entry-told tunnel_rule (λ rule. (rule.vid, segment_of rule)) (λ r. refl) s.segments t.segments h.segment i;
        bridge = bridge_by (found i) (learns i);
      }
    where
      listed : (b : Bool) (port : ℕ) → needs.ports port ≡ b → cond b (port_there (settings_told s).ports port) None ≡ cond b (port_there (settings_told t).ports port) None
      listed true port needed = h.ports port needed
      listed false port other = refl
