-- The tables that the slots stand for, address by address.
use Rattle.std.proofs.Common.{zero, suc, ◌≡◌, ◌≢◌, ℕ, ◌+◌, ◌<◌, ◌≤◌, Bool, true, false, cond, not, ◌&&◌, List, [], ◌∷◌, length, map, set, Option, Some, None, is_some, nat_eq, refl, sym, ap, ◌∙◌, subst, arith}
use Rattle.std.proofs.lemmas.Bool.Decides.{nat_tests}
use Rattle.std.proofs.lemmas.List.{get_or-set_same, get_or-set_other, length-set}
use Rattle.std.proofs.lemmas.List.Sums.{sum_by-cons}
use Rattle.std.specs.Option.{option_map}
use Rattle.std.specs.Ordering.{eq_by_cmp}
use Rattle.std.specs.Cmp.{eq_by_cmp_equiv}
use Rattle.std.specs.FinMap.{find, get, insert, remove, len, get-from_entries, get-remove, len-empty, from_entries}
use Rattle.filter_db.specs.declared.entry.Entry.{Entry}
use Rattle.filter_db.specs.declared.place.Place.{Place}
use Rattle.filter_db.specs.Table.{mac_cmp, kept}
use Rattle.filter_db.specs.Ageing.{mac_total, same_table, sifted, get-kept}
use Rattle.filter_db.proofs.TableLemmas.{same_mac, get-set, len-set}
use Rattle.shared_tables.specs.Pool.{Held}
use Rattle.shared_tables.specs.Pool.{entry_at, IfHeld, renewed}
use Rattle.shared_tables.specs.Line.{weight}
use Rattle.shared_tables.specs.Shared.{vid_key, kept_count, Lacks, IsUnique}
use Rattle.shared_tables.specs.Segments.{entry_of, rows_of, kept_table}
use Rattle.shared_tables.proofs.OnEntries.Linked.{by_bool, equal, nat_eq_refl}
use Rattle.shared_tables.proofs.OnEntries.Entering.{and_first, and_second}

-- does a slot hold this address of the segment?
abbrev pub hit : ℕ → List ℕ → Option Held → Bool
hit v q None = false
hit v q (Some e) = nat_eq e.vid v && eq_by_cmp mac_cmp q e.mac

-- what the first slot that does holds
abbrev pub raw : ℕ → List ℕ → List (Option Held) → Option Entry
raw v q [] = None
raw v q (o ∷ es) = cond (hit v q o) (option_map entry_of o) (raw v q es)

pub get-raw : (v : ℕ) (es : List (Option Held)) (q : List ℕ) → get (kept_table v es) q ≡ raw v q es
get-raw v es q = get-from_entries mac_total (rows_of v es) q ∙ found es
  where
    found : (es : List (Option Held)) → find mac_cmp q (rows_of v es) ≡ raw v q es
    found [] = refl
    found (None ∷ es) = found es
    found (Some e ∷ es) = here (nat_eq e.vid v) (found es)
      where
        here : (b : Bool) → find mac_cmp q (rows_of v es) ≡ raw v q es
            → find mac_cmp q (cond b ((e.mac, entry_of e) ∷ rows_of v es) (rows_of v es)) ≡ cond (b && eq_by_cmp mac_cmp q e.mac) (Some (entry_of e)) (raw v q es)
        here true k = ap (cond (eq_by_cmp mac_cmp q e.mac) (Some (entry_of e))) k
        here false k = k

pub same_octets : (q : List ℕ) → eq_by_cmp mac_cmp q q ≡ true
same_octets q = (eq_by_cmp_equiv mac_total).refl q

-- an entry that is hit is the one of this address
pub hit_held : (v : ℕ) (mac : List ℕ) (o : Option Held) → hit v mac o ≡ true → IfHeld o v mac
hit_held v mac None h = let bad : false ≡ true = h in cc
hit_held v mac (Some e) h = (equal e.vid v (and_first (nat_eq e.vid v) _ h), sym (same_mac mac e.mac (and_second (nat_eq e.vid v) _ h)))

pub held_hit : (v : ℕ) (mac : List ℕ) (o : Option Held) → IfHeld o v mac → hit v mac o ≡ true
held_hit v mac None h = absurd h
held_hit v mac (Some e) h =
    ap (λ b. b && eq_by_cmp mac_cmp mac e.mac) (subst (λ k. nat_eq e.vid k ≡ true) h.0 (nat_eq_refl e.vid)) ∙ subst (λ (m : List ℕ). eq_by_cmp mac_cmp m e.mac ≡ true) h.1 (same_octets e.mac)

-- where no slot is hit there is nothing
pub raw_none : (v : ℕ) (q : List ℕ) (es : List (Option Held)) → ((i : ℕ) → hit v q (entry_at es i) ≡ false) → raw v q es ≡ None
raw_none v q [] h = refl
raw_none v q (o ∷ es) h = ap (λ b. cond b (option_map entry_of o) (raw v q es)) (h 0) ∙ raw_none v q es (λ i. h (suc i))

same_suc : (i s : ℕ) → nat_eq i s ≡ false → nat_eq (suc i) (suc s) ≡ false
same_suc i s h = grind (arith, nat_tests)

-- a slot that alone is hit holds what is found
raw_at : (v : ℕ) (q : List ℕ) (es : List (Option Held)) (s : ℕ) → hit v q (entry_at es s) ≡ true → ((i : ℕ) → nat_eq i s ≡ false → hit v q (entry_at es i) ≡ false) → raw v q es ≡ option_map entry_of (entry_at es s)
raw_at v q [] s on alone = let bad : false ≡ true = on in cc
raw_at v q (o ∷ es) zero on alone = ap (λ b. cond b (option_map entry_of o) (raw v q es)) on
raw_at v q (o ∷ es) (suc s) on alone = ap (λ b. cond b (option_map entry_of o) (raw v q es)) (alone 0 (grind (arith, nat_tests))) ∙ raw_at v q es s on (λ i ne. alone (suc i) (same_suc i s ne))

-- a slot of an address is the only one that is hit
pub alone_of : (v : ℕ) (mac : List ℕ) (es : List (Option Held)) (s : ℕ) → IsUnique es → IfHeld (entry_at es s) v mac → (i : ℕ) → nat_eq i s ≡ false → hit v mac (entry_at es i) ≡ false
alone_of v mac es s unique held i ne = by_bool (hit v mac (entry_at es i)) (λ yes. go (entry_at es i) refl (entry_at es s) refl (hit_held v mac (entry_at es i) yes) held) (λ off. off)
  where
    go : (o : Option Held) → entry_at es i ≡ o → (p : Option Held) → entry_at es s ≡ p → IfHeld o v mac → IfHeld p v mac → hit v mac (entry_at es i) ≡ false
    go None a p b x y = absurd x
    go (Some e) a None b x y = absurd y
    go (Some e) a (Some f) b x y =
        let same : i ≡ s = unique i s e f a b (x.0 ∙ sym y.0) (x.1 ∙ sym y.1) in
        let bad : true ≡ false = sym (subst (λ k. nat_eq i k ≡ true) same (nat_eq_refl i)) ∙ ne in cc

pub raw_found : (v : ℕ) (mac : List ℕ) (es : List (Option Held)) (s : ℕ) → IsUnique es → IfHeld (entry_at es s) v mac → raw v mac es ≡ option_map entry_of (entry_at es s)
raw_found v mac es s unique held = raw_at v mac es s (held_hit v mac (entry_at es s) held) (alone_of v mac es s unique held)

pub raw_lacks : (v : ℕ) (mac : List ℕ) (es : List (Option Held)) → Lacks es v mac → raw v mac es ≡ None
raw_lacks v mac es lacks = raw_none v mac es (λ i. by_bool (hit v mac (entry_at es i)) (λ yes. absurd (lacks i (hit_held v mac (entry_at es i) yes))) (λ off. off))

-- ---- slots whose entries pass a test are free

-- each slot has what it had, or is free where that passes the test
pub record Sifts (test : Option Held → Bool) (es es' : List (Option Held)) : Type 0 where
  pub size : length es' ≡ length es
  pub each : (i : ℕ) → entry_at es' i ≡ cond (test (entry_at es i)) None (entry_at es i)

pub tail_unique : (o : Option Held) (es : List (Option Held)) → IsUnique (o ∷ es) → IsUnique es
tail_unique o es u i j e f a b vids macs = let q : suc i ≡ suc j = u (suc i) (suc j) e f a b vids macs in omega (arith, q)

tail_sifts : (test : Option Held → Bool) (o o' : Option Held) (es es' : List (Option Held)) → Sifts test (o ∷ es) (o' ∷ es') → Sifts test es es'
tail_sifts test o o' es es' s = record { size = omega (arith, s.size); each = λ i. s.each (suc i) }

-- what was found is gone where the test passes
pub raw_sifted : (v : ℕ) (q : List ℕ) (test : Option Held → Bool) (p : Entry → Bool) (es es' : List (Option Held)) → Sifts test es es' → IsUnique es → ((e : Held) → hit v q (Some e) ≡ true → test (Some e) ≡ not (p (entry_of e)))
    → raw v q es' ≡ sifted p (raw v q es)
raw_sifted v q test p [] [] s u k = refl
raw_sifted v q test p [] (o' ∷ es') s u k = absurd (omega (arith, s.size))
raw_sifted v q test p (o ∷ es) [] s u k = absurd (omega (arith, s.size))
raw_sifted v q test p (o ∷ es) (o' ∷ es') s u k =
    ap (λ x. cond (hit v q x) (option_map entry_of x) (raw v q es')) (s.each 0)
    ∙ from o (hit v q o) refl (raw_sifted v q test p es es' (tail_sifts test o o' es es' s) (tail_unique o es u) k) (λ on. raw_none v q es (λ i. alone_of v q (o ∷ es) 0 u (hit_held v q o on) (suc i) (grind (arith, nat_tests))))
  where
    from : (o : Option Held) (b : Bool) → hit v q o ≡ b → raw v q es' ≡ sifted p (raw v q es) → (hit v q o ≡ true → raw v q es ≡ None)
        → cond (hit v q (cond (test o) None o)) (option_map entry_of (cond (test o) None o)) (raw v q es') ≡ sifted p (cond (hit v q o) (option_map entry_of o) (raw v q es))
    from o false h rest none = miss (test o) ∙ rest ∙ ap (λ c. sifted p (cond c (option_map entry_of o) (raw v q es))) (sym h)
      where
        miss : (c : Bool) → cond (hit v q (cond c None o)) (option_map entry_of (cond c None o)) (raw v q es') ≡ raw v q es'
        miss true = refl
        miss false = ap (λ d. cond d (option_map entry_of o) (raw v q es')) h
    from None true h rest none = let bad : false ≡ true = h in cc
    from (Some e) true h rest none = at_own (test (Some e)) refl ∙ ap (λ c. sifted p (cond c (Some (entry_of e)) (raw v q es))) (sym h)
      where
        at_own : (c : Bool) → test (Some e) ≡ c → cond (hit v q (cond (test (Some e)) None (Some e))) (option_map entry_of (cond (test (Some e)) None (Some e))) (raw v q es') ≡ cond (p (entry_of e)) (Some (entry_of e)) None
        at_own c is = ap (λ d. cond (hit v q (cond d None (Some e))) (option_map entry_of (cond d None (Some e))) (raw v q es')) is ∙ by c (p (entry_of e)) (sym is ∙ k e h)
          where
            by : (c d : Bool) → c ≡ not d → cond (hit v q (cond c None (Some e))) (option_map entry_of (cond c None (Some e))) (raw v q es') ≡ cond d (Some (entry_of e)) None
            by true true n = let bad : true ≡ false = n in cc
            by true false n = rest ∙ ap (sifted p) (none h)
            by false true n = ap (λ d. cond d (Some (entry_of e)) (raw v q es')) h
            by false false n = let bad : false ≡ true = n in cc

-- a table without what passes
pub table_sifted : (v : ℕ) (test : Option Held → Bool) (p : Entry → Bool) (es es' : List (Option Held)) → Sifts test es es' → IsUnique es → ((e : Held) → e.vid ≡ v → test (Some e) ≡ not (p (entry_of e)))
    → kept_table v es' ≡ kept p (kept_table v es)
table_sifted v test p es es' s u k = same_table _ _ (λ q.
    get-raw v es' q ∙ raw_sifted v q test p es es' s u (λ e on. k e (hit_held v q (Some e) on).0) ∙ ap (sifted p) (sym (get-raw v es q)) ∙ sym (get-kept p (kept_table v es) q))

all_kept : (o : Option Entry) → sifted (λ _. true) o ≡ o
all_kept None = refl
all_kept (Some e) = refl

-- another table
pub table_other : (w : ℕ) (test : Option Held → Bool) (es es' : List (Option Held)) → Sifts test es es' → IsUnique es → ((e : Held) → e.vid ≡ w → test (Some e) ≡ false) → kept_table w es' ≡ kept_table w es
table_other w test es es' s u k = same_table _ _ (λ q.
    get-raw w es' q ∙ raw_sifted w q test (λ _. true) es es' s u (λ e on. k e (hit_held w q (Some e) on).0) ∙ all_kept (raw w q es) ∙ sym (get-raw w es q))

-- a slot whose entry goes
pub set_none : (v : ℕ) (mac : List ℕ) (es : List (Option Held)) (s : ℕ) → s < length es → IsUnique es → IfHeld (entry_at es s) v mac → Sifts (hit v mac) es (set es s None)
set_none v mac es s lt u held = record {
  size = length-set es s None;
  each = λ i. by_bool (nat_eq i s)
      (λ yes. subst (λ n. entry_at (set es s None) n ≡ cond (hit v mac (entry_at es n)) None (entry_at es n)) (sym (equal i s yes)) (get_or-set_same es s None None lt ∙ sym (ap (λ b. cond b None (entry_at es s)) (held_hit v mac (entry_at es s) held))))
      (λ ne. get_or-set_other es s i None None (λ q. let yes : nat_eq i s ≡ true = subst (λ n. nat_eq i n ≡ true) q (nat_eq_refl i) in let bad : true ≡ false = sym yes ∙ ne in cc) ∙ sym (ap (λ b. cond b None (entry_at es i)) (alone_of v mac es s u held i ne)));
}

pub raw_gone : (v : ℕ) (mac q : List ℕ) (es : List (Option Held)) (s : ℕ) → s < length es → IsUnique es → IfHeld (entry_at es s) v mac → raw v q (set es s None) ≡ cond (eq_by_cmp mac_cmp q mac) None (raw v q es)
raw_gone v mac q es s lt u held = by (eq_by_cmp mac_cmp q mac) refl
  where
    sifts : Sifts (hit v mac) es (set es s None)
    sifts = set_none v mac es s lt u held

    nothing : (o : Option Entry) → sifted (λ _. false) o ≡ None
    nothing None = refl
    nothing (Some e) = refl

    apart : (e : Held) → eq_by_cmp mac_cmp q mac ≡ false → hit v q (Some e) ≡ true → hit v mac (Some e) ≡ false
    apart e ne on = by_bool (hit v mac (Some e))
        (λ yes. let one : q ≡ mac = sym (hit_held v q (Some e) on).1 ∙ (hit_held v mac (Some e) yes).1 in let bad : true ≡ false = sym (subst (λ (m : List ℕ). eq_by_cmp mac_cmp q m ≡ true) one (same_octets q)) ∙ ne in cc)
        (λ off. off)

    by : (b : Bool) → eq_by_cmp mac_cmp q mac ≡ b → raw v q (set es s None) ≡ cond b None (raw v q es)
    by true is = raw_sifted v q (hit v mac) (λ _. false) es (set es s None) sifts u (λ e on. subst (λ (m : List ℕ). hit v m (Some e) ≡ true) (same_mac q mac is) on) ∙ nothing (raw v q es)
    by false ne = raw_sifted v q (hit v mac) (λ _. true) es (set es s None) sifts u (λ e on. apart e ne on) ∙ all_kept (raw v q es)

pub table_gone : (v : ℕ) (mac : List ℕ) (es : List (Option Held)) (s : ℕ) → s < length es → IsUnique es → IfHeld (entry_at es s) v mac → kept_table v (set es s None) ≡ remove (kept_table v es) mac
table_gone v mac es s lt u held = same_table _ _ (λ q.
    get-raw v (set es s None) q ∙ raw_gone v mac q es s lt u held ∙ ap (cond (eq_by_cmp mac_cmp q mac) None) (sym (get-raw v es q)) ∙ sym (get-remove mac_total (kept_table v es) mac q))

pub other_gone : (w v : ℕ) (mac : List ℕ) (es : List (Option Held)) (s : ℕ) → s < length es → IsUnique es → IfHeld (entry_at es s) v mac → w ≢ v → kept_table w (set es s None) ≡ kept_table w es
other_gone w v mac es s lt u held ne = table_other w (hit v mac) es (set es s None) (set_none v mac es s lt u held) u (λ e of. by_bool (hit v mac (Some e)) (λ yes. absurd (ne (sym of ∙ (hit_held v mac (Some e) yes).0))) (λ off. off))

-- ---- an entry comes

-- a slot that held nothing holds an entry
raw_set : (v : ℕ) (q : List ℕ) (es : List (Option Held)) (s : ℕ) (o : Option Held) → s < length es → hit v q (entry_at es s) ≡ false → ((i : ℕ) → nat_eq i s ≡ false → hit v q o ≡ true → hit v q (entry_at es i) ≡ false)
    → raw v q (set es s o) ≡ cond (hit v q o) (option_map entry_of o) (raw v q es)
raw_set v q [] s o lt was alone = absurd (omega (arith, lt))
raw_set v q (p ∷ es) zero o lt was alone = ap (cond (hit v q o) (option_map entry_of o)) (sym (ap (λ b. cond b (option_map entry_of p) (raw v q es)) was))
raw_set v q (p ∷ es) (suc s) o lt was alone =
    ap (cond (hit v q p) (option_map entry_of p)) (raw_set v q es s o (omega (arith, lt)) was (λ i ne on. alone (suc i) (same_suc i s ne) on))
    ∙ swap (hit v q o) (hit v q p) (alone 0 (grind (arith, nat_tests)))
  where
    swap : (a b : Bool) → (a ≡ true → b ≡ false) → cond b (option_map entry_of p) (cond a (option_map entry_of o) (raw v q es)) ≡ cond a (option_map entry_of o) (cond b (option_map entry_of p) (raw v q es))
    swap true true k = let bad : true ≡ false = k refl in cc
    swap true false k = refl
    swap false true k = refl
    swap false false k = refl

pub table_entered : (v : ℕ) (es : List (Option Held)) (s : ℕ) (e : Held) → s < length es → entry_at es s ≡ None → e.vid ≡ v → Lacks es v e.mac → kept_table v (set es s (Some e)) ≡ insert (kept_table v es) e.mac (entry_of e)
table_entered v es s e lt free of lacks = same_table _ _ (λ q.
    get-raw v (set es s (Some e)) q
    ∙ raw_set v q es s (Some e) lt (ap (hit v q) free) (λ i ne on. by_bool (hit v q (entry_at es i))
    (λ yes. absurd (lacks i (hit_held v e.mac (entry_at es i) (subst (λ x. hit v x (entry_at es i) ≡ true) (sym (hit_held v q (Some e) on).1) yes)))) (λ off. off))
    ∙ ap (λ b. cond (b && eq_by_cmp mac_cmp q e.mac) (Some (entry_of e)) (raw v q es)) (subst (λ k. nat_eq e.vid k ≡ true) of (nat_eq_refl e.vid))
    ∙ sym (get-set (kept_table v es) e.mac (entry_of e) q ∙ ap (cond (eq_by_cmp mac_cmp q e.mac) (Some (entry_of e))) (get-raw v es q)))

pub other_entered : (w v : ℕ) (es : List (Option Held)) (s : ℕ) (e : Held) → s < length es → entry_at es s ≡ None → e.vid ≡ v → w ≢ v → kept_table w (set es s (Some e)) ≡ kept_table w es
other_entered w v es s e lt free of ne = same_table _ _ (λ q.
    get-raw w (set es s (Some e)) q
    ∙ raw_set w q es s (Some e) lt (ap (hit w q) free) (λ i apart on. absurd (ne (sym (hit_held w q (Some e) on).0 ∙ of)))
    ∙ ap (λ b. cond b (Some (entry_of e)) (raw w q es)) (by_bool (hit w q (Some e)) (λ yes. absurd (ne (sym (hit_held w q (Some e) yes).0 ∙ of))) (λ off. off))
    ∙ sym (get-raw w es q))

-- ---- how many a table has

pub len-kept_table : (v : ℕ) (es : List (Option Held)) → IsUnique es → len (kept_table v es) ≡ kept_count v es
len-kept_table v [] u = len-empty mac_cmp Entry
len-kept_table v (None ∷ es) u = let more : kept_count v (None ∷ es) ≡ 0 + kept_count v es = sum_by-cons (weight (vid_key v)) None es in omega (arith, more, len-kept_table v es (tail_unique None es u))
len-kept_table v (Some e ∷ es) u = at_first (nat_eq e.vid v) refl (len-kept_table v es (tail_unique (Some e) es u)) (sum_by-cons (weight (vid_key v)) (Some e) es)
  where
    absent : nat_eq e.vid v ≡ true → is_some (get (kept_table v es) e.mac) ≡ false
    absent of = ap is_some (get-raw v es e.mac ∙ raw_none v e.mac es (λ i. alone_of v e.mac (Some e ∷ es) 0 u (equal e.vid v of, refl) (suc i) (grind (arith, nat_tests))))

    at_first : (b : Bool) → nat_eq e.vid v ≡ b → len (kept_table v es) ≡ kept_count v es → kept_count v (Some e ∷ es) ≡ cond (nat_eq e.vid v) 1 0 + kept_count v es
        → len (from_entries {R = mac_cmp} (cond b ((e.mac, entry_of e) ∷ rows_of v es) (rows_of v es))) ≡ kept_count v (Some e ∷ es)
    at_first true of k n =
        let one : cond (nat_eq e.vid v) 1 0 ≡ 1 = ap (λ (c : Bool). let r : ℕ = cond c 1 0 in r) of in
        let more : len (insert (kept_table v es) e.mac (entry_of e)) ≡ len (kept_table v es) + 1 = len-set (kept_table v es) e.mac (entry_of e) ∙ ap (λ b. cond b (len (kept_table v es)) (len (kept_table v es) + 1)) (absent of) in
        omega (arith, more, k, n, one)
    at_first false of k n =
        let none : cond (nat_eq e.vid v) 1 0 ≡ 0 = ap (λ (c : Bool). let r : ℕ = cond c 1 0 in r) of in
        omega (arith, k, n, none)

-- ---- the slots without what passes, as a list

abbrev pub sifted_slots : (Option Held → Bool) → List (Option Held) → List (Option Held)
sifted_slots test es = map (λ o. cond (test o) None o) es

either : (b : Bool) → cond {A = Option Held} b None None ≡ None
either true = refl
either false = refl

pub sifts_slots : (test : Option Held → Bool) (es : List (Option Held)) → Sifts test es (sifted_slots test es)
sifts_slots test [] = record { size = refl; each = λ i. sym (either (test None)) }
sifts_slots test (o ∷ es) = more (sifts_slots test es)
  where
    more : Sifts test es (sifted_slots test es) → Sifts test (o ∷ es) (sifted_slots test (o ∷ es))
    more s = record { size = ap suc s.size; each = each }
      where
        each : (i : ℕ) → entry_at (sifted_slots test (o ∷ es)) i ≡ cond (test (entry_at (o ∷ es) i)) None (entry_at (o ∷ es) i)
        each zero = refl
        each (suc i) = s.each i

-- what is left was there
pub sifted_unique : (test : Option Held → Bool) (es es' : List (Option Held)) → Sifts test es es' → IsUnique es → IsUnique es'
sifted_unique test es es' s u i j e f a b vids macs = u i j e f (was i e a) (was j f b) vids macs
  where
    was : (k : ℕ) (z : Held) → entry_at es' k ≡ Some z → entry_at es k ≡ Some z
    was k z q = from (test (entry_at es k)) (sym (s.each k) ∙ q)
      where
        from : (c : Bool) → cond c None (entry_at es k) ≡ Some z → entry_at es k ≡ Some z
        from true x = let bad : None ≡ Some z = x in cc
        from false x = x

few_each : (v : ℕ) (b : Bool) (o : Option Held) → weight (vid_key v) (cond b None o) ≤ weight (vid_key v) o
few_each v true o = omega arith
few_each v false o = omega arith

pub kept_fewer : (v : ℕ) (test : Option Held → Bool) (es : List (Option Held)) → kept_count v (sifted_slots test es) ≤ kept_count v es
kept_fewer v test [] = omega arith
kept_fewer v test (o ∷ es) =
    let first = few_each v (test o) o in let rest = kept_fewer v test es in
    omega (arith, first, rest, sum_by-cons (weight (vid_key v)) (cond (test o) None o) (sifted_slots test es), sum_by-cons (weight (vid_key v)) o es)

-- one of the segment goes: fewer are left
pub kept_less : (v : ℕ) (test : Option Held → Bool) (es : List (Option Held)) (s : ℕ) → vid_key v (entry_at es s) ≡ true → test (entry_at es s) ≡ true → kept_count v (sifted_slots test es) < kept_count v es
kept_less v test [] s of passes = let bad : false ≡ true = of in cc
kept_less v test (o ∷ es) zero of passes =
    let rest = kept_fewer v test es in
    let gone : weight (vid_key v) (cond (test o) None o) ≡ 0 = ap (λ b. weight (vid_key v) (cond b None o)) passes in
    let was : weight (vid_key v) o ≡ 1 = ap (λ (c : Bool). let r : ℕ = cond c 1 0 in r) of in
    omega (arith, rest, gone, was, sum_by-cons (weight (vid_key v)) (cond (test o) None o) (sifted_slots test es), sum_by-cons (weight (vid_key v)) o es)
kept_less v test (o ∷ es) (suc s) of passes =
    let first = few_each v (test o) o in let rest = kept_less v test es s of passes in
    omega (arith, first, rest, sum_by-cons (weight (vid_key v)) (cond (test o) None o) (sifted_slots test es), sum_by-cons (weight (vid_key v)) o es)

-- ---- an entry is renewed

-- an entry of an address keeps it
pub renewed_is : (o : Option Held) (v : ℕ) (mac : List ℕ) (place : Place) (last : Option ℕ) → IfHeld o v mac → renewed o place last ≡ Some (record { vid = v; mac = mac; place = place; last = last })
renewed_is None v mac place last h = absurd h
renewed_is (Some e) v mac place last h = λ i. Some (record { vid = h.0 i; mac = h.1 i; place = place; last = last })
