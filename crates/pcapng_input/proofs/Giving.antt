-- What is given of what is told.
use Rattle.std.proofs.Common.{◌≡◌, ◌∙◌, refl, sym, ap, subst, ℕ, List, [], ◌∷◌, ◌++◌, length, take, drop, arith, append_assoc, Option, None, Some, Result, Ok, Err}
use Rattle.std.specs.Prelude.{option_map}
use Rattle.std.specs.Io.KnownBytes.{Consumes, IsAtEnd, Keeps, ReadConsumes}
use Rattle.pcapng_input.specs.Adapted.{Over, Plain, Stand, Told, Within, told_at, told_behind, told_plain}
use Rattle.pcapng_input.specs.Adapter.{Adapter, Gathered, IsAllTold, KeepsFault, KeepsTold, TellsBehind, told, told_fault, told_from, told_octets}
use Rattle.pcapng_input.specs.Front.{GivesPackets}
use Rattle.pcapng_input.specs.Reading.{Context}
use Rattle.pcapng_input.specs.declared.fault.PcapngFault.{PcapngFault}
use Rattle.pcapng_input.specs.declared.interface.Selection.{Selection}

abbrev octets_of : Option Told → Option (List ℕ)
octets_of told = option_map (λ (t : Told). t.octets) told

abbrev fault_of : Option Told → Option (Option PcapngFault)
fault_of told = option_map (λ (t : Told). t.fault) told

pub KeepsTold-refl : (a : Option Told) → KeepsTold a a
KeepsTold-refl None = tt
KeepsTold-refl (Some t) = refl

pub KeepsTold-trans : (a b c : Option Told) → KeepsTold a b → KeepsTold b c → KeepsTold a c
KeepsTold-trans None b c p q = tt
KeepsTold-trans (Some x) None c p q = absurd p
KeepsTold-trans (Some x) (Some y) None p q = absurd q
KeepsTold-trans (Some x) (Some y) (Some z) p q = q ∙ p

pub consumes : (a b : Option Told) (c : Option (List ℕ)) (bs : List ℕ) → KeepsTold a b → Consumes (octets_of b) c bs → Consumes (octets_of a) c bs
consumes None b c bs p q = tt
consumes (Some x) None c bs p q = absurd p
consumes (Some x) (Some y) c bs p q = subst (λ (t : Told). Consumes (Some t.octets) c bs) p q

pub keeps_octets : (a b : Option Told) → KeepsTold a b → Keeps (octets_of a) (octets_of b)
keeps_octets None b p = tt
keeps_octets (Some x) None p = absurd p
keeps_octets (Some x) (Some y) p = ap (λ (t : Told). t.octets) p

keeps_more : (a b : Option Told) (c : Option (List ℕ)) → KeepsTold a b → Keeps (octets_of b) c → Keeps (octets_of a) c
keeps_more None b c p q = tt
keeps_more (Some x) None c p q = absurd p
keeps_more (Some x) (Some y) c p q = subst (λ (t : Told). Keeps (Some t.octets) c) p q

-- what is read of what is told behind some reads below is read of what was told in front of them
pub reads_behind : {E : Type 0} (a b : Option Told) (c : Option (List ℕ)) (result : Result ℕ E) (octets : List ℕ) → KeepsTold a b
    → ReadConsumes (octets_of b) c result octets → ReadConsumes (octets_of a) c result octets
reads_behind a b c (Ok n) octets p q = (consumes a b c (take n octets) p q.0, q.1)
reads_behind a b c (Err e) octets p q = keeps_more a b c p q

pub keeps_fault : (a b : Option Told) (c : Option (Option PcapngFault)) → KeepsTold a b → KeepsFault (fault_of b) c → KeepsFault (fault_of a) c
keeps_fault None b c p q = tt
keeps_fault (Some x) None c p q = absurd p
keeps_fault (Some x) (Some y) c p q = subst (λ (t : Told). KeepsFault (Some t.fault) c) p q

-- ---- what was ready is given

pub gives : (selection : Selection) (stand : Stand) (below : Gathered) (old new given : List ℕ) → old ≡ given ++ new
    → Consumes (told_octets (record { selection = selection; ready = old; stand = stand; below = below }))
    (told_octets (record { selection = selection; ready = new; stand = stand; below = below })) given
gives selection stand below old new given is = by_rest below.supply.rest
  where
    a : Adapter
    a = record { selection = selection; ready = old; stand = stand; below = below }

    b : Adapter
    b = record { selection = selection; ready = new; stand = stand; below = below }

    by_rest : (rest : Option (List ℕ)) → Consumes (octets_of (option_map (told_from a) rest)) (octets_of (option_map (told_from b) rest)) given
    by_rest None = tt
    by_rest (Some rest) =
        let behind = (told_at selection stand (below.held ++ rest)).octets in
        ap (λ t. t ++ behind) is ∙ append_assoc given new behind

pub gives_fault : (selection : Selection) (stand : Stand) (below : Gathered) (old new : List ℕ)
    → KeepsFault (told_fault (record { selection = selection; ready = old; stand = stand; below = below }))
    (told_fault (record { selection = selection; ready = new; stand = stand; below = below }))
gives_fault selection stand below old new = by_rest below.supply.rest
  where
    a : Adapter
    a = record { selection = selection; ready = old; stand = stand; below = below }

    b : Adapter
    b = record { selection = selection; ready = new; stand = stand; below = below }

    by_rest : (rest : Option (List ℕ)) → KeepsFault (fault_of (option_map (told_from a) rest)) (fault_of (option_map (told_from b) rest))
    by_rest None = tt
    by_rest (Some rest) = refl

-- ---- packets are given where they lie

pub tells_behind : (selection : Selection) (context new : Context) (old after : Gathered) (used : ℕ) (given : List ℕ) → GivesPackets context new old.held used given
    → after ≡ record { held = drop used old.held; supply = old.supply }
    → TellsBehind (told (record { selection = selection; ready = []; stand = Within context; below = old })) given
    (told (record { selection = selection; ready = []; stand = Within new; below = after }))
tells_behind selection context new old after used given is after_is =
    subst (λ (g : Gathered). TellsBehind (told a) given (told (b g))) (sym after_is) (by_rest old.supply.rest)
  where
    a : Adapter
    a = record { selection = selection; ready = []; stand = Within context; below = old }

    b : Gathered → Adapter
    b below = record { selection = selection; ready = []; stand = Within new; below = below }

    by_rest : (rest : Option (List ℕ))
        → TellsBehind (option_map (told_from a) rest) given (option_map (told_from (b (record { held = drop used old.held; supply = old.supply }))) rest)
    by_rest None = tt
    by_rest (Some rest) = is.told selection rest

pub tells_none : (a : Option Told) → TellsBehind a [] a
tells_none None = tt
tells_none (Some x) = refl

pub tells_kept : (a b : Option Told) → TellsBehind a [] b → KeepsTold a b
tells_kept None b p = tt
tells_kept (Some x) None p = absurd p
tells_kept (Some x) (Some y) p = p

pub tells_consumed : (a b : Option Told) (given : List ℕ) → TellsBehind a given b → Consumes (octets_of a) (octets_of b) given
tells_consumed None b given p = tt
tells_consumed (Some x) None given p = absurd p
tells_consumed (Some x) (Some y) given p = sym (ap (λ (t : Told). t.octets) p)

pub tells_fault : (a b : Option Told) (given : List ℕ) → TellsBehind a given b → KeepsFault (fault_of a) (fault_of b)
tells_fault None b given p = tt
tells_fault (Some x) None given p = absurd p
tells_fault (Some x) (Some y) given p = ap (λ (t : Told). t.fault) p

-- ---- at the end

pub over : (a : Adapter) (left_out : ℕ) → a.ready ≡ [] → a.stand ≡ Over left_out → IsAllTold left_out (told a)
over a left_out none is = by_rest a.below.supply.rest
  where
    by_rest : (rest : Option (List ℕ)) → IsAllTold left_out (option_map (told_from a) rest)
    by_rest None = tt
    by_rest (Some rest) =
        ap (λ t. told_behind t (told_at a.selection a.stand (a.below.held ++ rest))) none ∙ ap (λ s. told_behind [] (told_at a.selection s (a.below.held ++ rest))) is

pub all_at_end : (left_out : ℕ) (a : Option Told) → IsAllTold left_out a → IsAtEnd (octets_of a)
all_at_end left_out None is = tt
all_at_end left_out (Some t) is = ap (λ (t : Told). t.octets) is

pub reads_none : (a : Option Told) → Consumes (octets_of a) (octets_of a) []
reads_none None = tt
reads_none (Some t) = refl

pub KeepsFault-refl : (a : Option (Option PcapngFault)) → KeepsFault a a
KeepsFault-refl None = tt
KeepsFault-refl (Some f) = refl

-- ---- a text that is told as it is

-- nothing is held of it, and nothing is ready
pub record IsPlain (a : Adapter) : Type 0 where
  pub stand : a.stand ≡ Plain
  pub ready : a.ready ≡ []
  pub held : a.below.held ≡ []

plain_from : (a : Adapter) (rest : List ℕ) → IsPlain a → told_from a rest ≡ told_plain rest
plain_from a rest is =
    ap (λ t. told_behind t (told_at a.selection a.stand (a.below.held ++ rest))) is.ready
    ∙ ap (λ s. told_behind [] (told_at a.selection s (a.below.held ++ rest))) is.stand
    ∙ ap (λ t. told_behind [] (told_at a.selection Plain (t ++ rest))) is.held

plain_octets : (a : Adapter) (x : Option (List ℕ)) → IsPlain a → octets_of (option_map (told_from a) x) ≡ x
plain_octets a None is = refl
plain_octets a (Some rest) is = ap (λ (t : Told). Some t.octets) (plain_from a rest is)

pub reads_plain : {E : Type 0} (a b : Adapter) (result : Result ℕ E) (octets : List ℕ) → IsPlain a → IsPlain b
    → ReadConsumes a.below.supply.rest b.below.supply.rest result octets → ReadConsumes (told_octets a) (told_octets b) result octets
reads_plain a b result octets p q is =
    subst (λ x. ReadConsumes x (told_octets b) result octets) (sym (plain_octets a a.below.supply.rest p))
    (subst (λ y. ReadConsumes a.below.supply.rest y result octets) (sym (plain_octets b b.below.supply.rest q)) is)

-- where the input below tells what it has left, it does behind a read
stays_told : {E : Type 0} (x y : Option (List ℕ)) (result : Result ℕ E) (octets : List ℕ) → ReadConsumes x y result octets → (P : Option (List ℕ) → Option (List ℕ) → Type 0)
    → ((y : Option (List ℕ)) → P None y) → ((s t : List ℕ) → P (Some s) (Some t)) → P x y
stays_told None y result octets is P none some = none y
stays_told (Some s) (Some t) result octets is P none some = some s t
stays_told (Some s) None (Ok n) octets is P none some = absurd is.0
stays_told (Some s) None (Err e) octets is P none some = absurd is

pub fault_plain : {E : Type 0} (a b : Adapter) (result : Result ℕ E) (octets : List ℕ) → IsPlain a → IsPlain b
    → ReadConsumes a.below.supply.rest b.below.supply.rest result octets → KeepsFault (told_fault a) (told_fault b)
fault_plain a b result octets p q is =
    stays_told a.below.supply.rest b.below.supply.rest result octets is
    (λ x y. KeepsFault (fault_of (option_map (told_from a) x)) (fault_of (option_map (told_from b) y))) (λ y. tt)
    (λ s t. ap (λ (t : Told). t.fault) (plain_from b t q) ∙ sym (ap (λ (t : Told). t.fault) (plain_from a s p)))

pub all_plain : (a : Adapter) → IsPlain a → IsAtEnd a.below.supply.rest → IsAllTold 0 (told a)
all_plain a is end = by_rest a.below.supply.rest end
  where
    by_rest : (rest : Option (List ℕ)) → IsAtEnd rest → IsAllTold 0 (option_map (told_from a) rest)
    by_rest None end = tt
    by_rest (Some rest) end = plain_from a rest is ∙ ap (λ t. told_plain t) end

pub nil_of : (l : List ℕ) → length l ≡ 0 → l ≡ []
nil_of [] e = refl
nil_of (x ∷ l) e = absurd (omega (arith, e))
