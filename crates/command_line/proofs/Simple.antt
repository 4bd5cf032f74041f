-- The program's command is simple, and what that says of a parse.
use Rattle.std.proofs.Common.{◌≡◌, ◌∙◌, ap, sym, refl, Bool, true, false}
use Rattle.std.proofs.Common.{List, Option, None, [], ◌∷◌, ℕ, subst, inl, inr}
use Rattle.std.proofs.lemmas.Bool.{cond-true, cond-false}
use Rattle.std.specs.Prelude.{IfErr, IfOk, OnOk, Result, Ok, Err, option_and_then}
use Rattle.clap.specs.Kinds.{Kinds}
use Rattle.clap.specs.declared.error.ErrorKind.{ErrorKind}
use Rattle.clap.specs.Words.{App, HasKind, HasMatchesOf, IsAmong, fault_of, is_simple, is_simple_and_free, kind_of, subcommand_of, subcommand_rows_of, takes}
use Rattle.clap.specs.declared.parser.matches.ArgMatches.{ArgMatches}
use Rattle.clap.specs.declared.error.Error.{Error}
use Rattle.clap.specs.declared.error.ErrorKind.TheVariants.{OutOfMemory}
use Rattle.clap.proofs.OnLiterals.{clap_on_literals}
use Rattle.command_line.specs.App.{telling_app, tep_app}
use Rattle.command_line.specs.Meaning.{Explains, ExplainsWords, LacksValue, Meaning, RefusesAsWhole, are_none, line_meant, telling, telling_meant, words_meant}
use Rattle.command_line.specs.declared.line.LineFault.{LineFault}
use Rattle.command_line.specs.declared.line.LineFault.TheVariants as fault

-- a command that is simple, and has no fault of its own
abbrev IsFree : App → Type 0
IsFree a = (is_simple a ≡ true) × (is_simple_and_free a ≡ true)

tep-free : IsFree tep_app
unfolding clap_on_literals
tep-free = (refl, refl)

telling-free : IsFree telling_app
unfolding clap_on_literals
telling-free = (refl, refl)

pub not_true : (b : Bool) → (b ≡ true → ⊥) → b ≡ false
not_true true h = absurd (h refl)
not_true false h = refl

-- ---- the program

pub taken_by : (a : App) (words : List (List ℕ)) → a ≡ tep_app → (is_simple_and_free a ≡ true → fault_of a words ≡ []) → fault_of tep_app words ≡ []
taken_by a words is none = subst (λ (x : App). is_simple_and_free x ≡ true → fault_of x words ≡ []) is none tep-free.1

pub refused_by : (a : App) (words : List (List ℕ)) (e : Error) → a ≡ tep_app
    → (takes a words ≡ true → kind_of e ≡ OutOfMemory)
    → (is_simple_and_free a ≡ true → HasKind (fault_of a words) e)
    → RefusesAsWhole words e
refused_by a words e is passes kinds = go (takes tep_app words) refl
  where
    taken : takes tep_app words ≡ true → kind_of e ≡ OutOfMemory
    taken = subst (λ (x : App). takes x words ≡ true → kind_of e ≡ OutOfMemory) is passes

    kind : HasKind (fault_of tep_app words) e
    kind = subst (λ (x : App). is_simple_and_free x ≡ true → HasKind (fault_of x words) e) is kinds tep-free.1

    go : (b : Bool) → takes tep_app words ≡ b → RefusesAsWhole words e
    go true h = inl (taken h)
    go false h = elim kind [ inl k ↦ inl k | inr k ↦ inr (h, k) ]

pub meant_by : (a : App) (words : List (List ℕ)) (m : ArgMatches) (meaning : Option Meaning) → a ≡ tep_app → HasMatchesOf a words m
    → (is_simple_and_free a ≡ true → fault_of a words ≡ []) → line_meant (subcommand_rows_of m) ≡ meaning → words_meant words ≡ meaning
meant_by a words m meaning is has none meant =
    let both = subst (λ (x : App). HasMatchesOf x words m) is has tep-free.0 in
    let rows : subcommand_rows_of m ≡ subcommand_of tep_app words = both.1 in
    cond-true _ _ _ (ap are_none (taken_by a words is none)) ∙ ap line_meant (sym rows) ∙ meant

pub explained_by : (a : App) (words : List (List ℕ)) (m : ArgMatches) (f : LineFault) → a ≡ tep_app → HasMatchesOf a words m
    → (is_simple_and_free a ≡ true → fault_of a words ≡ []) → LacksValue (line_meant (subcommand_rows_of m)) f → ExplainsWords words f
explained_by a words m fault.OutOfMemory is has none lacks = tt
explained_by a words m (fault.Refused e) is has none lacks = absurd lacks
explained_by a words m fault.NoValue is has none lacks = (taken_by a words is none, meant_by a words m None is has none lacks)
explained_by a words m fault.Unpaired is has none lacks = (taken_by a words is none, meant_by a words m None is has none lacks)
explained_by a words m fault.NoFolder is has none lacks = (taken_by a words is none, meant_by a words m None is has none lacks)
explained_by a words m fault.Ignored is has none lacks = (taken_by a words is none, meant_by a words m None is has none lacks)
explained_by a words m fault.NoCheck is has none lacks = (taken_by a words is none, meant_by a words m None is has none lacks)
explained_by a words m fault.InputTwice is has none lacks = absurd lacks
explained_by a words m fault.NoSegments is has none lacks = absurd lacks
explained_by a words m fault.OutputTwice is has none lacks = absurd lacks
explained_by a words m fault.NoCapture is has none lacks = absurd lacks

-- ---- a run of which something is told

some_fault : (k : ErrorKind) (ks : Kinds) → IsAmong k ks → are_none ks ≡ false
some_fault k [] h = absurd h
some_fault k (x ∷ xs) h = refl

pub telling_by : (a : App) (words : List (List ℕ)) (m : ArgMatches) → a ≡ telling_app → HasMatchesOf a words m
    → (is_simple_and_free a ≡ true → fault_of a words ≡ []) → option_and_then telling (line_meant (subcommand_rows_of m)) ≡ telling_meant words
telling_by a words m is has none =
    let both = subst (λ (x : App). HasMatchesOf x words m) is has telling-free.0 in
    let rows : subcommand_rows_of m ≡ subcommand_of telling_app words = both.1 in
    let taken : fault_of telling_app words ≡ [] = subst (λ (x : App). is_simple_and_free x ≡ true → fault_of x words ≡ []) is none telling-free.1 in
    ap (λ r. option_and_then telling (line_meant r)) rows ∙ sym (cond-true _ _ _ (ap are_none taken))

pub not_telling_by : (a : App) (words : List (List ℕ)) (e : Error) → a ≡ telling_app
    → (is_simple_and_free a ≡ true → HasKind (fault_of a words) e) → (kind_of e ≡ OutOfMemory → ⊥) → telling_meant words ≡ None
not_telling_by a words e is kinds other =
    let kind : HasKind (fault_of telling_app words) e =
    subst (λ (x : App). is_simple_and_free x ≡ true → HasKind (fault_of x words) e) is kinds telling-free.1 in
    cond-false _ _ _ (some_fault (kind_of e) (fault_of telling_app words) (elim kind [ inl h ↦ absurd (other h) | inr h ↦ h ]))

-- where the program refuses the words, they mean what they mean of such a run
pub meant_as_telling : (words : List (List ℕ)) (k : ErrorKind) (meaning : Option Meaning) → IsAmong k (fault_of tep_app words) → telling_meant words ≡ meaning → words_meant words ≡ meaning
meant_as_telling words k meaning among meant = cond-false _ _ _ (some_fault k (fault_of tep_app words) among) ∙ meant

-- ---- what a result is told

pub if_ok : {A E : Type 0} {P Q : A → Type 0} (r : Result A E) → ((x : A) → P x → Q x) → IfOk r P → IfOk r Q
if_ok (Ok x) f h = f x h
if_ok (Err e) f h = tt

pub if_err : {A E : Type 0} {P Q : E → Type 0} (r : Result A E) → ((x : E) → P x → Q x) → IfErr r P → IfErr r Q
if_err (Ok x) f h = tt
if_err (Err e) f h = f e h

pub on_ok : {A E : Type 0} {P : Type 0} (r : Result A E) → P → OnOk r P
on_ok (Ok x) h = h
on_ok (Err e) h = tt

-- a fault of words is one of the line
pub explained_line : (words : List (List ℕ)) (f : LineFault) → ExplainsWords words f → Explains words f
explained_line words fault.OutOfMemory h = tt
explained_line words (fault.Refused e) h = h
explained_line words fault.NoValue h = h
explained_line words fault.Unpaired h = h
explained_line words fault.NoFolder h = h
explained_line words fault.Ignored h = h
explained_line words fault.NoCheck h = h
explained_line words fault.InputTwice h = absurd h
explained_line words fault.NoSegments h = absurd h
explained_line words fault.OutputTwice h = absurd h
explained_line words fault.NoCapture h = absurd h
