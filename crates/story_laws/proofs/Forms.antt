-- Objects in front of a text, as their words one behind another, each in front of the octet that ends it.
use Rattle.std.proofs.Common.{◌≡◌, ℕ, Bool, List, ◌∷◌, ◌++◌, append_assoc, Option, Some, None, refl}
use Rattle.std.specs.Prelude.{codes, decimal}
use Rattle.wire.specs.Reason.{name_of, number_of}
use Rattle.wire.specs.declared.ether.reason.Reason.{Reason}
use Rattle.timeline.specs.Words.{source_word}
use Rattle.endpoint_core.specs.declared.state.fault.ChangeFault.{ChangeFault}
use Rattle.endpoint_core.specs.Fault as change
use Rattle.endpoint_core.specs.Decision.{Sent}
use Rattle.decision_objects.specs.declared.origin.Origin.{Origin}
use Rattle.decision_objects.specs.Objects.{drop_object, outcomes_text, reply_object, segment_text, sent_object}

-- ---- the forms

-- the number and the moment of an event in front of what is told behind them
abbrev pub front : List ℕ → List ℕ → List ℕ → List ℕ
front event moment x = codes "{\"event\":" ++ (event ++ 44 ∷ (codes "\"moment\":\"" ++ (moment ++ 34 ∷ x)))

-- the segment and the source, and the end of an object
abbrev pub ending : List ℕ → List ℕ → List ℕ → List ℕ
ending segment source x = codes ",\"segment\":" ++ (segment ++ 44 ∷ (codes "\"source\":\"" ++ (source ++ 34 ∷ (codes "}\n" ++ x))))

-- what is told behind the moment where a change is done
abbrev pub done_behind : List ℕ → List ℕ → List ℕ → List ℕ → List ℕ
done_behind number segment source x =
    codes ",\"number\":" ++ (number ++ 44 ∷ (codes "\"result\":\"done\"" ++ ending segment source x))

-- where something is sent
abbrev pub sent_behind : List ℕ → List ℕ → List ℕ → List ℕ → List ℕ → List ℕ
sent_behind number outcomes segment source x =
    codes ",\"number\":" ++ (number ++ 44 ∷
    (codes "\"outcomes\":[" ++ (outcomes ++ 93 ∷ (codes ",\"result\":\"sent\"" ++ ending segment source x))))

-- and where nothing is sent
abbrev pub drop_behind : List ℕ → List ℕ → List ℕ → List ℕ → List ℕ → List ℕ → List ℕ
drop_behind name number reason segment source x =
    codes ",\"name\":\"" ++ (name ++ 34 ∷ (codes ",\"number\":" ++ (number ++ 44 ∷
    (codes "\"reason\":" ++ (reason ++ 44 ∷ (codes "\"result\":\"drop\"" ++ ending segment source x))))))

-- a refused change
abbrev pub refused : List ℕ → List ℕ → List ℕ → List ℕ → List ℕ → List ℕ → List ℕ → List ℕ → List ℕ
refused cause event moment name number segment source x =
    codes "{\"cause\":" ++ (cause ++ 44 ∷ (codes "\"event\":" ++ (event ++ 44 ∷ (codes "\"moment\":\"" ++ (moment ++ 34 ∷
    (codes ",\"name\":\"" ++ (name ++ 34 ∷ (codes ",\"number\":" ++ (number ++ 44 ∷
    (codes "\"result\":\"refused\"" ++ ending segment source x))))))))))

-- ---- objects have them

of_done : (a b c d e f g h i j k l m n x : List ℕ) → a ++ (b ++ c ++ d ++ e ++ f) ++ (g ++ h) ++ i ++ (j ++ k ++ l ++ m ++ n) ++ x
    ≡ a ++ (b ++ (c ++ (d ++ (e ++ (f ++ (g ++ (h ++ (i ++ (j ++ (k ++ (l ++ (m ++ (n ++ x)))))))))))))
of_done a b c d e f g h i j k l m n x = simp append_assoc refl

of_sent : (a b c d e f g h i j k l m n o p x : List ℕ)
    → a ++ (b ++ c ++ d ++ e ++ f) ++ (g ++ h) ++ i ++ j ++ k ++ (l ++ m ++ n ++ o ++ p) ++ x
    ≡ a ++ (b ++ (c ++ (d ++ (e ++ (f ++ (g ++ (h ++ (i ++ (j ++ (k ++ (l ++ (m ++ (n ++ (o ++ (p ++ x)))))))))))))))
of_sent a b c d e f g h i j k l m n o p x = simp append_assoc refl

of_drop : (a b c d e f g h i j k l m n o p q r s x : List ℕ)
    → a ++ (b ++ c ++ d ++ e ++ f) ++ g ++ h ++ i ++ (j ++ k) ++ l ++ m ++ n ++ (o ++ p ++ q ++ r ++ s) ++ x
    ≡ a ++ (b ++ (c ++ (d ++ (e ++ (f ++ (g ++ (h ++ (i ++ (j ++ (k ++ (l ++ (m ++ (n ++ (o ++ (p ++ (q ++ (r ++ (s ++ x))))))))))))))))))
of_drop a b c d e f g h i j k l m n o p q r s x = simp append_assoc refl

of_refused : (a b c d e f g h i j k l m n o p q r s x : List ℕ)
    → a ++ b ++ c ++ (d ++ e ++ f ++ g ++ h) ++ i ++ j ++ k ++ (l ++ m) ++ n ++ (o ++ p ++ q ++ r ++ s) ++ x
    ≡ a ++ (b ++ (c ++ (d ++ (e ++ (f ++ (g ++ (h ++ (i ++ (j ++ (k ++ (l ++ (m ++ (n ++ (o ++ (p ++ (q ++ (r ++ (s ++ x))))))))))))))))))
of_refused a b c d e f g h i j k l m n o p q r s x = simp append_assoc refl

pub done_form : (o : Origin) (named : Option ℕ) (x : List ℕ)
    → reply_object o named None ++ x
    ≡ front (decimal o.event) (decimal o.moment) (done_behind (decimal o.number) (segment_text named) (source_word o.source) x)
done_form o named x =
    of_done (codes "{") (codes "\"event\":") (decimal o.event) (codes ",\"moment\":\"") (decimal o.moment) (codes "\"")
    (codes ",\"number\":") (decimal o.number) (codes ",\"result\":\"done\"") (codes ",\"segment\":") (segment_text named)
    (codes ",\"source\":\"") (source_word o.source) (codes "\"}\n") x

pub sent_form : (o : Origin) (segment : Option ℕ) (two : Bool) (os : List Sent) (x : List ℕ)
    → sent_object o segment two os ++ x
    ≡ front (decimal o.event) (decimal o.moment)
    (sent_behind (decimal o.number) (outcomes_text two os) (segment_text segment) (source_word o.source) x)
sent_form o segment two os x =
    of_sent (codes "{") (codes "\"event\":") (decimal o.event) (codes ",\"moment\":\"") (decimal o.moment) (codes "\"")
    (codes ",\"number\":") (decimal o.number) (codes ",\"outcomes\":[") (outcomes_text two os) (codes "],\"result\":\"sent\"")
    (codes ",\"segment\":") (segment_text segment) (codes ",\"source\":\"") (source_word o.source) (codes "\"}\n") x

pub drop_form : (o : Origin) (segment : Option ℕ) (reason : Reason) (x : List ℕ)
    → drop_object o segment reason ++ x
    ≡ front (decimal o.event) (decimal o.moment)
    (drop_behind (name_of reason) (decimal o.number) (decimal (number_of reason)) (segment_text segment) (source_word o.source) x)
drop_form o segment reason x =
    of_drop (codes "{") (codes "\"event\":") (decimal o.event) (codes ",\"moment\":\"") (decimal o.moment) (codes "\"")
    (codes ",\"name\":\"") (name_of reason) (codes "\"") (codes ",\"number\":") (decimal o.number) (codes ",\"reason\":")
    (decimal (number_of reason)) (codes ",\"result\":\"drop\"") (codes ",\"segment\":") (segment_text segment)
    (codes ",\"source\":\"") (source_word o.source) (codes "\"}\n") x

pub refused_form : (o : Origin) (named : Option ℕ) (fault : ChangeFault) (x : List ℕ)
    → reply_object o named (Some fault) ++ x
    ≡ refused (decimal (change.number_of fault)) (decimal o.event) (decimal o.moment) (change.name_of fault) (decimal o.number)
    (segment_text named) (source_word o.source) x
refused_form o named fault x =
    of_refused (codes "{\"cause\":") (decimal (change.number_of fault)) (codes ",") (codes "\"event\":") (decimal o.event)
    (codes ",\"moment\":\"") (decimal o.moment) (codes "\"") (codes ",\"name\":\"") (change.name_of fault) (codes "\"")
    (codes ",\"number\":") (decimal o.number) (codes ",\"result\":\"refused\"") (codes ",\"segment\":") (segment_text named)
    (codes ",\"source\":\"") (source_word o.source) (codes "\"}\n") x
