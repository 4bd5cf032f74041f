-- What a window shows of the frames that it keeps.
use Rattle.std.proofs.Common.{◌≡◌, ℕ, ◌<◌, List, length, get_or, take, drop, refl, sym, ap, ◌∙◌}
use Rattle.echo_window.specs.Echo.{Arrival, Record, Window, first_met, is_echo_of, octets_of}
use Rattle.echo_window.specs.Laid.{came_of, laid, lengths}
use Rattle.echo_window.specs.declared.forgotten.Forgotten.{Forgotten}
use Rattle.echo_window.specs.declared.kept.Kept.{Kept}
use Rattle.echo_window.proofs.Laying.{laid-at, laid-length, laid-octets}

pub came-is : {w : ℕ} {came : List Arrival} {f : Forgotten} {now : Window} → record { within = w; came = came; forgotten = f } ≡ now → came ≡ now.came
came-is v = ap (λ (x : Window). x.came) v

-- a window is another
pub same-window : {w v : ℕ} {came more : List Arrival} {f g : Forgotten} → w ≡ v → came ≡ more → f ≡ g
    → ◌≡◌ {A = Window} (record { within = w; came = came; forgotten = f }) (record { within = v; came = more; forgotten = g })
same-window h k l = cc

-- a window as another, but for the frames
pub as-window : (w : ℕ) (came : List Arrival) {f : Forgotten} (now : Window) (new want : List Arrival) → record { within = w; came = came; forgotten = f } ≡ now → new ≡ want
    → ◌≡◌ {A = Window} (record { within = w; came = new; forgotten = f }) (record { within = now.within; came = want; forgotten = now.forgotten })
as-window w came {f} now new want v e =
    let in_time : w ≡ now.within = ap (λ (x : Window). x.within) v in
    let gone : f ≡ now.forgotten = ap (λ (x : Window). x.forgotten) v in
    cc

pub count-is : (ks : List Kept) (row : List ℕ) (came : List Arrival) → laid ks row ≡ came → length came ≡ length ks
count-is ks row came v = sym (ap (λ (l : List Arrival). length l) v) ∙ laid-length ks row

pub octets-are : (ks : List Kept) (row : List ℕ) (came : List Arrival) → laid ks row ≡ came → lengths ks ≡ length row → octets_of came ≡ length row
octets-are ks row came v h = sym (ap (λ (l : List Arrival). octets_of l) v) ∙ laid-octets ks row h

-- the frame at an index
pub one-is : (ks : List Kept) (row : List ℕ) (came : List Arrival) (i : ℕ) (k : Kept) (e : Arrival) → laid ks row ≡ came → i < length ks → k ≡ get_or ks i k → get_or came i e ≡ came_of k (take k.length (drop (lengths (take i ks)) row))
one-is ks row came i k e v h here =
    sym (ap (λ (l : List Arrival). get_or l i e) v) ∙ laid-at ks row i k e h ∙ ap (λ (x : Kept). came_of x (take x.length (drop (lengths (take i ks)) row))) (sym here)

-- what is asked of it
pub asked-is : (within : ℕ) (m : Record) (ks : List Kept) (row octets : List ℕ) (i begin : ℕ) (k : Kept) → i < length ks → k ≡ get_or ks i k → begin ≡ lengths (take i ks)
    → octets ≡ take k.length (drop begin row) → is_echo_of within m (came_of k octets) ≡ is_echo_of within m (get_or (laid ks row) i (first_met m))
asked-is within m ks row octets i begin k h here at are =
    ap (λ (l : List ℕ). is_echo_of within m (came_of k l)) are
    ∙ ap (λ (x : ℕ). is_echo_of within m (came_of k (take k.length (drop x row)))) at
    ∙ sym (ap (λ (c : Arrival). is_echo_of within m c) (one-is ks row (laid ks row) i k (first_met m) refl h here))
