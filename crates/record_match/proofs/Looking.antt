-- Whoever looks on, told one fact after another.
use Rattle.std.proofs.Common.{◌≡◌, ℕ, ◌+◌, ◌-◌, ◌<◌, ◌==◌, true, false, List, [], ◌∷◌, ◌++◌, length, get_or, take, drop, refl, sym, ap, ◌∙◌, subst, arith}
use Rattle.std.proofs.lemmas.Bool.{eqb-true}
use Rattle.std.specs.List.{FoldsTo}
use Rattle.record_match.specs.Kept.{laid}
use Rattle.record_match.specs.Match.{Record, Sent}
use Rattle.record_match.specs.Settled.{Fact, SentAlone, Shows, alone_of, first_alone, held_alone, over_alone}
use Rattle.record_match.specs.Window.{Window, is_first_over}
use Rattle.record_match.specs.declared.kept.Kept.{Kept}
use Rattle.record_match.proofs.Laying.{laid-length}

module _ {W : Type 0} (sees : W → Fact → W → Type 0) where
  pub folds-append : (old : W) (xs : List Fact) (middle : W) (ys : List Fact) (new : W) → FoldsTo sees old xs middle → FoldsTo sees middle ys new → FoldsTo sees old (xs ++ ys) new
  folds-append old [] middle ys new h g = subst (λ (w : W). FoldsTo sees w ys new) (sym h) g
  folds-append old (x ∷ xs) middle ys new h g = (h.0, h.1, folds-append h.0 xs middle ys new h.2 g)

  pub folds-one : (old : W) (xs : List Fact) (middle : W) (x : Fact) (new : W) → FoldsTo sees old xs middle → sees middle x new → FoldsTo sees old (xs ++ x ∷ []) new
  folds-one old xs middle x new h g = folds-append old xs middle (x ∷ []) new h (new, g, refl)

  -- what was told so far, and some facts more
  pub shows-more : {P Q : List Fact → Type 0} (start old new : W) (facts : List Fact) (h : Shows sees start old P) → FoldsTo sees old facts new → Q (h.facts ++ facts) → Shows sees start new Q
  shows-more start old new facts h seen so = record { facts = h.facts ++ facts; seen = folds-append start h.facts old facts new h.seen seen; so = so }

  -- what is told from now on is the rest of all
  abbrev pub Continues : W → List Fact → W → List Fact → Type 0
  Continues start all now rest = (final : W) → FoldsTo sees now rest final → FoldsTo sees start all final

  pub passes-one : (start : W) (all : List Fact) (old new : W) (within now : ℕ) (w x : Window) → w.within ≡ within → is_first_over w.within now w.held ≡ true → x ≡ record w { held = drop 1 w.held }
      → FoldsTo sees old (first_alone w.records w.held) new → Continues start all old (over_alone within now w.records w.held) → Continues start all new (over_alone within now x.records x.held)
  passes-one start all old new within now w x own over is told so_far =
      subst (λ (y : Window). Continues start all new (over_alone within now y.records y.held)) (sym is)
      (by w.records w.held (subst (λ (n : ℕ). is_first_over n now w.held ≡ true) own over) told so_far)
    where
      by : (records : ℕ) (held : List Sent) → is_first_over within now held ≡ true → FoldsTo sees old (first_alone records held) new → Continues start all old (over_alone within now records held)
          → Continues start all new (over_alone within now records (drop 1 held))
      by records [] over told so_far = absurd cc
      by records (s ∷ held) over told so_far = λ final rest. so_far final (rw over (folds-append old (alone_of (records - length held) s) new (over_alone within now records held) final told rest))

  -- where the first isn't over nothing is told any more
  pub passes-none : (start : W) (all : List Fact) (now_is : W) (within now : ℕ) (w : Window) → w.within ≡ within → is_first_over w.within now w.held ≡ false → Continues start all now_is (over_alone within now w.records w.held) → FoldsTo sees start all now_is
  passes-none start all new within now w own over so_far = so_far new (by w.held (subst (λ (n : ℕ). is_first_over n now w.held ≡ false) own over))
    where
      by : (held : List Sent) → is_first_over within now held ≡ false → FoldsTo sees new (over_alone within now w.records held) new
      by [] over = refl
      by (s ∷ held) over = rw over refl

  pub ends-one : (start : W) (all : List Fact) (old new : W) (w x : Window) → (length w.held == 0) ≡ false → x ≡ record w { held = drop 1 w.held } → FoldsTo sees old (first_alone w.records w.held) new
      → Continues start all old (held_alone w.records w.held) → Continues start all new (held_alone x.records x.held)
  ends-one start all old new w x some is told so_far =
      subst (λ (y : Window). Continues start all new (held_alone y.records y.held)) (sym is) (by w.records w.held some told so_far)
    where
      by : (records : ℕ) (held : List Sent) → (length held == 0) ≡ false → FoldsTo sees old (first_alone records held) new → Continues start all old (held_alone records held) → Continues start all new (held_alone records (drop 1 held))
      by records [] some told so_far = absurd cc
      by records (s ∷ held) some told so_far = λ final rest. so_far final (folds-append old (alone_of (records - length held) s) new (held_alone records held) final told rest)

  pub ends-none : (start : W) (all : List Fact) (now_is : W) (w : Window) → (length w.held == 0) ≡ true → Continues start all now_is (held_alone w.records w.held) → FoldsTo sees start all now_is
  ends-none start all new w none so_far = so_far new (by w.held none)
    where
      by : (held : List Sent) → (length held == 0) ≡ true → FoldsTo sees new (held_alone w.records held) new
      by [] none = refl
      by (s ∷ held) none = absurd (omega (arith, eqb-true (length (s ∷ held)) 0 none))

  -- the first that a window keeps is told
  pub tells-first : (old new : W) (within gone passed : ℕ) (ks : List Kept) (row : List ℕ) (w : Window) (k : Kept) (octets : List ℕ) → ◌≡◌ {A = Window} (record { within = within; records = gone + length ks; octets = passed + length row; held = laid ks row }) w → 0 < length w.held → k ≡ get_or ks 0 k → k.is_taken ≡ false
      → octets ≡ take k.length row → sees old (SentAlone (gone + 1) (record { moment = k.moment; octets = octets; missing = k.missing })) new → FoldsTo sees old (first_alone w.records w.held) new
  tells-first old new within gone passed ks row w k octets is some here taken text told =
      subst (λ (y : Window). FoldsTo sees old (first_alone y.records y.held) new) is (by ks (subst (λ (y : Window). 0 < length y.held) (sym is) some) here)
    where
      by : (ks : List Kept) → 0 < length (laid ks row) → k ≡ get_or ks 0 k → FoldsTo sees old (first_alone (gone + length ks) (laid ks row)) new
      by [] some here = absurd (omega (arith, some))
      by (x ∷ ks) some here =
          let number : gone + 1 ≡ gone + length (x ∷ ks) - length (laid ks (drop x.length row)) = omega (arith, laid-length ks (drop x.length row)) in
          let own : x.is_taken ≡ false = ap (λ (y : Kept). y.is_taken) (sym here) ∙ taken in
          let record_is : ◌≡◌ {A = Record} (record { moment = k.moment; octets = octets; missing = k.missing }) (record { moment = x.moment; octets = take x.length row; missing = x.missing }) =
          ap (λ (l : List ℕ). record-of k l) text ∙ ap (λ (y : Kept). record-of y (take y.length row)) here in
          let one : sees old (SentAlone (gone + length (x ∷ ks) - length (laid ks (drop x.length row))) (record { moment = x.moment; octets = take x.length row; missing = x.missing })) new =
          subst (λ (n : ℕ). sees old (SentAlone n (record { moment = x.moment; octets = take x.length row; missing = x.missing })) new) number
          (subst (λ (r : Record). sees old (SentAlone (gone + 1) r) new) record_is told) in
          rw own (new, one, refl)
        where
          record-of : Kept → List ℕ → Record
          record-of k l = record { moment = k.moment; octets = l; missing = k.missing }
