-- The counters over a whole run.
use Rattle.std.proofs.Common.{◌≡◌, ◌∙◌, ap, sym, refl, ℕ, ◌+◌, List, [], ◌∷◌, ◌++◌, append-nil, append_assoc, length, map, inl, inr, ◌⊎◌, true}
use Rattle.std.specs.List.{FoldsTo}
use Rattle.overlay.specs.declared.settings.change.Change.{Change}
use Rattle.timeline.specs.declared.event.Event.{Event}
use Rattle.timeline.specs.declared.source.Tap.{Tap}
use Rattle.endpoint_core.specs.Settings.{Settings}
use Rattle.endpoint_core.specs.Counts.{Counts}
use Rattle.endpoint_core.specs.Event.{Event as Taken, IsRising}
use Rattle.endpoint_core.specs.Step.{Answer, State, after, answer, answers, opened, state_after}
use Rattle.endpoint_core.proofs.Runs.{answers-decisions}
use Rattle.endpoint_core.proofs.Tallies.{counts-tally}
use Rattle.capture_run.specs.Outputs.{event_of}
use Rattle.capture_run.proofs.Changes.{ports_stay}
use Rattle.segment_set.specs.Segments.{All}
use Rattle.stream_run.specs.Sights.{sights}
use Rattle.run_counts.specs.Keeping.{Keeping, Sees, totals_in}
use Rattle.run_counts.specs.Run.{IsCounted, answers_of, counts_of, run_summary}
use Rattle.run_counts.specs.Summary.{counts_text, cuts_text}
use Rattle.run_counts.specs.Totals.{Totals, totals_of}

counted : (cs : List Change) (s : State) (n : ℕ) (es : List Event) (begun last : Keeping) (xs : List Event) (given : List Answer) → totals_in begun ≡ totals_of xs given
    → FoldsTo Sees begun (sights All cs s n es) last → totals_in last ≡ totals_of (xs ++ es) (given ++ answers s (map (event_of cs) es))
counted cs s n [] begun last xs given is h =
    ap totals_in (sym h) ∙ is ∙ ap (λ l. totals_of l given) (sym (append-nil xs)) ∙ ap (λ l. totals_of (xs ++ []) l) (sym (append-nil given))
counted cs s n (e ∷ es) begun last xs given is h =
    let a = answer s (event_of cs e) in
    let rest = answers (after s (event_of cs e)) (map (event_of cs) es) in
    counted cs (after s (event_of cs e)) (n + 1) es h.0 last (xs ++ e ∷ []) (given ++ a ∷ []) (h.1 xs given is) h.2
    ∙ ap (λ l. totals_of l ((given ++ a ∷ []) ++ rest)) (append_assoc xs (e ∷ []) es)
    ∙ ap (λ l. totals_of (xs ++ e ∷ es) l) (append_assoc given (a ∷ []) rest)

ports_same : (s : State) (es : List Taken) → length (state_after s es).bridges.settings.ports.ports ≡ length s.bridges.settings.ports.ports
ports_same s [] = refl
ports_same s (e ∷ es) = ports_same (after s e) es ∙ ports_stay s e

module _ (S : Settings) (cs : List Change) (es : List Event) (begun ended : Keeping) (rising : IsRising 0 (map (event_of cs) es)) (is : IsCounted S cs es begun ended) where
  last_counts : totals_in is.last ≡ totals_of es (answers_of S cs es)
  last_counts =
      counted cs (opened S) 0 es begun is.last [] [] is.none is.seen
      ∙ ap (totals_of es) (answers-decisions S [] (map (event_of cs) es) rising)

  pub run_counts : totals_in ended ≡ totals_of es (answers_of S cs es)
  run_counts = is.end.0 ∙ last_counts

  pub run_text : (cut : List Tap) → (ended.text ++ cuts_text (totals_in ended) cut ≡ run_summary S cs es cut) ⊎ (ended.is_lost ≡ true)
  run_text cut = elim is.end.1 [
    | inl told ↦ inl (
        ap (λ l. l ++ cuts_text (totals_in ended) cut) told
        ∙ ap (λ (c : Counts). counts_text c (length (state_after (opened S) (map (event_of cs) es)).bridges.settings.ports.ports) (totals_in is.last) ++ cuts_text (totals_in ended) cut) (counts-tally S (map (event_of cs) es) rising)
        ∙ ap (λ (n : ℕ). counts_text (counts_of S cs es) n (totals_in is.last) ++ cuts_text (totals_in ended) cut) (ports_same (opened S) (map (event_of cs) es))
        ∙ ap (λ (t : Totals). counts_text (counts_of S cs es) (length S.ports.ports) t ++ cuts_text (totals_in ended) cut) last_counts
        ∙ ap (λ (t : Totals). counts_text (counts_of S cs es) (length S.ports.ports) (totals_of es (answers_of S cs es)) ++ cuts_text t cut) run_counts
        )
    | inr lost ↦ inr lost
  ]
