-- The lines of the captures that are cut, one after another.
use Rattle.std.proofs.Common.{◌≡◌, ◌∙◌, refl, sym, ap, subst, ℕ, ◌+◌, ◌<◌, List, [], ◌∷◌, drop, length, slice_index_or, arith, Option, Some, None, Result}
use Rattle.std.specs.Option.{option_to_list}
use Rattle.std.specs.List.{cons_option}
use Rattle.std.proofs.lemmas.List.{drop_all}
use Rattle.pcap.specs.Source.{Stream}
use Rattle.timeline.specs.declared.source.Tap.TheVariants.{Port, Underlay}
use Rattle.timeline.specs.declared.timeline.Cut.{Cut}
use Rattle.decision_lines.specs.Lines.{cut_line}
use Rattle.capture_run.specs.Outputs.{Outputs}
use Rattle.capture_run.specs.Writing.{with_cuts, with_line}
use Rattle.capture_run.proofs.Changes.{left_is}
use Rattle.stream_run.specs.Begun.{no_turn}
use Rattle.stream_run.specs.Cuts.{cut_behind, cuts_from}
use Rattle.stream_run.specs.Stage.{Drains, Lead, StandAt, StandBetween}
use Rattle.stream_run.specs.declared.fault.Target.{Target}
use Rattle.stream_run.specs.declared.turn.Turn.{Turn}
use Rattle.stream_run.proofs.Standing.{AreFronts, AreSameCaptures, front_line, fronts_self, fronts_trans, lead_behind, lines_alone, wider}

pub front_cuts : (o : Outputs) (cuts : List Cut) → AreFronts o (with_cuts o cuts)
front_cuts o [] = fronts_self o
front_cuts o (cut ∷ cuts) = fronts_trans o (with_line o (cut_line cut)) _ (front_line o (cut_line cut)) (front_cuts (with_line o (cut_line cut)) cuts)

-- a line leaves the captures as they are
captures_stay : (o : Outputs) (cuts : List Cut) → AreSameCaptures o (with_cuts o cuts)
captures_stay o [] = record { ports = refl; underlay = refl }
captures_stay o (cut ∷ cuts) = let rest = captures_stay (with_line o (cut_line cut)) cuts in record { ports = rest.ports; underlay = rest.underlay }

-- one of them and the others
one_and_others : (o : Outputs) (c : Option Cut) (rest : List Cut) → with_cuts o (cons_option c rest) ≡ with_cuts (with_cuts o (option_to_list c)) rest
one_and_others o None rest = refl
one_and_others o (Some cut) rest = refl

-- some lines are put: with those that are left put too, it is all
pub record CutSoFar (start now : Drains) (o : Outputs) (left all : List Cut) : Type 0 where
  pub mid : Outputs
  pub at : StandAt start now mid
  pub behind : AreFronts o mid
  pub same : with_cuts mid left ≡ with_cuts o all

pub none_cut : (start now : Drains) (o : Outputs) (all : List Cut) → StandAt start now o → CutSoFar start now o all all
none_cut start now o all at = record { mid = o; at = at; behind = fronts_self o; same = refl }

pub one_cut : (start now new : Drains) (o : Outputs) (c : Option Cut) (rest all : List Cut) (so_far : CutSoFar start now o (cons_option c rest) all) → StandAt start new (with_cuts so_far.mid (option_to_list c))
    → CutSoFar start new o rest all
one_cut start now new o c rest all so_far at = record {
  mid = with_cuts so_far.mid (option_to_list c);
  at = at;
  behind = fronts_trans o so_far.mid _ so_far.behind (front_cuts so_far.mid (option_to_list c));
  same = sym (one_and_others so_far.mid c rest) ∙ so_far.same;
}

pub cut_failed : (start now new : Drains) (o : Outputs) (c : Option Cut) (rest all : List Cut) (so_far : CutSoFar start now o (cons_option c rest) all)
    → StandBetween start new so_far.mid (with_cuts so_far.mid (option_to_list c)) → StandBetween start new o (with_cuts o all)
cut_failed start now new o c rest all so_far between =
    let next = with_cuts so_far.mid (option_to_list c) in
    let first = captures_stay so_far.mid (option_to_list c) in
    let last = captures_stay next rest in
    subst (StandBetween start new o) (sym (one_and_others so_far.mid c rest) ∙ so_far.same)
    (wider start new o so_far.mid next (with_cuts next rest) between so_far.behind (front_cuts next rest)
    (lines_alone start new o so_far.mid next (with_cuts next rest) between (record { ports = first.ports ∙ last.ports; underlay = first.underlay ∙ last.underlay }) last))

pub last_cut : {T : Type 0} (start now new : Drains) (o : Outputs) (left all : List Cut) (result : Result T Target) (so_far : CutSoFar start now o left all)
    → Lead start new so_far.mid (with_cuts so_far.mid left) result → Lead start new o (with_cuts o all) result
last_cut start now new o left all result so_far lead =
    subst (λ next. Lead start new o next result) so_far.same (lead_behind start new o so_far.mid (with_cuts so_far.mid left) result so_far.behind (captures_stay so_far.mid left) lead)

-- what is left at a port, and at the end
pub left_at : (ports : List Stream) (underlay : Stream) (turns : List Turn) (i : ℕ) (s : Stream) → i < length ports
    → cuts_from (i + 1) (drop i ports) underlay turns
    ≡ cons_option (cut_behind (Port (i + 1)) (slice_index_or ports i s) (slice_index_or turns (i + 1) no_turn).done) (cuts_from (i + 1 + 1) (drop (i + 1) ports) underlay turns)
left_at ports underlay turns i s there = ap (λ l. cuts_from (i + 1) l underlay turns) (left_is ports i s there)

pub left_last : (ports : List Stream) (underlay : Stream) (turns : List Turn) (i : ℕ) → i ≡ length ports
    → cuts_from (i + 1) (drop i ports) underlay turns ≡ option_to_list (cut_behind Underlay underlay (slice_index_or turns (length ports + 1) no_turn).done)
left_last ports underlay turns i is =
    ap (λ l. cuts_from (i + 1) l underlay turns) (drop_all i ports (omega (arith, is)))
    ∙ ap (λ k. option_to_list (cut_behind Underlay underlay (slice_index_or turns (k + 1) no_turn).done)) is
