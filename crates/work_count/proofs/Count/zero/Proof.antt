-- `zero` makes a value without octets, and its ghost field is 0.
use Rattle.std.proofs.Common.{[], ◌∷◌, refl}
use Rattle.std.proofs.raw_atomic.Walks.{proved}
use base.Fml.{Fml, ftrue}
use mir.Val.{Val, vstruct, vcons, vnil}
use types.Kit.{‵, raw, ◌$◌, ◌∵◌, !, qed, use0, done, drop, fjoin, suffices}
use types.Run.{enter, returns, and_then, no_more}
use types.Part.{agg}
use types.ByLocal.{alloc_all, pass_all, free_all, look_at, sets, get}
use denote.Shadow.{makes_shadow}
use denote.Struct.Struct.{Struct}
use denote.Struct.Owning.{shape}
use denote.Steps.{nothing}
use denote.Triple.Entry.{on_entry}
use denote.Triple.Walked.{walk_of, says, ends_at}
use Rattle.work_count.specs.contracts.Count.zero as f
use Rattle.work_count.proofs.Count.zero.Statement.{statement}
use Rattle.work_count.proofs.Count.zero.Code as code
use Rattle.work_count.specs.contracts.Count.{the_row as R, the_type}

-- the machine's value: a struct of an empty struct
abbrev value : Val
value = vstruct (vcons (vstruct vnil) vnil)

abbrev fields : Fml
fields = (Struct (shape the_type)).own_val (tt, tt) (value ∷ [])

pub zero_spec : {M : Type 1} → statement M
zero_spec 𝓤 𝓛 𝓜 𝓡 wired =
    let c = f.clauses 𝓛 𝓜.mem 𝓡.returns in let W = walk_of 𝓛 f.ended tt c in
    proved 𝓛 f.ended tt c 𝓜 𝓡 tt
    f.Key.name code.function (code.unfolded 𝓤 𝓛.H 𝓜 𝓡 wired)
    (λ κs. tt) (λ κs. tt) (λ κs qs bounds a _ are.
    let y : W.Ghost = ((κs, qs, bounds, a, tt), tt) in
    let r : R.Denot = record { marker = record {}; total = 0 } in
    qed 𝓛 (raw (on_entry 𝓛 f.signature κs qs a y.0.4) ∷ ‵ ftrue ∷ []) ∵ drop ! $ drop ! $
    enter ! _ _ _ _ _ $ alloc_all ! (λ l. pass_all ! refl tt $
    sets ! (agg ! (no_more !)) refl (tt, tt) $
    sets ! (agg ! (and_then ! (get ! refl) (no_more !))) refl (tt, (tt, tt)) $
    returns ! (look_at ! 0 refl) $ free_all ! refl $
    suffices ! _ (ends_at 𝓛 f.ended tt c y value r tt tt) $ says ! refl $
    nothing ! $ use0 𝓛 (‵ fields) (makes_shadow 𝓛 fields (λ _. (tt, ((λ _. (tt, tt)), tt))) ((vstruct vnil ∷ [], tt), (refl, ((tt, (refl, tt)), tt)))) $ fjoin ! $
    nothing ! $ nothing ! $ done !))
