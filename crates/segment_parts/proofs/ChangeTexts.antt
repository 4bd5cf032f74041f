-- A text of changes names segments by their VIDs alone.
use Rattle.std.proofs.Common.{◌≡◌, ℕ, true, List, map, Option, Some, Ok, IfOk, codes, arith}
use Rattle.std.specs.List.{AllByRecursion}
use Rattle.std.proofs.lemmas.Bool.{leb-true}
use Rattle.toml.specs.Data.{Data, get_member, as_integer}
use Rattle.wire.specs.declared.ip_udp.addr.Addr.{Addr}
use Rattle.wire.specs.declared.ip_udp.addr.Tunnel.{Tunnel}
use Rattle.wire.specs.Tag.{IsVid}
use Rattle.config_text.specs.Fault.{◌>>=◌}
use Rattle.config_text.specs.Column.{in_range, one_of, range, truth}
use Rattle.config_text.specs.Table.{Place, path, required}
use Rattle.config_text.proofs.Addresses.{then_some}
use Rattle.overlay.specs.declared.settings.change.NewSegment.{NewSegment}
use Rattle.overlay.specs.declared.settings.change.TimedChange.{TimedChange}
use Rattle.overlay_config.specs.CommonRules.{common_of}
use Rattle.overlay_config.specs.Change.{addr_at, any_number, change_in, changes_in, egress_words, kind_words, mac_at, new_segment_of, new_tunnels_of, port_at, remote_of, target_of, tunnel_at, vid_at}
use Rattle.segment_parts.specs.Pieces.{NamesVid}
use Rattle.segment_parts.proofs.ChangeRows.{Reads, all-changes, in_range-is, text-timed, then-if, then-so, value-if}

vid-is : (d : Data) (x : ℕ) → range 1 4094 d ≡ Some x → IsVid x
vid-is d x e =
    let a = then_some (in_range 1 4094) (as_integer d) x e in
    let b = in_range-is 1 4094 a.0 x a.2 in
    (omega (arith, leb-true 1 x b.0), omega (arith, leb-true x 4094 b.1))

vid-if : (at : Place) → IfOk (vid_at at) IsVid
vid-if at = value-if IsVid (range 1 4094) vid-is (path at (codes "vid")) (get_member (codes "vid") at.members)

-- ---- one change

abbrev IsRemote : ℕ × Addr × Option Tunnel → Type 0
IsRemote r = IsVid r.0

remote-if : (at : Place) → IfOk (remote_of at) IsRemote
unfolding remote_of
remote-if at =
    then-if IsVid IsRemote (vid_at at) _ (vid-if at) (λ vid own.
    then-so IsRemote (addr_at at) (λ addr. tunnel_at at >>= λ tunnel. Ok (vid, addr, tunnel)) (λ addr.
    then-so {A = Option Tunnel} IsRemote (tunnel_at at) (λ tunnel. Ok (vid, addr, tunnel)) (λ tunnel. own)))

abbrev IsSegment : NewSegment → Type 0
IsSegment new = IsVid new.vid

segment-if : (at : Place) → IfOk (new_segment_of at) IsSegment
unfolding new_segment_of
segment-if at =
    then-if IsVid IsSegment (vid_at at) _ (vid-if at) (λ vid own.
    then-so IsSegment (new_tunnels_of at) _ (λ tunnels.
    then-so IsSegment (common_of true 256 any_number any_number at) _ (λ common. own)))

-- ---- a change of each kind

-- each names its segment so
kinds-if : AllByRecursion (λ w. Reads NamesVid change_in w.1) kind_words
unfolding change_in
kinds-if = (
  λ at. then-if IsRemote NamesVid (remote_of at) _ (remote-if at) (λ r own. own),
  (
    λ at. then-if IsRemote NamesVid (remote_of at) _ (remote-if at) (λ r own. own),
    (
      λ at.
          then-if IsVid NamesVid (vid_at at) _ (vid-if at) (λ vid own.
          then-so NamesVid (mac_at at) _ (λ mac.
          then-so NamesVid (target_of at) _ (λ goal. own))),
      (
        λ at. then-if IsVid NamesVid (vid_at at) _ (vid-if at) (λ vid own. then-so NamesVid (mac_at at) _ (λ mac. own)),
        (
          λ at. then-if IsVid NamesVid (vid_at at) _ (vid-if at) (λ vid own. then-so NamesVid (required at (codes "seconds") any_number) _ (λ seconds. own)),
          (
            λ at. then-if IsVid NamesVid (vid_at at) _ (vid-if at) (λ vid own. then-so NamesVid (required at (codes "on") truth) _ (λ on. own)),
            (
              λ at.
                  then-if IsVid NamesVid (vid_at at) _ (vid-if at) (λ vid own.
                  then-so NamesVid (port_at at) _ (λ port.
                  then-so NamesVid (required at (codes "egress") (one_of egress_words)) _ (λ egress. own))),
              (
                λ at. then-so NamesVid (port_at at) _ (λ port. tt),
                (
                  λ at. then-so NamesVid (port_at at) _ (λ port. tt),
                  (
                    λ at. then-if IsVid NamesVid (vid_at at) _ (vid-if at) (λ vid own. own),
                    (
                      λ at. then-if IsSegment NamesVid (new_segment_of at) _ (segment-if at) (λ new own. own),
                      (
                        λ at. then-if IsVid NamesVid (vid_at at) _ (vid-if at) (λ vid own. own),
                        (
                          λ at. then-if IsVid NamesVid (vid_at at) _ (vid-if at) (λ vid own. then-so NamesVid (required at (codes "limit") any_number) _ (λ limit. own)),
                          tt,
                        ),
                      ),
                    ),
                  ),
                ),
              ),
            ),
          ),
        ),
      ),
    ),
  ),
)

-- so does each change of a text
pub text-names : (text : List ℕ) (cs : List TimedChange) → changes_in text ≡ Ok cs → AllByRecursion NamesVid (map (λ c. c.change) cs)
text-names text cs is = all-changes NamesVid cs (text-timed NamesVid kinds-if text cs is)
