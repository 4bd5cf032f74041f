-- A text of changes names remote endpoints by addresses alone, at moments that a record can tell.
use Rattle.std.proofs.Common.{◌≡◌, ℕ, List, Option, Some, None, Ok, IfOk, codes}
use Rattle.std.specs.Prelude.{IfSome}
use Rattle.std.specs.List.{AllByRecursion}
use Rattle.toml.specs.Data.{Data, get_member, as_str}
use Rattle.wire.specs.declared.ip_udp.addr.Addr.{Addr}
use Rattle.wire.specs.declared.ip_udp.addr.Tunnel.{Tunnel}
use Rattle.wire.specs.Addr.{IsAddr}
use Rattle.config_text.specs.Fault.{◌>>=◌}
use Rattle.config_text.specs.Address.{addr_of}
use Rattle.config_text.specs.Column.{any_addr, one_of, range, truth}
use Rattle.config_text.specs.Table.{Place, absent, optional, path, required}
use Rattle.config_text.proofs.Addresses.{addr_is, then_some}
use Rattle.overlay.specs.declared.settings.change.Target.TheVariants as target
use Rattle.overlay.specs.declared.settings.change.TimedChange.{TimedChange}
use Rattle.overlay_config.specs.Change.{addr_at, any_number, change_in, changes_in, egress_words, kind_words, mac_at, new_segment_of, port_at, remote_of, target_in, target_of, tunnel_at, vid_at}
use Rattle.segment_parts.proofs.ChangeRows.{IsTimed, Reads, optional-if, then-if, then-so, value-if}
use Rattle.segment_parts.proofs.ChangeRows as rows
use Rattle.part_files.proofs.Remotes.{HasAddr, IsTarget}

-- ---- columns

addr-is : (d : Data) (x : Addr) → any_addr d ≡ Some x → IsAddr x
addr-is d x e = let a = then_some addr_of (as_str d) x e in addr_is a.0 x a.2

addr-if : (at : Place) → IfOk (addr_at at) IsAddr
addr-if at = value-if IsAddr any_addr addr-is (path at (codes "addr")) (get_member (codes "addr") at.members)

-- ---- one change

target-in : (at : Place) (port : Option ℕ) (remote : Option Addr) → IfSome remote IsAddr → IfOk (target_in at port remote) IsTarget
target-in at (Some port) None own = then-so IsTarget (absent at (codes "tunnel")) (λ none. Ok (target.Local port)) (λ none. tt)
target-in at None (Some remote) own = then-so {A = Option Tunnel} IsTarget (tunnel_at at) (λ tunnel. Ok (target.Remote remote tunnel)) (λ tunnel. own)
target-in at None None own = tt
target-in at (Some port) (Some remote) own = tt

target-if : (at : Place) → IfOk (target_of at) IsTarget
unfolding target_of
target-if at =
    then-so IsTarget (optional at (codes "port") (range 0 255)) _ (λ port.
    then-if (λ (o : Option Addr). IfSome o IsAddr) IsTarget (optional at (codes "remote") any_addr) (target_in at port)
    (optional-if IsAddr any_addr addr-is (path at (codes "remote")) (get_member (codes "remote") at.members))
    (λ remote own. target-in at port remote own))

abbrev IsRemote : ℕ × Addr × Option Tunnel → Type 0
IsRemote r = IsAddr r.1

remote-if : (at : Place) → IfOk (remote_of at) IsRemote
unfolding remote_of
remote-if at =
    then-so IsRemote (vid_at at) _ (λ vid.
    then-if IsAddr IsRemote (addr_at at) (λ addr. tunnel_at at >>= λ tunnel. Ok (vid, addr, tunnel)) (addr-if at) (λ addr own.
    then-so {A = Option Tunnel} IsRemote (tunnel_at at) (λ tunnel. Ok (vid, addr, tunnel)) (λ tunnel. own)))

-- ---- a change of each kind

kinds-if : AllByRecursion (λ w. Reads HasAddr change_in w.1) kind_words
unfolding change_in
kinds-if = (
  λ at. then-if IsRemote HasAddr (remote_of at) _ (remote-if at) (λ r own. own),
  (
    λ at. then-so HasAddr (remote_of at) _ (λ r. tt),
    (
      λ at. then-so HasAddr (vid_at at) _ (λ vid. then-so HasAddr (mac_at at) _ (λ mac. then-if IsTarget HasAddr (target_of at) _ (target-if at) (λ goal own. own))),
      (
        λ at. then-so HasAddr (vid_at at) _ (λ vid. then-so HasAddr (mac_at at) _ (λ mac. tt)),
        (
          λ at. then-so HasAddr (vid_at at) _ (λ vid. then-so HasAddr (required at (codes "seconds") any_number) _ (λ seconds. tt)),
          (
            λ at. then-so HasAddr (vid_at at) _ (λ vid. then-so HasAddr (required at (codes "on") truth) _ (λ on. tt)),
            (
              λ at. then-so HasAddr (vid_at at) _ (λ vid. then-so HasAddr (port_at at) _ (λ port. then-so HasAddr (required at (codes "egress") (one_of egress_words)) _ (λ egress. tt))),
              (
                λ at. then-so HasAddr (port_at at) _ (λ port. tt),
                (
                  λ at. then-so HasAddr (port_at at) _ (λ port. tt),
                  (
                    λ at. then-so HasAddr (vid_at at) _ (λ vid. tt),
                    (
                      λ at. then-so HasAddr (new_segment_of at) _ (λ new. tt),
                      (
                        λ at. then-so HasAddr (vid_at at) _ (λ vid. tt),
                        (λ at. then-so HasAddr (vid_at at) _ (λ vid. then-so HasAddr (required at (codes "limit") any_number) _ (λ limit. tt)), tt),
                      ),
                    ),
                  ),
                ),
              ),
            ),
          ),
        ),
      ),
    ),
  ),
)

-- so does each change of a text
pub text-timed : (text : List ℕ) (cs : List TimedChange) → changes_in text ≡ Ok cs → AllByRecursion (IsTimed HasAddr) cs
text-timed = rows.text-timed HasAddr kinds-if
