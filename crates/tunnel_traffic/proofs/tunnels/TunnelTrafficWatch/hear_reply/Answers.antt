use Rattle.tunnel_traffic.proofs.tunnels.TunnelTrafficWatch.hear_reply.Goals as goal

pub returns : goal.returns
returns c before d expects = expects
