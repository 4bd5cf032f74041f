use Rattle.stream_run.proofs.hand_on.hand_on_all.Goals as goal

pub returns-clause-handed : goal.returns-clause-handed
returns-clause-handed g c start o at = c.hand_on_lines.ensures.handed start o (c.in_default-hand_on_underlay.ensures.handed start o (c.in_default.ensures.handed start o at))

pub returns-in-Err-hand_on_underlay-clause-handed : goal.returns-in-Err-hand_on_underlay-clause-handed
returns-in-Err-hand_on_underlay-clause-handed g c start o at = c.in-Err-hand_on_underlay.ensures.handed start o (c.in_default.ensures.handed start o at)
