-- The run of the probe wanted: 14 and 15, or the probe wanted.
use Rattle.std.proofs.Common.{arith, ◌∙◌}
use Rattle.answers.proofs.Results.{exit}
use Rattle.packet.specs.Runs.{end_of}
use Rattle.judging.proofs.Searching.{probe-given, probe_among, probe-refused}
use Rattle.probing.specs.Calls.{probe_end}
use Rattle.probing.proofs.Results.{probed}
use Rattle.probing.proofs.probe_over.Goals as goal

pub probe_run-requires-clause-le_m : goal.probe_run-requires-clause-le_m
probe_run-requires-clause-le_m c = (probe_among _ _ _ c.probe_wanted.ensures _ c.in_ok-m.was).0

pub probe_run-requires-clause-m_le_max_links : goal.probe_run-requires-clause-m_le_max_links
probe_run-requires-clause-m_le_max_links c = omega (arith, (probe_among _ _ _ c.probe_wanted.ensures _ c.in_ok-m.was).1, c.requires.links_le_max_links)

pub returns : goal.returns
returns c =
    rw c.requires.links_value at (probe-given _ _ _ c.probe_wanted.ensures (probe_end c.args.ring.now.plant.now c.args.ring.now.switch c.args.states.now) _ _ c.in_ok-m.was
    (probed c.args.ring.now.plant.now _ _ c.requires.own_value c.requires.table_value _ (end_of c.probe_run.result) _ _ c.requires.links_value c.probe_run.ensures))

pub returns-in_err-m : goal.returns-in_err-m
returns-in_err-m c =
    exit _ _ _ c.from_residual.ensures.1
    ∙ rw c.requires.links_value at (probe-refused _ _ _ c.probe_wanted.ensures (probe_end c.args.ring.now.plant.now c.args.ring.now.switch c.args.states.now) _ c.in_err-m.was)
