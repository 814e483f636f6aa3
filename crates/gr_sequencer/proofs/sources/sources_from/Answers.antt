use Rattle.gr_model.proofs.Common.{◌≡◌, ap, arith, length, take, take_all}
use Rattle.gr_model.specs.declared.event.Name.{Name}
use Rattle.gr_sequencer.proofs.Teaching.{next_names, sources_all, sources_more, sources_same}
use Rattle.gr_sequencer.proofs.sources.sources_from.Goals as goal
use Rattle.gr_sequencer.proofs.sources.sources_from.Goals.{in-Some, in_default}

pub loop-name-preserved : goal.loop-name-preserved
loop-name-preserved g c =
    let blank : Name = record { at = record { group = 0; item = 0 }; release = 0 } in
    let more = next_names c.args.taken.now.names c.as_slice-names.result.now c.loop-name.name-index blank c.as_slice-names.ensures.names c.loop-name-test.true in
    elim c.match-source.branch [
      | in-Some w ↦ rw (more, w.learned-is, w.with.ensures) (sources_more _ _ _ _ _ c.loop-name.invariant w.in-Some.one.now w.in-Some.ensures)
      | in_default w ↦ rw (more, w.learned-is) (sources_same _ _ _ _ _ c.loop-name.invariant w.in_default.ensures)
    ]

pub returns : goal.returns
returns g c =
    let all : take c.loop-name.name-index c.args.taken.now.names ≡ c.args.taken.now.names = take_all _ _ (omega (arith, ap length c.as_slice-names.ensures.names, c.loop-name-test.false)) in
    sources_all _ _ c.args.taken.now c.requires.there _ (rw all at c.loop-name.invariant)
