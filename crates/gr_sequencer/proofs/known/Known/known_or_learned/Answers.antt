use Rattle.gr_model.proofs.Common.{◌≡◌, All, arith}
use Rattle.gr_model.specs.Prelude.{memory_of}
use Rattle.gr_clocks.specs.ItemClocks.{ReleaseClock}
use Rattle.gr_sequencer.proofs.EventSteps.{has_clock, known_or_learned_alone, known_or_learned_sources}
use Rattle.gr_sequencer.proofs.Teaching.{clocks_referred}
use Rattle.gr_sequencer.proofs.known.Known.known_or_learned.Goals as goal

pub clock_of-clock-requires : goal.clock_of-clock-requires
clock_of-clock-requires g c = has_clock _ _ _ _ (rw (← c.self.view_is) at c.requires.next)

pub sources_of-requires : goal.sources_of-requires
sources_of-requires g c =
    let next = rw (← c.self.view_is) at c.requires.next in
    (omega arith, (c.requires.there, (next.follows.snapshots, next.ready)))

pub returns-in-Ok : goal.returns-in-Ok
returns-in-Ok g c =
    let next = rw (← c.self.view_is) at c.requires.next in
    known_or_learned_alone _ _ _ _ next (memory_of c.args.word) c.in-Ok.copied.counts c.in-None.ensures (cc (c.in-Ok.ensures.copy, c.clock_of-clock.ensures.counts, c.memory_of.ensures))

pub returns-in-Ok-learned : goal.returns-in-Ok-learned
returns-in-Ok-learned g c =
    let next = rw (← c.self.view_is) at c.requires.next in
    let here : All (λ (l : ReleaseClock). memory_of c.args.word ≡ memory_of l.word) c.in-Some.sources = λ k d below. grind (arith, c.requires.word, c.in-Some.ensures.words k d) in
    let join = rw (clocks_referred (λ r. r.now) c.as_slice.result.now c.in-Some.sources c.as_slice.ensures) at c.in-Ok-learned.ensures.join in
    known_or_learned_sources _ _ _ _ next (memory_of c.args.word) c.clock_of-clock.result.now.counts c.in-Ok-learned.learned.counts c.in-Some.sources c.in-Some.ensures (cc (c.clock_of-clock.ensures.counts, c.memory_of.ensures)) here join
