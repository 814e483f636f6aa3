use Rattle.gr_model.proofs.Common.{arith, refl}
use Rattle.gr_model.specs.Prelude.{Sees, memory_of}
use Rattle.gr_steps.proofs.EventRecords.{group_of_event, item_of_event}
use Rattle.gr_closure.specs.Accesses.{CountsJust}
use Rattle.gr_closure.proofs.EventKnowledge.{handled_knows}
use Rattle.gr_taking.proofs.taking.access_of.Goals as goal

pub clock_of-requires : goal.clock_of-requires
clock_of-requires g c =
    let s = c.args.sequencer.now.taken in
    (group_of_event s c.requires.sequence.prefixes c.args.event c.args.taken.now c.requires.there, item_of_event s c.requires.sequence.prefixes c.args.event c.args.taken.now c.requires.there)

pub returns : goal.returns
returns g c =
    let q = c.requires.last.0 in
    let last = c.requires.last.2 in
    let s = c.args.sequencer.now.taken in
    let e = c.args.event in
    let m = memory_of c.in-Some-Some.word in
    let knows = handled_knows s m q.handled c.args.sequencer.now.handled e (rw last.taken c.requires.last.1) (rw last.taken last.handles) in
    let counts : CountsJust c.clock_of.result.now.counts (Sees s m e) = λ d.
    let counted = rw c.memory_of.ensures at (c.clock_of.ensures d) in
    (λ below. (knows d).0 (counted.0 below), λ seen. counted.1 ((knows d).1 seen)) in
    record { word = grind (arith, c.requires.there); item = refl; index = refl; event = c.args.taken.now; at_event = c.requires.there; class = grind (arith); counts = counts }
