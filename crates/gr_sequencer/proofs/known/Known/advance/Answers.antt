use Rattle.gr_model.proofs.Common.{Err, ap, arith, sym, ◌∙◌, ⊎_elim}
use Rattle.gr_sequencer.proofs.EventSteps.{has_clock, learns_nothing_true, sources_true, sources_unspent, unspent}
use Rattle.gr_sequencer.proofs.Teaching.{of_one_word}
use Rattle.gr_sequencer.proofs.known.Known.advance.Goals as goal
use Rattle.gr_sequencer.proofs.known.Known.advance.Goals.{in-None, in-Some, in-Ok, in-Err+in-Memory}

pub sources_of-requires : goal.sources_of-requires
sources_of-requires g c =
    let next = rw (← c.self.view_is) at c.requires.next in
    (omega arith, (c.requires.there, (next.follows.snapshots, next.ready)))

pub access-answer-requires : goal.access-answer-requires
access-answer-requires g c = has_clock _ _ _ _ (rw (← c.self.view_is) at c.requires.next)

pub acquire-answer-requires-clause-item : goal.acquire-answer-requires-clause-item
acquire-answer-requires-clause-item g c = has_clock _ _ _ _ (rw (← c.self.view_is) at c.requires.next)

pub acquire-answer-requires-clause-word : goal.acquire-answer-requires-clause-word
acquire-answer-requires-clause-word g c = rw c.as_slice.ensures (of_one_word c.args.order.now.taken c.args.event c.in-Some.sources c.in-Some.ensures.words)

pub unreachable-requires : goal.unreachable-requires
unreachable-requires g c =
    let next = rw (← c.self.view_is) at c.requires.next in
    let full = c.in-Err.is ∙ ap Err c.in-Spent.is in
    elim c.match-sources_of.branch [
      | in-None w ↦ unspent _ _ _ _ next (w.access-answer.ensures.spent.0 (sym w.answer-is ∙ full))
      | in-Some w ↦
          ⊎_elim
          (unspent _ _ _ _ next)
          (λ spent. sources_unspent _ _ _ _ next w.in-Some.sources w.in-Some.ensures (rw w.as_slice.ensures at spent))
          (w.acquire-answer.ensures.spent.0 (sym w.answer-is ∙ full))
    ]

pub returns-clause-clocks : goal.returns-clause-clocks
returns-clause-clocks g c =
    let next = rw (← c.self.view_is) at c.requires.next in
    elim c.match-answer.branch [
      | in-Ok v ↦
          rw v.result-is (elim c.match-sources_of.branch [
            | in-None w ↦
                let ticks = rw (sym w.answer-is ∙ v.in-Ok.is) at w.access-answer.ensures.ok in
                rw w.self-inside-is (learns_nothing_true _ _ _ _ next w.access-answer.new.self w.in-None.ensures ticks)
            | in-Some w ↦
                let acquires = rw (sym w.answer-is ∙ v.in-Ok.is, w.as_slice.ensures) at w.acquire-answer.ensures.ok in
                rw w.self-inside-is (sources_true _ _ _ _ next w.in-Some.sources w.in-Some.ensures w.acquire-answer.new.self acquires)
          ])
      | in-Err+in-Memory v ↦ rw v.result-is tt
    ]
