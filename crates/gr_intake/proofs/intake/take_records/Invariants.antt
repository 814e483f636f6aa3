use Rattle.gr_model.proofs.Common.{◌≡◌, ◌++◌, ℕ, List, length, Some}
use Rattle.gr_record.specs.Prelude.{record_length}
use Rattle.gr_intake.specs.Intakes.{IsKeptOpen, IsRead, come, come_of, read_behind}
use Rattle.gr_intake.proofs.intake.take_records.Given as goal

abbrev pub invariant-loop-rest : goal.invariant-loop-rest
invariant-loop-rest g l = record {
  read : IsRead l.sequencer l.shadows l.streams (Some l.current.backlog);
  kept : IsKeptOpen l.sequencer.taken l.current;
  goes : (more : List ℕ) → read_behind (come l.fn.sequencer.taken l.streams) (Some (come_of l.fn.sequencer.taken l.fn.current.backlog)) (l.bytes ++ more) ≡ read_behind (come l.sequencer.taken l.streams) (Some (come_of l.sequencer.taken l.current.backlog)) (l.rest ++ more);
  left : (front : List ℕ) × (l.bytes ≡ front ++ l.rest);
  size : l.size ≡ record_length l.current.backlog.header.version;
}

abbrev pub decreases-loop-rest : goal.decreases-loop-rest
decreases-loop-rest g l = length l.rest
