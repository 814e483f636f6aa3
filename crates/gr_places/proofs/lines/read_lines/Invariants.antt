use Rattle.gr_model.proofs.Common.{◌≡◌, ◌+◌, ◌≤◌, length, map}
use Rattle.gr_text.specs.Lines.{lines_of}
use Rattle.gr_places.specs.SideLines.{said_from}
use Rattle.gr_places.proofs.Reading.{joined}
use Rattle.gr_places.proofs.lines.read_lines.Given as goal

abbrev pub invariant-loop-rest : goal.invariant-loop-rest
invariant-loop-rest g l = record {
  so_far : joined (map g.L.SideLine.said l.lines.items) (said_from g.L.SideLine.said_in (l.number + 1) (lines_of l.rest)) ≡ said_from g.L.SideLine.said_in 1 (lines_of l.text);
  few : l.number + length l.rest ≤ length l.text;
}

abbrev pub decreases-loop-rest : goal.decreases-loop-rest
decreases-loop-rest g l = length l.rest
