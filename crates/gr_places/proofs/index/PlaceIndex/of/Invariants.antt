use Rattle.gr_model.proofs.Common.{drop, length, map, ◌≤◌}
use Rattle.gr_places.specs.SideLines.{place_line}
use Rattle.gr_places.proofs.IndexLemmas.{AreNumbersFrom, AreTexts}
use Rattle.gr_places.proofs.index.PlaceIndex.of.Given as goal

abbrev pub invariant-loop-left : goal.invariant-loop-left
invariant-loop-left g l = record {
  within : l.left ≤ length l.lines;
  texts : AreTexts l.texts.entries (map place_line (drop l.left l.lines));
  numbers : AreNumbersFrom l.left l.numbers.entries (map place_line (drop l.left l.lines));
}

abbrev pub decreases-loop-left : goal.decreases-loop-left
decreases-loop-left g l = l.left
