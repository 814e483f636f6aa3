use Rattle.gr_model.proofs.Common.{◌≡◌, ◌-◌, ◌++◌, length, flat_map}
use Rattle.gr_text.specs.Prelude.{lines_before, text_before_fault, whole_line}
use Rattle.gr_text.proofs.partial.text_before_fault.Given as goal

abbrev pub invariant-loop : goal.invariant-loop
invariant-loop g l = l.text.items ++ flat_map whole_line (lines_before (length l.bytes - l.counter) l.rest) ≡ text_before_fault l.bytes
