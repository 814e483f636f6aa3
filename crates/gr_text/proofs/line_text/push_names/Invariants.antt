use Rattle.gr_model.proofs.Common.{◌≡◌, ◌++◌, take, string_bytes}
use Rattle.gr_text.specs.Prelude.{later_text, names_words}
use Rattle.gr_text.proofs.line_text.push_names.Given as goal

abbrev pub invariant-loop-name : goal.invariant-loop-name
invariant-loop-name g l = string_bytes l.text ≡ string_bytes l.initial.text ++ later_text (names_words (take l.name-index l.names))
