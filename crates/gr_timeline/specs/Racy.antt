-- Whether a word of a launch is racy.
use Rattle.gr_model.specs.declared.event.Word.{Word}
use Rattle.gr_model.specs.Prelude.{IsRacy, Streams, IsGrounded}

-- the word is racy in a launch
abbrev pub IsRacyIn : Word → Streams → Type 0
IsRacyIn w s = IsRacy s (IsGrounded s) w
