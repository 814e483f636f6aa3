-- Whether two events race on a word, where both are judged.
-- Source: docs/MODEL.md, "Races" and "What waits for what".
use Rattle.gr_explain.specs.Types.{EventId, Word, Judgement}
use Rattle.gr_model.specs.Prelude.{IsRace, Streams, IsGrounded}
use Rattle.gr_explain.specs.declared.judging.Judgement.TheVariants.{Held, Race, NoRace}

-- neither is held
abbrev pub AreJudged : Streams → EventId → EventId → Type 0
AreJudged s e f = IsGrounded s e × IsGrounded s f

-- one is held; or both are judged, and are a race on the word, or none
abbrev pub IsJudgement : Streams → Word → EventId → EventId → Judgement → Type 0
IsJudgement s w e f Held = ¬ AreJudged s e f
IsJudgement s w e f Race = AreJudged s e f × IsRace s w e f
IsJudgement s w e f NoRace = AreJudged s e f × ¬ IsRace s w e f
