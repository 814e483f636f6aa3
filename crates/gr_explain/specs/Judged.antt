-- Judgements on pairs of accesses.
-- Source: docs/MODEL.md, "Races", "Hits" and "What waits for what".
use Rattle.std.specs.Prelude.{◌≡◌, List, Some}
use Rattle.std.specs.List.{AllZip}
use Rattle.gr_explain.specs.Types.{EventId, Word, Race, Judgement}
use Rattle.gr_model.specs.Prelude.{ClashesAt, Streams, word_at}
use Rattle.gr_shadow.specs.Clashes.{ClockedAccess, clashes}
use Rattle.gr_explain.specs.Judgements.{IsJudgement}

-- an event accesses some word
abbrev pub IsAccessing : Streams → EventId → Type 0
IsAccessing s e = (w : Word) × (word_at s e ≡ Some w)

-- both events of a pair are accesses, of any words
pub record AreAccesses (s : Streams) (r : Race) : Type 0 where
  pub first : IsAccessing s r.first
  pub second : IsAccessing s r.second

-- two accesses are of the word, and the second one clashes with the first
abbrev pub ClashOn : Word → ClockedAccess → ClockedAccess → Type 0
ClashOn w x y = ClashesAt (λ z. z.word) clashes w x y

-- whether the two events of a pair race on its word
abbrev pub IsJudged : Streams → Race → Judgement → Type 0
IsJudged s r j = IsJudgement s r.word r.first r.second j

-- one judgement for each pair, in their order
abbrev pub AreJudgements : Streams → List Race → List Judgement → Type 0
AreJudgements s races judgements = AllZip (IsJudged s) races judgements
