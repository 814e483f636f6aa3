-- The cause of a race: the first rule without which its two accesses would be no race, or else what is missing between them.
-- Source: docs/OUTPUT.md, "explain --long". Causes are this project's own.
use Rattle.std.specs.Prelude.{◌≡◌, ◌≢◌, Bool, true, false, List, []}
use Rattle.std.specs.List.{AllZip}
use Rattle.gr_races.specs.Types.{EventId, Word, Race, Cause, Relaxation, BothFlags, DeviceScope}
use Rattle.gr_model.specs.Prelude.{IsRacePair, IsRace, Streams}
use Rattle.gr_explain.specs.Judgements.{AreJudged}
use Rattle.gr_races.specs.declared.cause.Cause.TheVariants.{Flags, Scope, Divergence, NoBarrier, NoHandOver}
use Rattle.gr_races.specs.Parting.{AreParted}
use Rattle.gr_races.specs.Relaxing.{relaxed}

-- if a rule is relaxed, both events are judged and are no race
pub record IsMended (s : Streams) (r : Relaxation) (w : Word) (e f : EventId) : Type 0 where
  pub judged : AreJudged (relaxed r s) e f
  pub no_race : ¬ IsRace (relaxed r s) w e f

-- no rule that is relaxed makes them no race
abbrev pub IsMendedByNone : Streams → Word → EventId → EventId → Type 0
IsMendedByNone s w e f = ¬ IsMended s BothFlags w e f × ¬ IsMended s DeviceScope w e f

-- the cause of a race
abbrev pub IsCause : Streams → Word → EventId → EventId → Cause → Type 0
IsCause s w e f Flags = IsMended s BothFlags w e f
IsCause s w e f Scope = ¬ IsMended s BothFlags w e f × IsMended s DeviceScope w e f
IsCause s w e f Divergence = IsMendedByNone s w e f × (e.at.group ≡ f.at.group) × AreParted s e f
IsCause s w e f NoBarrier = IsMendedByNone s w e f × (e.at.group ≡ f.at.group) × ¬ AreParted s e f
IsCause s w e f NoHandOver = IsMendedByNone s w e f × (e.at.group ≢ f.at.group)

-- the events of a race are a racing pair of its word
abbrev pub IsPairOf : Streams → Race → Type 0
IsPairOf s r = IsRacePair s r.word (r.first, r.second)

abbrev pub IsCauseOf : Streams → Race → Cause → Type 0
IsCauseOf s r c = IsCause s r.word r.first r.second c

-- one cause for each race, in their order
abbrev pub AreCauses : Streams → List Race → List Cause → Type 0
AreCauses s races causes = AllZip (IsCauseOf s) races causes

-- if causes are asked for, the cause of each race; else none
abbrev pub AreTold : Streams → Bool → List Race → List Cause → Type 0
AreTold s false races told = told ≡ []
AreTold s true races told = AreCauses s races told
